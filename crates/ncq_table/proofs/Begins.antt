-- A begin-add and a begin-take do what a ring's may.
use Rattle.std.proofs.Common.{◌≡◌, ℕ, ◌<◌, ◌≤◌, true, false, not, Decides, get_or, Some, None, sym, refl, ap, ◌∙◌, subst, ⊎_elim, mod-lt, arith}
use native.Mathlib.Nat.{div-add-mod}
use Rattle.std.proofs.lemmas.Bool.{eqb-true, eq-eqb, leb-true, le-leb, and_parts, and_from, and_cases, both_ways, not-true, not-false, cases_lt}
use Rattle.ring.specs.Model.{Doing, idle, adding, seeking, Model, Outside}
use Rattle.ring.specs.Meaning.{AddBegun, TakeBegun}
use Rattle.ring.proofs.Tickets.{join-cycle, join-index}
use Rattle.ncq_table.specs.declared.Stage.{Stage}
use Rattle.ncq_table.specs.declared.Stage.TheVariants.{Idle, N1, N2, N3, N4, N6}
use Rattle.ncq_table.specs.Table.{cycle, slot, index, join, Memory, word, State, stage, is_idle, is_adding, is_there, is_outside, adds, takes}
use Rattle.ncq_table.specs.Stands.{Absent, writes, Does, Stands}
use Rattle.ncq_table.proofs.Pairs.{pair_there, pair_is}
use Rattle.ncq_table.proofs.Window.{filled_low, pair_cycled}
use Rattle.ring.proofs.Calls.{add_begun_means, take_begun_means}
use Rattle.ring.specs.Scans.{any_below}
use Rattle.ring.proofs.Scans.{any_found, any_from}
use Rattle.ncq_table.proofs.Stations.{adding_writes, idle_only}
use Rattle.ncq_table.proofs.Built.{begins}

-- tests

idle_test : (st : Stage) → is_idle st ≡ true → st ≡ Idle
idle_test Idle e = refl
idle_test st e = cc

writes_test : (i : ℕ) (st : Stage) → writes st ≡ Some i → is_adding i st ≡ true
writes_test i (N1 j) e = eq-eqb j i (cc)
writes_test i (N2 j t) e = eq-eqb j i (cc)
writes_test i (N3 j t) e = eq-eqb j i (cc)
writes_test i (N4 j t w) e = eq-eqb j i (cc)
writes_test i st e = cc

adding_test : (i : ℕ) (m : Memory) (st : Stage) (d : Doing) → is_adding i st ≡ true → Does m st d → (f : ℕ) × (d ≡ adding i f)
adding_test i m (N1 j) d e p = let q = eqb-true j i e in let h = p.2 in (p.0, cc)
adding_test i m (N2 j t) d e p = let q = eqb-true j i e in let h = p.2 in (p.0, cc)
adding_test i m (N3 j t) d e p = let q = eqb-true j i e in let h = p.2 in (p.0, cc)
adding_test i m (N4 j t w) d e p = let q = eqb-true j i e in let h = p.2 in (p.0, cc)
adding_test i m st d e p = absurd (cc)

module _ (q : State) (m : Model) (h : Stands q m) where
  abbrev mem : Memory
  mem = q.memory

  -- what it is for an index to be outside, by the words and the stations

  module _ (i : ℕ) (out : is_outside q i ≡ true) where
    nowhere : (j : ℕ) → j < mem.places → is_there mem i j ≡ true → ⊥
    nowhere j l t = both_ways _ (not-true _ (and_parts _ _ out).0) (any_from mem.places (is_there mem i) j l t)

    nobody : (r : ℕ) → writes (stage q r) ≡ Some i → ⊥
    nobody r w = ⊎_elim
        (λ l. both_ways _ (not-true _ (and_parts (not (any_below mem.places (is_there mem i))) _ out).1)
        (any_from q.stations (λ s. is_adding i (stage q s)) r l (writes_test i (stage q r) w)))
        (λ g. cc (h.sound.beyond r g))
        (cases_lt r q.stations)

    absent : Absent mem h.end i
    absent u a b e = nowhere (slot mem.places u) (mod-lt u h.sound.shared.some_place)
        (and_from _ _ (eq-eqb (index mem.places (word mem u)) i e)
        (le-leb mem.head (join mem.places (cycle mem.places (word mem u)) (slot mem.places u)) (subst (λ x. mem.head ≤ x) (sym ticket) a)))
      where
        ticket : join mem.places (cycle mem.places (word mem u)) (slot mem.places u) ≡ u
        ticket = ap (λ c. join mem.places c (slot mem.places u)) (pair_cycled mem h.end h.sound.shared u a b) ∙ div-add-mod u mem.places

    outside : Outside m i
    outside = (
      (λ t p. let f = pair_is mem t i (sym (h.pairs t) ∙ p) in absent t f.0 (filled_low mem h.end h.sound.shared t f.1) f.2),
      (λ s f p. nobody s (adding_writes mem (stage q s) (m.doing s) i f (h.does s) p)),
    )

  not_outside : (i : ℕ) → is_outside q i ≡ false → Outside m i → ⊥
  not_outside i out o = ⊎_elim
      (λ e. in_pair (any_found mem.places (is_there mem i) (not-false _ e)))
      (λ e. let f = any_found q.stations (λ s. is_adding i (stage q s)) (not-false _ e) in
      let g = adding_test i mem (stage q f.0) (m.doing f.0) f.2 (h.does f.0) in o.1 f.0 g.0 g.1)
      (and_cases (not (any_below mem.places (is_there mem i))) _ out)
    where
      in_pair : (j : ℕ) × (j < mem.places) × (is_there mem i j ≡ true) → ⊥
      in_pair f =
          let j = f.0 in
          let w : ℕ = get_or mem.words j 0 in
          let t : ℕ = join mem.places (cycle mem.places w) j in
          let p = and_parts _ _ f.2 in
          let same : word mem t ≡ w = ap (λ x. get_or mem.words x 0) (join-index mem.places (cycle mem.places w) j f.1) in
          let cycled : cycle mem.places (word mem t) ≡ cycle mem.places t = ap (cycle mem.places) same ∙ sym (join-cycle mem.places (cycle mem.places w) j f.1) in
          o.0 t (h.pairs t ∙ (pair_there mem t (leb-true _ _ p.1) cycled ∙ ap Some (ap (index mem.places) same ∙ eqb-true _ _ p.0)))

  module _ (s : ℕ) where
    idles : Decides (is_idle (stage q s)) (m.doing s ≡ idle)
    idles = (
      (λ e. subst (λ x. Does mem x (m.doing s)) (idle_test (stage q s) e) (h.does s)),
      (λ d. ap is_idle (idle_only mem (stage q s) (m.doing s) (h.does s) d)),
    )

pub means_add : (q : State) (s i : ℕ) (m : Model) → Stands q m → AddBegun Stands m s i (adds q s i)
means_add q s i m h = add_begun_means Stands Idle q m s h.stations is_idle (idles q m h s) q.memory.places i (is_outside q i) (N1 i) h.places
    (outside q m h i) (λ l. not_outside q m h i)
    (λ c d l o. begins q m h s c (N1 i) (adding i m.add_mark) (idle_test (stage q s) d)
    (l, absent q m h i o) (m.add_mark, omega (arith, h.adds_at), refl) (λ j w r v. nobody q m h i o r (cc)))

pub means_take : (q : State) (s : ℕ) (m : Model) → Stands q m → TakeBegun Stands m s (takes q s)
means_take q s m h = take_begun_means Stands Idle q m s h.stations is_idle (idles q m h s) N6
    (λ c d. begins q m h s c N6 (seeking m.take_mark None false) (idle_test (stage q s) d) tt (m.take_mark, omega (arith, h.takes_at), refl)
    (λ j w. absurd (cc)))
