-- A begin-add and a begin-take do what a ring's may.
use Rattle.std.proofs.Common.{◌≡◌, ℕ, ◌*◌, ◌<◌, true, false, not, Decides, get_or, Some, None, sym, refl, ap, ◌∙◌, subst, inr, ⊎_elim, mod-lt, mod-eq_of_lt, arith}
use Rattle.std.proofs.lemmas.Int.{ints}
use Rattle.std.proofs.lemmas.Bool.{eqb-true, eq-eqb, and_parts, and_cases, both_ways, not-true, not-false, cases_lt}
use Rattle.std.proofs.lemmas.Option.{same_Some}
use Rattle.ring.specs.Model.{Doing, idle, adding, seeking, Model, Outside}
use Rattle.ring.specs.Meaning.{AddBegun, TakeBegun}
use Rattle.ring.specs.Scans.{any_below}
use Rattle.ring.proofs.Scans.{any_found, any_from, one_if}
use Rattle.ring.proofs.Calls.{add_begun_means, take_begun_means}
use Rattle.scq_table.specs.declared.Stage.{Stage}
use Rattle.scq_table.specs.declared.Stage.TheVariants.{Idle, A1, A2, A3, A4, T1}
use Rattle.scq_table.specs.Table.{slot, index, Memory, word, State, stage, is_idle, is_adding, is_there, is_outside, adds, takes}
use Rattle.scq_table.specs.Stands.{pair, writes, brings, swaps, holds, is_some, Fits, Does, Stands}
use Rattle.scq_table.proofs.Pairs.{pair_is, home}
use Rattle.scq_table.proofs.Stations.{adding_writes, idle_only}
use Rattle.scq_table.proofs.Window.{some_place, home_pair}
use Rattle.scq_table.proofs.Marks.{marks_keep}
use Rattle.scq_table.proofs.Built.{stage_mine, stage_other, KeptWith, at', begins}
use Rattle.scq_table.proofs.Rows.{charged_on}

-- tests

idle_test : (st : Stage) → is_idle st ≡ true → st ≡ Idle
idle_test Idle e = refl
idle_test st e = cc

writes_test : (i : ℕ) (st : Stage) → writes st ≡ Some i → is_adding i st ≡ true
writes_test i (A1 j) e = eq-eqb j i (cc)
writes_test i (A2 j t) e = eq-eqb j i (cc)
writes_test i (A3 j t w) e = eq-eqb j i (cc)
writes_test i (A4 j t w) e = eq-eqb j i (cc)
writes_test i st e = cc

adding_test : (i : ℕ) (m : Memory) (st : Stage) (d : Doing) → is_adding i st ≡ true → Does m st d → (f : ℕ) × (d ≡ adding i f)
adding_test i m (A1 j) d e p = let q = eqb-true j i e in let h = p.2 in (p.0, cc)
adding_test i m (A2 j t) d e p = let q = eqb-true j i e in let h = p.2 in (p.0, cc)
adding_test i m (A3 j t w) d e p = let q = eqb-true j i e in let h = p.2 in (p.0, cc)
adding_test i m (A4 j t w) d e p = let q = eqb-true j i e in let h = p.2 in (p.0, cc)
adding_test i m st d e p = absurd (cc)

module _ (q : State) (m : Model) (h : Stands q m) where
  abbrev mem : Memory
  mem = q.memory

  -- no station is to write index i, and no pair has it
  abbrev Fresh : ℕ → Type 0
  Fresh i = ((r : ℕ) → writes (stage q r) ≡ Some i → ⊥) × ((t : ℕ) → pair mem t ≡ Some i → ⊥)

  -- what it is for an index to be outside, by the words and the stations

  module _ (i : ℕ) (out : is_outside q i ≡ true) where
    unpaired : (t : ℕ) → pair mem t ≡ Some i → ⊥
    unpaired t p = both_ways _ (not-true _ (and_parts _ _ out).0)
        (any_from (2 * mem.places) (is_there mem i) (slot mem.places t) (mod-lt t (omega (arith, some_place mem h.sound.shared)))
        (eq-eqb (index mem.places (word mem t)) i (pair_is mem t i p).2))

    nobody : (r : ℕ) → writes (stage q r) ≡ Some i → ⊥
    nobody r w = ⊎_elim
        (λ l. both_ways _ (not-true _ (and_parts (not (any_below (2 * mem.places) (is_there mem i))) _ out).1)
        (any_from q.stations (λ s. is_adding i (stage q s)) r l (writes_test i (stage q r) w)))
        (λ g. cc (h.sound.beyond r g))
        (cases_lt r q.stations)

    outside : Outside m i
    outside = (
      (λ t p. unpaired t (sym (h.pairs t) ∙ p)),
      (λ s f p. nobody s (adding_writes mem (stage q s) (m.doing s) i f (h.does s) p)),
    )

  not_outside : (i : ℕ) → i < mem.places → is_outside q i ≡ false → Outside m i → ⊥
  not_outside i small out o = ⊎_elim
      (λ e. in_pair (any_found (2 * mem.places) (is_there mem i) (not-false _ e)))
      (λ e. let f = any_found q.stations (λ s. is_adding i (stage q s)) (not-false _ e) in
      let g = adding_test i mem (stage q f.0) (m.doing f.0) f.2 (h.does f.0) in o.1 f.0 g.0 g.1)
      (and_cases (not (any_below (2 * mem.places) (is_there mem i))) _ out)
    where
      in_pair : (j : ℕ) × (j < 2 * mem.places) × (is_there mem i j ≡ true) → ⊥
      in_pair f =
          let j = f.0 in
          let one = some_place mem h.sound.shared in
          let is : index mem.places (word mem j) ≡ i = ap (λ x. index mem.places (get_or mem.words x 0)) (mod-eq_of_lt f.1) ∙ eqb-true _ _ f.2 in
          let u = (home mem j one).0 in
          o.0 u (h.pairs u ∙ (home_pair mem one j (λ b. omega (arith, is)) ∙ ap Some is))

  module _ (s : ℕ) where
    idles : Decides (is_idle (stage q s)) (m.doing s ≡ idle)
    idles = (
      (λ e. subst (λ x. Does mem x (m.doing s)) (idle_test (stage q s) e) (h.does s)),
      (λ d. ap is_idle (idle_only mem (stage q s) (m.doing s) (h.does s) d)),
    )

    -- a first step, at which the station has no ticket
    keeps : (l : s < q.stations) (st : Stage) → stage q s ≡ Idle → Fits mem st → brings st ≡ None → swaps st ≡ None → holds st ≡ None →
        ((i : ℕ) → writes st ≡ Some i → Fresh i) → KeptWith q m h s l mem st h.charge
    keeps l st at fits no_item no_swap no_ticket new =
        marks_keep mem q.stations (stage q) h.charge h.sound s l mem.head mem.tail mem.threshold (at' q m h s l mem st) Idle st at h.charge
        (stage_mine q m h s l mem st) (stage_other q m h s l mem st) (record {
          head_on = omega arith;
          tail_on = omega arith;
          threshold_high = h.sound.shared.threshold_high;
          fits_mine = fits;
          writes_from = λ i w. inr (new i w);
          holds_from = λ t e. absurd (cc);
          swaps_late = λ t u a b e. absurd (cc);
          live_on = λ t e. absurd (cc);
          live_new = λ t a b. absurd (omega arith);
          behind_on = λ t a e. absurd (cc);
          charged = charged_on q m h s l Idle st at mem.head mem.tail mem.threshold no_item (omega arith) (omega arith);
          closes_on = λ t i p a e. absurd (cc);
          credit_on = omega (arith, ints, ap (λ x. one_if (is_some x)) no_ticket);
        })

pub means_add : (q : State) (s i : ℕ) (m : Model) → Stands q m → AddBegun Stands m s i (adds q s i)
means_add q s i m h = add_begun_means Stands Idle q m s h.stations is_idle (idles q m h s) q.memory.places i (is_outside q i) (A1 i) h.places
    (outside q m h i) (not_outside q m h i)
    (λ c d l o. let at = idle_test (stage q s) d in
    begins q m h s c (A1 i) (adding i m.add_mark) at
    (keeps q m h s c (A1 i) at l refl refl refl (λ j w. subst (Fresh q m h) (same_Some i j w) (nobody q m h i o, unpaired q m h i o)))
    (m.add_mark, omega (arith, h.adds_at), refl))

pub means_take : (q : State) (s : ℕ) (m : Model) → Stands q m → TakeBegun Stands m s (takes q s)
means_take q s m h = take_begun_means Stands Idle q m s h.stations is_idle (idles q m h s) T1
    (λ c d. let at = idle_test (stage q s) d in
    begins q m h s c T1 (seeking m.take_mark None false) at
    (keeps q m h s c T1 at tt refl refl refl (λ i w. absurd (cc)))
    (m.take_mark, omega (arith, h.takes_at), refl))
