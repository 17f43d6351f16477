-- The rows of a take do what a ring may do.
use Rattle.std.proofs.Common.{◌≡◌, ℕ, ◌+◌, ◌<◌, ◌≤◌, Bool, true, false, eqb, ltb, leb, ◌⊎◌, ℤ, pos, ◌+ℤ◌, ◌-ℤ◌, ◌≤ℤ◌, Some, None, Option, sym, refl, ap, ◌∙◌, subst, inl, inr, ⊎_elim, arith}
use lib.Bits.{bit_or}
use lib.Signed.{lt_z, le_z}
use Rattle.std.proofs.lemmas.Int.{ints}
use Rattle.std.proofs.lemmas.Bool.Decides.{nat_tests}
use Rattle.std.proofs.lemmas.Bool.{cond_both, eqb-true, eqb-false, leb-true, leb-false, ltb-true, cases_eq}
use Rattle.std.proofs.lemmas.Option.{same_Some}
use Rattle.ring.specs.declared.Progress.{Progress}
use Rattle.ring.specs.declared.Progress.TheVariants.{Going, Taken}
use Rattle.ring.specs.Model.{Doing, idle, seeking, Model}
use Rattle.ring.specs.Meaning.{NothingUnder, Leaves, Ticket, AllHeld, SeekGoes, Goes, AddMark, TakeMark, AtLimit, TurnRefused, Turned}
use Rattle.ring.proofs.Entries.{put_same, put_other}
use Rattle.ring.proofs.Leaving.{left_outside}
use Rattle.ring.proofs.Calls.{turned_means}
use Rattle.ring.proofs.Scans.{one_if, count_some}
use Rattle.ring.proofs.Steps.{had}
use Rattle.scq_table.specs.declared.Stage.{Stage}
use Rattle.scq_table.specs.declared.Stage.TheVariants.{Idle, A1, A2, A3, A4, A5, A6, T1, T2, T3, T4, T5, T6, T7, T8, T9, T10, T11}
use Rattle.ring.specs.Tables.{moved, carried}
use Rattle.scq_table.specs.Table.{cycle, word_cycle, safe, index, bottom, join, top, Memory, word, with_tail, with_head, with_word, with_threshold, step, State, stage, turns}
use Rattle.scq_table.specs.Stands.{Current, Blank, pair, writes, brings, swaps, closes, holds, live, behind, is_some, Fits, Does, Shared, Dead, Charged, holders, Sound, Stands}
use Rattle.scq_table.proofs.Words.{join-cycle, join-safe, join-index, safe_low, index_low, bottom_low, or_cycle, or_safe, or_index}
use Rattle.scq_table.proofs.Pairs.{pair_there, pair_blank}
use Rattle.scq_table.proofs.Stations.{changed}
use Rattle.scq_table.proofs.Window.{some_place, given_up}
use Rattle.scq_table.proofs.Charges.{charged_none, charged_less, item_back, item_on}
use Rattle.scq_table.proofs.Emptied.{emptied_pair, emptied_none, emptied_other, emptied_shared, emptied_fits, emptied_dead, emptied_dead_on}
use Rattle.scq_table.proofs.Marked.{marked_pair, marked_shared, marked_fits, marked_dead, marked_dead_on}
use Rattle.scq_table.proofs.Lone.{Sooner, t1_t2, t2_t3, t3_t4, t3_t5, t3_t6, t5_t6, t5_t3, t6_t7, t6_t11, t7_t8, t7_t10, t8_t9, t9_t10, t9_t7, t11_t2, t1_ends, t4_ends, t10_ends, t11_ends}
use Rattle.scq_table.proofs.Built.{stage_mine, stage_other, KeptWith, then, row, each_once}
use Rattle.scq_table.proofs.Rows.{Goal, all_held, charged_on, Shift, shift}
use Rattle.scq_table.proofs.Adds.{does_at, fits_at, turn_a1, turn_a2, turn_a3, turn_a4, turn_a5, turn_a6}

module _ (q : State) (m : Model) (h : Stands q m) (s : ℕ) (here : s < q.stations) where
  abbrev mem : Memory
  mem = q.memory

  abbrev sound : Sound mem q.stations (stage q) h.charge
  sound = h.sound

  -- what a seeking station does next, where the pairs stay

  goes_on : (m' : Memory) (st : Stage) (f : ℕ) (held : Option ℕ) (bare : Bool) (held' : Option ℕ) (bare' : Bool) → m.doing s ≡ seeking f held bare →
      ((x : ℕ) → pair m' x ≡ pair mem x) → Ticket m f held held' (then q m h s here Going m' st (seeking f held' bare')) →
      (bare' ≡ true → (bare ≡ true) ⊎ AllHeld m s) → Goes m s (m.doing s) Going (then q m h s here Going m' st (seeking f held' bare'))
  goes_on m' st f held bare held' bare' de same ticket why = subst (λ x. Goes m s x Going (then q m h s here Going m' st (seeking f held' bare'))) (sym de)
      (SeekGoes.goes_on held' bare' refl (put_same m.doing s (seeking f held' bare')) (λ x. same x ∙ sym (h.pairs x)) ticket why)

  ends : (m' : Memory) (f : ℕ) (held : Option ℕ) (bare : Bool) → m.doing s ≡ seeking f held bare →
      ((x : ℕ) → pair m' x ≡ pair mem x) → NothingUnder m held → (bare ≡ true) ⊎ AllHeld m s → Goes m s (m.doing s) (Taken None) (then q m h s here (Taken None) m' Idle idle)
  ends m' f held bare de same under why = subst (λ x. Goes m s x (Taken None) (then q m h s here (Taken None) m' Idle idle)) (sym de)
      (SeekGoes.ends_with_none refl (put_same m.doing s idle) (λ x. same x ∙ sym (h.pairs x)) under why)

  holds_none : NothingUnder m None
  holds_none t e = absurd (cc)

  -- nothing is under a ticket that the station has given up
  nothing_under : (st : Stage) (t : ℕ) → stage q s ≡ st → t < mem.head → holds st ≡ Some t → live st ≡ None → NothingUnder m (Some t)
  nothing_under st t at l hold gone x e = subst (λ y. m.under y ≡ None) (same_Some _ _ e)
      (h.pairs t ∙ given_up mem q.stations (stage q) h.charge sound s t l (ap holds at ∙ hold) (ap live at ∙ gone))

  -- a row of a take that leaves the words
  module _ (st₀ st : Stage) (at : stage q s ≡ st₀) (h' t' : ℕ) (z' : ℤ) where
    take_shift : mem.head ≤ h' → mem.tail ≤ t' → z' ≤ℤ top mem.places → Fits (changed mem h' t' z' mem.words) st →
        writes st ≡ None → swaps st ≡ None → closes st₀ ≡ None →
        ((x : ℕ) → holds st ≡ Some x → (holds st₀ ≡ Some x) ⊎ (x ≡ mem.head)) →
        ((x : ℕ) → live st₀ ≡ Some x → (live st ≡ Some x) ⊎ Dead (changed mem h' t' z' mem.words) (stage (moved q s (changed mem h' t' z' mem.words) st)) x) →
        ((x : ℕ) → mem.head ≤ x → x < h' → live st ≡ Some x) →
        ((x : ℕ) → t' ≤ x → behind st₀ ≡ Some x → behind st ≡ Some x) →
        Charged (changed mem h' t' z' mem.words) (stage (moved q s (changed mem h' t' z' mem.words) st)) h.charge →
        (pos (mem.head + one_if (is_some (holds st))) +ℤ mem.threshold) ≤ℤ (pos (h' + one_if (is_some (holds st₀))) +ℤ z') →
        Shift q m h s here st₀ st at h' t' z' h.charge
    take_shift up on high fits no_write no_swap no_close hold lives new behinds charged credit = record {
      head_on = up;
      tail_on = on;
      threshold_high = high;
      fits_mine = fits;
      writes_from = λ i x. absurd (cc);
      holds_from = hold;
      swaps_late = λ x u l z y. absurd (cc);
      live_on = lives;
      live_new = new;
      behind_on = behinds;
      charged = charged;
      closes_on = λ x i y a z. absurd (cc);
      credit_on = credit;
    }

  -- such a row that leaves the whole memory
  take_quiet : (a : Progress) (st₀ st : Stage) (d : Doing) → stage q s ≡ st₀ → Fits mem st → writes st ≡ None → swaps st ≡ None → brings st ≡ brings st₀ → closes st₀ ≡ None →
      ((x : ℕ) → holds st ≡ Some x → holds st₀ ≡ Some x) →
      ((x : ℕ) → live st₀ ≡ Some x → (live st ≡ Some x) ⊎ Dead mem (stage (moved q s mem st)) x) →
      ((x : ℕ) → mem.tail ≤ x → behind st₀ ≡ Some x → behind st ≡ Some x) →
      one_if (is_some (holds st)) ≤ one_if (is_some (holds st₀)) →
      Does mem st d → Sooner mem st₀ mem st → Goes m s (m.doing s) a (then q m h s here a mem st d) → Goal q m h s here a mem st
  take_quiet a st₀ st d at fits w sw b c hold lives behinds few does sooner goes =
      shift q m h s here st₀ st at mem.head mem.tail mem.threshold h.charge a d
      (take_shift st₀ st at mem.head mem.tail mem.threshold (omega arith) (omega arith) sound.shared.threshold_high fits w sw c
      (λ x y. inl (hold x y)) lives (λ x l r. absurd (omega arith)) behinds
      (charged_on q m h s here st₀ st at mem.head mem.tail mem.threshold b (omega arith) (omega arith))
      (omega (arith, ints)))
      does sooner goes (AddMark.stays (sym h.adds_at)) (TakeMark.stays (sym h.takes_at))

  turn_t1 : stage q s ≡ T1 → Turned Stands m s (carried q s (step mem q.limit T1))
  turn_t1 at = cond_both (lt_z mem.threshold (pos 0)) _ _ (λ r. Turned Stands m s (carried q s r))
      (λ c. take_quiet (Taken None) T1 Idle idle at tt refl refl refl refl (λ x y. y) (λ x y. inl y) (λ x l y. y) (omega arith) refl (t1_ends mem mem)
      (ends mem d.0 None false d.2 (λ x. refl) holds_none
      (inr (all_held q m h s here (ap live at)
      (λ t i p l unclosed. ⊎_elim (λ r. unclosed r.0 r.1) (λ k. omega (arith, ints, k, c)) (sound.credit t i p l))))))
      (λ c. take_quiet Going T1 T2 (seeking d.0 None false) at tt refl refl refl refl (λ x y. y) (λ x y. inl y) (λ x l y. y) (omega arith) (d.0, d.1, refl) (t1_t2 mem)
      (goes_on mem T2 d.0 None false None false d.2 (λ x. refl) (Ticket.keeps refl) (λ b. inl b)))
    where
      d : Does mem T1 (m.doing s)
      d = does_at q m h s here T1 at

  turn_t2 : stage q s ≡ T2 → Turned Stands m s (carried q s (step mem q.limit T2))
  turn_t2 at = cond_both (eqb mem.head q.limit) _ _ (λ r. Turned Stands m s (carried q s r))
      (λ c. TurnRefused.at_limit refl (omega (arith, h.stations)) (subst (AtLimit m) (sym d.2) (refl, h.takes_at ∙ (eqb-true _ _ c ∙ sym h.limit))))
      (λ c. shift q m h s here T2 (T3 mem.head) at (mem.head + 1) mem.tail mem.threshold h.charge Going (seeking d.0 (Some mem.head) false)
      (take_shift T2 (T3 mem.head) at (mem.head + 1) mem.tail mem.threshold (omega arith) (omega arith) sound.shared.threshold_high
      (omega arith, λ x y. omega (arith, sound.shared.blanks_low mem.head x y)) refl refl refl
      (λ x y. inr (sym (same_Some _ _ y))) (λ x y. absurd (cc)) (λ x l r. ap Some (omega arith)) (λ x l y. absurd (cc))
      (charged_on q m h s here T2 (T3 mem.head) at (mem.head + 1) mem.tail mem.threshold refl (omega arith) (omega arith))
      (omega (arith, ints)))
      (d.0, d.1, refl) (t2_t3 mem)
      (goes_on (with_head mem (mem.head + 1)) (T3 mem.head) d.0 None false (Some mem.head) false d.2 (λ x. refl)
      (Ticket.gets mem.head refl h.takes_at refl d.1 holds_none) (λ b. inl b))
      (AddMark.stays (sym h.adds_at))
      (TakeMark.passes_held (ap (λ x. x + 1) (sym h.takes_at))
      (d.0, false, put_same m.doing s (seeking d.0 (Some mem.head) false) ∙ ap (λ x. seeking d.0 (Some x) false) (sym h.takes_at))))
    where
      d : Does mem T2 (m.doing s)
      d = does_at q m h s here T2 at

  -- a station that holds a ticket and has not given it up goes on so
  live_quiet : (st₀ st : Stage) (t f : ℕ) → stage q s ≡ st₀ → m.doing s ≡ seeking f (Some t) false → Fits mem st →
      writes st ≡ None → swaps st ≡ None → brings st ≡ brings st₀ → closes st₀ ≡ None → holds st ≡ holds st₀ → live st ≡ live st₀ → behind st ≡ behind st₀ →
      Does mem st (seeking f (Some t) false) → Sooner mem st₀ mem st → Goal q m h s here Going mem st
  live_quiet st₀ st t f at de fits w sw b c same lives behinds does sooner =
      take_quiet Going st₀ st (seeking f (Some t) false) at fits w sw b c (λ x y. sym same ∙ y) (λ x y. inl (lives ∙ y)) (λ x l y. behinds ∙ y)
      (omega (arith, ap (λ x. one_if (is_some x)) same)) does sooner
      (goes_on mem st f (Some t) false (Some t) false de (λ x. refl) (Ticket.keeps refl) (λ z. inl z))

  turn_t3 : (t : ℕ) → stage q s ≡ T3 t → Turned Stands m s (carried q s (step mem q.limit (T3 t)))
  turn_t3 t at = cond_both (eqb (word_cycle mem.places w) (cycle mem.places t)) _ _ (λ r. Turned Stands m s (carried q s r))
      (λ c. live_quiet (T3 t) (T4 t w) t d.0 at d.2 (p.0, eqb-true _ _ c, refl, λ b. p.1 (eqb-true _ _ c) b) refl refl refl refl refl refl refl
      (d.0, d.1, refl) (t3_t4 mem t w))
      (λ c. cond_both (ltb (word_cycle mem.places w) (cycle mem.places t)) _ _ (λ r. Turned Stands m s (carried q s r))
      (λ e. live_quiet (T3 t) (T5 t w) t d.0 at d.2 (p.0, p.1, ltb-true _ _ e) refl refl refl refl refl refl refl
      (d.0, d.1, refl) (t3_t5 mem t))
      (λ e. take_quiet Going (T3 t) (T6 t) (seeking d.0 (Some t) false) at p.0 refl refl refl refl (λ x y. y)
      (λ x y. inr (Dead.overtaken (subst (λ z. cycle mem.places z < word_cycle mem.places (word mem z)) (same_Some _ _ y) (later c e))))
      (λ x l y. y) (omega arith) (d.0, d.1, refl) (t3_t6 mem t)
      (goes_on mem (T6 t) d.0 (Some t) false (Some t) false d.2 (λ x. refl) (Ticket.keeps refl) (λ z. inl z))))
    where
      d : Does mem (T3 t) (m.doing s)
      d = does_at q m h s here (T3 t) at

      p : Fits mem (T3 t)
      p = fits_at q m h s here (T3 t) at

      w : ℕ
      w = word mem t

      later : eqb (word_cycle mem.places (word mem t)) (cycle mem.places t) ≡ false → ltb (word_cycle mem.places (word mem t)) (cycle mem.places t) ≡ false →
          cycle mem.places t < word_cycle mem.places (word mem t)
      later c e = grind (arith, nat_tests)

  -- rows that write a word

  -- what all of them show: the station leaves step st₀, at which it holds t, for step st, at which it
  -- has given t up
  module _ (t w' : ℕ) (st₀ st : Stage) (at : stage q s ≡ st₀) (live₀ : live st₀ ≡ Some t) (holds₀ : holds st₀ ≡ Some t)
      (no_brings₀ : brings st₀ ≡ None) (no_closes₀ : closes st₀ ≡ None) (no_writes : writes st ≡ None) (no_brings : brings st ≡ None) (no_swaps : swaps st ≡ None) where
    abbrev m' : Memory
    m' = with_word mem t w'

    abbrev next : ℕ → Stage
    next = stage (moved q s m' st)

    abbrev mine : next s ≡ st
    mine = stage_mine q m h s here m' st

    abbrev others : (r : ℕ) → (r ≡ s → ⊥) → next r ≡ stage q r
    others = stage_other q m h s here m' st

    swaps_from : (r x e : ℕ) → swaps (next r) ≡ Some (x, e) → swaps (stage q r) ≡ Some (x, e)
    swaps_from r x e y = ⊎_elim (λ z. absurd (cc)) (λ z. z.1) (had (stage q) next s st mine others swaps r (x, e) y)

    others_hold : (r : ℕ) → (r ≡ s → ⊥) → holds (stage q r) ≡ Some t → ⊥
    others_hold r o y = o (sound.one_holder r s t y (ap holds at ∙ holds₀))

    charged_word : ((x i : ℕ) → pair m' x ≡ Some i → pair mem x ≡ Some i) → ((x : ℕ) → mem.head ≤ x → pair m' x ≡ pair mem x) → Charged m' next h.charge
    charged_word less same = charged_less mem m' (stage q) next h.charge refl (omega arith) (omega arith)
        (item_back mem q.stations (stage q) h.charge sound s next st mine others m' less (λ x i y. absurd (cc)))
        (λ x i l. item_on mem q.stations (stage q) h.charge sound s next st mine others m' x i (λ y. same x l ∙ y) (λ y. absurd (cc)))
        sound.charged

    word_keeps : Shared m' → Fits m' st → ((r : ℕ) → (r ≡ s → ⊥) → Fits m' (stage q r)) →
        ((x i : ℕ) → pair m' x ≡ Some i → pair mem x ≡ Some i) → ((x : ℕ) → mem.head ≤ x → pair m' x ≡ pair mem x) →
        ((x : ℕ) → holds st ≡ Some x → holds st₀ ≡ Some x) → ((x : ℕ) → Dead mem (stage q) x → Dead m' next x) → Dead m' next t →
        ((x : ℕ) → mem.tail ≤ x → behind st₀ ≡ Some x → behind st ≡ Some x) → one_if (is_some (holds st)) ≤ one_if (is_some (holds st₀)) → KeptWith q m h s here m' st h.charge
    word_keeps shared fits fits_others less same hold dead_on dead behinds few = record {
      places_stay = refl;
      tail_on = omega arith;
      head_on = omega arith;
      shared = shared;
      fits_mine = fits;
      fits_others = fits_others;
      writes_from = λ i x. absurd (cc);
      pair_from = λ x i y. inl (less x i y);
      holds_from = λ x y. inl (ap holds at ∙ hold x y);
      dead_on = λ x l. dead_on x;
      live_on = λ x y. inr (subst (Dead m' next) (same_Some _ _ (sym live₀ ∙ (sym (ap live at) ∙ y))) dead);
      live_new = λ x a b. absurd (omega arith);
      behind_on = λ x l y. behinds x l (sym (ap behind at) ∙ y);
      charged = charged_word less same;
      closes_on = λ x i y a z. absurd (cc);
      credit_on = omega (arith, ints, ap (λ x. one_if (is_some (holds x))) at);
    }

  -- T4: the pair under t leaves
  module _ (t e : ℕ) (at : stage q s ≡ T4 t e) where
    abbrev n : ℕ
    n = mem.places

    abbrev w : ℕ
    w = word mem t

    abbrev ored : ℕ
    ored = bit_or w (bottom n)

    abbrev emptied : Memory
    emptied = with_word mem t ored

    abbrev a : Progress
    a = Taken (Some (index n e))

    abbrev ended : Model
    ended = then q m h s here a emptied Idle idle

    p : Fits mem (T4 t e)
    p = fits_at q m h s here (T4 t e) at

    d : Does mem (T4 t e) (m.doing s)
    d = does_at q m h s here (T4 t e) at

    cycle' : word_cycle n ored ≡ cycle n t
    cycle' = or_cycle n w sound.shared.sized ∙ p.1

    safe' : safe n ored ≡ safe n w
    safe' = or_safe n w sound.shared.sized

    blank' : Blank mem ored
    blank' = or_index n w sound.shared.sized

    not_blank : Blank mem w → ⊥
    not_blank b = p.3 (sym p.2 ∙ b)

    not_later : word_cycle n w ≤ cycle n t
    not_later = omega (arith, p.1)

    earlier : Blank mem w → word_cycle n w < cycle n t
    earlier b = absurd (not_blank b)

    there : pair mem t ≡ Some (index n e)
    there = pair_there mem t p.1 not_blank ∙ ap Some p.2

    less : (x i : ℕ) → pair emptied x ≡ Some i → pair mem x ≡ Some i
    less = emptied_pair mem sound.shared t ored p.0 cycle' safe' blank' not_later earlier

    rest : (x : ℕ) → (x ≡ t → ⊥) → pair emptied x ≡ pair mem x
    rest = emptied_other mem sound.shared t ored p.0 cycle' safe' blank' not_later earlier (λ b. p.1)

    gone : pair emptied t ≡ None
    gone = emptied_none mem sound.shared t ored p.0 cycle' safe' blank' not_later earlier

    rest_under : (x : ℕ) → (x ≡ t → ⊥) → ended.under x ≡ m.under x
    rest_under x o = rest x o ∙ sym (h.pairs x)

    leaves : Leaves m t (index n e) ended
    leaves = record {
      before = h.pairs t ∙ there;
      after = gone;
      rest = rest_under;
      outside = left_outside m ended s t (index n e) (each_once q m h) (h.pairs t ∙ there) gone rest_under (put_same m.doing s idle) (put_other m.doing s idle);
    }

    turn_t4 : Turned Stands m s (carried q s (step mem q.limit (T4 t e)))
    turn_t4 = row q m h s here a emptied Idle idle h.charge (record {
      keeps = word_keeps t ored (T4 t e) Idle at refl refl refl refl refl refl refl
          (emptied_shared mem sound.shared t ored p.0 cycle' safe' blank' not_later earlier) tt
          (λ r o. emptied_fits mem sound.shared t ored p.0 cycle' safe' blank' not_later earlier (λ b. p.1) (stage q r)
          (others_hold t ored (T4 t e) Idle at refl refl refl refl refl refl refl r o) (sound.fits r))
          less (λ x l. rest x (λ z. omega (arith, p.0))) (λ x y. absurd (cc))
          (emptied_dead_on mem sound.shared t ored p.0 cycle' safe' blank' not_later earlier (stage q) _ sound.fits
          (swaps_from t ored (T4 t e) Idle at refl refl refl refl refl refl refl))
          (emptied_dead mem sound.shared t ored p.0 cycle' safe' blank' not_later earlier _)
          (λ x l y. absurd (omega (arith, same_Some _ _ y, sound.shared.pairs_low t (index n e) there))) (omega arith);
      does_mine = refl;
      sooner = subst (λ x. Sooner mem x emptied Idle) (sym at) (t4_ends mem emptied t e);
      goes = subst (λ x. Goes m s x a ended) (sym d.2) (SeekGoes.ends_with_held t (index n e) refl (put_same m.doing s idle) leaves refl);
      adds = AddMark.stays (sym h.adds_at);
      takes = TakeMark.stays (sym h.takes_at);
    })

  -- T5 has made the ticket useless for any add
  module _ (t e : ℕ) (at : stage q s ≡ T5 t e) (same : word mem t ≡ e) where
    abbrev places : ℕ
    places = mem.places

    p5 : Fits mem (T5 t e)
    p5 = fits_at q m h s here (T5 t e) at

    d5 : Does mem (T5 t e) (m.doing s)
    d5 = does_at q m h s here (T5 t e) at

    one : 1 ≤ places
    one = some_place mem sound.shared

    before : word_cycle places (word mem t) < cycle places t
    before = omega (arith, ap (word_cycle places) same, p5.2)

    -- whatever is written, if it keeps this
    spoils : (w' : ℕ) → ((x : ℕ) → pair (with_word mem t w') x ≡ pair mem x) → KeptWith q m h s here (with_word mem t w') (T6 t) h.charge → Goal q m h s here Going (with_word mem t w') (T6 t)
    spoils w' pairs keeps = row q m h s here Going (with_word mem t w') (T6 t) (seeking d5.0 (Some t) false) h.charge (record {
      keeps = keeps;
      does_mine = (d5.0, d5.1, refl);
      sooner = subst (λ x. Sooner mem x (with_word mem t w') (T6 t)) (sym at) (t5_t6 mem t (with_word mem t w') e refl);
      goes = goes_on (with_word mem t w') (T6 t) d5.0 (Some t) false (Some t) false d5.2 pairs (Ticket.keeps refl) (λ z. inl z);
      adds = AddMark.stays (sym h.adds_at);
      takes = TakeMark.stays (sym h.takes_at);
    })

    -- over an empty word
    module _ (blank : Blank mem e) where
      abbrev w₁ : ℕ
      w₁ = join places (cycle places t) (safe places e) (bottom places)

      cycle₁ : word_cycle places w₁ ≡ cycle places t
      cycle₁ = join-cycle places (cycle places t) (safe places e) (bottom places) (safe_low places e) (bottom_low places one)

      safe₁ : safe places w₁ ≡ safe places (word mem t)
      safe₁ = join-safe places (cycle places t) (safe places e) (bottom places) (safe_low places e) (bottom_low places one) ∙ ap (safe places) (sym same)

      blank₁ : Blank mem w₁
      blank₁ = join-index places (cycle places t) (safe places e) (bottom places) (bottom_low places one)

      was_blank : Blank mem (word mem t)
      was_blank = ap (index places) same ∙ blank

      not_later₁ : word_cycle places (word mem t) ≤ cycle places t
      not_later₁ = omega (arith, before)

      sole₁ : (Blank mem (word mem t) → ⊥) → Current mem t
      sole₁ b = absurd (b was_blank)

      pairs₁ : (x : ℕ) → pair (with_word mem t w₁) x ≡ pair mem x
      pairs₁ x = ⊎_elim
          (λ y. ap (pair (with_word mem t w₁)) y ∙ (emptied_none mem sound.shared t w₁ p5.0 cycle₁ safe₁ blank₁ not_later₁ (λ b. before) ∙ sym (ap (pair mem) y ∙ pair_blank mem t was_blank)))
          (λ y. emptied_other mem sound.shared t w₁ p5.0 cycle₁ safe₁ blank₁ not_later₁ (λ b. before) sole₁ x y)
          (cases_eq x t)

      spoils_empty : Goal q m h s here Going (with_word mem t w₁) (T6 t)
      spoils_empty = spoils w₁ pairs₁ (word_keeps t w₁ (T5 t e) (T6 t) at refl refl refl refl refl refl refl
          (emptied_shared mem sound.shared t w₁ p5.0 cycle₁ safe₁ blank₁ not_later₁ (λ b. before)) p5.0
          (λ r o. emptied_fits mem sound.shared t w₁ p5.0 cycle₁ safe₁ blank₁ not_later₁ (λ b. before) sole₁ (stage q r)
          (others_hold t w₁ (T5 t e) (T6 t) at refl refl refl refl refl refl refl r o) (sound.fits r))
          (λ x i y. sym (pairs₁ x) ∙ y) (λ x l. pairs₁ x) (λ x y. y)
          (emptied_dead_on mem sound.shared t w₁ p5.0 cycle₁ safe₁ blank₁ not_later₁ (λ b. before) (stage q) _ sound.fits
          (swaps_from t w₁ (T5 t e) (T6 t) at refl refl refl refl refl refl refl))
          (emptied_dead mem sound.shared t w₁ p5.0 cycle₁ safe₁ blank₁ not_later₁ (λ b. before) _)
          (λ x l y. y) (omega arith))

    -- over an older pair
    module _ (taken : Blank mem e → ⊥) where
      abbrev w₂ : ℕ
      w₂ = join places (word_cycle places e) 0 (index places e)

      cycle₂ : word_cycle places w₂ ≡ word_cycle places (word mem t)
      cycle₂ = join-cycle places (word_cycle places e) 0 (index places e) (omega arith) (index_low places e one) ∙ ap (word_cycle places) (sym same)

      index₂ : index places w₂ ≡ index places (word mem t)
      index₂ = join-index places (word_cycle places e) 0 (index places e) (index_low places e one) ∙ ap (index places) (sym same)

      unsafe₂ : safe places w₂ ≡ 0
      unsafe₂ = join-safe places (word_cycle places e) 0 (index places e) (omega arith) (index_low places e one)

      taken₂ : Blank mem (word mem t) → ⊥
      taken₂ b = taken (sym (ap (index places) same) ∙ b)

      pairs₂ : (x : ℕ) → pair (with_word mem t w₂) x ≡ pair mem x
      pairs₂ = marked_pair mem sound.shared t w₂ cycle₂ index₂ unsafe₂ taken₂ before

      marks_older : Goal q m h s here Going (with_word mem t w₂) (T6 t)
      marks_older = spoils w₂ pairs₂ (word_keeps t w₂ (T5 t e) (T6 t) at refl refl refl refl refl refl refl
          (marked_shared mem sound.shared t w₂ cycle₂ index₂ unsafe₂ taken₂ before) p5.0
          (λ r o. marked_fits mem sound.shared t w₂ cycle₂ index₂ unsafe₂ taken₂ before (stage q r) (sound.fits r))
          (λ x i y. sym (pairs₂ x) ∙ y) (λ x l. pairs₂ x) (λ x y. y)
          (marked_dead_on mem sound.shared t w₂ cycle₂ index₂ unsafe₂ taken₂ before (stage q) _ sound.fits
          (swaps_from t w₂ (T5 t e) (T6 t) at refl refl refl refl refl refl refl))
          (marked_dead mem sound.shared t w₂ cycle₂ index₂ unsafe₂ taken₂ before (stage q) _ sound.fits
          (swaps_from t w₂ (T5 t e) (T6 t) at refl refl refl refl refl refl refl))
          (λ x l y. y) (omega arith))

  turn_t5 : (t e : ℕ) → stage q s ≡ T5 t e → Turned Stands m s (carried q s (step mem q.limit (T5 t e)))
  turn_t5 t e at = cond_both (eqb (word mem t) e) _ _ (λ r. Turned Stands m s (carried q s r))
      (λ c. cond_both (eqb (index mem.places e) (bottom mem.places)) _ _ (λ w. Goal q m h s here Going (with_word mem t w) (T6 t))
      (λ b. spoils_empty t e at (eqb-true _ _ c) (eqb-true _ _ b))
      (λ b. marks_older t e at (eqb-true _ _ c) (eqb-false _ _ b)))
      (λ c. live_quiet (T5 t e) (T3 t) t own.0 at own.2 (f.0, f.1) refl refl refl refl refl refl refl (own.0, own.1, refl) (t5_t3 mem t e (λ z. eqb-false _ _ c (sym z))))
    where
      own : Does mem (T5 t e) (m.doing s)
      own = does_at q m h s here (T5 t e) at

      f : Fits mem (T5 t e)
      f = fits_at q m h s here (T5 t e) at

  -- rows of a take that has given up its ticket

  -- it goes on so, bare or not
  on_quiet : (st₀ st : Stage) (t f : ℕ) (bare bare' : Bool) → stage q s ≡ st₀ → m.doing s ≡ seeking f (Some t) bare → Fits mem st →
      writes st ≡ None → swaps st ≡ None → brings st ≡ brings st₀ → closes st₀ ≡ None → live st₀ ≡ None → holds st ≡ holds st₀ →
      ((x : ℕ) → mem.tail ≤ x → behind st₀ ≡ Some x → behind st ≡ Some x) → Does mem st (seeking f (Some t) bare') → Sooner mem st₀ mem st →
      (bare' ≡ true → (bare ≡ true) ⊎ AllHeld m s) → Goal q m h s here Going mem st
  on_quiet st₀ st t f bare bare' at de fits w sw b c gone same behinds does sooner why =
      take_quiet Going st₀ st (seeking f (Some t) bare') at fits w sw b c (λ x y. sym same ∙ y) (λ x y. absurd (cc)) behinds
      (omega (arith, ap (λ x. one_if (is_some x)) same)) does sooner
      (goes_on mem st f (Some t) bare (Some t) bare' de (λ x. refl) (Ticket.keeps refl) why)

  turn_t6 : (t : ℕ) → stage q s ≡ T6 t → Turned Stands m s (carried q s (step mem q.limit (T6 t)))
  turn_t6 t at = cond_both (leb mem.tail (t + 1)) _ _ (λ r. Turned Stands m s (carried q s r))
      (λ c. let near = leb-true mem.tail (t + 1) c in
      on_quiet (T6 t) (T7 t mem.tail (t + 1)) t d.0 false true at d.2 (p, near, omega arith, omega (arith, p)) refl refl refl refl refl refl (λ x l y. y)
      (d.0, d.1, refl) (t6_t7 mem t (t + 1))
      (λ z. inr (all_held q m h s here (ap live at) (λ x i y l unclosed. omega (arith, p, sound.shared.pairs_low x i y)))))
      (λ c. let far = leb-false mem.tail (t + 1) c in
      on_quiet (T6 t) (T11 t) t d.0 false false at d.2 p refl refl refl refl refl refl (λ x l y. absurd (omega (arith, same_Some _ _ y)))
      (d.0, d.1, refl) (t6_t11 mem t) (λ z. inl z))
    where
      d : Does mem (T6 t) (m.doing s)
      d = does_at q m h s here (T6 t) at

      p : t < mem.head
      p = fits_at q m h s here (T6 t) at

  turn_t7 : (t u v : ℕ) → stage q s ≡ T7 t u v → Turned Stands m s (carried q s (step mem q.limit (T7 t u v)))
  turn_t7 t u v at = cond_both (eqb mem.tail u) _ _ (λ r. Turned Stands m s (carried q s r))
      (λ c. let level = eqb-true mem.tail u c in
      shift q m h s here (T7 t u v) (T10 t) at mem.head v mem.threshold h.charge Going (seeking d.0 (Some t) true)
      (take_shift (T7 t u v) (T10 t) at mem.head v mem.threshold (omega arith) (omega (arith, p.1)) sound.shared.threshold_high p.0 refl refl refl
      (λ x y. inl y) (λ x y. absurd (cc)) (λ x l r. absurd (omega arith)) (λ x l y. absurd (omega (arith, same_Some _ _ y, p.2)))
      (charged_none (with_tail mem v) (stage (moved q s (with_tail mem v) (T10 t))) h.charge p.3) (omega (arith, ints)))
      (d.0, d.1, refl) (t7_t10 mem t (with_tail mem v) u v)
      (goes_on (with_tail mem v) (T10 t) d.0 (Some t) true (Some t) true d.2 (λ x. refl) (Ticket.keeps refl) (λ z. inl refl))
      (AddMark.catches_up (omega (arith, h.adds_at, p.1)) p.3) (TakeMark.stays (sym h.takes_at)))
      (λ c. on_quiet (T7 t u v) (T8 t) t d.0 true true at d.2 p.0 refl refl refl refl refl refl (λ x l y. y)
      (d.0, d.1, refl) (t7_t8 mem t u v (λ z. eqb-false _ _ c (sym z))) (λ z. inl refl))
    where
      d : Does mem (T7 t u v) (m.doing s)
      d = does_at q m h s here (T7 t u v) at

      p : Fits mem (T7 t u v)
      p = fits_at q m h s here (T7 t u v) at

  turn_t8 : (t : ℕ) → stage q s ≡ T8 t → Turned Stands m s (carried q s (step mem q.limit (T8 t)))
  turn_t8 t at = on_quiet (T8 t) (T9 t mem.head) t d.0 true true at d.2 (p, p, omega arith) refl refl refl refl refl refl (λ x l y. y)
      (d.0, d.1, refl) (t8_t9 mem t mem.head) (λ z. inl refl)
    where
      d : Does mem (T8 t) (m.doing s)
      d = does_at q m h s here (T8 t) at

      p : t < mem.head
      p = fits_at q m h s here (T8 t) at

  turn_t9 : (t v : ℕ) → stage q s ≡ T9 t v → Turned Stands m s (carried q s (step mem q.limit (T9 t v)))
  turn_t9 t v at = cond_both (leb v mem.tail) _ _ (λ r. Turned Stands m s (carried q s r))
      (λ c. let past = leb-true v mem.tail c in
      on_quiet (T9 t v) (T10 t) t d.0 true true at d.2 p.0 refl refl refl refl refl refl (λ x l y. absurd (omega (arith, same_Some _ _ y, p.1)))
      (d.0, d.1, refl) (t9_t10 mem t v) (λ z. inl refl))
      (λ c. let short = leb-false v mem.tail c in
      on_quiet (T9 t v) (T7 t mem.tail v) t d.0 true true at d.2 (p.0, omega arith, p.1, p.2) refl refl refl refl refl refl (λ x l y. y)
      (d.0, d.1, refl) (t9_t7 mem t v v) (λ z. inl refl))
    where
      d : Does mem (T9 t v) (m.doing s)
      d = does_at q m h s here (T9 t v) at

      p : Fits mem (T9 t v)
      p = fits_at q m h s here (T9 t v) at

  abbrev lowered : Memory
  lowered = with_threshold mem (mem.threshold -ℤ pos 1)

  -- Threshold falls by one as the station gives back its ticket
  lower : (a : Progress) (st₀ st : Stage) (d : Doing) → stage q s ≡ st₀ → Fits lowered st →
      writes st ≡ None → swaps st ≡ None → brings st ≡ brings st₀ → closes st₀ ≡ None → holds st ≡ None → is_some (holds st₀) ≡ true → live st₀ ≡ None → behind st₀ ≡ None →
      Does lowered st d → Sooner mem st₀ lowered st →
      Goes m s (m.doing s) a (then q m h s here a lowered st d) → Goal q m h s here a lowered st
  lower a st₀ st d at fits w sw b c no_hold hold gone no_behind does sooner goes =
      shift q m h s here st₀ st at mem.head mem.tail (mem.threshold -ℤ pos 1) h.charge a d
      (take_shift st₀ st at mem.head mem.tail (mem.threshold -ℤ pos 1) (omega arith) (omega arith) (omega (arith, ints, sound.shared.threshold_high)) fits w sw c
      (λ x y. absurd (cc)) (λ x y. absurd (cc)) (λ x l r. absurd (omega arith)) (λ x l y. absurd (cc))
      (charged_on q m h s here st₀ st at mem.head mem.tail (mem.threshold -ℤ pos 1) b (omega arith) (omega arith))
      (omega (arith, ints, ap (λ x. one_if (is_some x)) no_hold, ap one_if hold)))
      does sooner goes (AddMark.stays (sym h.adds_at)) (TakeMark.stays (sym h.takes_at))

  turn_t10 : (t : ℕ) → stage q s ≡ T10 t → Turned Stands m s (carried q s (step mem q.limit (T10 t)))
  turn_t10 t at = lower (Taken None) (T10 t) Idle idle at tt refl refl refl refl refl refl refl refl refl (t10_ends mem lowered t)
      (ends lowered d.0 (Some t) true d.2 (λ x. refl) (nothing_under (T10 t) t at (fits_at q m h s here (T10 t) at) refl refl) (inl refl))
    where
      d : Does mem (T10 t) (m.doing s)
      d = does_at q m h s here (T10 t) at

  turn_t11 : (t : ℕ) → stage q s ≡ T11 t → Turned Stands m s (carried q s (step mem q.limit (T11 t)))
  turn_t11 t at = cond_both (le_z mem.threshold (pos 0)) _ _ (λ r. Turned Stands m s (carried q s r))
      (λ c. lower (Taken None) (T11 t) Idle idle at tt refl refl refl refl refl refl refl refl refl (t11_ends mem lowered t)
      (ends lowered d.0 (Some t) false d.2 (λ x. refl) under
      (inr (all_held q m h s here (ap live at)
      (λ x i p l unclosed. ⊎_elim (λ r. unclosed r.0 r.1) (λ k. omega (arith, ints, k, c, mine)) (sound.credit x i p l))))))
      (λ c. lower Going (T11 t) T2 (seeking d.0 None false) at tt refl refl refl refl refl refl refl refl (d.0, omega (arith, d.1, low), refl) (t11_t2 mem t c)
      (goes_on lowered T2 d.0 (Some t) false None false d.2 (λ x. refl) (Ticket.drops refl under) (λ z. inl z)))
    where
      d : Does mem (T11 t) (m.doing s)
      d = does_at q m h s here (T11 t) at

      low : t < mem.head
      low = fits_at q m h s here (T11 t) at

      under : NothingUnder m (Some t)
      under = nothing_under (T11 t) t at low refl refl

      -- the station itself holds a ticket
      mine : 1 ≤ holders q.stations (stage q)
      mine = count_some q.stations (λ r. is_some (holds (stage q r))) s here (ap (λ x. is_some (holds x)) at)

  by_step : (st : Stage) → stage q s ≡ st → Turned Stands m s (carried q s (step mem q.limit st))
  by_step Idle at = TurnRefused.no_call refl (omega (arith, h.stations)) (does_at q m h s here Idle at)
  by_step (A1 i) at = turn_a1 q m h s here i at
  by_step (A2 i t) at = turn_a2 q m h s here i t at
  by_step (A3 i t e) at = turn_a3 q m h s here i t e at
  by_step (A4 i t e) at = turn_a4 q m h s here i t e at
  by_step (A5 t) at = turn_a5 q m h s here t at
  by_step (A6 t) at = turn_a6 q m h s here t at
  by_step T1 at = turn_t1 at
  by_step T2 at = turn_t2 at
  by_step (T3 t) at = turn_t3 t at
  by_step (T4 t e) at = turn_t4 t e at
  by_step (T5 t e) at = turn_t5 t e at
  by_step (T6 t) at = turn_t6 t at
  by_step (T7 t u v) at = turn_t7 t u v at
  by_step (T8 t) at = turn_t8 t at
  by_step (T9 t v) at = turn_t9 t v at
  by_step (T10 t) at = turn_t10 t at
  by_step (T11 t) at = turn_t11 t at

pub means_turn : (q : State) (s : ℕ) (m : Model) → Stands q m → Turned Stands m s (turns q s)
means_turn q s m h = turned_means Stands Idle q m s h.stations step (λ c. by_step q m h s c (stage q s) refl)
