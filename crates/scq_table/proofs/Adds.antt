-- The rows of an add do what a ring may do.
use Rattle.std.proofs.Common.{◌≡◌, ℕ, ◌+◌, ◌<◌, ◌≤◌, true, false, ◌&&◌, eqb, ltb, leb, ◌⊎◌, ℤ, pos, negsuc, ◌+ℤ◌, ◌≤ℤ◌, Some, None, sym, refl, ap, ◌∙◌, subst, inl, inr, ⊎_elim, arith}
use lib.Signed.{≤ℤ_refl}
use Rattle.std.proofs.lemmas.Int.{ints}
use Rattle.std.proofs.lemmas.Bool.{cond_both, eqb-true, eqb-false, leb-true, leb-false, ltb-true, lt-ltb, eq-eqb, and_parts, and_from, both_ways, cases_lt}
use Rattle.std.proofs.lemmas.Option.{same_Some}
use Rattle.ring.specs.declared.Progress.TheVariants.{Going, Added}
use Rattle.ring.specs.Model.{idle, adding, closing, Model, Holds}
use Rattle.ring.specs.Meaning.{AddGoes, CloseGoes, Goes, AddMark, TakeMark, AtLimit, TurnRefused, Turned}
use Rattle.ring.proofs.Entries.{put_same}
use Rattle.ring.proofs.Scans.{one_if, count_fewer}
use Rattle.ring.proofs.Steps.{had, has_still}
use Rattle.scq_table.specs.declared.Stage.{Stage}
use Rattle.scq_table.specs.declared.Stage.TheVariants.{Idle, A1, A2, A3, A4, A5, A6}
use Rattle.ring.specs.Tables.{moved, carried}
use Rattle.scq_table.specs.Table.{cycle, word_cycle, safe, index, bottom, join, top, int_equal, Memory, word, with_tail, with_word, with_threshold, step, State, stage}
use Rattle.scq_table.specs.Stands.{Blank, pair, writes, brings, swaps, closes, holds, live, behind, is_some, Fits, Does, Dead, Item, Charged, holders, Sound, Stands}
use Rattle.scq_table.proofs.Words.{join-cycle, join-index}
use Rattle.scq_table.proofs.Stations.{writes_low, live_holds, holds_does}
use Rattle.scq_table.proofs.Window.{blank_older, window}
use Rattle.scq_table.proofs.Charges.{charged_less, item_back, item_on, with_ticket, charged_ticket}
use Rattle.scq_table.proofs.Older.{charged_older}
use Rattle.scq_table.proofs.Filled.{filled_before, filled_after, filled_rest, filled_from, filled_shared, filled_fits, filled_dead_on}
use Rattle.scq_table.proofs.Lone.{Sooner, a1_a2, a2_a3, a2_a4, a2_a1, a3_a4, a3_a1, a4_a2, a4_a5, a5_a6, a5_ends, a6_ends}
use Rattle.scq_table.proofs.Built.{stage_mine, stage_other, then, row}
use Rattle.scq_table.proofs.Rows.{Goal, charged_on, Shift, shift}

int_equal-true : (a b : ℤ) → int_equal a b ≡ true → a ≡ b
int_equal-true (pos a) (pos b) e = ap pos (eqb-true a b e)
int_equal-true (negsuc a) (negsuc b) e = ap negsuc (eqb-true a b e)
int_equal-true a b e = cc

module _ (q : State) (m : Model) (h : Stands q m) (s : ℕ) (here : s < q.stations) where
  abbrev mem : Memory
  mem = q.memory

  abbrev sound : Sound mem q.stations (stage q) h.charge
  sound = h.sound

  -- the station's step tells what it does and what its registers say
  pub does_at : (st : Stage) → stage q s ≡ st → Does mem st (m.doing s)
  does_at st at = subst (λ x. Does mem x (m.doing s)) at (h.does s)

  pub fits_at : (st : Stage) → stage q s ≡ st → Fits mem st
  fits_at st at = subst (Fits mem) at (sound.fits s)

  -- a row of an add that leaves the words, Head and Threshold, and with which the add goes on
  module _ (st₀ st : Stage) (at : stage q s ≡ st₀) (i f : ℕ) (de : m.doing s ≡ adding i f) (t' : ℕ) (charge' : ℕ → ℕ) where
    abbrev m' : Memory
    m' = with_tail mem t'

    add_row : mem.tail ≤ t' → Fits m' st → writes st ≡ writes st₀ → holds st ≡ None → live st₀ ≡ None → behind st₀ ≡ None → closes st₀ ≡ None →
        ((t u : ℕ) → t < mem.head → safe mem.places (word mem t) ≡ 0 → swaps st ≡ Some (u, word mem t) → t < u) →
        Charged m' (stage (moved q s m' st)) charge' → Does m' st (adding i f) → Sooner mem st₀ m' st →
        AddMark m (then q m h s here Going m' st (adding i f)) → Goal q m h s here Going m' st
    add_row up fits w no_hold no_live no_behind no_close late charged does sooner adds =
        shift q m h s here st₀ st at mem.head t' mem.threshold charge' Going (adding i f)
        (record {
          head_on = omega arith;
          tail_on = up;
          threshold_high = sound.shared.threshold_high;
          fits_mine = fits;
          writes_from = λ j x. inl (sym w ∙ x);
          holds_from = λ t x. absurd (cc);
          swaps_late = late;
          live_on = λ t x. absurd (cc);
          live_new = λ t a b. absurd (omega arith);
          behind_on = λ t a x. absurd (cc);
          charged = charged;
          closes_on = λ t j a b x. absurd (cc);
          credit_on = omega (arith, ints, ap (λ x. one_if (is_some x)) no_hold);
        })
        does sooner
        (subst (λ d. Goes m s d Going (then q m h s here Going m' st (adding i f))) (sym de)
        (AddGoes.stays refl (put_same m.doing s (adding i f)) (λ t. sym (h.pairs t))))
        adds (TakeMark.stays (sym h.takes_at))

  -- such a row that leaves Tail, from a step that has a ticket to another that does
  add_quiet : (st₀ st : Stage) → stage q s ≡ st₀ → (i f : ℕ) → m.doing s ≡ adding i f → Fits mem st →
      writes st ≡ writes st₀ → brings st ≡ brings st₀ → holds st ≡ None → live st₀ ≡ None → behind st₀ ≡ None → closes st₀ ≡ None →
      ((t u : ℕ) → t < mem.head → safe mem.places (word mem t) ≡ 0 → swaps st ≡ Some (u, word mem t) → t < u) →
      Does mem st (adding i f) → Sooner mem st₀ mem st → Goal q m h s here Going mem st
  add_quiet st₀ st at i f de fits w b a c d e late does sooner =
      add_row st₀ st at i f de mem.tail h.charge (omega arith) fits w a c d e late
      (charged_on q m h s here st₀ st at mem.head mem.tail mem.threshold b (omega arith) (omega arith)) does sooner
      (AddMark.stays (sym h.adds_at))

  -- an add gives up a ticket that Head has passed
  gives_up : (i t : ℕ) (st₀ : Stage) → stage q s ≡ st₀ → writes st₀ ≡ Some i → brings st₀ ≡ Some (t, i) → live st₀ ≡ None → behind st₀ ≡ None → closes st₀ ≡ None →
      t < mem.head → t < mem.tail → Sooner mem st₀ mem (A1 i) → (f : ℕ) → f ≤ t → m.doing s ≡ adding i f → Goal q m h s here Going mem (A1 i)
  gives_up i t st₀ at w b c e g low below sooner f l de =
      add_row st₀ (A1 i) at i f de mem.tail h.charge (omega arith) small (sym w) refl c e g
      (λ x u a z y. absurd (cc))
      (charged_less mem mem (stage q) next h.charge refl (omega arith) (omega arith)
      (item_back mem q.stations (stage q) h.charge sound s next (A1 i) mine others mem (λ x y z. z) (λ x y z. absurd (cc)))
      (λ x y a. item_on mem q.stations (stage q) h.charge sound s next (A1 i) mine others mem x y (λ z. z)
      (λ z. absurd (omega (arith, ap (λ v. v.0) (same_Some _ _ (sym (ap brings at ∙ b) ∙ z))))))
      sound.charged)
      (f, omega arith, refl) sooner (AddMark.stays (sym h.adds_at))
    where
      small : i < mem.places
      small = writes_low mem (stage q s) i (sound.fits s) (ap writes at ∙ w)

      next : ℕ → Stage
      next = stage (moved q s mem (A1 i))

      mine : stage (moved q s mem (A1 i)) s ≡ A1 i
      mine = stage_mine q m h s here mem (A1 i)

      others : (r : ℕ) → (r ≡ s → ⊥) → stage (moved q s mem (A1 i)) r ≡ stage q r
      others = stage_other q m h s here mem (A1 i)

  pub turn_a1 : (i : ℕ) → stage q s ≡ A1 i → Turned Stands m s (carried q s (step mem q.limit (A1 i)))
  turn_a1 i at = cond_both (eqb mem.tail q.limit) _ _ (λ r. Turned Stands m s (carried q s r))
      (λ c. TurnRefused.at_limit refl (omega (arith, h.stations)) (subst (AtLimit m) (sym d.2) (h.adds_at ∙ (eqb-true _ _ c ∙ sym h.limit))))
      (λ c. add_row (A1 i) st at i d.0 d.2 (mem.tail + 1) (with_ticket mem q.stations (stage q) h.charge sound s next others i at (stage_mine q m h s here m' st))
      (omega arith) (fits_at (A1 i) at, omega arith) refl refl refl refl refl (λ t u a b x. absurd (cc))
      (charged_ticket mem q.stations (stage q) h.charge sound s next others i at (stage_mine q m h s here m' st))
      (d.0, d.1, refl) (a1_a2 mem i) (AddMark.rises (ap (λ x. x + 1) (sym h.adds_at))))
    where
      d : Does mem (A1 i) (m.doing s)
      d = does_at (A1 i) at

      st : Stage
      st = A2 i mem.tail

      m' : Memory
      m' = with_tail mem (mem.tail + 1)

      next : ℕ → Stage
      next = stage (moved q s m' st)

      others : (r : ℕ) → (r ≡ s → ⊥) → next r ≡ stage q r
      others = stage_other q m h s here m' st

  pub turn_a2 : (i t : ℕ) → stage q s ≡ A2 i t → Turned Stands m s (carried q s (step mem q.limit (A2 i t)))
  turn_a2 i t at = cond_both (ltb (word_cycle mem.places w) (cycle mem.places t) && eqb (index mem.places w) (bottom mem.places)) _ _ (λ r. Turned Stands m s (carried q s r))
      (λ c. cond_both (eqb (safe mem.places w) 1) _ _ (λ r. Turned Stands m s (carried q s r))
      (λ e. add_quiet (A2 i t) (A4 i t w) at i d.0 d.2 (seen c) refl refl refl refl refl refl
      (λ x u l z y. absurd (omega (arith, eqb-true (safe mem.places w) 1 e, ap (λ v. safe mem.places v.1) (same_Some _ _ y))))
      (d.0, d.1, refl) (a2_a4 mem i t))
      (λ e. add_quiet (A2 i t) (A3 i t w) at i d.0 d.2 (seen c) refl refl refl refl refl refl
      (λ x u l z y. absurd (cc))
      (d.0, d.1, refl) (a2_a3 mem i t)))
      (λ c. ⊎_elim
      (λ low. gives_up i t (A2 i t) at refl refl refl refl refl low p.1 (a2_a1 mem i t (covered c)) d.0 d.1 d.2)
      (λ high. add_row (A2 i t) (A1 i) at i d.0 d.2 mem.tail _ (omega arith) p.0 refl refl refl refl refl
      (λ x u l z y. absurd (cc))
      (charged_older mem q.stations (stage q) h.charge sound s (stage (moved q s mem (A1 i))) (stage_other q m h s here mem (A1 i)) i t at (stage_mine q m h s here mem (A1 i)) high (covered c high))
      (d.0, omega (arith, d.1, p.1), refl) (a2_a1 mem i t (covered c)) (AddMark.stays (sym h.adds_at)))
      (cases_lt t mem.head))
    where
      d : Does mem (A2 i t) (m.doing s)
      d = does_at (A2 i t) at

      p : Fits mem (A2 i t)
      p = fits_at (A2 i t) at

      w : ℕ
      w = word mem t

      seen : (ltb (word_cycle mem.places w) (cycle mem.places t) && eqb (index mem.places w) (bottom mem.places)) ≡ true → Fits mem (A3 i t w)
      seen c = let x = and_parts _ _ c in (p.0, p.1, (eqb-true _ _ x.1, ltb-true _ _ x.0, inl refl))

      -- a ticket that Head has not passed is given up only because of an older pair
      covered : (ltb (word_cycle mem.places w) (cycle mem.places t) && eqb (index mem.places w) (bottom mem.places)) ≡ false → mem.head ≤ t → Blank mem w → ⊥
      covered c high b = both_ways _ c (and_from _ _ (lt-ltb _ _ (blank_older mem sound.shared t high b)) (eq-eqb _ _ b))

  pub turn_a3 : (i t e : ℕ) → stage q s ≡ A3 i t e → Turned Stands m s (carried q s (step mem q.limit (A3 i t e)))
  turn_a3 i t e at = cond_both (leb mem.head t) _ _ (λ r. Turned Stands m s (carried q s r))
      (λ c. let high = leb-true mem.head t c in
      add_quiet (A3 i t e) (A4 i t e) at i d.0 d.2 p refl refl refl refl refl refl
      (λ x u l z y. omega (arith, ap (λ v. v.0) (same_Some _ _ y)))
      (d.0, d.1, refl) (a3_a4 mem i t e high))
      (λ c. let low = leb-false mem.head t c in
      gives_up i t (A3 i t e) at refl refl refl refl refl low p.1 (a3_a1 mem i t e low) d.0 d.1 d.2)
    where
      d : Does mem (A3 i t e) (m.doing s)
      d = does_at (A3 i t e) at

      p : Fits mem (A3 i t e)
      p = fits_at (A3 i t e) at

  -- A4 has written index i under ticket t
  module _ (i t e : ℕ) (at : stage q s ≡ A4 i t e) (same : word mem t ≡ e) where
    abbrev w' : ℕ
    w' = join mem.places (cycle mem.places t) 1 i

    abbrev wrote : Memory
    wrote = with_word mem t w'

    abbrev next : ℕ → Stage
    next = stage (moved q s wrote (A5 t))

    d : Does mem (A4 i t e) (m.doing s)
    d = does_at (A4 i t e) at

    p : Fits mem (A4 i t e)
    p = fits_at (A4 i t e) at

    mine : next s ≡ A5 t
    mine = stage_mine q m h s here wrote (A5 t)

    others : (r : ℕ) → (r ≡ s → ⊥) → next r ≡ stage q r
    others = stage_other q m h s here wrote (A5 t)

    cycle' : word_cycle mem.places w' ≡ cycle mem.places t
    cycle' = join-cycle mem.places (cycle mem.places t) 1 i (omega arith) (omega (arith, p.0))

    index' : index mem.places w' ≡ i
    index' = join-index mem.places (cycle mem.places t) 1 i (omega (arith, p.0))

    blank : Blank mem (word mem t)
    blank = ap (index mem.places) same ∙ p.2.0

    earlier : word_cycle mem.places (word mem t) < cycle mem.places t
    earlier = omega (arith, ap (word_cycle mem.places) same, p.2.1)

    writing : writes (stage q s) ≡ Some i
    writing = ap writes at

    bringing : brings (stage q s) ≡ Some (t, i)
    bringing = ap brings at

    own_swap : swaps (stage q s) ≡ Some (t, word mem t)
    own_swap = ap swaps at ∙ ap (λ x. Some (t, x)) (sym same)

    before : pair mem t ≡ None
    before = filled_before mem sound.shared t w' i p.1 p.0 cycle' index' blank earlier

    entered : pair wrote t ≡ Some i
    entered = filled_after mem sound.shared t w' i p.1 p.0 cycle' index' blank earlier

    rest : (x : ℕ) → (x ≡ t → ⊥) → pair wrote x ≡ pair mem x
    rest = filled_rest mem sound.shared t w' i p.1 p.0 cycle' index' blank earlier

    from : (x j : ℕ) → pair wrote x ≡ Some j → (pair mem x ≡ Some j) ⊎ ((x ≡ t) × (i ≡ j))
    from = filled_from mem sound.shared t w' i p.1 p.0 cycle' index' blank earlier

    swaps_from : (r x w : ℕ) → swaps (next r) ≡ Some (x, w) → swaps (stage q r) ≡ Some (x, w)
    swaps_from r x w y = ⊎_elim (λ z. absurd (cc)) (λ z. z.1) (had (stage q) next s (A5 t) mine others swaps r (x, w) y)

    -- the item is no longer the station's, but a pair
    back : (x j : ℕ) → Item wrote next x j → Item mem (stage q) x j
    back x j (inl y) = ⊎_elim inl (λ z. inr (s, cc bringing)) (from x j y)
    back x j (inr y) = ⊎_elim (λ z. absurd (cc)) (λ z. inr (y.0, z.1)) (had (stage q) next s (A5 t) mine others brings y.0 (x, j) y.1)

    on : (x j : ℕ) → Item mem (stage q) x j → Item wrote next x j
    on x j (inl y) = inl (rest x (λ z. cc before) ∙ y)
    on x j (inr y) = ⊎_elim
        (λ z. let a = same_Some _ _ (sym bringing ∙ z) in inl (subst (λ v. pair wrote v.0 ≡ Some v.1) a entered))
        inr
        (has_still (stage q) next s (A5 t) mine others brings (x, j) y)

    -- none enters under a ticket that Head has passed and nobody holds
    holder : t < mem.head → (r : ℕ) × Holds m r t
    holder l = ⊎_elim
        (λ r. (r.0, holds_does mem (stage q r.0) (m.doing r.0) t (h.does r.0) (live_holds (stage q r.0) t r.1)))
        (λ x. absurd (dead x))
        (sound.held_or_dead t l)
      where
        dead : Dead mem (stage q) t → ⊥
        dead (Dead.overtaken a) = omega (arith, earlier)
        dead (Dead.spoilt a b) = omega (arith, earlier)
        dead (Dead.unsafe a b c) = omega (arith, c s t own_swap refl)

    written : Goal q m h s here Going wrote (A5 t)
    written = row q m h s here Going wrote (A5 t) (closing t) h.charge (record {
      keeps = record {
        places_stay = refl;
        tail_on = omega arith;
        head_on = omega arith;
        shared = filled_shared mem sound.shared t w' i p.1 p.0 cycle' index' blank earlier (λ x y. sound.not_both x s i y writing);
        fits_mine = p.1;
        fits_others = λ r o. filled_fits mem sound.shared t w' i p.1 p.0 cycle' index' blank earlier (stage q r) (sound.fits r);
        writes_from = λ j x. absurd (cc);
        pair_from = λ x j y. ⊎_elim inl (λ z. inr (ap Some (sym z.0), writing ∙ ap Some z.1, refl)) (from x j y);
        holds_from = λ x y. absurd (cc);
        dead_on = λ x l. filled_dead_on mem sound.shared t w' i p.1 p.0 cycle' index' blank earlier (stage q) next s own_swap swaps_from x;
        live_on = λ x y. absurd (cc);
        live_new = λ x a b. absurd (omega arith);
        behind_on = λ x a y. absurd (cc);
        charged = charged_less mem wrote (stage q) next h.charge refl (omega arith) (omega arith) back (λ x j a. on x j) sound.charged;
        closes_on = λ x j y a z. absurd (cc);
        credit_on = omega (arith, ints, ap (λ x. one_if (is_some (holds x))) at);
      };
      does_mine = refl;
      sooner = subst (λ x. Sooner mem x wrote (A5 t)) (sym at) (a4_a5 mem i t e wrote);
      goes = subst (λ x. Goes m s x Going (then q m h s here Going wrote (A5 t) (closing t))) (sym d.2)
          (AddGoes.enters t refl (put_same m.doing s (closing t))
          (record {
            before = h.pairs t ∙ before;
            after = entered;
            rest = λ x o. rest x o ∙ sym (h.pairs x);
          })
          d.1 (λ l. holder (omega (arith, h.takes_at))));
      adds = AddMark.stays (sym h.adds_at);
      takes = TakeMark.stays (sym h.takes_at);
    })

  pub turn_a4 : (i t e : ℕ) → stage q s ≡ A4 i t e → Turned Stands m s (carried q s (step mem q.limit (A4 i t e)))
  turn_a4 i t e at = cond_both (eqb (word mem t) e) _ _ (λ r. Turned Stands m s (carried q s r))
      (λ c. written i t e at (eqb-true _ _ c))
      (λ c. add_quiet (A4 i t e) (A2 i t) at i own.0 own.2 (f.0, f.1) refl refl refl refl refl refl
      (λ x u l z y. absurd (cc))
      (own.0, own.1, refl) (a4_a2 mem i t e (λ z. eqb-false _ _ c (sym z))))
    where
      own : Does mem (A4 i t e) (m.doing s)
      own = does_at (A4 i t e) at

      f : Fits mem (A4 i t e)
      f = fits_at (A4 i t e) at

  -- a row of a station that is closing a ticket
  module _ (st₀ st : Stage) (at : stage q s ≡ st₀) (z' : ℤ) where
    abbrev m'' : Memory
    m'' = with_threshold mem z'

    close_shift : mem.threshold ≤ℤ z' → z' ≤ℤ top mem.places → Fits m'' st → brings st ≡ brings st₀ → writes st ≡ None → holds st ≡ None → swaps st ≡ None →
        live st₀ ≡ None → behind st₀ ≡ None →
        ((x j : ℕ) → pair mem x ≡ Some j → mem.head ≤ x → closes st₀ ≡ Some x → (closes st ≡ Some x) ⊎ (pos (x + holders q.stations (stage (moved q s m'' st))) ≤ℤ (pos mem.head +ℤ z'))) →
        Shift q m h s here st₀ st at mem.head mem.tail z' h.charge
    close_shift up high fits b w no_hold no_swap no_live no_behind close = record {
      head_on = omega arith;
      tail_on = omega arith;
      threshold_high = high;
      fits_mine = fits;
      writes_from = λ j x. absurd (cc);
      holds_from = λ x y. absurd (cc);
      swaps_late = λ x u l z y. absurd (cc);
      live_on = λ x y. absurd (cc);
      live_new = λ x a c. absurd (omega arith);
      behind_on = λ x a y. absurd (cc);
      charged = charged_on q m h s here st₀ st at mem.head mem.tail z' b (omega arith) (omega arith);
      closes_on = close;
      credit_on = omega (arith, ints, ap (λ x. one_if (is_some x)) no_hold);
    }

  -- with Threshold at its highest there is room for every pair: from Head to Tail there are 2n tickets
  -- at the most, and fewer than n stations hold one
  topped : (m' : Memory) → (x j : ℕ) → pair mem x ≡ Some j → pos (x + holders q.stations (stage (moved q s m' Idle))) ≤ℤ (pos mem.head +ℤ top mem.places)
  topped m' x j y =
      let few = count_fewer q.stations (λ r. is_some (holds (stage (moved q s m' Idle) r))) s here (ap (λ z. is_some (holds z)) (stage_mine q m h s here m' Idle)) in
      omega (arith, ints, few, sound.crew, sound.shared.pairs_low x j y, window mem q.stations (stage q) h.charge sound)

  -- the add ends
  closed : (t : ℕ) (m' : Memory) → m.doing s ≡ closing t → t < m'.tail → ((x : ℕ) → pair m' x ≡ pair mem x) → Goes m s (m.doing s) Added (then q m h s here Added m' Idle idle)
  closed t m' de l same = subst (λ x. Goes m s x Added (then q m h s here Added m' Idle idle)) (sym de)
      (CloseGoes.ends refl (put_same m.doing s idle) (λ x. same x ∙ sym (h.pairs x)) l)

  pub turn_a5 : (t : ℕ) → stage q s ≡ A5 t → Turned Stands m s (carried q s (step mem q.limit (A5 t)))
  turn_a5 t at = cond_both (int_equal mem.threshold (top mem.places)) _ _ (λ r. Turned Stands m s (carried q s r))
      (λ c. let at_top = int_equal-true _ _ c in
      shift q m h s here (A5 t) Idle at mem.head mem.tail mem.threshold h.charge Added idle
      (close_shift (A5 t) Idle at mem.threshold (≤ℤ_refl _) sound.shared.threshold_high tt refl refl refl refl refl refl
      (λ x j y a z. inr (subst (λ v. pos (x + holders q.stations (stage (moved q s mem Idle))) ≤ℤ (pos mem.head +ℤ v)) (sym at_top) (topped mem x j y))))
      refl (a5_ends mem mem t) (closed t mem (does_at (A5 t) at) low (λ x. refl)) (AddMark.stays (sym h.adds_at)) (TakeMark.stays (sym h.takes_at)))
      (λ c. shift q m h s here (A5 t) (A6 t) at mem.head mem.tail mem.threshold h.charge Going (closing t)
      (close_shift (A5 t) (A6 t) at mem.threshold (≤ℤ_refl _) sound.shared.threshold_high low refl refl refl refl refl refl (λ x j y a z. inl z))
      refl (a5_a6 mem mem t)
      (subst (λ x. Goes m s x Going (then q m h s here Going mem (A6 t) (closing t))) (sym (does_at (A5 t) at))
      (CloseGoes.stays refl (put_same m.doing s (closing t)) (λ x. sym (h.pairs x))))
      (AddMark.stays (sym h.adds_at)) (TakeMark.stays (sym h.takes_at)))
    where
      low : t < mem.tail
      low = fits_at (A5 t) at

  pub turn_a6 : (t : ℕ) → stage q s ≡ A6 t → Turned Stands m s (carried q s (step mem q.limit (A6 t)))
  turn_a6 t at = shift q m h s here (A6 t) Idle at mem.head mem.tail (top mem.places) h.charge Added idle
      (close_shift (A6 t) Idle at (top mem.places) sound.shared.threshold_high (≤ℤ_refl _) tt refl refl refl refl refl refl
      (λ x j y a z. inr (topped (with_threshold mem (top mem.places)) x j y)))
      refl (a6_ends mem (with_threshold mem (top mem.places)) t)
      (closed t (with_threshold mem (top mem.places)) (does_at (A6 t) at) (fits_at (A6 t) at) (λ x. refl)) (AddMark.stays (sym h.adds_at)) (TakeMark.stays (sym h.takes_at))
