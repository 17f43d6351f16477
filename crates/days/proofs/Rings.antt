-- What follows of any one ring from its meaning: who holds which ticket, where an index is, and what
-- never comes back.
use Rattle.std.proofs.Common.{◌≡◌, ℕ, ◌+◌, ◌*◌, ◌<◌, ◌≤◌, Bool, true, ◌⊎◌, Some, None, Option, sym, refl, ap, ◌∙◌, inl, inr, ⊎_elim, arith}
use Rattle.std.proofs.lemmas.Bool.{cases_eq}
use Rattle.ring.specs.declared.Progress.{Progress}
use Rattle.ring.specs.declared.Progress.TheVariants.{Going, Added, Taken}
use Rattle.ring.specs.Model.{Doing, idle, adding, closing, seeking, Model, Holds, Outside, EachOnce}
use Rattle.ring.specs.Meaning.{New, SamePairs, OthersStay, Begun, Enters, Leaves, AddGoes, CloseGoes, Ticket, AllHeld, SeekGoes, Goes, AddMark, TakeMark, MayTurn}

-- an index is in a pair, or being added
abbrev pub Inside : Model → ℕ → Type 0
Inside m i = ((t : ℕ) × (m.under t ≡ Some i)) ⊎ ((s : ℕ) × (f : ℕ) × (m.doing s ≡ adding i f))

-- no pair stands under t, nor ever will
pub record Gone (m : Model) (t : ℕ) : Type 0 where
  pub none : m.under t ≡ None
  pub passed : t < m.take_mark
  pub unheld : (s : ℕ) → Holds m s t → ⊥

pub record Tidy (n k : ℕ) (m : Model) : Type 0 where
  pub places : m.places ≡ n
  pub stations : m.stations ≡ k
  pub indices : EachOnce m
  pub idle_beyond : (s : ℕ) → k ≤ s → m.doing s ≡ idle
  pub held_below : (s t : ℕ) → Holds m s t → t < m.take_mark
  pub one_holder : (s r t : ℕ) → Holds m s t → Holds m r t → s ≡ r
  pub held_late : (s f t : ℕ) (bare : Bool) → m.doing s ≡ seeking f (Some t) bare → f ≤ t
  pub soon : (s : ℕ) → (m.doing s ≡ idle) ⊎ (m.lone s < 16 * n + 16)

-- an accepted turn, by what it did
pub data Step (m : Model) (s : ℕ) (p : Progress) (m' : Model) : Type 0 where
  seeks : (f : ℕ) (held : Option ℕ) (bare : Bool) (held' : Option ℕ) (bare' : Bool) → m.doing s ≡ seeking f held bare → p ≡ Going →
      m'.doing s ≡ seeking f held' bare' → SamePairs m m' → (bare' ≡ true → (bare ≡ true) ⊎ AllHeld m s) → Step m s p m'
  finds_none : (f : ℕ) (held : Option ℕ) (bare : Bool) → m.doing s ≡ seeking f held bare → p ≡ Taken None →
      m'.doing s ≡ idle → SamePairs m m' → (bare ≡ true) ⊎ AllHeld m s → Step m s p m'
  takes : (f : ℕ) (held : Option ℕ) (bare : Bool) (t i : ℕ) → m.doing s ≡ seeking f held bare → p ≡ Taken (Some i) →
      m'.doing s ≡ idle → Leaves m t i m' → f ≤ t → Gone m' t → Step m s p m'
  adds : (i f : ℕ) → m.doing s ≡ adding i f → p ≡ Going → m'.doing s ≡ adding i f → SamePairs m m' → Step m s p m'
  enters : (i f t : ℕ) → m.doing s ≡ adding i f → p ≡ Going → m'.doing s ≡ closing t → Enters m t i m' → f ≤ t →
      (t < m.take_mark → (r : ℕ) × Holds m r t) → Step m s p m'
  closes : (t : ℕ) → m.doing s ≡ closing t → p ≡ Going → m'.doing s ≡ closing t → SamePairs m m' → Step m s p m'
  added : (t : ℕ) → m.doing s ≡ closing t → p ≡ Added → m'.doing s ≡ idle → SamePairs m m' → t < m'.add_mark → Step m s p m'

pub take_mark_rises : (m : Model) (s : ℕ) (p : Progress) (m' : Model) → TakeMark m s p m' → m.take_mark ≤ m'.take_mark
take_mark_rises m s p m' (TakeMark.stays e) = omega arith
take_mark_rises m s p m' (TakeMark.passes_held e h) = omega arith
take_mark_rises m s p m' (TakeMark.passes_taken i e a l) = omega arith

pub add_mark_rises : (m m' : Model) → AddMark m m' → m.add_mark ≤ m'.add_mark
add_mark_rises m m' (AddMark.stays e) = omega arith
add_mark_rises m m' (AddMark.rises e) = omega arith
add_mark_rises m m' (AddMark.catches_up a b) = a

pub outside_from : (m : Model) (i : ℕ) → (Inside m i → ⊥) → Outside m i
outside_from m i h = ((λ t e. h (inl (t, e))), (λ s f e. h (inr (s, f, e))))

-- what another station holds is what it held
held_before : (m m' : Model) (s r t : ℕ) → OthersStay m s m' → (r ≡ s → ⊥) → Holds m' r t → Holds m r t
held_before m m' s r t others e h = (h.0, h.1, sym (others r e) ∙ h.2)

-- a new ring
pub new_tidy : (n k l : ℕ) (m : Model) → New n k l m → Tidy n k m
new_tidy n k l m h = record {
  places = h.places;
  stations = h.stations;
  indices = h.indices;
  idle_beyond = λ s e. h.idle_all s;
  held_below = λ s t p. absurd (cc (h.idle_all s));
  one_holder = λ s r t p q. absurd (cc (h.idle_all s));
  held_late = λ s f t b p. absurd (cc (h.idle_all s));
  soon = λ s. inl (h.idle_all s);
}

-- begins: nobody comes to hold a ticket
module _ (n k : ℕ) (m : Model) (s : ℕ) (d : Doing) (m' : Model) (tidy : Tidy n k m) (b : Begun m s d m')
    (holds_none : (f t : ℕ) (bare : Bool) → d ≡ seeking f (Some t) bare → ⊥) where
  begun_held : (r t : ℕ) → Holds m' r t → Holds m r t
  begun_held r t h = ⊎_elim
      (λ e. absurd (holds_none h.0 t h.1 (sym b.does_now ∙ (ap m'.doing (sym e) ∙ h.2))))
      (λ e. held_before m m' s r t b.others e h)
      (cases_eq r s)

  pub begun_tidy : Tidy n k m'
  begun_tidy = record {
    places = b.sizes.places ∙ tidy.places;
    stations = b.sizes.stations ∙ tidy.stations;
    indices = b.indices;
    idle_beyond = λ r l. b.others r (λ e. omega (arith, b.station, tidy.stations)) ∙ tidy.idle_beyond r l;
    held_below = λ r t h. omega (arith, tidy.held_below r t (begun_held r t h), b.takes);
    one_holder = λ r q t h g. tidy.one_holder r q t (begun_held r t h) (begun_held q t g);
    held_late = λ r f t bare h. ⊎_elim
        (λ e. absurd (holds_none f t bare (sym b.does_now ∙ (ap m'.doing (sym e) ∙ h))))
        (λ e. tidy.held_late r f t bare (sym (b.others r e) ∙ h))
        (cases_eq r s);
    soon = λ r. ⊎_elim
        (λ e. inr (omega (arith, b.none_yet, ap m'.lone e)))
        (λ e. ⊎_elim (λ i. inl (b.others r e ∙ i)) (λ l. inr (omega (arith, b.counts_stay r e))) (tidy.soon r))
        (cases_eq r s);
  }

  pub begun_gone : (t : ℕ) → Gone m t → Gone m' t
  begun_gone t g = record { none = b.pairs t ∙ g.none; passed = omega (arith, b.takes, g.passed); unheld = λ r h. g.unheld r (begun_held r t h) }

-- turns
module _ (n k : ℕ) (m : Model) (s : ℕ) (p : Progress) (m' : Model) (tidy : Tidy n k m) (t : MayTurn m s p m') where
  -- a ticket that somebody comes to hold is one that the take mark passes
  new_held_by : (d : Doing) → Goes m s d p m' → m.doing s ≡ d → (u : ℕ) → Holds m' s u → Holds m s u ⊎ ((m.take_mark ≡ u) × (u < m'.take_mark))
  new_held_by idle g e u h = absurd g
  new_held_by (adding i f) (AddGoes.stays a x y) e u h = absurd (cc)
  new_held_by (adding i f) (AddGoes.enters v a x y z w) e u h = absurd (cc)
  new_held_by (closing v) (CloseGoes.stays a x y) e u h = absurd (cc)
  new_held_by (closing v) (CloseGoes.ends a x y z) e u h = absurd (cc)
  new_held_by (seeking f held bare) (SeekGoes.goes_on held' bare' a x y (Ticket.keeps c) z) e u h =
      inl (f, bare, cc)
  new_held_by (seeking f held bare) (SeekGoes.goes_on held' bare' a x y (Ticket.drops c w) z) e u h =
      absurd (cc)
  new_held_by (seeking f held bare) (SeekGoes.goes_on held' bare' a x y (Ticket.gets v c w q l r) z) e u h =
      let q' : v ≡ u = cc in inr (w ∙ q', omega arith)
  new_held_by (seeking f held bare) (SeekGoes.ends_with_none a x y z w) e u h = absurd (cc)
  new_held_by (seeking f held bare) (SeekGoes.ends_with_held v i a x y z) e u h = absurd (cc)
  new_held_by (seeking f held bare) (SeekGoes.ends_with_unheld v i a x y z w q l) e u h = absurd (cc)

  new_held : (r u : ℕ) → Holds m' r u → Holds m r u ⊎ ((r ≡ s) × (m.take_mark ≡ u) × (u < m'.take_mark))
  new_held r u h = ⊎_elim
      (λ e. ⊎_elim
      (λ o. inl (o.0, o.1, ap m.doing e ∙ o.2))
      (λ o. inr (e, o.0, o.1))
      (new_held_by (m.doing s) t.goes refl u (h.0, h.1, ap m'.doing (sym e) ∙ h.2)))
      (λ e. inl (held_before m m' s r u t.others e h))
      (cases_eq r s)

  passed_more : m.take_mark ≤ m'.take_mark
  passed_more = take_mark_rises m s p m' t.takes

  -- a ticket that is got at this turn is not below the mark at the begin
  got_late : (d : Doing) → Goes m s d p m' → m.doing s ≡ d → (f u : ℕ) (bare : Bool) → m'.doing s ≡ seeking f (Some u) bare → f ≤ u
  got_late idle g e f u bare h = absurd g
  got_late (adding i c) (AddGoes.stays a x y) e f u bare h = absurd (cc)
  got_late (adding i c) (AddGoes.enters v a x y z w) e f u bare h = absurd (cc)
  got_late (closing v) (CloseGoes.stays a x y) e f u bare h = absurd (cc)
  got_late (closing v) (CloseGoes.ends a x y z) e f u bare h = absurd (cc)
  got_late (seeking g held b) (SeekGoes.goes_on held' b' a x y (Ticket.keeps c) z) e f u bare h =
      let k : g ≡ f = cc in omega (arith, tidy.held_late s g u b (cc))
  got_late (seeking g held b) (SeekGoes.goes_on held' b' a x y (Ticket.drops c w) z) e f u bare h =
      absurd (cc)
  got_late (seeking g held b) (SeekGoes.goes_on held' b' a x y (Ticket.gets v c w q l r) z) e f u bare h =
      let k : g ≡ f = cc in let q' : v ≡ u = cc in omega arith
  got_late (seeking g held b) (SeekGoes.ends_with_none a x y z w) e f u bare h = absurd (cc)
  got_late (seeking g held b) (SeekGoes.ends_with_held v i a x y z) e f u bare h = absurd (cc)
  got_late (seeking g held b) (SeekGoes.ends_with_unheld v i a x y z w q l) e f u bare h = absurd (cc)

  ends_or_goes_on : (d : Doing) → Goes m s d p m' → (m'.doing s ≡ idle) ⊎ (p ≡ Going)
  ends_or_goes_on idle g = absurd g
  ends_or_goes_on (adding i f) (AddGoes.stays a x y) = inr a
  ends_or_goes_on (adding i f) (AddGoes.enters v a x y z w) = inr a
  ends_or_goes_on (closing v) (CloseGoes.stays a x y) = inr a
  ends_or_goes_on (closing v) (CloseGoes.ends a x y z) = inl x
  ends_or_goes_on (seeking f held bare) (SeekGoes.goes_on held' bare' a x y c z) = inr a
  ends_or_goes_on (seeking f held bare) (SeekGoes.ends_with_none a x y z w) = inl x
  ends_or_goes_on (seeking f held bare) (SeekGoes.ends_with_held v i a x y z) = inl x
  ends_or_goes_on (seeking f held bare) (SeekGoes.ends_with_unheld v i a x y z w q l) = inl x

  pub turn_tidy : Tidy n k m'
  turn_tidy = record {
    places = t.sizes.places ∙ tidy.places;
    stations = t.sizes.stations ∙ tidy.stations;
    indices = t.indices;
    idle_beyond = λ r l. t.others r (λ e. omega (arith, t.station, tidy.stations)) ∙ tidy.idle_beyond r l;
    held_below = λ r u h. ⊎_elim (λ o. omega (arith, tidy.held_below r u o, passed_more)) (λ o. o.2) (new_held r u h);
    one_holder = λ r q u h g. ⊎_elim
        (λ o. ⊎_elim (λ x. tidy.one_holder r q u o x) (λ x. absurd (omega (arith, tidy.held_below r u o, x.1))) (new_held q u g))
        (λ o. ⊎_elim (λ x. absurd (omega (arith, tidy.held_below q u x, o.1))) (λ x. o.0 ∙ sym x.0) (new_held q u g))
        (new_held r u h);
    held_late = λ r f u bare h. ⊎_elim
        (λ e. got_late (m.doing s) t.goes refl f u bare (ap m'.doing (sym e) ∙ h))
        (λ e. tidy.held_late r f u bare (sym (t.others r e) ∙ h))
        (cases_eq r s);
    soon = λ r. ⊎_elim
        (λ e. ⊎_elim (λ i. inl (ap m'.doing e ∙ i)) (λ g. inr (omega (arith, t.soon g, tidy.places, ap m'.lone e))) (ends_or_goes_on (m.doing s) t.goes))
        (λ e. inr (omega (arith, t.others_alone_no_more r e)))
        (cases_eq r s);
  }

  pub turn_gone : (u : ℕ) → Gone m u → Gone m' u
  turn_gone u g = record {
    none = stays_none (m.doing s) t.goes;
    passed = omega (arith, g.passed, passed_more);
    unheld = λ r h. ⊎_elim (λ o. g.unheld r o) (λ o. omega (arith, g.passed, o.1)) (new_held r u h);
  }
    where
      -- the pair that enters at v
      not_entered : (v i : ℕ) → Enters m v i m' → (v < m.take_mark → (r : ℕ) × Holds m r v) → m'.under u ≡ None
      not_entered v i y w = ⊎_elim
          (λ e. let held = w (omega (arith, g.passed, e)) in absurd (g.unheld held.0 (held.1.0, held.1.1, held.1.2 ∙ ap (λ x. seeking held.1.0 (Some x) held.1.1) (sym e))))
          (λ e. y.rest u e ∙ g.none)
          (cases_eq u v)

      left_none : (v i : ℕ) → Leaves m v i m' → m'.under u ≡ None
      left_none v i y = ⊎_elim (λ e. ap m'.under e ∙ y.after) (λ e. y.rest u e ∙ g.none) (cases_eq u v)

      stays_none : (d : Doing) → Goes m s d p m' → m'.under u ≡ None
      stays_none idle x = absurd x
      stays_none (adding i f) (AddGoes.stays a x y) = y u ∙ g.none
      stays_none (adding i f) (AddGoes.enters v a x y z w) = not_entered v i y w
      stays_none (closing v) (CloseGoes.stays a x y) = y u ∙ g.none
      stays_none (closing v) (CloseGoes.ends a x y z) = y u ∙ g.none
      stays_none (seeking f held bare) (SeekGoes.goes_on held' bare' a x y c z) = y u ∙ g.none
      stays_none (seeking f held bare) (SeekGoes.ends_with_none a x y z w) = y u ∙ g.none
      stays_none (seeking f held bare) (SeekGoes.ends_with_held v i a x y z) = left_none v i y
      stays_none (seeking f held bare) (SeekGoes.ends_with_unheld v i a x y z w q l) = left_none v i y

  -- two stations never hold one ticket, so nobody holds that of a pair that has left
  pub step_of : Step m s p m'
  step_of = by (m.doing s) t.goes refl
    where
      others_not : (f v : ℕ) (bare : Bool) → m.doing s ≡ seeking f (Some v) bare → m'.doing s ≡ idle → (r : ℕ) → Holds m' r v → ⊥
      others_not f v bare e x r h = ⊎_elim
          (λ o. absurd (cc (tidy.one_holder r s v o (f, bare, e))))
          (λ o. absurd (cc))
          (new_held r v h)

      by : (d : Doing) → Goes m s d p m' → m.doing s ≡ d → Step m s p m'
      by idle g e = absurd g
      by (adding i f) (AddGoes.stays a x y) e = adds i f e a x y
      by (adding i f) (AddGoes.enters v a x y z w) e = enters i f v e a x y z w
      by (closing v) (CloseGoes.stays a x y) e = closes v e a x y
      by (closing v) (CloseGoes.ends a x y z) e = added v e a x y z
      by (seeking f held bare) (SeekGoes.goes_on held' bare' a x y c z) e = seeks f held bare held' bare' e a x y z
      by (seeking f held bare) (SeekGoes.ends_with_none a x y z w) e = finds_none f held bare e a x y w
      by (seeking f held bare) (SeekGoes.ends_with_held v i a x y z) e =
          let e' : m.doing s ≡ seeking f (Some v) bare = e ∙ ap (λ o. seeking f o bare) z in
          takes f held bare v i e a x y (tidy.held_late s f v bare e')
          (record { none = y.after; passed = omega (arith, tidy.held_below s v (f, bare, e'), passed_more); unheld = others_not f v bare e' x })
      by (seeking f held bare) (SeekGoes.ends_with_unheld v i a x y z w q l) e =
          takes f held bare v i e a x y q (record { none = y.after; passed = l; unheld = λ r h. ⊎_elim (λ o. w r o) (λ o. absurd (cc)) (new_held r v h) })
