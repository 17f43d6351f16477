-- What the makes, the begins and the turns of a table mean, from what its own steps do.
use Rattle.std.proofs.Common.{◌≡◌, ℕ, ◌<◌, Bool, true, false, ltb, Decides, None, Ok, Err, Result, refl, arith}
use Rattle.std.proofs.lemmas.Bool.{cond_both, ltb-true, ltb-false}
use Rattle.std.proofs.lemmas.Bool.Decides.{not_from_Decides}
use Rattle.ring.specs.declared.Refusal.{Refusal}
use Rattle.ring.specs.Sizes.{Sized, Crewed, make_checked, Checked}
use Rattle.ring.specs.Model.{idle, adding, seeking, Model, Outside}
use Rattle.ring.specs.Meaning.{New, Made, Begun, AddRefused, TakeRefused, TurnRefused, AddBegun, TakeBegun, Turned}
use Rattle.ring.specs.Tables.{State, Row, moved, carried, made, stage_of, turned, add_begun, take_begun}
use Rattle.ring.proofs.Checks.{checked}

module _ {Memory Stage : Type 0} (stands : State Memory Stage → Model → Type 0) where
  pub made_means : (filled : Model → Type 0) (n k l : ℕ) (q : State Memory Stage) → (Sized n → Crewed n k → (m : Model) × (New n k l m × filled m × stands q m)) →
      Made stands filled n k l (made (make_checked n k l) q)
  made_means filled n k l q new = go (make_checked n k l) (checked n k l)
    where
      go : (r : Result (Unit {0}) Refusal) → Checked n k l r → Made stands filled n k l (made r q)
      go (Ok u) c = (c, new c.0 c.1)
      go (Err e) c = c

  -- none is the step of a station that has no call
  module _ (none : Stage) (q : State Memory Stage) (m : Model) (s : ℕ) (crew : m.stations ≡ q.stations) where
    here : ltb s q.stations ≡ true → s < m.stations
    here e = omega (arith, crew, ltb-true s q.stations e)

    pub turned_means : (step : Memory → ℕ → Stage → Row Memory Stage) →
        (s < q.stations → Turned stands m s (carried q s (step q.memory q.limit (stage_of none q s)))) → Turned stands m s (turned none step q s)
    turned_means step goes = cond_both (ltb s q.stations) _ _ (Turned stands m s)
        (λ c. goes (ltb-true _ _ c))
        (λ c. TurnRefused.no_station refl (omega (arith, crew, ltb-false s q.stations c)))

    module _ (is_idle : Stage → Bool) (idles : Decides (is_idle (stage_of none q s)) (m.doing s ≡ idle)) where
      pub take_begun_means : (first : Stage) →
          (s < q.stations → is_idle (stage_of none q s) ≡ true → (m' : Model) × (Begun m s (seeking m.take_mark None false) m' × stands (moved q s q.memory first) m')) →
          TakeBegun stands m s (take_begun none is_idle first q s)
      take_begun_means first begins = cond_both (ltb s q.stations) _ _ (TakeBegun stands m s)
          (λ c. cond_both (is_idle (stage_of none q s)) _ _ (TakeBegun stands m s)
          (λ d. (refl, begins (ltb-true _ _ c) d))
          (λ d. TakeRefused.busy refl (here c) (not_from_Decides _ idles d)))
          (λ c. TakeRefused.no_station refl (omega (arith, crew, ltb-false s q.stations c)))

      -- index i of n
      pub add_begun_means : (n i : ℕ) (outside : Bool) (first : Stage) → m.places ≡ n → (outside ≡ true → Outside m i) → (i < n → outside ≡ false → Outside m i → ⊥) →
          (s < q.stations → is_idle (stage_of none q s) ≡ true → i < n → outside ≡ true →
          (m' : Model) × (Begun m s (adding i m.add_mark) m' × stands (moved q s q.memory first) m')) →
          AddBegun stands m s i (add_begun none is_idle n outside first q s i)
      add_begun_means n i outside first size is_outside not_outside begins = cond_both (ltb s q.stations) _ _ (AddBegun stands m s i)
          (λ c. cond_both (is_idle (stage_of none q s)) _ _ (AddBegun stands m s i)
          (λ d. cond_both (ltb i n) _ _ (AddBegun stands m s i)
          (λ l. cond_both outside _ _ (AddBegun stands m s i)
          (λ o. (refl, small l, is_outside o, begins (ltb-true _ _ c) d (ltb-true _ _ l) o))
          (λ o. AddRefused.not_outside refl (here c) (idles.0 d) (small l) (not_outside (ltb-true _ _ l) o)))
          (λ l. AddRefused.no_index refl (here c) (idles.0 d) (omega (arith, size, ltb-false i n l))))
          (λ d. AddRefused.busy refl (here c) (not_from_Decides _ idles d)))
          (λ c. AddRefused.no_station refl (omega (arith, crew, ltb-false s q.stations c)))
        where
          small : ltb i n ≡ true → i < m.places
          small l = omega (arith, size, ltb-true i n l)
