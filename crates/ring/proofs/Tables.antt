-- A table's refusals leave the ring as it was, so its meaning is what its calls mean.
use Rattle.std.proofs.Common.{ℕ, Bool, ltb, Ok, Err, refl}
use Rattle.std.proofs.lemmas.Bool.{cond_both}
use Rattle.ring.specs.Model.{Model}
use Rattle.ring.specs.Meaning.{Kept, MadeEmpty, MadeFull, AddBegun, TakeBegun, Turned, HasMeaning}
use Rattle.ring.specs.Tables.{State, Row, carried, stage_of, turned, add_begun, take_begun, Steps, is_outside, empty, full, adds, takes, turns}

module _ {Memory Stage : Type 0} (q : State Memory Stage) (s : ℕ) where
  carried_kept : (r : Row Memory Stage) → Kept q (carried q s r)
  carried_kept (Ok p) e = cc
  carried_kept (Err x) e = refl

  module _ (idle : Stage) where
    pub turned_kept : (step : Memory → ℕ → Stage → Row Memory Stage) → Kept q (turned idle step q s)
    turned_kept step = cond_both (ltb s q.stations) _ _ (Kept q) (λ c. carried_kept (step q.memory q.limit (stage_of idle q s))) (λ c e. refl)

    pub add_begun_kept : (is_idle : Stage → Bool) (n : ℕ) (outside : Bool) (first : Stage) (i : ℕ) → Kept q (add_begun idle is_idle n outside first q s i)
    add_begun_kept is_idle n outside first i = cond_both (ltb s q.stations) _ _ (Kept q)
        (λ c. cond_both (is_idle (stage_of idle q s)) _ _ (Kept q)
        (λ d. cond_both (ltb i n) _ _ (Kept q)
        (λ l. cond_both outside _ _ (Kept q) (λ o e. cc) (λ o e. refl))
        (λ l e. refl))
        (λ d e. refl))
        (λ c e. refl)

    pub take_begun_kept : (is_idle : Stage → Bool) (first : Stage) → Kept q (take_begun idle is_idle first q s)
    take_begun_kept is_idle first = cond_both (ltb s q.stations) _ _ (Kept q)
        (λ c. cond_both (is_idle (stage_of idle q s)) _ _ (Kept q) (λ d e. cc) (λ d e. refl))
        (λ c e. refl)

pub meaning_of : {Memory Stage : Type 0} (t : Steps Memory Stage) (stands : State Memory Stage → Model → Type 0) →
    ((n k l : ℕ) → MadeEmpty stands n k l (empty t n k l)) → ((n k l : ℕ) → MadeFull stands n k l (full t n k l)) →
    ((q : State Memory Stage) (s i : ℕ) (m : Model) → stands q m → AddBegun stands m s i (adds t q s i)) →
    ((q : State Memory Stage) (s : ℕ) (m : Model) → stands q m → TakeBegun stands m s (takes t q s)) →
    ((q : State Memory Stage) (s : ℕ) (m : Model) → stands q m → Turned stands m s (turns t q s)) →
    HasMeaning (State Memory Stage) stands (empty t) (full t) (adds t) (takes t) (turns t)
meaning_of t stands made_empty made_full add_means take_means turn_means = record {
  empty_means = made_empty;
  full_means = made_full;
  add_kept = λ q s i. add_begun_kept q s t.idle t.is_idle (t.places q.memory) (is_outside t q i) (t.adding i) i;
  add_means = add_means;
  take_kept = λ q s. take_begun_kept q s t.idle t.is_idle t.taking;
  take_means = take_means;
  turn_kept = λ q s. turned_kept q s t.idle t.step;
  turn_means = turn_means;
}
