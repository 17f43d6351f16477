-- A ring with the meaning stands for a model after any run.
use Rattle.std.proofs.Common.{ℕ, List, [], ◌∷◌, Ok, Err, Result, refl, subst, ⊎_elim}
use Rattle.ring.specs.declared.Refusal.{Refusal}
use Rattle.ring.specs.declared.Progress.{Progress}
use Rattle.ring.specs.Model.{Model}
use Rattle.ring.specs.Meaning.{Kept, Made, AddBegun, TakeBegun, Turned, HasMeaning}
use Rattle.ring.specs.Runs.{Call, begin_add, begin_take, turn, called, ran, RunsStand}

module _ (S : Type 0) (stands : S → Model → Type 0) (empty full : ℕ → ℕ → ℕ → Result S Refusal)
    (adds : S → ℕ → ℕ → Result Progress Refusal × S) (takes turns : S → ℕ → Result Progress Refusal × S)
    (means : HasMeaning S stands empty full adds takes turns) where
  abbrev SomeModel : S → Type 0
  SomeModel q = (m : Model) × stands q m

  -- a refusal leaves the state, and an accepted call leads to the next model

  added : (q : S) (m : Model) → stands q m → (s i : ℕ) (r : Result Progress Refusal) (q' : S) → Kept q (r, q') → AddBegun stands m s i (r, q') → SomeModel q'
  added q m h s i (Ok a) q' k p = (p.3.0, p.3.1.1)
  added q m h s i (Err e) q' k p = (m, rw (k refl) h)

  took : (q : S) (m : Model) → stands q m → (s : ℕ) (r : Result Progress Refusal) (q' : S) → Kept q (r, q') → TakeBegun stands m s (r, q') → SomeModel q'
  took q m h s (Ok a) q' k p = (p.1.0, p.1.1.1)
  took q m h s (Err e) q' k p = (m, rw (k refl) h)

  turned : (q : S) (m : Model) → stands q m → (s : ℕ) (r : Result Progress Refusal) (q' : S) → Kept q (r, q') → Turned stands m s (r, q') → SomeModel q'
  turned q m h s (Ok a) q' k p = (p.0, p.1.1)
  turned q m h s (Err e) q' k p = (m, rw (k refl) h)

  one_call : (q : S) (m : Model) → stands q m → (c : Call) → SomeModel (called S adds takes turns q c)
  one_call q m h (begin_add s i) = added q m h s i (adds q s i).0 (adds q s i).1 (means.add_kept q s i) (means.add_means q s i m h)
  one_call q m h (begin_take s) = took q m h s (takes q s).0 (takes q s).1 (means.take_kept q s) (means.take_means q s m h)
  one_call q m h (turn s) = turned q m h s (turns q s).0 (turns q s).1 (means.turn_kept q s) (means.turn_means q s m h)

  any_run : (q : S) → SomeModel q → (calls : List Call) → SomeModel (ran S adds takes turns q calls)
  any_run q h [] = h
  any_run q h (c ∷ calls) = any_run (called S adds takes turns q c) (one_call q h.0 h.1 c) calls

  made : (filled : Model → Type 0) (n k l : ℕ) (q : S) → Made stands filled n k l (Ok q) → SomeModel q
  made filled n k l q p = (p.1.0, p.1.1.2)

  pub runs_stand : RunsStand S stands empty full adds takes turns
  runs_stand n k l q new calls = any_run q (⊎_elim
      (λ e. made _ n k l q (subst (Made stands _ n k l) e (means.empty_means n k l)))
      (λ e. made _ n k l q (subst (Made stands _ n k l) e (means.full_means n k l))) new) calls
