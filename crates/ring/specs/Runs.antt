-- Runs of a ring: calls that come one after the other, in any number and order.
--
-- Call             a begin-add, a begin-take or a turn
-- ran              the state after a list of calls, refused ones among them
-- RunsStand        a ring that has been made stands for a model after any run
--
-- Assumes nothing.
use Rattle.std.specs.Prelude.{◌≡◌, ℕ, ◌⊎◌, List, [], ◌∷◌, Ok, Result}
use Rattle.ring.specs.declared.Refusal.{Refusal}
use Rattle.ring.specs.declared.Progress.{Progress}
use Rattle.ring.specs.Model.{Model}

pub data Call : Type 0 where
  begin_add : (s i : ℕ) → Call
  begin_take : (s : ℕ) → Call
  turn : (s : ℕ) → Call

module _ (S : Type 0) (adds : S → ℕ → ℕ → Result Progress Refusal × S) (takes turns : S → ℕ → Result Progress Refusal × S) where
  abbrev pub called : S → Call → S
  called q (begin_add s i) = (adds q s i).1
  called q (begin_take s) = (takes q s).1
  called q (turn s) = (turns q s).1

  abbrev pub ran : S → List Call → S
  ran q [] = q
  ran q (c ∷ calls) = ran (called q c) calls

abbrev pub RunsStand : (S : Type 0) → (S → Model → Type 0) → (ℕ → ℕ → ℕ → Result S Refusal) → (ℕ → ℕ → ℕ → Result S Refusal) →
    (S → ℕ → ℕ → Result Progress Refusal × S) → (S → ℕ → Result Progress Refusal × S) → (S → ℕ → Result Progress Refusal × S) → Type 0
RunsStand S stands empty full adds takes turns =
    (n k l : ℕ) (q : S) → (empty n k l ≡ Ok q) ⊎ (full n k l ≡ Ok q) → (calls : List Call) → (m : Model) × stands (ran S adds takes turns q calls) m
