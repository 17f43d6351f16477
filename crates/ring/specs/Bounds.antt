-- Bounds that keep a ring's numbers far from the ends of their types.
--
-- Fitting          what the bounds ask of a ring's sizes
-- KeepsBounds      a new ring is within the bounds, each call keeps them, and within them each step is safe
--
-- Assumes nothing.
use Rattle.std.specs.Prelude.{◌≡◌, ℕ, ◌*◌, ◌<◌, ◌≤◌, true, List, replicate, Ok, slice_index_or, slice_set}
use Rattle.ring.specs.declared.Progress.{Progress}
use Rattle.ring.specs.Tables.{Steps}

-- n places, k stations, limit l
pub record Fitting (n k l : ℕ) : Type 0 where
  pub some_place : 1 ≤ n
  pub few_places : n ≤ 64
  pub some_station : 1 ≤ k
  pub crew : k ≤ n
  pub limit_high : 4 * n ≤ l
  pub limit_low : l ≤ 999999999

-- of k stations, limit l, the memory and each station's step: `fits` is what the station's next step needs
pub record KeepsBounds (M S : Type 0) (t : Steps M S) (fits : ℕ → M → S → Type 0) (bounded : ℕ → ℕ → M → List S → Type 0) : Type 0 where
  pub new_empty : (n k l : ℕ) → Fitting n k l → bounded k l (t.empty n) (replicate 64 t.idle)
  pub new_full : (n k l : ℕ) → Fitting n k l → bounded k l (t.full n) (replicate 64 t.idle)
  pub add_begun : (k l : ℕ) (m : M) (xs : List S) (s i : ℕ) → bounded k l m xs →
      t.is_idle (slice_index_or xs s t.idle) ≡ true → i < t.places m → bounded k l m (slice_set xs s (t.adding i))
  pub take_begun : (k l : ℕ) (m : M) (xs : List S) (s : ℕ) → bounded k l m xs →
      t.is_idle (slice_index_or xs s t.idle) ≡ true → bounded k l m (slice_set xs s t.taking)
  pub step_fits : (k l : ℕ) (m : M) (xs : List S) (s : ℕ) → bounded k l m xs → s < k → fits l m (slice_index_or xs s t.idle)
  pub stepped : (k l : ℕ) (m m' : M) (xs : List S) (s : ℕ) (a : Progress) (st : S) → bounded k l m xs → s < k →
      t.step m l (slice_index_or xs s t.idle) ≡ Ok (a, m', st) → bounded k l m' (slice_set xs s st)
