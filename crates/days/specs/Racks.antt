-- The rack: the caller's memory of one record for each place, and then one for each station, its hand.
--
-- Lies             a record lies at a place of the rack
-- copied           the rack with the record at one place copied to another
-- hand             where the hand of a station is
--
-- Assumes nothing.
use Rattle.std.specs.Prelude.{◌≡◌, ℕ, ◌+◌, ◌<◌, List, [], ◌∷◌, length, drop, slice_index_or, slice_set}

-- within the rack the value that `get_or` would give past its end does not matter
pub record Lies {R : Type 0} (rack : List R) (j : ℕ) (r : R) : Type 0 where
  pub within : j < length rack
  pub there : (d : R) → slice_index_or rack j d ≡ r

-- the first of the records `from` is copied to place j
abbrev onto : {R : Type 0} → List R → ℕ → List R → List R
onto rack j [] = rack
onto rack j (r ∷ from) = slice_set rack j r

abbrev pub copied : {R : Type 0} → List R → ℕ → ℕ → List R
copied rack i j = onto rack j (drop i rack)

-- the hand of station s, behind the n places
abbrev pub hand : ℕ → ℕ → ℕ
hand n s = n + s
