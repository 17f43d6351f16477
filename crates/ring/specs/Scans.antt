-- Tests of all numbers below a bound, as a loop over slots or stations makes them.
--
-- any_below        some number below c passes the test
-- count_below      how many numbers below c pass it
--
-- Assumes nothing.
use Rattle.std.specs.Prelude.{ℕ, zero, suc, ◌+◌, Bool, false, if◌then◌else◌, ◌||◌}

abbrev pub any_below : ℕ → (ℕ → Bool) → Bool
any_below zero test = false
any_below (suc c) test = test c || any_below c test

abbrev pub count_below : ℕ → (ℕ → Bool) → ℕ
count_below zero test = 0
count_below (suc c) test = (if test c then 1 else 0) + count_below c test
