-- Whether a station may begin a call, with the first refusal that fits where it may not.
--
-- Assumes nothing.
use Rattle.std.specs.Prelude.{ℕ, if◌then◌else◌, Ok, Err, Result, nat_lt}
use Rattle.ring.specs.declared.Refusal.{Refusal}
use Rattle.ring.specs.declared.Refusal.TheVariants.{NoStation, Busy}
use Rattle.ring.specs.Tables.{State, Steps, stage_of}

abbrev pub may_begin : {Memory Stage : Type 0} → Steps Memory Stage → State Memory Stage → ℕ → Result (Unit {0}) Refusal
may_begin t q s = if nat_lt s q.stations then (if t.is_idle (stage_of t.idle q s) then Ok tt else Err Busy) else Err NoStation
