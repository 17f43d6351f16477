-- Parts of the step table, for the private functions.
--
-- is_free          the word is empty and of a cycle before the ticket's
-- bit              a safe bit as a number
-- ticket_taken     the ticket that a counter gives, and the counter after it
--
-- Assumes nothing.
use Rattle.std.specs.Prelude.{ℕ, ◌+◌, Bool, ◌&&◌, ◌==◌, if◌then◌else◌, Ok, Err, Result, nat_lt}
use Rattle.ring.specs.declared.Refusal.{Refusal}
use Rattle.ring.specs.declared.Refusal.TheVariants.{AtLimit}
use Rattle.scq_table.specs.Table.{cycle, word_cycle, index, bottom}

abbrev pub is_free : ℕ → ℕ → ℕ → Bool
is_free n w t = nat_lt (word_cycle n w) (cycle n t) && index n w == bottom n

abbrev pub bit : Bool → ℕ
bit b = if b then 1 else 0

abbrev pub ticket_taken : ℕ → ℕ → Result ℕ Refusal × ℕ
ticket_taken counter limit = if counter == limit then (Err AtLimit, counter) else (Ok counter, counter + 1)
