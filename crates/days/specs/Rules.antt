-- The rules that every day keeps, said of its book.
--
-- Put, Take        a number is that of a put, or of a take
-- InProgress       a put or take whose begin was accepted and that has not ended
-- EndedWith        a put or take that has ended, and the number of its answer
-- Has              a take has its record from a put
-- Waiting          a put's record waits
-- Claimed          a take in progress has claimed a put's record
-- Prefix           a day up to some instant of it
-- AtSomeInstant    at some instant between the begin and the end of a put or take
-- AtLeast          there are n different numbers of a kind
-- NothingLeft      each waiting record is claimed by another take in progress
-- Full             waiting records and other calls in progress are n or more, counted together
-- Rules            the rules
--
-- Assumes nothing.
use Rattle.std.specs.Prelude.{◌≡◌, ℕ, ◌+◌, ◌*◌, ◌<◌, ◌≤◌, ◌⊎◌, Some, None, ◌≢◌}
use Rattle.ring.specs.Numbers.{answer_number}
use Rattle.ring.specs.Model.{Holds}
use Rattle.days.specs.Racks.{Lies, hand}
use Rattle.days.specs.Day.{Call, begin_put, begin_take, turn, Instant, Day, on, scene, clock}
use Rattle.days.specs.Book.{End, Book, book}

abbrev pub station_of : {R : Type 0} → Call R → ℕ
station_of (begin_put s r) = s
station_of (begin_take s) = s
station_of (turn s) = s

-- y is a put, of `record` by `station`
pub record Put {R : Type 0} (β : Book R) (y : ℕ) : Type 0 where
  pub station : ℕ
  pub what : R
  pub is : β.begun y ≡ Some (begin_put station what)

-- x is a take by `station`
pub record Take {R : Type 0} (β : Book R) (x : ℕ) : Type 0 where
  pub station : ℕ
  pub is : β.begun x ≡ Some (begin_take station)

-- in progress: from the accepted begin until the turn that ends it
pub record InProgress {R : Type 0} (β : Book R) (b : ℕ) : Type 0 where
  pub call : Call R
  pub is : β.begun b ≡ Some call
  pub going : β.ended b ≡ None

pub record EndedWith {R : Type 0} (β : Book R) (b number : ℕ) : Type 0 where
  pub end : End R
  pub is : β.ended b ≡ Some end
  pub with : answer_number end.answer ≡ number

-- the pair that enters the waiting ring on a turn of a put stands for the put's record; the take that
-- removes this pair has the record from that put
pub record Has {R : Type 0} (β : Book R) (x y : ℕ) : Type 0 where
  pub take : Take β x
  pub put : Put β y
  pub ticket : ℕ
  pub left : β.ticket x ≡ Some ticket
  pub entered : β.ticket y ≡ Some ticket

-- a record waits when its put has ended with 101 and no take has ended with it
pub record Waiting {R : Type 0} (β : Book R) (y : ℕ) : Type 0 where
  pub put : Put β y
  pub done : EndedWith β y 101
  pub not_taken : (x : ℕ) → EndedWith β x 103 → Has β x y → ⊥

-- a take in progress has claimed a record when it holds the ticket of its pair in the waiting ring, or
-- has removed that pair
pub record Claimed {R : Type 0} (d : Day R) (x y : ℕ) : Type 0 where
  pub take : Take (book d) x
  pub going : (book d).ended x ≡ None
  pub claim : Has (book d) x y ⊎ ((t : ℕ) × ((book d).ticket y ≡ Some t) × Holds (scene d).waiting take.station t)

-- p is the day d up to some instant
pub data Prefix {R : Type 0} (p : Day R) : Day R → Type 0 where
  whole : Prefix p p
  earlier : (d : Day R) (i : Instant R) → Prefix p d → Prefix p (on d i)

-- at some instant from the begin of b, counted, until the day had had `end` calls
pub record AtSomeInstant {R : Type 0} (d : Day R) (b end : ℕ) (P : Day R → Type 0) : Type 0 where
  pub upto : Day R
  pub prefix : Prefix upto d
  pub begun : b < clock upto
  pub not_over : clock upto ≤ end
  pub holds : P upto

pub record AtLeast (n : ℕ) (P : ℕ → Type 0) : Type 0 where
  pub which : ℕ → ℕ
  pub each : (i : ℕ) → i < n → P (which i)
  pub different : (i j : ℕ) → i < n → j < n → which i ≡ which j → i ≡ j

abbrev pub NothingLeft : {R : Type 0} → ℕ → Day R → Type 0
NothingLeft x p = (y : ℕ) → Waiting (book p) y → (x' : ℕ) × (x' ≢ x) × Claimed p x' y

-- a record that waits and a call in progress are never the same put, since the put has ended
abbrev pub Full : {R : Type 0} → ℕ → ℕ → Day R → Type 0
Full n y p = AtLeast n (λ b. Waiting (book p) b ⊎ ((b ≢ y) × InProgress (book p) b))

pub record Rules {R : Type 0} (n : ℕ) (d : Day R) : Type 0 where
  -- a put ends with 101 or 102, a take with 103 or 104
  pub answers : (b : ℕ) (e : End R) → (book d).ended b ≡ Some e →
      (Put (book d) b × (EndedWith (book d) b 101 ⊎ EndedWith (book d) b 102)) ⊎ (Take (book d) b × (EndedWith (book d) b 103 ⊎ EndedWith (book d) b 104))
  -- a station has at most one call in progress
  pub one_call : (b b' : ℕ) (h : InProgress (book d) b) (h' : InProgress (book d) b') → station_of h.call ≡ station_of h'.call → b ≡ b'
  -- each take that ended with a record had it from a put, and its hand then held what the begin-put was given
  pub unaltered : (x : ℕ) (t : Take (book d) x) (e : EndedWith (book d) x 103) →
      (y : ℕ) × (h : Has (book d) x y) × Lies e.end.rack (hand n t.station) h.put.what
  -- no two takes have it from the same put, and none from two
  pub one_take : (x x' y : ℕ) → Has (book d) x y → Has (book d) x' y → x ≡ x'
  pub one_put : (x y y' : ℕ) → Has (book d) x y → Has (book d) x y' → y ≡ y'
  -- once take x has ended with the record of put y, no take begun later ends with one whose put y' ended
  -- before y began
  pub in_order : (x y x' y' : ℕ) (e : EndedWith (book d) x 103) (e' : EndedWith (book d) y' 101) → Has (book d) x y →
      EndedWith (book d) x' 103 → Has (book d) x' y' → e.end.when ≤ x' → e'.end.when ≤ y → ⊥
  -- within a take that ends empty, some instant finds each waiting record claimed by another take in progress
  pub empty : (x : ℕ) → Take (book d) x → (e : EndedWith (book d) x 104) → AtSomeInstant d x e.end.when (NothingLeft x)
  -- within a put that ends full, some instant has n or more waiting records and other calls in progress
  pub full : (y : ℕ) → Put (book d) y → (e : EndedWith (book d) y 102) → AtSomeInstant d y e.end.when (Full n y)
  -- a call in progress has had fewer than 40n + 40 turns with no accepted turn of another station between
  pub ends_soon : (b : ℕ) (h : InProgress (book d) b) → (book d).lone (station_of h.call) < 40 * n + 40
