-- What each call does to the model that a ring stands for: m before the call, m' after it.
--
-- Kept             a refused call leaves the state as it was
-- MadeEmpty        a ring made empty stands for no pair
-- MadeFull         a ring made full stands for one pair for each index
-- AddBegun         what a begin-add may answer and do
-- TakeBegun        what a begin-take may answer and do
-- Turned           what a turn may answer and do
-- HasMeaning       the exact outcomes of a ring's calls do all that
--
-- Assumes nothing.
use Rattle.std.specs.Prelude.{◌≡◌, ℕ, ◌+◌, ◌*◌, ◌<◌, ◌≤◌, Bool, true, false, ◌⊎◌, is_err, Some, None, Ok, Err, Option, Result, ◌≢◌}
use Rattle.ring.specs.declared.Refusal.{Refusal}
use Rattle.ring.specs.declared.Progress.{Progress}
use Rattle.ring.specs.declared.Progress.TheVariants.{Going, Added, Taken}
use Rattle.ring.specs.Numbers.{refusal_number}
use Rattle.ring.specs.Sizes.{Sized, Crewed, Limited, MakeRefused}
use Rattle.ring.specs.Model.{Doing, idle, adding, closing, seeking, Model, Holds, AddEnded, Outside, EachOnce}

-- a refused call leaves the state as it was

abbrev pub Kept : {S A E : Type 0} → S → Result A E × S → Type 0
Kept q p = is_err p.0 ≡ true → p.1 ≡ q

-- makes

abbrev pub viewed : {X S : Type 0} → (X → S) → Result X Refusal → Result S Refusal
viewed view (Ok x) = Ok (view x)
viewed view (Err e) = Err e

-- a new ring: every station idle, no mark over 3n
pub record New (n k l : ℕ) (m : Model) : Type 0 where
  pub places : m.places ≡ n
  pub stations : m.stations ≡ k
  pub limit : m.limit ≡ l
  pub idle_all : (s : ℕ) → m.doing s ≡ idle
  pub add_low : m.add_mark ≤ 3 * n
  pub take_low : m.take_mark ≤ 3 * n
  pub indices : EachOnce m

abbrev pub NoPairs : Model → Type 0
NoPairs m = (t : ℕ) → m.under t ≡ None

-- with `indices` above: n pairs, under n different tickets
abbrev pub AllPairs : Model → Type 0
AllPairs m = (i : ℕ) → i < m.places → (t : ℕ) × (m.under t ≡ Some i)

abbrev pub Made : {S : Type 0} → (S → Model → Type 0) → (Model → Type 0) → ℕ → ℕ → ℕ → Result S Refusal → Type 0
Made stands filled n k l (Ok q) = (Sized n × Crewed n k × Limited n l) × ((m : Model) × (New n k l m × filled m × stands q m))
Made stands filled n k l (Err e) = MakeRefused n k l e

abbrev pub MadeEmpty : {S : Type 0} → (S → Model → Type 0) → ℕ → ℕ → ℕ → Result S Refusal → Type 0
MadeEmpty stands = Made stands NoPairs

abbrev pub MadeFull : {S : Type 0} → (S → Model → Type 0) → ℕ → ℕ → ℕ → Result S Refusal → Type 0
MadeFull stands = Made stands AllPairs

-- what may change

pub record SameSizes (m m' : Model) : Type 0 where
  pub places : m'.places ≡ m.places
  pub stations : m'.stations ≡ m.stations
  pub limit : m'.limit ≡ m.limit

abbrev pub SamePairs : Model → Model → Type 0
SamePairs m m' = (t : ℕ) → m'.under t ≡ m.under t

abbrev pub OthersStay : Model → ℕ → Model → Type 0
OthersStay m s m' = (r : ℕ) → r ≢ s → m'.doing r ≡ m.doing r

-- begins: only the station's own doing changes, and its lone turns begin at 0

pub record Begun (m : Model) (s : ℕ) (does : Doing) (m' : Model) : Type 0 where
  pub station : s < m.stations
  pub was_idle : m.doing s ≡ idle
  pub does_now : m'.doing s ≡ does
  pub others : OthersStay m s m'
  pub sizes : SameSizes m m'
  pub pairs : SamePairs m m'
  pub adds : m'.add_mark ≡ m.add_mark
  pub takes : m'.take_mark ≡ m.take_mark
  pub none_yet : m'.lone s ≡ 0
  pub counts_stay : (r : ℕ) → r ≢ s → m'.lone r ≡ m.lone r
  pub indices : EachOnce m'

pub data AddRefused (m : Model) (s i : ℕ) (e : Refusal) : Type 0 where
  no_station : refusal_number e ≡ 5 → m.stations ≤ s → AddRefused m s i e
  busy : refusal_number e ≡ 6 → s < m.stations → m.doing s ≢ idle → AddRefused m s i e
  no_index : refusal_number e ≡ 9 → s < m.stations → m.doing s ≡ idle → m.places ≤ i → AddRefused m s i e
  not_outside : refusal_number e ≡ 10 → s < m.stations → m.doing s ≡ idle → i < m.places → (Outside m i → ⊥) → AddRefused m s i e

pub data TakeRefused (m : Model) (s : ℕ) (e : Refusal) : Type 0 where
  no_station : refusal_number e ≡ 5 → m.stations ≤ s → TakeRefused m s e
  busy : refusal_number e ≡ 6 → s < m.stations → m.doing s ≢ idle → TakeRefused m s e

abbrev AddBegunAs : {S : Type 0} → (S → Model → Type 0) → Model → ℕ → ℕ → Result Progress Refusal → S → Type 0
AddBegunAs stands m s i (Ok a) q' = (a ≡ Going) × (i < m.places) × Outside m i × ((m' : Model) × (Begun m s (adding i m.add_mark) m' × stands q' m'))
AddBegunAs stands m s i (Err e) q' = AddRefused m s i e

abbrev pub AddBegun : {S : Type 0} → (S → Model → Type 0) → Model → ℕ → ℕ → Result Progress Refusal × S → Type 0
AddBegun stands m s i p = AddBegunAs stands m s i p.0 p.1

abbrev TakeBegunAs : {S : Type 0} → (S → Model → Type 0) → Model → ℕ → Result Progress Refusal → S → Type 0
TakeBegunAs stands m s (Ok a) q' = (a ≡ Going) × ((m' : Model) × (Begun m s (seeking m.take_mark None false) m' × stands q' m'))
TakeBegunAs stands m s (Err e) q' = TakeRefused m s e

abbrev pub TakeBegun : {S : Type 0} → (S → Model → Type 0) → Model → ℕ → Result Progress Refusal × S → Type 0
TakeBegun stands m s p = TakeBegunAs stands m s p.0 p.1

-- turns: the pairs and the station's own doing

-- the pair of ticket t and index i enters
pub record Enters (m : Model) (t i : ℕ) (m' : Model) : Type 0 where
  pub before : m.under t ≡ None
  pub after : m'.under t ≡ Some i
  pub rest : (u : ℕ) → u ≢ t → m'.under u ≡ m.under u

-- the pair of ticket t and index i leaves, and its index is outside
pub record Leaves (m : Model) (t i : ℕ) (m' : Model) : Type 0 where
  pub before : m.under t ≡ Some i
  pub after : m'.under t ≡ None
  pub rest : (u : ℕ) → u ≢ t → m'.under u ≡ m.under u
  pub outside : Outside m' i

-- an adding station stays so, or its pair enters; none enters under a ticket below the take mark
-- that nobody holds
pub data AddGoes (m : Model) (s i f : ℕ) (a : Progress) (m' : Model) : Type 0 where
  stays : a ≡ Going → m'.doing s ≡ adding i f → SamePairs m m' → AddGoes m s i f a m'
  enters : (t : ℕ) → a ≡ Going → m'.doing s ≡ closing t → Enters m t i m' → f ≤ t →
      (t < m.take_mark → (r : ℕ) × Holds m r t) → AddGoes m s i f a m'

-- a closing station stays so, or ends when its ticket is below the add mark
pub data CloseGoes (m : Model) (s t : ℕ) (a : Progress) (m' : Model) : Type 0 where
  stays : a ≡ Going → m'.doing s ≡ closing t → SamePairs m m' → CloseGoes m s t a m'
  ends : a ≡ Added → m'.doing s ≡ idle → SamePairs m m' → t < m'.add_mark → CloseGoes m s t a m'

-- no pair is under the ticket that is held, if one is
abbrev pub NothingUnder : Model → Option ℕ → Type 0
NothingUnder m held = (t : ℕ) → held ≡ Some t → m.under t ≡ None

-- a station keeps its ticket while a pair is under it; it comes to hold another only on a turn on
-- which the take mark moves past that one
pub data Ticket (m : Model) (f : ℕ) (held held' : Option ℕ) (m' : Model) : Type 0 where
  keeps : held' ≡ held → Ticket m f held held' m'
  drops : held' ≡ None → NothingUnder m held → Ticket m f held held' m'
  gets : (t : ℕ) → held' ≡ Some t → m.take_mark ≡ t → m'.take_mark ≡ t + 1 → f ≤ t → NothingUnder m held → Ticket m f held held' m'

-- each pair whose add has ended is held by a station other than s
abbrev pub AllHeld : Model → ℕ → Type 0
AllHeld m s = (t i : ℕ) → m.under t ≡ Some i → AddEnded m t → (r : ℕ) × (r ≢ s) × Holds m r t

pub data SeekGoes (m : Model) (s f : ℕ) (held : Option ℕ) (bare : Bool) (a : Progress) (m' : Model) : Type 0 where
  goes_on : (held' : Option ℕ) (bare' : Bool) → a ≡ Going → m'.doing s ≡ seeking f held' bare' → SamePairs m m' →
      Ticket m f held held' m' → (bare' ≡ true → (bare ≡ true) ⊎ AllHeld m s) → SeekGoes m s f held bare a m'
  ends_with_none : a ≡ Taken None → m'.doing s ≡ idle → SamePairs m m' →
      NothingUnder m held → (bare ≡ true) ⊎ AllHeld m s → SeekGoes m s f held bare a m'
  ends_with_held : (t i : ℕ) → a ≡ Taken (Some i) → m'.doing s ≡ idle → Leaves m t i m' →
      held ≡ Some t → SeekGoes m s f held bare a m'
  ends_with_unheld : (t i : ℕ) → a ≡ Taken (Some i) → m'.doing s ≡ idle → Leaves m t i m' →
      held ≡ None → ((r : ℕ) → Holds m r t → ⊥) → f ≤ t → t < m'.take_mark → SeekGoes m s f held bare a m'

abbrev pub Goes : Model → ℕ → Doing → Progress → Model → Type 0
Goes m s idle a m' = ⊥
Goes m s (adding i f) a m' = AddGoes m s i f a m'
Goes m s (closing t) a m' = CloseGoes m s t a m'
Goes m s (seeking f held bare) a m' = SeekGoes m s f held bare a m'

-- turns: the marks never fall

pub data AddMark (m m' : Model) : Type 0 where
  stays : m'.add_mark ≡ m.add_mark → AddMark m m'
  rises : m'.add_mark ≡ m.add_mark + 1 → AddMark m m'
  catches_up : m.add_mark ≤ m'.add_mark → m'.add_mark ≤ m'.take_mark → AddMark m m'

-- the take mark rises only by one, past a ticket that the station then holds, or whose pair it takes
pub data TakeMark (m : Model) (s : ℕ) (a : Progress) (m' : Model) : Type 0 where
  stays : m'.take_mark ≡ m.take_mark → TakeMark m s a m'
  passes_held : m'.take_mark ≡ m.take_mark + 1 → Holds m' s m.take_mark → TakeMark m s a m'
  passes_taken : (i : ℕ) → m'.take_mark ≡ m.take_mark + 1 → a ≡ Taken (Some i) → Leaves m m.take_mark i m' → TakeMark m s a m'

-- an accepted turn of station s
pub record MayTurn (m : Model) (s : ℕ) (a : Progress) (m' : Model) : Type 0 where
  pub station : s < m.stations
  pub goes : Goes m s (m.doing s) a m'
  pub others : OthersStay m s m'
  pub sizes : SameSizes m m'
  pub adds : AddMark m m'
  pub takes : TakeMark m s a m'
  pub one_more : m'.lone s ≡ m.lone s + 1
  pub others_alone_no_more : (r : ℕ) → r ≢ s → m'.lone r ≡ 0
  -- a call ends within 16n + 16 lone turns
  pub soon : a ≡ Going → m'.lone s < 16 * m.places + 16
  pub indices : EachOnce m'

-- the turn would take a ticket, and the mark stands at the limit
abbrev pub AtLimit : Model → Doing → Type 0
AtLimit m idle = ⊥
AtLimit m (adding i f) = m.add_mark ≡ m.limit
AtLimit m (closing t) = ⊥
AtLimit m (seeking f held bare) = (held ≡ None) × (m.take_mark ≡ m.limit)

pub data TurnRefused (m : Model) (s : ℕ) (e : Refusal) : Type 0 where
  no_station : refusal_number e ≡ 5 → m.stations ≤ s → TurnRefused m s e
  no_call : refusal_number e ≡ 7 → s < m.stations → m.doing s ≡ idle → TurnRefused m s e
  at_limit : refusal_number e ≡ 8 → s < m.stations → AtLimit m (m.doing s) → TurnRefused m s e

abbrev TurnedAs : {S : Type 0} → (S → Model → Type 0) → Model → ℕ → Result Progress Refusal → S → Type 0
TurnedAs stands m s (Ok a) q' = (m' : Model) × (MayTurn m s a m' × stands q' m')
TurnedAs stands m s (Err e) q' = TurnRefused m s e

abbrev pub Turned : {S : Type 0} → (S → Model → Type 0) → Model → ℕ → Result Progress Refusal × S → Type 0
Turned stands m s p = TurnedAs stands m s p.0 p.1

-- the whole of it, of the exact outcomes of the two makes, the two begins and the turn

pub record HasMeaning (S : Type 0) (stands : S → Model → Type 0) (empty full : ℕ → ℕ → ℕ → Result S Refusal)
    (adds : S → ℕ → ℕ → Result Progress Refusal × S) (takes turns : S → ℕ → Result Progress Refusal × S) : Type 0 where
  pub empty_means : (n k l : ℕ) → MadeEmpty stands n k l (empty n k l)
  pub full_means : (n k l : ℕ) → MadeFull stands n k l (full n k l)
  pub add_kept : (q : S) (s i : ℕ) → Kept q (adds q s i)
  pub add_means : (q : S) (s i : ℕ) (m : Model) → stands q m → AddBegun stands m s i (adds q s i)
  pub take_kept : (q : S) (s : ℕ) → Kept q (takes q s)
  pub take_means : (q : S) (s : ℕ) (m : Model) → stands q m → TakeBegun stands m s (takes q s)
  pub turn_kept : (q : S) (s : ℕ) → Kept q (turns q s)
  pub turn_means : (q : S) (s : ℕ) (m : Model) → stands q m → Turned stands m s (turns q s)
