-- What a ring stands for.
--
-- A ring keeps indices. An index that is in the ring stands in a pair, under a ticket. Tickets are
-- numbers; each is used for one pair at the most. Adds and takes go by two marks that never fall.
--
-- Doing            what a station does in the ring
-- Model            what a ring stands for
-- Holds m s t      station s holds ticket t: the pair under it, if there is one, is for s alone
-- AddEnded m t     no station still has an add in progress whose pair is under t
-- Outside m i      index i is in no pair and nobody adds it
-- EachOnce m       every index is outside, being added by one station, or in exactly one pair
--
-- Assumes nothing.
use Rattle.std.specs.Prelude.{◌≡◌, ℕ, ◌<◌, Bool, Some, Option, ◌≢◌}

pub data Doing : Type 0 where
  -- no call in progress
  idle : Doing
  -- adding index i, since the add mark stood at f
  adding : (i f : ℕ) → Doing
  -- the pair has entered under t, and the add has not ended
  closing : (t : ℕ) → Doing
  -- taking, since the take mark stood at f; perhaps holding a ticket; perhaps bare: it has found
  -- that each pair whose add has ended is another station's
  seeking : (f : ℕ) (held : Option ℕ) (bare : Bool) → Doing

pub record Model : Type 0 where
  -- the numbers of places and of stations, and the ticket limit
  pub places : ℕ
  pub stations : ℕ
  pub limit : ℕ
  -- the pairs: the index under each ticket
  pub under : ℕ → Option ℕ
  -- adds enter under tickets that are not below the add mark at their begin
  pub add_mark : ℕ
  -- takes end with tickets that are not below the take mark at their begin
  pub take_mark : ℕ
  pub doing : ℕ → Doing
  -- the accepted turns that the station's call has had with no accepted turn of another between
  pub lone : ℕ → ℕ

abbrev pub Holds : Model → ℕ → ℕ → Type 0
Holds m s t = (f : ℕ) × (bare : Bool) × (m.doing s ≡ seeking f (Some t) bare)

abbrev pub AddEnded : Model → ℕ → Type 0
AddEnded m t = (s : ℕ) → m.doing s ≢ closing t

abbrev pub Outside : Model → ℕ → Type 0
Outside m i = ((t : ℕ) → m.under t ≢ Some i) × ((s f : ℕ) → m.doing s ≢ adding i f)

pub record EachOnce (m : Model) : Type 0 where
  pub pair_below : (t i : ℕ) → m.under t ≡ Some i → i < m.places
  pub added_below : (s i f : ℕ) → m.doing s ≡ adding i f → i < m.places
  pub one_pair : (t u i : ℕ) → m.under t ≡ Some i → m.under u ≡ Some i → t ≡ u
  pub one_adder : (s r i f g : ℕ) → m.doing s ≡ adding i f → m.doing r ≡ adding i g → s ≡ r
  pub not_both : (t s i f : ℕ) → m.under t ≡ Some i → m.doing s ≢ adding i f
