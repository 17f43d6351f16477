-- What holds at the end of every day: of the two rings, of the rack, of each station's call, of where each index is,
-- and of the book. `Empty x w` and `Full y w` say that take x, or put y, has found what it may end empty or full by,
-- before the day had had more than w calls.
use Rattle.std.proofs.Common.{◌≡◌, ℕ, ◌+◌, ◌*◌, ◌<◌, ◌≤◌, Bool, true, ◌⊎◌, length, Some, None, Option}
use Rattle.ring.specs.declared.Answer.TheVariants.{PutDone, PutFull, TakeDone, TakeEmpty}
use Rattle.ring.specs.Model.{idle, adding, closing, seeking, Model}
use Rattle.days.specs.declared.Stage.{Stage}
use Rattle.days.specs.declared.Stage.TheVariants.{Idle, TakeFree, Store, AddWaiting, TakeWaiting, Fetch, AddFree}
use Rattle.days.specs.Racks.{Lies, hand}
use Rattle.days.specs.Day.{Scene, Call, begin_put, begin_take}
use Rattle.days.specs.Book.{End, Book}
use Rattle.days.specs.Rules.{station_of}
use Rattle.days.proofs.Rings.{Inside, Gone, Tidy}

-- who has an index
pub data Owner : Type 0 where
  -- it is in the free ring
  free : Owner
  -- station s's put has it, and has not yet stored its record
  drawn : (s : ℕ) → Owner
  -- it is in the waiting ring, and its place keeps the record of put y
  filled : (y : ℕ) → Owner
  -- station s's take has it, and has not yet fetched the record, which is that of put y
  fetched : (s y : ℕ) → Owner

-- the place of such an index keeps the record of put y
abbrev pub Keeps : Owner → ℕ → Type 0
Keeps free y = ⊥
Keeps (drawn s) y = ⊥
Keeps (filled z) y = z ≡ y
Keeps (fetched s z) y = z ≡ y

module _ {R : Type 0} (begun : ℕ → Option (Call R)) where
  abbrev pub IsPut : ℕ → Type 0
  IsPut y = (s : ℕ) × (r : R) × (begun y ≡ Some (begin_put s r))

  abbrev pub IsTake : ℕ → Type 0
  IsTake x = (s : ℕ) × (begun x ≡ Some (begin_take s))

-- station s's call in progress is number b, and was begun by c
pub record Current {R : Type 0} (β : Book R) (s b : ℕ) (c : Call R) : Type 0 where
  pub current : β.current s ≡ Some b
  pub begun : β.begun b ≡ Some c
  pub going : β.ended b ≡ None

-- each station's call, by where it stands
module _ {R : Type 0} (n : ℕ) (Empty Full : ℕ → Type 0) (σ : Scene R) (β : Book R) (owner : ℕ → Owner) (s : ℕ) where
  pub record AtIdle : Type 0 where
    pub free_idle : σ.free.doing s ≡ idle
    pub waiting_idle : σ.waiting.doing s ≡ idle
    pub no_call : β.current s ≡ None

  pub record AtTakeFree : Type 0 where
    pub b : ℕ
    pub r : R
    pub call : Current β s b (begin_put s r)
    pub no_ticket : β.ticket b ≡ None
    pub from : ℕ
    pub held : Option ℕ
    pub bare : Bool
    pub free_seeks : σ.free.doing s ≡ seeking from held bare
    pub waiting_idle : σ.waiting.doing s ≡ idle
    pub in_hand : Lies σ.rack (hand n s) r
    pub found : bare ≡ true → Full b
    pub few : β.lone s ≤ σ.free.lone s

  pub record AtStore (i : ℕ) : Type 0 where
    pub b : ℕ
    pub r : R
    pub call : Current β s b (begin_put s r)
    pub no_ticket : β.ticket b ≡ None
    pub free_idle : σ.free.doing s ≡ idle
    pub waiting_idle : σ.waiting.doing s ≡ idle
    pub in_hand : Lies σ.rack (hand n s) r
    pub owned : owner i ≡ drawn s
    pub low : i < n
    pub few : β.lone s ≤ 16 * n + 16

  -- a put that ended before b began has a ticket below the add mark from which b adds
  pub data Adds (b : ℕ) : Type 0 where
    adds : (i from : ℕ) → σ.waiting.doing s ≡ adding i from → β.ticket b ≡ None → owner i ≡ filled b →
        ((y t : ℕ) (e : End R) → IsPut β.begun y → β.ended y ≡ Some e → e.when ≤ b → β.ticket y ≡ Some t → t < from) → Adds b
    closes : (t : ℕ) → σ.waiting.doing s ≡ closing t → β.ticket b ≡ Some t → Adds b

  pub record AtAddWaiting : Type 0 where
    pub b : ℕ
    pub r : R
    pub call : Current β s b (begin_put s r)
    pub free_idle : σ.free.doing s ≡ idle
    pub waiting_adds : Adds b
    pub few : β.lone s ≤ 16 * n + 17 + σ.waiting.lone s

  pub record AtTakeWaiting : Type 0 where
    pub b : ℕ
    pub call : Current β s b (begin_take s)
    pub no_ticket : β.ticket b ≡ None
    pub from : ℕ
    pub held : Option ℕ
    pub bare : Bool
    pub free_idle : σ.free.doing s ≡ idle
    pub waiting_seeks : σ.waiting.doing s ≡ seeking from held bare
    -- a take that ended before this one began had a ticket below the take mark from which this one seeks
    pub late : (x t : ℕ) (e : End R) → IsTake β.begun x → β.ended x ≡ Some e → e.when ≤ b → β.ticket x ≡ Some t → t < from
    pub found : bare ≡ true → Empty b
    pub few : β.lone s ≤ σ.waiting.lone s

  pub record AtFetch (i : ℕ) : Type 0 where
    pub b : ℕ
    pub call : Current β s b (begin_take s)
    pub ticket : ℕ
    pub has : β.ticket b ≡ Some ticket
    pub free_idle : σ.free.doing s ≡ idle
    pub waiting_idle : σ.waiting.doing s ≡ idle
    pub put : ℕ
    pub owned : owner i ≡ fetched s put
    pub entered : β.ticket put ≡ Some ticket
    pub low : i < n
    pub few : β.lone s ≤ 16 * n + 16

  -- the free ring is at an add of the station
  pub data Returns : Type 0 where
    adds : (i from : ℕ) → σ.free.doing s ≡ adding i from → Returns
    closes : (t : ℕ) → σ.free.doing s ≡ closing t → Returns

  pub record AtAddFree : Type 0 where
    pub b : ℕ
    pub call : Current β s b (begin_take s)
    pub ticket : ℕ
    pub has : β.ticket b ≡ Some ticket
    pub waiting_idle : σ.waiting.doing s ≡ idle
    pub free_adds : Returns
    pub put : ℕ
    pub by : ℕ
    pub r : R
    pub put_begun : β.begun put ≡ Some (begin_put by r)
    pub entered : β.ticket put ≡ Some ticket
    pub in_hand : Lies σ.rack (hand n s) r
    pub few : β.lone s ≤ 16 * n + 17 + σ.free.lone s

  abbrev pub Serves : Stage → Type 0
  Serves Idle = AtIdle
  Serves TakeFree = AtTakeFree
  Serves (Store i) = AtStore i
  Serves AddWaiting = AtAddWaiting
  Serves TakeWaiting = AtTakeWaiting
  Serves (Fetch i) = AtFetch i
  Serves AddFree = AtAddFree

-- where each index is
pub record Owners {R : Type 0} (n : ℕ) (σ : Scene R) (begun : ℕ → Option (Call R)) (ticket : ℕ → Option ℕ) (owner : ℕ → Owner) : Type 0 where
  pub free_owned : (i : ℕ) → Inside σ.free i → owner i ≡ free
  pub free_inside : (i : ℕ) → i < n → owner i ≡ free → Inside σ.free i
  pub pair_owned : (t i : ℕ) → σ.waiting.under t ≡ Some i → (y : ℕ) × (owner i ≡ filled y) × (ticket y ≡ Some t)
  pub filled_inside : (i y : ℕ) → i < n → owner i ≡ filled y → Inside σ.waiting i
  pub drawn_stores : (i s : ℕ) → i < n → owner i ≡ drawn s → σ.stage s ≡ Store i
  pub fetched_fetches : (i s y : ℕ) → i < n → owner i ≡ fetched s y → σ.stage s ≡ Fetch i
  pub content : (i y : ℕ) → i < n → Keeps (owner i) y → (s : ℕ) × (r : R) × (begun y ≡ Some (begin_put s r)) × Lies σ.rack i r

-- how a call ended
pub data Ended {R : Type 0} (n : ℕ) (Empty Full : ℕ → ℕ → Type 0) (waiting : Model) (begun : ℕ → Option (Call R)) (ticket : ℕ → Option ℕ) (b : ℕ) (e : End R) : Type 0 where
  put_done : (s : ℕ) (r : R) (t : ℕ) → begun b ≡ Some (begin_put s r) → e.answer ≡ PutDone → ticket b ≡ Some t → t < waiting.add_mark → Ended n Empty Full waiting begun ticket b e
  put_full : (s : ℕ) (r : R) → begun b ≡ Some (begin_put s r) → e.answer ≡ PutFull → ticket b ≡ None → Full b e.when → Ended n Empty Full waiting begun ticket b e
  take_done : (s t y q : ℕ) (r : R) → begun b ≡ Some (begin_take s) → e.answer ≡ TakeDone → ticket b ≡ Some t →
      begun y ≡ Some (begin_put q r) → ticket y ≡ Some t → Lies e.rack (hand n s) r → Ended n Empty Full waiting begun ticket b e
  take_empty : (s : ℕ) → begun b ≡ Some (begin_take s) → e.answer ≡ TakeEmpty → ticket b ≡ None → Empty b e.when → Ended n Empty Full waiting begun ticket b e

pub record Booked {R : Type 0} (n : ℕ) (Empty Full : ℕ → ℕ → Type 0) (at : ℕ) (waiting : Model)
    (begun : ℕ → Option (Call R)) (ticket : ℕ → Option ℕ) (ended : ℕ → Option (End R)) (current : ℕ → Option ℕ) : Type 0 where
  -- numbers that are still to come
  pub none_begun : (b : ℕ) → at ≤ b → begun b ≡ None
  pub none_ticket : (b : ℕ) → at ≤ b → ticket b ≡ None
  pub none_ended : (b : ℕ) → at ≤ b → ended b ≡ None
  pub going_current : (b : ℕ) (c : Call R) → begun b ≡ Some c → ended b ≡ None → current (station_of c) ≡ Some b
  -- a ticket names one put and at most one take
  pub put_once : (y y' t : ℕ) → IsPut begun y → IsPut begun y' → ticket y ≡ Some t → ticket y' ≡ Some t → y ≡ y'
  pub take_once : (x x' t : ℕ) → IsTake begun x → IsTake begun x' → ticket x ≡ Some t → ticket x' ≡ Some t → x ≡ x'
  -- the put's pair stands there until a take has removed it, and then never again
  pub put_where : (y t : ℕ) → IsPut begun y → ticket y ≡ Some t → ((i : ℕ) × (waiting.under t ≡ Some i)) ⊎ ((x : ℕ) × IsTake begun x × (ticket x ≡ Some t))
  pub take_gone : (x t : ℕ) → IsTake begun x → ticket x ≡ Some t → Gone waiting t
  pub take_had : (x t : ℕ) → IsTake begun x → ticket x ≡ Some t → (y : ℕ) × IsPut begun y × (ticket y ≡ Some t)
  -- tickets come in the order of calls that do not overlap
  pub puts_ordered : (y y' t t' : ℕ) (e : End R) → IsPut begun y → IsPut begun y' → ticket y ≡ Some t → ticket y' ≡ Some t' → ended y' ≡ Some e → e.when ≤ y → t' < t
  pub takes_ordered : (x x' t t' : ℕ) (e : End R) → IsTake begun x → IsTake begun x' → ticket x ≡ Some t → ticket x' ≡ Some t' → ended x ≡ Some e → e.when ≤ x' → t < t'
  pub ended_well : (b : ℕ) (e : End R) → ended b ≡ Some e → Ended n Empty Full waiting begun ticket b e
  pub in_time : (b : ℕ) (e : End R) → ended b ≡ Some e → e.when ≤ at

pub record Sound {R : Type 0} (n k : ℕ) (Empty Full : ℕ → ℕ → Type 0) (at : ℕ) (σ : Scene R) (β : Book R) : Type 0 where
  pub free_tidy : Tidy n k σ.free
  pub waiting_tidy : Tidy n k σ.waiting
  pub long : length σ.rack ≡ n + k
  pub owner : ℕ → Owner
  pub owners : Owners n σ β.begun β.ticket owner
  pub serves : (s : ℕ) → Serves n (λ x. Empty x at) (λ y. Full y at) σ β owner s (σ.stage s)
  pub booked : Booked n Empty Full at σ.waiting β.begun β.ticket β.ended β.current
