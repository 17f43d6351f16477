-- From what a call changes to the model that the ring stands for after it.
use Rattle.std.proofs.Common.{◌≡◌, ℕ, ◌+◌, ◌<◌, ◌≤◌, ◌⊎◌, Some, Ok, sym, refl, ◌∙◌, subst, inl, inr, mod-lt, arith}
use Rattle.std.proofs.lemmas.List.{length-set, get_or-set_same, get_or-set_other}
use Rattle.ring.specs.declared.Progress.{Progress}
use Rattle.ring.specs.Model.{Doing, adding, Model, EachOnce}
use Rattle.ring.specs.Meaning.{Goes, AddMark, TakeMark, Turned, Begun}
use Rattle.ring.specs.Cells.{put}
use Rattle.ring.proofs.Entries.{put_same, put_other}
use Rattle.ring.proofs.Steps.{by_station, one_still}
use Rattle.ring.proofs.Models as models
use Rattle.ncq_table.specs.declared.Stage.{Stage}
use Rattle.ncq_table.specs.declared.Stage.TheVariants.{Idle}
use Rattle.ring.specs.Tables.{moved}
use Rattle.ncq_table.specs.Table.{cycle, index, Memory, word, State, stage}
use Rattle.ncq_table.specs.Stands.{pair, Absent, Fits, writes, Does, left, Shared, Stands}
use Rattle.ncq_table.proofs.Pairs.{pair_is}
use Rattle.ncq_table.proofs.Window.{filled_low}
use Rattle.ncq_table.proofs.Stations.{adding_writes, writes_fits, does_on}
use Rattle.ncq_table.proofs.Lone.{left_most}

-- every index is outside, being added or in one pair
pub each_once : (q : State) (m : Model) → Stands q m → EachOnce m
each_once q m h = record {
  pair_below = λ t i p. omega (arith, h.places, (found t i p).2, mod-lt (word mem t) h.sound.shared.some_place);
  added_below = λ s i f p. omega (arith, h.places, (writer s i f p).0);
  one_pair = λ t u i p r. h.sound.shared.apart t u (found t i p).0 (low t i p) (found u i r).0 (low u i r) ((found t i p).2 ∙ sym (found u i r).2);
  one_adder = λ s r i f g p t. h.sound.one_writer s r i (writing s i f p) (writing r i g t);
  not_both = λ t s i f p r. (writer s i f r).1 t (found t i p).0 (low t i p) (found t i p).2;
}
  where
    mem : Memory
    mem = q.memory

    found : (t i : ℕ) → m.under t ≡ Some i → (mem.head ≤ t) × (cycle mem.places (word mem t) ≡ cycle mem.places t) × (index mem.places (word mem t) ≡ i)
    found t i p = pair_is mem t i (sym (h.pairs t) ∙ p)

    low : (t i : ℕ) → m.under t ≡ Some i → t < h.end
    low t i p = filled_low mem h.end h.sound.shared t (found t i p).1

    writing : (s i f : ℕ) → m.doing s ≡ adding i f → writes (stage q s) ≡ Some i
    writing s i f p = adding_writes mem (stage q s) (m.doing s) i f (h.does s) p

    writer : (s i f : ℕ) → m.doing s ≡ adding i f → (i < mem.places) × Absent mem h.end i
    writer s i f p = writes_fits mem h.end (stage q s) i (h.sound.fits s) (writing s i f p)

-- a call of station s has left memory m' and step st
module _ (q : State) (m : Model) (h : Stands q m) (s : ℕ) (here : s < q.stations) (m' : Memory) (st : Stage) where
  abbrev at' : ℕ → Stage
  at' = stage (moved q s m' st)

  stage_mine : at' s ≡ st
  stage_mine = get_or-set_same q.stages s st Idle (omega (arith, h.sound.table_room))

  stage_other : (r : ℕ) → (r ≡ s → ⊥) → at' r ≡ stage q r
  stage_other r e = get_or-set_other q.stages s r st Idle e

  -- the model with d and the lone turns c
  module _ (d : Doing) (c : ℕ → ℕ) (end' : ℕ) (places_stay : m'.places ≡ q.memory.places) (shared : Shared m' end')
      (fits_mine : Fits m' end' st) (fits_others : (r : ℕ) → (r ≡ s → ⊥) → Fits m' end' (stage q r))
      (does_mine : Does m' st d) (does_others : (r : ℕ) → (r ≡ s → ⊥) → Does m' (stage q r) (m.doing r))
      (writes_from : (i : ℕ) → writes st ≡ Some i → (writes (stage q s) ≡ Some i) ⊎ ((r : ℕ) → writes (stage q r) ≡ Some i → ⊥))
      (soon_mine : c s + left m' end' st ≤ 9) (soon_others : (r : ℕ) → (r ≡ s → ⊥) → c r + left m' end' (stage q r) ≤ 9) where
    pub built : Stands (moved q s m' st) (models.after m s d (pair m') m'.tail m'.head c)
    built = record {
      end = end';
      sound = record {
        shared = shared;
        table_room = rw length-set h.sound.table_room;
        beyond = λ r l. stage_other r (λ e. omega arith) ∙ h.sound.beyond r l;
        fits = by_station (stage q) at' s st stage_mine stage_other (λ r x. Fits m' end' x) fits_mine fits_others;
        one_writer = one_still (stage q) at' s st stage_mine stage_other writes h.sound.one_writer writes_from;
      };
      places = h.places ∙ sym places_stay;
      stations = h.stations;
      limit = h.limit;
      pairs = λ t. refl;
      adds_at = refl;
      takes_at = refl;
      does = by_station (stage q) at' s st stage_mine stage_other (λ r x. Does m' x (put m.doing s d r))
          (subst (Does m' st) (sym (put_same m.doing s d)) does_mine)
          (λ r e. subst (Does m' (stage q r)) (sym (put_other m.doing s d r e)) (does_others r e));
      ends_soon = by_station (stage q) at' s st stage_mine stage_other (λ r x. c r + left m' end' x ≤ 9) soon_mine soon_others;
    }

-- an accepted turn
module _ (q : State) (m : Model) (h : Stands q m) (s : ℕ) (here : s < q.stations) (a : Progress) (m' : Memory) (st : Stage) (d : Doing) where
  abbrev pub then : Model
  then = models.then m s d (pair m') m'.tail m'.head

  -- what a row of the table has to show
  pub record RowShows (end' : ℕ) : Type 0 where
    pub places_stay : m'.places ≡ q.memory.places
    pub shared : Shared m' end'
    pub fits_mine : Fits m' end' st
    pub fits_others : (r : ℕ) → (r ≡ s → ⊥) → Fits m' end' (stage q r)
    pub does_mine : Does m' st d
    pub tail_on : q.memory.tail ≤ m'.tail
    pub head_on : q.memory.head ≤ m'.head
    pub writes_less : (i : ℕ) → writes st ≡ Some i → writes (stage q s) ≡ Some i
    pub sooner : left m' end' st < left q.memory h.end (stage q s)
    pub goes : Goes m s (m.doing s) a then
    pub adds : AddMark m then
    pub takes : TakeMark m s a then

  pub row : (end' : ℕ) → RowShows end' → Turned Stands m s (Ok a, moved q s m' st)
  row end' p = (
    then,
    (
      models.may_turn m s d (pair m') m'.tail m'.head a (omega (arith, h.stations)) p.goes p.adds p.takes (omega (arith, h.ends_soon s, p.sooner)) (each_once (moved q s m' st) then stands),
      stands,
    ),
  )
    where
      stands : Stands (moved q s m' st) then
      stands = built q m h s here m' st d (models.counts m s) end' p.places_stay p.shared p.fits_mine p.fits_others p.does_mine
          (λ r e. does_on q.memory m' p.tail_on p.head_on (stage q r) (m.doing r) (h.does r))
          (λ i w. inl (p.writes_less i w))
          (omega (arith, put_same (λ r. 0) s (m.lone s + 1), h.ends_soon s, p.sooner))
          (λ r e. omega (arith, put_other (λ r. 0) s (m.lone s + 1) r e, left_most m' end' (stage q r)))

-- an accepted begin
module _ (q : State) (m : Model) (h : Stands q m) (s : ℕ) (here : s < q.stations) (st : Stage) (d : Doing) where
  abbrev pub begun : Model
  begun = models.begun m s d (pair q.memory) q.memory.tail q.memory.head

  pub begins : stage q s ≡ Idle → Fits q.memory h.end st → Does q.memory st d →
      ((i : ℕ) → writes st ≡ Some i → (r : ℕ) → writes (stage q r) ≡ Some i → ⊥) →
      (m' : Model) × (Begun m s d m' × Stands (moved q s q.memory st) m')
  begins at fits does new = (
    begun,
    (
      models.has_begun m s d (pair q.memory) q.memory.tail q.memory.head (omega (arith, h.stations)) (subst (λ x. Does q.memory x (m.doing s)) at (h.does s))
          (λ t. sym (h.pairs t)) (sym h.adds_at) (sym h.takes_at) (each_once (moved q s q.memory st) begun stands),
      stands,
    ),
  )
    where
      stands : Stands (moved q s q.memory st) begun
      stands = built q m h s here q.memory st d (put m.lone s 0) h.end refl h.sound.shared fits (λ r e. h.sound.fits r) does (λ r e. h.does r) (λ i w. inr (new i w))
          (omega (arith, put_same m.lone s 0, left_most q.memory h.end st))
          (λ r e. omega (arith, put_other m.lone s 0 r e, h.ends_soon r))
