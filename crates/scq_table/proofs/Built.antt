-- From what a call changes to the model that the ring stands for after it.
use Rattle.std.proofs.Common.{◌≡◌, ℕ, ◌+◌, ◌*◌, ◌<◌, ◌≤◌, Some, Ok, sym, refl, ◌∙◌, subst, ⊎_elim, arith}
use Rattle.std.proofs.lemmas.List.{length-set, get_or-set_same, get_or-set_other}
use Rattle.ring.specs.declared.Progress.{Progress}
use Rattle.ring.specs.Model.{Doing, adding, Model, EachOnce}
use Rattle.ring.specs.Meaning.{Goes, AddMark, TakeMark, Turned, Begun}
use Rattle.ring.specs.Cells.{put}
use Rattle.ring.proofs.Entries.{put_same, put_other}
use Rattle.ring.proofs.Models as models
use Rattle.ring.proofs.Steps.{by_station}
use Rattle.scq_table.specs.declared.Stage.{Stage}
use Rattle.scq_table.specs.declared.Stage.TheVariants.{Idle}
use Rattle.ring.specs.Tables.{moved}
use Rattle.scq_table.specs.Table.{Memory, State, stage}
use Rattle.scq_table.specs.Stands.{pair, writes, Does, Left, Sound, Stands}
use Rattle.scq_table.proofs.Pairs.{pair_is}
use Rattle.scq_table.proofs.Stations.{adding_writes, writes_low, does_on}
use Rattle.scq_table.proofs.Moves.{Keeps, sound_after}
use Rattle.scq_table.proofs.Lone.{Sooner, left_most}

-- every index is outside, being added or in one pair
pub each_once : (q : State) (m : Model) → Stands q m → EachOnce m
each_once q m h = record {
  pair_below = λ t i p. let f = pair_is mem t i (found t i p) in
      ⊎_elim (λ b. absurd (f.1 b)) (λ l. omega (arith, h.places, f.2)) (h.sound.shared.indices t);
  added_below = λ s i f p. omega (arith, h.places, writes_low mem (stage q s) i (h.sound.fits s) (writing s i f p));
  one_pair = λ t u i p r. h.sound.shared.one_pair t u i (found t i p) (found u i r);
  one_adder = λ s r i f g p t. h.sound.one_writer s r i (writing s i f p) (writing r i g t);
  not_both = λ t s i f p r. h.sound.not_both t s i (found t i p) (writing s i f r);
}
  where
    mem : Memory
    mem = q.memory

    found : (t i : ℕ) → m.under t ≡ Some i → pair mem t ≡ Some i
    found t i p = sym (h.pairs t) ∙ p

    writing : (s i f : ℕ) → m.doing s ≡ adding i f → writes (stage q s) ≡ Some i
    writing s i f p = adding_writes mem (stage q s) (m.doing s) i f (h.does s) p

-- a call of station s has left memory m' and step st
module _ (q : State) (m : Model) (h : Stands q m) (s : ℕ) (here : s < q.stations) (m' : Memory) (st : Stage) where
  abbrev pub at' : ℕ → Stage
  at' = stage (moved q s m' st)

  pub stage_mine : stage (moved q s m' st) s ≡ st
  stage_mine = get_or-set_same q.stages s st Idle (omega (arith, h.table_room))

  pub stage_other : (r : ℕ) → (r ≡ s → ⊥) → stage (moved q s m' st) r ≡ stage q r
  stage_other r e = get_or-set_other q.stages s r st Idle e

  -- what the call keeps, with the tickets' numbers after it
  abbrev pub KeptWith : (ℕ → ℕ) → Type 0
  KeptWith charge' = Keeps q.memory q.stations (stage q) h.charge h.sound s here m' at' st charge' stage_mine stage_other

  pub built : (d : Doing) (c : ℕ → ℕ) (charge' : ℕ → ℕ) → KeptWith charge' → Does m' st d →
      ((b : ℕ) × (c s + b ≤ 15 * m.places + 2) × Left m' st b) →
      ((r : ℕ) → (r ≡ s → ⊥) → Sound m' q.stations at' charge' → (b : ℕ) × (c r + b ≤ 15 * m.places + 2) × Left m' (stage q r) b) →
      Stands (moved q s m' st) (models.after m s d (pair m') m'.tail m'.head c)
  built d c charge' keeps does soon_mine soon_others = record {
    charge = charge';
    sound = sound;
    table_room = rw length-set h.table_room;
    places = h.places ∙ sym keeps.places_stay;
    stations = h.stations;
    limit = h.limit;
    pairs = λ t. refl;
    adds_at = refl;
    takes_at = refl;
    does = by_station (stage q) at' s st stage_mine stage_other (λ r x. Does m' x (put m.doing s d r))
        (subst (Does m' st) (sym (put_same m.doing s d)) does)
        (λ r e. subst (Does m' (stage q r)) (sym (put_other m.doing s d r e)) (does_on q.memory m' keeps.tail_on keeps.head_on (stage q r) (m.doing r) (h.does r)));
    ends_soon = by_station (stage q) at' s st stage_mine stage_other (λ r x. (b : ℕ) × (c r + b ≤ 15 * m.places + 2) × Left m' x b)
        soon_mine (λ r e. soon_others r e sound);
  }
    where
      sound : Sound m' q.stations at' charge'
      sound = sound_after q.memory q.stations (stage q) h.charge h.sound s here m' at' st charge' stage_mine stage_other keeps

-- an accepted turn
module _ (q : State) (m : Model) (h : Stands q m) (s : ℕ) (here : s < q.stations) (a : Progress) (m' : Memory) (st : Stage) (d : Doing) where
  abbrev pub then : Model
  then = models.then m s d (pair m') m'.tail m'.head

  -- what a row of the table has to show
  pub record RowShows (charge' : ℕ → ℕ) : Type 0 where
    pub keeps : KeptWith q m h s here m' st charge'
    pub does_mine : Does m' st d
    pub sooner : Sooner q.memory (stage q s) m' st
    pub goes : Goes m s (m.doing s) a then
    pub adds : AddMark m then
    pub takes : TakeMark m s a then

  pub row : (charge' : ℕ → ℕ) → RowShows charge' → Turned Stands m s (Ok a, moved q s m' st)
  row charge' p = (
    then,
    (
      models.may_turn m s d (pair m') m'.tail m'.head a (omega (arith, h.stations)) p.goes p.adds p.takes (omega (arith, mine, fewer.1)) (each_once (moved q s m' st) then stands),
      stands,
    ),
  )
    where
      mine : models.counts m s s ≡ m.lone s + 1
      mine = put_same (λ r. 0) s (m.lone s + 1)

      fewer : (b : ℕ) × (models.counts m s s + b ≤ 15 * m.places + 2) × Left m' st b
      fewer =
          let now = h.ends_soon s in
          let next = p.sooner now.0 now.2 in
          (next.0, omega (arith, mine, now.1, next.1), next.2)

      stands : Stands (moved q s m' st) then
      stands = built q m h s here m' st d (models.counts m s) charge' p.keeps p.does_mine fewer
          (λ r e sound. (
            15 * m'.places + 2,
            omega (arith, put_other (λ r. 0) s (m.lone s + 1) r e, h.places, p.keeps.places_stay),
            left_most m' q.stations (at' q m h s here m' st) charge' sound (stage q r),
          ))

-- an accepted begin
module _ (q : State) (m : Model) (h : Stands q m) (s : ℕ) (here : s < q.stations) (st : Stage) (d : Doing) where
  abbrev pub begun : Model
  begun = models.begun m s d (pair q.memory) q.memory.tail q.memory.head

  pub begins : stage q s ≡ Idle → KeptWith q m h s here q.memory st h.charge → Does q.memory st d →
      (m' : Model) × (Begun m s d m' × Stands (moved q s q.memory st) m')
  begins at keeps does = (
    begun,
    (
      models.has_begun m s d (pair q.memory) q.memory.tail q.memory.head (omega (arith, h.stations)) (subst (λ x. Does q.memory x (m.doing s)) at (h.does s))
          (λ t. sym (h.pairs t)) (sym h.adds_at) (sym h.takes_at) (each_once (moved q s q.memory st) begun stands),
      stands,
    ),
  )
    where
      stands : Stands (moved q s q.memory st) begun
      stands = built q m h s here q.memory st d (put m.lone s 0) h.charge keeps does
          (15 * q.memory.places + 2, omega (arith, put_same m.lone s 0, h.places), left_most q.memory q.stations (stage q) h.charge h.sound st)
          (λ r e sound. let now = h.ends_soon r in (now.0, omega (arith, put_other m.lone s 0 r e, now.1), now.2))
