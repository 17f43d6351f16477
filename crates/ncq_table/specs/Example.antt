-- A ring in the middle of an add, and a model that it stands for.
use Rattle.std.specs.Prelude.{◌≡◌, ℕ, replicate, Some}
use Rattle.ring.specs.Model.{closing, Model}
use Rattle.ncq_table.specs.Table.{State, new_ring, adds, turns}
use Rattle.ncq_table.specs.Stands.{Stands}

-- a ring of one place and one station, made empty
abbrev pub new : State
new = new_ring 1 1 4 1 (replicate 64 0)

-- the station has begun to add index 0 and has had three turns: the word is written, Tail not yet moved
abbrev pub mid_add : State
mid_add = (turns (turns (turns (adds new 0 0).1 0).1 0).1 0).1

-- it stands for a model with the pair of ticket t and index 0, which the station is closing
abbrev pub MidAddStands : ℕ → Type 0
MidAddStands t = (m : Model) × Stands mid_add m × (m.under t ≡ Some 0) × (m.doing 0 ≡ closing t)
