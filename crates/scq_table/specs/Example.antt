-- A ring in the middle of an add, and a model that it stands for.
use Rattle.std.specs.Prelude.{◌≡◌, ℕ, negsuc, Some}
use Rattle.ring.specs.Model.{closing, Model}
use Rattle.scq_table.specs.Table.{State, new_ring, new_words, adds, turns}
use Rattle.scq_table.specs.Stands.{Stands}

-- a ring of one place and one station, made empty
abbrev pub new : State
new = new_ring 1 1 4 2 (negsuc 0) (new_words 1 0)

-- the station has begun to add index 0 and has had three turns: the word is written, Threshold not yet stored
abbrev pub mid_add : State
mid_add = (turns (turns (turns (adds new 0 0).1 0).1 0).1 0).1

-- it stands for a model with the pair of ticket t and index 0, which the station is closing
abbrev pub MidAddStands : ℕ → Type 0
MidAddStands t = (m : Model) × Stands mid_add m × (m.under t ≡ Some 0) × (m.doing 0 ≡ closing t)
