-- A day leads to a hub: the days that a hub's calls are promised about.
--
-- Led              the day has led to this hub and this rack
-- LedOn            so has the day with one call more, and that day keeps the rules
-- Opens            a hub that has been made is where the day with no call yet has led to, with any rack
--
-- Assumes nothing.
use Rattle.std.specs.Prelude.{◌≡◌, ℕ, ◌+◌, ◌≤◌, List, length, Ok, Err, Result}
use Rattle.ring.specs.declared.Answer.{Answer}
use Rattle.ring.specs.declared.Refusal.{Refusal}
use Rattle.ring.specs.declared.Ring.{Ghosts}
use Rattle.ring.specs.Sizes.{MakeRefused}
use Rattle.days.specs.Outcome.{Hub, stage_of}
use Rattle.days.specs.Day.{Scene, Call, Motion, Day, opened, on, scene, IsDay}
use Rattle.days.specs.Rules.{Rules}

module _ {F A R : Type 0} (f : Ghosts F) (a : Ghosts A) where
  pub record Led (h : Hub f.state a.state) (rack : List R) (d : Day R) : Type 0 where
    pub day : IsDay h.places h.stations d
    -- the two rings stand for what the day's last scene has
    pub free_stands : f.stands h.free (scene d).free
    pub waiting_stands : a.stands h.waiting (scene d).waiting
    pub stages_are : (s : ℕ) → stage_of h s ≡ (scene d).stage s
    pub rack_is : (scene d).rack ≡ rack
    -- the table has a row for each station
    pub rows : h.stations ≤ length h.stages

  -- call c got answer r
  abbrev pub LedOn : Hub f.state a.state → List R → Day R → Call R → Result Answer Refusal → Type 0
  LedOn h rack d c r = (mo : Motion) × (σ : Scene R) ×
      Led h rack (on d (record { call = c; answer = r; motion = mo; scene = σ })) ×
      Rules h.places (on d (record { call = c; answer = r; motion = mo; scene = σ }))

abbrev pub Opens : {F A : Type 0} → (R : Type 0) (f : Ghosts F) (a : Ghosts A) → ℕ → ℕ → ℕ → Result (Hub f.state a.state) Refusal → Type 0
Opens R f a n k l (Ok h) = (rack : List R) → length rack ≡ n + k → (σ : Scene R) × Led f a h rack (opened σ) × Rules n (opened σ)
Opens R f a n k l (Err e) = MakeRefused n k l e
