-- Rows that leave the words, from one step of a station to the next.
use Rattle.std.proofs.Common.{◌≡◌, ℕ, ◌<◌, ◌≤◌, ℤ, Some, None, Ok, sym, refl, ap, ◌∙◌, subst, inr, ⊎_elim}
use Rattle.std.proofs.lemmas.Bool.{cases_lt}
use Rattle.ring.specs.declared.Progress.{Progress}
use Rattle.ring.specs.Model.{Doing, Model, Holds}
use Rattle.ring.specs.Meaning.{AllHeld, Goes, AddMark, TakeMark, Turned}
use Rattle.ring.proofs.Steps.{has_now}
use Rattle.scq_table.specs.declared.Stage.{Stage}
use Rattle.ring.specs.Tables.{moved}
use Rattle.scq_table.specs.Table.{Memory, State, stage}
use Rattle.scq_table.specs.Stands.{pair, brings, closes, live, Does, Charged, Stands}
use Rattle.scq_table.proofs.Stations.{live_holds, holds_does, closes_does, changed}
use Rattle.scq_table.proofs.Window.{pair_held}
use Rattle.scq_table.proofs.Charges.{charged_less, item_back, item_on}
use Rattle.scq_table.proofs.Marks.{Marks, marks_keep}
use Rattle.scq_table.proofs.Lone.{Sooner}
use Rattle.scq_table.proofs.Built.{stage_mine, stage_other, then, row}

module _ (q : State) (m : Model) (h : Stands q m) (s : ℕ) (here : s < q.stations) where
  abbrev mem : Memory
  mem = q.memory

  abbrev pub Goal : Progress → Memory → Stage → Type 0
  Goal a m' st = Turned Stands m s (Ok a, moved q s m' st)

  -- each pair that Head has passed is another station's, where this one has given up its ticket
  pub all_held : live (stage q s) ≡ None → ((t i : ℕ) → pair mem t ≡ Some i → mem.head ≤ t → ((r : ℕ) → closes (stage q r) ≡ Some t → ⊥) → ⊥) → AllHeld m s
  all_held gone rest t i p ended = ⊎_elim held (λ g. absurd (rest t i there g (λ r c. ended r (closes_does mem (stage q r) (m.doing r) t (h.does r) c)))) (cases_lt t mem.head)
    where
      there : pair mem t ≡ Some i
      there = sym (h.pairs t) ∙ p

      held : t < mem.head → (r : ℕ) × (r ≡ s → ⊥) × Holds m r t
      held l =
          let r = pair_held mem q.stations (stage q) h.charge h.sound t i there l in (
            r.0,
            (λ e. cc),
            holds_does mem (stage q r.0) (m.doing r.0) t (h.does r.0) (live_holds (stage q r.0) t r.1),
          )

  -- from step st₀ to step st, with Head at h', Tail at t' and Threshold at z'
  module _ (st₀ st : Stage) (at : stage q s ≡ st₀) (h' t' : ℕ) (z' : ℤ) where
    abbrev m' : Memory
    m' = changed mem h' t' z' mem.words

    abbrev next : ℕ → Stage
    next = stage (moved q s m' st)

    abbrev mine : next s ≡ st
    mine = stage_mine q m h s here m' st

    abbrev others : (r : ℕ) → (r ≡ s → ⊥) → next r ≡ stage q r
    others = stage_other q m h s here m' st

    -- the items stay, where the station brings what it brought
    pub charged_on : brings st ≡ brings st₀ → mem.head ≤ h' → t' ≤ mem.tail → Charged m' next h.charge
    charged_on same up down = charged_less mem m' (stage q) next h.charge refl up down
        (item_back mem q.stations (stage q) h.charge h.sound s next st mine others m' (λ t i p. p) (λ t i p. inr (s, ap brings at ∙ (sym same ∙ p))))
        (λ t i l. item_on mem q.stations (stage q) h.charge h.sound s next st mine others m' t i (λ p. p)
        (λ p. inr (has_now (stage q) next s st mine others brings (t, i) (same ∙ (sym (ap brings at) ∙ p)))))
        h.sound.charged

    -- the tickets' numbers are then charge'
    module _ (charge' : ℕ → ℕ) where
      abbrev pub Shift : Type 0
      Shift = Marks mem q.stations (stage q) h.charge h.sound s here h' t' z' next st₀ st at charge' mine others

      pub shift : (a : Progress) (d : Doing) → Shift → Does m' st d → Sooner mem st₀ m' st →
          Goes m s (m.doing s) a (then q m h s here a m' st d) → AddMark m (then q m h s here a m' st d) → TakeMark m s a (then q m h s here a m' st d) → Goal a m' st
      shift a d p does sooner goes adds takes = row q m h s here a m' st d charge' (record {
        keeps = marks_keep mem q.stations (stage q) h.charge h.sound s here h' t' z' next st₀ st at charge' mine others p;
        does_mine = does;
        sooner = subst (λ x. Sooner mem x m' st) (sym at) sooner;
        goes = goes;
        adds = adds;
        takes = takes;
      })
