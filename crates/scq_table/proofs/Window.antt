-- What follows for tickets, pairs and slots from what the memory and the stations keep.
use Rattle.std.proofs.Common.{◌≡◌, ℕ, ◌+◌, ◌-◌, ◌*◌, ◌<◌, ◌≤◌, Some, None, sym, ap, ◌∙◌, ⊎_elim, arith}
use Rattle.ring.proofs.Pigeonhole.{pigeonhole}
use Rattle.ring.proofs.Checks.{sized_low}
use Rattle.ring.proofs.Tickets.{later_cycle}
use Rattle.scq_table.specs.declared.Stage.{Stage}
use Rattle.scq_table.specs.Table.{cycle, word_cycle, index, Memory, word}
use Rattle.scq_table.specs.Stands.{Current, Blank, pair, holds, live, Shared, Dead, Sound}
use Rattle.scq_table.proofs.Pairs.{same_word, pair_is, pair_there, no_pair, home}
use Rattle.scq_table.proofs.Stations.{live_holds}

pub some_place : (m : Memory) → Shared m → 1 ≤ m.places
some_place m h = sized_low m.places h.sized

pub home_current : (m : Memory) (t : ℕ) (p : 1 ≤ m.places) → Current m (home m t p).0
home_current m t p = ap (word_cycle m.places) (same_word m (home m t p).0 t (home m t p).1) ∙ sym (home m t p).2

-- an empty slot of a ticket that Head has not passed is of a cycle before
pub blank_older : (m : Memory) → Shared m → (t : ℕ) → m.head ≤ t → Blank m (word m t) → word_cycle m.places (word m t) < cycle m.places t
blank_older m h t l b =
    let one = some_place m h in
    let u = home m t one in
    let low : u.0 < m.head = h.blanks_low u.0 (home_current m t one) (ap (index m.places) (same_word m u.0 t u.1) ∙ b) in
    omega (arith, u.2, later_cycle (2 * m.places) u.0 t u.1 (omega arith))

-- the pair of the word at a ticket's slot
pub home_pair : (m : Memory) → (p : 1 ≤ m.places) (t : ℕ) → (Blank m (word m t) → ⊥) → pair m (home m t p).0 ≡ Some (index m.places (word m t))
home_pair m p t b =
    let u = home m t p in
    let same = ap (index m.places) (same_word m u.0 t u.1) in
    pair_there m u.0 (home_current m t p) (λ c. b (sym same ∙ c)) ∙ ap Some same

module _ (m : Memory) (k : ℕ) (at : ℕ → Stage) (charge : ℕ → ℕ) (h : Sound m k at charge) where
  -- from Head to Tail there are 2n tickets at the most
  pub window : m.tail ≤ m.head + 2 * m.places
  window = omega (
    arith,
    pigeonhole (2 * m.places) (m.tail - m.head) (λ x. charge (m.head + x))
        (λ x l. h.charged.low (m.head + x) (omega arith) (omega arith))
        (λ x y l r e. let same = h.charged.apart (m.head + x) (m.head + y) (omega arith) (omega arith) (omega arith) (omega arith) e in omega arith),
  )

  dead_pair : (t i : ℕ) → pair m t ≡ Some i → Dead m at t → ⊥
  dead_pair t i p (Dead.overtaken a) = omega (arith, (pair_is m t i p).0)
  dead_pair t i p (Dead.spoilt a b) = (pair_is m t i p).1 b
  dead_pair t i p (Dead.unsafe a b c) = omega (arith, (pair_is m t i p).0)

  -- every pair that Head has passed is a station's
  pub pair_held : (t i : ℕ) → pair m t ≡ Some i → t < m.head → (s : ℕ) × (live (at s) ≡ Some t)
  pair_held t i p l = ⊎_elim (λ x. x) (λ d. absurd (dead_pair t i p d)) (h.held_or_dead t l)

  -- no pair is under a ticket that its station has given up
  pub given_up : (s t : ℕ) → t < m.head → holds (at s) ≡ Some t → live (at s) ≡ None → pair m t ≡ None
  given_up s t l a b = no_pair (pair m t) (λ i e.
      let r = pair_held t i e l in
      let same : r.0 ≡ s = h.one_holder r.0 s t (live_holds (at r.0) t r.1) a in cc)
