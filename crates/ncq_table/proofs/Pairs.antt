-- When a pair is under a ticket, and which.
use Rattle.std.proofs.Common.{◌≡◌, ℕ, ◌<◌, ◌≤◌, Some, None, arith}
use Rattle.std.proofs.lemmas.Bool.Decides.{nat_tests}
use Rattle.ncq_table.specs.Table.{cycle, index, Memory, word}
use Rattle.ncq_table.specs.Stands.{pair}

module _ (m : Memory) (t : ℕ) where
  pub pair_there : m.head ≤ t → cycle m.places (word m t) ≡ cycle m.places t → pair m t ≡ Some (index m.places (word m t))
  pair_there h c = grind (arith, nat_tests)

  pub pair_passed : t < m.head → pair m t ≡ None
  pair_passed h = grind (arith, nat_tests)

  pub pair_cycle : (cycle m.places (word m t) ≡ cycle m.places t → ⊥) → pair m t ≡ None
  pair_cycle c = grind (arith, nat_tests)

  pub pair_is : (i : ℕ) → pair m t ≡ Some i →
      (m.head ≤ t) × (cycle m.places (word m t) ≡ cycle m.places t) × (index m.places (word m t) ≡ i)
  pair_is i e = (grind (arith, nat_tests), grind (arith, nat_tests), grind (arith, nat_tests))
