-- When a pair is under a ticket, and which; and the ticket of the word at a slot.
use Rattle.std.proofs.Common.{◌≡◌, ℕ, ◌+◌, ◌*◌, ◌≤◌, get_or, Some, None, Option, sym, refl, ap, ◌∙◌, mod-lt, arith}
use Rattle.std.proofs.lemmas.Bool.Decides.{nat_tests}
use Rattle.ring.proofs.Tickets.{join-cycle, join-index, same_ticket}
use Rattle.scq_table.specs.Table.{cycle, slot, word_cycle, index, Memory, word}
use Rattle.scq_table.specs.Stands.{Current, Blank, pair}

-- tickets t and u have one slot
abbrev pub SameSlot : Memory → ℕ → ℕ → Type 0
SameSlot m t u = slot m.places t ≡ slot m.places u

pub same_word : (m : Memory) (t u : ℕ) → SameSlot m t u → word m t ≡ word m u
same_word m t u e = ap (λ j. get_or m.words j 0) e

pub no_pair : (o : Option ℕ) → ((i : ℕ) → o ≡ Some i → ⊥) → o ≡ None
no_pair None none = refl
no_pair (Some i) none = absurd (none i refl)

module _ (m : Memory) (t : ℕ) where
  pub pair_there : Current m t → (Blank m (word m t) → ⊥) → pair m t ≡ Some (index m.places (word m t))
  pair_there c b = grind (arith, nat_tests)

  pub pair_elsewhere : (Current m t → ⊥) → pair m t ≡ None
  pair_elsewhere c = grind (arith, nat_tests)

  pub pair_blank : Blank m (word m t) → pair m t ≡ None
  pair_blank b = grind (arith, nat_tests)

  pub pair_is : (i : ℕ) → pair m t ≡ Some i → Current m t × (Blank m (word m t) → ⊥) × (index m.places (word m t) ≡ i)
  pair_is i e = (grind (arith, nat_tests), (λ b. grind (arith, nat_tests)), grind (arith, nat_tests))

  -- the ticket of the word at t's slot
  pub home : 1 ≤ m.places → (u : ℕ) × SameSlot m u t × (cycle m.places u ≡ word_cycle m.places (word m t))
  home p = (
    2 * m.places * word_cycle m.places (word m t) + slot m.places t,
    join-index (2 * m.places) (word_cycle m.places (word m t)) (slot m.places t) (mod-lt t (omega arith)),
    join-cycle (2 * m.places) (word_cycle m.places (word m t)) (slot m.places t) (mod-lt t (omega arith)),
  )

-- a slot has one ticket that is current
pub one_current : (m : Memory) (t u : ℕ) → SameSlot m t u → Current m t → Current m u → t ≡ u
one_current m t u e c d = same_ticket (2 * m.places) t u e (sym c ∙ (ap (word_cycle m.places) (same_word m t u e) ∙ d))
