-- What a write of one word leaves of the other slots' pairs, registers and dead tickets.
use Rattle.std.proofs.Common.{◌≡◌, ℕ, ◌*◌, ◌<◌, ◌⊎◌, Some, sym, ap, ◌∙◌, subst, ⊎_elim, mod-lt, arith}
use Rattle.std.proofs.lemmas.List.{length-set, get_or-set_same, get_or-set_other}
use Rattle.std.proofs.lemmas.Bool.{cases_eq}
use Rattle.scq_table.specs.declared.Stage.{Stage}
use Rattle.scq_table.specs.Table.{slot, word_cycle, safe, index, bottom, Memory, word, with_word}
use Rattle.scq_table.specs.Stands.{Current, Blank, Seen, Unspoilt, pair, swaps, Shared, Dead}
use Rattle.scq_table.proofs.Pairs.{SameSlot, same_word}
use Rattle.scq_table.proofs.Window.{some_place}

-- w' is written at the slot of ticket u
module _ (m : Memory) (h : Shared m) (u w' : ℕ) where
  abbrev n : ℕ
  n = m.places

  abbrev pub written : Memory
  written = with_word m u w'

  pub word_here : (t : ℕ) → SameSlot m t u → word written t ≡ w'
  word_here t e = let low : slot n u < 2 * n = mod-lt u (omega (arith, some_place m h)) in
      same_word written t u e ∙ get_or-set_same m.words (slot n u) w' 0 (omega (arith, h.room))

  pub word_there : (t : ℕ) → (SameSlot m t u → ⊥) → word written t ≡ word m t
  word_there t d = get_or-set_other m.words (slot n u) (slot n t) w' 0 d

  pub pair_there_still : (t : ℕ) → (SameSlot m t u → ⊥) → pair written t ≡ pair m t
  pair_there_still t d = cc (word_there t d)

  -- what holds of each other slot's word, and of this one
  pub by_slot : (P : ℕ → ℕ → Type 0) → ((t : ℕ) → SameSlot m t u → P t w') → ((t : ℕ) → (SameSlot m t u → ⊥) → P t (word m t)) → (t : ℕ) → P t (word written t)
  by_slot P here there t = ⊎_elim
      (λ e. subst (P t) (sym (word_here t e)) (here t e))
      (λ e. subst (P t) (sym (word_there t e)) (there t e))
      (cases_eq (slot n t) (slot n u))

  -- registers and dead tickets of another slot

  pub seen_there : (t e : ℕ) → (SameSlot m t u → ⊥) → Seen m t e → Seen written t e
  seen_there t e d p = (p.0, p.1, subst (λ w. (e ≡ w) ⊎ (word_cycle n e < word_cycle n w)) (sym (word_there t d)) p.2)

  pub unspoilt_there : (x : ℕ) → (SameSlot m x u → ⊥) → Unspoilt m x → Unspoilt written x
  unspoilt_there x d p c b = let w = word_there x d in p (sym (ap (word_cycle n) w) ∙ c) (sym (ap (index n) w) ∙ b)

  pub taken_there : (x e : ℕ) → (SameSlot m x u → ⊥) → Current m x → index n (word m x) ≡ index n e → Current written x × (index n (word written x) ≡ index n e)
  taken_there x e d c i = let w = word_there x d in (ap (word_cycle n) w ∙ c, ap (index n) w ∙ i)

  pub dead_there : (at at' : ℕ → Stage) → ((r x e : ℕ) → swaps (at' r) ≡ Some (x, e) → swaps (at r) ≡ Some (x, e)) → (t : ℕ) → (SameSlot m t u → ⊥) → Dead m at t → Dead written at' t
  dead_there at at' from t e (Dead.overtaken a) = Dead.overtaken (omega (arith, ap (word_cycle n) (word_there t e)))
  dead_there at at' from t e (Dead.spoilt a b) = let w = word_there t e in Dead.spoilt (ap (word_cycle n) w ∙ a) (ap (index n) w ∙ b)
  dead_there at at' from t e (Dead.unsafe a b c) = let w = word_there t e in
      Dead.unsafe (omega (arith, ap (word_cycle n) w)) (ap (safe n) w ∙ b)
      (λ r x p y. c r x (from r x (word m t) (p ∙ ap (λ z. Some (x, z)) w)) y)

  -- a change of the words that leaves no new pair but perhaps one under u
  pub shared_on : ((t : ℕ) → (index n (word written t) ≡ bottom n) ⊎ (index n (word written t) < n)) →
      ((t i : ℕ) → pair written t ≡ Some i → t < m.tail) → ((t : ℕ) → Current written t → Blank written (word written t) → t < m.head) →
      ((t v i : ℕ) → pair written t ≡ Some i → pair written v ≡ Some i → t ≡ v) → Shared written
  shared_on a b c d = record {
    sized = h.sized;
    room = rw length-set h.room;
    indices = a;
    pairs_low = b;
    blanks_low = c;
    one_pair = d;
    threshold_high = h.threshold_high;
  }
