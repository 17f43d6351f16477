-- The numbers of the tickets from Head to Tail, where an add gives up its ticket because of an older pair.
use Rattle.std.proofs.Common.{◌≡◌, ℕ, ◌+◌, ◌*◌, ◌<◌, ◌≤◌, Some, sym, ap, ◌∙◌, subst, inl, inr, ⊎_elim, arith}
use Rattle.std.proofs.lemmas.Bool.{cases_eq, cases_lt}
use Rattle.std.proofs.lemmas.Option.{same_Some}
use Rattle.ring.specs.Cells.{put}
use Rattle.ring.proofs.Entries.{put_same, put_other}
use Rattle.ring.proofs.Tickets.{slots_differ}
use Rattle.ring.proofs.Steps.{had}
use Rattle.scq_table.specs.declared.Stage.{Stage}
use Rattle.scq_table.specs.declared.Stage.TheVariants.{A1, A2}
use Rattle.scq_table.specs.Table.{slot, index, Memory, word}
use Rattle.scq_table.specs.Stands.{Blank, pair, writes, brings, Item, Charged, Sound}
use Rattle.scq_table.proofs.Pairs.{home}
use Rattle.scq_table.proofs.Stations.{brings_writes, brings_low}
use Rattle.scq_table.proofs.Window.{some_place, home_pair, window}
use Rattle.scq_table.proofs.Charges.{item_back, item_on}

-- A2 to A1: the station gives up its ticket t, not below Head, at whose slot there is an older pair
module _ (m : Memory) (k : ℕ) (at : ℕ → Stage) (charge : ℕ → ℕ) (h : Sound m k at charge)
    (s : ℕ) (at' : ℕ → Stage) (others : (r : ℕ) → (r ≡ s → ⊥) → at' r ≡ at r)
    (i t : ℕ) (was : at s ≡ A2 i t) (mine : at' s ≡ A1 i) (high : m.head ≤ t) (taken : Blank m (word m t) → ⊥) where
  abbrev n : ℕ
  n = m.places

  one : 1 ≤ n
  one = some_place m h.shared

  -- the older pair's ticket and index
  abbrev u : ℕ
  u = (home m t one).0

  abbrev j : ℕ
  j = index n (word m t)

  older : pair m u ≡ Some j
  older = home_pair m one t taken

  small : j < n
  small = ⊎_elim (λ b. absurd (taken b)) (λ l. l) (h.shared.indices t)

  low : t < m.tail
  low = brings_low m (at s) t i (h.fits s) (ap brings was)

  own : Item m at t i
  own = inr (s, ap brings was)

  mine_writes : writes (at s) ≡ Some i
  mine_writes = ap writes was

  before : u < t
  before = ⊎_elim (λ l. l) (λ g. absurd (⊎_elim
      (λ e. h.not_both t s i (subst (λ x. pair m x ≡ Some i) e (older ∙ ap Some (same e))) mine_writes)
      (λ d. slots_differ (2 * n) t u (omega arith) (omega (arith, h.shared.pairs_low u j older, window m k at charge h)) (sym (home m t one).1))
      (cases_eq u t))) (cases_lt u t)
    where
      same : u ≡ t → j ≡ i
      same e = sym (h.charged.to_item t j high low (inl (subst (λ x. pair m x ≡ Some j) e older))) ∙ h.charged.to_item t i high low own

  abbrev pub without_ticket : ℕ → ℕ
  without_ticket = put charge t (n + index n (word m t))

  at_t : (x : ℕ) → x ≡ t → without_ticket x ≡ n + j
  at_t x e = ap without_ticket e ∙ put_same charge t (n + j)

  else : (x : ℕ) → (x ≡ t → ⊥) → without_ticket x ≡ charge x
  else x e = put_other charge t (n + j) x e

  back : (x y : ℕ) → Item m at' x y → Item m at x y
  back = item_back m k at charge h s at' (A1 i) mine others m (λ x y p. p) (λ x y p. absurd (cc))

  still : (x y : ℕ) → (x ≡ t → ⊥) → Item m at x y → Item m at' x y
  still x y d = item_on m k at charge h s at' (A1 i) mine others m x y (λ p. p)
      (λ p. absurd (d (sym (ap (λ z. z.0) (same_Some _ _ (sym (ap brings was) ∙ p))))))

  -- no other item has the ticket
  alone : (x y : ℕ) → x ≡ t → Item m at' x y → ⊥
  alone x y e p = go (subst (λ z. Item m at' z i) e (subst (Item m at' x) same p))
    where
      same : y ≡ i
      same = sym (h.charged.to_item t y high low (subst (λ z. Item m at z y) e (back x y p))) ∙ h.charged.to_item t i high low own

      go : Item m at' t i → ⊥
      go (inl q) = h.not_both t s i q mine_writes
      go (inr q) = ⊎_elim (λ a. cc)
          (λ a. a.0 (h.one_writer q.0 s i (brings_writes (at q.0) t i a.1) mine_writes))
          (had at at' s (A1 i) mine others brings q.0 (t, i) q.1)

  -- nothing else is charged to the older pair
  fresh : (x : ℕ) → (x ≡ t → ⊥) → m.head ≤ x → x < m.tail → charge x ≡ n + j → ⊥
  fresh x d a b e = ⊎_elim
      (λ l. slots_differ (2 * n) u t before (omega (arith, low, window m k at charge h)) (home m t one).1)
      (λ r. apart (sym r.1 ∙ (home m t one).1))
      (h.charged.from_older x u j a b e (inl older))
    where
      apart : slot n x ≡ slot n t → ⊥
      apart q = ⊎_elim
          (λ l. slots_differ (2 * n) x t l (omega (arith, low, window m k at charge h)) q)
          (λ g. slots_differ (2 * n) t x (omega arith) (omega (arith, low, window m k at charge h)) (sym q))
          (cases_lt x t)

  pub charged_older : Charged m at' without_ticket
  charged_older = record {
    low = λ x a b. ⊎_elim (λ e. omega (arith, at_t x e, small)) (λ e. omega (arith, else x e, h.charged.low x a b)) (cases_eq x t);
    apart = λ x y a b c d q. ⊎_elim
        (λ e. ⊎_elim (λ f. e ∙ sym f) (λ f. absurd (fresh y f c d (sym (else y f) ∙ (sym q ∙ at_t x e)))) (cases_eq y t))
        (λ e. ⊎_elim (λ f. absurd (fresh x e a b (sym (else x e) ∙ (q ∙ at_t y f)))) (λ f. h.charged.apart x y a b c d (sym (else x e) ∙ (q ∙ else y f))) (cases_eq y t))
        (cases_eq x t);
    to_item = λ x y a b p. ⊎_elim (λ e. absurd (alone x y e p)) (λ e. else x e ∙ h.charged.to_item x y a b (back x y p)) (cases_eq x t);
    from_item = λ x a b l. ⊎_elim
        (λ e. absurd (omega (arith, at_t x e)))
        (λ e. let q = else x e in subst (Item m at' x) (sym q) (still x (charge x) e (h.charged.from_item x a b (omega arith))))
        (cases_eq x t);
    from_older = λ x y z a b q p. ⊎_elim
        (λ e. inr (subst (λ w. (y < w) × (slot n y ≡ slot n w)) (sym e) (there y z (omega (arith, at_t x e)) (back y z p))))
        (λ e. h.charged.from_older x y z a b (sym (else x e) ∙ q) (back y z p))
        (cases_eq x t);
  }
    where
      -- the older pair is the one item of its index
      there : (y z : ℕ) → z ≡ j → Item m at y z → (y < t) × (slot n y ≡ slot n t)
      there y z e (inl p) = let same = h.shared.one_pair u y j older (p ∙ ap Some e) in
          subst (λ w. (w < t) × (slot n w ≡ slot n t)) same (before, (home m t one).1)
      there y z e (inr p) = absurd (h.not_both u p.0 j older (brings_writes (at p.0) y z p.1 ∙ ap Some e))
