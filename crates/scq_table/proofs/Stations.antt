-- What a station's step says of what it does, and of the numbers in its registers.
use Rattle.std.proofs.Common.{◌≡◌, ℕ, ◌<◌, ◌≤◌, Bool, true, false, List, ℤ, Some, refl, ap, ◌∙◌, subst₂, arith}
use Rattle.std.proofs.lemmas.Option.{some_pair_parts}
use Rattle.ring.specs.Model.{Doing, idle, adding, closing, seeking}
use Rattle.scq_table.specs.declared.Stage.{Stage}
use Rattle.scq_table.specs.declared.Stage.TheVariants.{Idle, A1, A2, A3, A4, A5, A6, T1, T2, T3, T4, T5, T6, T7, T8, T9, T10, T11}
use Rattle.scq_table.specs.Table.{index, Memory, word}
use Rattle.scq_table.specs.Stands.{writes, brings, swaps, closes, holds, live, behind, Fits, Does, Current, Blank, Seen, Unspoilt}

pub live_holds : (st : Stage) (x : ℕ) → live st ≡ Some x → holds st ≡ Some x
live_holds (T3 h) x q = q
live_holds (T4 h e) x q = q
live_holds (T5 h e) x q = q
live_holds st x q = cc

pub live_behind : (st : Stage) (x : ℕ) → live st ≡ Some x → behind st ≡ Some x
live_behind (T3 h) x q = q
live_behind (T4 h e) x q = q
live_behind (T5 h e) x q = q
live_behind st x q = cc

pub brings_writes : (st : Stage) (x j : ℕ) → brings st ≡ Some (x, j) → writes st ≡ Some j
brings_writes (A2 i t) x j q = ap Some (some_pair_parts t x i j q).1
brings_writes (A3 i t e) x j q = ap Some (some_pair_parts t x i j q).1
brings_writes (A4 i t e) x j q = ap Some (some_pair_parts t x i j q).1
brings_writes st x j q = cc

pub writes_low : (m : Memory) (st : Stage) (j : ℕ) → Fits m st → writes st ≡ Some j → j < m.places
writes_low m (A1 i) j p q = let same : i ≡ j = cc in omega (arith, p)
writes_low m (A2 i t) j p q = let same : i ≡ j = cc in omega (arith, p.0)
writes_low m (A3 i t e) j p q = let same : i ≡ j = cc in omega (arith, p.0)
writes_low m (A4 i t e) j p q = let same : i ≡ j = cc in omega (arith, p.0)
writes_low m st j p q = absurd (cc)

pub brings_low : (m : Memory) (st : Stage) (x j : ℕ) → Fits m st → brings st ≡ Some (x, j) → x < m.tail
brings_low m (A2 i t) x j p q = omega (arith, p.1, (some_pair_parts t x i j q).0)
brings_low m (A3 i t e) x j p q = omega (arith, p.1, (some_pair_parts t x i j q).0)
brings_low m (A4 i t e) x j p q = omega (arith, p.1, (some_pair_parts t x i j q).0)
brings_low m st x j p q = absurd (cc)

pub holds_low : (m : Memory) (st : Stage) (x : ℕ) → Fits m st → holds st ≡ Some x → x < m.head
holds_low m (T3 h) x p q = let same : h ≡ x = cc in omega (arith, p.0)
holds_low m (T4 h e) x p q = let same : h ≡ x = cc in omega (arith, p.0)
holds_low m (T5 h e) x p q = let same : h ≡ x = cc in omega (arith, p.0)
holds_low m (T6 h) x p q = let same : h ≡ x = cc in omega (arith, p)
holds_low m (T7 h u v) x p q = let same : h ≡ x = cc in omega (arith, p.0)
holds_low m (T8 h) x p q = let same : h ≡ x = cc in omega (arith, p)
holds_low m (T9 h v) x p q = let same : h ≡ x = cc in omega (arith, p.0)
holds_low m (T10 h) x p q = let same : h ≡ x = cc in omega (arith, p)
holds_low m (T11 h) x p q = let same : h ≡ x = cc in omega (arith, p)
holds_low m st x p q = absurd (cc)

pub swaps_seen : (m : Memory) (st : Stage) (x w : ℕ) → Fits m st → swaps st ≡ Some (x, w) → Seen m x w
swaps_seen m (A4 i t e) x w p q = let same = some_pair_parts t x e w q in subst₂ (Seen m) same.0 same.1 p.2
swaps_seen m st x w p q = absurd (cc)

-- what it does in the model
pub adding_writes : (m : Memory) (st : Stage) (d : Doing) (j f : ℕ) → Does m st d → d ≡ adding j f → writes st ≡ Some j
adding_writes m Idle d j f p q = cc
adding_writes m (A5 t) d j f p q = cc
adding_writes m (A6 t) d j f p q = cc
adding_writes m st d j f p q = let z = p.2 in cc

pub idle_only : (m : Memory) (st : Stage) (d : Doing) → Does m st d → d ≡ idle → st ≡ Idle
idle_only m Idle d p q = refl
idle_only m (A5 t) d p q = cc
idle_only m (A6 t) d p q = cc
idle_only m st d p q = let z = p.2 in cc

pub holds_does : (m : Memory) (st : Stage) (d : Doing) (x : ℕ) → Does m st d → holds st ≡ Some x → (f : ℕ) × (bare : Bool) × (d ≡ seeking f (Some x) bare)
holds_does m (T3 h) d x p q = (p.0, false, p.2 ∙ ap (λ y. seeking p.0 y false) q)
holds_does m (T4 h e) d x p q = (p.0, false, p.2 ∙ ap (λ y. seeking p.0 y false) q)
holds_does m (T5 h e) d x p q = (p.0, false, p.2 ∙ ap (λ y. seeking p.0 y false) q)
holds_does m (T6 h) d x p q = (p.0, false, p.2 ∙ ap (λ y. seeking p.0 y false) q)
holds_does m (T7 h u v) d x p q = (p.0, true, p.2 ∙ ap (λ y. seeking p.0 y true) q)
holds_does m (T8 h) d x p q = (p.0, true, p.2 ∙ ap (λ y. seeking p.0 y true) q)
holds_does m (T9 h v) d x p q = (p.0, true, p.2 ∙ ap (λ y. seeking p.0 y true) q)
holds_does m (T10 h) d x p q = (p.0, true, p.2 ∙ ap (λ y. seeking p.0 y true) q)
holds_does m (T11 h) d x p q = (p.0, false, p.2 ∙ ap (λ y. seeking p.0 y false) q)
holds_does m st d x p q = absurd (cc)

pub closes_does : (m : Memory) (st : Stage) (d : Doing) (x : ℕ) → Does m st d → closes st ≡ Some x → d ≡ closing x
closes_does m (A5 t) d x p q = cc
closes_does m st d x p q = cc

-- the marks have not fallen
pub does_on : (m m' : Memory) → m.tail ≤ m'.tail → m.head ≤ m'.head → (st : Stage) (d : Doing) → Does m st d → Does m' st d
does_on m m' a b (A1 i) d p = (p.0, omega (arith, p.1), p.2)
does_on m m' a b T1 d p = (p.0, omega (arith, p.1), p.2)
does_on m m' a b T2 d p = (p.0, omega (arith, p.1), p.2)
does_on m m' a b st d p = p

-- a change of the memory

module _ (m : Memory) (h' t' : ℕ) (z' : ℤ) (ws' : List ℕ) where
  abbrev pub changed : Memory
  changed = record { places = m.places; head = h'; tail = t'; threshold = z'; words = ws' }

  -- the marks have not fallen, and the words still say what the station's registers say of them
  pub fits_on : m.tail ≤ t' → m.head ≤ h' → (st : Stage) → ((t e : ℕ) → Seen m t e → Seen changed t e) →
      ((h : ℕ) → holds st ≡ Some h → Unspoilt m h → Unspoilt changed h) →
      ((h e : ℕ) → holds st ≡ Some h → Current m h → index m.places (word m h) ≡ index m.places e → (Blank m e → ⊥) →
      Current changed h × (index m.places (word changed h) ≡ index m.places e)) →
      Fits m st → Fits changed st
  fits_on a b (A2 i t) seen unspoilt taken p = (p.0, omega (arith, p.1))
  fits_on a b (A3 i t e) seen unspoilt taken p = (p.0, omega (arith, p.1), seen t e p.2)
  fits_on a b (A4 i t e) seen unspoilt taken p = (p.0, omega (arith, p.1), seen t e p.2)
  fits_on a b (A5 t) seen unspoilt taken p = omega (arith, p)
  fits_on a b (A6 t) seen unspoilt taken p = omega (arith, p)
  fits_on a b (T3 h) seen unspoilt taken p = (omega (arith, p.0), unspoilt h refl p.1)
  fits_on a b (T4 h e) seen unspoilt taken p = (let q = taken h e refl p.1 p.2 p.3 in (omega (arith, p.0), q.0, q.1, p.3))
  fits_on a b (T5 h e) seen unspoilt taken p = (omega (arith, p.0), unspoilt h refl p.1, p.2)
  fits_on a b (T6 h) seen unspoilt taken p = omega (arith, p)
  fits_on a b (T7 h u v) seen unspoilt taken p = (omega (arith, p.0), p.1, p.2, omega (arith, p.3))
  fits_on a b (T8 h) seen unspoilt taken p = omega (arith, p)
  fits_on a b (T9 h v) seen unspoilt taken p = (omega (arith, p.0), p.1, omega (arith, p.2))
  fits_on a b (T10 h) seen unspoilt taken p = omega (arith, p)
  fits_on a b (T11 h) seen unspoilt taken p = omega (arith, p)
  fits_on a b st seen unspoilt taken p = p
