-- Each turn brings a lone call nearer to its end; each lemma is named by the step that was made and the next one.
use Rattle.std.proofs.Common.{◌≡◌, ℕ, ◌<◌, ◌≤◌, arith}
use Rattle.std.proofs.lemmas.Bool.Decides.{nat_tests}
use Rattle.ncq_table.specs.declared.Stage.{Stage}
use Rattle.ncq_table.specs.declared.Stage.TheVariants.{Idle, N1, N2, N3, N4, N5, N6, N7, N8}
use Rattle.ncq_table.specs.Table.{Memory, word}
use Rattle.ncq_table.specs.Stands.{left}

pub left_most : (m : Memory) (e : ℕ) (st : Stage) → left m e st ≤ 9
left_most m e Idle = omega arith
left_most m e st = grind (arith, nat_tests)

module _ (m : Memory) (e i t : ℕ) where
  pub n1_n2 : left m e (N2 i m.tail) < left m e (N1 i)
  n1_n2 = grind (arith, nat_tests)

  pub n2_n3 : t < e → left m e (N3 i t) < left m e (N2 i t)
  n2_n3 l = grind (arith, nat_tests)

  pub n2_n4 : left m e (N4 i t (word m t)) < left m e (N2 i t)
  n2_n4 = grind (arith, nat_tests)

  pub n2_n1 : (t ≡ m.tail → ⊥) → left m e (N1 i) < left m e (N2 i t)
  n2_n1 d = grind (arith, nat_tests)

  pub n3_n1 : (t ≡ m.tail → ⊥) → left m e (N1 i) < left m e (N3 i t)
  n3_n1 d = grind (arith, nat_tests)

  pub n4_n1 : (w : ℕ) → (word m t ≡ w → ⊥) → left m e (N1 i) < left m e (N4 i t w)
  n4_n1 w d = grind (arith, nat_tests)

  pub n4_n5 : (m' : Memory) (e' w : ℕ) → word m t ≡ w → left m' e' (N5 t) < left m e (N4 i t w)
  n4_n5 m' e' w d = grind (arith, nat_tests)

  pub n6_n7 : left m e (N7 m.head) < left m e N6
  n6_n7 = grind (arith, nat_tests)

  pub n7_n8 : (w : ℕ) → left m e (N8 t w) < left m e (N7 t)
  n7_n8 w = grind (arith, nat_tests)

  pub n7_n6 : (t ≡ m.head → ⊥) → left m e N6 < left m e (N7 t)
  n7_n6 d = grind (arith, nat_tests)

  pub n7_ends : 0 < left m e (N7 t)
  n7_ends = grind (arith, nat_tests)

  pub n8_n6 : (w : ℕ) → (t ≡ m.head → ⊥) → left m e N6 < left m e (N8 t w)
  n8_n6 w d = grind (arith, nat_tests)

  pub n8_ends : (w : ℕ) → 0 < left m e (N8 t w)
  n8_ends w = grind (arith, nat_tests)

-- Tail has been moved from t
pub n3_moved : (m m' : Memory) (e i t : ℕ) → t ≡ m.tail → e ≡ m'.tail → left m' e (N1 i) < left m e (N3 i t)
n3_moved m m' e i t d l = grind (arith, nat_tests)
