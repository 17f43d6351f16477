-- An injective map from the numbers below m to the numbers below n: then m is at most n.
use Rattle.std.proofs.Common.{◌≡◌, ℕ, ◌<◌, ◌≤◌, true, List, map, length, get_or, eqb, sym, ◌∙◌, subst, arith}
use Rattle.std.specs.List.{range_with_len, list_any, IsDistinct}
use Rattle.std.proofs.lemmas.Bool.{ne_eqb, eqb-true}
use Rattle.std.proofs.lemmas.List.FromFn.{length-map-range_with_len, get_or-map-range_with_len}
use Rattle.std.proofs.lemmas.List.Folds.{Any-from_list_any}
use Rattle.std.proofs.lemmas.Map.Keys.{IsDistinct-from_apart}
use Rattle.std.proofs.lemmas.Map.Steps.{length-le_from_distinct_below}

pub pigeonhole : (n m : ℕ) (f : ℕ → ℕ) → ((x : ℕ) → x < m → f x < n) →
    ((x y : ℕ) → x < m → y < m → f x ≡ f y → x ≡ y) → m ≤ n
pigeonhole n m f below inj = subst (λ k. k ≤ n) long (length-le_from_distinct_below values n apart low)
  where
    values : List ℕ
    values = map f (range_with_len 0 m)

    long : length values ≡ m
    long = length-map-range_with_len f 0 m

    at : (x d : ℕ) → x < length values → get_or values x d ≡ f x
    at x d l = get_or-map-range_with_len f 0 m x x d (omega (arith, long)) (omega arith)

    apart : IsDistinct eqb values
    apart = IsDistinct-from_apart eqb values (λ x y d l k. ne_eqb _ _ (λ e.
        let same = inj x y (omega (arith, long)) (omega (arith, long)) (sym (at x d (omega arith)) ∙ (e ∙ at y d k)) in omega arith))

    low : (v : ℕ) → list_any (eqb v) values ≡ true → v < n
    low v e = let p = Any-from_list_any (eqb v) values e in omega (arith, eqb-true v p.1 p.4, p.3, at p.0 p.1 p.2, below p.0 (omega (arith, long, p.2)))
