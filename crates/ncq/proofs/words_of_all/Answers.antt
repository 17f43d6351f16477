use Rattle.std.proofs.Common.{◌≡◌, ℕ, ◌+◌, ◌*◌, cond, ltb, refl, ap, ◌∙◌, mul-zero, zero-add, rules}
use Rattle.ring.proofs.Arrays.{from_fn_is}
use borrow.Author.Tests.{tests}
use Rattle.ncq_table.specs.Table.{full_words}
use Rattle.ncq.proofs.words_of_all.Goals as goal

-- a word of cycle 0 is its index
in_cycle_0 : (n i : ℕ) → cond (ltb i n) i 0 ≡ cond (ltb i n) (n * 0 + i) 0
in_cycle_0 n i = ap (λ x. cond (ltb i n) x 0) (simp (mul-zero, zero-add) refl)

pub returns : goal.returns
unfolding full_words
returns c =
    let n = c.args.places in
    from_fn_is _ _ (λ j. cond (ltb j n) (n * 0 + j) 0) (λ i y q k. (search (rules, tests), search (rules, tests) ∙ in_cycle_0 n i)) _ 64 0 c.from_fn.ensures.items
