-- A new ring stands for a new model.
use Rattle.std.proofs.Common.{◌≡◌, ℕ, zero, suc, ◌+◌, ◌-◌, ◌*◌, ◌<◌, ◌≤◌, cond, ltb, length, get_or, replicate, ℤ, pos, negsuc, ◌+ℤ◌, ◌≤ℤ◌, Some, sym, refl, ap, ◌∙◌, subst, inl, inr, ⊎_elim, mod-lt, arith}
use native.Mathlib.Nat.{div-add-mod, div-eq_of_lt}
use Rattle.std.proofs.lemmas.List.FromFn.{length-map-range_with_len, get_or-map-range_with_len}
use Rattle.std.proofs.lemmas.List.{length-replicate}
use Rattle.std.proofs.lemmas.Int.{ints}
use Rattle.std.proofs.lemmas.Bool.{cases_lt, cond-true, cond-false, lt-ltb, le-ltb}
use Rattle.ring.specs.Sizes.{Sized, make_checked}
use Rattle.ring.specs.Model.{idle, Model}
use Rattle.ring.specs.Meaning.{NoPairs, AllPairs, Made, MadeEmpty, MadeFull}
use Rattle.ring.proofs.Entries.{get_or-same}
use Rattle.ring.proofs.Scans.{one_if}
use Rattle.ring.proofs.Checks.{sized_low, sized_high}
use Rattle.ring.proofs.Models as models
use Rattle.ring.proofs.Calls.{made_means}
use Rattle.ring.proofs.Tickets as tickets
use Rattle.scq_table.specs.declared.Stage.TheVariants.{Idle}
use Rattle.ring.specs.Tables.{made}
use Rattle.scq_table.specs.Table.{cycle, slot, word_cycle, index, bottom, join, top, Memory, word, State, stage, new_ring, new_words, empty, full}
use Rattle.scq_table.specs.Stands.{Blank, pair, holds, is_some, Fits, Does, Left, Shared, overtaken, spoilt, Charged, holders, Sound, Stands}
use Rattle.scq_table.proofs.Words.{join-cycle, join-index, bottom_low}
use Rattle.scq_table.proofs.Pairs.{pair_there, pair_is, no_pair}
use Rattle.scq_table.proofs.Built.{each_once}

none_holds : (k : ℕ) → holders k (λ s. get_or (replicate 64 Idle) s Idle) ≡ 0
none_holds zero = refl
none_holds (suc k) = omega (arith, ap (λ st. one_if (is_some (holds st))) (get_or-same 64 k Idle), none_holds k)

-- a ring of which no call has been made, with index j under ticket 2n + j for j below c
module _ (n k l c t : ℕ) (z : ℤ) (low : c ≤ n) (end : t ≡ 2 * n + c) (high : z ≤ℤ top n)
    (allowed : (j : ℕ) → j < c → pos (2 * n + j) ≤ℤ (pos (2 * n) +ℤ z)) where
  abbrev q : State
  q = new_ring n k l t z (new_words n c)

  abbrev m : Memory
  m = q.memory

  abbrev new : Model
  new = models.new n k l (pair m) t (2 * n)

  module _ (sized : Sized n) (few : k ≤ n) where
    some_place : 1 ≤ n
    some_place = sized_low n sized

    slot_low : (u : ℕ) → slot n u < 2 * n
    slot_low u = mod-lt u (omega (arith, some_place))

    -- the words

    new_long : length (new_words n c) ≡ 128
    unfolding new_words
    new_long = length-map-range_with_len (λ j. cond (ltb j c) (join n 1 1 j) (join n 0 1 (bottom n))) 0 128

    new_word : (u : ℕ) → word m u ≡ cond (ltb (slot n u) c) (join n 1 1 (slot n u)) (join n 0 1 (bottom n))
    unfolding new_words
    new_word u = get_or-map-range_with_len (λ j. cond (ltb j c) (join n 1 1 j) (join n 0 1 (bottom n))) 0 128 (slot n u) (slot n u) 0
        (omega (arith, slot_low u, sized_high n sized)) (omega arith)

    module _ (u : ℕ) (in_use : slot n u < c) where
      used_word : word m u ≡ join n 1 1 (slot n u)
      used_word = new_word u ∙ cond-true _ _ _ (lt-ltb (slot n u) c in_use)

      used_cycle : word_cycle n (word m u) ≡ 1
      used_cycle = ap (word_cycle n) used_word ∙ join-cycle n 1 1 (slot n u) (omega arith) (slot_low u)

      used_index : index n (word m u) ≡ slot n u
      used_index = ap (index n) used_word ∙ join-index n 1 1 (slot n u) (slot_low u)

      not_blank : Blank m (word m u) → ⊥
      not_blank e = omega (arith, used_index, some_place)

    module _ (u : ℕ) (unused : c ≤ slot n u) where
      blank_word : word m u ≡ join n 0 1 (bottom n)
      blank_word = new_word u ∙ cond-false _ _ _ (le-ltb (slot n u) c unused)

      blank_cycle : word_cycle n (word m u) ≡ 0
      blank_cycle = ap (word_cycle n) blank_word ∙ join-cycle n 0 1 (bottom n) (omega arith) (bottom_low n some_place)

      is_blank : Blank m (word m u)
      is_blank = ap (index n) blank_word ∙ join-index n 0 1 (bottom n) (bottom_low n some_place)

    -- the pairs

    one_cycle : (i : ℕ) → 2 * n + i ≡ 2 * n * 1 + i
    one_cycle i = omega arith

    slot_of : (i : ℕ) → i < c → slot n (2 * n + i) ≡ i
    slot_of i a = ap (slot n) (one_cycle i) ∙ tickets.join-index (2 * n) 1 i (omega arith)

    cycle_of : (i : ℕ) → i < c → cycle n (2 * n + i) ≡ 1
    cycle_of i a = ap (cycle n) (one_cycle i) ∙ tickets.join-cycle (2 * n) 1 i (omega arith)

    pair_at : (i : ℕ) → i < c → pair m (2 * n + i) ≡ Some i
    pair_at i a =
        let in_use : slot n (2 * n + i) < c = omega (arith, slot_of i a) in
        pair_there m (2 * n + i) (used_cycle (2 * n + i) in_use ∙ sym (cycle_of i a)) (not_blank (2 * n + i) in_use)
        ∙ ap Some (used_index (2 * n + i) in_use ∙ slot_of i a)

    pair_new : (u i : ℕ) → pair m u ≡ Some i → (u ≡ 2 * n + i) × (i < c)
    pair_new u i e = let p = pair_is m u i e in ⊎_elim
        (λ a. omega (arith, ap (λ x. 2 * n * x) (sym p.0 ∙ used_cycle u a), div-add-mod u (2 * n), used_index u a, p.2))
        (λ g. absurd (p.1 (is_blank u g)))
        (cases_lt (slot n u) c)

    new_shared : Shared m
    new_shared = record {
      sized = sized;
      room = omega (arith, new_long, sized_high n sized);
      indices = λ u. ⊎_elim (λ a. inr (omega (arith, used_index u a))) (λ g. inl (is_blank u g)) (cases_lt (slot n u) c);
      pairs_low = λ u i e. omega (arith, pair_new u i e);
      blanks_low = λ u own blank. ⊎_elim (λ a. absurd (not_blank u a blank))
          (λ g. omega (arith, ap (λ x. 2 * n * x) (sym own ∙ blank_cycle u g), div-add-mod u (2 * n), slot_low u)) (cases_lt (slot n u) c);
      one_pair = λ u v i e f. omega (arith, pair_new u i e, pair_new v i f);
      threshold_high = high;
    }

    new_charged : Charged m (stage q) (λ u. u - 2 * n)
    new_charged = record {
      low = λ u a b. omega arith;
      apart = λ u v a b d f e. omega arith;
      to_item = λ u i a b. ⊎_elim (λ e. omega (arith, pair_new u i e)) (λ p. absurd (cc (get_or-same 64 p.0 Idle)));
      from_item = λ u a b d. inl (subst (λ v. pair m v ≡ Some (u - 2 * n)) (omega arith) (pair_at (u - 2 * n) (omega arith)));
      from_older = λ u v i a b e p. absurd (omega arith);
    }

    new_sound : Sound m k (stage q) (λ u. u - 2 * n)
    new_sound = record {
      shared = new_shared;
      crew = few;
      beyond = λ s g. get_or-same 64 s Idle;
      fits = λ s. subst (Fits m) (sym (get_or-same 64 s Idle)) tt;
      one_writer = λ s r i w v. absurd (cc (get_or-same 64 s Idle));
      not_both = λ u s i e w. cc (get_or-same 64 s Idle);
      one_holder = λ s r u w v. absurd (cc (get_or-same 64 s Idle));
      held_or_dead = λ u a. inr (⊎_elim
          (λ b. overtaken (omega (arith, div-eq_of_lt a, used_cycle u b)))
          (λ g. spoilt (blank_cycle u g ∙ sym (div-eq_of_lt a)) (is_blank u g))
          (cases_lt (slot n u) c));
      caught_up = λ u a b. absurd (omega arith);
      charged = new_charged;
      credit = λ u i e g. inr (let p = pair_new u i e in subst (λ x. pos x ≤ℤ (pos (2 * n) +ℤ z)) (omega (arith, none_holds k, p.0)) (allowed i p.1));
    }

    new_stands : Stands q new
    new_stands = record {
      charge = λ u. u - 2 * n;
      sound = new_sound;
      table_room = omega (arith, length-replicate 64 Idle, sized_high n sized);
      places = refl;
      stations = refl;
      limit = refl;
      pairs = λ u. refl;
      adds_at = refl;
      takes_at = refl;
      does = λ s. subst (λ st. Does m st idle) (sym (get_or-same 64 s Idle)) refl;
      ends_soon = λ s. (0, omega arith, subst (λ st. Left m st 0) (sym (get_or-same 64 s Idle)) tt);
    }

  -- the indices in pairs are those below c
  new_means : (filled : Model → Type 0) →
      (((u i : ℕ) → pair m u ≡ Some i → i < c) → ((i : ℕ) → i < c → (u : ℕ) × (pair m u ≡ Some i)) → filled new) →
      Made Stands filled n k l (made (make_checked n k l) q)
  new_means filled by = made_means Stands filled n k l q (λ sized crewed.
      let few = crewed.1 in
      let stands = new_stands sized few in (
        new,
        (
          models.is_new n k l (pair m) t (2 * n) (omega arith) (omega arith) (each_once q new stands),
          by (λ u i e. (pair_new sized few u i e).1) (λ i a. (2 * n + i, pair_at sized few i a)),
          stands,
        ),
      ))

pub means_empty : (n k l : ℕ) → MadeEmpty Stands n k l (empty n k l)
means_empty n k l = new_means n k l 0 (2 * n) (negsuc 0) (omega arith) (omega arith) (omega (arith, ints)) (λ j a. absurd (omega arith)) NoPairs
    (λ low there u. no_pair _ (λ i e. omega (arith, low u i e)))

pub means_full : (n k l : ℕ) → MadeFull Stands n k l (full n k l)
means_full n k l = new_means n k l n (3 * n) (top n) (omega arith) (omega arith) (omega (arith, ints)) (λ j a. omega (arith, ints)) AllPairs
    (λ low there. there)
