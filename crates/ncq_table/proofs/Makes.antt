-- A new ring stands for a new model.
use Rattle.std.proofs.Common.{◌≡◌, ℕ, ◌+◌, ◌<◌, ◌≤◌, cond, ltb, List, length, get_or, replicate, Some, None, sym, refl, ap, ◌∙◌, subst, ⊎_elim, mod-lt, mod-eq_of_lt, arith}
use native.Mathlib.Nat.{div-eq_of_lt, zero-div}
use Rattle.std.proofs.lemmas.List.FromFn.{length-map-range_with_len, get_or-map-range_with_len}
use Rattle.std.proofs.lemmas.List.{length-replicate, get_or-replicate}
use Rattle.std.proofs.lemmas.Bool.{cases_lt, cond-true, lt-ltb}
use Rattle.ring.specs.Sizes.{Sized}
use Rattle.ring.specs.Model.{idle, Model}
use Rattle.ring.specs.Meaning.{New, NoPairs, AllPairs, MadeEmpty, MadeFull}
use Rattle.ring.proofs.Entries.{get_or-same}
use Rattle.ring.proofs.Checks.{sized_low, sized_high}
use Rattle.ring.proofs.Models as models
use Rattle.ring.proofs.Calls.{made_means}
use Rattle.ncq_table.specs.declared.Stage.TheVariants.{Idle}
use Rattle.ncq_table.specs.Table.{cycle, slot, index, join, Memory, word, State, new_ring, full_words, empty, full}
use Rattle.ncq_table.specs.Stands.{pair, Fits, Does, left, Shared, Stands}
use Rattle.ncq_table.proofs.Pairs.{pair_there, pair_passed, pair_cycle}
use Rattle.ncq_table.proofs.Window.{filled_low}
use Rattle.ncq_table.proofs.Built.{each_once}

-- a ring of which no call has been made
module _ (n k l h : ℕ) (ws : List ℕ) (sized : Sized n) (few : k ≤ n) (low : h ≤ n) (shared : Shared (new_ring n k l h ws).memory n) where
  abbrev q : State
  q = new_ring n k l h ws

  abbrev pub new : Model
  new = models.new n k l (pair q.memory) n h

  pub new_stands : Stands q new
  new_stands = record {
    end = n;
    sound = record {
      shared = shared;
      table_room = omega (arith, length-replicate 64 Idle, sized_high n sized);
      beyond = λ s g. get_or-same 64 s Idle;
      fits = λ s. subst (Fits q.memory n) (sym (get_or-same 64 s Idle)) tt;
      one_writer = λ s r i w v. absurd (cc (get_or-same 64 s Idle));
    };
    places = refl;
    stations = refl;
    limit = refl;
    pairs = λ t. refl;
    adds_at = refl;
    takes_at = refl;
    does = λ s. subst (λ x. Does q.memory x idle) (sym (get_or-same 64 s Idle)) refl;
    ends_soon = λ s. subst (λ x. 0 + left q.memory n x ≤ 9) (sym (get_or-same 64 s Idle)) (omega arith);
  }

  pub new_holds : (filled : Model → Type 0) → filled new → (m : Model) × (New n k l m × filled m × Stands q m)
  new_holds filled p = (new, (models.is_new n k l (pair q.memory) n h (omega arith) (omega arith) (each_once q new new_stands), p, new_stands))

-- empty: all words 0

module _ (n : ℕ) (sized : Sized n) (k l : ℕ) where
  abbrev empty_memory : Memory
  empty_memory = (new_ring n k l n (replicate 64 0)).memory

  zero_word : (t : ℕ) → word empty_memory t ≡ 0
  zero_word t = get_or-replicate 64 (slot n t) 0 0 (omega (arith, mod-lt t (sized_low n sized), sized_high n sized))

  empty_shared : Shared empty_memory n
  empty_shared = record {
    some_place = sized_low n sized;
    room = omega (arith, length-replicate {A = ℕ} 64 0, sized_high n sized);
    tail_low = omega arith;
    tail_near = omega arith;
    past = omega arith;
    head_low = omega arith;
    window = λ u a b. ap (cycle n) (zero_word u) ∙ (zero-div n ∙ sym (div-eq_of_lt a));
    apart = λ u v a b c d e. absurd (omega arith);
  }

  no_pairs : (t : ℕ) → pair empty_memory t ≡ None
  no_pairs t = ⊎_elim (λ a. pair_passed empty_memory t a) (λ g. pair_cycle empty_memory t (λ c. omega (arith, filled_low empty_memory n empty_shared t c))) (cases_lt t n)

-- full: word j of cycle 0 and index j

module _ (n : ℕ) (sized : Sized n) (k l : ℕ) where
  abbrev full_memory : Memory
  full_memory = (new_ring n k l 0 (full_words n)).memory

  full_at : (j : ℕ) → j < n → get_or (full_words n) j 0 ≡ j
  unfolding full_words
  full_at j a = get_or-map-range_with_len (λ j. cond (ltb j n) (join n 0 j) 0) 0 64 j j 0 (omega (arith, sized_high n sized)) (omega arith)
      ∙ (cond-true (ltb j n) (join n 0 j) 0 (lt-ltb j n a) ∙ omega arith)

  full_long : length (full_words n) ≡ 64
  unfolding full_words
  full_long = length-map-range_with_len (λ j. cond (ltb j n) (join n 0 j) 0) 0 64

  full_word : (u : ℕ) → u < n → word full_memory u ≡ u
  full_word u a = ap (λ j. get_or (full_words n) j 0) (mod-eq_of_lt a) ∙ full_at u a

  full_index : (u : ℕ) → u < n → index n (word full_memory u) ≡ u
  full_index u a = ap (index n) (full_word u a) ∙ mod-eq_of_lt a

  full_shared : Shared full_memory n
  full_shared = record {
    some_place = sized_low n sized;
    room = omega (arith, full_long, sized_high n sized);
    tail_low = omega arith;
    tail_near = omega arith;
    past = omega arith;
    head_low = omega arith;
    window = λ u a b. ap (cycle n) (full_word u a);
    apart = λ u v a b c d e. sym (full_index u b) ∙ (e ∙ full_index v d);
  }

  all_pairs : (i : ℕ) → i < n → (t : ℕ) × (pair full_memory t ≡ Some i)
  all_pairs i a = (i, pair_there full_memory i (omega arith) (ap (cycle n) (full_word i a)) ∙ ap Some (full_index i a))

pub means_empty : (n k l : ℕ) → MadeEmpty Stands n k l (empty n k l)
means_empty n k l = made_means Stands NoPairs n k l _
    (λ sized crewed. new_holds n k l n (replicate 64 0) sized crewed.1 (omega arith) (empty_shared n sized k l) NoPairs (no_pairs n sized k l))

pub means_full : (n k l : ℕ) → MadeFull Stands n k l (full n k l)
means_full n k l = made_means Stands AllPairs n k l _
    (λ sized crewed. new_holds n k l 0 (full_words n) sized crewed.1 (omega arith) (full_shared n sized k l) AllPairs (all_pairs n sized k l))
