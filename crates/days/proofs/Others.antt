-- A call of one station leaves what holds of each other station's call.
use Rattle.std.proofs.Common.{◌≡◌, ℕ, ◌+◌, ◌*◌, ◌<◌, ◌≤◌, ◌⊎◌, Some, None, Option, sym, ◌∙◌, ⊎_elim, arith}
use Rattle.std.proofs.lemmas.Bool.{cases_lt}
use Rattle.ring.specs.Model.{adding, Model}
use Rattle.days.specs.declared.Stage.{Stage}
use Rattle.days.specs.declared.Stage.TheVariants.{Idle, TakeFree, Store, AddWaiting, TakeWaiting, Fetch, AddFree}
use Rattle.days.specs.Racks.{Lies, hand}
use Rattle.days.specs.Day.{Scene, Call}
use Rattle.days.specs.Book.{End, Book}
use Rattle.days.proofs.Invariant.{Owner, drawn, filled, fetched, IsPut, IsTake, Current, Adds, Returns, Serves, Booked, Sound}

-- what has begun, and what has ended, did so before now
module _ {R : Type 0} {n : ℕ} {Empty Full : ℕ → ℕ → Type 0} {at : ℕ} {waiting : Model} {begun : ℕ → Option (Call R)} {ticket : ℕ → Option ℕ}
    {ended : ℕ → Option (End R)} {current : ℕ → Option ℕ} (h : Booked n Empty Full at waiting begun ticket ended current) where
  pub begun_before : (b : ℕ) (c : Call R) → begun b ≡ Some c → b < at
  begun_before b c e = ⊎_elim (λ l. l) (λ l. absurd (cc (h.none_begun b l))) (cases_lt b at)

  pub ended_before : (b : ℕ) (x : End R) → ended b ≡ Some x → b < at
  ended_before b x e = ⊎_elim (λ l. l) (λ l. absurd (cc (h.none_ended b l))) (cases_lt b at)

  pub ticket_before : (b t : ℕ) → ticket b ≡ Some t → b < at
  ticket_before b t e = ⊎_elim (λ l. l) (λ l. absurd (cc (h.none_ticket b l))) (cases_lt b at)

-- what a call of another station changes of station r's
pub record Apart {R : Type 0} (n at : ℕ) (Empty Full Empty' Full' : ℕ → ℕ → Type 0) (σ : Scene R) (β : Book R) (owner : ℕ → Owner)
    (σ' : Scene R) (β' : Book R) (owner' : ℕ → Owner) (r : ℕ) : Type 0 where
  pub free_does : σ'.free.doing r ≡ σ.free.doing r
  pub waiting_does : σ'.waiting.doing r ≡ σ.waiting.doing r
  pub current_same : β'.current r ≡ β.current r
  pub begun_same : (y : ℕ) → y < at → β'.begun y ≡ β.begun y
  pub ended_same : (b : ℕ) → β.current r ≡ Some b → β'.ended b ≡ β.ended b
  pub ticket_same : (b : ℕ) → β.current r ≡ Some b → β'.ticket b ≡ β.ticket b
  pub ticket_kept : (y t : ℕ) → β.ticket y ≡ Some t → β'.ticket y ≡ Some t
  pub ended_old : (y : ℕ) (e : End R) → β'.ended y ≡ Some e → (at < e.when) ⊎ ((β.ended y ≡ Some e) × (β'.ticket y ≡ β.ticket y))
  pub lone_less : (β'.lone r ≡ 0) ⊎ ((β'.lone r ≡ β.lone r) × (σ'.free.lone r ≡ σ.free.lone r) × (σ'.waiting.lone r ≡ σ.waiting.lone r))
  pub hand_kept : (x : R) → Lies σ.rack (hand n r) x → Lies σ'.rack (hand n r) x
  pub drawn_kept : (i : ℕ) → owner i ≡ drawn r → owner' i ≡ drawn r
  pub filled_kept : (i from y : ℕ) → σ.waiting.doing r ≡ adding i from → owner i ≡ filled y → owner' i ≡ filled y
  pub fetched_kept : (i y : ℕ) → owner i ≡ fetched r y → owner' i ≡ fetched r y
  pub empty_grows : (x : ℕ) → Empty x at → Empty' x (at + 1)
  pub full_grows : (y : ℕ) → Full y at → Full' y (at + 1)

module _ {R : Type 0} (n k at : ℕ) (Empty Full Empty' Full' : ℕ → ℕ → Type 0) (σ : Scene R) (β : Book R) (h : Sound n k Empty Full at σ β)
    (σ' : Scene R) (β' : Book R) (owner' : ℕ → Owner) (r : ℕ) (a : Apart n at Empty Full Empty' Full' σ β h.owner σ' β' owner' r) where
  still : (b : ℕ) (c : Call R) → Current β r b c → Current β' r b c
  still b c p = record {
    current = a.current_same ∙ p.current;
    begun = a.begun_same b (begun_before h.booked b c p.begun) ∙ p.begun;
    going = a.ended_same b p.current ∙ p.going;
  }

  no_ticket : (b : ℕ) (c : Call R) → Current β r b c → β.ticket b ≡ None → β'.ticket b ≡ None
  no_ticket b c p e = a.ticket_same b p.current ∙ e

  was_put : (y : ℕ) (e : End R) → β.ended y ≡ Some e → IsPut β'.begun y → IsPut β.begun y
  was_put y e p q = (q.0, q.1, sym (a.begun_same y (ended_before h.booked y e p)) ∙ q.2)

  was_take : (x : ℕ) (e : End R) → β.ended x ≡ Some e → IsTake β'.begun x → IsTake β.begun x
  was_take x e p q = (q.0, sym (a.begun_same x (ended_before h.booked x e p)) ∙ q.1)

  adds_still : (b : ℕ) (c : Call R) → Current β r b c → Adds n (λ x. Empty x at) (λ y. Full y at) σ β h.owner r b → Adds n (λ x. Empty' x (at + 1)) (λ y. Full' y (at + 1)) σ' β' owner' r b
  adds_still b c p (Adds.adds i from e t o l) = Adds.adds i from (a.waiting_does ∙ e) (no_ticket b c p t) (a.filled_kept i from b e o)
      (λ y u x put over w ticket. ⊎_elim
      (λ late. absurd (omega (arith, begun_before h.booked b c p.begun)))
      (λ old. l y u x (was_put y x old.0 put) old.0 w (sym old.1 ∙ ticket))
      (a.ended_old y x over))
  adds_still b c p (Adds.closes t e u) = Adds.closes t (a.waiting_does ∙ e) (a.ticket_kept b t u)

  returns_still : Returns n (λ x. Empty x at) (λ y. Full y at) σ β h.owner r → Returns n (λ x. Empty' x (at + 1)) (λ y. Full' y (at + 1)) σ' β' owner' r
  returns_still (Returns.adds i from e) = Returns.adds i from (a.free_does ∙ e)
  returns_still (Returns.closes t e) = Returns.closes t (a.free_does ∙ e)

  -- a bound on lone turns that allows as many as the rings count more
  few_still : (c : ℕ) → β.lone r ≤ c → β'.lone r ≤ c
  few_still c l = ⊎_elim (λ z. omega arith) (λ z. omega (arith, z.0)) a.lone_less

  few_free : (c : ℕ) → β.lone r ≤ c + σ.free.lone r → β'.lone r ≤ c + σ'.free.lone r
  few_free c l = ⊎_elim (λ z. omega arith) (λ z. omega (arith, z.0, z.1)) a.lone_less

  few_waiting : (c : ℕ) → β.lone r ≤ c + σ.waiting.lone r → β'.lone r ≤ c + σ'.waiting.lone r
  few_waiting c l = ⊎_elim (λ z. omega arith) (λ z. omega (arith, z.0, z.2)) a.lone_less

  pub serves_still : (st : Stage) → Serves n (λ x. Empty x at) (λ y. Full y at) σ β h.owner r st → Serves n (λ x. Empty' x (at + 1)) (λ y. Full' y (at + 1)) σ' β' owner' r st
  serves_still Idle p = record { free_idle = a.free_does ∙ p.free_idle; waiting_idle = a.waiting_does ∙ p.waiting_idle; no_call = a.current_same ∙ p.no_call }
  serves_still TakeFree p = record {
    b = p.b;
    r = p.r;
    call = still p.b _ p.call;
    no_ticket = no_ticket p.b _ p.call p.no_ticket;
    from = p.from;
    held = p.held;
    bare = p.bare;
    free_seeks = a.free_does ∙ p.free_seeks;
    waiting_idle = a.waiting_does ∙ p.waiting_idle;
    in_hand = a.hand_kept p.r p.in_hand;
    found = λ e. a.full_grows p.b (p.found e);
    few = omega (arith, few_free 0 (omega (arith, p.few)));
  }
  serves_still (Store i) p = record {
    b = p.b;
    r = p.r;
    call = still p.b _ p.call;
    no_ticket = no_ticket p.b _ p.call p.no_ticket;
    free_idle = a.free_does ∙ p.free_idle;
    waiting_idle = a.waiting_does ∙ p.waiting_idle;
    in_hand = a.hand_kept p.r p.in_hand;
    owned = a.drawn_kept i p.owned;
    low = p.low;
    few = few_still (16 * n + 16) p.few;
  }
  serves_still AddWaiting p = record {
    b = p.b;
    r = p.r;
    call = still p.b _ p.call;
    free_idle = a.free_does ∙ p.free_idle;
    waiting_adds = adds_still p.b _ p.call p.waiting_adds;
    few = few_waiting (16 * n + 17) p.few;
  }
  serves_still TakeWaiting p = record {
    b = p.b;
    call = still p.b _ p.call;
    no_ticket = no_ticket p.b _ p.call p.no_ticket;
    from = p.from;
    held = p.held;
    bare = p.bare;
    free_idle = a.free_does ∙ p.free_idle;
    waiting_seeks = a.waiting_does ∙ p.waiting_seeks;
    late = λ x t e take over w ticket. ⊎_elim
        (λ new. absurd (omega (arith, begun_before h.booked p.b _ p.call.begun)))
        (λ old. p.late x t e (was_take x e old.0 take) old.0 w (sym old.1 ∙ ticket))
        (a.ended_old x e over);
    found = λ e. a.empty_grows p.b (p.found e);
    few = omega (arith, few_waiting 0 (omega (arith, p.few)));
  }
  serves_still (Fetch i) p = record {
    b = p.b;
    call = still p.b _ p.call;
    ticket = p.ticket;
    has = a.ticket_kept p.b p.ticket p.has;
    free_idle = a.free_does ∙ p.free_idle;
    waiting_idle = a.waiting_does ∙ p.waiting_idle;
    put = p.put;
    owned = a.fetched_kept i p.put p.owned;
    entered = a.ticket_kept p.put p.ticket p.entered;
    low = p.low;
    few = few_still (16 * n + 16) p.few;
  }
  serves_still AddFree p = record {
    b = p.b;
    call = still p.b _ p.call;
    ticket = p.ticket;
    has = a.ticket_kept p.b p.ticket p.has;
    waiting_idle = a.waiting_does ∙ p.waiting_idle;
    free_adds = returns_still p.free_adds;
    put = p.put;
    by = p.by;
    r = p.r;
    put_begun = a.begun_same p.put (begun_before h.booked p.put _ p.put_begun) ∙ p.put_begun;
    entered = a.ticket_kept p.put p.ticket p.entered;
    in_hand = a.hand_kept p.r p.in_hand;
    few = few_free (16 * n + 17) p.few;
  }
