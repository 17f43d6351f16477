-- The model of a new ring, and that of a ring after a begin or a turn of one station.
use Rattle.std.proofs.Common.{◌≡◌, ℕ, ◌+◌, ◌*◌, ◌<◌, ◌≤◌, Option, refl, arith}
use Rattle.ring.specs.declared.Progress.{Progress}
use Rattle.ring.specs.Model.{Doing, idle, Model, EachOnce}
use Rattle.ring.specs.Meaning.{New, Begun, Goes, AddMark, TakeMark, MayTurn}
use Rattle.ring.specs.Cells.{put}
use Rattle.ring.proofs.Entries.{put_same, put_other}

-- no call has been made
module _ (n k l : ℕ) (under : ℕ → Option ℕ) (add_mark take_mark : ℕ) where
  abbrev pub new : Model
  new = record {
    places = n;
    stations = k;
    limit = l;
    under = under;
    add_mark = add_mark;
    take_mark = take_mark;
    doing = λ s. idle;
    lone = λ s. 0;
  }

  pub is_new : add_mark ≤ 3 * n → take_mark ≤ 3 * n → EachOnce new → New n k l new
  is_new adds takes once = record {
    places = refl;
    stations = refl;
    limit = refl;
    idle_all = λ s. refl;
    add_low = adds;
    take_low = takes;
    indices = once;
  }

-- a turn: station s has had one lone turn more, and the others none
abbrev pub counts : Model → ℕ → ℕ → ℕ
counts m s = put (λ r. 0) s (m.lone s + 1)

-- station s has come to do d, with these pairs and marks
module _ (m : Model) (s : ℕ) (d : Doing) (under : ℕ → Option ℕ) (add_mark take_mark : ℕ) where
  abbrev pub after : (ℕ → ℕ) → Model
  after lone = record {
    places = m.places;
    stations = m.stations;
    limit = m.limit;
    under = under;
    add_mark = add_mark;
    take_mark = take_mark;
    doing = put m.doing s d;
    lone = lone;
  }

  -- by a begin
  abbrev pub begun : Model
  begun = after (put m.lone s 0)

  pub has_begun : s < m.stations → m.doing s ≡ idle → ((t : ℕ) → under t ≡ m.under t) → add_mark ≡ m.add_mark → take_mark ≡ m.take_mark →
      EachOnce begun → Begun m s d begun
  has_begun here was pairs adds takes once = record {
    station = here;
    was_idle = was;
    does_now = put_same m.doing s d;
    others = put_other m.doing s d;
    sizes = record { places = refl; stations = refl; limit = refl };
    pairs = pairs;
    adds = adds;
    takes = takes;
    none_yet = put_same m.lone s 0;
    counts_stay = put_other m.lone s 0;
    indices = once;
  }

  -- by a turn
  abbrev pub then : Model
  then = after (counts m s)

  pub may_turn : (a : Progress) → s < m.stations → Goes m s (m.doing s) a then → AddMark m then → TakeMark m s a then →
      m.lone s + 1 < 16 * m.places + 16 → EachOnce then → MayTurn m s a then
  may_turn a here goes adds takes soon once = record {
    station = here;
    goes = goes;
    others = put_other m.doing s d;
    sizes = record { places = refl; stations = refl; limit = refl };
    adds = adds;
    takes = takes;
    one_more = put_same (λ r. 0) s (m.lone s + 1);
    others_alone_no_more = put_other (λ r. 0) s (m.lone s + 1);
    soon = λ g. omega (arith, put_same (λ r. 0) s (m.lone s + 1));
    indices = once;
  }
