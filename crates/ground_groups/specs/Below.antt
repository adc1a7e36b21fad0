-- States inside others, by keys.
use Rattle.std.specs.Prelude.{ℕ, ◌<◌, ◌≤◌, Bool, ◌&&◌, ◌≡◌, List, [], map, filter, length, take, drop, slice_index_or, nat_eq, nat_lt}
use Rattle.rsml_syntax.specs.declared.syntax.Spec.{Spec}
use Rattle.rsml_meaning.specs.Words.{Each, on_one_line}
use Rattle.rsml_meaning.specs.Instances.{states}
use Rattle.state_tree.specs.Numbers.{path_of}
use Rattle.ground_groups.specs.declared.key.Key.{Key}

-- each key is of a state
abbrev pub AreThere : Spec → List Key → Type 0
AreThere s keys = Each (λ q. q.owner < length (states s)) keys

-- the other key is on the same event, and of a state with a higher number on one line
abbrev pub is_inside : Spec → Key → Key → Bool
is_inside s key other = nat_eq other.event key.event && (nat_lt key.owner other.owner && on_one_line (path_of s key.owner) (path_of s other.owner))

-- the states of those keys
abbrev pub below_of : Spec → List Key → Key → List ℕ
below_of s keys key = map (λ q. q.owner) (filter (is_inside s key) keys)

-- the keys on the event
abbrev pub on_event : ℕ → List Key → List Key
on_event event keys = filter (λ q. nat_eq q.event event) keys

-- the list at the place of each event has the keys on it
abbrev pub AreByEvent : List Key → List (List Key) → Type 0
AreByEvent keys lists = (event : ℕ) → slice_index_or lists event [] ≡ on_event event keys

-- The place where the keys of the states behind one begin.
pub record IsPast (keys : List Key) (state place : ℕ) : Type 0 where
  pub within : place ≤ length keys
  pub low : Each (λ q. q.owner ≤ state) (take place keys)
  pub high : Each (λ q. state < q.owner) (drop place keys)
