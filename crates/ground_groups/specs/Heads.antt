-- Keys in order, each once.
use Rattle.std.specs.Prelude.{◌≡◌, ◌<◌, ◌⊎◌, ℕ, zero, suc, Bool, ◌&&◌, List, [], ◌∷◌, ◌++◌, ⊤, nat_eq, Some, slice_get, if◌then◌else◌}
use Rattle.rsml_meaning.specs.Words.{Each, IsOne}
use Rattle.ground_members.specs.declared.send_cases.GroundSendCase.{GroundSendCase}
use Rattle.ground_groups.specs.declared.key.Key.{Key}

-- owner and event are equal
abbrev pub same_key : Key → Key → Bool
same_key x y = nat_eq x.owner y.owner && nat_eq x.event y.event

-- by owner, and then by event
abbrev pub IsBefore : Key → Key → Type 0
IsBefore x y = (x.owner < y.owner) ⊎ ((x.owner ≡ y.owner) × (x.event < y.event))

-- each is before all behind it
abbrev pub AreRising : List Key → Type 0
AreRising [] = ⊤
AreRising (x ∷ xs) = Each (IsBefore x) xs × AreRising xs

-- the keys, each once, in order
pub record AreHeads (keys heads : List Key) : Type 0 where
  pub rising : AreRising heads
  pub all : (k : Key) → IsOne k keys → IsOne k heads
  pub only : (k : Key) → IsOne k heads → IsOne k keys

-- the places, counted from a number, of those that are this key
abbrev pub places_of : Key → ℕ → List Key → List ℕ
places_of k at [] = []
places_of k at (x ∷ xs) = if same_key x k then at ∷ places_of k (suc at) xs else places_of k (suc at) xs

-- the list at a place has one item more, at its end
abbrev pub with_item : ℕ → ℕ → List (List ℕ) → List (List ℕ)
with_item at item [] = []
with_item zero item (l ∷ ls) = (l ++ item ∷ []) ∷ ls
with_item (suc at) item (l ∷ ls) = l ∷ with_item at item ls

-- the list of a head has a place more, at its end
abbrev pub IsPut : List Key → Key → ℕ → List (List ℕ) → List (List ℕ) → Type 0
IsPut heads key place old new = (at : ℕ) × (slice_get heads at ≡ Some key) × (new ≡ with_item at place old)

-- the send and event of a case
abbrev pub send_key : GroundSendCase → Key
send_key c = record { owner = c.send; event = c.event }
