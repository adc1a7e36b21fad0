-- The name `previous` of a text of the first edition, and the name that it gets for the second.
use Rattle.std.specs.Prelude.{◌≡◌, ℕ, ◌≤◌, Bool, false, List, ◌++◌, Option, Some, None, codes, decimal, map, if◌then◌else◌, IsTrue, IsFalse}
use Rattle.std.specs.List.{list_any, filter_map}
use Rattle.rsml_syntax.specs.declared.token.Token.{Token}
use Rattle.rsml_syntax.specs.declared.token.Token.TheVariants as token
use Rattle.rsml_syntax.specs.declared.token.Placed.{Placed}
use Rattle.rsml_syntax.specs.text.Names.{Name, same, is_in}

-- the token is the name `previous`
abbrev pub is_previous : Token → Bool
is_previous (token.Name name) = same name (codes "previous")
is_previous _ = false

-- some token is the name `previous`
abbrev pub has_previous : List Placed → Bool
has_previous ts = list_any (λ t. is_previous t.token) ts

-- the k-th name that `previous` may get
abbrev pub numbered_name : ℕ → Name
numbered_name k = codes "previous_" ++ decimal k

-- the name that a token is, if it is one
abbrev pub name_of : Token → Option Name
name_of (token.Name name) = Some name
name_of _ = None

-- the names of the tokens that are names
abbrev pub names_of : List Placed → List Name
names_of ts = filter_map (λ t. name_of t.token) ts

-- the k-th name is not yet used
abbrev pub IsFree : List Placed → ℕ → Type 0
IsFree ts k = IsFalse (is_in (numbered_name k) (names_of ts))

-- the first of the names, counted from 1, that is not yet used
pub record IsLeastFree (ts : List Placed) (k : ℕ) : Type 0 where
  pub positive : 1 ≤ k
  pub free : IsFree ts k
  pub least : (j : ℕ) → 1 ≤ j → IsFree ts j → k ≤ j

-- the token with this name in place of `previous`, and its own offset
abbrev pub rename : Name → Placed → Placed
rename name t = record { token = if is_previous t.token then token.Name name else t.token; at = t.at }

-- Each `previous` has got the first name that was not yet used; where there was none, nothing has changed.
pub data IsRenamed (ts us : List Placed) : Type 0 where
  unchanged : IsFalse (has_previous ts) → us ≡ ts → IsRenamed ts us
  changed : (k : ℕ) → IsTrue (has_previous ts) → IsLeastFree ts k → us ≡ map (rename (numbered_name k)) ts → IsRenamed ts us
