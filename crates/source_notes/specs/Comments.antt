-- Comment lines.
use Rattle.std.specs.Prelude.{◌≡◌, Bool, ℕ, List, ◌++◌, flat_map, nat_eq, not, codes, IsTrue}
use Rattle.std.specs.List.{list_all}

-- a byte is no line feed
abbrev pub is_plain : ℕ → Bool
is_plain byte = not (nat_eq byte 10)

-- no byte is a line feed
abbrev pub is_one_line : List ℕ → Bool
is_one_line bytes = list_all is_plain bytes

-- `# `, the bytes, and a line feed
abbrev pub comment : List ℕ → List ℕ
comment line = codes "# " ++ (line ++ codes "\n")

-- The bytes are comment lines: each line is `# `, then bytes without line feed, then a line feed.
pub record AreComments (bytes : List ℕ) : Type 0 where
  pub lines : List (List ℕ)
  pub plain : IsTrue (list_all is_one_line lines)
  pub spelled : bytes ≡ flat_map comment lines
