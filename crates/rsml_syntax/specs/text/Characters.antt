-- The characters of a text: white space, comments, names, digits.
use Rattle.std.specs.Prelude.{ℕ, ◌+◌, ◌-◌, ◌*◌, Bool, true, false, ◌||◌, ◌&&◌, ◌==◌, List, [], ◌∷◌, if◌then◌else◌, nat_le}
use Rattle.std.specs.List.{list_all}
use Rattle.unicode_ident.specs.Ident.{is_xid_start, is_xid_continue}

-- a space, a tab, a carriage return or a line feed
abbrev pub is_white : ℕ → Bool
is_white c = c == 32 || c == 9 || c == 13 || c == 10

-- White space and comments. A comment runs from `#` to before the next line feed, or to the end where it may be left open.
abbrev mutual
  pub are_blanks : Bool → List ℕ → Bool
  are_blanks unclosed [] = true
  are_blanks unclosed (c ∷ cs) = elim (c == 35) [ true ↦ is_comment unclosed cs | false ↦ is_white c && are_blanks unclosed cs ]

  pub is_comment : Bool → List ℕ → Bool
  is_comment unclosed [] = unclosed
  is_comment unclosed (c ∷ cs) = elim (c == 10) [ true ↦ are_blanks unclosed cs | false ↦ is_comment unclosed cs ]

-- white space or a comment begins here
abbrev pub begins_blanks : List ℕ → Bool
begins_blanks [] = false
begins_blanks (c ∷ cs) = c == 35 || is_white c

-- a character that may begin a name
abbrev pub is_start : ℕ → Bool
is_start c = is_xid_start c || c == 95

-- a character that may follow in a name
abbrev pub is_continuing : ℕ → Bool
is_continuing c = is_xid_continue c

-- a character that may begin a name, and others that may follow in one
abbrev pub is_name : List ℕ → Bool
is_name [] = false
is_name (c ∷ cs) = is_start c && list_all is_continuing cs

-- `0` to `9`
abbrev pub is_digit : ℕ → Bool
is_digit c = nat_le 48 c && nat_le c 57

-- one digit or more
abbrev pub are_digits : List ℕ → Bool
are_digits [] = false
are_digits (c ∷ cs) = is_digit c && list_all is_digit cs

-- those at the front that pass the test
abbrev pub passing : (ℕ → Bool) → List ℕ → List ℕ
passing test [] = []
passing test (c ∷ cs) = if test c then c ∷ passing test cs else []

-- the digits at the front
abbrev pub digits_at : List ℕ → List ℕ
digits_at cs = passing is_digit cs

-- the number whose digits follow those of n
abbrev pub digits_value_from : ℕ → List ℕ → ℕ
digits_value_from n [] = n
digits_value_from n (c ∷ cs) = digits_value_from (n * 10 + (c - 48)) cs

-- the number that digits are
abbrev pub digits_value : List ℕ → ℕ
digits_value cs = digits_value_from 0 cs
