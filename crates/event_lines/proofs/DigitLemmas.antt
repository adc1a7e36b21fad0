-- The number that digits write, digit by digit.
use Rattle.std.proofs.Common.{◌≡◌, ℕ, ◌+◌, ◌-◌, ◌*◌, ◌^◌, ◌<◌, ◌≤◌, Bool, true, false, [], ◌∷◌, length, drop, get_or, Option, Some, None, refl, sym, ap, ◌∙◌, arith}
use Rattle.std.specs.Prelude.{if◌then◌else◌, ◌==◌, ◌&&◌, min, fold}
use Rattle.std.specs.Option.{option_map}
use Rattle.std.specs.Char.{is_ascii_digit}
use Rattle.std.specs.Str.{byte, all_ascii_digits}
use Rattle.std.proofs.lemmas.List.{drop_all, drop_more}
use Rattle.rsml_meaning.specs.EventLines.{Bytes, digits_number}
use Rattle.event_lines.specs.helpers.Capped.{capped}

-- the number that more digits make of a number
abbrev pub counted : ℕ → Bytes → ℕ
counted n cs = fold (λ n c. n * 10 + (c - byte "0")) n cs

-- the same, capped, if all are digits
abbrev pub more_digits : ℕ → Bytes → Option ℕ
more_digits n cs = if all_ascii_digits cs then Some (capped (counted n cs)) else None

-- a cap before the last digits is as good as one after them
capped_before : (m a b : ℕ) (cs : Bytes) → min a m ≡ min b m → min (counted a cs) m ≡ min (counted b cs) m
capped_before m a b [] h = h
capped_before m a b (c ∷ cs) h = capped_before m (a * 10 + (c - 48)) (b * 10 + (c - 48)) cs (omega (arith, h))

same_digits : (a b : ℕ) (cs : Bytes) → capped a ≡ capped b → more_digits a cs ≡ more_digits b cs
same_digits a b cs h = ap (λ n. if all_ascii_digits cs then Some n else None) (capped_before (2 ^ 64 - 1) a b cs h)

-- one digit more
digit_more : (n : ℕ) (c : ℕ) (cs : Bytes) → is_ascii_digit c ≡ true → more_digits n (c ∷ cs) ≡ more_digits (n * 10 + (c - 48)) cs
digit_more n c cs h = ap (λ b. if b && all_ascii_digits cs then Some (capped (counted n (c ∷ cs))) else None) h

after_cap : (m n d r : ℕ) → r ≡ min (min (n * 10) m + d) m → min r m ≡ min (n * 10 + d) m
after_cap m n d r h = omega (arith, h)

-- a turn of the loop over digits
pub digit_turn : (text : Bytes) (i n r : ℕ) (all : Option ℕ) → i < length text → is_ascii_digit (get_or text i 0) ≡ true →
    r ≡ min (min (n * 10) (2 ^ 64 - 1) + (get_or text i 0 - 48)) (2 ^ 64 - 1) → more_digits n (drop i text) ≡ all → more_digits r (drop (i + 1) text) ≡ all
digit_turn text i n r all h digit is e =
    let c = get_or text i 0 in
    same_digits r (n * 10 + (c - 48)) (drop (i + 1) text) (after_cap (2 ^ 64 - 1) n (c - 48) r is)
    ∙ sym (digit_more n c (drop (i + 1) text) digit) ∙ sym (ap (more_digits n) (drop_more text i 0 h)) ∙ e

-- all digits were read
pub digits_end : (text : Bytes) (i n : ℕ) → length text ≤ i → n < 2 ^ 64 → more_digits n (drop i text) ≡ Some n
digits_end text i n h small = ap (more_digits n) (drop_all i text h) ∙ ap Some (omega (arith, small))

pub digits_are : (text : Bytes) → false ≡ (length text == 0) → option_map capped (digits_number text) ≡ more_digits 0 text
digits_are [] h = absurd (let no : false ≡ true = h in cc)
digits_are (c ∷ cs) h = by (all_ascii_digits (c ∷ cs))
  where
    by : (b : Bool) → option_map capped (if b then Some (counted 0 (c ∷ cs)) else None) ≡ (if b then Some (capped (counted 0 (c ∷ cs))) else None)
    by true = refl
    by false = refl
