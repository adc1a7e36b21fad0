-- How many bytes the first line has.
use Rattle.std.proofs.Common.{◌≡◌, ℕ, zero, suc, ◌<◌, ◌≤◌, Bool, true, false, [], ◌∷◌, ◌++◌, length, take, slice_index, refl, sym, ap, ◌∙◌, arith, length-take}
use Rattle.std.specs.Prelude.{if◌then◌else◌, ◌==◌, min, Some, None}
use Rattle.std.specs.Str.{byte}
use Rattle.std.proofs.Math.Seq.{take-length}
use Rattle.std.proofs.lemmas.List.{take_at}
use Rattle.std.proofs.lemmas.Bool.{ne_eqb}
use Rattle.memchr.specs.Find.{IsFirstByte, is_byte}
use Rattle.rsml_meaning.specs.EventLines.{Bytes}
use Rattle.rsml_meaning.specs.EventFiles.{without_return}
use Rattle.event_file.specs.Fronts.{width}
use Rattle.event_file.proofs.LineLists.{width_within}

-- no LF stands before the place
abbrev pub IsFreeTo : Bytes → ℕ → Type 0
IsFreeTo bytes n = (k : ℕ) → k < n → (slice_index bytes k == byte "\n") ≡ true → ⊥

pub width_at_least : (bytes : Bytes) (n : ℕ) → n ≤ length bytes → IsFreeTo bytes n → n ≤ width bytes
unfolding width
width_at_least [] n within free = omega (arith, within)
width_at_least (c ∷ cs) zero within free = omega arith
width_at_least (c ∷ cs) (suc n) within free =
    by_test (c == byte "\n") refl (width_at_least cs n (omega (arith, within)) (λ k below is. free (suc k) (omega (arith, below)) is))
  where
    by_test : (b : Bool) → (c == byte "\n") ≡ b → n ≤ width cs → suc n ≤ (if b then 0 else suc (width cs))
    by_test true e h = absurd (free 0 (omega arith) e)
    by_test false e h = omega (arith, h)

pub width_at_most : (bytes : Bytes) (n : ℕ) → n < length bytes → (slice_index bytes n == byte "\n") ≡ true → width bytes ≤ n
unfolding width
width_at_most [] n within is = absurd (omega (arith, within))
width_at_most (c ∷ cs) zero within is = rw is (omega arith)
width_at_most (c ∷ cs) (suc n) within is = by_test (c == byte "\n") (width_at_most cs n (omega (arith, within)) is)
  where
    by_test : (b : Bool) → width cs ≤ n → (if b then 0 else suc (width cs)) ≤ suc n
    by_test true h = omega arith
    by_test false h = omega (arith, h)

pub width-take : (bytes : Bytes) (n : ℕ) → width (take n bytes) ≡ min n (width bytes)
unfolding width
width-take bytes zero = omega arith
width-take [] (suc n) = omega arith
width-take (c ∷ cs) (suc n) = by_test (c == byte "\n") (width-take cs n)
  where
    by_test : (b : Bool) → width (take n cs) ≡ min n (width cs) → (if b then 0 else suc (width (take n cs))) ≡ min (suc n) (if b then 0 else suc (width cs))
    by_test true h = omega arith
    by_test false h = omega (arith, h)

-- What a search for an LF in a front of the bytes tells.

pub found_width : (bytes : Bytes) (n k : ℕ) → IsFirstByte (is_byte (byte "\n")) (take n bytes) (Some k) → k < length (take n bytes) → (k ≡ width bytes) × (k < n)
found_width bytes n k first within =
    let window = take n bytes in
    let most : width window ≤ k = width_at_most window k within first.1 in
    let least : k ≤ width window = width_at_least window k (omega (arith, within)) (λ j below is. first.0.before j (omega arith) below is) in
    let all : width window ≡ min n (width bytes) = width-take bytes n in
    let room = length-take n bytes in
    (omega (arith, most, least, all, room, within), omega (arith, room, within))

pub unfound_width : (bytes : Bytes) (n : ℕ) → n ≤ length bytes → IsFirstByte (is_byte (byte "\n")) (take n bytes) None → n ≤ width bytes
unfound_width bytes n within none =
    let window = take n bytes in
    let room = length-take n bytes in
    let least : length window ≤ width window = width_at_least window (length window) (omega arith) (λ j below is. none j (omega arith) below is) in
    omega (arith, least, room, within, width-take bytes n)

-- A CR at the end.

pub without_last : (front : Bytes) (c : ℕ) → (c == byte "\r") ≡ true → without_return (front ++ c ∷ []) ≡ front
without_last [] c is = rw is refl
without_last (d ∷ []) c is = rw is refl
without_last (d ∷ e ∷ front) c is = ap (λ cs. d ∷ cs) (without_last (e ∷ front) c is)

pub with_last : (front : Bytes) (c : ℕ) → (c == byte "\r") ≡ false → without_return (front ++ c ∷ []) ≡ front ++ c ∷ []
with_last [] c not = rw not refl
with_last (d ∷ []) c not = rw not refl
with_last (d ∷ e ∷ front) c not = ap (λ cs. d ∷ cs) (with_last (e ∷ front) c not)

pub return_cut : (line front : Bytes) (c : ℕ) → line ≡ front ++ c ∷ [] → c ≡ 13 → take (length front) line ≡ without_return line
return_cut line front c same is = let cr : (c == byte "\r") ≡ true = rw is refl in rw same (take_at front (c ∷ []) (length front) refl ∙ sym (without_last front c cr))

pub none_cut : (line front : Bytes) (c : ℕ) → line ≡ front ++ c ∷ [] → (c ≡ 13 → ⊥) → take (length line) line ≡ without_return line
none_cut line front c same not = take-length line ∙ rw same (sym (with_last front c (ne_eqb c 13 not)))

pub nothing_cut : (line : Bytes) → length line ≡ 0 → take 0 line ≡ without_return line
nothing_cut [] h = refl
nothing_cut (c ∷ cs) h = absurd (omega (arith, h))

pub unfound_all : (bytes : Bytes) → IsFirstByte (is_byte (byte "\n")) bytes None → width bytes ≡ length bytes
unfound_all bytes none = omega (arith, width_at_least bytes (length bytes) (omega arith) (λ j below is. none j (omega arith) below is), width_within bytes)
