-- The lines of some bytes, one after another.
use Rattle.std.proofs.Common.{◌≡◌, ℕ, suc, ◌+◌, ◌<◌, ◌≤◌, Bool, true, false, List, [], ◌∷◌, length, take, drop, refl, sym, ap, ◌∙◌, arith}
use Rattle.std.specs.Prelude.{if◌then◌else◌, ◌==◌}
use Rattle.std.specs.Str.{byte}
use Rattle.std.proofs.Common.{length-take, length-drop}
use Rattle.std.proofs.lemmas.List.{drop-drop, drop_all}
use Rattle.rsml_meaning.specs.EventLines.{Bytes, pieces, before_pieces}
use Rattle.rsml_meaning.specs.EventFiles.{without_empty_last, lines, Line, placed_from}
use Rattle.event_file.specs.Fronts.{width}

abbrev feed : ℕ → Bool
feed c = c == byte "\n"

-- the pieces after the first LF
abbrev later_pieces : Bytes → List Bytes
later_pieces [] = []
later_pieces (c ∷ cs) = if feed c then pieces feed cs else later_pieces cs

pieces_first : (bytes : Bytes) → pieces feed bytes ≡ take (width bytes) bytes ∷ later_pieces bytes
unfolding width
pieces_first [] = refl
pieces_first (c ∷ cs) = by_test (feed c) (pieces_first cs)
  where
    by_test : (b : Bool) → pieces feed cs ≡ take (width cs) cs ∷ later_pieces cs →
        (if b then [] ∷ pieces feed cs else before_pieces c (pieces feed cs)) ≡ take (if b then 0 else suc (width cs)) (c ∷ cs) ∷ (if b then pieces feed cs else later_pieces cs)
    by_test true h = refl
    by_test false h = ap (before_pieces c) h

later_lines : (bytes : Bytes) → without_empty_last (later_pieces bytes) ≡ lines (drop (width bytes + 1) bytes)
unfolding width
later_lines [] = refl
later_lines (c ∷ cs) = by_test (feed c) (later_lines cs)
  where
    by_test : (b : Bool) → without_empty_last (later_pieces cs) ≡ lines (drop (width cs + 1) cs) →
        without_empty_last (if b then pieces feed cs else later_pieces cs) ≡ lines (drop ((if b then 0 else suc (width cs)) + 1) (c ∷ cs))
    by_test true h = refl
    by_test false h = let e : suc (width cs) + 1 ≡ suc (width cs + 1) = omega arith in h ∙ sym (ap (λ n. lines (drop n (c ∷ cs))) e)

first_kept : (c : ℕ) (cs : Bytes) → without_empty_last (take (width (c ∷ cs)) (c ∷ cs) ∷ later_pieces (c ∷ cs)) ≡ take (width (c ∷ cs)) (c ∷ cs) ∷ without_empty_last (later_pieces (c ∷ cs))
unfolding width
first_kept c cs = by_test (feed c)
  where
    by_test : (b : Bool) →
        without_empty_last (take (if b then 0 else suc (width cs)) (c ∷ cs) ∷ (if b then pieces feed cs else later_pieces cs))
        ≡ take (if b then 0 else suc (width cs)) (c ∷ cs) ∷ without_empty_last (if b then pieces feed cs else later_pieces cs)
    by_test true = rw (pieces_first cs) refl
    by_test false = refl

pub lines_first : (c : ℕ) (cs : Bytes) → lines (c ∷ cs) ≡ take (width (c ∷ cs)) (c ∷ cs) ∷ lines (drop (width (c ∷ cs) + 1) (c ∷ cs))
lines_first c cs =
    ap without_empty_last (pieces_first (c ∷ cs)) ∙ first_kept c cs ∙ ap (λ ls. take (width (c ∷ cs)) (c ∷ cs) ∷ ls) (later_lines (c ∷ cs))

pub width_within : (bytes : Bytes) → width bytes ≤ length bytes
unfolding width
width_within [] = omega arith
width_within (c ∷ cs) = by_test (feed c) (width_within cs)
  where
    by_test : (b : Bool) → width cs ≤ length cs → (if b then 0 else suc (width cs)) ≤ suc (length cs)
    by_test true h = omega arith
    by_test false h = omega (arith, h)

-- The lines of a file from an offset on.

module _ (content : Bytes) where
  abbrev pub rest : ℕ → Bytes
  rest at = drop at content

  abbrev pub lines_from : ℕ → ℕ → List Line
  lines_from number at = placed_from number at (lines (rest at))

  -- the first of them
  abbrev pub line_from : ℕ → ℕ → Line
  line_from number at = record { number = number; start = at; bytes = take (width (rest at)) (rest at) }

  -- the offset after the LF of that, or after where it would be
  abbrev pub past : ℕ → ℕ
  past at = at + width (rest at) + 1

  pub line_length : (number at : ℕ) → length ((line_from number at).bytes) ≡ width (rest at)
  line_length number at = omega (arith, length-take (width (rest at)) (rest at), width_within (rest at))

  pub past_within : (at : ℕ) → at ≤ length content → past at ≤ length content + 1
  past_within at h = omega (arith, width_within (rest at), length-drop at content)

  lines_of_bytes : (number at : ℕ) (bytes : Bytes) → 0 < length bytes →
      placed_from number at (lines bytes)
      ≡ record { number = number; start = at; bytes = take (width bytes) bytes } ∷ placed_from (suc number) (at + length (take (width bytes) bytes) + 1) (lines (drop (width bytes + 1) bytes))
  lines_of_bytes number at [] h = absurd (omega arith)
  lines_of_bytes number at (c ∷ cs) h = ap (placed_from number at) (lines_first c cs)

  pub lines_step : (number at : ℕ) → at < length content → lines_from number at ≡ line_from number at ∷ lines_from (suc number) (past at)
  lines_step number at h =
      let some : 0 < length (rest at) = omega (arith, length-drop at content) in
      let after : drop (width (rest at) + 1) (rest at) ≡ rest (past at) =
      drop-drop (width (rest at) + 1) at content ∙ ap (λ n. drop n content) (let e : at + (width (rest at) + 1) ≡ past at = omega arith in e) in
      lines_of_bytes number at (rest at) some
      ∙ rw (line_length number at, after) refl

  pub no_lines : (number at : ℕ) → length content ≤ at → lines_from number at ≡ []
  no_lines number at h = rw (drop_all at content h) refl
