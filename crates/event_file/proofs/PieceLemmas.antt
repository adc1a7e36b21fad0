-- What a piece of a file is.
use Rattle.std.proofs.Common.{◌≡◌, ℕ, ◌+◌, ◌-◌, ◌<◌, ◌≤◌, length, take, drop, sym, ap, ◌∙◌, arith, length-drop, length-take}
use Rattle.std.specs.Prelude.{min, false, ◌==◌}
use Rattle.std.proofs.lemmas.Bool.{eqb-false}
use Rattle.event_file.specs.declared.piece.Piece.TheVariants as piece
use Rattle.std.proofs.lemmas.List.{take-take}
use Rattle.rsml_meaning.specs.EventLines.{Bytes}
use Rattle.rsml_meaning.specs.EventFiles.{end_of, without_return}
use Rattle.event_file.specs.Fronts.{width}
use Rattle.event_file.specs.Reading.{Begins}
use Rattle.event_file.specs.Pieces.{IsLine, IsLongLine}
use Rattle.event_file.proofs.LineLists.{line_from, past, line_length, width_within}
use Rattle.event_file.proofs.Splits.{split, following, line_there, further, begins}

pub begins_within : (content : Bytes) (at : ℕ) → Begins content at → at ≤ length content
begins_within content at b = (split content at b).within

module _ (content : Bytes) (most at : ℕ) (b : Begins content at) (left : Bytes) (same_left : left ≡ drop at content) (some : false ≡ (length left == 0)) where
  not_none : length left ≡ 0 → ⊥
  not_none = eqb-false (length left) 0 (sym some)

  inside : at < length content
  inside = omega (arith, not_none, ap length same_left, length-drop at content)

  left_width : width left ≡ width (drop at content)
  left_width = ap width same_left

  pub is_line : (w stop next : ℕ) → w ≡ width left → w ≤ most → stop ≤ length (take w left) → take stop (take w left) ≡ without_return (take w left) →
      next ≡ min (past content at) (length content) → IsLine content most at (at + stop) next
  is_line w stop next same short trimmed bytes after =
      let s = split content at b in
      let l = line_from content (following content at s) at in
      let len : length l.bytes ≡ width (drop at content) = line_length content (following content at s) at in
      let here : at + stop - at ≡ stop = omega arith in
      let room : stop ≤ w = omega (arith, trimmed, length-take w left) in
      let whole : take w left ≡ l.bytes = ap (λ n. take n left) (same ∙ left_width) ∙ ap (take (width (drop at content))) same_left in
      let front : take stop (drop at content) ≡ take stop (take w left) = sym (ap (take stop) same_left) ∙ sym (take-take stop w left room) in
      record {
        line = l;
        there = line_there content at s inside;
        short = omega (arith, len, short, same, left_width);
        forward = omega arith;
        inside = omega (arith, width_within left, room, same, ap length same_left, length-drop at content, inside);
        bytes = rw here (front ∙ bytes ∙ ap without_return whole);
        after = let e : end_of l ≡ past content at = omega (arith, len) in rw e after;
      }

  pub is_long_line : most < width left → IsLongLine content most at
  is_long_line long =
      let s = split content at b in
      record {
        line = line_from content (following content at s) at;
        there = line_there content at s inside;
        long = omega (arith, line_length content (following content at s) at, long, left_width);
      }

  -- the offset after the line

  pub after_whole : (w : ℕ) → w ≡ width left → w < length left → at + w + 1 ≡ min (past content at) (length content)
  after_whole w same within = omega (arith, same, left_width, within, ap length same_left, length-drop at content)

  pub after_last : width left ≡ length left → length content ≡ min (past content at) (length content)
  after_last same = omega (arith, same, left_width, ap length same_left, length-drop at content)

  pub begins_after : (next : ℕ) → next ≡ min (past content at) (length content) → Begins content next
  begins_after next e = begins content next (further content at (split content at b) next inside e)

pub same_after : (stop next stop' next' : ℕ) → piece.Line stop next ≡ piece.Line stop' next' → next ≡ next'
same_after stop next stop' next' h = cc
