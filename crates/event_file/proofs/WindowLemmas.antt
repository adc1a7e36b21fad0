-- What a buffer holds, and what reads add to it.
use Rattle.std.proofs.Common.{◌≡◌, ℕ, ◌+◌, ◌-◌, ◌<◌, ◌≤◌, inl, inr, ◌++◌, length, take, drop, Option, Some, None, refl, sym, ap, ◌∙◌, arith, length-take, length-drop, length-append}
use Rattle.std.specs.Prelude.{IfSome, max}
use Rattle.std.proofs.Math.Seq.{take-add}
use Rattle.std.proofs.lemmas.List.{take-take, drop-take, drop-drop}
use Rattle.std.proofs.lemmas.Bool.{ne_eqb}
use Rattle.rsml_io.specs.Reading.{GivesPiece, reach_after}
use Rattle.rsml_meaning.specs.EventLines.{Bytes}
use Rattle.event_file.specs.helpers.Windows.{Window, Holds, IsPieceOf, Adds}

abbrev window : ℕ → Bytes → Bytes → Window
window room line held = record { room = room; line = line; held = held }

-- a line that is taken from the front of what is held
pub line_taken : (room start stop width after : ℕ) (items : Bytes) → width ≤ length (take (stop - start) (drop start items)) → after ≤ length (take (stop - start) (drop start items)) →
    window room (take (start + width - start) (drop start items)) (take (stop - (start + after)) (drop (start + after) items))
    ≡ record { room = room; line = take width (take (stop - start) (drop start items)); held = drop after (take (stop - start) (drop start items)) }
line_taken room start stop width after items short further =
    let left = drop start items in
    let len = length-take (stop - start) left in
    let w : start + width - start ≡ width = omega arith in
    let line : take width (take (stop - start) left) ≡ take width left = take-take width (stop - start) left (omega (arith, short, len)) in
    let m : stop - start ≡ after + (stop - (start + after)) = omega (arith, further, len) in
    let held : drop after (take (stop - start) left) ≡ take (stop - (start + after)) (drop (start + after) items) =
    ap (λ n. drop after (take n left)) m ∙ drop-take after (stop - (start + after)) left ∙ ap (take (stop - (start + after))) (drop-drop after start items) in
    rw (w, line, held) refl

-- a piece that was read behind the first h bytes
pub piece_added : (told : Option Bytes) (at h n : ℕ) (old new : Bytes) → h < length new → h + n ≤ length new → take h new ≡ old →
    IfSome told (λ file. GivesPiece file at (drop h new) n) → Adds told at old (take (h + n) new) n
piece_added told at h n old new some within front piece =
    let size : length (take n (drop h new)) ≡ n = omega (arith, length-take n (drop h new), length-drop h new, within) in
    record {
      piece = take n (drop h new);
      size = size;
      same = take-add h n new ∙ ap (λ xs. xs ++ take n (drop h new)) front;
      of = by_told told piece;
    }
  where
    by_told : (told : Option Bytes) → IfSome told (λ file. GivesPiece file at (drop h new) n) → IfSome told (λ file. IsPieceOf file at (take n (drop h new)))
    by_told None p = tt
    by_told (Some file) p =
        let size : length (take n (drop h new)) ≡ n = omega (arith, length-take n (drop h new), length-drop h new, within) in
        record {
          same = p.same ∙ ap (λ k. take k (drop at file)) (sym size);
          none = λ nothing. elim (p.none.0 (omega (arith, nothing, size))) [
            | inl empty ↦ absurd (omega (arith, ap length empty, length-drop h new, some))
            | inr end ↦ end
          ];
        }

-- what is held of a file, and a piece behind it
pub more_held : (file : Bytes) (at : ℕ) (old new piece : Bytes) → new ≡ old ++ piece → Holds file at old → Holds file (at + length old) piece → Holds file at new
more_held file at old new piece same held behind =
    let len : length new ≡ length old + length piece = ap length same ∙ length-append old piece in
    same ∙ ap (λ xs. xs ++ piece) held ∙ ap (λ ys. take (length old) (drop at file) ++ ys) (behind ∙ ap (take (length piece)) (sym (drop-drop (length old) at file)))
    ∙ sym (take-add (length old) (length piece) (drop at file)) ∙ ap (λ n. take n (drop at file)) (sym len)

pub more_told : (told : Option Bytes) (at n : ℕ) (old new first : Bytes) → IfSome told (λ file. Holds file at first → Holds file at old) → Adds told (at + length old) old new n →
    IfSome told (λ file. Holds file at first → Holds file at new)
more_told None at n old new first held added = tt
more_told (Some file) at n old new first held added = λ h. more_held file at old new added.piece added.same (held h) added.of.same

pub added_length : (told : Option Bytes) (at n : ℕ) (old new : Bytes) → Adds told at old new n → length new ≡ length old + n
added_length told at n old new added = omega (arith, ap length added.same, length-append old added.piece, added.size)

-- a reach that is where the bytes held end stays there
pub reach_moves : (before after : Option ℕ) (at n : ℕ) → (n ≡ 0 → ⊥) → before ≡ Some at → after ≡ reach_after before at n → after ≡ Some (at + n)
reach_moves before after at n some is new = let e : max at (at + n) ≡ at + n = omega arith in new ∙ rw (ne_eqb n 0 some, is) (ap Some e)
