-- What a read of a file in memory gives.
use Rattle.std.proofs.Common.{◌≡◌, ℕ, ◌+◌, ◌-◌, ◌≤◌, ◌<◌, List, [], ◌∷◌, length, take, drop, Option, Some, None, refl, ap, sym, ◌∙◌, arith, inl, inr, length-take, length-drop}
use Rattle.std.specs.Prelude.{min, IsSomeAnd, ◌⊎◌}
use Rattle.std.proofs.Math.Seq.{take-length}
use Rattle.std.proofs.lemmas.List.{take-take, drop-take, take_min}
use Rattle.rsml_io.specs.Held.{uncut}
use Rattle.rsml_io.specs.Reading.{GivesPiece}

empty_or_not : (xs : List ℕ) → (xs ≡ []) ⊎ (0 < length xs)
empty_or_not [] = inl refl
empty_or_not (x ∷ xs) = inr (omega arith)

take_past : (n : ℕ) (xs : List ℕ) → length xs ≤ n → take n xs ≡ xs
take_past n xs past = let all : min n (length xs) ≡ length xs = omega arith in sym (take_min n xs) ∙ ap (λ k. take k xs) all ∙ take-length xs

-- n bytes that are the file's from `at` on, as many as there are before an end past `at` and there is room for
module _ (file into : List ℕ) (at most : ℕ) (some : 0 < most) where
  piece_before : (n end : ℕ) → at < end → n ≤ length into → take n into ≡ take (min (length into) most) (take (end - at) (drop at file)) → GivesPiece file at into n
  piece_before n end before room given =
      let rest = drop at file in
      let piece = take (min (length into) most) (take (end - at) rest) in
      let len : n ≡ length piece = omega (arith, length-take n into, ap length given) in
      let all : length piece ≡ min (min (length into) most) (min (end - at) (length rest)) =
      length-take (min (length into) most) (take (end - at) rest) ∙ ap (λ k. min (min (length into) most) k) (length-take (end - at) rest) in
      let left : length rest ≡ length file - at = length-drop at file in
      record {
        same =
            given ∙ sym (take-length piece) ∙ ap (λ k. take k piece) (sym len)
            ∙ take-take n (min (length into) most) (take (end - at) rest) (omega arith) ∙ take-take n (end - at) rest (omega arith);
        inside = omega arith;
        none = (
          λ none. elim (empty_or_not into) [ inl empty ↦ inl empty | inr full ↦ inr (omega arith) ],
          λ cause. elim cause [ inl empty ↦ (let nothing : length into ≡ 0 = ap length empty in omega arith) | inr ends ↦ omega arith ],
        );
      }

  pub piece_given : (cut : Option ℕ) (n : ℕ) → (IsSomeAnd cut (λ cut. cut ≤ at) → ⊥) → n ≤ length into →
      take n into ≡ take (min (length into) most) (drop at (uncut file cut)) → GivesPiece file at into n
  piece_given None n free room given =
      let rest = drop at file in
      let end = at + (length rest + 1) in
      let past : length rest ≤ end - at = omega arith in
      piece_before n end (omega arith) room (given ∙ ap (take (min (length into) most)) (sym (take_past (end - at) rest past)))
  piece_given (Some cut) n free room given =
      let before : at < cut = omega arith in
      let apart : cut ≡ at + (cut - at) = omega arith in
      piece_before n cut before room
      (given ∙ ap (λ k. take (min (length into) most) (drop at (take k file))) apart ∙ ap (take (min (length into) most)) (drop-take at (cut - at) file))
