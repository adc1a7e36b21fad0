-- Pieces that are read or written one after another.
use Rattle.std.proofs.Common.{◌≡◌, ℕ, ◌+◌, ◌≤◌, List, Option, Some, None, ◌++◌, length, take, drop, refl, ap, sym, ◌∙◌, append_assoc, arith, length-append, length-take}
use Rattle.std.specs.Prelude.{IfSome}
use Rattle.std.proofs.Math.Seq.{take-add}
use Rattle.std.proofs.lemmas.Bool.{ne_eqb}
use Rattle.rsml_io.specs.Reading.{GivesPiece, raised, reach_after}
use Rattle.rsml_io.specs.Writing.{appended}

-- two pieces that are written one after another are one piece
pub appended_twice : (written : Option (List ℕ)) (bytes : List ℕ) (at n : ℕ) →
    appended (appended written (take at bytes)) (take n (drop at bytes)) ≡ appended written (take (at + n) bytes)
appended_twice None bytes at n = refl
appended_twice (Some w) bytes at n =
    ap Some (append_assoc w (take at bytes) (take n (drop at bytes)) ∙ ap (λ t. w ++ t) (sym (take-add at n bytes)))

-- the front of a file and the piece after it are a longer front
pub longer_front : (told : Option (List ℕ)) (bytes into : List ℕ) (n : ℕ) → n ≤ length into →
    IfSome told (λ file. bytes ≡ take (length bytes) file) → IfSome told (λ file. GivesPiece file (length bytes) into n) →
    IfSome told (λ file. bytes ++ take n into ≡ take (length (bytes ++ take n into)) file)
longer_front None bytes into n room front piece = tt
longer_front (Some file) bytes into n room front piece =
    let len : length (bytes ++ take n into) ≡ length bytes + n = omega (arith, length-append bytes (take n into), length-take n into) in
    let longer : take (length bytes + n) file ≡ take (length bytes) file ++ take n (drop (length bytes) file) = take-add (length bytes) n file in
    rw len (ap (λ xs. xs ++ take n into) front ∙ ap (λ xs. take (length bytes) file ++ xs) piece.same ∙ sym longer)

pub raised_to_zero : (reach : Option ℕ) → raised reach 0 ≡ reach
raised_to_zero None = refl
raised_to_zero (Some r) = ap Some (omega arith)

-- two reads one after another reach as far as the second
pub raised_twice : (reach : Option ℕ) (at n : ℕ) → (n ≡ 0 → ⊥) → reach_after (raised reach at) at n ≡ raised reach (at + n)
raised_twice None at n some = rw (ne_eqb n 0 some) refl
raised_twice (Some r) at n some = rw (ne_eqb n 0 some) (ap Some (omega arith))
