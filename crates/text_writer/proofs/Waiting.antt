-- Bytes that wait, and the text that they end.
use Rattle.std.proofs.Common.{◌≡◌, ℕ, ◌+◌, ◌≤◌, Bool, true, false, nat_eq, List, [], ◌++◌, length, take, drop, Option, Some, None, refl, sym, ap, ◌∙◌, arith, append-nil, length-drop}
use Rattle.std.proofs.lemmas.Bool.Decides.{nat_tests}
use Rattle.std.proofs.lemmas.List.{take-append-drop}
use Rattle.rsml_io.specs.Writing.{appended}
use Rattle.rsml_io.proofs.Pieces.{appended_twice}
use Rattle.text_writer.proofs.WritingLemmas.{appended_both}

-- where not all bytes were taken, some are left
pub some_left : (bytes : List ℕ) (n : ℕ) → n ≤ length bytes → nat_eq n (length bytes) ≡ false → drop n bytes ≡ [] → ⊥
some_left bytes n within test none =
    let len : length (drop n bytes) ≡ 0 = ap length none in
    let rest = length-drop n bytes in
    grind (arith, nat_tests)

-- bytes that moved from what waits to what is written leave the text as it was
pub moved : (written : Option (List ℕ)) (bytes : List ℕ) (n : ℕ)
    → appended (appended written (take n bytes)) (drop n bytes) ≡ appended written bytes
moved written bytes n = appended_both written (take n bytes) (drop n bytes) ∙ ap (appended written) (take-append-drop n bytes)

-- the next bytes wait behind those that wait already
pub filled : (written old : Option (List ℕ)) (waiting waiting' bytes : List ℕ) (at n : ℕ) → waiting' ≡ waiting ++ take n (drop at bytes)
    → appended written waiting ≡ appended old (take at bytes) → appended written waiting' ≡ appended old (take (at + n) bytes)
filled written old waiting waiting' bytes at n more front =
    ap (appended written) more ∙ sym (appended_both written waiting (take n (drop at bytes)))
    ∙ ap (λ t. appended t (take n (drop at bytes))) front ∙ appended_twice old bytes at n

nothing_behind : (written : Option (List ℕ)) → appended written [] ≡ written
nothing_behind None = refl
nothing_behind (Some w) = ap Some (append-nil w)

-- where nothing waits, all of the text is written
pub all_written : (written text : Option (List ℕ)) (waiting : List ℕ) → waiting ≡ [] → appended written waiting ≡ text → written ≡ text
all_written written text waiting none e = sym (nothing_behind written) ∙ ap (appended written) (sym none) ∙ e

-- what holds either way holds
pub either : {X : Type 0} (b : Bool) → (b ≡ true → X) → (b ≡ false → X) → X
either true on_true on_false = on_true refl
either false on_true on_false = on_false refl
