-- One more byte of a line, and one more comment line.
use Rattle.std.proofs.Common.{ℕ, List, [], ◌∷◌, ◌++◌, refl, sym, ap, ◌∙◌, subst, append-nil, append_assoc}
use Rattle.std.specs.Prelude.{flat_map, IsTrue, codes}
use Rattle.std.proofs.lemmas.Grind.{flat_map-append}
use Rattle.std.proofs.lemmas.List.Folds.{list_all-append}
use Rattle.source_notes.specs.Comments.{AreComments, is_one_line, is_plain, comment}

pub one_longer : (xs : List ℕ) (x : ℕ) → IsTrue (is_one_line xs) → IsTrue (is_one_line (x ∷ [])) → IsTrue (is_one_line (xs ++ x ∷ []))
one_longer xs x before last = rw (list_all-append is_plain xs (x ∷ []), before) last

pub none : AreComments []
none = record { lines = []; plain = refl; spelled = refl }

one_more : (xs line : List ℕ) → AreComments xs → IsTrue (is_one_line line) → AreComments (xs ++ comment line)
one_more xs line are plain = record {
  lines = are.lines ++ line ∷ [];
  plain = rw (list_all-append is_one_line are.lines (line ∷ []), are.plain, plain) refl;
  spelled = ap (λ ys. ys ++ comment line) are.spelled
      ∙ sym (flat_map-append comment are.lines (line ∷ []) ∙ ap (λ ys. flat_map comment are.lines ++ ys) (append-nil (comment line)));
}

pub followed : (xs line : List ℕ) → AreComments xs → IsTrue (is_one_line line) → AreComments (((xs ++ codes "# ") ++ line) ++ codes "\n")
followed xs line are plain =
    subst AreComments (sym (append_assoc (xs ++ codes "# ") line (codes "\n") ∙ append_assoc xs (codes "# ") (line ++ codes "\n"))) (one_more xs line are plain)
