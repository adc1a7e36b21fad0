-- Comment lines behind others.
use Rattle.std.proofs.Common.{ℕ, List, [], ◌++◌, refl, sym, ap, ◌∙◌}
use Rattle.std.specs.Prelude.{flat_map}
use Rattle.std.proofs.lemmas.Grind.{flat_map-append}
use Rattle.std.proofs.lemmas.List.Folds.{list_all-append}
use Rattle.source_notes.specs.Comments.{AreComments, is_one_line, comment}

pub none : AreComments []
none = record { lines = []; plain = refl; spelled = refl }

pub joined : (xs ys : List ℕ) → AreComments xs → AreComments ys → AreComments (xs ++ ys)
joined xs ys are others = record {
  lines = are.lines ++ others.lines;
  plain = rw (list_all-append is_one_line are.lines others.lines, are.plain) others.plain;
  spelled = ap (λ zs. zs ++ ys) are.spelled ∙ ap (λ zs. flat_map comment are.lines ++ zs) others.spelled
      ∙ sym (flat_map-append comment are.lines others.lines);
}
