use Rattle.std.proofs.Common.{◌≡◌, map, Some, sym, ap, ◌∙◌}
use Rattle.macros.specs.Asked.{columns_in}
use Rattle.macros.proofs.AskedLemmas.{columns_same, same_columns, same_list, truths_same}
use Rattle.macros.proofs.asked.Asked.has_columns_of.Goals as goal

pub returns-in-Columns-Columns-clause-same : goal.returns-in-Columns-Columns-clause-same
returns-in-Columns-Columns-clause-same c =
    let both = c.in-Columns-Columns in
    let xs = c.as_slice.result.now in
    let ys = c.as_slice-in-Columns-Columns.result.now in
    let mine : columns_in c.args.self.now ≡ Some (map (λ v. v.items) xs) = ap columns_in both.is-0 ∙ ap (λ vs. Some (map (λ v. v.items) vs)) (sym c.as_slice.ensures.value) in
    let others : columns_in c.args.other.now ≡ Some (map (λ v. v.items) ys) = ap columns_in both.is-1 ∙ ap (λ vs. Some (map (λ v. v.items) vs)) (sym c.as_slice-in-Columns-Columns.ensures.value) in (
      λ is. (map (λ v. v.items) xs, mine, others ∙ ap Some (sym (columns_same (λ v. v.items) xs ys (sym c.eq.ensures ∙ is)))),
      λ h. c.eq.ensures ∙ same_columns (λ v. v.items) xs ys (same_list (map (λ v. v.items) xs) (map (λ v. v.items) ys) (sym mine ∙ h.1 ∙ sym h.2 ∙ others)),
    )

pub returns-in-Columns-Columns-clause-alike : goal.returns-in-Columns-Columns-clause-alike
returns-in-Columns-Columns-clause-alike c = λ is truths. truths_same truths c.args.self.now c.args.other.now ((returns-in-Columns-Columns-clause-same c).0 is)
