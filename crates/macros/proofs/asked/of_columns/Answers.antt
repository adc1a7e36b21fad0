use Rattle.std.proofs.Common.{map, sym, ap, ◌∙◌}
use Rattle.macros.proofs.AskedLemmas.{single_is, single_below}
use Rattle.macros.proofs.asked.of_columns.Goals as goal

pub returns-in-Some-clause-right : goal.returns-in-Some-clause-right
returns-in-Some-clause-right c = λ truths.
    single_is truths c.in-Some.literal (map (λ v. v.items) c.args.columns.items) (ap (λ vs. map (λ v. v.items) vs) (sym c.as_slice.ensures.value) ∙ c.in-Some.ensures)

pub returns-in-Some-clause-below : goal.returns-in-Some-clause-below
returns-in-Some-clause-below c = λ count all.
    single_below count c.in-Some.literal (λ v. v.items) c.args.columns.items (ap (λ vs. map (λ v. v.items) vs) (sym c.as_slice.ensures.value) ∙ c.in-Some.ensures) all
