use Rattle.std.proofs.Common.{◌≡◌, ◌≤◌, ℕ, List, length, ℤ, sym, ap, ◌∙◌, subst, arith}
use Rattle.rsml_syntax.specs.declared.syntax.Spec.{Spec}
use Rattle.rsml_meaning.specs.Words.{Each}
use Rattle.rsml_meaning.specs.Certified.{Certified}
use Rattle.rsml_meaning.specs.EventFiles.{program_limits, IsWellFormed}
use Rattle.rsml_meaning.specs.Interfaces.{receives}
use Rattle.run_counts.specs.Counts.{HasCounts}
use Rattle.run_counts.proofs.counting.count_run.Goals as goal

pub count_lines-requires-clause-certified : goal.count_lines-requires-clause-certified
count_lines-requires-clause-certified c = subst (λ (s : Spec). Certified s) (sym c.requires.machine) c.requires.certified

pub count_lines-requires-clause-forms : goal.count_lines-requires-clause-forms
count_lines-requires-clause-forms c = c.in_ok-forms.ensures ∙ sym c.requires.machine

pub count_lines-requires-clause-values : goal.count_lines-requires-clause-values
count_lines-requires-clause-values c =
    let values = c.in_ok-values.values in
    let forms = c.in_ok-forms.forms in
    let same : forms ≡ c.args.machine.now.base.spec = c.in_ok-forms.ensures ∙ sym c.requires.machine in
    let slice = c.as_mut_slice.result.now in
    let shown : length slice ≡ length values.items = ap (λ (ns : List ℤ). length ns) c.as_mut_slice.ensures.value in
    let size : c.most_fields.result ≡ length slice = omega (arith, c.in_ok-values.ensures.len, values.ok.0, shown) in
    let room = subst (λ (n : ℕ). Each (λ x. length x.inputs ≤ n) (receives forms)) size c.most_fields.ensures in
    subst (λ (s : Spec). Each (λ x. length x.inputs ≤ length slice) (receives s)) same room

pub count_lines-requires-clause-formed : goal.count_lines-requires-clause-formed
count_lines-requires-clause-formed c = subst (λ (s : Spec). IsWellFormed s program_limits c.args.text.now) (sym c.requires.machine) c.requires.formed

pub returns : goal.returns
returns c = subst (λ (s : Spec). HasCounts s c.args.text.now c.count_lines.new.progress.counts) c.requires.machine c.count_lines.ensures
