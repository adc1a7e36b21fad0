use Rattle.std.proofs.Common.{ap, ◌∙◌}
use Rattle.std.specs.String.{string_bytes}
use Rattle.rsml_syntax.proofs.PrintLemmas.{layout_text, layout_reads}
use Rattle.rsml_syntax.proofs.printing.print_spec.Goals as goal

pub unreachable-requires : goal.unreachable-requires
unreachable-requires c = let fails = c.in-Err.ensures.succeeds (layout_text c.args.spec.now c.in_ok-layout_of.field-0.items c.requires c.in_ok-layout_of.ensures) in cc

pub returns-clause-reads : goal.returns-clause-reads
returns-clause-reads c = layout_reads c.args.spec.now (string_bytes c.in-Ok.text) c.requires (ap (λ v. v.items) c.in-Ok.ensures.ok ∙ c.in_ok-layout_of.ensures)
