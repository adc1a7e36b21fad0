use Rattle.std.proofs.Common.{sym, ◌∙◌, subst}
use Rattle.rsml_syntax.specs.declared.syntax.Spec.{Spec}
use Rattle.reactions.specs.Lines.{AreParts}
use Rattle.reactions.proofs.traces.Traces.new.Goals as goal

pub invariant_of-result : goal.invariant_of-result
invariant_of-result c = record {
  texts_are = c.in_ok-texts.ensures ∙ sym c.requires;
  sent_are = c.in_ok-sent.ensures ∙ sym c.requires;
  lines_are = c.in_ok-lines.ensures.lines;
  parts_are = subst (λ (s : Spec). AreParts s c.in_ok-parts.parts) (c.in_ok-texts.ensures ∙ sym c.requires) c.in_ok-parts.ensures;
}
