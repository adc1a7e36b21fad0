use Rattle.std.proofs.Common.{length, sym, ap, ◌∙◌}
use Rattle.rsml_meaning.specs.Instances.{events}
use Rattle.elaborate.proofs.receives.Receives.new.Goals as goal

pub external-requires-clause-count : goal.external-requires-clause-count
external-requires-clause-count c = c.requires.count ∙ ap (λ s. length (events s)) (sym c.in_ok-interfaces.ensures)

pub invariant_of-result : goal.invariant_of-result
invariant_of-result c = record {
  counted = c.requires.count ∙ ap (λ s. length (events s)) (sym c.in_ok-interfaces.ensures);
  long = c.in_ok-external.ensures.count;
  marks_are = c.in_ok-external.ensures.marks;
}
