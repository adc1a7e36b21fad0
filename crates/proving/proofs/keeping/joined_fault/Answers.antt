use Rattle.std.proofs.Common.{subst}
use Rattle.judging.specs.Steps.{IsRead}
use Rattle.judging.specs.declared.texts.ReadText.{ReadText}
use Rattle.proving.proofs.ClaimLemmas.{broken_of}
use Rattle.proving.proofs.keeping.joined_fault.Goals as goal

pub returns-in-Specification : goal.returns-in-Specification
returns-in-Specification c = λ s t.
    broken_of c.at_most_one_specification.ensures c.args.text.now c.in-Specification.specification s c.args.claims.items c.broken_fault.result
    (subst (λ (r : ReadText). IsRead c.args.text.now r) c.in-Specification.is c.in_ok-specification.ensures.read) t c.broken_fault.ensures
