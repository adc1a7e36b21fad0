use Rattle.std.proofs.Common.{map, sym, ◌∙◌}
use Rattle.std.proofs.lemmas.List.{length-map}
use Rattle.micro_step.proofs.LoopLemmas.{as_many}
use Rattle.micro_step.proofs.scratch.Scratch.read.Goals as goal

pub invariant_of-self : goal.invariant_of-self
invariant_of-self c =
    sym (length-map c.write_all.new.values.items (λ v. v.items))
    ∙ as_many c.args.machine.now (map (λ v. v.items) c.write_all.new.values.items) c.write_all.ensures.room
    ∙ sym c.read_all.ensures.reading.sent
