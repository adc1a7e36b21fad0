use Rattle.std.proofs.Common.{refl}
use Rattle.spelled_numbers.proofs.KeptLemmas.{older_set}
use Rattle.spelled_numbers.proofs.sum_table.SumTable.keep.Goals as goal

pub invariant_of-self : goal.invariant_of-self
invariant_of-self c = older_set c.self.inside.slots.items c.slot_of-slot.result c.self.inside.question
    (record { question = c.self.inside.question; at = c.args.at; room = c.args.room; answer = c.args.answer }) c.self.invariant refl
