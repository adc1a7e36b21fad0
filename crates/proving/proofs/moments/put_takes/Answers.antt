use Rattle.std.proofs.Common.{get_or}
use Rattle.std.proofs.lemmas.List.{get_or_default}
use Rattle.text_writer.proofs.WritingLemmas.{one_more}
use Rattle.proving.specs.Numbers.{take_text}
use Rattle.proving.proofs.moments.put_takes.Goals as goal

pub put_take-requires : goal.put_take-requires
put_take-requires g c = c.requires c.loop-number.number-index 0 c.loop-number-test.true

pub loop-number-preserved : goal.loop-number-preserved
loop-number-preserved g c =
    let ks = c.args.taken.now in
    let i = c.loop-number.number-index in
    let k = get_or ks i 0 in
    one_more (take_text c.args.machine.now.base.spec) ks i k c.loop-number-test.true (get_or_default ks i 0 k c.loop-number-test.true) c.loop-number.invariant c.put_take.ensures
