use Rattle.std.proofs.Common.{sym, ap, ◌∙◌, arith}
use Rattle.and_or_tables.specs.Ground.{known}
use Rattle.and_or_tables.specs.declared.ground.GroundRow.{GroundRow}
use Rattle.rsml_ground.specs.Truths.{truths_in}
use Rattle.micro_step.proofs.RowLemmas.{room_for_row, one_more_row}
use Rattle.micro_step.proofs.rows.row_bits.Goals as goal

pub with_lowest-bits-requires : goal.with_lowest-bits-requires
with_lowest-bits-requires c =
    rw c.loop-k.invariant.bits (room_for_row (truths_in c.args.machine.now.base c.args.world.now) c.args.rows.now c.loop-k.k c.requires.few c.loop-k-test.true)

pub loop-k-preserved : goal.loop-k-preserved
loop-k-preserved c =
    let within = c.loop-k.invariant.within in
    let truths = truths_in c.args.machine.now.base c.args.world.now in
    let truth = c.ask_phrase-truth.ensures.truth ∙ ap (λ (row : GroundRow). known truths row.phrase) (sym c.index-rows-k.is) in
    record {
      within = omega (arith, within);
      bits = one_more_row truths c.args.rows.now c.loop-k.k c.index-rows-k.result c.ask_phrase-truth.result c.loop-k.bits c.with_lowest-bits.result
          c.loop-k-test.true within c.index-rows-k.is truth c.loop-k.invariant.bits c.with_lowest-bits.ensures;
      knows = c.ask_phrase-truth.ensures.knows;
    }
