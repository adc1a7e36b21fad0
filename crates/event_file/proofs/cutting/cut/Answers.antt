use Rattle.std.proofs.Common.{length, sym, subst}
use Rattle.std.proofs.Math.Seq.{take-length}
use Rattle.event_file.specs.Reading.{Begins}
use Rattle.event_file.proofs.PieceLemmas.{is_line, is_long_line, after_whole, after_last, begins_after, same_after}
use Rattle.event_file.proofs.cutting.cut.Goals as goal

pub returns-in-Whole-clause-piece : goal.returns-in-Whole-clause-piece
returns-in-Whole-clause-piece c =
    let bytes = c.args.bytes.now in
    let left = c.split_at.result.1.now in
    let w = c.in-Whole.width in
    let found = c.in-Whole.ensures in
    is_line bytes c.args.most c.args.at c.requires left c.split_at.ensures.back c.if-is_empty.ensures w c.trimmed.result _ found.0 found.2
    c.trimmed.ensures.within c.trimmed.ensures.bytes
    (after_whole bytes c.args.most c.args.at c.requires left c.split_at.ensures.back c.if-is_empty.ensures w found.0 found.1)

pub returns-in-Whole-clause-begins : goal.returns-in-Whole-clause-begins
returns-in-Whole-clause-begins c = λ end after is.
    let bytes = c.args.bytes.now in
    let left = c.split_at.result.1.now in
    let w = c.in-Whole.width in
    let found = c.in-Whole.ensures in
    subst (Begins bytes) (same_after _ _ end after is)
    (begins_after bytes c.args.most c.args.at c.requires left c.split_at.ensures.back c.if-is_empty.ensures _
    (after_whole bytes c.args.most c.args.at c.requires left c.split_at.ensures.back c.if-is_empty.ensures w found.0 found.1))

pub returns-in-Open-clause-piece : goal.returns-in-Open-clause-piece
returns-in-Open-clause-piece c =
    let bytes = c.args.bytes.now in
    let left = c.split_at.result.1.now in
    let found = c.in-Open.ensures in
    let all = take-length left in
    is_line bytes c.args.most c.args.at c.requires left c.split_at.ensures.back c.if-is_empty.ensures (length left) c.trimmed-in-Open.result _ (sym found.0) found.1
    (rw all c.trimmed-in-Open.ensures.within) (rw all c.trimmed-in-Open.ensures.bytes)
    (after_last bytes c.args.most c.args.at c.requires left c.split_at.ensures.back c.if-is_empty.ensures found.0)

pub returns-in-Long-clause-piece : goal.returns-in-Long-clause-piece
returns-in-Long-clause-piece c =
    is_long_line c.args.bytes.now c.args.most c.args.at c.requires c.split_at.result.1.now c.split_at.ensures.back c.if-is_empty.ensures c.in-Long.ensures
