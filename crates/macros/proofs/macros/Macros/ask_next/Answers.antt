use Rattle.std.proofs.Common.{length}
use Rattle.rsml_meaning.specs.Cells.{cells}
use Rattle.macros.specs.Known.{IsKnown}
use Rattle.macros.proofs.Below.{IsBelow, names_below, named_so}
use Rattle.macros.proofs.macros.Macros.ask_next.Goals as goal

pub truth_by-truth-requires-clause-named : goal.truth_by-truth-requires-clause-named
truth_by-truth-requires-clause-named c =
    named_so (IsBelow c.args.number) (IsKnown c.args.memo.now) c.requires.below c.args.self.now.definitions c.phrase.result.now
    (names_below c.args.self.now.definitions (length (cells c.args.self.now.spec)) c.args.number c.phrase.result.now c.phrase.ensures.rests)
