use Rattle.std.proofs.Common.{refl, sym, subst}
use Rattle.source_notes.specs.Comments.{AreComments}
use Rattle.gapping.proofs.explained.explained_fault.Goals as goal

pub returns : goal.returns
returns c = (
  refl,
  record {
    report = c.args.line.items;
    notes = c.as_slice.result.now;
    split = c.in_ok-put.ensures.ok;
    reported = refl;
    comments = subst AreComments (sym c.as_slice.ensures.value) c.in_ok-notes.ensures;
  },
)
