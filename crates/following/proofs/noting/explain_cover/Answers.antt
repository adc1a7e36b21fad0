use Rattle.std.proofs.Common.{refl, sym, ap, subst}
use Rattle.source_notes.specs.Comments.{AreComments}
use Rattle.following.specs.Outputs.{status_of}
use Rattle.following.specs.Steps as steps
use Rattle.following.proofs.NoteLemmas.{with_status}
use Rattle.following.proofs.noting.explain_cover.Goals as goal

pub returns-in-ReadFault-clause-run : goal.returns-in-ReadFault-clause-run
returns-in-ReadFault-clause-run g c = steps.HasRun.run _ (sym (ap status_of c.in-ReadFault.is)) c.in-Ok-cover.ensures.follows

pub returns-in-WriteFault-clause-run : goal.returns-in-WriteFault-clause-run
returns-in-WriteFault-clause-run g c = steps.HasRun.run _ (sym (ap status_of c.in-WriteFault.is)) c.in-Ok-cover.ensures.follows

pub returns-clause-run : goal.returns-clause-run
returns-clause-run g c =
    steps.HasRun.noted _ _ _ _ refl c.in_default.not-ReadFault c.in_default.not-WriteFault c.in-Ok-cover.ensures.follows c.in-Ok-cover.ensures.sink_count
    (subst AreComments (sym c.as_slice.ensures.value) c.cover_notes-notes.ensures) (with_status _ _ _ _ _ c.status_of.ensures c.finish.ensures.written)
