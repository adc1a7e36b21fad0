use Rattle.judging.proofs.ShortLemmas.{refused_is_short, certified_is_short}
use Rattle.explaining.proofs.explaining.notes_on.Goals as goal

pub checked_notes-requires : goal.checked_notes-requires
checked_notes-requires c = refused_is_short c.args.source.text.now c.args.judgement.now _ _ _ c.in-Refused.is c.requires

pub checked_notes-requires-in-Certified : goal.checked_notes-requires-in-Certified
checked_notes-requires-in-Certified c = certified_is_short c.args.source.text.now c.args.judgement.now _ _ c.in-Certified.is c.requires
