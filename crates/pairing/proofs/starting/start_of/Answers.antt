use Rattle.std.proofs.Common.{refl}
use Rattle.pairing.proofs.StartLemmas.{kept_is, starts_broken, starts_kept, starts_long, starts_unread_text}
use Rattle.pairing.proofs.starting.start_of.Goals as goal

pub returns-in-TooLong : goal.returns-in-TooLong
returns-in-TooLong c = starts_long c.args.action c.args.text.items c.long.result (kept_is _ _ _ c.in-TooLong.is c.requires) c.long.ensures

pub returns-in-Unread : goal.returns-in-Unread
returns-in-Unread c =
    starts_unread_text c.args.action c.args.text.items c.in-Unread.line c.faulty.result (kept_is _ _ _ c.in-Unread.is c.requires) c.faulty.ensures

pub returns-in-Broken : goal.returns-in-Broken
returns-in-Broken c =
    starts_broken c.args.action c.args.text.items c.in-Broken.line c.faulty-in-Broken.result (kept_is _ _ _ c.in-Broken.is c.requires) c.faulty-in-Broken.ensures

pub returns-in-Checked : goal.returns-in-Checked
returns-in-Checked c = (refl, starts_kept c.args.text.items c.in-Checked.checked (kept_is _ _ _ c.in-Checked.is c.requires))
