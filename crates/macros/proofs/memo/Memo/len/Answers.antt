use Rattle.std.proofs.Common.{sym, ◌∙◌}
use Rattle.macros.proofs.Marks.{seen_many}
use Rattle.macros.proofs.memo.Memo.len.Goals as goal

pub returns : goal.returns
returns c = c.len.ensures ∙ sym (seen_many c.self.inside c.self.invariant c.args.self.now c.self.view_is)
