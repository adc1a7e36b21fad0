use Rattle.std.proofs.Common.{List, Bool, Option, sym, ap, ◌∙◌, slice_get}
use Rattle.macros.proofs.Marks.{noted_agrees, seen_many}
use Rattle.macros.proofs.memo.Memo.truths.Goals as goal

pub returns-clause-count : goal.returns-clause-count
returns-clause-count c = sym (seen_many c.self.inside c.self.invariant c.args.self.now c.self.view_is)

pub returns-clause-right : goal.returns-clause-right
returns-clause-right c = λ k t e.
    noted_agrees c.self.inside.epoch c.self.inside.truths c.self.inside.marks.items k t (ap (λ (xs : List (Option Bool)). slice_get xs k) c.self.view_is ∙ e)
