use Rattle.std.proofs.Common.{List, Bool, Option, sym, ap, ◌∙◌, subst, slice_get, arith, ◌==◌}
use Rattle.macros.specs.Known.{IsKnown}
use Rattle.macros.proofs.Marks.{noted_yes, noted_no, seen_many}
use Rattle.macros.proofs.memo.Memo.knows.Goals as goal

pub index-requires : goal.index-requires
index-requires c = omega (arith, c.requires, seen_many c.self.inside c.self.invariant c.args.self.now c.self.view_is, c.self.invariant.paired)

pub returns-clause-yes : goal.returns-clause-yes
returns-clause-yes c = λ y.
    let m = c.self.inside in
    subst (λ (xs : List (Option Bool)). IsKnown xs c.args.phrase) c.self.view_is
    (noted_yes m.epoch m.truths m.marks.items c.args.phrase c.index.result.now c.self.invariant.paired
    (omega (arith, c.requires, seen_many m c.self.invariant c.args.self.now c.self.view_is)) (ap (λ n. n == m.epoch) (sym c.index.ensures) ∙ y))

pub returns-clause-no : goal.returns-clause-no
returns-clause-no c = λ y.
    let m = c.self.inside in
    ap (λ (xs : List (Option Bool)). slice_get xs c.args.phrase) (sym c.self.view_is)
    ∙ noted_no m.epoch m.truths m.marks.items c.args.phrase c.index.result.now c.self.invariant.paired
    (omega (arith, c.requires, seen_many m c.self.invariant c.args.self.now c.self.view_is)) (ap (λ n. n == m.epoch) (sym c.index.ensures) ∙ y)
