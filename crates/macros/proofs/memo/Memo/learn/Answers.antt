use Rattle.std.proofs.Common.{Some, ap, ◌∙◌, arith, set}
use Rattle.std.specs.Simd.Lanes.{zip2}
use Rattle.macros.specs.Known.{noted}
use Rattle.macros.proofs.Marks.{noted_set, noted_now, seen_many}
use Rattle.macros.proofs.memo.Memo.learn.Goals as goal

pub set-requires : goal.set-requires
set-requires c = omega (arith, c.requires, seen_many c.self.inside c.self.invariant c.args.self.now c.self.view_is, c.self.invariant.paired)

pub index_mut-requires : goal.index_mut-requires
index_mut-requires c = omega (arith, c.requires, seen_many c.self.inside c.self.invariant c.args.self.now c.self.view_is, c.self.invariant.paired)

pub returns : goal.returns
returns c =
    let m = c.self.inside in
    let k = c.args.phrase in
    ap (λ ts. zip2 (noted m.epoch) ts (set m.marks.items k m.epoch)) c.set.ensures
    ∙ noted_set m.epoch m.truths m.marks.items k c.args.truth
    ∙ ap (set (zip2 (noted m.epoch) m.truths m.marks.items) k) (noted_now m.epoch c.args.truth)
    ∙ ap (λ xs. set xs k (Some c.args.truth)) c.self.view_is
