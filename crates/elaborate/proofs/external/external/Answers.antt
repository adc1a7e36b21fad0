use Rattle.std.proofs.Common.{◌≡◌, ◌+◌, ◌<◌, ◌≤◌, length, replicate, false, sym, ap, ◌∙◌, subst, arith, IfSome, take}
use Rattle.rsml_meaning.specs.Instances.{events}
use Rattle.rsml_meaning.specs.Interfaces.{receives}
use Rattle.elaborate.proofs.Marked.{AreMarked, none_marked, marked_more, raised_there, raised_below, all_marked}
use Rattle.elaborate.proofs.external.external.Goals as goal

pub loop-receive-init : goal.loop-receive-init
loop-receive-init c = none_marked c.args.interfaces.now c.in_ok-marks.marks.items (c.in_ok-marks.ensures.items_if_clones_equal (λ y h. h) ∙ ap (λ n. replicate n false) c.requires.count)

pub mark-requires : goal.mark-requires
mark-requires c =
    let t = c.loop-receive-test.true in
    let e = c.receives-receive-end.ensures in
    raised_below c.args.interfaces.now c.loop-receive.receive c.raised.result c.loop-receive.marks.items (omega (arith, t, e)) c.raised.ensures c.loop-receive.invariant.long

pub loop-receive-preserved : goal.loop-receive-preserved
loop-receive-preserved c =
    let s = c.args.interfaces.now in
    let i = c.loop-receive.receive in
    let t = c.loop-receive-test.true in
    let e = c.receives-receive-end.ensures in
    let x = raised_there s i c.raised.result (omega (arith, t, e)) c.raised.ensures in
    subst (AreMarked s (take (i + 1) (receives s))) (sym c.mark.ensures) (marked_more s c.requires.checked i c.raised.result x.0 x.1 x.2 c.loop-receive.marks.items c.loop-receive.invariant)

pub returns-clause-marks : goal.returns-clause-marks
returns-clause-marks c =
    let t = c.loop-receive-test.false in
    let e = c.receives-receive-end.ensures in
    all_marked c.args.interfaces.now c.loop-receive.receive c.loop-receive.marks.items (omega (arith, t, e)) c.loop-receive.invariant
