use Rattle.std.proofs.Common.{arith, subst, sym}
use Rattle.ground_groups.specs.Groups.{AreBelow}
use Rattle.state_tree.proofs.Lists.{within_get}
use Rattle.ground_groups.proofs.GroupLemmas.{below_count, list_at, state_below, send_below, function_below}
use Rattle.ground_groups.proofs.stored.Stored.below.Goals as goal

pub index-requires : goal.index-requires
index-requires c =
    let r = c.requires.stored in
    let l = below_count r.0 c.args.self.now r.1 in
    let p = c.in-State.ensures.1 in
    omega (arith, l, p)

pub returns-in-State : goal.returns-in-State
returns-in-State c = λ s g h e.
    let x = c.args.self.now in
    let place = c.in-State.place in
    let p = c.in-State.ensures in
    let q = within_get x.states.heads.keys place p.1 in
    let v = c.index.result.now in
    let l = below_count s x h in
    let m = p.1 in
    subst (AreBelow s g) (sym c.as_slice.ensures.value) (state_below s x h c.args.group place g q.0 v.items e p.0 p.1 q.1 (list_at (λ l. l.items) x.below.items place v v (omega (arith, l, m)) c.index.ensures))

pub returns-in-Send : goal.returns-in-Send
returns-in-Send c = λ s g h e.
    let x = c.args.self.now in
    let p = c.in-Send.ensures in
    let q = within_get x.sends.heads.keys c.in-Send.field-0 p.1 in
    send_below s x h c.args.group c.in-Send.field-0 g q.0 e p.0 p.1 q.1

pub returns-in-Function : goal.returns-in-Function
returns-in-Function c = λ s g h e.
    let x = c.args.self.now in
    let p = c.in-Function.ensures in
    let f = within_get x.functions.items c.in-Function.field-0 p.1 in
    function_below s x h c.args.group c.in-Function.field-0 g f.0 e p.0 f.1
