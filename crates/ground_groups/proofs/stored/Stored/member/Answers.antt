use Rattle.std.proofs.Common.{arith}
use Rattle.state_tree.proofs.Lists.{within_get}
use Rattle.rsml_meaning.specs.Groups.{groups}
use Rattle.ground_groups.proofs.GroupLemmas.{sends_count, groups_long, list_at, item_at, state_line, state_member, send_members, send_member, function_member}
use Rattle.ground_groups.proofs.stored.Stored.member.Goals as goal

pub transition-requires-clause-place : goal.transition-requires-clause-place
transition-requires-clause-place c = λ s q h e.
    let x = c.args.self.now in
    let a = groups_long s x h in
    let b = c.requires.group in
    let g = within_get (groups s) c.args.group (omega (arith, a, b)) in
    state_line s x h c.args.group c.in-State.at g.0 q c.args.place g.1 c.in-State.ensures.0 c.in-State.ensures.1 e (c.requires.place s g.0 h g.1)

pub index-requires : goal.index-requires
index-requires c =
    let r = c.requires.stored in
    let l = sends_count r.0 c.args.self.now r.1 in
    let p = c.in-Send.ensures.1 in
    omega (arith, l, p)

pub index-requires-in-Send : goal.index-requires-in-Send
index-requires-in-Send c =
    let x = c.args.self.now in
    let r = c.requires.stored in
    let a = groups_long r.0 x r.1 in
    let b = c.requires.group in
    let g = within_get (groups r.0) c.args.group (omega (arith, a, b)) in
    let p = c.in-Send.ensures in
    let q = within_get x.sends.heads.keys c.in-Send.at p.1 in
    let v = c.index.result.now in
    let l = sends_count r.0 x r.1 in
    let m = p.1 in
    let n = send_members r.0 x r.1 c.args.group c.in-Send.at g.0 q.0 v.items g.1 p.0 p.1 q.1 (list_at (λ l. l.items) x.sends.places.items c.in-Send.at v v (omega (arith, l, m)) c.index.ensures) in
    let k = c.requires.place r.0 g.0 r.1 g.1 in
    let o = v.ok.0 in
    omega (arith, n, k, o)

pub returns-in-State : goal.returns-in-State
returns-in-State c = λ s g h e.
    let x = c.args.self.now in
    let p = c.in-State.ensures in
    let q = within_get x.states.heads.keys c.in-State.at p.1 in
    state_member s x h c.args.group c.in-State.at g q.0 c.args.place c.transition.result e p.0 p.1 q.1 (c.transition.ensures s q.0 h q.1)

pub returns-in-Send : goal.returns-in-Send
returns-in-Send c = λ s g h e.
    let x = c.args.self.now in
    let p = c.in-Send.ensures in
    let q = within_get x.sends.heads.keys c.in-Send.at p.1 in
    let v = c.index.result.now in
    let l = sends_count s x h in
    let m = p.1 in
    let there = list_at (λ l. l.items) x.sends.places.items c.in-Send.at v v (omega (arith, l, m)) c.index.ensures in
    let n = send_members s x h c.args.group c.in-Send.at g q.0 v.items e p.0 p.1 q.1 there in
    let k = c.requires.place s g h e in
    let w = c.index-in-Send.result.now in
    send_member s x h c.args.group c.in-Send.at g q.0 v.items c.args.place w e p.0 p.1 q.1 there (item_at v.items c.args.place w w (omega (arith, n, k)) c.index-in-Send.ensures)

pub returns-in-Function : goal.returns-in-Function
returns-in-Function c = λ s g h e.
    let x = c.args.self.now in
    let p = c.in-Function.ensures in
    let f = c.index-in-Function.result.now in
    function_member s x h c.args.group c.in-Function.at g f c.args.place e p.0 (item_at x.functions.items c.in-Function.at f f p.1 c.index-in-Function.ensures) (c.requires.place s g h e)
