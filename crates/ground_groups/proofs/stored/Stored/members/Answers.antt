use Rattle.std.proofs.Common.{◌≡◌, ◌∙◌, length, arith}
use Rattle.state_tree.proofs.Lists.{within_get}
use Rattle.ground_groups.proofs.GroupLemmas.{lines_count, sends_count, few_cases, list_at, item_at, state_members, send_members, function_members}
use Rattle.ground_groups.proofs.stored.Stored.members.Goals as goal

pub index-requires : goal.index-requires
index-requires c =
    let r = c.requires.stored in
    let l = lines_count r.0 c.args.self.now r.1 in
    let p = c.in-State.ensures.1 in
    omega (arith, l, p)

pub index-requires-in-Send : goal.index-requires-in-Send
index-requires-in-Send c =
    let r = c.requires.stored in
    let l = sends_count r.0 c.args.self.now r.1 in
    let p = c.in-Send.ensures.1 in
    omega (arith, l, p)

pub overflow_cast-result : goal.overflow_cast-result
overflow_cast-result c =
    let r = c.requires.stored in
    let x = c.args.self.now in
    let place = c.in-Send.place in
    let v = c.index-in-Send.result.now in
    let l = sends_count r.0 x r.1 in
    let p = c.in-Send.ensures.1 in
    let f = few_cases r.0 x r.1 place v.items (list_at (λ l. l.items) x.sends.places.items place v v (omega (arith, l, p)) c.index-in-Send.ensures) in
    let e = c.len.ensures in
    let o = v.ok.0 in
    omega (arith, f, e, o)

pub returns-in-State : goal.returns-in-State
returns-in-State c = λ s g h e.
    let x = c.args.self.now in
    let place = c.in-State.place in
    let p = c.in-State.ensures in
    let q = within_get x.states.heads.keys place p.1 in
    let l = lines_count s x h in
    let m = p.1 in
    state_members s x h c.args.group place g q.0 c.index.result.now c.index.result.now e p.0 q.1 p.1 (omega (arith, l, m)) c.index.ensures

pub returns-in-Send : goal.returns-in-Send
returns-in-Send c = λ s g h e.
    let x = c.args.self.now in
    let place = c.in-Send.place in
    let p = c.in-Send.ensures in
    let v = c.index-in-Send.result.now in
    let q = within_get x.sends.heads.keys place p.1 in
    let l = sends_count s x h in
    let m = p.1 in
    let d = c.len.ensures in
    let o = v.ok.0 in
    let n : c.len.result ≡ length v.items = omega (arith, d, o) in
    n ∙ send_members s x h c.args.group place g q.0 v.items e p.0 p.1 q.1 (list_at (λ l. l.items) x.sends.places.items place v v (omega (arith, l, m)) c.index-in-Send.ensures)

pub returns-in-Function : goal.returns-in-Function
returns-in-Function c = λ s g h e.
    let x = c.args.self.now in
    let place = c.in-Function.place in
    let p = c.in-Function.ensures in
    let f = c.index-in-Function.result.now in
    function_members s x h c.args.group place g f e p.0 (item_at x.functions.items place f f p.1 c.index-in-Function.ensures)
