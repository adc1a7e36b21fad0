use Rattle.std.proofs.Common.{◌≡◌, ◌<◌, ◌≤◌, ◌-◌, length, arith, sym, ◌∙◌, subst}
use Rattle.std.proofs.lemmas.Option.{same_Some}
use Rattle.state_tree.proofs.Lists.{within_get, get_within}
use Rattle.ground_groups.specs.Stored.{line_of}
use Rattle.ground_groups.proofs.GroupLemmas.{lines_count, states_count, line_at, list_at, item_at, own_within, own_room, own_transition, outer_there, no_outer_there}
use Rattle.ground_groups.proofs.stored.Stored.+transition.Goals as goal

pub index-own-requires : goal.index-own-requires
index-own-requires t c =
    let r = c.requires.stored in
    let l = states_count r.0 c.args.self.now r.1 in
    let p = c.requires.at in
    omega (arith, l, p)

pub index-line-requires : goal.index-line-requires
index-line-requires t c =
    let r = c.requires.stored in
    let l = lines_count r.0 c.args.self.now r.1 in
    let p = c.requires.at in
    omega (arith, l, p)

pub overflow_sub-first : goal.overflow_sub-first
overflow_sub-first t c =
    let r = c.requires.stored in
    let x = c.args.self.now in
    let at = c.args.at in
    let v = c.index-own.result.now in
    let line = c.index-line.result.now in
    let q = within_get x.states.heads.keys at c.requires.at in
    let a = states_count r.0 x r.1 in
    let b = lines_count r.0 x r.1 in
    let p = c.requires.at in
    let there = list_at (λ l. l.items) x.states.places.items at v v (omega (arith, a, p)) c.index-own.ensures in
    let is = line_at r.0 x r.1 at q.0 line line q.1 (omega (arith, b, p)) c.index-line.ensures in
    let w = own_within r.0 x r.1 at q.0 line v.items q.1 there is in
    let d = c.len.ensures in
    let o = v.ok.0 in
    omega (arith, w, d, o)

pub index-requires : goal.index-requires
index-requires t c =
    let r = c.requires.stored in
    let x = c.args.self.now in
    let at = c.args.at in
    let v = c.index-own.result.now in
    let line = c.index-line.result.now in
    let q = within_get x.states.heads.keys at c.requires.at in
    let a = states_count r.0 x r.1 in
    let b = lines_count r.0 x r.1 in
    let p = c.requires.at in
    let there = list_at (λ l. l.items) x.states.places.items at v v (omega (arith, a, p)) c.index-own.ensures in
    let is = line_at r.0 x r.1 at q.0 line line q.1 (omega (arith, b, p)) c.index-line.ensures in
    let d = c.len.ensures in
    let o = v.ok.0 in
    let f : line.members - c.len.result ≡ line.members - length v.items = omega (arith, d, o) in
    let y = c.if-place-first.true in
    let room = own_room r.0 x r.1 at q.0 line v.items (line.members - c.len.result) c.args.place q.1 there is f (omega (arith, y)) (c.requires.place r.0 q.0 r.1 q.1) in
    omega (arith, room, o)

pub returns-then-place-first : goal.returns-then-place-first
returns-then-place-first t c = λ s q h e.
    let x = c.args.self.now in
    let at = c.args.at in
    let v = c.index-own.result.now in
    let line = c.index-line.result.now in
    let a = states_count s x h in
    let b = lines_count s x h in
    let p = c.requires.at in
    let there = list_at (λ l. l.items) x.states.places.items at v v (omega (arith, a, p)) c.index-own.ensures in
    let is = line_at s x h at q line line e (omega (arith, b, p)) c.index-line.ensures in
    let d = c.len.ensures in
    let o = v.ok.0 in
    let f : line.members - c.len.result ≡ line.members - length v.items = omega (arith, d, o) in
    let y = c.if-place-first.true in
    let at_least : line.members - c.len.result ≤ c.args.place = omega (arith, y) in
    let room = own_room s x h at q line v.items (line.members - c.len.result) c.args.place e there is f at_least (c.requires.place s q h e) in
    let w = c.index.result.now in
    own_transition s x h at q line v.items (line.members - c.len.result) c.args.place w e there is f at_least (item_at v.items (c.args.place - (line.members - c.len.result)) w w room c.index.ensures)

pub transition-requires : goal.transition-requires
transition-requires t c =
    let r = c.requires.stored in
    let x = c.args.self.now in
    let at = c.args.at in
    let v = c.index-own.result.now in
    let line = c.index-line.result.now in
    let q = within_get x.states.heads.keys at c.requires.at in
    let a = states_count r.0 x r.1 in
    let b = lines_count r.0 x r.1 in
    let p = c.requires.at in
    let there = list_at (λ l. l.items) x.states.places.items at v v (omega (arith, a, p)) c.index-own.ensures in
    let is = line_at r.0 x r.1 at q.0 line line q.1 (omega (arith, b, p)) c.index-line.ensures in
    let d = c.len.ensures in
    let o = v.ok.0 in
    let f : line.members - c.len.result ≡ line.members - length v.items = omega (arith, d, o) in
    let y = c.if-place-first.false in
    let less : c.args.place < line.members - c.len.result = omega (arith, y) in
    let k = outer_there r.0 x r.1 at q.0 line v.items (line.members - c.len.result) c.args.place c.in-Some.outer q.1 there is f less c.in-Some.is in
    let lower = k.2 in
    let m = c.decreases in (
      omega (arith, lower, m),
      (
        c.requires.stored,
        (
          get_within x.states.heads.keys c.in-Some.outer k.0 k.1,
          λ s z h e.
              let is = line_at s x h at q.0 line line q.1 (omega (arith, b, p)) c.index-line.ensures in
              let j = outer_there s x h at q.0 line v.items (line.members - c.len.result) c.args.place c.in-Some.outer q.1 there is f less c.in-Some.is in
              subst (λ key. c.args.place < length (line_of s key)) (same_Some j.0 z (sym j.1 ∙ e)) j.3,
        ),
      ),
    )

pub returns-in-Some : goal.returns-in-Some
returns-in-Some t c = λ s q h e.
    let x = c.args.self.now in
    let at = c.args.at in
    let v = c.index-own.result.now in
    let line = c.index-line.result.now in
    let a = states_count s x h in
    let b = lines_count s x h in
    let p = c.requires.at in
    let there = list_at (λ l. l.items) x.states.places.items at v v (omega (arith, a, p)) c.index-own.ensures in
    let is = line_at s x h at q line line e (omega (arith, b, p)) c.index-line.ensures in
    let d = c.len.ensures in
    let o = v.ok.0 in
    let f : line.members - c.len.result ≡ line.members - length v.items = omega (arith, d, o) in
    let y = c.if-place-first.false in
    let less : c.args.place < line.members - c.len.result = omega (arith, y) in
    let k = outer_there s x h at q line v.items (line.members - c.len.result) c.args.place c.in-Some.outer e there is f less c.in-Some.is in
    let u = c.transition.ensures s k.0 h k.1 in
    (u.0, k.4 u.0 u.1, u.2)

pub returns-in-None : goal.returns-in-None
returns-in-None t c = λ s q h e.
    let x = c.args.self.now in
    let at = c.args.at in
    let v = c.index-own.result.now in
    let line = c.index-line.result.now in
    let a = states_count s x h in
    let b = lines_count s x h in
    let p = c.requires.at in
    let there = list_at (λ l. l.items) x.states.places.items at v v (omega (arith, a, p)) c.index-own.ensures in
    let is = line_at s x h at q line line e (omega (arith, b, p)) c.index-line.ensures in
    let d = c.len.ensures in
    let o = v.ok.0 in
    let f : line.members - c.len.result ≡ line.members - length v.items = omega (arith, d, o) in
    let y = c.if-place-first.false in
    let less : c.args.place < line.members - c.len.result = omega (arith, y) in
    absurd (no_outer_there s x h at q line v.items (line.members - c.len.result) c.args.place e there is f less c.in-None.is)
