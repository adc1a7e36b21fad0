use Rattle.std.proofs.Common.{◌≡◌, ◌≢◌, true, false, [], is_some, subst, arith}
use Rattle.event_graph.specs.Sets.{has}
use Rattle.micro_step.proofs.PlaceLemmas.{none_left}
use Rattle.reactions.specs.Stepping.{InWorld}
use Rattle.reactions.proofs.WrittenLemmas.{left_of}
use Rattle.reactions.proofs.running.Running.has_event.Goals as goal

pub returns-clause-some : goal.returns-clause-some
returns-clause-some c = λ q.
    let set = c.self.inside.present in
    let same : is_some c.next_below.result ≡ true = let told = c.is_some.ensures in cc in
    subst (λ (v : InWorld). v.present ≢ []) c.self.view_is
    ((left_of c.self.inside.machine.now.base.spec set c.next_below.result c.self.invariant.events_now c.next_below.ensures.some
    (λ e. none_left (has set) c.events-count.result 0 (λ k h. let b = c.self.invariant.events_now k h in omega (arith, b, c.events-count.ensures.count)) (c.next_below.ensures.none e))).0 same)

pub returns-clause-none : goal.returns-clause-none
returns-clause-none c = λ q.
    let set = c.self.inside.present in
    let same : is_some c.next_below.result ≡ false = let told = c.is_some.ensures in cc in
    subst (λ (v : InWorld). v.present ≡ []) c.self.view_is
    ((left_of c.self.inside.machine.now.base.spec set c.next_below.result c.self.invariant.events_now c.next_below.ensures.some
    (λ e. none_left (has set) c.events-count.result 0 (λ k h. let b = c.self.invariant.events_now k h in omega (arith, b, c.events-count.ensures.count)) (c.next_below.ensures.none e))).1 same)
