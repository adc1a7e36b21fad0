use Rattle.std.proofs.Common.{◌≡◌, ◌&&◌, ◌++◌, ◌∷◌, [], ◌∙◌, ℕ, Bool, List, cond, filter, subst, ap, sym, arith}
use Rattle.std.specs.List.{range_with_len}
use Rattle.event_graph.specs.declared.events.Events.{Events}
use Rattle.event_graph.specs.Sets.{has, has_at}
use Rattle.event_graph.specs.Reached.{IsBegun}
use Rattle.event_graph.proofs.ReachLemmas.{filter_next, loops_are}
use Rattle.event_graph.proofs.loops.loops.Goals as goal

pub loop-event-preserved : goal.loop-event-preserved
loop-event-preserved c =
    let p : ℕ → Bool = λ e. has c.begun_of-begun.result e && has_at c.args.sets.now e e in
    let n = c.loop-event.event in
    let look : c.is_looping-looping.result ≡ p n =
    c.is_looping-looping.ensures in
    c.in_ok-push_if.ensures
    ∙ ap (λ (xs : List ℕ). xs ++ cond c.is_looping-looping.result (n ∷ []) []) c.loop-event.invariant
    ∙ ap (λ b. filter p (range_with_len 0 n) ++ cond b (n ∷ []) []) look
    ∙ sym (filter_next p n)

pub returns : goal.returns
returns c =
    let all : c.loop-event.event ≡ c.args.graph.now.count = omega (arith, c.loop-event-test.false, c.loop-event.auto.event-end, c.count-event-end.ensures.count) in
    loops_are c.args.graph.now c.args.sets.now c.begun_of-begun.result c.loop-event.loops.items c.requires
    c.begun_of-begun.ensures.only c.begun_of-begun.ensures.all
    (c.loop-event.invariant ∙ ap (λ n. filter (λ e. has c.begun_of-begun.result e && has_at c.args.sets.now e e) (range_with_len 0 n)) all)
