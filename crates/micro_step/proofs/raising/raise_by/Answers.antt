use Rattle.std.proofs.Common.{◌≡◌, ◌==◌, ◌<◌, ◌||◌, true, List, ℕ, get_or, refl, sym, ap, ◌∙◌, subst, length, take, arith}
use Rattle.std.proofs.lemmas.List.{take_all}
use Rattle.rsml_meaning.specs.Instances.{events}
use Rattle.micro_step.specs.Rising.{among}
use Rattle.event_graph.specs.Sets.{has}
use Rattle.micro_step.proofs.MachineLemmas.{raises_below}
use Rattle.micro_step.proofs.LoopLemmas.{among_item, listed_more, raised_by_one}
use Rattle.micro_step.proofs.RisingLemmas.{or_group, no_more}
use Rattle.micro_step.proofs.raising.raise_by.Goals as goal

pub loop-event-init : goal.loop-event-init
loop-event-init c = λ q. sym (no_more (has c.args.raised.now q))

pub put-requires : goal.put-requires
put-requires c =
    let m = c.args.machine.now in
    let ks = c.raises-raises.result.now in
    let k = get_or ks c.loop-event.event-index 0 in
    let there = subst (λ (ns : List ℕ). among ns k ≡ true) c.raises-raises.ensures (among_item ks c.loop-event.event-index k c.loop-event-test.true refl) in
    let below : k < length (events m.base.spec) = raises_below m c.args.transition k c.transition.result.now c.law.ensures c.transition.ensures there in
    omega (arith, below, c.events.ensures.count, c.events.ensures.few)

pub loop-event-preserved : goal.loop-event-preserved
loop-event-preserved c = λ q.
    let ks = c.raises-raises.result.now in
    let i = c.loop-event.event-index in
    let k = get_or ks i 0 in
    c.put.ensures q
    ∙ ap (λ b. b || k == q) (c.loop-event.invariant q)
    ∙ sym (or_group (has c.args.raised.now q) (among (take i ks) q) (k == q))
    ∙ ap (λ b. has c.args.raised.now q || b) (sym (listed_more ks i k q c.loop-event-test.true refl))

pub returns : goal.returns
returns c = λ q.
    let ks = c.raises-raises.result.now in
    c.loop-event.invariant q
    ∙ ap (λ (ns : List ℕ). has c.args.raised.now q || among ns q) (take_all c.loop-event.event-index ks c.loop-event-test.false)
    ∙ raised_by_one c.args.machine.now c.args.transition q c.transition.result.now ks (has c.args.raised.now q) c.transition.ensures c.raises-raises.ensures
