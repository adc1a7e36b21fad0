use Rattle.std.proofs.Common.{◌≡◌, ℕ, ◌<◌, ◌||◌, length, Option, Some, IfSome, slice_get, ap, ◌∙◌, subst, arith}
use Rattle.rsml_syntax.specs.declared.syntax.Spec.{Spec}
use Rattle.rsml_meaning.specs.Words.{same_instance, place_in}
use Rattle.rsml_meaning.specs.Instances.{events}
use Rattle.rsml_meaning.specs.Interfaces.{ReceiveInstance, receives}
use Rattle.rsml_meaning.specs.Chains.{is_external}
use Rattle.state_tree.proofs.Lists.{get_within, within_get}
use Rattle.ground_members.specs.Members.{IsEvent}
use Rattle.ground_members.proofs.Numbers.{place_is}
use Rattle.event_graph.specs.Graphs.{starts}
use Rattle.event_chains.proofs.Numbers.{same_event}
use Rattle.event_chains.proofs.TellLemmas.{any_turn, any_end, drop_there}
use Rattle.event_chains.proofs.starts.tell_starts.Goals as goal

-- the receive of this number, and the event that it raises
raised : (s : Spec) (k n : ℕ) → k < length (receives s) → IfSome (slice_get (receives s) k) (λ x. place_in (events s) x.raised ≡ Some n)
    → (r : ReceiveInstance) × (slice_get (receives s) k ≡ Some r) × IsEvent s r.raised n
raised s k n l h =
    let r = within_get (receives s) k l in
    (r.0, r.1, place_is (events s) r.0.raised n (subst (λ (o : Option ReceiveInstance). IfSome o (λ x. place_in (events s) x.raised ≡ Some n)) r.1 h))

pub start-requires : goal.start-requires
start-requires c =
    let there : c.loop-receive.receive < length (receives c.args.interfaces.now) = omega (arith, c.loop-receive-test.true, c.receives-receive-end.ensures) in
    let r = raised c.args.interfaces.now c.loop-receive.receive c.raised.result there c.raised.ensures in
    let l = get_within (events c.args.interfaces.now) c.raised.result r.0.raised r.2 in
    let count = c.loop-receive.invariant.1 in
    omega (arith, l, count, c.requires.count)

pub loop-receive-preserved : goal.loop-receive-preserved
loop-receive-preserved c =
    let s = c.args.interfaces.now in
    let there : c.loop-receive.receive < length (receives s) = omega (arith, c.loop-receive-test.true, c.receives-receive-end.ensures) in
    let r = raised s c.loop-receive.receive c.raised.result there c.raised.ensures in (
      λ a e h.
          any_turn (λ (x : ReceiveInstance). same_instance x.raised e) (receives s) c.loop-receive.receive r.0 (starts c.loop-receive.graph a) (starts c.start.new.self a)
          (starts c.args.graph.now a || is_external s e) (drop_there (receives s) c.loop-receive.receive r.0 r.1)
          (c.start.ensures.starts a ∙ ap (λ t. starts c.loop-receive.graph a || t) (same_event s c.requires.checked c.raised.result a r.0.raised e r.2 h))
          (c.loop-receive.invariant.0 a e h),
      c.start.ensures.count ∙ c.loop-receive.invariant.1,
      c.start.ensures.leads ∙ c.loop-receive.invariant.2,
      c.start.ensures.meets ∙ c.loop-receive.invariant.3,
    )

pub returns-clause-starts : goal.returns-clause-starts
returns-clause-starts c = λ a e h.
    let s = c.args.interfaces.now in
    let all : c.loop-receive.receive ≡ length (receives s) = omega (arith, c.loop-receive-test.false, c.loop-receive.auto.receive-end, c.receives-receive-end.ensures) in
    any_end (λ (x : ReceiveInstance). same_instance x.raised e) (receives s) c.loop-receive.receive (starts c.loop-receive.graph a)
    (starts c.args.graph.now a || is_external s e) all (c.loop-receive.invariant.0 a e h)
