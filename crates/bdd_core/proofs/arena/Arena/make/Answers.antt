-- The new node fits, so the arena holds with it, and its place means the node.
use Rattle.std.proofs.Common.{◌≡◌, sym, subst, ◌<◌, ◌≤◌, length, slice_get, Some}
use Rattle.std.proofs.lemmas.Option.{slice_get_within}
use Rattle.std.proofs.lemmas.Result.{IfOk-weaker}
use Rattle.bdd_core.specs.declared.node.Node.{Node}
use Rattle.bdd_core.specs.Diagram.{Diagram, IsRef, level_of}
use Rattle.bdd_core.specs.Calls.{Keeps}
use Rattle.bdd_core.specs.Steps.{IsNode}
use Rattle.bdd_core.specs.Holds.{ArenaHolds}
use Rattle.bdd_core.proofs.MeaningLemmas.{reduced_falls}
use Rattle.bdd_core.proofs.StepLemmas.{node-place}
use Rattle.bdd_core.proofs.HoldsLemmas.{keeps-insert, insert-holds, added-reads}
use Rattle.bdd_core.proofs.arena.Arena.make.Goals as goal

pub invariant_of-self : goal.invariant_of-self
invariant_of-self c =
    let old : Diagram = record { levels = c.self.inside.levels; nodes = c.self.inside.nodes } in
    let t : Node = record { level = c.args.level; low = c.args.low; high = c.args.high } in
    let back : c.args.self.now ≡ old = sym c.self.view_is in
    insert-holds old t c.push.new.self c.self.inside.choices.slots.items c.self.inside.cuts.slots.items c.self.invariant
    (record {
      fits = subst (λ (d : Diagram). c.args.level < d.levels) back c.requires.fits;
      low_ref = subst (λ d. IsRef d c.args.low) back c.requires.low_ref;
      high_ref = subst (λ d. IsRef d c.args.high) back c.requires.high_ref;
      low_level = subst (λ d. c.args.level < level_of d c.args.low) back c.requires.low_level;
      high_level = subst (λ d. c.args.level < level_of d c.args.high) back c.requires.high_level;
      differ = c.if-low-high.false;
    })
    c.push.ensures.adds

pub returns-clause-keeps : goal.returns-clause-keeps
returns-clause-keeps c =
    let old : Diagram = record { levels = c.self.inside.levels; nodes = c.self.inside.nodes } in
    let t : Node = record { level = c.args.level; low = c.args.low; high = c.args.high } in
    subst (λ d. Keeps d (record { levels = c.self.inside.levels; nodes = c.push.new.self })) c.self.view_is
    (keeps-insert old t c.push.new.self (reduced_falls old c.self.invariant.is_reduced) c.push.ensures.adds)

pub returns-clause-node : goal.returns-clause-node
returns-clause-node c =
    let new : Diagram = record { levels = c.self.inside.levels; nodes = c.push.new.self } in
    let t : Node = record { level = c.args.level; low = c.args.low; high = c.args.high } in
    let holds : ArenaHolds new c.self.inside.choices.slots.items c.self.inside.cuts.slots.items = invariant_of-self c in
    IfOk-weaker c.push.result (λ r. slice_get c.push.new.self r ≡ Some t) (IsNode new c.args.level c.args.low c.args.high)
    (λ r at. node-place new t r holds.is_reduced at (slice_get_within c.push.new.self r t at) (subst (λ (d : Diagram). c.args.level < d.levels) (sym c.self.view_is) c.requires.fits))
    c.push.ensures.place

pub returns-in-Some-clause-node : goal.returns-in-Some-clause-node
returns-in-Some-clause-node c =
    let old : Diagram = record { levels = c.self.inside.levels; nodes = c.self.inside.nodes } in
    let t : Node = record { level = c.args.level; low = c.args.low; high = c.args.high } in
    subst (λ d. IsNode d c.args.level c.args.low c.args.high c.in-Some.place) c.self.view_is
    (node-place old t c.in-Some.place c.self.invariant.is_reduced c.in-Some.ensures.found (slice_get_within c.self.inside.nodes c.in-Some.place t c.in-Some.ensures.found)
    (subst (λ (d : Diagram). c.args.level < d.levels) (sym c.self.view_is) c.requires.fits))

pub returns-clause-added : goal.returns-clause-added
returns-clause-added c k from to =
    let old : Diagram = record { levels = c.self.inside.levels; nodes = c.self.inside.nodes } in
    let new : Diagram = record { levels = c.self.inside.levels; nodes = c.push.new.self } in
    let t : Node = record { level = c.args.level; low = c.args.low; high = c.args.high } in
    let holds : ArenaHolds new c.self.inside.choices.slots.items c.self.inside.cuts.slots.items = invariant_of-self c in
    let start : length c.self.inside.nodes ≤ k = subst (λ (d : Diagram). length d.nodes ≤ k) (sym c.self.view_is) from in
    node-place new t k holds.is_reduced (added-reads old t c.push.new.self k c.push.ensures.adds start to)
    to (subst (λ (d : Diagram). c.args.level < d.levels) (sym c.self.view_is) c.requires.fits)
