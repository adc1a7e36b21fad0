use Rattle.std.proofs.Common.{◌<◌, sym, subst, length, map, List}
use Rattle.std.proofs.lemmas.List.{length-map}
use Rattle.rsml_meaning.specs.Instances.{State, component_of}
use Rattle.state_tree.specs.nodes.Numbers.{IsPlace, IsNext, paths, path_above, state_of, Node}
use Rattle.state_tree.proofs.Numbering.{numbered, room_for}
use Rattle.state_tree.proofs.nodes.Nodes.put.Goals as goal

pub count_with-components-requires : goal.count_with-components-requires
count_with-components-requires c =
    let room = subst (λ (xs : List State). length xs < 4096) (sym c.self.view_is) c.requires.room in
    room_for c.self.inside.all.items c.self.inside.components c.self.invariant (subst (λ n. n < 4096) (length-map c.self.inside.all.items state_of) room)

pub invariant_of-result : goal.invariant_of-result
invariant_of-result c =
    let ns = c.self.inside.all.items in
    let n : Node = record { path = c.in_ok-path.path.items; body = c.args.body.now; parent = c.args.parent; component = c.component_after-component.result } in
    let parent : IsPlace (paths (map state_of ns)) (path_above n.path) n.parent = rw (c.self.view_is, c.in_ok-path.ensures) c.requires.parent in
    let next : IsNext c.self.inside.components (component_of n.body n.path) n.component = c.component_after-component.ensures n.path in
    let room = subst (λ (xs : List State). length xs < 4096) (sym c.self.view_is) c.requires.room in
    rw (c.in_ok-push.ensures.items, c.count_with-components.ensures) (numbered ns n c.self.inside.components c.self.invariant parent next (subst (λ k. k < 4096) (length-map ns state_of) room))
