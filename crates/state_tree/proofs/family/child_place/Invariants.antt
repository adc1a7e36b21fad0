use Rattle.std.proofs.Common.{◌≡◌, map, drop}
use Rattle.std.specs.List.{position_from}
use Rattle.rsml_syntax.specs.declared.syntax.StateDecl.{StateDecl}
use Rattle.rsml_syntax.specs.text.Names.{same, place_of}
use Rattle.state_tree.proofs.family.child_place.Given as goal

abbrev pub invariant-loop-place : goal.invariant-loop-place
invariant-loop-place l =
    place_of l.name (map (λ (c : StateDecl). c.name) l.children)
    ≡ position_from (same l.name) l.place (map (λ (c : StateDecl). c.name) (drop l.place l.children))
