use Rattle.std.proofs.Common.{◌≡◌, map, take}
use Rattle.rsml_syntax.specs.declared.syntax.StateDecl.{StateDecl}
use Rattle.rsml_names.specs.Kin.{AreBelow, Grown}
use Rattle.rsml_names.proofs.families.Families.+families.Given as goal

abbrev pub invariant-with_children-loop-child : goal.invariant-with_children-loop-child
invariant-with_children-loop-child l = record {
  grown : Grown l.fn.self l.families;
  named : l.names ≡ map (λ (c : StateDecl). c.name) (take l.child-index l.children);
  placed : AreBelow l.families (take l.child-index l.children) l.below.items;
}
