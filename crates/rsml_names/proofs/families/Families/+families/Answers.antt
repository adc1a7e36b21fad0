use Rattle.std.proofs.Common.{◌≡◌, List, ◌∷◌, ◌++◌, [], map, take, subst, ap, ◌∙◌}
use Rattle.std.proofs.lemmas.List.{take_all}
use Rattle.rsml_syntax.specs.declared.syntax.StateDecl.{StateDecl}
use Rattle.rsml_syntax.specs.text.Names.{Name}
use Rattle.rsml_names.specs.Kin.{AreBelow}
use Rattle.rsml_names.proofs.KinLemmas.{grown_more, names_turn, below_turn, put_holds}
use Rattle.rsml_names.proofs.families.Families.+families.Goals as goal

pub with_children-loop-child-preserved : goal.with_children-loop-child-preserved
with_children-loop-child-preserved t c =
    let cs = c.args.children.now in
    let i = c.loop-child.child-index in
    let child = c.child-item.result in
    record {
      grown = grown_more c.args.self c.loop-child.families c.in_ok-grown.grown c.loop-child.invariant.grown c.in_ok-grown.ensures.0;
      named = names_turn c.loop-child.names c.add.new.self cs i child c.loop-child-test.true c.child-item.is c.loop-child.invariant.named
          (c.in_ok-add.ensures.put ∙ ap (λ (n : Name). c.loop-child.names ++ n ∷ []) c.bytes.ensures);
      placed = rw c.in_ok-push.ensures.items
          (below_turn c.loop-child.families c.in_ok-grown.grown cs i child c.loop-child.below.items c.in_ok-grown.number c.loop-child-test.true c.child-item.is
          c.loop-child.invariant.placed c.in_ok-grown.ensures.0 c.in_ok-grown.ensures.1);
    }

pub with_children-put-requires : goal.with_children-put-requires
with_children-put-requires t c =
    let cs = c.args.children.now in
    let all : take c.loop-child.child-index cs ≡ cs = take_all c.loop-child.child-index cs c.loop-child-test.false in
    record {
      names = c.loop-child.invariant.named ∙ ap (λ (ds : List StateDecl). map (λ (d : StateDecl). d.name) ds) all;
      below = subst (λ (ds : List StateDecl). AreBelow c.loop-child.families ds c.loop-child.below.items) all c.loop-child.invariant.placed;
    }

pub with_children-returns : goal.with_children-returns
with_children-returns t c =
    put_holds c.put.result c.args.self c.loop-child.families (record { children = c.args.children.now; names = c.loop-child.names; below = c.loop-child.below.items })
    c.loop-child.invariant.grown c.put.ensures
