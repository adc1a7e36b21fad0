-- That calls keep what was there, one after another, and what stands for a place where a level is false and true.
use Rattle.std.proofs.Common.{◌≡◌, ◌≢◌, ℕ, ◌<◌, ◌≤◌, Bool, true, false, if◌then◌else◌, refl, sym, ap, subst, ◌∙◌, arith, slice_get, Some}
use Rattle.std.proofs.lemmas.Option.{get_or_from_slice_get}
use Rattle.bdd_core.specs.declared.node.Node.{Node}
use Rattle.bdd_core.specs.Diagram.{Diagram, no_node, IsRef, node_at, level_of, meaning, IsReduced, IsReducedNode}
use Rattle.bdd_core.specs.Reach.Reaches.{here, by_low, by_high}
use Rattle.bdd_core.specs.Calls.{Keeps}
use Rattle.bdd_core.specs.Steps.{IsChildren, IsNode}
use Rattle.bdd_core.proofs.MeaningLemmas.{meaning-node, reduced_falls}
use Rattle.bdd_core.proofs.CanonicalLemmas.{no_constant}

pub keeps_refl : (d : Diagram) → Keeps d d
keeps_refl d = record { same_levels = refl; longer = omega arith; nodes_stay = λ f h. refl; meanings_stay = λ f v h. refl }

pub keeps_trans : (a b c : Diagram) → Keeps a b → Keeps b c → Keeps a c
keeps_trans a b c ab bc = record {
  same_levels = bc.same_levels ∙ ab.same_levels;
  longer = omega (arith, ab.longer, bc.longer);
  nodes_stay = λ f h. bc.nodes_stay f (omega (arith, ab.longer)) ∙ ab.nodes_stay f h;
  meanings_stay = λ f v h. bc.meanings_stay f v (omega (arith, ab.longer)) ∙ ab.meanings_stay f v h;
}

pub level-keeps : (a b : Diagram) → Keeps a b → (f : ℕ) → IsRef a f → level_of b f ≡ level_of a f
level-keeps a b k f h = ap (λ (t : Node). t.level) (k.nodes_stay f h)

pub either : (b x : Bool) → (if b then x else x) ≡ x
either true x = refl
either false x = refl

-- the children of a node of the level
pub children-node : (d : Diagram) (f level : ℕ) (t : Node) → IsReduced d → IsRef d f → level < d.levels → slice_get d.nodes f ≡ Some t → t.level ≡ level → IsChildren d f level t.low t.high
children-node d f level t is p fits at e =
    let there : node_at d f ≡ t = get_or_from_slice_get d.nodes f t no_node at in
    subst (λ (s : Node). s.level ≡ level → IsChildren d f level s.low s.high) there
    (λ e.
    let two : 2 ≤ f = no_constant d is f p (omega arith) in
    let r : IsReducedNode d f (node_at d f) = is.reduced f two p in
    record {
      low_ref = omega (arith, r.low_before);
      high_ref = omega (arith, r.high_before);
      low_reached = by_low f _ two (here _);
      high_reached = by_high f _ two (here _);
      low_most = omega (arith, r.low_before);
      high_most = omega (arith, r.high_before);
      low_falls = λ _. r.low_before;
      high_falls = λ _. r.high_before;
      low_level = omega (arith, r.low_level);
      high_level = omega (arith, r.high_level);
      means = λ v. meaning-node d (reduced_falls d is) f v two p ∙ ap (λ l. if v l then meaning d (node_at d f).high v else meaning d (node_at d f).low v) e;
    }) e

-- and of a place of a greater level
pub children-other : (d : Diagram) (f level : ℕ) → IsRef d f → level ≤ level_of d f → level_of d f ≢ level → IsChildren d f level f f
children-other d f level p least ne = record {
  low_ref = p;
  high_ref = p;
  low_reached = here f;
  high_reached = here f;
  low_most = omega arith;
  high_most = omega arith;
  low_falls = λ e. absurd (ne e);
  high_falls = λ e. absurd (ne e);
  low_level = omega arith;
  high_level = omega arith;
  means = λ v. sym (either (v level) (meaning d f v));
}

-- the place of a node
pub node-place : (d : Diagram) (t : Node) (r : ℕ) → IsReduced d → slice_get d.nodes r ≡ Some t → IsRef d r → t.level < d.levels → IsNode d t.level t.low t.high r
node-place d t r is at p fits =
    let there : node_at d r ≡ t = get_or_from_slice_get d.nodes r t no_node at in
    let two : 2 ≤ r = no_constant d is r p (omega (arith, ap (λ (t : Node). t.level) there)) in
    subst (λ (t : Node). IsNode d t.level t.low t.high r) there (record {
      is_ref = p;
      means = λ v. meaning-node d (reduced_falls d is) r v two p;
      level_most = omega arith;
    })

-- where low and high are one place, it is the node
pub node-same : (d : Diagram) (level low high : ℕ) → IsRef d low → level < level_of d low → low ≡ high → IsNode d level low high low
node-same d level low high p less e = record {
  is_ref = p;
  means = λ v. sym (either (v level) (meaning d low v)) ∙ ap (λ k. if v level then meaning d k v else meaning d low v) e;
  level_most = omega arith;
}
