-- That the place which the recursion answers has the function that was asked for.
use Rattle.std.proofs.Common.{◌≡◌, ◌↔◌, IsTrue, ℕ, zero, suc, ◌<◌, ◌≤◌, Bool, true, false, not, ◌&&◌, ◌||◌, if◌then◌else◌, refl, sym, ap, ◌∙◌, arith, subst, slice_get, Some, eqb, eq-eqb}
use Rattle.std.proofs.lemmas.Option.{get_or_from_slice_get}
use Rattle.std.proofs.lemmas.Bool.{eqb-true}
use Rattle.bdd_core.specs.declared.node.Node.{Node}
use Rattle.bdd_core.specs.Diagram.{Diagram, no_node, IsRef, node_at, child_of, meaning, IsReduced, IsReducedNode}
use Rattle.bdd_core.specs.Calls.{Keeps, Represents, with_value, IsConstant, IsBranch}
use Rattle.bdd_core.specs.Steps.{IsChoice, IsNode, IsCut}
use Rattle.bdd_core.proofs.MeaningLemmas.{meaning-false, meaning-true, meaning-node, meaning-child, reduced_falls}
use Rattle.bdd_core.proofs.CanonicalLemmas.{same_choice, same_place}
use Rattle.bdd_core.proofs.ChoiceLemmas.{chosen-keeps}
use Rattle.bdd_core.proofs.GrowthLemmas.{and_by}

or_by : (a b : Bool) → (if a then true else b) ≡ (a || b)
or_by true b = refl
or_by false b = refl

not_by : (a : Bool) → (if a then false else true) ≡ not a
not_by true = refl
not_by false = refl

it_by : (a : Bool) → (if a then true else false) ≡ a
it_by true = refl
it_by false = refl

pub represents-and : (old new : Diagram) (f g r : ℕ) → Keeps old new → IsRef old f → IsRef old g → IsChoice new f g 0 r → Represents new (λ v. meaning old f v && meaning old g v) r
represents-and old new f g r keeps pf pg c = record {
  is_ref = c.is_ref;
  means = λ v. c.means v ∙ same_choice _ _ _ _ _ _ (keeps.meanings_stay f v pf) (keeps.meanings_stay g v pg) (meaning-false new v) ∙ and_by (meaning old f v) (meaning old g v);
}

pub represents-or : (old new : Diagram) (f g r : ℕ) → Keeps old new → IsRef old f → IsRef old g → IsChoice new f 1 g r → Represents new (λ v. meaning old f v || meaning old g v) r
represents-or old new f g r keeps pf pg c = record {
  is_ref = c.is_ref;
  means = λ v. c.means v ∙ same_choice _ _ _ _ _ _ (keeps.meanings_stay f v pf) (meaning-true new v) (keeps.meanings_stay g v pg) ∙ or_by (meaning old f v) (meaning old g v);
}

pub represents-not : (old new : Diagram) (f r : ℕ) → Keeps old new → IsRef old f → IsChoice new f 0 1 r → Represents new (λ v. not (meaning old f v)) r
represents-not old new f r keeps pf c = record {
  is_ref = c.is_ref;
  means = λ v. c.means v ∙ same_choice _ _ _ _ _ _ (keeps.meanings_stay f v pf) (meaning-false new v) (meaning-true new v) ∙ not_by (meaning old f v);
}

pub represents-ite : (old new : Diagram) (f g h r : ℕ) → Keeps old new → IsRef old f → IsRef old g → IsRef old h → IsChoice new f g h r
    → Represents new (λ v. if meaning old f v then meaning old g v else meaning old h v) r
represents-ite old new f g h r keeps pf pg ph c = record { is_ref = c.is_ref; means = λ v. c.means v ∙ chosen-keeps old new keeps f g h v pf pg ph }

pub represents-var : (d : Diagram) (level r : ℕ) → IsNode d level 0 1 r → Represents d (λ v. v level) r
represents-var d level r n = record {
  is_ref = n.is_ref;
  means = λ v. n.means v ∙ same_choice _ _ _ _ _ _ refl (meaning-true d v) (meaning-false d v) ∙ it_by (v level);
}

pub represents-cut : (old new : Diagram) (f level r : ℕ) (value : Bool) → Keeps old new → IsRef old f → IsCut new f level value r → Represents new (λ v. meaning old f (with_value v level value)) r
represents-cut old new f level r value keeps pf c = record { is_ref = c.is_ref; means = λ v. c.means v ∙ keeps.meanings_stay f (with_value v level value) pf }

-- one step of a walk from a node down
pub step-down : (d : Diagram) (at : ℕ) (t : Node) → IsReduced d → slice_get d.nodes at ≡ Some t → IsRef d at → 2 ≤ at
    → (t.low < at) × (t.high < at) × ((v : ℕ → Bool) → meaning d at v ≡ (if v t.level then meaning d t.high v else meaning d t.low v))
step-down d at t is reads within two =
    let there : node_at d at ≡ t = get_or_from_slice_get d.nodes at t no_node reads in
    let r : IsReducedNode d at (node_at d at) = is.reduced at two within in
    subst (λ (t : Node). (t.low < at) × (t.high < at) × ((v : ℕ → Bool) → meaning d at v ≡ (if v t.level then meaning d t.high v else meaning d t.low v))) there
    (r.low_before, r.high_before, λ v. meaning-node d (reduced_falls d is) at v two within)

-- what the end of a walk means
pub walk-end : (d : Diagram) (at : ℕ) (v : ℕ → Bool) → at ≤ 1 → eqb at 1 ≡ meaning d at v
walk-end d zero v h = sym (meaning-false d v)
walk-end d (suc zero) v h = sym (meaning-true d v)
walk-end d (suc (suc k)) v h = absurd (omega arith)

-- a place is that of a constant exactly where it has the constant's function
pub constant-exact : (d : Diagram) → IsReduced d → (f k : ℕ) (b : Bool) → IsRef d f → IsRef d k → ((v : ℕ → Bool) → meaning d k v ≡ b) → IsTrue (eqb f k) ↔ ((v : ℕ → Bool) → meaning d f v ≡ b)
constant-exact d is f k b pf pk all = (
  λ t v. ap (λ f. meaning d f v) (eqb-true f k t) ∙ all v,
  λ same. subst (λ k. IsTrue (eqb f k)) (same_place d is f k pf pk (λ v. same v ∙ sym (all v))) (equal f),
)
  where
    equal : (n : ℕ) → IsTrue (eqb n n)
    equal n = eq-eqb n n refl

pub constant-small : (d : Diagram) (f : ℕ) → f < 2 → IsConstant d f
constant-small d zero h = (false, meaning-false d)
constant-small d (suc zero) h = (true, meaning-true d)
constant-small d (suc (suc f)) h = absurd (omega arith)

pub no_constant-node : (d : Diagram) → IsReduced d → (f : ℕ) → IsRef d f → 2 ≤ f → IsConstant d f → ⊥
no_constant-node d is f pf two (true, all) =
    let same : f ≡ 1 = same_place d is f 1 pf (omega (arith, is.at_least)) (λ v. all v ∙ sym (meaning-true d v)) in omega arith
no_constant-node d is f pf two (false, all) =
    let same : f ≡ 0 = same_place d is f 0 pf (omega (arith, is.at_least)) (λ v. all v ∙ sym (meaning-false d v)) in omega arith

-- the node that is read at a place
pub branch-at : (d : Diagram) → IsReduced d → (f : ℕ) (t : Node) (low high : ℕ) → IsRef d f → 2 ≤ f → slice_get d.nodes f ≡ Some t → low ≡ t.low → high ≡ t.high
    → IsBranch d f (record { level = t.level; low = low; high = high })
branch-at d is f t low high pf two reads e_low e_high =
    let there : node_at d f ≡ t = get_or_from_slice_get d.nodes f t no_node reads in
    let whole : node_at d f ≡ record { level = t.level; low = low; high = high } = there ∙ (λ i. record { level = t.level; low = sym e_low i; high = sym e_high i }) in
    record {
      node = whole;
      reduced = is.reduced f two pf;
      means = λ v. meaning-child d (reduced_falls d is) f v two pf ∙ ap (λ (s : Node). meaning d (child_of s v) v) whole;
    }
