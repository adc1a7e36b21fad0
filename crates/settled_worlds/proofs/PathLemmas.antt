-- Steps of a search for the constant true.
use Rattle.std.proofs.Common.{◌≡◌, ℕ, ◌<◌, List, [], ◌∷◌, ◌++◌, length, sym, ap, subst, ◌∙◌, inl, inr, arith}
use Rattle.std.proofs.lemmas.Bool.{cases_eq}
use Rattle.std.proofs.lemmas.List.{get_or_append_left, length-append}
use Rattle.std.proofs.Math.Seq.{get_or-append_seam}
use Rattle.bdd_core.specs.declared.branch.Branch.{Branch}
use Rattle.bdd_core.specs.Diagram.{Diagram, IsRef, IsReducedNode, node_at}
use Rattle.bdd_core.specs.Calls.{IsBranch}
use Rattle.settled_worlds.specs.declared.paths.Step.{Step}
use Rattle.settled_worlds.specs.Conflicts.{no_step, step_at, AreSteps}

pub first_step : (d : Diagram) (s : Step) → IsRef d s.function → AreSteps d (s ∷ [])
first_step d s is = record {
  refs = λ i less. let e : i ≡ 0 = omega (arith, less) in subst (λ i. IsRef d (step_at (s ∷ []) i).function) (sym e) is;
  back = λ i above less. absurd (omega (arith, above, less));
}

-- one more
pub step_more : (d : Diagram) (steps : List Step) (s : Step) → AreSteps d steps → IsRef d s.function → s.from < length steps → AreSteps d (steps ++ s ∷ [])
step_more d steps s are is from = record {
  refs = λ i less. elim (cases_eq i (length steps)) [
    | inl same ↦ subst (λ t. IsRef d t.function) (sym (last i same)) is
    | inr ne ↦ (let within : i < length steps = omega (arith, less, length-append steps (s ∷ []), ne) in
        subst (λ t. IsRef d t.function) (sym (get_or_append_left steps (s ∷ []) no_step i within)) (are.refs i within))
  ];
  back = λ i above less. elim (cases_eq i (length steps)) [
    | inl same ↦ subst (λ t. t.from < i) (sym (last i same)) (subst (λ n. s.from < n) (sym same) from)
    | inr ne ↦ (let within : i < length steps = omega (arith, less, length-append steps (s ∷ []), ne) in
        subst (λ t. t.from < i) (sym (get_or_append_left steps (s ∷ []) no_step i within)) (are.back i above within))
  ];
}
  where
    last : (i : ℕ) → i ≡ length steps → step_at (steps ++ s ∷ []) i ≡ s
    last i same = ap (step_at (steps ++ s ∷ [])) same ∙ get_or-append_seam steps s [] no_step

-- the children of a node
pub low_ref : (d : Diagram) (f : ℕ) (branch : Branch) → IsRef d f → IsBranch d f branch → IsRef d branch.low
low_ref d f branch is node =
    let r : IsReducedNode d f (node_at d f) = node.reduced in
    let low : (node_at d f).low ≡ branch.low = ap (λ t. t.low) node.node in
    omega (arith, is, r.low_before, low)

pub high_ref : (d : Diagram) (f : ℕ) (branch : Branch) → IsRef d f → IsBranch d f branch → IsRef d branch.high
high_ref d f branch is node =
    let r : IsReducedNode d f (node_at d f) = node.reduced in
    let high : (node_at d f).high ≡ branch.high = ap (λ t. t.high) node.node in
    omega (arith, is, r.high_before, high)

-- they stand before it
pub low_before : (d : Diagram) (f : ℕ) (branch : Branch) → IsBranch d f branch → branch.low < f
low_before d f branch node =
    let r : IsReducedNode d f (node_at d f) = node.reduced in
    let low : (node_at d f).low ≡ branch.low = ap (λ t. t.low) node.node in
    omega (arith, r.low_before, low)

pub high_before : (d : Diagram) (f : ℕ) (branch : Branch) → IsBranch d f branch → branch.high < f
high_before d f branch node =
    let r : IsReducedNode d f (node_at d f) = node.reduced in
    let high : (node_at d f).high ≡ branch.high = ap (λ t. t.high) node.node in
    omega (arith, r.high_before, high)
