-- What is reached from a place: it stands no higher, and more nodes change nothing.
use Rattle.std.proofs.Common.{◌≡◌, ℕ, ◌<◌, ◌≤◌, refl, sym, ap, subst, arith, ◌⊎◌, inl, inr}
use Rattle.bdd_core.specs.declared.node.Node.{Node}
use Rattle.bdd_core.specs.Diagram.{Diagram, IsRef, node_at, IsReduced, IsReducedNode}
use Rattle.bdd_core.specs.Reach.{Reaches}
use Rattle.bdd_core.specs.Reach.Reaches.{here, by_low, by_high}
use Rattle.bdd_core.specs.Calls.{Keeps}
use Rattle.bdd_core.specs.Steps.{IsChild}

pub reached_most : (d : Diagram) → IsReduced d → (f k : ℕ) → IsRef d f → Reaches d f k → k ≤ f
reached_most d is _ _ p (here f) = omega arith
reached_most d is _ _ p (by_low f k two rest) =
    let r : IsReducedNode d f (node_at d f) = is.reduced f two p in
    let less : (node_at d f).low < f = r.low_before in
    omega (arith, reached_most d is (node_at d f).low k (omega arith) rest)
reached_most d is _ _ p (by_high f k two rest) =
    let r : IsReducedNode d f (node_at d f) = is.reduced f two p in
    let less : (node_at d f).high < f = r.high_before in
    omega (arith, reached_most d is (node_at d f).high k (omega arith) rest)

pub reach_trans : (d : Diagram) (f x k : ℕ) → Reaches d f x → Reaches d x k → Reaches d f k
reach_trans d _ _ k (here f) r = r
reach_trans d _ _ k (by_low f x two rest) r = by_low f k two (reach_trans d (node_at d f).low x k rest r)
reach_trans d _ _ k (by_high f x two rest) r = by_high f k two (reach_trans d (node_at d f).high x k rest r)

-- what is reached among more nodes from an old place was reached before
pub reach_back : (a b : Diagram) → Keeps a b → IsReduced a → (f k : ℕ) → IsRef a f → Reaches b f k → Reaches a f k
reach_back a b keeps is _ _ p (here f) = here f
reach_back a b keeps is _ _ p (by_low f k two rest) =
    let r : IsReducedNode a f (node_at a f) = is.reduced f two p in
    let same : (node_at b f).low ≡ (node_at a f).low = ap (λ (t : Node). t.low) (keeps.nodes_stay f p) in
    let within : IsRef a (node_at b f).low = omega (arith, r.low_before) in
    by_low f k two (subst (λ x. Reaches a x k) same (reach_back a b keeps is (node_at b f).low k within rest))
reach_back a b keeps is _ _ p (by_high f k two rest) =
    let r : IsReducedNode a f (node_at a f) = is.reduced f two p in
    let same : (node_at b f).high ≡ (node_at a f).high = ap (λ (t : Node). t.high) (keeps.nodes_stay f p) in
    let within : IsRef a (node_at b f).high = omega (arith, r.high_before) in
    by_high f k two (subst (λ x. Reaches a x k) same (reach_back a b keeps is (node_at b f).high k within rest))

-- and what was reached is reached among more nodes
pub reach_on : (a b : Diagram) → Keeps a b → IsReduced a → (f k : ℕ) → IsRef a f → Reaches a f k → Reaches b f k
reach_on a b keeps is _ _ p (here f) = here f
reach_on a b keeps is _ _ p (by_low f k two rest) =
    let r : IsReducedNode a f (node_at a f) = is.reduced f two p in
    let same : (node_at a f).low ≡ (node_at b f).low = ap (λ (t : Node). t.low) (sym (keeps.nodes_stay f p)) in
    let within : IsRef a (node_at a f).low = omega (arith, r.low_before) in
    by_low f k two (subst (λ x. Reaches b x k) same (reach_on a b keeps is (node_at a f).low k within rest))
reach_on a b keeps is _ _ p (by_high f k two rest) =
    let r : IsReducedNode a f (node_at a f) = is.reduced f two p in
    let same : (node_at a f).high ≡ (node_at b f).high = ap (λ (t : Node). t.high) (sym (keeps.nodes_stay f p)) in
    let within : IsRef a (node_at a f).high = omega (arith, r.high_before) in
    by_high f k two (subst (λ x. Reaches b x k) same (reach_on a b keeps is (node_at a f).high k within rest))

-- what is reached is the start, or a child of what is reached
pub reach_last : (d : Diagram) → IsReduced d → (f k : ℕ) → IsRef d f → Reaches d f k → (f ≡ k) ⊎ ((p : ℕ) × Reaches d f p × IsChild d p k)
reach_last d is _ _ p (here f) = inl refl
reach_last d is _ _ p (by_low f k two rest) =
    let r : IsReducedNode d f (node_at d f) = is.reduced f two p in
    let less : (node_at d f).low < f = r.low_before in
    elim (reach_last d is (node_at d f).low k (omega arith) rest) [
      | inl e ↦ inr (f, here f, record { which = inl e; two = two; below = omega arith })
      | inr q ↦ inr (q.0, by_low f q.0 two q.1, q.2)
    ]
reach_last d is _ _ p (by_high f k two rest) =
    let r : IsReducedNode d f (node_at d f) = is.reduced f two p in
    let less : (node_at d f).high < f = r.high_before in
    elim (reach_last d is (node_at d f).high k (omega arith) rest) [
      | inl e ↦ inr (f, here f, record { which = inr e; two = two; below = omega arith })
      | inr q ↦ inr (q.0, by_high f q.0 two q.1, q.2)
    ]
