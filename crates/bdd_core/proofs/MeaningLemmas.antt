-- What places mean: the constants, a node by its children, and that more nodes change nothing.
use Rattle.std.proofs.Common.{◌≡◌, ℕ, zero, suc, ◌<◌, ◌≤◌, Bool, true, false, List, ◌++◌, if◌then◌else◌, refl, ap, ◌∙◌, arith}
use Rattle.std.proofs.Math.ListN.{get_or-append}
use Rattle.bdd_core.specs.declared.node.Node.{Node}
use Rattle.bdd_core.specs.Diagram.{Diagram, no_node, IsRef, node_at, child_of, walk, meaning, IsReduced, IsReducedNode}

-- the arena with other nodes
abbrev pub with_nodes : Diagram → List Node → Diagram
with_nodes d nodes = record { levels = d.levels; nodes = nodes }

-- children stand before their node
abbrev pub Falls : Diagram → Type 0
Falls d = (k : ℕ) → 2 ≤ k → IsRef d k → ((node_at d k).low < k) × ((node_at d k).high < k)

pub reduced_falls : (d : Diagram) → IsReduced d → Falls d
reduced_falls d is k two h = let r : IsReducedNode d k (node_at d k) = is.reduced k two h in (r.low_before, r.high_before)

-- one of two numbers is less where both are
less_by : (b : Bool) (x y k : ℕ) → x < k → y < k → (if b then x else y) < k
less_by true x y k p q = p
less_by false x y k p q = q

child-before : (d : Diagram) → Falls d → (k : ℕ) (v : ℕ → Bool) → 2 ≤ k → IsRef d k → child_of (node_at d k) v < k
child-before d falls k v two h = less_by (v (node_at d k).level) (node_at d k).high (node_at d k).low k (falls k two h).1 (falls k two h).0

-- a walk of enough steps does not depend on their number
walk-enough : (d : Diagram) → Falls d → (v : ℕ → Bool) (m n k : ℕ) → k ≤ m → k ≤ n → IsRef d k → walk d v m k ≡ walk d v n k
unfolding walk
walk-enough d falls v zero zero k a b h = refl
walk-enough d falls v zero (suc n) zero a b h = refl
walk-enough d falls v zero (suc n) (suc zero) a b h = refl
walk-enough d falls v zero (suc n) (suc (suc k)) a b h = absurd (omega arith)
walk-enough d falls v (suc m) zero zero a b h = refl
walk-enough d falls v (suc m) zero (suc zero) a b h = refl
walk-enough d falls v (suc m) zero (suc (suc k)) a b h = absurd (omega arith)
walk-enough d falls v (suc m) (suc n) zero a b h = refl
walk-enough d falls v (suc m) (suc n) (suc zero) a b h = refl
walk-enough d falls v (suc m) (suc n) (suc (suc k)) a b h =
    let less : child_of (node_at d (suc (suc k))) v < suc (suc k) = child-before d falls (suc (suc k)) v (omega arith) h in
    walk-enough d falls v m n (child_of (node_at d (suc (suc k))) v) (omega arith) (omega arith) (omega arith)

-- a node means what the child means that its level's value asks for
pub meaning-child : (d : Diagram) → Falls d → (k : ℕ) (v : ℕ → Bool) → 2 ≤ k → IsRef d k → meaning d k v ≡ meaning d (child_of (node_at d k) v) v
unfolding walk meaning
meaning-child d falls zero v two h = absurd (omega arith)
meaning-child d falls (suc zero) v two h = absurd (omega arith)
meaning-child d falls (suc (suc k)) v two h =
    let less : child_of (node_at d (suc (suc k))) v < suc (suc k) = child-before d falls (suc (suc k)) v two h in
    walk-enough d falls v (suc k) (child_of (node_at d (suc (suc k))) v) (child_of (node_at d (suc (suc k))) v) (omega arith) (omega arith) (omega arith)

-- a choice of places is a choice of their meanings
meaning-if : (d : Diagram) (b : Bool) (x y : ℕ) (v : ℕ → Bool) → meaning d (if b then x else y) v ≡ (if b then meaning d x v else meaning d y v)
meaning-if d true x y v = refl
meaning-if d false x y v = refl

pub meaning-node : (d : Diagram) → Falls d → (k : ℕ) (v : ℕ → Bool) → 2 ≤ k → IsRef d k
    → meaning d k v ≡ (if v (node_at d k).level then meaning d (node_at d k).high v else meaning d (node_at d k).low v)
meaning-node d falls k v two h = meaning-child d falls k v two h ∙ meaning-if d (v (node_at d k).level) (node_at d k).high (node_at d k).low v

pub meaning-false : (d : Diagram) (v : ℕ → Bool) → meaning d 0 v ≡ false
unfolding walk meaning
meaning-false d v = refl

pub meaning-true : (d : Diagram) (v : ℕ → Bool) → meaning d 1 v ≡ true
unfolding walk meaning
meaning-true d v = refl

walk-append : (d : Diagram) (more : List Node) → Falls d → (v : ℕ → Bool) (n k : ℕ) → IsRef d k → walk (with_nodes d (d.nodes ++ more)) v n k ≡ walk d v n k
unfolding walk
walk-append d more falls v zero zero h = refl
walk-append d more falls v zero (suc zero) h = refl
walk-append d more falls v zero (suc (suc k)) h = refl
walk-append d more falls v (suc n) zero h = refl
walk-append d more falls v (suc n) (suc zero) h = refl
walk-append d more falls v (suc n) (suc (suc k)) h =
    let less : child_of (node_at d (suc (suc k))) v < suc (suc k) = child-before d falls (suc (suc k)) v (omega arith) h in
    ap (λ (t : Node). walk (with_nodes d (d.nodes ++ more)) v n (child_of t v)) (get_or-append d.nodes more no_node (suc (suc k)) h)
    ∙ walk-append d more falls v n (child_of (node_at d (suc (suc k))) v) (omega arith)

-- more nodes leave the meaning of each place
pub meaning-append : (d : Diagram) (more : List Node) → Falls d → (k : ℕ) (v : ℕ → Bool) → IsRef d k → meaning (with_nodes d (d.nodes ++ more)) k v ≡ meaning d k v
unfolding meaning
meaning-append d more falls k v h = walk-append d more falls v k k h
