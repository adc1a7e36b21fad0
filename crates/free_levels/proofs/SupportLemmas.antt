-- A function does not depend on a level that no node of its diagram has.
use Rattle.std.proofs.Common.{◌≡◌, ◌≢◌, ℕ, zero, suc, ◌<◌, ◌≤◌, Bool, sym, ◌∙◌, arith}
use Rattle.bdd_core.specs.Diagram.{Diagram, IsRef, node_at, level_of, meaning, IsReduced, IsReducedNode}
use Rattle.bdd_core.specs.Reach.{Reaches}
use Rattle.bdd_core.specs.Reach.Reaches.{here, by_low, by_high}
use Rattle.bdd_core.specs.Calls.{with_value}
use Rattle.bdd_core.proofs.CanonicalLemmas.{with_value-apart, same_choice}
use Rattle.bdd_core.proofs.MeaningLemmas.{meaning-node, meaning-false, meaning-true, reduced_falls}
use Rattle.free_levels.specs.Values.{Ignores}

unseen_below : (d : Diagram) → IsReduced d → (l n k : ℕ) (v : ℕ → Bool) (b : Bool) → k < n → IsRef d k → ((x : ℕ) → 2 ≤ x → Reaches d k x → level_of d x ≢ l) → meaning d k (with_value v l b) ≡ meaning d k v
unseen_below d is l zero k v b less h apart = absurd (omega arith)
unseen_below d is l (suc n) zero v b less h apart = meaning-false d (with_value v l b) ∙ sym (meaning-false d v)
unseen_below d is l (suc n) (suc zero) v b less h apart = meaning-true d (with_value v l b) ∙ sym (meaning-true d v)
unseen_below d is l (suc n) (suc (suc i)) v b less h apart =
    let two : 2 ≤ suc (suc i) = omega arith in
    let r : IsReducedNode d (suc (suc i)) (node_at d (suc (suc i))) = is.reduced (suc (suc i)) two h in
    let low : meaning d (node_at d (suc (suc i))).low (with_value v l b) ≡ meaning d (node_at d (suc (suc i))).low v =
    unseen_below d is l n (node_at d (suc (suc i))).low v b (omega (arith, r.low_before)) (omega (arith, r.low_before)) (λ x big s. apart x big (by_low (suc (suc i)) x two s)) in
    let high : meaning d (node_at d (suc (suc i))).high (with_value v l b) ≡ meaning d (node_at d (suc (suc i))).high v =
    unseen_below d is l n (node_at d (suc (suc i))).high v b (omega (arith, r.high_before)) (omega (arith, r.high_before)) (λ x big s. apart x big (by_high (suc (suc i)) x two s)) in
    meaning-node d (reduced_falls d is) (suc (suc i)) (with_value v l b) two h
    ∙ same_choice _ _ _ _ _ _ (with_value-apart v l (node_at d (suc (suc i))).level b (apart (suc (suc i)) two (here (suc (suc i))))) high low
    ∙ sym (meaning-node d (reduced_falls d is) (suc (suc i)) v two h)

pub unreached : (d : Diagram) → IsReduced d → (f l : ℕ) → IsRef d f → ((x : ℕ) → 2 ≤ x → Reaches d f x → level_of d x ≢ l) → Ignores (meaning d f) l
unreached d is f l h apart v b = unseen_below d is l (suc f) f v b (omega arith) h apart
