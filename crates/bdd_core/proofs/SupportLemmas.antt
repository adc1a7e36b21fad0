-- A function does not depend on a level that no node of its diagram has, and a sweep that sets the levels that it comes past.
use Rattle.std.proofs.Common.{◌≡◌, ◌≢◌, ℕ, zero, suc, ◌+◌, ◌<◌, ◌≤◌, Bool, true, false, List, get_or, sym, ap, subst, ◌∙◌, arith, inl, inr, true≢false}
use Rattle.std.proofs.lemmas.Bool.{cases_eq}
use Rattle.bdd_core.specs.Diagram.{Diagram, IsRef, node_at, level_of, meaning, IsReduced, IsReducedNode}
use Rattle.bdd_core.specs.Reach.{Reaches}
use Rattle.bdd_core.specs.Reach.Reaches.{here, by_low, by_high}
use Rattle.bdd_core.specs.Calls.{with_value, Ignores}
use Rattle.bdd_core.specs.Sweep.{Swept}
use Rattle.bdd_core.proofs.MeaningLemmas.{meaning-node, meaning-false, meaning-true, reduced_falls}
use Rattle.bdd_core.proofs.CanonicalLemmas.{with_value-apart, same_choice}
use Rattle.bdd_core.proofs.ReachLemmas.{reached_most}
use Rattle.bdd_core.proofs.SweepLemmas.{reached_marked}

unseen_below : (d : Diagram) → IsReduced d → (l n k : ℕ) (v : ℕ → Bool) (b : Bool) → k < n → IsRef d k → ((x : ℕ) → 2 ≤ x → Reaches d k x → level_of d x ≢ l) → meaning d k (with_value v l b) ≡ meaning d k v
unseen_below d is l zero k v b less h apart = absurd (omega arith)
unseen_below d is l (suc n) zero v b less h apart = meaning-false d (with_value v l b) ∙ sym (meaning-false d v)
unseen_below d is l (suc n) (suc zero) v b less h apart = meaning-true d (with_value v l b) ∙ sym (meaning-true d v)
unseen_below d is l (suc n) (suc (suc i)) v b less h apart =
    let two : 2 ≤ suc (suc i) = omega arith in
    let r : IsReducedNode d (suc (suc i)) (node_at d (suc (suc i))) = is.reduced (suc (suc i)) two h in
    let low : meaning d (node_at d (suc (suc i))).low (with_value v l b) ≡ meaning d (node_at d (suc (suc i))).low v =
    unseen_below d is l n (node_at d (suc (suc i))).low v b (omega (arith, r.low_before)) (omega (arith, r.low_before)) (λ x big s. apart x big (by_low (suc (suc i)) x two s)) in
    let high : meaning d (node_at d (suc (suc i))).high (with_value v l b) ≡ meaning d (node_at d (suc (suc i))).high v =
    unseen_below d is l n (node_at d (suc (suc i))).high v b (omega (arith, r.high_before)) (omega (arith, r.high_before)) (λ x big s. apart x big (by_high (suc (suc i)) x two s)) in
    meaning-node d (reduced_falls d is) (suc (suc i)) (with_value v l b) two h
    ∙ same_choice _ _ _ _ _ _ (with_value-apart v l (node_at d (suc (suc i))).level b (apart (suc (suc i)) two (here (suc (suc i))))) high low
    ∙ sym (meaning-node d (reduced_falls d is) (suc (suc i)) v two h)

pub unreached : (d : Diagram) → IsReduced d → (f l : ℕ) → IsRef d f → ((x : ℕ) → 2 ≤ x → Reaches d f x → level_of d x ≢ l) → Ignores d f l
unreached d is f l h apart v b = unseen_below d is l (suc f) f v b (omega arith) h apart

-- how far a sweep from f down has come: it counted some nodes, and the levels of those from `at` up are set
pub record SetsLevels (d : Diagram) (f at : ℕ) (seen levels : List Bool) : Type 0 where
  pub count : ℕ
  pub swept : Swept d f at seen count
  pub are_set : (p : ℕ) → at ≤ p → 2 ≤ p → Reaches d f p → get_or levels (level_of d p) false ≡ true

pub sets-start : (d : Diagram) → IsReduced d → (f : ℕ) (seen levels : List Bool) (count : ℕ) → IsRef d f → Swept d f (f + 1) seen count → SetsLevels d f (f + 1) seen levels
sets-start d is f seen levels count fits s = record { count = count; swept = s; are_set = λ p from two r. absurd (omega (arith, reached_most d is f p fits r)) }

pub sets-skip : (d : Diagram) → IsReduced d → (f at : ℕ) (seen levels : List Bool) → IsRef d f → (s : SetsLevels d f (suc at) seen levels) → Swept d f at seen s.count → get_or seen at false ≡ false → SetsLevels d f at seen levels
sets-skip d is f at seen levels fits s next unset = record {
  count = s.count;
  swept = next;
  are_set = λ p from two r. elim (cases_eq p at) [
    | inl e ↦ absurd (true≢false (sym (reached_marked d f at seen s.count is fits s.swept (subst (Reaches d f) e r)) ∙ unset))
    | inr ne ↦ s.are_set p (omega arith) two r
  ];
}

pub sets-set : (d : Diagram) (f at : ℕ) (seen now levels set_levels : List Bool) (s : SetsLevels d f (suc at) seen levels) → Swept d f at now (s.count + 1)
    → ((level : ℕ) → get_or levels level false ≡ true → get_or set_levels level false ≡ true) → (2 ≤ at → get_or set_levels (level_of d at) false ≡ true) → SetsLevels d f at now set_levels
sets-set d f at seen now levels set_levels s next stay here_set = record {
  count = s.count + 1;
  swept = next;
  are_set = λ p from two r. elim (cases_eq p at) [
    | inl e ↦ subst (λ k. 2 ≤ k → get_or set_levels (level_of d k) false ≡ true) (sym e) here_set two
    | inr ne ↦ stay (level_of d p) (s.are_set p (omega arith) two r)
  ];
}

pub sets-end : (d : Diagram) → IsReduced d → (f : ℕ) (seen levels : List Bool) → IsRef d f → SetsLevels d f 0 seen levels → (level : ℕ) → get_or levels level false ≡ false → Ignores d f level
sets-end d is f seen levels fits s level unset =
    unreached d is f level fits (λ x two r e. true≢false (sym (s.are_set x (omega arith) two r) ∙ ap (λ l. get_or levels l false) e ∙ unset))
