-- In one arena, equal functions have equal places.
use Rattle.std.proofs.Common.{◌≡◌, ◌≢◌, ℕ, zero, suc, ◌+◌, ◌<◌, ◌≤◌, Bool, true, false, if◌then◌else◌, refl, sym, ap, ◌∙◌, arith, inl, inr, true≢false}
use Rattle.std.proofs.lemmas.Bool.{cases_order, cases_lt}
use Rattle.std.proofs.lemmas.Bool.Decides.{eqb_tells}
use Rattle.bdd_core.specs.declared.node.Node.{Node}
use Rattle.bdd_core.specs.Diagram.{Diagram, IsRef, node_at, level_of, meaning, HaveSameMeaning, IsReduced, IsReducedNode, IsCanonical}
use Rattle.bdd_core.specs.Calls.{with_value}
use Rattle.bdd_core.proofs.MeaningLemmas.{meaning-node, meaning-false, meaning-true, reduced_falls}

pub with_value-same : (v : ℕ → Bool) (l : ℕ) (b : Bool) → with_value v l b l ≡ b
with_value-same v l b = elim (eqb_tells l l) [ inl h ↦ ap (λ t. if t then b else v l) h.0 | inr h ↦ absurd (h.1 refl) ]

pub with_value-apart : (v : ℕ → Bool) (l x : ℕ) (b : Bool) → x ≢ l → with_value v l b x ≡ v x
with_value-apart v l x b h = elim (eqb_tells x l) [ inl e ↦ absurd (h e.1) | inr e ↦ ap (λ t. if t then b else v x) e.0 ]

with_value-other : (v : ℕ → Bool) (l x : ℕ) (b : Bool) → l < x → with_value v l b x ≡ v x
with_value-other v l x b h = with_value-apart v l x b (λ e. omega (arith, e))

-- equal parts make equal choices
pub same_choice : (a a' b b' c c' : Bool) → a ≡ a' → b ≡ b' → c ≡ c' → (if a then b else c) ≡ (if a' then b' else c')
same_choice a a' b b' c c' p q r = λ i. if p i then q i else r i

module _ (d : Diagram) (is : IsReduced d) where
  -- no level is above the constants'
  pub level_most : (k : ℕ) → IsRef d k → level_of d k ≤ d.levels
  level_most zero h = omega (arith, is.false_level)
  level_most (suc zero) h = omega (arith, is.true_level)
  level_most (suc (suc k)) h = omega (arith, (is.reduced (suc (suc k)) (omega arith) h).level_fits)

  -- a place whose level is below the constants' is no constant
  pub no_constant : (k : ℕ) → IsRef d k → level_of d k < d.levels → 2 ≤ k
  no_constant zero h l = absurd (omega (arith, is.false_level))
  no_constant (suc zero) h l = absurd (omega (arith, is.true_level))
  no_constant (suc (suc k)) h l = omega arith

  -- a place does not ask for the levels below its own
  pub meaning-agree : (n k : ℕ) (v w : ℕ → Bool) → k < n → IsRef d k → ((x : ℕ) → level_of d k ≤ x → v x ≡ w x) → meaning d k v ≡ meaning d k w
  meaning-agree zero k v w b h same = absurd (omega arith)
  meaning-agree (suc n) zero v w b h same = meaning-false d v ∙ sym (meaning-false d w)
  meaning-agree (suc n) (suc zero) v w b h same = meaning-true d v ∙ sym (meaning-true d w)
  meaning-agree (suc n) (suc (suc i)) v w b h same =
      let two : 2 ≤ suc (suc i) = omega arith in
      let t : Node = node_at d (suc (suc i)) in
      let r : IsReducedNode d (suc (suc i)) (node_at d (suc (suc i))) = is.reduced (suc (suc i)) two h in
      let low : meaning d t.low v ≡ meaning d t.low w =
      meaning-agree n t.low v w (omega (arith, r.low_before)) (omega (arith, r.low_before)) (λ x g. same x (omega (arith, r.low_level))) in
      let high : meaning d t.high v ≡ meaning d t.high w =
      meaning-agree n t.high v w (omega (arith, r.high_before)) (omega (arith, r.high_before)) (λ x g. same x (omega (arith, r.high_level))) in
      let here : v t.level ≡ w t.level = same t.level (omega arith) in
      meaning-node d (reduced_falls d is) (suc (suc i)) v two h
      ∙ same_choice _ _ _ _ _ _ here high low
      ∙ sym (meaning-node d (reduced_falls d is) (suc (suc i)) w two h)

  -- a place of a greater level does not see the value of a level
  pub unseen : (g l : ℕ) (b : Bool) (v : ℕ → Bool) → IsRef d g → l < level_of d g → meaning d g (with_value v l b) ≡ meaning d g v
  unseen g l b v h less = meaning-agree (suc g) g (with_value v l b) v (omega arith) h (λ x at. with_value-other v l x b (omega arith))

  -- the cofactor of a node means what the node means where its level has that value
  cofactor : (k : ℕ) (b : Bool) (v : ℕ → Bool) → 2 ≤ k → IsRef d k
      → meaning d k (with_value v (level_of d k) b) ≡ meaning d (if b then (node_at d k).high else (node_at d k).low) v
  cofactor k true v two h =
      let t : Node = node_at d k in
      let r : IsReducedNode d k (node_at d k) = is.reduced k two h in
      meaning-node d (reduced_falls d is) k (with_value v t.level true) two h
      ∙ same_choice _ _ _ _ _ _ (with_value-same v t.level true) refl refl
      ∙ unseen t.high t.level true v (omega (arith, r.high_before)) r.high_level
  cofactor k false v two h =
      let t : Node = node_at d k in
      let r : IsReducedNode d k (node_at d k) = is.reduced k two h in
      meaning-node d (reduced_falls d is) k (with_value v t.level false) two h
      ∙ same_choice _ _ _ _ _ _ (with_value-same v t.level false) refl refl
      ∙ unseen t.low t.level false v (omega (arith, r.low_before)) r.low_level

  -- where a node has the function of a place of a greater level, so have both its children
  same_children : (f g : ℕ) → 2 ≤ f → IsRef d f → IsRef d g → level_of d f < level_of d g → HaveSameMeaning d f g
      → HaveSameMeaning d (node_at d f).low (node_at d f).high
  same_children f g two hf hg less same v =
      let t : Node = node_at d f in
      sym (cofactor f false v two hf) ∙ same (with_value v t.level false) ∙ unseen g t.level false v hg less
      ∙ sym (unseen g t.level true v hg less) ∙ sym (same (with_value v t.level true)) ∙ cofactor f true v two hf

  -- constants with one function are one
  constants : (f g : ℕ) → IsRef d f → IsRef d g → d.levels ≤ level_of d f → d.levels ≤ level_of d g → HaveSameMeaning d f g → f ≡ g
  constants zero zero hf hg lf lg same = refl
  constants (suc zero) (suc zero) hf hg lf lg same = refl
  constants zero (suc zero) hf hg lf lg same = absurd (true≢false (sym (meaning-true d (λ _. true)) ∙ sym (same (λ _. true)) ∙ meaning-false d (λ _. true)))
  constants (suc zero) zero hf hg lf lg same = absurd (true≢false (sym (meaning-true d (λ _. true)) ∙ same (λ _. true) ∙ meaning-false d (λ _. true)))
  constants (suc (suc i)) g hf hg lf lg same = absurd (omega (arith, (is.reduced (suc (suc i)) (omega arith) hf).level_fits))
  constants f (suc (suc j)) hf hg lf lg same = absurd (omega (arith, (is.reduced (suc (suc j)) (omega arith) hg).level_fits))

  -- two nodes of one level with one function have children with one function
  same_cofactors : (f g : ℕ) (b : Bool) → 2 ≤ f → 2 ≤ g → IsRef d f → IsRef d g → level_of d f ≡ level_of d g → HaveSameMeaning d f g
      → HaveSameMeaning d (if b then (node_at d f).high else (node_at d f).low) (if b then (node_at d g).high else (node_at d g).low)
  same_cofactors f g b tf tg hf hg e same v =
      sym (cofactor f b v tf hf) ∙ same (with_value v (level_of d f) b) ∙ ap (λ l. meaning d g (with_value v l b)) e ∙ cofactor g b v tg hg

  -- equal functions, equal places: by induction on the levels that are left
  equal_places : (n f g : ℕ) → IsRef d f → IsRef d g → d.levels ≤ n + level_of d f → d.levels ≤ n + level_of d g → HaveSameMeaning d f g → f ≡ g
  equal_places zero f g hf hg lf lg same = constants f g hf hg (omega arith) (omega arith) same
  equal_places (suc n) f g hf hg lf lg same =
      elim (cases_order (level_of d f) (level_of d g)) [
        | inl e ↦ elim (cases_lt (level_of d f) d.levels) [
          | inl below ↦
              let tf : 2 ≤ f = no_constant f hf below in
              let tg : 2 ≤ g = no_constant g hg (omega arith) in
              let rf : IsReducedNode d f (node_at d f) = is.reduced f tf hf in
              let rg : IsReducedNode d g (node_at d g) = is.reduced g tg hg in
              let low : (node_at d f).low ≡ (node_at d g).low =
              equal_places n (node_at d f).low (node_at d g).low (omega (arith, rf.low_before)) (omega (arith, rg.low_before)) (omega (arith, rf.low_level)) (omega (arith, rg.low_level))
              (same_cofactors f g false tf tg hf hg e same) in
              let high : (node_at d f).high ≡ (node_at d g).high =
              equal_places n (node_at d f).high (node_at d g).high (omega (arith, rf.high_before)) (omega (arith, rg.high_before)) (omega (arith, rf.high_level)) (omega (arith, rg.high_level))
              (same_cofactors f g true tf tg hf hg e same) in
              is.once f g hf hg (λ i. record { level = e i; low = low i; high = high i })
          | inr above ↦ constants f g hf hg above (omega arith) same
        ]
        | inr o ↦ elim o [
          | inl less ↦ absurd (
              let tf : 2 ≤ f = no_constant f hf (omega (arith, level_most g hg)) in
              let r : IsReducedNode d f (node_at d f) = is.reduced f tf hf in
              r.differ (equal_places n (node_at d f).low (node_at d f).high (omega (arith, r.low_before)) (omega (arith, r.high_before)) (omega (arith, r.low_level)) (omega (arith, r.high_level))
              (same_children f g tf hf hg less same)))
          | inr more ↦ absurd (
              let tg : 2 ≤ g = no_constant g hg (omega (arith, level_most f hf)) in
              let r : IsReducedNode d g (node_at d g) = is.reduced g tg hg in
              r.differ (equal_places n (node_at d g).low (node_at d g).high (omega (arith, r.low_before)) (omega (arith, r.high_before)) (omega (arith, r.low_level)) (omega (arith, r.high_level))
              (same_children g f tg hg hf more (λ v. sym (same v)))))
        ]
      ]

  pub same_place : (f g : ℕ) → IsRef d f → IsRef d g → HaveSameMeaning d f g → f ≡ g
  same_place f g hf hg same = equal_places d.levels f g hf hg (omega arith) (omega arith) same

  pub canonical : IsCanonical d
  canonical f g hf hg = (λ e v. ap (λ k. meaning d k v) e, same_place f g hf hg)
