-- Which of two transitions is to come first.
use Rattle.std.proofs.Common.{◌≡◌, ℕ, ◌<◌, ◌≤◌, true, false, ◌&&◌, [], ◌∷◌, length, refl, sym, ap, ◌∙◌, subst, true≢false, arith, nat_lt, ltb-true, length-append}
use Rattle.std.specs.Cmp.{first_so, second_so}
use Rattle.rsml_syntax.specs.declared.world.Step.{Step}
use Rattle.rsml_meaning.specs.Words.{Path, child_path, is_prefix, is_proper_prefix, same_instance}
use Rattle.rsml_meaning.specs.Transitions.{TransitionInstance}
use Rattle.rsml_meaning.proofs.Prefixes.{prefix_append, prefix_self, prefix_then}
use Rattle.state_tree.proofs.Lists.{not_true}

-- The first is another than the second, whose source is not around its source.
pub record Precedes (u t : TransitionInstance) : Type 0 where
  pub other : u ≡ t → ⊥
  pub outside : is_proper_prefix t.source u.source ≡ false

-- The transition is of the component of this path, from one of its children.
pub record IsOf (p : Path) (t : TransitionInstance) : Type 0 where
  pub in_it : t.component ≡ p
  pub step : Step
  pub from : t.source ≡ child_path p step

lt_of : (a b : ℕ) → nat_lt a b ≡ true → a < b
lt_of a b h = ltb-true a b h

-- in one component no source is around another
pub beside : (p : Path) (u t : TransitionInstance) → IsOf p u → IsOf p t → is_proper_prefix t.source u.source ≡ false
beside p u t a b = not_true (is_proper_prefix t.source u.source) (λ h.
    let short = lt_of (length t.source) (length u.source) (second_so (is_prefix t.source u.source) (nat_lt (length t.source) (length u.source)) h) in
    let m = ap length a.from in
    let n = ap length b.from in
    let lm = length-append p (a.step ∷ []) in
    let ln = length-append p (b.step ∷ []) in
    omega (arith, short, m, n, lm, ln))

-- a prefix of a child's path that is shorter is one of the parent's path
prefix_above : (q p : Path) (x : Step) → is_prefix q (child_path p x) ≡ true → length q ≤ length p → is_prefix q p ≡ true
prefix_above [] p x h l = refl
prefix_above (y ∷ q) [] x h l = absurd (omega (arith, l))
prefix_above (y ∷ q) (z ∷ p) x h l =
    let first = first_so (same_instance y z) (is_prefix q (child_path p x)) h in
    let rest = second_so (same_instance y z) (is_prefix q (child_path p x)) h in
    λ i. first i && prefix_above q p x rest (omega (arith, l)) i

-- of two components where the later one is not around the first
pub across : (c d : Path) (u t : TransitionInstance) → IsOf c u → IsOf d t → is_prefix d c ≡ false → Precedes u t
across c d u t a b off = record {
  other = λ e.
      let same : c ≡ d = sym a.in_it ∙ ap (λ (z : TransitionInstance). z.component) e ∙ b.in_it in
      true≢false (sym (subst (λ z. is_prefix d z ≡ true) (sym same) (prefix_self d)) ∙ off);
  outside = not_true (is_proper_prefix t.source u.source) (λ h.
      let first : is_prefix (child_path d b.step) (child_path c a.step) ≡ true =
      subst (λ z. is_prefix z (child_path c a.step) ≡ true) b.from
      (subst (λ z. is_prefix t.source z ≡ true) a.from (first_so (is_prefix t.source u.source) (nat_lt (length t.source) (length u.source)) h)) in
      let short = lt_of (length t.source) (length u.source) (second_so (is_prefix t.source u.source) (nat_lt (length t.source) (length u.source)) h) in
      let m = ap length a.from in
      let n = ap length b.from in
      let lm = length-append c (a.step ∷ []) in
      let in_c = prefix_above (child_path d b.step) c a.step first (omega (arith, short, m, n, lm)) in
      true≢false (sym (prefix_then d (child_path d b.step) c (prefix_append d (b.step ∷ [])) in_c) ∙ off));
}
