-- There is one first difference at most.
use Rattle.std.proofs.Common.{◌≡◌, ℕ, ◌<◌, Some, inl, inr, zip, slice_get, IsTrue, sym, ap, ◌∙◌, subst, arith, true≢false}
use Rattle.std.proofs.lemmas.Bool.{cases_lt}
use Rattle.rsml_syntax.specs.declared.syntax.Spec.{Spec}
use Rattle.rsml_meaning.specs.Worlds.{IsWorld}
use Rattle.rsml_meaning.specs.Truth.{view}
use Rattle.rsml_meaning.specs.Groups.{Member, enabled}
use Rattle.rsml_meaning.specs.Findings.{IsLeast}
use Rattle.rsml_meaning.proofs.Order.{least_is_one}
use Rattle.equal_frames.specs.Differences.{all_members, differ, Difference, IsDifference}
use Rattle.equal_frames.specs.Laws.{DifferenceIsOne}

-- where the place of one is before that of the other, nothing differs there
not_before : (s t : Spec) (d e : Difference) → (a : IsDifference s t d) → (b : IsDifference s t e) → a.place < b.place → ⊥
not_before s t d e a b less =
    let such = a.least.such in
    true≢false (sym such.1 ∙ b.before a.place (d.member, a.other) less a.here d.world such.0)

same_place : (s t : Spec) (d e : Difference) → (a : IsDifference s t d) → (b : IsDifference s t e) → a.place ≡ b.place
same_place s t d e a b =
    by_order a.place b.place (not_before s t d e a b) (not_before s t e d b a)
  where
    by_order : (m n : ℕ) → (m < n → ⊥) → (n < m → ⊥) → m ≡ n
    by_order m n f g = elim (cases_lt m n) [ inl l ↦ absurd (f l) | inr u ↦ elim (cases_lt n m) [ inl l ↦ absurd (g l) | inr v ↦ omega (arith, u, v) ] ]

same_some : {A : Type 0} {a b : A} → Some a ≡ Some b → a ≡ b
same_some h = cc

same_pair : (s t : Spec) (d e : Difference) → (a : IsDifference s t d) → (b : IsDifference s t e) → ◌≡◌ {A = Member × Member} (d.member, a.other) (e.member, b.other)
same_pair s t d e a b = same_some (sym a.here ∙ ap (slice_get (zip (all_members s) (all_members t))) (same_place s t d e a b) ∙ b.here)

pub difference_is_one : DifferenceIsOne
difference_is_one s t d e a b =
    let pair = same_pair s t d e a b in
    let least = subst (λ (p : Member × Member). IsLeast (λ w. IsWorld s w × IsTrue (differ s t p w)) d.world) pair a.least in
    let world = least_is_one d.world e.world least b.least in
    let member = ap (λ p. p.0) pair in
    let side = a.side ∙ (λ i. enabled (view s (world i)) (member i)) ∙ sym b.side in
    λ i. record { member = member i; world = world i; first = side i }
