-- The first breach of the lowest rule: there is one where there is a breach at all.
use Rattle.std.proofs.Common.{◌≡◌, ℕ, ◌<◌, ◌≤◌, min, Bool, true, false, cond, List, [], ◌∷◌, map, Some, None, eqb, refl, sym, ap, ◌∙◌, arith, eq-eqb, eqb-true, ne_eqb}
use Rattle.std.specs.Prelude.{◌↔◌, ◌⊎◌}
use Rattle.std.proofs.Common.{inl, inr}
use Rattle.std.specs.List.{fold}
use Rattle.std.proofs.lemmas.Bool.{cases_lt, cases_eq}
use Rattle.rsml_syntax.specs.rules.Breaches.{Breach, first_breach, IsLowest, lowest}

abbrev rules : List Breach → List ℕ
rules bs = map (λ b. b.rule) bs

-- the least of a number and the rules of breaches
abbrev least_of : ℕ → List Breach → ℕ
least_of n bs = fold min n (rules bs)

skips : (rule : ℕ) (a : Breach) (bs : List Breach) → rule < a.rule → first_breach rule (a ∷ bs) ≡ first_breach rule bs
skips rule a bs h = let e : eqb a.rule rule ≡ false = ne_eqb a.rule rule (λ e. omega (arith, h, e)) in ap (λ t. cond t (Some a) (first_breach rule bs)) e

hits : (rule : ℕ) (a : Breach) (bs : List Breach) → a.rule ≡ rule → first_breach rule (a ∷ bs) ≡ Some a
hits rule a bs h = ap (λ t. cond t (Some a) (first_breach rule bs)) (eq-eqb a.rule rule h)

not_none : (b : Breach) → Some b ≡ None → ⊥
not_none b h = cc

same_some : (a b : Breach) → Some a ≡ Some b → a ≡ b
same_some a b h = cc

-- what is found is of that rule
found_rule : (rule : ℕ) (bs : List Breach) (b : Breach) → first_breach rule bs ≡ Some b → b.rule ≡ rule
found_rule rule [] b h = absurd (not_none b (sym h))
found_rule rule (a ∷ bs) b h = by (eqb a.rule rule) refl h (found_rule rule bs b)
  where
    by : (t : Bool) → eqb a.rule rule ≡ t → cond t (Some a) (first_breach rule bs) ≡ Some b → (first_breach rule bs ≡ Some b → b.rule ≡ rule) → b.rule ≡ rule
    by true e k rest = ap (λ x. x.rule) (sym (same_some a b k)) ∙ eqb-true a.rule rule e
    by false e k rest = rest k

-- A rule has a breach.
abbrev Has : ℕ → List Breach → Type 0
Has rule bs = (b : Breach) × (first_breach rule bs ≡ Some b)

has_more : (rule : ℕ) (a : Breach) (bs : List Breach) → Has rule bs → Has rule (a ∷ bs)
has_more rule a bs h = by (eqb a.rule rule)
  where
    by : (t : Bool) → (b : Breach) × (cond t (Some a) (first_breach rule bs) ≡ Some b)
    by true = (a, refl)
    by false = h

least_within : (n : ℕ) (bs : List Breach) → least_of n bs ≤ n
least_within n [] = omega arith
least_within n (b ∷ bs) = let le = least_within (min n b.rule) bs in omega (arith, le)

-- the least is the number or the rule of one of them
least_has : (n : ℕ) (bs : List Breach) → (least_of n bs ≡ n) ⊎ Has (least_of n bs) bs
least_has n [] = inl refl
least_has n (b ∷ bs) = elim (least_has (min n b.rule) bs) [
  | inl same ↦ elim (cases_lt b.rule n) [
    | inl less ↦ inr (b, hits (least_of n (b ∷ bs)) b bs (omega (arith, same, less)))
    | inr le ↦ inl (omega (arith, same, le))
  ]
  | inr has ↦ inr (has_more (least_of n (b ∷ bs)) b bs has)
]

none_lower : (rule n : ℕ) (bs : List Breach) → rule < least_of n bs → first_breach rule bs ≡ None
none_lower rule n [] h = refl
none_lower rule n (b ∷ bs) h =
    let le = least_within (min n b.rule) bs in
    skips rule b bs (omega (arith, h, le)) ∙ none_lower rule (min n b.rule) bs h

has_least : (a : Breach) (bs : List Breach) → Has (least_of a.rule bs) (a ∷ bs)
has_least a bs = elim (least_has a.rule bs) [
  | inl same ↦ (a, hits (least_of a.rule bs) a bs (sym same))
  | inr has ↦ has_more (least_of a.rule bs) a bs has
]

is_lowest : (bs : List Breach) (b : Breach) → lowest bs ≡ Some b → IsLowest bs b
is_lowest [] b h = absurd (not_none b (sym h))
is_lowest (a ∷ bs) b h =
    let rule = found_rule (least_of a.rule bs) (a ∷ bs) b h in
    let le = least_within a.rule bs in
    record {
      first = ap (λ n. first_breach n (a ∷ bs)) rule ∙ h;
      no_lower = λ n l. skips n a bs (omega (arith, l, le, rule)) ∙ none_lower n a.rule bs (omega (arith, l, rule));
    }

-- two that are lowest are the same
one_lowest : (bs : List Breach) (a b : Breach) → IsLowest bs a → IsLowest bs b → a ≡ b
one_lowest bs a b ha hb =
    elim (cases_lt a.rule b.rule) [
      | inl l ↦ absurd (not_none a (sym ha.first ∙ hb.no_lower a.rule l))
      | inr l ↦ elim (cases_eq a.rule b.rule) [
        | inl e ↦ same_some a b (sym ha.first ∙ ap (λ rule. first_breach rule bs) e ∙ hb.first)
        | inr n ↦ absurd (not_none b (sym hb.first ∙ ha.no_lower b.rule (omega (arith, l, n))))
      ]
    ]

lowest_is : (bs : List Breach) (b : Breach) → IsLowest bs b → lowest bs ≡ Some b
lowest_is [] b h = absurd (not_none b (sym h.first))
lowest_is (a ∷ bs) b h =
    let found = has_least a bs in
    found.1 ∙ ap Some (one_lowest (a ∷ bs) found.0 b (is_lowest (a ∷ bs) found.0 found.1) h)

pub lowest_iff : (bs : List Breach) (b : Breach) → (lowest bs ≡ Some b) ↔ IsLowest bs b
lowest_iff bs b = (is_lowest bs b, lowest_is bs b)

none_is : (bs : List Breach) → lowest bs ≡ None → bs ≡ []
none_is [] h = refl
none_is (a ∷ bs) h = let found = has_least a bs in absurd (not_none found.0 (sym found.1 ∙ h))

pub none_iff : (bs : List Breach) → (lowest bs ≡ None) ↔ (bs ≡ [])
none_iff bs = (none_is bs, λ e. ap lowest e)
