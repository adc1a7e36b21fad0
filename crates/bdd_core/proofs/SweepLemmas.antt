-- The steps of a sweep that counts the places that f reaches.
use Rattle.std.proofs.Common.{◌≡◌, ◌≢◌, ℕ, zero, suc, ◌+◌, ◌<◌, ◌≤◌, Bool, true, false, List, [], ◌∷◌, length, get_or, set, refl, sym, ap, subst, ◌∙◌, arith, ◌⊎◌, inl, inr, eqb, Contains, true≢false, get_or-set_other}
use Rattle.std.proofs.lemmas.Bool.{cases_eq}
use Rattle.std.proofs.lemmas.Bool.Decides.{eqb_tells}
use Rattle.std.proofs.lemmas.Grind.{get_or-set_at}
use Rattle.std.proofs.lemmas.Map.Keys.{IsDistinct-cons}
use Rattle.std.specs.List.{IsDistinct, AllByRecursion}
use Rattle.bdd_core.specs.Diagram.{Diagram, IsRef, node_at, IsReduced}
use Rattle.bdd_core.specs.Reach.{Reaches, IsSize}
use Rattle.bdd_core.specs.Reach.Reaches.{here, by_low, by_high}
use Rattle.bdd_core.specs.Steps.{IsChild}
use Rattle.bdd_core.specs.Sweep.{Swept}
use Rattle.bdd_core.proofs.ReachLemmas.{reached_most, reach_trans, reach_last}

-- a fact of each element
all_from : (P : ℕ → Type 0) (xs : List ℕ) → ((k : ℕ) → Contains xs k → P k) → AllByRecursion P xs
all_from P [] h = tt
all_from P (x ∷ xs) h = (h x (0, omega arith, refl), all_from P xs (λ k c. h k (suc c.0, omega arith, c.2)))

-- a mark that is set stays when another is set
set_keeps : (xs : List Bool) (i k : ℕ) → i < length xs → get_or xs k false ≡ true → get_or (set xs i true) k false ≡ true
set_keeps xs i k h t = elim (cases_eq k i) [ inl e ↦ get_or-set_at xs i k true false e h | inr ne ↦ get_or-set_other xs i k true false ne ∙ t ]

-- a mark is the new one or an old one
set_tells : (xs : List Bool) (i k : ℕ) (b : Bool) → i < length xs → get_or (set xs i b) k false ≡ true → ((k ≡ i) × (b ≡ true)) ⊎ ((k ≢ i) × (get_or xs k false ≡ true))
set_tells xs i k b h t = elim (cases_eq k i) [ inl e ↦ inl (e, sym (get_or-set_at xs i k b false e h) ∙ t) | inr ne ↦ inr (ne, sym (get_or-set_other xs i k b false ne) ∙ t) ]

no_place : (k : ℕ) → Contains [] k → ⊥
no_place k c = omega (arith, c.1)

pub swept-start : (d : Diagram) → IsReduced d → (f : ℕ) (seen : List Bool) → IsRef d f → f < length seen → ((k : ℕ) → get_or seen k false ≡ false) → Swept d f (f + 1) (set seen f true) 0
unfolding IsDistinct
swept-start d is f seen fits h none = record {
  places = [];
  counted = refl;
  above = λ k more r. absurd (omega (arith, reached_most d is f k fits r));
  only = λ k c. absurd (no_place k c);
  distinct = tt;
  start = λ _. get_or-set_at seen f f true false refl h;
  lows = λ p more r _ _. absurd (omega (arith, reached_most d is f p fits r));
  highs = λ p more r _ _. absurd (omega (arith, reached_most d is f p fits r));
  marked = λ k t. elim (set_tells seen f k true h t) [
    | inl e ↦ (omega (arith, e.0), subst (Reaches d f) (sym e.0) (here f))
    | inr o ↦ absurd (true≢false (sym o.1 ∙ none k))
  ];
  few = omega arith;
}

module _ (d : Diagram) (f at : ℕ) (seen : List Bool) (count : ℕ) (is : IsReduced d) (fits : IsRef d f) (s : Swept d f (suc at) seen count) where
  -- a place that f reaches next is marked
  pub reached_marked : Reaches d f at → get_or seen at false ≡ true
  reached_marked r = elim (reach_last d is f at fits r) [
    | inl e ↦ subst (λ k. get_or seen k false ≡ true) e (s.start (omega (arith, e)))
    | inr q ↦
        let two : 2 ≤ q.0 = q.2.two in
        elim q.2.which [
          | inl e ↦ subst (λ k. get_or seen k false ≡ true) e (s.lows q.0 (omega (arith, q.2.below)) q.1 two (omega (arith, e)))
          | inr e ↦ subst (λ k. get_or seen k false ≡ true) e (s.highs q.0 (omega (arith, q.2.below)) q.1 two (omega (arith, e)))
        ]
  ]

  -- what lies above stays when the sweep goes on to a place that is not reached
  pub swept-skip : get_or seen at false ≡ false → Swept d f at seen count
  swept-skip unset =
      let not_reached : Reaches d f at → ⊥ = λ r. true≢false (sym (reached_marked r) ∙ unset) in
      record {
        places = s.places;
        counted = s.counted;
        above = λ k from r. elim (cases_eq k at) [ inl e ↦ absurd (not_reached (subst (Reaches d f) e r)) | inr ne ↦ s.above k (omega arith) r ];
        only = λ k c. (let more : suc at ≤ k = (s.only k c).0 in omega arith, (s.only k c).1);
        distinct = s.distinct;
        start = λ h. s.start (omega arith);
        lows = λ p from r two h. elim (cases_eq p at) [ inl e ↦ absurd (not_reached (subst (Reaches d f) e r)) | inr ne ↦ s.lows p (omega arith) r two (omega arith) ];
        highs = λ p from r two h. elim (cases_eq p at) [ inl e ↦ absurd (not_reached (subst (Reaches d f) e r)) | inr ne ↦ s.highs p (omega arith) r two (omega arith) ];
        marked = λ k t. elim (cases_eq k at) [
          | inl e ↦ absurd (true≢false (sym t ∙ ap (λ k. get_or seen k false) e ∙ unset))
          | inr ne ↦ (let less : k < suc at = (s.marked k t).0 in omega arith, (s.marked k t).1)
        ];
        few = omega (arith, s.few);
      }

  -- the place is counted, where its children below are marked
  pub swept-count : (now : List Bool) → get_or seen at false ≡ true
      → ((k : ℕ) → k ≢ at → get_or seen k false ≡ true → get_or now k false ≡ true)
      → (2 ≤ at → (node_at d at).low < at → get_or now (node_at d at).low false ≡ true)
      → (2 ≤ at → (node_at d at).high < at → get_or now (node_at d at).high false ≡ true)
      → ((k : ℕ) → get_or now k false ≡ true → ((k ≢ at) × (get_or seen k false ≡ true)) ⊎ (IsChild d at k))
      → Swept d f at now (count + 1)
  unfolding IsDistinct
  swept-count now set_here stay low high tells =
      let reached : Reaches d f at = (s.marked at set_here).1 in
      record {
        places = at ∷ s.places;
        counted = omega (arith, s.counted);
        above = λ k from r. elim (cases_eq k at) [
          | inl e ↦ (0, omega arith, sym e)
          | inr ne ↦ let c = s.above k (omega arith) r in (suc c.0, omega (arith, c.1), c.2)
        ];
        only = λ k c. in_cons k c;
        distinct = IsDistinct-cons eqb at s.places (all_from (λ y. eqb at y ≡ false) s.places (λ k c. elim (eqb_tells at k) [ inl e ↦ absurd (let same : at ≡ k = e.1 in let more : suc at ≤ k = (s.only k c).0 in omega arith) | inr e ↦ e.0 ])) s.distinct;
        start = λ h. stay f (omega arith) (s.start (omega arith));
        lows = λ p from r two h. elim (cases_eq p at) [
          | inl e ↦ subst (λ a. 2 ≤ a → (node_at d a).low < at → get_or now (node_at d a).low false ≡ true) (sym e) low two h
          | inr ne ↦ stay (node_at d p).low (omega arith) (s.lows p (omega arith) r two (omega arith))
        ];
        highs = λ p from r two h. elim (cases_eq p at) [
          | inl e ↦ subst (λ a. 2 ≤ a → (node_at d a).high < at → get_or now (node_at d a).high false ≡ true) (sym e) high two h
          | inr ne ↦ stay (node_at d p).high (omega arith) (s.highs p (omega arith) r two (omega arith))
        ];
        marked = λ k t. elim (tells k t) [
          | inl o ↦ (let ne : k ≢ at = o.0 in let less : k < suc at = (s.marked k o.1).0 in omega arith, (s.marked k o.1).1)
          | inr c ↦ (c.below, child_reached k c)
        ];
        few = omega (arith, s.few);
      }
    where
      in_cons : (k : ℕ) → Contains (at ∷ s.places) k → (at ≤ k) × Reaches d f k
      in_cons k (zero, h, e) = (omega (arith, e), subst (Reaches d f) e (s.marked at set_here).1)
      in_cons k (suc i, h, e) = let o = s.only k (i, omega arith, e) in (let more : suc at ≤ k = o.0 in omega arith, o.1)

      child_reached : (k : ℕ) → IsChild d at k → Reaches d f k
      child_reached k c = reach_trans d f at k (s.marked at set_here).1 (elim c.which [
        | inl e ↦ by_low at k c.two (subst (λ x. Reaches d x k) (sym e) (here k))
        | inr e ↦ by_high at k c.two (subst (λ x. Reaches d x k) (sym e) (here k))
      ])

-- at the end all are counted
pub swept-end : (d : Diagram) (f : ℕ) (seen : List Bool) (count : ℕ) → Swept d f 0 seen count → IsSize d f count × ((k : ℕ) → get_or seen k false ≡ false)
swept-end d f seen count s = (
  record { places = s.places; count = s.counted; all = λ k r. s.above k (omega arith) r; only = λ k c. (s.only k c).1; distinct = s.distinct },
  λ k. unmarked k (get_or seen k false) refl,
)
  where
    unmarked : (k : ℕ) (b : Bool) → get_or seen k false ≡ b → get_or seen k false ≡ false
    unmarked k true e = absurd (let below : k < 0 = (s.marked k e).0 in omega arith)
    unmarked k false e = e
