-- Levels that parts take one after another.
use Rattle.std.proofs.Common.{◌≡◌, ℕ, suc, ◌+◌, ◌^◌, ◌<◌, ◌≤◌, eqb, Bool, true, false, if◌then◌else◌, List, [], ◌∷◌, ◌++◌, length, slice_index_or, slice_set, take, refl, sym, ◌∙◌, ap, subst, arith, inl, inr}
use Rattle.std.proofs.lemmas.Bool.Decides.{eqb_tells}
use Rattle.std.proofs.lemmas.List.{get_or-set_same, get_or-set_other, length-set, take_more}
use Rattle.spelled_numbers.specs.declared.slot.Slot.{Slot}
use Rattle.spelled_numbers.specs.declared.slot.Slot.TheVariants.{Part, Free}
use Rattle.spelled_numbers.specs.Spelling.{weights_of}
use Rattle.spelled_numbers.proofs.WeightLemmas.{AreWeights, one_weight}
use Rattle.world_levels.specs.Spelling.{free_from}
use Rattle.world_levels.specs.declared.place.Place.{Place}
use Rattle.world_levels.specs.Order.{frees, free_count}
use Rattle.world_levels.specs.Growing.{Grows}

-- The weights of parts, with one slot more.

itself : (q : ℕ) → eqb q q ≡ true
itself q = elim (eqb_tells q q) [ inl h ↦ h.0 | inr h ↦ absurd (h.1 refl) ]

own : (q w : ℕ) (slots : List Slot) → weights_of q (slots ++ Part q w ∷ []) ≡ weights_of q slots ++ w ∷ []
own q w [] = ap (λ b. if b then w ∷ [] else []) (itself q)
own q w (Part r x ∷ ss) = by (eqb r q) (own q w ss)
  where
    by : (b : Bool) → weights_of q (ss ++ Part q w ∷ []) ≡ weights_of q ss ++ w ∷ []
        → (if b then x ∷ weights_of q (ss ++ Part q w ∷ []) else weights_of q (ss ++ Part q w ∷ [])) ≡ (if b then x ∷ weights_of q ss else weights_of q ss) ++ w ∷ []
    by true e = ap (λ z. x ∷ z) e
    by false e = e
own q w (Free ∷ ss) = own q w ss

apart : (p q w : ℕ) (slots : List Slot) → eqb q p ≡ false → weights_of p (slots ++ Part q w ∷ []) ≡ weights_of p slots
apart p q w [] h = ap (λ b. if b then w ∷ [] else []) h
apart p q w (Part r x ∷ ss) h = ap (λ ws. if eqb r p then x ∷ ws else ws) (apart p q w ss h)
apart p q w (Free ∷ ss) h = apart p q w ss h

free_weighs_nothing : (p : ℕ) (slots : List Slot) → weights_of p (slots ++ Free ∷ []) ≡ weights_of p slots
free_weighs_nothing p [] = refl
free_weighs_nothing p (Part r x ∷ ss) = ap (λ ws. if eqb r p then x ∷ ws else ws) (free_weighs_nothing p ss)
free_weighs_nothing p (Free ∷ ss) = free_weighs_nothing p ss

no_free : (q w k : ℕ) (slots : List Slot) → length (free_from (slots ++ Part q w ∷ []) k) ≡ length (free_from slots k)
no_free q w k [] = refl
no_free q w k (Part r x ∷ ss) = no_free q w (suc k) ss
no_free q w k (Free ∷ ss) = ap suc (no_free q w (suc k) ss)

one_free : (k : ℕ) (slots : List Slot) → length (free_from (slots ++ Free ∷ []) k) ≡ suc (length (free_from slots k))
one_free k [] = refl
one_free k (Part r x ∷ ss) = one_free (suc k) ss
one_free k (Free ∷ ss) = ap suc (one_free (suc k) ss)

-- Steps.

pub same : (slots : List Slot) (left : List ℕ) → Grows 0 slots slots left left
same slots left = record {
  growing = λ spans g. g;
  free = omega arith;
  parts = refl;
  less = λ p. omega arith;
}

pub after : (m n : ℕ) (a b c : List Slot) (x y z : List ℕ) → Grows m a b x y → Grows n b c y z → Grows (m + n) a c x z
after m n a b c x y z g h = record {
  growing = λ spans i. h.growing spans (g.growing spans i);
  free = omega (arith, g.free, h.free);
  parts = h.parts ∙ g.parts;
  less = λ p. omega (arith, g.less p, h.less p);
}

pub after_none : (m : ℕ) (a b c : List Slot) (x y z : List ℕ) → Grows m a b x y → Grows 0 b c y z → Grows m a c x z
after_none m a b c x y z g h = record {
  growing = λ spans i. h.growing spans (g.growing spans i);
  free = omega (arith, g.free, h.free);
  parts = h.parts ∙ g.parts;
  less = λ p. omega (arith, g.less p, h.less p);
}

pub free_more : (slots more : List Slot) (left : List ℕ) → more ≡ slots ++ Free ∷ [] → length more ≤ 2 ^ 31 → Grows 1 slots more left left
free_more slots more left e few = record {
  growing = λ spans g. record {
    each = λ p. subst (AreWeights (spans p) (slice_index_or left p 0)) (sym (ap (weights_of p) e ∙ free_weighs_nothing p slots)) (g.each p);
    few = few;
  };
  free = ap (λ ss. length (free_from ss 0)) e ∙ one_free 0 slots ∙ omega arith;
  parts = refl;
  less = λ p. omega arith;
}

-- what a part lacks after a level
lacks_less : (left : List ℕ) (part n : ℕ) → part < length left → n ≤ slice_index_or left part 0 → (p : ℕ) → slice_index_or (slice_set left part n) p 0 ≤ slice_index_or left p 0
lacks_less left part n less fewer p = elim (eqb_tells part p) [
  | inl h ↦ subst (λ q. slice_index_or (slice_set left part n) q 0 ≤ slice_index_or left q 0) h.1
      (omega (arith, fewer, get_or-set_same left part n 0 less))
  | inr h ↦ omega (arith, get_or-set_other left part p n 0 (λ e. h.1 (sym e)))
]

part_more : (spans : ℕ → ℕ) (slots : List Slot) (left : List ℕ) (part w n : ℕ) → part < length left → n + w ≡ slice_index_or left part 0 → w ≤ n + 1
    → ((p : ℕ) → AreWeights (spans p) (slice_index_or left p 0) (weights_of p slots))
    → (p : ℕ) → AreWeights (spans p) (slice_index_or (slice_set left part n) p 0) (weights_of p (slots ++ Part part w ∷ []))
part_more spans slots left part w n less is fits each p = elim (eqb_tells part p) [
  | inl h ↦ subst (λ q. AreWeights (spans q) (slice_index_or (slice_set left part n) q 0) (weights_of q (slots ++ Part part w ∷ []))) h.1
      (subst (λ m. AreWeights (spans part) m (weights_of part (slots ++ Part part w ∷ []))) (sym (get_or-set_same left part n 0 less))
      (subst (AreWeights (spans part) n) (sym (own part w slots))
      (one_weight (spans part) n (slice_index_or left part 0) w (weights_of part slots) (each part) (omega (arith, is)) fits)))
  | inr h ↦ subst (λ m. AreWeights (spans p) m (weights_of p (slots ++ Part part w ∷ []))) (sym (get_or-set_other left part p n 0 (λ e. h.1 (sym e))))
      (subst (AreWeights (spans p) (slice_index_or left p 0)) (sym (apart p part w slots h.0)) (each p))
]

pub given : (slots more : List Slot) (left rest : List ℕ) (part w n : ℕ) → part < length left → n + w ≡ slice_index_or left part 0 → w ≤ n + 1
    → more ≡ slots ++ Part part w ∷ [] → length more ≤ 2 ^ 31 → rest ≡ slice_set left part n → Grows 0 slots more left rest
given slots more left rest part w n less is fits e few r = record {
  growing = λ spans g. record {
    each = λ p. subst (λ ss. AreWeights (spans p) (slice_index_or rest p 0) (weights_of p ss)) (sym e)
        (subst (λ ns. AreWeights (spans p) (slice_index_or ns p 0) (weights_of p (slots ++ Part part w ∷ []))) (sym r)
        (part_more spans slots left part w n less is fits g.each p));
    few = few;
  };
  free = ap (λ ss. length (free_from ss 0)) e ∙ no_free part w 0 slots ∙ omega arith;
  parts = ap length r ∙ length-set left part n;
  less = λ p. subst (λ ns. slice_index_or ns p 0 ≤ slice_index_or left p 0) (sym r) (lacks_less left part n less (omega (arith, is)) p);
}

-- Orders.

count_with : (ps : List Place) (p : Place) → free_count (ps ++ p ∷ []) ≡ free_count ps + frees p
count_with [] p = omega arith
count_with (q ∷ ps) p = omega (arith, count_with ps p)

pub count_more : (ps : List Place) (k : ℕ) (p : Place) → k < length ps → p ≡ slice_index_or ps k p → free_count (take (k + 1) ps) ≡ free_count (take k ps) + frees p
count_more ps k p less is =
    ap free_count (take_more ps k p less ∙ ap (λ q. take k ps ++ q ∷ []) (sym is)) ∙ count_with (take k ps) p

-- one part more lacks nothing
pub none_more : (left rest : List ℕ) (k : ℕ) → ((p : ℕ) → p < k → slice_index_or left p 0 ≡ 0) → ((p : ℕ) → slice_index_or rest p 0 ≤ slice_index_or left p 0) → slice_index_or rest k 0 ≡ 0
    → (p : ℕ) → p < k + 1 → slice_index_or rest p 0 ≡ 0
none_more left rest k before less here p below = elim (eqb_tells p k) [
  | inl h ↦ ap (λ q. slice_index_or rest q 0) h.1 ∙ here
  | inr h ↦ let earlier : p < k = omega (arith, below, h.1) in let e = before p earlier in let l = less p in omega (arith, e, l)
]
