-- The texts of the first so many numbers.
use Rattle.std.proofs.Common.{◌≡◌, ◌≤◌, ℕ, zero, suc, ◌+◌, ◌-◌, List, [], ◌∷◌, ◌++◌, length, Some, slice_get, ◌⊎◌, inl, inr, refl, sym, ap, ◌∙◌, subst, arith, length-append}
use Rattle.std.specs.List.{sum_by}
use Rattle.std.proofs.lemmas.List.Sums.{sum_by_push}
use Rattle.std.proofs.lemmas.Option.{same_Some}

-- what stands in a list with one more item, stands in the list or is the item behind it
behind : {A : Type 0} (xs : List A) (x : A) (k : ℕ) (y : A) → slice_get (xs ++ x ∷ []) k ≡ Some y → (slice_get xs k ≡ Some y) ⊎ ((k ≡ length xs) × (y ≡ x))
behind [] x zero y e = inr (refl, sym (same_Some x y e))
behind [] x (suc k) y e = inl e
behind (z ∷ xs) x zero y e = inl e
behind (z ∷ xs) x (suc k) y e = elim (behind xs x k y e) [ inl l ↦ inl l | inr r ↦ inr (ap suc r.0, r.1) ]

-- these are the texts of the first so many numbers
abbrev pub AreTexts : (ℕ → List ℕ) → List (List ℕ) → Type 0
AreTexts f texts = (k : ℕ) (text : List ℕ) → slice_get texts k ≡ Some text → text ≡ f k

-- the text of the next number behind those before it
one_text_more : (f : ℕ → List ℕ) (texts : List (List ℕ)) (text : List ℕ) → AreTexts f texts → text ≡ f (length texts) → AreTexts f (texts ++ text ∷ [])
one_text_more f texts text are is k x e =
    elim (behind texts text k x e) [ inl l ↦ are k x l | inr r ↦ r.1 ∙ is ∙ ap f (sym r.0) ]

-- the texts of the numbers so far, and how many bytes more there may be, of so many at most
pub record AreFirst (f : ℕ → List ℕ) (most : ℕ) (texts : List (List ℕ)) (count room : ℕ) : Type 0 where
  pub many : length texts ≡ count
  pub are : AreTexts f texts
  pub left : sum_by (λ text. length text) texts + room ≡ most

-- one text more, for which there is room
pub one_first_more : (f : ℕ → List ℕ) (most : ℕ) (texts more : List (List ℕ)) (text : List ℕ) (count room size : ℕ) → AreFirst f most texts count room → more ≡ texts ++ text ∷ []
    → text ≡ f count → size ≡ length text → size ≤ room → AreFirst f most more (count + 1) (room - size)
one_first_more f most texts more text count room size first e is long fits = record {
  many = ap (λ (ts : List (List ℕ)). length ts) e ∙ omega (arith, first.many, length-append texts (text ∷ []));
  are = subst (λ (ts : List (List ℕ)). AreTexts f ts) (sym e) (one_text_more f texts text first.are (is ∙ ap f (sym first.many)));
  left = ap (λ (ts : List (List ℕ)). sum_by (λ t. length t) ts + (room - size)) e
      ∙ omega (arith, first.left, long, fits, sum_by_push (λ (t : List ℕ). length t) texts text);
}
