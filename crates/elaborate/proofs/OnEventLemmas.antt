-- Lists of places by number, with one place more.
use Rattle.std.proofs.Common.{◌≡◌, ℕ, zero, suc, ◌+◌, ◌<◌, ◌≤◌, Bool, true, false, List, [], ◌∷◌, ◌++◌, map, take, length, replicate, cond, get_or, Some, slice_get, refl, sym, ap, ◌∙◌, subst, arith, add-zero, zero-add, ◌==◌}
use Rattle.std.proofs.lemmas.Bool.Decides.{nat_tests}
use Rattle.std.proofs.lemmas.List.{append-nil, length-map, length-take-le, map-append, take_more}
use Rattle.ground_groups.specs.Heads.{with_item}
use Rattle.elaborate.specs.OnEvents.{places_of, AreOn}

long_with : (at item : ℕ) (ls : List (List ℕ)) → length (with_item at item ls) ≡ length ls
long_with at item [] = refl
long_with zero item (l ∷ ls) = refl
long_with (suc at) item (l ∷ ls) = ap suc (long_with at item ls)

get_same : (at item : ℕ) (ls : List (List ℕ)) (l : List ℕ) → slice_get ls at ≡ Some l → slice_get (with_item at item ls) at ≡ Some (l ++ (item ∷ []))
get_same at item [] l h = absurd (let no : ⊥ = cc in no)
get_same zero item (m ∷ ls) l h = cc
get_same (suc at) item (m ∷ ls) l h = get_same at item ls l h

get_other : (at n item : ℕ) (ls : List (List ℕ)) → (n ≡ at → ⊥) → slice_get (with_item at item ls) n ≡ slice_get ls n
get_other at n item [] ne = refl
get_other zero zero item (l ∷ ls) ne = absurd (ne refl)
get_other zero (suc n) item (l ∷ ls) ne = refl
get_other (suc at) zero item (l ∷ ls) ne = refl
get_other (suc at) (suc n) item (l ∷ ls) ne = get_other at n item ls (λ e. ne (ap suc e))

-- behind the places of the others stands that of the last, where it is the number
places_more : (n at x : ℕ) (xs : List ℕ) → places_of n at (xs ++ (x ∷ [])) ≡ places_of n at xs ++ cond (x == n) ((at + length xs) ∷ []) []
places_more n at x [] = by (x == n)
  where
    by : (b : Bool) → cond b (at ∷ []) [] ≡ [] ++ cond b ((at + 0) ∷ []) []
    by true = ap (λ k. k ∷ []) (sym (add-zero at))
    by false = refl
places_more n at x (y ∷ ys) = by (y == n) (places_more n (suc at) x ys ∙ ap (λ k. places_of n (suc at) ys ++ cond (x == n) (k ∷ []) []) (omega arith))
  where
    by : (b : Bool) → places_of n (suc at) (ys ++ (x ∷ [])) ≡ places_of n (suc at) ys ++ cond (x == n) ((at + length (y ∷ ys)) ∷ []) []
        → cond b (at ∷ places_of n (suc at) (ys ++ (x ∷ []))) (places_of n (suc at) (ys ++ (x ∷ [])))
        ≡ cond b (at ∷ places_of n (suc at) ys) (places_of n (suc at) ys) ++ cond (x == n) ((at + length (y ∷ ys)) ∷ []) []
    by true h = ap (λ z. at ∷ z) h
    by false h = h

no_lists : (count n : ℕ) → n < count → slice_get (replicate {A = List ℕ} count []) n ≡ Some []
no_lists zero n l = absurd (omega (arith, l))
no_lists (suc count) zero l = refl
no_lists (suc count) (suc n) l = no_lists count n (omega (arith, l))

many_lists : (count : ℕ) → length (replicate {A = List ℕ} count []) ≡ count
many_lists zero = refl
many_lists (suc count) = ap suc (many_lists count)

pub none_on : (count : ℕ) (numbers : List ℕ) (lists : List (List ℕ)) → numbers ≡ [] → lists ≡ replicate count [] → AreOn count numbers lists
none_on count numbers lists e h = record {
  long = ap length h ∙ many_lists count;
  each = λ n l. ap (λ ls. slice_get ls n) h ∙ no_lists count n l ∙ ap (λ xs. Some (places_of n 0 xs)) (sym e);
}

put_on : (count at item : ℕ) (numbers : List ℕ) (lists : List (List ℕ)) → AreOn count numbers lists → at < count → item ≡ length numbers
    → AreOn count (numbers ++ (at ∷ [])) (with_item at item lists)
put_on count at item numbers lists on less last = record {
  long = long_with at item lists ∙ on.long;
  each = each;
}
  where
    each : (n : ℕ) → n < count → slice_get (with_item at item lists) n ≡ Some (places_of n 0 (numbers ++ (at ∷ [])))
    each n l = by (at == n) refl
      where
        by : (b : Bool) → (at == n) ≡ b → slice_get (with_item at item lists) n ≡ Some (places_of n 0 (numbers ++ (at ∷ [])))
        by true e =
            let same : at ≡ n = grind (arith, nat_tests) in
            subst (λ k. slice_get (with_item at item lists) k ≡ Some (places_of n 0 numbers ++ (item ∷ []))) same
            (get_same at item lists (places_of n 0 numbers) (subst (λ k. slice_get lists k ≡ Some (places_of n 0 numbers)) (sym same) (on.each n l)))
            ∙ ap (λ k. Some (places_of n 0 numbers ++ (k ∷ []))) (last ∙ sym (zero-add (length numbers)))
            ∙ ap (λ b. Some (places_of n 0 numbers ++ cond b ((0 + length numbers) ∷ []) [])) (sym e)
            ∙ ap Some (sym (places_more n 0 at numbers))
        by false e =
            get_other at n item lists (λ s. absurd (let no : ⊥ = grind (arith, nat_tests) in no))
            ∙ on.each n l
            ∙ ap (λ z. Some z) (sym (append-nil (places_of n 0 numbers)))
            ∙ ap (λ b. Some (places_of n 0 numbers ++ cond b ((0 + length numbers) ∷ []) [])) (sym e)
            ∙ ap Some (sym (places_more n 0 at numbers))

module _ {A : Type 0} (f : A → ℕ) (xs : List A) where
  -- one more item, put into the list of its number
  pub next_on : (count i place : ℕ) (x d : A) (old new : List (List ℕ)) → i < length xs → x ≡ get_or xs i d → f x < count → place ≡ i
      → AreOn count (map f (take i xs)) old → new ≡ with_item (f x) place old → AreOn count (map f (take (i + 1) xs)) new
  next_on count i place x d old new l e less same on h =
      subst (λ ls. AreOn count (map f (take (i + 1) xs)) ls) (sym h)
      (subst (λ ns. AreOn count ns (with_item (f x) place old)) (sym more)
      (put_on count (f x) place (map f (take i xs)) old on less (same ∙ sym (length-map (take i xs) f ∙ length_take))))
    where
      length_take : length (take i xs) ≡ i
      length_take = length-take-le i xs (omega (arith, l))

      more : map f (take (i + 1) xs) ≡ map f (take i xs) ++ (f x ∷ [])
      more = ap (map f) (take_more xs i d l ∙ ap (λ z. take i xs ++ (z ∷ [])) (sym e)) ∙ map-append f (take i xs) (x ∷ [])
