-- Lists by places, and values that give way to others where they are not read.
use Rattle.std.proofs.Common.{◌≡◌, ◌⊎◌, inl, inr, ◌∙◌, ℕ, zero, suc, ◌≤◌, ◌<◌, Bool, true, false, if◌then◌else◌, List, [], ◌∷◌, ◌++◌, length, map, take, drop, Some, slice_get, slice_index_or, refl, sym, ap, subst, true≢false, arith}
use Rattle.std.specs.Cmp.{first_so, second_so}
use Rattle.std.specs.Cmp.Lexicographic.{pointwise}
use Rattle.std.proofs.lemmas.Bool.{and_from}
use Rattle.std.proofs.lemmas.Option.{same_Some}
use Rattle.world_columns.specs.Columns.{passes_from}
use Rattle.world_columns.proofs.Passing.{later}
use Rattle.group_verdicts.specs.Narrowing.{lowered}

pub get_index : {A : Type 0} (xs : List A) (k : ℕ) (d : A) → k < length xs → slice_get xs k ≡ Some (slice_index_or xs k d)
get_index [] k d less = absurd (omega (arith, less))
get_index (x ∷ xs) zero d less = refl
get_index (x ∷ xs) (suc k) d less = get_index xs k d (omega (arith, less))

pub index_of : {A : Type 0} (xs : List A) (k : ℕ) (x d : A) → slice_get xs k ≡ Some x → slice_index_or xs k d ≡ x
index_of [] k x d at = absurd (let no : ⊥ = cc in no)
index_of (y ∷ xs) zero x d at = same_Some y x at
index_of (y ∷ xs) (suc k) x d at = index_of xs k x d at

-- An item of a list with one more is the new one, or one of the others.
pub record IsBefore {A : Type 0} (xs : List A) (x y : A) (k : ℕ) : Type 0 where
  pub at : slice_get xs k ≡ Some y
  pub first : take k (xs ++ x ∷ []) ≡ take k xs

pub record IsLast {A : Type 0} (xs : List A) (x y : A) (k : ℕ) : Type 0 where
  pub place : k ≡ length xs
  pub item : x ≡ y
  pub first : take k (xs ++ x ∷ []) ≡ xs

pub before_or_last : {A : Type 0} (xs : List A) (x y : A) (k : ℕ) → slice_get (xs ++ x ∷ []) k ≡ Some y → IsBefore xs x y k ⊎ IsLast xs x y k
before_or_last [] x y zero at = inr (record { place = refl; item = same_Some x y at; first = refl })
before_or_last [] x y (suc k) at = absurd (let no : ⊥ = cc in no)
before_or_last (z ∷ xs) x y zero at = inl (record { at = at; first = refl })
before_or_last (z ∷ xs) x y (suc k) at =
    elim (before_or_last xs x y k at) [
      | inl h ↦ inl (record { at = h.at; first = ap (λ ys. z ∷ ys) h.first })
      | inr h ↦ inr (record { place = ap suc h.place; item = h.item; first = ap (λ ys. z ∷ ys) h.first })
    ]

-- Items of one list first, and then values of another.

pub first_pass : {A B : Type 0} (t : A → B → Bool) (f : B → A) (d : B) (first : List A) (ws vs : List B) → length first ≤ length ws
    → pointwise t (first ++ drop (length first) (map f ws)) vs ≡ true → passes_from t d 0 first vs ≡ true
first_pass t f d [] ws vs less h = refl
first_pass t f d (a ∷ first) [] vs less h = absurd (omega (arith, less))
first_pass t f d (a ∷ first) (w ∷ ws) [] less h = absurd (true≢false (sym h))
first_pass t f d (a ∷ first) (w ∷ ws) (v ∷ vs) less h =
    let rest = pointwise t (first ++ drop (length first) (map f ws)) vs in
    and_from (passes_from t d 1 first (v ∷ vs)) (t a v)
    (later t d 0 first v vs ∙ first_pass t f d first ws vs (omega (arith, less)) (second_so (t a v) rest h)) (first_so (t a v) rest h)

pub rest_as : {A B : Type 0} (t : A → B → Bool) (f : B → A) (d : B) → ((a b : B) → t (f a) b ≡ true → b ≡ a)
    → (first : List A) (ws vs : List B) → length first ≤ length ws → pointwise t (first ++ drop (length first) (map f ws)) vs ≡ true
    → (k : ℕ) → length first ≤ k → k < length ws → slice_index_or vs k d ≡ slice_index_or ws k d
rest_as t f d same [] [] vs less h k from within = absurd (omega (arith, within))
rest_as t f d same [] (w ∷ ws) [] less h k from within = absurd (true≢false (sym h))
rest_as t f d same [] (w ∷ ws) (v ∷ vs) less h zero from within = same w v (first_so (t (f w) v) (pointwise t (map f ws) vs) h)
rest_as t f d same [] (w ∷ ws) (v ∷ vs) less h (suc k) from within =
    rest_as t f d same [] ws vs (omega arith) (second_so (t (f w) v) (pointwise t (map f ws) vs) h) k (omega arith) (omega (arith, within))
rest_as t f d same (a ∷ first) [] vs less h k from within = absurd (omega (arith, less))
rest_as t f d same (a ∷ first) (w ∷ ws) [] less h k from within = absurd (true≢false (sym h))
rest_as t f d same (a ∷ first) (w ∷ ws) (v ∷ vs) less h zero from within = absurd (omega (arith, from))
rest_as t f d same (a ∷ first) (w ∷ ws) (v ∷ vs) less h (suc k) from within =
    rest_as t f d same first ws vs (omega (arith, less)) (second_so (t a v) (pointwise t (first ++ drop (length first) (map f ws)) vs) h) k
    (omega (arith, from)) (omega (arith, within))

-- Marks, where the first parts count as read.

abbrev pub skipping : {A : Type 0} → List A → List Bool → List Bool
skipping [] marks = marks
skipping (a ∷ first) [] = []
skipping (a ∷ first) (m ∷ marks) = true ∷ skipping first marks

skip_none : {A : Type 0} (first : List A) → skipping first [] ≡ []
skip_none [] = refl
skip_none (a ∷ first) = refl

pub still_unread : {A : Type 0} (first : List A) (marks : List Bool) (k : ℕ) → slice_get (skipping first marks) k ≡ Some false → slice_get marks k ≡ Some false
still_unread [] marks k at = at
still_unread (a ∷ first) [] k at = at
still_unread (a ∷ first) (m ∷ marks) zero at = absurd (true≢false (same_Some true false at))
still_unread (a ∷ first) (m ∷ marks) (suc k) at = still_unread first marks k at

-- Values that give way.

pub lowered_fits : {A B : Type 0} (t : A → B → Bool) (marks : List Bool) (xs : List A) (ws vs : List B) → pointwise t xs ws ≡ true → pointwise t xs vs ≡ true
    → pointwise t xs (lowered marks ws vs) ≡ true
lowered_fits t [] xs ws vs g h = h
lowered_fits t (m ∷ marks) xs [] vs g h = h
lowered_fits t (m ∷ marks) xs (w ∷ ws) [] g h = h
lowered_fits t (m ∷ marks) [] (w ∷ ws) (v ∷ vs) g h = absurd (true≢false (sym h))
lowered_fits t (m ∷ marks) (x ∷ xs) (w ∷ ws) (v ∷ vs) g h =
    and_from (t x (if m then v else w)) (pointwise t xs (lowered marks ws vs)) (here m)
    (lowered_fits t marks xs ws vs (second_so (t x w) (pointwise t xs ws) g) (second_so (t x v) (pointwise t xs vs) h))
  where
    here : (b : Bool) → t x (if b then v else w) ≡ true
    here true = first_so (t x v) (pointwise t xs vs) h
    here false = first_so (t x w) (pointwise t xs ws) g

-- values as they are in a list, where they are read
abbrev AsRead : {B : Type 0} → List Bool → B → ℕ → List B → List B → Type 0
AsRead marks d from ws vs = (k : ℕ) → from ≤ k → k < length ws → slice_index_or marks k true ≡ true → slice_index_or vs k d ≡ slice_index_or ws k d

one_down : {B : Type 0} (m : Bool) (marks : List Bool) (d : B) (from : ℕ) (w v : B) (ws vs : List B) → AsRead (m ∷ marks) d (suc from) (w ∷ ws) (v ∷ vs) → AsRead marks d from ws vs
one_down m marks d from w v ws vs alike k less within is = alike (suc k) (omega (arith, less)) (omega (arith, within)) is

none_down : {B : Type 0} (d : B) (from : ℕ) (w v : B) (ws vs : List B) → AsRead [] d (suc from) (w ∷ ws) (v ∷ vs) → AsRead [] d from ws vs
none_down d from w v ws vs alike k less within is = alike (suc k) (omega (arith, less)) (omega (arith, within)) refl

rest_lowered : {A B : Type 0} (t : A → B → Bool) (f : B → A) (d : B) → ((b : B) → t (f b) b ≡ true) → (marks : List Bool) (ws vs : List B) → length vs ≡ length ws
    → AsRead marks d 0 ws vs → pointwise t (map f ws) (lowered marks ws vs) ≡ true
rest_lowered t f d itself [] [] [] many alike = refl
rest_lowered t f d itself (m ∷ marks) [] [] many alike = refl
rest_lowered t f d itself [] [] (v ∷ vs) many alike = absurd (omega (arith, many))
rest_lowered t f d itself (m ∷ marks) [] (v ∷ vs) many alike = absurd (omega (arith, many))
rest_lowered t f d itself [] (w ∷ ws) [] many alike = absurd (omega (arith, many))
rest_lowered t f d itself (m ∷ marks) (w ∷ ws) [] many alike = absurd (omega (arith, many))
rest_lowered t f d itself [] (w ∷ ws) (v ∷ vs) many alike =
    and_from (t (f w) v) (pointwise t (map f ws) vs) (ap (t (f w)) (alike 0 (omega arith) (omega arith) refl) ∙ itself w)
    (rest_lowered t f d itself [] ws vs (omega (arith, many)) (λ k less within is. alike (suc k) (omega arith) (omega (arith, within)) refl))
rest_lowered {A} {B} t f d itself (m ∷ marks) (w ∷ ws) (v ∷ vs) many alike =
    and_from (t (f w) (if m then v else w)) (pointwise t (map f ws) (lowered marks ws vs)) (here m refl)
    (rest_lowered t f d itself marks ws vs (omega (arith, many)) (λ k less within is. alike (suc k) (omega arith) (omega (arith, within)) is))
  where
    here : (b : Bool) → m ≡ b → t (f w) (if b then v else w) ≡ true
    here true e = ap (t (f w)) (alike 0 (omega arith) (omega arith) e) ∙ itself w
    here false e = itself w

-- the first items pass, and then the values are those of the list where they are not read
pub lowered_as : {A B : Type 0} (t : A → B → Bool) (f : B → A) (d : B) → ((b : B) → t (f b) b ≡ true) → (first : List A) (marks : List Bool) (ws vs : List B)
    → length vs ≡ length ws → length first ≤ length ws → passes_from t d 0 first vs ≡ true → AsRead marks d (length first) ws vs
    → pointwise t (first ++ drop (length first) (map f ws)) (lowered (skipping first marks) ws vs) ≡ true
lowered_as t f d itself [] marks ws vs many less pass alike = rest_lowered t f d itself marks ws vs many alike
lowered_as t f d itself (a ∷ first) marks [] vs many less pass alike = absurd (omega (arith, less))
lowered_as t f d itself (a ∷ first) marks (w ∷ ws) [] many less pass alike = absurd (omega (arith, many))
lowered_as t f d itself (a ∷ first) [] (w ∷ ws) (v ∷ vs) many less pass alike =
    and_from (t a v) (pointwise t (first ++ drop (length first) (map f ws)) vs) (second_so (passes_from t d 1 first (v ∷ vs)) (t a v) pass)
    (subst (λ marks. pointwise t (first ++ drop (length first) (map f ws)) (lowered marks ws vs) ≡ true) (skip_none first)
    (lowered_as t f d itself first [] ws vs (omega (arith, many)) (omega (arith, less))
    (sym (later t d 0 first v vs) ∙ first_so (passes_from t d 1 first (v ∷ vs)) (t a v) pass) (none_down d (length first) w v ws vs alike)))
lowered_as t f d itself (a ∷ first) (m ∷ marks) (w ∷ ws) (v ∷ vs) many less pass alike =
    and_from (t a v) (pointwise t (first ++ drop (length first) (map f ws)) (lowered (skipping first marks) ws vs))
    (second_so (passes_from t d 1 first (v ∷ vs)) (t a v) pass)
    (lowered_as t f d itself first marks ws vs (omega (arith, many)) (omega (arith, less))
    (sym (later t d 0 first v vs) ∙ first_so (passes_from t d 1 first (v ∷ vs)) (t a v) pass) (one_down m marks d (length first) w v ws vs alike))
