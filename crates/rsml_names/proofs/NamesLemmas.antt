-- The places of names: what a name that is put last changes.
use Rattle.std.proofs.Common.{◌≡◌, ℕ, ◌+◌, Bool, true, false, cond, List, [], ◌∷◌, ◌++◌, length, Option, Some, None, is_some, refl, sym, ap, ◌∙◌, arith, true≢false, map, Bor, suc, add-one, slice_get, find}
use Rattle.std.specs.Option.{option_map, option_and_then}
use Rattle.rsml_syntax.specs.text.Names.{Name, same, place_of, is_in}
use Rattle.std.specs.List.{position_from}
use Rattle.std.specs.Cmp.Lexicographic.{nat_list_eq_equiv, same_text}

place_last : (t : List ℕ → Bool) (i : ℕ) (xs : List (List ℕ)) (y : List ℕ) →
    position_from t i (xs ++ y ∷ []) ≡ cond (is_some (position_from t i xs)) (position_from t i xs) (cond (t y) (Some (i + length xs)) None)
place_last t i [] y = ap (λ n. cond (t y) (Some n) None) (omega arith)
place_last t i (x ∷ xs) y = by (t x) (place_last t (i + 1) xs y)
  where
    by : (b : Bool) → position_from t (i + 1) (xs ++ y ∷ []) ≡ cond (is_some (position_from t (i + 1) xs)) (position_from t (i + 1) xs) (cond (t y) (Some (i + 1 + length xs)) None) →
        cond b (Some i) (position_from t (i + 1) (xs ++ y ∷ [])) ≡ cond (is_some (cond b (Some i) (position_from t (i + 1) xs))) (cond b (Some i) (position_from t (i + 1) xs)) (cond (t y) (Some (i + length (x ∷ xs))) None)
    by true h = refl
    by false h = h ∙ ap (λ n. cond (is_some (position_from t (i + 1) xs)) (position_from t (i + 1) xs) (cond (t y) (Some n) None)) (omega arith)

-- what stands in a list with another name put last, where a name that is not there and is that name stands last
placed : (xs : List (List ℕ)) (name k : List ℕ) (b c : Bool) → is_some (place_of k xs) ≡ b → same k name ≡ c →
    place_of k (xs ++ name ∷ []) ≡ cond b (place_of k xs) (cond c (Some (length xs)) None)
placed xs name k b c p q =
    place_last (same k) 0 xs name
    ∙ ap (λ d. cond d (place_of k xs) (cond (same k name) (Some (0 + length xs)) None)) p
    ∙ ap (λ d. cond b (place_of k xs) (cond d (Some (0 + length xs)) None)) q
    ∙ ap (λ n. cond b (place_of k xs) (cond c (Some n) None)) (omega arith)

none_of : (o : Option ℕ) → is_some o ≡ false → o ≡ None
none_of None h = refl
none_of (Some x) h = absurd (true≢false h)

pub again_keeps : (xs : List (List ℕ)) (name k : List ℕ) → is_in name xs ≡ true → place_of k xs ≡ place_of k (xs ++ name ∷ [])
again_keeps xs name k h = by (is_some (place_of k xs)) (same k name) refl refl
  where
    by : (b c : Bool) → is_some (place_of k xs) ≡ b → same k name ≡ c → place_of k xs ≡ place_of k (xs ++ name ∷ [])
    by true c p q = sym (placed xs name k true c p q)
    by false false p q = none_of _ p ∙ sym (placed xs name k false false p q)
    by false true p q = absurd (true≢false (sym h ∙ ap (λ (n : List ℕ). is_in n xs) (sym (same_text k name (sym q))) ∙ p))

pub new_adds : (xs : List (List ℕ)) (name k : List ℕ) → is_in name xs ≡ false → cond (same name k) (Some (length xs)) (place_of k xs) ≡ place_of k (xs ++ name ∷ [])
new_adds xs name k h = ap (λ b. cond b (Some (length xs)) (place_of k xs)) (nat_list_eq_equiv.symm name k) ∙ by (is_some (place_of k xs)) (same k name) refl refl
  where
    by : (b c : Bool) → is_some (place_of k xs) ≡ b → same k name ≡ c → cond (same k name) (Some (length xs)) (place_of k xs) ≡ place_of k (xs ++ name ∷ [])
    by true true p q = absurd (true≢false (sym p ∙ ap (λ (n : List ℕ). is_in n xs) (same_text k name (sym q)) ∙ h))
    by true false p q = ap (λ b. cond b (Some (length xs)) (place_of k xs)) q ∙ sym (placed xs name k true false p q)
    by false false p q = ap (λ b. cond b (Some (length xs)) (place_of k xs)) q ∙ none_of _ p ∙ sym (placed xs name k false false p q)
    by false true p q = ap (λ b. cond b (Some (length xs)) (place_of k xs)) q ∙ sym (placed xs name k false true p q)

lent_last : (xs : List (Bor (List ℕ))) (name : Bor (List ℕ)) → map (λ (x : Bor (List ℕ)). x.now) (xs ++ name ∷ []) ≡ map (λ (x : Bor (List ℕ)). x.now) xs ++ name.now ∷ []
lent_last [] name = refl
lent_last (x ∷ xs) name = ap (λ l. x.now ∷ l) (lent_last xs name)

pub lent_many : (xs : List (Bor (List ℕ))) → length (map (λ (x : Bor (List ℕ)). x.now) xs) ≡ length xs
lent_many [] = refl
lent_many (x ∷ xs) = ap suc (lent_many xs)

pub put_new : (xs : List (Bor (List ℕ))) (name : Bor (List ℕ)) (k : List ℕ) (n : ℕ) → n ≡ length xs → is_in name.now (map (λ (x : Bor (List ℕ)). x.now) xs) ≡ false →
    cond (same name.now k) (Some n) (place_of k (map (λ (x : Bor (List ℕ)). x.now) xs)) ≡ place_of k (map (λ (x : Bor (List ℕ)). x.now) (xs ++ name ∷ []))
put_new xs name k n e h =
    ap (λ m. cond (same name.now k) (Some m) (place_of k (map (λ (x : Bor (List ℕ)). x.now) xs))) (e ∙ sym (lent_many xs))
    ∙ new_adds (map (λ (x : Bor (List ℕ)). x.now) xs) name.now k h
    ∙ ap (λ (l : List (List ℕ)). place_of k l) (sym (lent_last xs name))

pub put_again : (xs : List (Bor (List ℕ))) (name : Bor (List ℕ)) (k : List ℕ) → is_in name.now (map (λ (x : Bor (List ℕ)). x.now) xs) ≡ true →
    place_of k (map (λ (x : Bor (List ℕ)). x.now) xs) ≡ place_of k (map (λ (x : Bor (List ℕ)). x.now) (xs ++ name ∷ []))
put_again xs name k h = again_keeps (map (λ (x : Bor (List ℕ)). x.now) xs) name.now k h ∙ ap (λ (l : List (List ℕ)). place_of k l) (sym (lent_last xs name))

-- a list that starts one place later has each name one place later
pub placed_later : (t : Name → Bool) (i : ℕ) (ns : List Name) → position_from t (i + 1) ns ≡ option_map suc (position_from t i ns)
placed_later t i [] = refl
placed_later t i (n ∷ ns) = by (t n) (placed_later t (i + 1) ns)
  where
    by : (b : Bool) → position_from t (i + 1 + 1) ns ≡ option_map suc (position_from t (i + 1) ns) → cond b (Some (i + 1)) (position_from t (i + 1 + 1) ns) ≡ option_map suc (cond b (Some i) (position_from t (i + 1) ns))
    by true h = ap (λ (n : ℕ). Some n) (add-one i)
    by false h = h

-- the first item whose name passes stands at the first place of a name that passes
pub found : {A : Type 0} (f : A → Name) (t : Name → Bool) (xs : List A) → find (λ x. t (f x)) xs ≡ option_and_then (slice_get xs) (position_from t 0 (map f xs))
found f t [] = refl
found f t (x ∷ xs) = by (t (f x)) (found f t xs)
  where
    later : (o : Option ℕ) → option_and_then (slice_get xs) o ≡ option_and_then (slice_get (x ∷ xs)) (option_map suc o)
    later None = refl
    later (Some p) = refl

    by : (b : Bool) → find (λ y. t (f y)) xs ≡ option_and_then (slice_get xs) (position_from t 0 (map f xs)) →
        cond b (Some x) (find (λ y. t (f y)) xs) ≡ option_and_then (slice_get (x ∷ xs)) (cond b (Some 0) (position_from t (0 + 1) (map f xs)))
    by true h = refl
    by false h = h ∙ later (position_from t 0 (map f xs)) ∙ ap (λ (o : Option ℕ). option_and_then (slice_get (x ∷ xs)) o) (sym (placed_later t 0 (map f xs)))

-- what stands at the place of a name is the first item of that name
pub named_first : {A : Type 0} (f : A → Name) (name : Name) (names : List Name) (xs : List A) (place : Option ℕ) → names ≡ map f xs → place_of name names ≡ place →
    option_and_then (slice_get xs) place ≡ find (λ x. same name (f x)) xs
named_first f name names xs place e h =
    ap (λ (o : Option ℕ). option_and_then (slice_get xs) o) (sym h ∙ ap (λ (ns : List Name). place_of name ns) e)
    ∙ sym (found f (same name) xs)
