-- A macro or a function that is used without a breach was declared before.
use Rattle.std.proofs.Common.{◌≡◌, ℕ, zero, suc, ◌+◌, ◌<◌, Bool, true, false, cond, List, [], ◌∷◌, ◌++◌, length, flat_map, is_some, Some, None, ⊎_elim, refl, sym, ap, ◌∙◌, subst, arith, ltb-true, slice_get, true≢false}
use Rattle.std.specs.List.{position_from}
use Rattle.std.proofs.lemmas.Grind.{flat_map-append}
use Rattle.rsml_syntax.specs.declared.syntax.Spec.{Spec}
use Rattle.rsml_syntax.specs.declared.syntax.Decl.{Decl}
use Rattle.rsml_syntax.specs.declared.want.Want.{Want}
use Rattle.rsml_syntax.specs.text.Names.{Name, same, place_of, is_in}
use Rattle.rsml_syntax.specs.rules.Globals.{Known, name_of, names_of, known_by}
use Rattle.rsml_syntax.specs.rules.Scopes.{Scope}
use Rattle.rsml_syntax.specs.rules.Uses.{is_definition, used, fits}
use Rattle.rsml_syntax.specs.rules.Rules.{name_tables}
use Rattle.rsml_meaning.specs.Words.{IsOne}
use Rattle.rsml_meaning.proofs.Same.{name_same}
use Rattle.rsml_meaning.proofs.Globals.{Means, all_known, beside, position_from_on}
use Rattle.rsml_syntax.proofs.Clean.{names_in}
use Rattle.rsml_meaning.proofs.rules.Declared.{as_long}
use Rattle.rsml_meaning.proofs.rules.Mentions.{used_is}

-- Places in two lists put together.

front_place : {A : Type 0} (t : A → Bool) (i p : ℕ) (xs ys : List A) → position_from t i (xs ++ ys) ≡ Some (i + p) → p < length xs → position_from t i xs ≡ Some (i + p)
front_place t i p [] ys h l = absurd (omega (arith, l))
front_place {A} t i p (x ∷ xs) ys h l = by_test (t x) p h l (λ q. front_place t (i + 1) q xs ys)
  where
    by_test : (b : Bool) (p : ℕ) → cond b (Some i) (position_from t (i + 1) (xs ++ ys)) ≡ Some (i + p) → p < suc (length xs)
        → ((q : ℕ) → position_from t (i + 1) (xs ++ ys) ≡ Some (i + 1 + q) → q < length xs → position_from t (i + 1) xs ≡ Some (i + 1 + q)) → cond b (Some i) (position_from t (i + 1) xs) ≡ Some (i + p)
    by_test true p e l rest = e
    by_test false zero e l rest = absurd (let k = position_from_on t (i + 1) (i + 0) (xs ++ ys) e in omega (arith, k))
    by_test false (suc p) e l rest = rest p (e ∙ ap (λ n. Some n) (omega arith)) (omega (arith, l)) ∙ ap (λ n. Some n) (omega arith)

front_get : {A : Type 0} (p : ℕ) (xs ys : List A) → p < length xs → slice_get (xs ++ ys) p ≡ slice_get xs p
front_get p [] ys l = absurd (omega (arith, l))
front_get zero (x ∷ xs) ys l = refl
front_get (suc p) (x ∷ xs) ys l = front_get p xs ys (omega (arith, l))

pub back_place : (name : Name) (xs ys : List Name) → is_in name xs ≡ true → (p : ℕ) × (place_of name (xs ++ ys) ≡ Some p) × (p < length xs)
back_place name xs ys h = let r = found 0 xs h in (r.0, r.1 ∙ ap (λ n. Some n) (omega arith), r.2)
  where
    found : (i : ℕ) (xs : List Name) → is_some (position_from (same name) i xs) ≡ true → (p : ℕ) × (position_from (same name) i (xs ++ ys) ≡ Some (i + p)) × (p < length xs)
    found i [] h = absurd (true≢false (sym h))
    found i (x ∷ xs) h = by_test (same name x) h (found (i + 1) xs)
      where
        by_test : (b : Bool) → is_some (cond b (Some i) (position_from (same name) (i + 1) xs)) ≡ true
            → (is_some (position_from (same name) (i + 1) xs) ≡ true → (p : ℕ) × (position_from (same name) (i + 1) (xs ++ ys) ≡ Some (i + 1 + p)) × (p < length xs))
            → (p : ℕ) × (cond b (Some i) (position_from (same name) (i + 1) (xs ++ ys)) ≡ Some (i + p)) × (p < suc (length xs))
        by_test true k rest = (0, ap (λ n. Some n) (omega arith), omega arith)
        by_test false k rest = let r = rest k in let l = r.2 in (suc r.0, r.1 ∙ ap (λ n. Some n) (omega arith), omega (arith, l))

-- What is used.

-- a macro or a function that is used was declared before
pub used_before : (s : Spec) (before after : List Decl) (at : Scope) (want : Want) (name : Name) → s.decls ≡ before ++ after → at.before ≡ length (names_in before)
    → ((k : Known) → fits want k ≡ true → is_definition k ≡ true) → used (name_tables s) at want name ≡ [] → (d : Decl) × IsOne d before × (is_definition (record { decl = d; value = None }) ≡ true) × (name_of d ≡ name)
used_before s before after at want name e b f h =
    let u = used_is s at want name h in
    let defines = f u.known u.fit in
    let below = subst (λ n. u.place < n) b (ltb-true u.place at.before (u.early defines)) in
    let names : names_in s.decls ≡ names_in before ++ names_in after = ap names_in e ∙ flat_map-append names_of before after in
    let known : flat_map known_by s.decls ≡ flat_map known_by before ++ flat_map known_by after = ap (flat_map known_by) e ∙ flat_map-append known_by before after in
    let long = as_long (Means before) (names_in before) (flat_map known_by before) (all_known before) in
    let at_front = front_place (same name) 0 u.place (names_in before) (names_in after) (ap (place_of name) (sym names) ∙ u.at_place ∙ ap (λ n. Some n) (omega arith)) below in
    let there = sym (front_get u.place (flat_map known_by before) (flat_map known_by after) (subst (λ n. u.place < n) (sym long) below)) ∙ ap (λ z. slice_get z u.place) (sym known) ∙ u.there in
    let r = beside (Means before) (same name) (names_in before) (flat_map known_by before) 0 u.place u.known (all_known before) at_front there in
    (u.known.decl, r.2.among, defines, r.2.named (no_value r.0 u.known defines r.2) ∙ sym (name_same name r.0 r.1))
  where
    no_value : (x : Name) (k : Known) → is_definition k ≡ true → Means before x k → k.value ≡ None
    no_value x k d m = ⊎_elim (λ v. v) (λ z. absurd (true≢false (sym d ∙ ap (λ y. is_definition (record { decl = y; value = k.value })) z))) m.valued
