-- Claims declare no constant: each name is the same constant of the joined specification as of the specification, or of neither.
use Rattle.std.proofs.Common.{◌≡◌, ℕ, suc, ◌+◌, Bool, true, false, cond, List, [], ◌∷◌, ◌++◌, map, flat_map, length, Option, Some, None, ℤ, refl, sym, ap, ◌∙◌, arith, slice_get, length-append}
use Rattle.std.specs.List.{position_from}
use Rattle.std.specs.Option.{option_map_or}
use Rattle.std.proofs.lemmas.List.Concat.{flat_map-append}
use Rattle.rsml_syntax.specs.declared.syntax.Decl.{Decl}
use Rattle.rsml_syntax.specs.text.Names.{Name, same}
use Rattle.rsml_syntax.specs.rules.Globals.{Known, globals, names_of, values_of, known_values, known_by, constant_of, constant}
use Rattle.claim_syntax.specs.declared.claim.Claim.{Claim}
use Rattle.claim_syntax.specs.Joined.{macro_of}

-- the constant that the first of these names is which is this one
abbrev found : Name → List Name → List Known → Option ℤ
found name [] ks = None
found name (x ∷ xs) [] = None
found name (x ∷ xs) (k ∷ ks) = cond (same name x) (constant_of k) (found name xs ks)

found_nothing : (name : Name) (xs : List Name) → found name xs [] ≡ None
found_nothing name [] = refl
found_nothing name (x ∷ xs) = refl

found_is : (name : Name) (xs : List Name) (ks : List Known) (i : ℕ) (get : ℕ → Option Known) → ((n : ℕ) → get (i + n) ≡ slice_get ks n)
    → option_map_or constant_of (option_map_or get (position_from (same name) i xs) None) None ≡ found name xs ks
found_is name [] ks i get h = refl
found_is name (x ∷ xs) [] i get h = by_test (same name x) (found_is name xs [] (i + 1) get (λ n. ap get (omega arith) ∙ h (suc n)) ∙ found_nothing name xs)
  where
    by_test : (b : Bool) → option_map_or constant_of (option_map_or get (position_from (same name) (i + 1) xs) None) None ≡ None
        → option_map_or constant_of (option_map_or get (cond b (Some i) (position_from (same name) (i + 1) xs)) None) None ≡ None
    by_test true e = let here : get i ≡ None = ap get (omega arith) ∙ h 0 in ap (λ (o : Option Known). option_map_or constant_of o None) here
    by_test false e = e
found_is name (x ∷ xs) (k ∷ ks) i get h = by_test (same name x) (found_is name xs ks (i + 1) get (λ n. ap get (omega arith) ∙ h (suc n)))
  where
    by_test : (b : Bool) → option_map_or constant_of (option_map_or get (position_from (same name) (i + 1) xs) None) None ≡ found name xs ks
        → option_map_or constant_of (option_map_or get (cond b (Some i) (position_from (same name) (i + 1) xs)) None) None ≡ cond b (constant_of k) (found name xs ks)
    by_test true e = let here : get i ≡ Some k = ap get (omega arith) ∙ h 0 in ap (λ (o : Option Known). option_map_or constant_of o None) here
    by_test false e = e

-- names that are no constants behind others change nothing
found_before : (name : Name) (xs ys : List Name) (ks ls : List Known) → length xs ≡ length ks → found name ys ls ≡ None → found name (xs ++ ys) (ks ++ ls) ≡ found name xs ks
found_before name [] ys [] ls h none = none
found_before name [] ys (k ∷ ks) ls h none = absurd (omega (arith, h))
found_before name (x ∷ xs) ys [] ls h none = absurd (omega (arith, h))
found_before name (x ∷ xs) ys (k ∷ ks) ls h none = ap (cond (same name x) (constant_of k)) (found_before name xs ys ks ls (omega (arith, h)) none)

claims_are_none : (name : Name) (cs : List Claim) → found name (flat_map names_of (map macro_of cs)) (flat_map known_by (map macro_of cs)) ≡ None
claims_are_none name [] = refl
claims_are_none name (c ∷ cs) = by_test (same name c.name) (claims_are_none name cs)
  where
    by_test : (b : Bool) {rest : Option ℤ} → rest ≡ None → cond b None rest ≡ None
    by_test true e = refl
    by_test false e = e

values_long : (d : Decl) (n : ℕ) (names : List Name) → length names ≡ length (known_values d n names)
values_long d n [] = refl
values_long d n (name ∷ names) = ap suc (values_long d (n + 1) names)

names_long : (ds : List Decl) → length (flat_map names_of ds) ≡ length (flat_map known_by ds)
names_long [] = refl
names_long (d ∷ ds) =
    let here = values_long d 0 (values_of d) in
    let rest = names_long ds in
    let names = length-append (names_of d) (flat_map names_of ds) in
    let known = length-append (known_by d) (flat_map known_by ds) in
    omega (arith, here, rest, names, known)

constant_is : (ds : List Decl) (name : Name) → constant (globals ds) name ≡ found name (flat_map names_of ds) (flat_map known_by ds)
constant_is ds name = found_is name (flat_map names_of ds) (flat_map known_by ds) 0 (slice_get (flat_map known_by ds)) (λ n. ap (slice_get (flat_map known_by ds)) (omega arith))

pub same_constant : (ds : List Decl) (cs : List Claim) (name : Name) → constant (globals (ds ++ map macro_of cs)) name ≡ constant (globals ds) name
same_constant ds cs name =
    let ms = map macro_of cs in
    constant_is (ds ++ ms) name ∙ ap (λ (ns : List Name). found name ns (flat_map known_by (ds ++ ms))) (flat_map-append names_of ds ms)
    ∙ ap (found name (flat_map names_of ds ++ flat_map names_of ms)) (flat_map-append known_by ds ms)
    ∙ found_before name (flat_map names_of ds) (flat_map names_of ms) (flat_map known_by ds) (flat_map known_by ms) (names_long ds) (claims_are_none name cs)
    ∙ sym (constant_is ds name)
