-- No name is declared twice.
use Rattle.std.proofs.Common.{◌≡◌, ℕ, suc, ◌+◌, Bool, true, false, cond, ◌||◌, List, [], ◌∷◌, ◌++◌, map, flat_map, length, Some, None, nat_lt, refl, sym, ap, ◌∙◌, subst, arith, true≢false, length-append}
use Rattle.std.specs.List.{list_any, position_from}
use Rattle.std.proofs.lemmas.Bool.Decides.{nat_tests}
use Rattle.std.proofs.lemmas.List.Folds.{list_any-append}
use Rattle.rsml_syntax.specs.declared.syntax.Spec.{Spec}
use Rattle.rsml_syntax.specs.declared.syntax.Decl.{Decl}
use Rattle.rsml_syntax.specs.text.Names.{Name, same, place_of}
use Rattle.rsml_syntax.specs.rules.Globals.{many, name_of, names_of, values_of, size_of}
use Rattle.rsml_syntax.specs.rules.Breaches.{Breach, breach}
use Rattle.rsml_syntax.specs.rules.Uses.{sized}
use Rattle.rsml_syntax.specs.rules.Owners.{owner}
use Rattle.rsml_syntax.specs.grammar.Written.{guards_of, sums_of}
use Rattle.rsml_syntax.specs.grammar.Parts.{Opens, Closes, declared, inside, top_of}
use Rattle.rsml_syntax.specs.rules.Scopes.{first_bound}
use Rattle.rsml_syntax.specs.rules.Declarations.{is_below, is_taken, declared_again, own_breaches, contents_used, scope_at, declaration}
use Rattle.rsml_syntax.specs.rules.Rules.{name_tables, broken_rule}
use Rattle.rsml_meaning.specs.Words.{Instance, Each, at}
use Rattle.rsml_meaning.specs.Instances.{globals_of}
use Rattle.std.proofs.lemmas.Grind.{flat_map-append}
use Rattle.rsml_syntax.proofs.Clean.{Clean, front_each, all_clean, no_front, no_back, unbroken}
use Rattle.state_arrays.specs.Arrays.{has_name}
use Rattle.state_arrays.proofs.Small.{IsSmall, size_small}

or_first : (a b : Bool) → (a || b) ≡ false → a ≡ false
or_first true b k = absurd (true≢false k)
or_first false b k = refl

or_second : (a b : Bool) → (a || b) ≡ false → b ≡ false
or_second true b k = absurd (true≢false k)
or_second false b k = k

or_false : (a b : Bool) → a ≡ false → b ≡ false → (a || b) ≡ false
or_false a b p q = ap (λ c. c || b) p ∙ q

-- Declarations.

-- the names of declarations
abbrev pub names_in : List Decl → List Name
names_in ds = flat_map names_of ds

-- a declaration has no breach where it stands
clean_at : (s : Spec) (place : ℕ) (before : List Decl) (d : Decl) (after : List Decl) → Each (Clean s) (declared place (before ++ (d ∷ after))) → (n : ℕ) × (n ≡ place + length (names_in before)) × (declaration (name_tables s) n d ≡ [])
clean_at s place [] d after h = (place, omega arith, h.0)
clean_at s place (e ∷ before) d after h =
    let r = clean_at s (place + length (names_of e)) before d after h.1 in
    let n = r.1 in
    let l = length-append (names_of e) (names_in before) in
    (r.0, omega (arith, n, l), r.2)

pub clean_here : (s : Spec) → broken_rule s ≡ None → (before : List Decl) (d : Decl) (after : List Decl) → s.decls ≡ before ++ (d ∷ after) → declaration (name_tables s) (length (names_in before)) d ≡ []
clean_here s h before d after e =
    let r = clean_at s 0 before d after (subst (λ ds. Each (Clean s) (declared 0 ds)) e (front_each (Clean s) (declared 0 s.decls) (Opens (top_of s) ∷ (inside None s.body ++ (Closes (top_of s) ∷ []))) (all_clean s h))) in
    let n = r.1 in
    let place : r.0 ≡ length (names_in before) = omega (arith, n) in
    subst (λ p. declaration (name_tables s) p d ≡ []) place r.2

-- the breaches of a declaration after those of S1
abbrev after_names : Spec → ℕ → Decl → List Breach
after_names s p d =
    own_breaches (globals_of s) d
    ++ (owner (globals_of s) (name_of d) (guards_of d) (sums_of d) ++ (sized (name_tables s) (scope_at (name_tables s) p (size_of d)) (name_of d) (size_of d) ++ contents_used (name_tables s) (scope_at (name_tables s) p (size_of d)) d))

-- where the first place is not in the first list, nothing there passes the test
none_before : (t : Name → Bool) (p : ℕ) (xs ys : List Name) → is_below (position_from t p (xs ++ ys)) (p + length xs) ≡ false → list_any t xs ≡ false
none_before t p [] ys h = refl
none_before t p (x ∷ xs) ys h = by (t x) h (λ k. none_before t (p + 1) xs ys k)
  where
    less : nat_lt p (p + suc (length xs)) ≡ true
    less = grind (arith, nat_tests)

    by : (b : Bool) → is_below (cond b (Some p) (position_from t (p + 1) (xs ++ ys))) (p + suc (length xs)) ≡ false
        → (is_below (position_from t (p + 1) (xs ++ ys)) (p + 1 + length xs) ≡ false → list_any t xs ≡ false) → (b || list_any t xs) ≡ false
    by true k next = absurd (true≢false (sym less ∙ k))
    by false k next = next (ap (λ (n : ℕ). is_below (position_from t (p + 1) (xs ++ ys)) n) (omega arith) ∙ k)

-- the name of a declaration is none of the names before it
pub name_new : (s : Spec) → broken_rule s ≡ None → (before : List Decl) (d : Decl) (after : List Decl) → s.decls ≡ before ++ (d ∷ after) → list_any (same (name_of d)) (names_in before) ≡ false
name_new s h before d after e =
    let xs = names_in before in
    let clean = clean_here s h before d after e in
    let names : names_in s.decls ≡ xs ++ (names_of d ++ names_in after) = ap names_in e ∙ flat_map-append names_of before (d ∷ after) in
    let free = unbroken 1 (name_of d) (is_taken (name_tables s) (length xs) (name_of d))
    (no_front (breach 1 (name_of d) (is_taken (name_tables s) (length xs) (name_of d))) (declared_again (name_tables s) (length xs + 1) (values_of d)) (no_front (declared_again (name_tables s) (length xs) (names_of d)) (after_names s (length xs) d) clean)) in
    let first = or_first (is_below (place_of (name_of d) (names_in s.decls)) (length xs)) (is_below (first_bound (name_tables s) (name_of d)) (length xs)) free in
    none_before (same (name_of d)) 0 xs (names_of d ++ names_in after)
    (ap (λ (n : ℕ). is_below (position_from (same (name_of d)) 0 (xs ++ (names_of d ++ names_in after))) n) (omega arith)
    ∙ ap (λ (ns : List Name). is_below (position_from (same (name_of d)) 0 ns) (length xs)) (sym names)
    ∙ first)

pub sized_here : (s : Spec) → broken_rule s ≡ None → (before : List Decl) (d : Decl) (after : List Decl) → s.decls ≡ before ++ (d ∷ after) → IsSmall (many (globals_of s) (size_of d))
sized_here s h before d after e =
    let w = name_tables s in
    let p = length (names_in before) in
    let scope = scope_at w p (size_of d) in
    let later = contents_used w scope d in
    let own = no_back (declared_again w p (names_of d)) (after_names s p d) (clean_here s h before d after e) in
    let size = no_back (own_breaches w.globals d) (owner w.globals (name_of d) (guards_of d) (sums_of d) ++ (sized w scope (name_of d) (size_of d) ++ later)) own in
    size_small w scope (name_of d) (size_of d)
    (no_front (sized w scope (name_of d) (size_of d)) later (no_back (owner w.globals (name_of d) (guards_of d) (sums_of d)) (sized w scope (name_of d) (size_of d) ++ later) size))

-- Instances.

-- what is made of a declaration has its name
abbrev pub AreNamed : (Decl → List Instance) → Type 0
AreNamed make = (d : Decl) (name : Name) → same name (name_of d) ≡ false → has_name (make d) name ≡ false

pub named_at : (name other : Name) (is : List ℕ) → same name other ≡ false → has_name (map (at other) is) name ≡ false
named_at name other [] h = refl
named_at name other (i ∷ is) h = or_false (same name other) (has_name (map (at other) is) name) h (named_at name other is h)

pub none_made : (make : Decl → List Instance) (name : Name) (ds : List Decl) → AreNamed make → list_any (same name) (names_in ds) ≡ false → has_name (flat_map make ds) name ≡ false
none_made make name [] n h = refl
none_made make name (d ∷ ds) n h =
    let split = sym (list_any-append (same name) (names_of d) (names_in ds)) ∙ h in
    let here = or_first (same name (name_of d)) (list_any (same name) (values_of d)) (or_first (list_any (same name) (names_of d)) (list_any (same name) (names_in ds)) split) in
    list_any-append (λ (x : Instance). same name x.name) (make d) (flat_map make ds)
    ∙ or_false (has_name (make d) name) (has_name (flat_map make ds) name) (n d name here) (none_made make name ds n (or_second (list_any (same name) (names_of d)) (list_any (same name) (names_in ds)) split))
