-- Each declaration is what its name means.
use Rattle.std.proofs.Common.{◌≡◌, ℕ, suc, ◌+◌, ◌≤◌, Bool, true, false, cond, ◌||◌, List, [], ◌∷◌, ◌++◌, length, flat_map, Some, None, refl, sym, ap, ◌∙◌, arith, nat_lt, ltb-false, slice_get, true≢false}
use Rattle.std.specs.List.{AllZip, position_from}
use Rattle.std.specs.Option.{option_map_or}
use Rattle.std.proofs.lemmas.Grind.{flat_map-append}
use Rattle.rsml_syntax.specs.declared.syntax.Spec.{Spec}
use Rattle.rsml_syntax.specs.declared.syntax.Decl.{Decl}
use Rattle.rsml_syntax.specs.text.Names.{Name, same, place_of}
use Rattle.rsml_syntax.specs.rules.Globals.{name_of, names_of, values_of, known_values, known_by, meaning, size_of}
use Rattle.rsml_syntax.specs.rules.Breaches.{breach}
use Rattle.rsml_syntax.specs.rules.Scopes.{NameTables, first_bound}
use Rattle.rsml_syntax.specs.rules.Declarations.{is_below, is_taken, declared_again, own_breaches, contents_used, scope_at, declaration}
use Rattle.rsml_syntax.specs.rules.Uses.{sized}
use Rattle.rsml_syntax.specs.rules.Owners.{owner}
use Rattle.rsml_syntax.specs.grammar.Written.{guards_of, sums_of}
use Rattle.rsml_syntax.specs.rules.Rules.{name_tables}
use Rattle.rsml_meaning.specs.Instances.{globals_of}
use Rattle.rsml_meaning.proofs.Same.{name_itself}
use Rattle.rsml_meaning.proofs.Globals.{Means, all_known}
use Rattle.rsml_syntax.proofs.Clean.{IsPlaced, names_in, no_front, no_back, unbroken}

-- What a declaration without a breach has.

pub again_clean : (w : NameTables) (p : ℕ) (d : Decl) → declaration w p d ≡ [] → declared_again w p (names_of d) ≡ []
again_clean w p d h = no_front (declared_again w p (names_of d)) (own_breaches w.globals d
    ++ (owner w.globals (name_of d) (guards_of d) (sums_of d) ++ (sized w (scope_at w p (size_of d)) (name_of d) (size_of d) ++ contents_used w (scope_at w p (size_of d)) d))) h

after_again : (w : NameTables) (p : ℕ) (d : Decl) → declaration w p d ≡ [] → own_breaches w.globals d
    ++ (owner w.globals (name_of d) (guards_of d) (sums_of d) ++ (sized w (scope_at w p (size_of d)) (name_of d) (size_of d) ++ contents_used w (scope_at w p (size_of d)) d)) ≡ []
after_again w p d h = no_back (declared_again w p (names_of d)) (own_breaches w.globals d
    ++ (owner w.globals (name_of d) (guards_of d) (sums_of d) ++ (sized w (scope_at w p (size_of d)) (name_of d) (size_of d) ++ contents_used w (scope_at w p (size_of d)) d))) h

pub own_clean : (w : NameTables) (p : ℕ) (d : Decl) → declaration w p d ≡ [] → own_breaches w.globals d ≡ []
own_clean w p d h = no_front (own_breaches w.globals d)
    (owner w.globals (name_of d) (guards_of d) (sums_of d) ++ (sized w (scope_at w p (size_of d)) (name_of d) (size_of d) ++ contents_used w (scope_at w p (size_of d)) d)) (after_again w p d h)

after_owner : (w : NameTables) (p : ℕ) (d : Decl) → declaration w p d ≡ [] → sized w (scope_at w p (size_of d)) (name_of d) (size_of d) ++ contents_used w (scope_at w p (size_of d)) d ≡ []
after_owner w p d h =
    no_back (owner w.globals (name_of d) (guards_of d) (sums_of d)) (sized w (scope_at w p (size_of d)) (name_of d) (size_of d) ++ contents_used w (scope_at w p (size_of d)) d)
    (no_back (own_breaches w.globals d)
    (owner w.globals (name_of d) (guards_of d) (sums_of d) ++ (sized w (scope_at w p (size_of d)) (name_of d) (size_of d) ++ contents_used w (scope_at w p (size_of d)) d)) (after_again w p d h))

pub owner_clean : (w : NameTables) (p : ℕ) (d : Decl) → declaration w p d ≡ [] → owner w.globals (name_of d) (guards_of d) (sums_of d) ≡ []
owner_clean w p d h =
    no_front (owner w.globals (name_of d) (guards_of d) (sums_of d)) (sized w (scope_at w p (size_of d)) (name_of d) (size_of d) ++ contents_used w (scope_at w p (size_of d)) d)
    (no_back (own_breaches w.globals d)
    (owner w.globals (name_of d) (guards_of d) (sums_of d) ++ (sized w (scope_at w p (size_of d)) (name_of d) (size_of d) ++ contents_used w (scope_at w p (size_of d)) d)) (after_again w p d h))

pub size_clean : (w : NameTables) (p : ℕ) (d : Decl) → declaration w p d ≡ [] → sized w (scope_at w p (size_of d)) (name_of d) (size_of d) ≡ []
size_clean w p d h = no_front (sized w (scope_at w p (size_of d)) (name_of d) (size_of d)) (contents_used w (scope_at w p (size_of d)) d) (after_owner w p d h)

pub contents_clean : (w : NameTables) (p : ℕ) (d : Decl) → declaration w p d ≡ [] → contents_used w (scope_at w p (size_of d)) d ≡ []
contents_clean w p d h = no_back (sized w (scope_at w p (size_of d)) (name_of d) (size_of d)) (contents_used w (scope_at w p (size_of d)) d) (after_owner w p d h)

-- Places.

-- the first that passes stands at the first place of one that does, or before
position_by : {A : Type 0} (t : A → Bool) (i : ℕ) (xs : List A) (x : A) (ys : List A) → t x ≡ true → (k : ℕ) × (position_from t i (xs ++ (x ∷ ys)) ≡ Some (i + k)) × (k ≤ length xs)
position_by t i [] x ys h = (0, ap (λ b. cond b (Some i) (position_from t (i + 1) ys)) h ∙ ap (λ n. Some n) (omega arith), omega arith)
position_by {A} t i (z ∷ xs) x ys h = by_test (t z) (position_by t (i + 1) xs x ys h)
  where
    by_test : (b : Bool) → (k : ℕ) × (position_from t (i + 1) (xs ++ (x ∷ ys)) ≡ Some (i + 1 + k)) × (k ≤ length xs)
        → (k : ℕ) × (cond b (Some i) (position_from t (i + 1) (xs ++ (x ∷ ys))) ≡ Some (i + k)) × (k ≤ suc (length xs))
    by_test true r = (0, ap (λ n. Some n) (omega arith), omega arith)
    by_test false r = let l = r.2 in (suc r.0, r.1 ∙ ap (λ n. Some n) (omega arith), omega (arith, l))

pub as_long : {A B : Type 0} (R : A → B → Type 0) (xs : List A) (ys : List B) → AllZip R xs ys → length ys ≡ length xs
as_long R [] [] h = refl
as_long R (x ∷ xs) (y ∷ ys) h = ap suc (as_long R xs ys h.1)
as_long R [] (y ∷ ys) h = elim h [ ]
as_long R (x ∷ xs) [] h = elim h [ ]

at_length : {A : Type 0} (xs : List A) (y : A) (ys : List A) → slice_get (xs ++ (y ∷ ys)) (length xs) ≡ Some y
at_length [] y ys = refl
at_length (x ∷ xs) y ys = at_length xs y ys

-- a name that stands at a place and was not declared before has that place first
own_place : (w : NameTables) (xs : List Name) (name : Name) (ys : List Name) → w.globals.names ≡ xs ++ (name ∷ ys) → is_taken w (length xs) name ≡ false → place_of name w.globals.names ≡ Some (length xs)
own_place w xs name ys e h =
    let p = position_by (same name) 0 xs name ys (name_itself name) in
    let is : place_of name w.globals.names ≡ Some (0 + p.0) = ap (place_of name) e ∙ p.1 in
    is ∙ ap (λ n. Some n) (last p.0 p.2 (not_below p.0 is))
  where
    or_first : (a b : Bool) → (a || b) ≡ false → a ≡ false
    or_first true b k = absurd (true≢false k)
    or_first false b k = refl

    not_below : (k : ℕ) → place_of name w.globals.names ≡ Some (0 + k) → nat_lt (0 + k) (length xs) ≡ false
    not_below k is = ap (λ o. option_map_or (λ p. nat_lt p (length xs)) o false) (sym is) ∙ or_first (is_below (place_of name w.globals.names) (length xs)) (is_below (first_bound w name) (length xs)) h

    last : (k : ℕ) → k ≤ length xs → nat_lt (0 + k) (length xs) ≡ false → 0 + k ≡ length xs
    last k l n = let m = ltb-false (0 + k) (length xs) n in omega (arith, l, m)

-- what the name of a declaration means
pub own_meaning : (s : Spec) (d : Decl) → IsPlaced s d → meaning (globals_of s) (name_of d) ≡ Some (record { decl = d; value = None })
own_meaning s d p =
    let xs = names_in p.before in
    let names : names_in s.decls ≡ xs ++ (name_of d ∷ (values_of d ++ names_in p.after)) = ap names_in p.is ∙ flat_map-append names_of p.before (d ∷ p.after) in
    let known : flat_map known_by s.decls ≡ flat_map known_by p.before ++ (record { decl = d; value = None } ∷ (known_values d 0 (values_of d) ++ flat_map known_by p.after))
    = ap (flat_map known_by) p.is ∙ flat_map-append known_by p.before (d ∷ p.after) in
    let first = unbroken 1 (name_of d) (is_taken (name_tables s) (length xs) (name_of d))
    (no_front (breach 1 (name_of d) (is_taken (name_tables s) (length xs) (name_of d))) (declared_again (name_tables s) (length xs + 1) (values_of d)) (again_clean (name_tables s) (length xs) d p.clean)) in
    let place = own_place (name_tables s) xs (name_of d) (values_of d ++ names_in p.after) names first in
    let long = as_long (Means p.before) xs (flat_map known_by p.before) (all_known p.before) in
    ap (λ o. option_map_or (λ q. slice_get (flat_map known_by s.decls) q) o None) place
    ∙ ap (λ z. slice_get z (length xs)) known
    ∙ ap (slice_get (flat_map known_by p.before ++ (record { decl = d; value = None } ∷ (known_values d 0 (values_of d) ++ flat_map known_by p.after)))) (sym long)
    ∙ at_length (flat_map known_by p.before) (record { decl = d; value = None }) (known_values d 0 (values_of d) ++ flat_map known_by p.after)
