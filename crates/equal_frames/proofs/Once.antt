-- A name is declared once: none of the later declarations gives it again.
use Rattle.std.proofs.Common.{◌≡◌, ℕ, ◌+◌, ◌≤◌, Bool, true, false, ◌||◌, List, [], ◌∷◌, ◌++◌, length, None, refl, sym, ap, ◌∙◌, arith, lt-ltb, true≢false, append_assoc}
use Rattle.std.specs.Prelude.{⊤}
use Rattle.std.specs.List.{list_any}
use Rattle.std.proofs.lemmas.Grind.{flat_map-append}
use Rattle.std.proofs.lemmas.List.Folds.{list_any-append}
use Rattle.rsml_syntax.specs.declared.syntax.Spec.{Spec}
use Rattle.rsml_syntax.specs.declared.syntax.Decl.{Decl}
use Rattle.rsml_syntax.specs.text.Names.{Name, same, place_of, is_in}
use Rattle.rsml_syntax.specs.rules.Globals.{name_of, names_of, values_of}
use Rattle.rsml_syntax.specs.rules.Breaches.{breach}
use Rattle.rsml_syntax.specs.rules.Scopes.{first_bound}
use Rattle.rsml_syntax.specs.rules.Declarations.{is_below, is_taken, declared_again}
use Rattle.rsml_syntax.specs.rules.Rules.{name_tables, broken_rule}
use Rattle.rsml_syntax.specs.grammar.Parts.{declared}
use Rattle.rsml_syntax.proofs.Clean.{Clean, names_in, no_front, no_back, unbroken, clean_declared, later_clean}
use Rattle.rsml_meaning.specs.Words.{Each}
use Rattle.rsml_meaning.proofs.Same.{name_same}
use Rattle.rsml_meaning.proofs.Lists.{or_left}
use Rattle.rsml_meaning.proofs.rules.Names.{in_front, in_back, in_first}
use Rattle.rsml_meaning.proofs.rules.Declared.{again_clean}
use Rattle.rsml_meaning.proofs.rules.Earlier.{back_place}

neither : (a b : Bool) → a ≡ false → b ≡ false → (a || b) ≡ false
neither true b h k = absurd (true≢false h)
neither false b h k = k

-- names that are declared without a breach, after one that was declared before, are others
fresh : (s : Spec) (name : Name) (before : List Name) (after : List Name) → (name_tables s).globals.names ≡ before ++ after → is_in name before ≡ true
    → (place : ℕ) (names : List Name) → length before ≤ place → declared_again (name_tables s) place names ≡ [] → list_any (same name) names ≡ false
fresh s name before after e known place [] l h = refl
fresh s name before after e known place (x ∷ names) l h =
    neither (same name x) (list_any (same name) names) (here (same name x) refl)
    (fresh s name before after e known (place + 1) names (omega (arith, l)) (no_back (breach 1 x (is_taken (name_tables s) place x)) (declared_again (name_tables s) (place + 1) names) h))
  where
    free : is_taken (name_tables s) place x ≡ false
    free = unbroken 1 x (is_taken (name_tables s) place x) (no_front (breach 1 x (is_taken (name_tables s) place x)) (declared_again (name_tables s) (place + 1) names) h)

    taken : name ≡ x → is_taken (name_tables s) place name ≡ true
    taken is =
        let p = back_place name before after known in
        let less = p.2 in
        let below : is_below (place_of name (name_tables s).globals.names) place ≡ true
        = ap (λ (ns : List Name). is_below (place_of name ns) place) e ∙ ap (λ o. is_below o place) p.1 ∙ lt-ltb p.0 place (omega (arith, l, less)) in
        or_left (is_below (place_of name (name_tables s).globals.names) place) (is_below (first_bound (name_tables s) name) place) below

    here : (b : Bool) → same name x ≡ b → b ≡ false
    here true t = absurd (true≢false (sym (taken (name_same name x t)) ∙ ap (is_taken (name_tables s) place) (name_same name x t) ∙ free))
    here false t = refl

later_others : (s : Spec) (name : Name) (before after : List Decl) → s.decls ≡ before ++ after → is_in name (names_in before) ≡ true
    → Each (Clean s) (declared (length (names_in before)) after) → list_any (same name) (names_in after) ≡ false
later_others s name before [] e known clean = refl
later_others s name before (d ∷ ds) e known clean =
    list_any-append (same name) (names_of d) (names_in ds)
    ∙ neither (list_any (same name) (names_of d)) (list_any (same name) (names_in ds))
    (fresh s name (names_in before) (names_in (d ∷ ds)) (ap names_in e ∙ flat_map-append names_of before (d ∷ ds)) known (length (names_in before)) (names_of d) (omega arith) (again_clean (name_tables s) (length (names_in before)) d clean.0))
    (later_others s name (before ++ (d ∷ [])) ds (e ∙ sym (append_assoc before (d ∷ []) ds)) (ap (is_in name) (flat_map-append names_of before (d ∷ [])) ∙ in_front name (names_in before) (names_in (d ∷ [])) known) (later_clean s before d ds clean.1))

-- the name of each declaration is given by none after it
abbrev pub NamesOnce : List Decl → Type 0
NamesOnce [] = ⊤
NamesOnce (d ∷ ds) = (list_any (same (name_of d)) (names_in ds) ≡ false) × NamesOnce ds

once_from : (s : Spec) (before after : List Decl) → s.decls ≡ before ++ after → Each (Clean s) (declared (length (names_in before)) after) → NamesOnce after
once_from s before [] e clean = tt
once_from s before (d ∷ ds) e clean =
    let next = e ∙ sym (append_assoc before (d ∷ []) ds) in
    let more = later_clean s before d ds clean.1 in
    let own : is_in (name_of d) (names_in (before ++ (d ∷ []))) ≡ true
    = ap (is_in (name_of d)) (flat_map-append names_of before (d ∷ [])) ∙ in_back (name_of d) (names_in before) (names_in (d ∷ [])) (in_first (name_of d) (values_of d ++ [])) in
    (later_others s (name_of d) (before ++ (d ∷ [])) ds next own more, once_from s (before ++ (d ∷ [])) ds next more)

pub names_once : (s : Spec) → broken_rule s ≡ None → NamesOnce s.decls
names_once s h = once_from s [] s.decls refl (clean_declared s h)
