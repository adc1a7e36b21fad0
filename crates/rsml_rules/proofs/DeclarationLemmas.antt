-- Declarations one after another: the places of their names, and what is judged of them.
use Rattle.std.proofs.Common.{◌≡◌, ℕ, suc, ◌+◌, ◌<◌, List, ◌∷◌, Option, length, drop, get_or, drop-cons, add-one, length-append, sym, ap, ◌∙◌, arith}
use Rattle.std.specs.Prelude.{flat_map}
use Rattle.rsml_syntax.specs.declared.syntax.Decl.{Decl}
use Rattle.rsml_syntax.specs.text.Names.{Name}
use Rattle.rsml_syntax.specs.rules.Globals.{names_of, values_of}
use Rattle.rsml_syntax.specs.rules.Breaches.{Breach}
use Rattle.rsml_rules.specs.breaches.Noting.{noted}
use Rattle.rsml_syntax.specs.rules.Declarations.{declaration}
use Rattle.rsml_syntax.specs.grammar.Parts.{declared}
use Rattle.rsml_syntax.specs.rules.Rules.{judged}
use Rattle.rsml_syntax.specs.rules.Scopes.{NameTables}
use Rattle.rsml_rules.proofs.Noting.{noted_append}

-- what is left of a list at a turn
split : {A : Type 0} (xs : List A) (i : ℕ) (x : A) → i < length xs → x ≡ get_or xs i x → drop i xs ≡ x ∷ drop (i + 1) xs
split xs i x h e = rw (add-one, drop-cons xs i x h) (ap (λ y. y ∷ drop (suc i) xs) (sym e))

-- the place after a declaration, and the names that are left
pub names_turn : (ds : List Decl) (i : ℕ) (d : Decl) (place all : ℕ) (values : List Name) → i < length ds → d ≡ get_or ds i d → values ≡ values_of d →
    place + length (flat_map names_of (drop i ds)) ≡ all →
    place + (1 + length values) + length (flat_map names_of (drop (i + 1) ds)) ≡ all
names_turn ds i d place all values h e named before =
    let rest = flat_map names_of (drop (i + 1) ds) in
    let left = ap (λ (xs : List Decl). length (flat_map names_of xs)) (split ds i d h e) in
    let parts = length-append (names_of d) rest in
    let same = ap (λ (ns : List Name). length ns) named in
    omega (arith, left, parts, same, before)

-- what is left to judge after a declaration
pub judged_turn : (w : NameTables) (worst new all : Option Breach) (place : ℕ) (values : List Name) (ds : List Decl) (i : ℕ) (d : Decl) → i < length ds → d ≡ get_or ds i d → values ≡ values_of d →
    new ≡ noted worst (declaration w place d) →
    noted worst (flat_map (judged w) (declared place (drop i ds))) ≡ all →
    noted new (flat_map (judged w) (declared (place + (1 + length values)) (drop (i + 1) ds))) ≡ all
judged_turn w worst new all place values ds i d h e named now before =
    let next : place + (1 + length values) ≡ place + length (names_of d) = ap (λ (ns : List Name). place + (1 + length ns)) named ∙ omega arith in
    let rest = λ (p : ℕ). flat_map (judged w) (declared p (drop (i + 1) ds)) in
    ap (λ p. noted new (rest p)) next
    ∙ ap (λ v. noted v (rest (place + length (names_of d)))) now
    ∙ sym (noted_append worst (declaration w place d) (rest (place + length (names_of d))))
    ∙ ap (λ (xs : List Decl). noted worst (flat_map (judged w) (declared place xs))) (sym (split ds i d h e))
    ∙ before
