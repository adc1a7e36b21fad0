-- A name among the first names of a list.
use Rattle.std.proofs.Common.{◌≡◌, ℕ, zero, suc, ◌+◌, ◌<◌, ◌≤◌, Bool, true, false, cond, List, [], ◌∷◌, ◌++◌, map, length, get_or, Some, is_some, take, refl, sym, ap, ◌∙◌, arith}
use Rattle.std.specs.List.{position_from}
use Rattle.std.proofs.lemmas.Bool.Decides.{nat_tests}
use Rattle.std.proofs.lemmas.List.{take_more, get_or-map, length-map}
use Rattle.rsml_syntax.specs.declared.syntax.StateDecl.{StateDecl}
use Rattle.rsml_syntax.specs.text.Names.{Name, same, is_in, place_of}
use Rattle.rsml_syntax.specs.rules.Declarations.{is_below}

-- No place is below the one from which places are counted.
none_below : {A : Type 0} (t : A → Bool) (i place : ℕ) (xs : List A) → place ≤ i → is_below (position_from t i xs) place ≡ false
none_below t i place [] h = refl
none_below t i place (x ∷ xs) h = by (t x) (none_below t (i + 1) place xs (omega arith))
  where
    by : (b : Bool) → is_below (position_from t (i + 1) xs) place ≡ false → is_below (cond b (Some i) (position_from t (i + 1) xs)) place ≡ false
    by true e = grind (arith, nat_tests)
    by false e = e

-- There is such an element among the first so many where the first one is.
among_first : {A : Type 0} (t : A → Bool) (i count place : ℕ) (xs : List A) → place ≡ i + count → is_some (position_from t i (take count xs)) ≡ is_below (position_from t i xs) place
among_first t i zero place xs e = sym (none_below t i place xs (omega arith))
among_first t i (suc count) place [] e = refl
among_first t i (suc count) place (x ∷ xs) e = by (t x) (among_first t (i + 1) count place xs (omega arith))
  where
    by : (b : Bool) → is_some (position_from t (i + 1) (take count xs)) ≡ is_below (position_from t (i + 1) xs) place →
        is_some (cond b (Some i) (position_from t (i + 1) (take count xs))) ≡ is_below (cond b (Some i) (position_from t (i + 1) xs)) place
    by true h = grind (arith, nat_tests)
    by false h = h

-- A name is among the first so many where its first place is below their number.
pub is_earlier : (name : Name) (place : ℕ) (names : List Name) → is_in name (take place names) ≡ is_below (place_of name names) place
is_earlier name place names = among_first (same name) 0 place place names (omega arith)

-- The names of the first children, with that of the next one.
pub names_turn : (names : List Name) (cs : List StateDecl) (i : ℕ) (c : StateDecl) → names ≡ map (λ c. c.name) cs → i < length cs → c ≡ get_or cs i c →
    take (i + 1) names ≡ take i names ++ c.name ∷ []
names_turn names cs i c named h e =
    let name = λ (c : StateDecl). c.name in
    let longer : i < length names = omega (arith, ap (λ (ns : List Name). length ns) named, length-map cs name) in
    take_more names i c.name longer
    ∙ ap (λ (n : Name). take i names ++ n ∷ []) (ap (λ (ns : List Name). get_or ns i c.name) named ∙ get_or-map name cs i c c.name h ∙ ap name (sym e))
