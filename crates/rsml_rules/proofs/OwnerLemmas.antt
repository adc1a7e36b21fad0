-- An owner with some guards and sums, and then with more.
use Rattle.std.proofs.Common.{◌≡◌, ℕ, suc, ◌+◌, ◌<◌, Bool, true, false, ◌&&◌, ◌||◌, List, [], ◌∷◌, ◌++◌, length, drop, get_or, drop-cons, add-one, refl, sym, ap, ◌∙◌, subst}
use Rattle.std.specs.List.{list_all, list_any}
use Rattle.std.proofs.lemmas.List.Folds.{list_all-append, list_any-append}
use Rattle.rsml_syntax.specs.declared.syntax.Guard.{Guard}
use Rattle.rsml_syntax.specs.declared.syntax.Sum.{Sum}
use Rattle.rsml_syntax.specs.rules.Globals.{Globals}
use Rattle.rsml_syntax.specs.rules.Kinds.{has_kind}
use Rattle.rsml_syntax.specs.rules.Owners.{guard_kinds_match, guard_is_table, guard_is_long, is_long}
use Rattle.rsml_rules.specs.declared.breaches.owner.Owner.{Owner}
use Rattle.rsml_rules.specs.breaches.Owned.{with_all}

-- TESTS

and_same : (a : Bool) → (a && true) ≡ a
and_same true = refl
and_same false = refl

or_same : (a : Bool) → (a || false) ≡ a
or_same true = refl
or_same false = refl

and_again : (a b c : Bool) → ((a && b) && c) ≡ (a && (b && c))
and_again true b c = refl
and_again false b c = refl

and_pairs : (k a b c d : Bool) → ((k && (a && b)) && (c && d)) ≡ (k && ((a && c) && (b && d)))
and_pairs false a b c d = refl
and_pairs true false b c d = refl
and_pairs true true true c d = refl
and_pairs true true false true d = refl
and_pairs true true false false d = refl

or_pairs : (k a b c d : Bool) → ((k || (a || b)) || (c || d)) ≡ (k || ((a || c) || (b || d)))
or_pairs true a b c d = refl
or_pairs false true b c d = refl
or_pairs false false false c d = refl
or_pairs false false true true d = refl
or_pairs false false true false d = refl

or_again : (a b c : Bool) → ((a || b) || c) ≡ (a || (b || c))
or_again true b c = refl
or_again false b c = refl

-- OWNERS

-- with no guards and no sums more
pub with_none : (g : Globals) (o : Owner) → with_all g o [] [] ≡ o
with_none g o = λ j. record { kinds_match = and_same o.kinds_match j; are_tables = and_same o.are_tables j; is_long = or_same o.is_long j }

-- with some, and then with more
pub with_more : (g : Globals) (o : Owner) (gs hs : List Guard) (ss ts : List Sum) → with_all g (with_all g o gs ss) hs ts ≡ with_all g o (gs ++ hs) (ss ++ ts)
with_more g o gs hs ss ts =
    let kinds = and_pairs o.kinds_match (list_all (guard_kinds_match g) gs) (list_all (has_kind g) ss) (list_all (guard_kinds_match g) hs) (list_all (has_kind g) ts)
    ∙ (λ j. o.kinds_match && (sym (list_all-append (guard_kinds_match g) gs hs) j && sym (list_all-append (has_kind g) ss ts) j)) in
    let tables = and_again o.are_tables (list_all guard_is_table gs) (list_all guard_is_table hs) ∙ ap (λ b. o.are_tables && b) (sym (list_all-append guard_is_table gs hs)) in
    let long = or_pairs o.is_long (list_any guard_is_long gs) (list_any is_long ss) (list_any guard_is_long hs) (list_any is_long ts)
    ∙ (λ j. o.is_long || (sym (list_any-append guard_is_long gs hs) j || sym (list_any-append is_long ss ts) j)) in
    λ j. record { kinds_match = kinds j; are_tables = tables j; is_long = long j }

-- a turn of a loop
pub with_turn : (g : Globals) (o new all : Owner) (gs hs : List Guard) (ss ts : List Sum) →
    new ≡ with_all g o gs ss → with_all g o (gs ++ hs) (ss ++ ts) ≡ all → with_all g new hs ts ≡ all
with_turn g o new all gs hs ss ts now before = ap (λ (x : Owner). with_all g x hs ts) now ∙ with_more g o gs hs ss ts ∙ before

-- what is left of a list at a turn
pub split : {A : Type 0} (xs : List A) (i : ℕ) (x : A) → i < length xs → x ≡ get_or xs i x → drop i xs ≡ x ∷ drop (i + 1) xs
split xs i x h e = rw (add-one, drop-cons xs i x h) (ap (λ y. y ∷ drop (suc i) xs) (sym e))
