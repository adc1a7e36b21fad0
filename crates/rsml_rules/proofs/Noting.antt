-- Noting one list of breaches after another; what is noted last is the lowest.
use Rattle.std.proofs.Common.{add-one, sym, ◌≤◌, ◌≡◌, ℕ, suc, ◌+◌, ◌<◌, length, drop, get_or, drop-cons, ap, ◌∙◌, List, [], ◌∷◌, ◌++◌, Option, Some, refl}
use Rattle.std.specs.Prelude.{flat_map, nat_lt, None, option_and_then}
use Rattle.std.proofs.Common.{Bool, true, false, cond, min, eqb, map, arith, eq-eqb, ne_eqb, eqb-true, ltb-true, ltb-false, subst, true≢false}
use Rattle.std.specs.List.{fold}
use Rattle.std.proofs.lemmas.List.{drop_all}
use Rattle.rsml_syntax.specs.rules.Breaches.{Breach, first_breach, lowest}
use Rattle.rsml_rules.specs.breaches.Noting.{noted, lower}

pub noted_append : (worst : Option Breach) (xs ys : List Breach) → noted worst (xs ++ ys) ≡ noted (noted worst xs) ys
noted_append worst [] ys = refl
noted_append worst (x ∷ xs) ys = noted_append (lower worst (Some x)) xs ys

-- One turn of a loop over items: what is still to note is that of the item, and then of those behind it.
pub noted_turn : {A : Type 0} (f : A → List Breach) (worst : Option Breach) (xs : List A) (i : ℕ) (x : A) → i < length xs → x ≡ get_or xs i x →
    noted worst (flat_map f (drop i xs)) ≡ noted (noted worst (f x)) (flat_map f (drop (i + 1) xs))
noted_turn f worst xs i x h e =
    rw (add-one, drop-cons xs i x h) (noted_append worst (f (get_or xs i x)) (flat_map f (drop (suc i) xs)) ∙ ap (λ y. noted (noted worst (f y)) (flat_map f (drop (suc i) xs))) (sym e))

-- At the end of a loop nothing is still to note.
pub noted_end : {A : Type 0} (f : A → List Breach) (worst : Option Breach) (xs : List A) (i : ℕ) → length xs ≤ i → noted worst (flat_map f (drop i xs)) ≡ worst
noted_end f worst xs i h = ap (λ ys. noted worst (flat_map f ys)) (drop_all i xs h)

-- The same as a step of a loop.
pub noted_step : {A : Type 0} (f : A → List Breach) (worst new all : Option Breach) (xs : List A) (i : ℕ) (x : A) → i < length xs → x ≡ get_or xs i x →
    new ≡ noted worst (f x) → noted worst (flat_map f (drop i xs)) ≡ all → noted new (flat_map f (drop (i + 1) xs)) ≡ all
noted_step f worst new all xs i x h e now before = ap (λ w. noted w (flat_map f (drop (i + 1) xs))) now ∙ sym (noted_turn f worst xs i x h e) ∙ before

pub ruleset noting = (noted_append, noted_end)

-- THE LOWEST

abbrev rules : List Breach → List ℕ
rules bs = map (λ b. b.rule) bs

least_within : (n : ℕ) (ns : List ℕ) → fold min n ns ≤ n
least_within n [] = omega arith
least_within n (m ∷ ns) = let le = least_within (min n m) ns in omega (arith, le)

skips : (rule : ℕ) (a : Breach) (bs : List Breach) → rule < a.rule → first_breach rule (a ∷ bs) ≡ first_breach rule bs
skips rule a bs h = let e : eqb a.rule rule ≡ false = ne_eqb a.rule rule (λ e. omega (arith, h, e)) in ap (λ t. cond t (Some a) (first_breach rule bs)) e

-- a breach between two of which the first is not of a higher rule is not the first of the least rule
passes : (rule : ℕ) (a c : Breach) (bs : List Breach) → rule ≤ a.rule → a.rule ≤ c.rule → first_breach rule (a ∷ bs) ≡ first_breach rule (a ∷ c ∷ bs)
passes rule a c bs h k = by (eqb a.rule rule) refl
  where
    by : (t : Bool) → eqb a.rule rule ≡ t → cond t (Some a) (first_breach rule bs) ≡ cond t (Some a) (first_breach rule (c ∷ bs))
    by true e = refl
    by false e = sym (skips rule c bs (let ne : a.rule ≡ rule → ⊥ = λ q. absurd (true≢false (sym (eq-eqb a.rule rule q) ∙ e)) in omega (arith, h, k, ne)))

-- what is noted after a breach is the first one of the least rule
abbrev After : Breach → List Breach → Type 0
After a bs = noted (Some a) bs ≡ first_breach (fold min a.rule (rules bs)) (a ∷ bs)

noted_after : (a : Breach) (bs : List Breach) → After a bs
noted_after a [] = sym (ap (λ t. cond t (Some a) None) (eq-eqb a.rule a.rule refl))
noted_after a (c ∷ cs) = by (nat_lt c.rule a.rule) refl (noted_after a cs) (noted_after c cs)
  where
    by : (t : Bool) → nat_lt c.rule a.rule ≡ t → After a cs → After c cs → noted (cond t (Some c) (Some a)) cs ≡ first_breach (fold min (min a.rule c.rule) (rules cs)) (a ∷ c ∷ cs)
    by true e _ after =
        let less : c.rule < a.rule = ltb-true c.rule a.rule e in
        let least : c.rule ≡ min a.rule c.rule = omega (arith, less) in
        let within = least_within c.rule (rules cs) in
        after
        ∙ sym (skips (fold min c.rule (rules cs)) a (c ∷ cs) (omega (arith, less, within)))
        ∙ ap (λ n. first_breach (fold min n (rules cs)) (a ∷ c ∷ cs)) least
    by false e after _ =
        let le : a.rule ≤ c.rule = ltb-false c.rule a.rule e in
        let least : a.rule ≡ min a.rule c.rule = omega (arith, le) in
        after
        ∙ passes (fold min a.rule (rules cs)) a c cs (least_within a.rule (rules cs)) le
        ∙ ap (λ n. first_breach (fold min n (rules cs)) (a ∷ c ∷ cs)) least

-- what is noted of all breaches is the lowest
pub noted_lowest : (bs : List Breach) → noted None bs ≡ lowest bs
noted_lowest [] = refl
noted_lowest (b ∷ bs) = noted_after b bs
