-- Transitions with active sources, no two of which lie on one line, can be entered one after another, in any order.
use Rattle.std.proofs.Common.{◌≡◌, ℕ, List, [], ◌∷◌, map, zip, fold, filter_map, Option, Some, None, unwrap_or, ◌⊎◌, inl, inr, refl, sym, ap, ◌∙◌, subst, IsPermutation}
use Rattle.std.specs.List.{cons_option, AllByRecursion}
use Rattle.std.proofs.lemmas.List.Sorted.{All-permutation, IsPermutation-sym}
use Rattle.std.proofs.lemmas.List.Elements.{All-from_recursion, recursion_from_All}
use Rattle.rsml_syntax.specs.declared.syntax.Spec.{Spec}
use Rattle.rsml_meaning.specs.Words.{Each, IsOne, AllThree, Path}
use Rattle.rsml_meaning.specs.Instances.{Component, components}
use Rattle.rsml_meaning.specs.Active.{enter, given}
use Rattle.rsml_meaning.specs.Transitions.{TransitionInstance}
use Rattle.rsml_meaning.specs.Steps.{given_by, or_kept, outcomes}
use Rattle.rsml_meaning.specs.Turns.{after_one, after_all}
use Rattle.rsml_meaning.specs.RunLaws.{OrderDoesNotMatter}
use Rattle.rsml_meaning.proofs.Sources.{each_active}
use Rattle.rsml_meaning.proofs.Apart.{Gift, nothing, single, gift, only_one}

-- What a component gets in turn.

-- what one transition leaves a component, and what several leave it in turn
abbrev left_by : TransitionInstance → Component × ℕ → ℕ
left_by t c = unwrap_or (given_by c.0 t) c.1

abbrev turn : List TransitionInstance → Component × ℕ → ℕ
turn ts c = fold (λ n t. unwrap_or (given_by c.0 t) n) c.1 ts

abbrev Long : List Component → List ℕ → Type 0
Long cs ns = map (λ (c : Component × ℕ). c.1) (zip cs ns) ≡ ns

still_long : (g : Component × ℕ → ℕ) (cs : List Component) (ns : List ℕ) → Long cs (map g (zip cs ns))
still_long g [] ns = refl
still_long g (c ∷ cs) [] = refl
still_long g (c ∷ cs) (n ∷ ns) = ap (λ z. g (c, n) ∷ z) (still_long g cs ns)

map_after : (f g : Component × ℕ → ℕ) (cs : List Component) (ns : List ℕ) → map f (zip cs (map g (zip cs ns))) ≡ map (λ (c : Component × ℕ). f (c.0, g c)) (zip cs ns)
map_after f g [] ns = refl
map_after f g (c ∷ cs) [] = refl
map_after f g (c ∷ cs) (n ∷ ns) = ap (λ z. f (c, g (c, n)) ∷ z) (map_after f g cs ns)

one_turn : (s : Spec) (t : TransitionInstance) (ns : List ℕ) → Long (components s) ns → after_one s ns t ≡ map (left_by t) (zip (components s) ns)
one_turn s t ns l = by_target t.target
  where
    by_target : (o : Option Path) → elim o [ None ↦ ns | Some target ↦ enter s t.component target ns ]
        ≡ map (λ (c : Component × ℕ). unwrap_or (elim o [ None ↦ None | Some target ↦ given t.component target c.0 ]) c.1) (zip (components s) ns)
    by_target None = sym l
    by_target (Some target) = refl

all_turns : (s : Spec) (ts : List TransitionInstance) (ns : List ℕ) → Long (components s) ns → after_all s ts ns ≡ map (turn ts) (zip (components s) ns)
all_turns s [] ns l = sym l
all_turns s (t ∷ ts) ns l =
    ap (after_all s ts) (one_turn s t ns l)
    ∙ all_turns s ts (map (left_by t) (zip (components s) ns)) (still_long (left_by t) (components s) ns)
    ∙ map_after (turn ts) (left_by t) (components s) ns

-- What all transitions give a component.

abbrev GivesNone : Component → TransitionInstance → Type 0
GivesNone c t = given_by c t ≡ None

abbrev GivesAtMost : Component → ℕ → TransitionInstance → Type 0
GivesAtMost c m t = (given_by c t ≡ None) ⊎ (given_by c t ≡ Some m)

all_none : (c : Component) (ts : List TransitionInstance) → filter_map (given_by c) ts ≡ [] → Each (GivesNone c) ts
all_none c [] h = tt
all_none c (t ∷ ts) h = by_gift (given_by c t) refl h (all_none c ts)
  where
    by_gift : (o : Option ℕ) → given_by c t ≡ o → cons_option o (filter_map (given_by c) ts) ≡ [] → (filter_map (given_by c) ts ≡ [] → Each (GivesNone c) ts) → (given_by c t ≡ None) × Each (GivesNone c) ts
    by_gift None e k rest = (e, rest k)
    by_gift (Some n) e k rest = cc

at_most : (c : Component) (m : ℕ) (ts : List TransitionInstance) → filter_map (given_by c) ts ≡ m ∷ [] → Each (GivesAtMost c m) ts
at_most c m [] h = tt
at_most c m (t ∷ ts) h = by_gift (given_by c t) refl h (at_most c m ts) (all_none c ts)
  where
    weaker : (us : List TransitionInstance) → Each (GivesNone c) us → Each (GivesAtMost c m) us
    weaker [] k = tt
    weaker (u ∷ us) k = (inl k.0, weaker us k.1)

    by_gift : (o : Option ℕ) → given_by c t ≡ o → cons_option o (filter_map (given_by c) ts) ≡ m ∷ []
        → (filter_map (given_by c) ts ≡ m ∷ [] → Each (GivesAtMost c m) ts) → (filter_map (given_by c) ts ≡ [] → Each (GivesNone c) ts) → GivesAtMost c m t × Each (GivesAtMost c m) ts
    by_gift None e k more none = (inl e, more k)
    by_gift (Some n) e k more none =
        let same : n ≡ m = cc in
        let rest : filter_map (given_by c) ts ≡ [] = cc in
        (inr (e ∙ ap (λ z. Some z) same), weaker ts (none rest))

none_given : (c : Component) (ts : List TransitionInstance) → Each (GivesNone c) ts → filter_map (given_by c) ts ≡ []
none_given c [] h = refl
none_given c (t ∷ ts) h = ap (λ o. cons_option o (filter_map (given_by c) ts)) h.0 ∙ none_given c ts h.1

none_turns : (c : Component) (n : ℕ) (ts : List TransitionInstance) → Each (GivesNone c) ts → turn ts (c, n) ≡ n
none_turns c n [] h = refl
none_turns c n (t ∷ ts) h = ap (λ o. turn ts (c, unwrap_or o n)) h.0 ∙ none_turns c n ts h.1

-- where each gives m or nothing, none gives anything or m is left
one_turns : (c : Component) (m n : ℕ) (ts : List TransitionInstance) → Each (GivesAtMost c m) ts → Each (GivesNone c) ts ⊎ (turn ts (c, n) ≡ m)
one_turns c m n [] h = inl tt
one_turns c m n (t ∷ ts) h = by_first h.0 (one_turns c m n ts h.1) (one_turns c m m ts h.1)
  where
    by_first : GivesAtMost c m t → Each (GivesNone c) ts ⊎ (turn ts (c, n) ≡ m) → Each (GivesNone c) ts ⊎ (turn ts (c, m) ≡ m) → ((given_by c t ≡ None) × Each (GivesNone c) ts) ⊎ (turn ts (c, unwrap_or (given_by c t) n) ≡ m)
    by_first (inl e) (inl k) rest = inl (e, k)
    by_first (inl e) (inr k) rest = inr (ap (λ o. turn ts (c, unwrap_or o n)) e ∙ k)
    by_first (inr e) k (inl none) = inr (ap (λ o. turn ts (c, unwrap_or o n)) e ∙ none_turns c m ts none)
    by_first (inr e) k (inr rest) = inr (ap (λ o. turn ts (c, unwrap_or o n)) e ∙ rest)

-- Any order.

to_recursion : {A : Type 0} (P : A → Type 0) (xs : List A) → Each P xs → AllByRecursion P xs
to_recursion P [] h = tt
to_recursion P (x ∷ xs) h = (h.0, to_recursion P xs h.1)

from_recursion : {A : Type 0} (P : A → Type 0) (xs : List A) → AllByRecursion P xs → Each P xs
from_recursion P [] h = tt
from_recursion P (x ∷ xs) h = (h.0, from_recursion P xs h.1)

in_order : {A : Type 0} (P : A → Type 0) (xs ys : List A) → IsPermutation xs ys → Each P xs → Each P ys
in_order P xs ys p h = from_recursion P ys (recursion_from_All P ys (All-permutation P xs ys p (All-from_recursion P xs (to_recursion P xs h))))

one_place : (c : Component) (n m : ℕ) (taken ts : List TransitionInstance) → Gift c taken → IsPermutation taken ts → IsOne m (outcomes taken c n) → m ≡ turn ts (c, n)
one_place c n m taken ts (nothing e) p k =
    only_one n m (subst (λ z. IsOne m (or_kept n z)) e k) ∙ sym (none_turns c n ts (in_order (GivesNone c) taken ts p (all_none c taken e)))
one_place c n m taken ts (single j e) p k =
    only_one j m (subst (λ z. IsOne m (or_kept n z)) e k) ∙ sym (by_turns (one_turns c j n ts (in_order (GivesAtMost c j) taken ts p (at_most c j taken e))))
  where
    by_turns : Each (GivesNone c) ts ⊎ (turn ts (c, n) ≡ j) → turn ts (c, n) ≡ j
    by_turns (inl none) =
        let gone = none_given c taken (in_order (GivesNone c) ts taken (IsPermutation-sym taken ts p) none) in
        cc
    by_turns (inr is) = is

all_places : (taken ts : List TransitionInstance) → ((c : Component) → Gift c taken) → IsPermutation taken ts → (cs : List Component) (ns ms : List ℕ)
    → AllThree (λ c old new. IsOne new (outcomes taken c old)) cs ns ms → map (turn ts) (zip cs ns) ≡ ms
all_places taken ts g p [] [] [] h = refl
all_places taken ts g p (c ∷ cs) (n ∷ ns) (m ∷ ms) h = λ i. sym (one_place c n m taken ts (g c) p h.0) i ∷ all_places taken ts g p cs ns ms h.1 i
all_places taken ts g p [] [] (m ∷ ms) h = elim h [ ]
all_places taken ts g p [] (n ∷ ns) ms h = elim h [ ]
all_places taken ts g p (c ∷ cs) [] ms h = elim h [ ]
all_places taken ts g p (c ∷ cs) (n ∷ ns) [] h = elim h [ ]

as_long : (R : Component → ℕ → ℕ → Type 0) (cs : List Component) (ns ms : List ℕ) → AllThree R cs ns ms → Long cs ns
as_long R [] [] [] h = refl
as_long R (c ∷ cs) (n ∷ ns) (m ∷ ms) h = ap (λ z. n ∷ z) (as_long R cs ns ms h.1)
as_long R [] [] (m ∷ ms) h = elim h [ ]
as_long R [] (n ∷ ns) ms h = elim h [ ]
as_long R (c ∷ cs) [] ms h = elim h [ ]
as_long R (c ∷ cs) (n ∷ ns) [] h = elim h [ ]

pub order_does_not_matter : OrderDoesNotMatter
order_does_not_matter s w taken ts choices are apart p h =
    let cs = zip (components s) w.choices in
    let on = each_active s w (λ c old new. IsOne new (outcomes taken c old)) choices h taken are in
    all_turns s ts w.choices (as_long (λ c old new. IsOne new (outcomes taken c old)) (components s) w.choices choices h)
    ∙ all_places taken ts (λ c. gift cs c taken on apart) p (components s) w.choices choices h
