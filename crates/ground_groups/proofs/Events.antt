-- The keys on each event.
use Rattle.std.proofs.Common.{◌≡◌, ℕ, ◌<◌, ◌≤◌, Bool, true, false, cond, ◌&&◌, List, [], ◌∷◌, ◌++◌, map, filter, length}
use Rattle.std.proofs.Common.{⊎_elim, refl, sym, ap, ◌∙◌, subst, get_or, slice_set, nat_eq, nat_lt, append-nil, arith}
use Rattle.std.proofs.lemmas.Bool.{cases_lt}
use Rattle.std.proofs.lemmas.Bool.Decides.{nat_tests}
use Rattle.std.proofs.lemmas.List.{get_or_past, get_or-map, get_or-set_same, get_or-set_other, length-map, map-set}
use Rattle.std.proofs.lemmas.List.Elements.{filter-append}
use Rattle.rsml_syntax.specs.declared.syntax.Spec.{Spec}
use Rattle.rsml_meaning.specs.Words.{Each, IsOne, on_one_line}
use Rattle.rsml_meaning.specs.Instances.{states}
use Rattle.rsml_meaning.proofs.Same.{nat_same, nat_itself}
use Rattle.state_tree.specs.Numbers.{path_of}
use Rattle.ground_groups.specs.declared.key.Key.{Key}
use Rattle.ground_groups.specs.Heads.{IsBefore, AreRising}
use Rattle.ground_groups.specs.Below.{AreThere, is_inside, below_of, on_event, AreByEvent}
use Rattle.ground_groups.proofs.Rising.{item_one}
use Rattle.ground_groups.proofs.Inside.{in_filter}

-- A part of the keys.

each_filter : {A : Type 0} (P : A → Type 0) (t : A → Bool) (xs : List A) → Each P xs → Each P (filter t xs)
each_filter P t [] h = tt
each_filter P t (x ∷ xs) h = by_test (t x) (each_filter P t xs h.1)
  where
    by_test : (b : Bool) → Each P (filter t xs) → Each P (cond b (x ∷ filter t xs) (filter t xs))
    by_test true g = (h.0, g)
    by_test false g = g

rising_filter : (t : Key → Bool) (xs : List Key) → AreRising xs → AreRising (filter t xs)
rising_filter t [] r = tt
rising_filter t (x ∷ xs) r = by_test (t x) (each_filter (IsBefore x) t xs r.0) (rising_filter t xs r.1)
  where
    by_test : (b : Bool) → Each (IsBefore x) (filter t xs) → AreRising (filter t xs) → AreRising (cond b (x ∷ filter t xs) (filter t xs))
    by_test true e g = (e, g)
    by_test false e g = g

-- where all that pass the second test pass the first, the part has them
filter_part : {A : Type 0} (t u : A → Bool) (xs : List A) → ((x : A) → t x ≡ false → u x ≡ false) → filter u (filter t xs) ≡ filter u xs
filter_part t u [] f = refl
filter_part t u (x ∷ xs) f = by_test (t x) refl (filter_part t u xs f)
  where
    by_test : (b : Bool) → b ≡ t x → filter u (filter t xs) ≡ filter u xs
        → filter u (cond b (x ∷ filter t xs) (filter t xs)) ≡ cond (u x) (x ∷ filter u xs) (filter u xs)
    by_test true e g = ap (λ ys. cond (u x) (x ∷ ys) ys) g
    by_test false e g = g ∙ sym (ap (λ b. cond b (x ∷ filter u xs) (filter u xs)) (f x (sym e)))

-- The keys on an event.

pub there_on : (s : Spec) (keys : List Key) (event : ℕ) (list : List Key) → list ≡ on_event event keys → AreThere s keys → AreThere s list
there_on s keys event list e h =
    subst (AreThere s) (sym e) (each_filter (λ q. q.owner < length (states s)) (λ q. nat_eq q.event event) keys h)

pub rising_on : (keys : List Key) (event : ℕ) (list : List Key) → list ≡ on_event event keys → AreRising keys → AreRising list
rising_on keys event list e r = subst AreRising (sym e) (rising_filter (λ q. nat_eq q.event event) keys r)

-- among the keys on its event are all that are inside
pub below_on : (s : Spec) (keys : List Key) (key : Key) (list : List Key) → list ≡ on_event key.event keys
    → below_of s list key ≡ below_of s keys key
below_on s keys key list e = ap (λ ks. below_of s ks key) e
    ∙ ap (map (λ q. q.owner)) (filter_part (λ q. nat_eq q.event key.event) (is_inside s key) keys
    (λ q h. ap (λ b. b && (nat_lt key.owner q.owner && on_one_line (path_of s key.owner) (path_of s q.owner))) h))

-- Lists by event.

-- the event of a key has a list
pub has_list : {A : Type 0} (f : A → List Key) (keys : List Key) (xs : List A) (i : ℕ) (d : Key) → AreByEvent keys (map f xs)
    → i < length keys → (get_or keys i d).event < length xs
has_list f keys xs i d are l = ⊎_elim (λ n. n) (λ n. absurd (subst (IsOne key) (none n) one)) (cases_lt key.event (length xs))
  where
    key : Key
    key = get_or keys i d

    one : IsOne key (on_event key.event keys)
    one = in_filter (λ q. nat_eq q.event key.event) keys key (item_one keys i d l) (nat_itself key.event)

    none : length xs ≤ key.event → on_event key.event keys ≡ []
    none n = sym (are key.event) ∙ get_or_past (map f xs) key.event [] (let e = length-map xs f in omega (arith, e, n))

-- which has the keys on it
pub list_on : {A : Type 0} (f : A → List Key) (keys : List Key) (xs : List A) (i : ℕ) (d : Key) (v : A) (list : List Key)
    → AreByEvent keys (map f xs) → i < length keys → v ≡ get_or xs (get_or keys i d).event v → list ≡ f v
    → list ≡ on_event (get_or keys i d).event keys
list_on f keys xs i d v list are l e h =
    let event = (get_or keys i d).event in
    h ∙ ap f e ∙ sym (get_or-map f xs event v [] (has_list f keys xs i d are l)) ∙ are event

-- one more key, at the end of the list of its event
pub put_more : {A : Type 0} (f : A → List Key) (xs : List A) (key : Key) (old new : A) (keys : List Key) → key.event < length xs
    → old ≡ get_or xs key.event old → f new ≡ f old ++ key ∷ [] → AreByEvent keys (map f xs)
    → AreByEvent (keys ++ key ∷ []) (map f (slice_set xs key.event new))
put_more f xs key old new keys l e h are event =
    ap (λ ls. get_or ls event []) (map-set f xs key.event new)
    ∙ by_test (nat_eq key.event event) refl
    ∙ ap (λ ks. ks ++ on_event event (key ∷ [])) (are event)
    ∙ sym (filter-append (λ q. nat_eq q.event event) keys (key ∷ []))
  where
    within : key.event < length (map f xs)
    within = let n = length-map xs f in omega (arith, l, n)

    here : get_or (slice_set (map f xs) key.event (f new)) key.event [] ≡ get_or (map f xs) key.event [] ++ key ∷ []
    here =
        get_or-set_same (map f xs) key.event (f new) [] within
        ∙ h
        ∙ ap (λ ks. ks ++ key ∷ []) (ap f e ∙ sym (get_or-map f xs key.event old [] l))

    apart : false ≡ nat_eq key.event event → event ≡ key.event → ⊥
    apart g k = grind (arith, nat_tests)

    by_test : (b : Bool) → b ≡ nat_eq key.event event
        → get_or (slice_set (map f xs) key.event (f new)) event [] ≡ get_or (map f xs) event [] ++ cond b (key ∷ []) []
    by_test true g =
        subst (λ n. get_or (slice_set (map f xs) key.event (f new)) n [] ≡ get_or (map f xs) n [] ++ key ∷ [])
        (nat_same key.event event (sym g)) here
    by_test false g =
        get_or-set_other (map f xs) key.event event (f new) [] (apart g) ∙ sym (append-nil (get_or (map f xs) event []))
