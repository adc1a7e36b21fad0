-- The first world: a move of each component to the top state gives each its default child.
use Rattle.std.proofs.Common.{◌≡◌, ℕ, zero, suc, ◌≤◌, ◌<◌, Bool, true, false, ◌&&◌, List, [], ◌∷◌, map, filter_map, replicate, length, zip, Option, Some, None, ℤ, if◌then◌else◌, unwrap_or, inl, inr, ◌⊎◌, refl, sym, ap, ◌∙◌, subst, slice_get, slice_index_or, is_some, true≢false, arith, nat_lt, ◌+◌, IsTrue}
use Rattle.std.specs.List.{cons_option, position_from}
use Rattle.std.specs.Cmp.Lexicographic.{pointwise}
use Rattle.std.proofs.lemmas.Bool.Decides.{nat_tests}
use Rattle.std.proofs.lemmas.Option.{same_Some}
use Rattle.rsml_syntax.specs.declared.syntax.Spec.{Spec}
use Rattle.rsml_syntax.specs.text.Names.{Name, same, place_of, is_in}
use Rattle.rsml_syntax.specs.limits.Checked.{IsChecked}
use Rattle.rsml_meaning.specs.Words.{Each, IsOne, Path, at, is_prefix, is_proper_prefix}
use Rattle.rsml_meaning.specs.Instances.{State, Component, states, components}
use Rattle.rsml_meaning.specs.Active.{child_place, entered, given_or_kept, enter}
use Rattle.rsml_meaning.specs.Cells.{InputCell, cells, is_of}
use Rattle.rsml_meaning.specs.Worlds.{IsWorld, is_choice}
use Rattle.rsml_meaning.specs.Runs.{first_world}
use Rattle.rsml_meaning.proofs.Prefixes.{prefix_self}
use Rattle.rsml_meaning.specs.Scoped.{WellScoped}
use Rattle.rsml_meaning.proofs.Lists.{both}
use Rattle.rsml_meaning.proofs.rules.Scoped.{rules_give_scopes}
use Rattle.state_tree.specs.Numbers.{path_of, component_path}
use Rattle.state_tree.proofs.Lists.{get_map, place_of_one, within_get}
use Rattle.state_tree.proofs.Goods.{good_at}
use Rattle.state_tree.proofs.Spread.{some_steps}
use Rattle.state_tree.proofs.Entry.{component_path_is}

-- the place of the default child
abbrev pub default_place : Component → ℕ
default_place c = child_place c c.default

abbrev HasSteps : Component → Type 0
HasSteps c = 1 ≤ length c.path

-- Each component has a path with a step.

of_states : (xs : List State) → ((x : State) (c : Component) → IsOne x xs → x.component ≡ Some c → HasSteps c) → Each HasSteps (filter_map (λ x. x.component) xs)
of_states [] h = tt
of_states (x ∷ xs) h = by x.component refl (of_states xs (λ y c m e. h y c (inr m) e))
  where
    by : (o : Option Component) → x.component ≡ o → Each HasSteps (filter_map (λ y. y.component) xs) → Each HasSteps (cons_option o (filter_map (λ y. y.component) xs))
    by None e k = k
    by (Some c) e k = (h x c (inl refl) e, k)

steps_of : (s : Spec) → IsChecked s → (x : State) (c : Component) → IsOne x (states s) → x.component ≡ Some c → HasSteps c
steps_of s h x c m e =
    let r = place_of_one (states s) x m in
    subst (λ (p : Path). 1 ≤ length p) (sym (good_at s h r.0 x c r.1 e).here)
    (some_steps s h r.0 x.path (get_map (λ (y : State). y.path) (states s) r.0 x r.1))

all_have_steps : (s : Spec) → IsChecked s → Each HasSteps (components s)
all_have_steps s h = of_states (states s) (steps_of s h)

-- A move to a target of one step.

not_both : (a b : Bool) → b ≡ false → (a && b) ≡ false
not_both true b h = h
not_both false b h = refl

enters_default : (target : Path) (c : Component) → length target ≡ 1 → HasSteps c → entered target c ≡ c.default
enters_default target c one h =
    let past : nat_lt (length c.path) (length target) ≡ false = grind (arith, nat_tests) in
    by (is_proper_prefix c.path target) (not_both (is_prefix c.path target) (nat_lt (length c.path) (length target)) past)
  where
    by : (b : Bool) → b ≡ false → (if b then (slice_index_or target (length c.path) (at c.default 0)).name else c.default) ≡ c.default
    by true e = absurd (true≢false e)
    by false e = refl

gives_default : (moving target : Path) (c : Component) (n : ℕ) → length target ≡ 1 → HasSteps c → is_prefix moving c.path ≡ true → given_or_kept moving target (c, n) ≡ default_place c
gives_default moving target c n one h p =
    ap (λ (b : Bool). unwrap_or (if b then Some (child_place c (entered target c)) else None) n) p
    ∙ ap (λ (name : Name). child_place c name) (enters_default target c one h)

stays_default : (moving target : Path) (c : Component) (n : ℕ) → length target ≡ 1 → HasSteps c → n ≡ default_place c → given_or_kept moving target (c, n) ≡ default_place c
stays_default moving target c n one h e = by (is_prefix moving c.path)
  where
    by : (b : Bool) → unwrap_or (if b then Some (child_place c (entered target c)) else None) n ≡ default_place c
    by true = ap (λ (name : Name). child_place c name) (enters_default target c one h)
    by false = e

-- so many components have their default child
abbrev pub Begun : ℕ → List Component → List ℕ → Type 0
Begun k [] [] = Unit {0}
Begun zero (c ∷ cs) (n ∷ ns) = Begun zero cs ns
Begun (suc k) (c ∷ cs) (n ∷ ns) = (n ≡ default_place c) × Begun k cs ns
Begun k [] (n ∷ ns) = ⊥
Begun k (c ∷ cs) [] = ⊥

pub none_begun : (cs : List Component) → Begun 0 cs (replicate (length cs) 0)
none_begun [] = tt
none_begun (c ∷ cs) = none_begun cs

pub begun_long : (k : ℕ) (cs : List Component) (ns : List ℕ) → Begun k cs ns → length ns ≡ length cs
begun_long k [] [] h = refl
begun_long zero (c ∷ cs) (n ∷ ns) h = ap suc (begun_long zero cs ns h)
begun_long (suc k) (c ∷ cs) (n ∷ ns) h = ap suc (begun_long k cs ns h.1)
begun_long k [] (n ∷ ns) h = absurd h
begun_long zero (c ∷ cs) [] h = absurd h
begun_long (suc k) (c ∷ cs) [] h = absurd h

after_move : (moving target : Path) (k : ℕ) (cs : List Component) (ns : List ℕ) → length target ≡ 1 → Each HasSteps cs → Begun k cs ns → Begun k cs (map (given_or_kept moving target) (zip cs ns))
after_move moving target k [] [] one e h = tt
after_move moving target zero (c ∷ cs) (n ∷ ns) one e h = after_move moving target zero cs ns one e.1 h
after_move moving target (suc k) (c ∷ cs) (n ∷ ns) one e h = (stays_default moving target c n one e.0 h.0, after_move moving target k cs ns one e.1 h.1)
after_move moving target k [] (n ∷ ns) one e h = absurd h
after_move moving target zero (c ∷ cs) [] one e h = absurd h
after_move moving target (suc k) (c ∷ cs) [] one e h = absurd h

one_more : (target : Path) (k : ℕ) (cs : List Component) (ns : List ℕ) (d : Component) → length target ≡ 1 → Each HasSteps cs → slice_get cs k ≡ Some d → Begun k cs ns → Begun (suc k) cs (map (given_or_kept d.path target) (zip cs ns))
one_more target k [] ns d one e q h = absurd (let no : ⊥ = cc in no)
one_more target zero (c ∷ cs) [] d one e q h = absurd h
one_more target (suc k) (c ∷ cs) [] d one e q h = absurd h
one_more target zero (c ∷ cs) (n ∷ ns) d one e q h =
    let here : is_prefix d.path c.path ≡ true = subst (λ (x : Component). is_prefix x.path c.path ≡ true) (same_Some c d q) (prefix_self c.path) in
    (gives_default d.path target c n one e.0 here, after_move d.path target zero cs ns one e.1 h)
one_more target (suc k) (c ∷ cs) (n ∷ ns) d one e q h = (stays_default d.path target c n one e.0 h.0, one_more target k cs ns d one e.1 q h.1)

-- each move to the top state gives one more component its default child
pub begun_more : (s : Spec) (k : ℕ) (old new : List ℕ) → IsChecked s → k < length (components s) → Begun k (components s) old → new ≡ enter s (component_path s k) (path_of s 0) old → Begun (suc k) (components s) new
begun_more s k old new h below begun e =
    let r = within_get (components s) k below in
    subst (Begun (suc k) (components s))
    (sym (e ∙ ap (λ (p : Path). enter s p (path_of s 0) old) (component_path_is s k r.0 r.1)))
    (one_more (path_of s 0) k (components s) old r.0 refl (all_have_steps s h) r.1 begun)

pub all_begun : (k : ℕ) (cs : List Component) (ns : List ℕ) → length cs ≤ k → Begun k cs ns → ns ≡ map default_place cs
all_begun k [] [] l h = refl
all_begun zero (c ∷ cs) (n ∷ ns) l h = absurd (omega (arith, l))
all_begun (suc k) (c ∷ cs) (n ∷ ns) l h = let here = h.0 in let there = all_begun k cs ns (omega (arith, l)) h.1 in λ i. here i ∷ there i
all_begun k [] (n ∷ ns) l h = absurd h
all_begun zero (c ∷ cs) [] l h = absurd h
all_begun (suc k) (c ∷ cs) [] l h = absurd h

-- The first world is a world.

position_below : {A : Type 0} (t : A → Bool) (i k : ℕ) (xs : List A) → position_from t i xs ≡ Some k → k < i + length xs
position_below t i k [] h = cc
position_below t i k (x ∷ xs) h = by (t x) h (position_below t (i + 1) k xs)
  where
    by : (b : Bool) → (if b then Some i else position_from t (i + 1) xs) ≡ Some k → (position_from t (i + 1) xs ≡ Some k → k < i + 1 + length xs) → k < i + suc (length xs)
    by true e rest = let q : i ≡ k = cc in omega (arith, q)
    by false e rest = let l = rest e in omega (arith, l)

default_is_choice : (c : Component) → is_in c.default c.children ≡ true → is_choice c (default_place c) ≡ true
default_is_choice c h = by (place_of c.default c.children) refl h
  where
    by : (o : Option ℕ) → place_of c.default c.children ≡ o → is_some o ≡ true → nat_lt (unwrap_or o 0) (length c.children) ≡ true
    by None e i = absurd (true≢false (sym i))
    by (Some k) e i = let l = position_below (same c.default) 0 k c.children e in grind (arith, nat_tests)

default_choices : (cs : List Component) → Each (λ c. IsTrue (is_in c.default c.children)) cs → pointwise is_choice cs (map default_place cs) ≡ true
default_choices [] h = refl
default_choices (c ∷ cs) h = both (is_choice c (default_place c)) (pointwise is_choice cs (map default_place cs)) (default_is_choice c h.0) (default_choices cs h.1)

initial_numbers : (cs : List InputCell) → Each (λ c. IsTrue (is_of c.numbers c.initial)) cs → pointwise (λ c n. is_of c.numbers n) cs (map (λ c. c.initial) cs) ≡ true
initial_numbers [] h = refl
initial_numbers (c ∷ cs) h = both (is_of c.numbers c.initial) (pointwise (λ c n. is_of c.numbers n) cs (map (λ c. c.initial) cs)) h.0 (initial_numbers cs h.1)

scoped_first : (s : Spec) → WellScoped s → IsWorld s (first_world s)
scoped_first s w =
    both (pointwise is_choice (components s) (first_world s).choices) (pointwise (λ c n. is_of c.numbers n) (cells s) (first_world s).cells)
    (default_choices (components s) w.defaults) (initial_numbers (cells s) w.initials)

-- the first world of a specification that keeps the rules is a world of it
pub first_is_world : (s : Spec) → IsChecked s → IsWorld s (first_world s)
first_is_world s h = scoped_first s (rules_give_scopes s h.keeps.rules)
