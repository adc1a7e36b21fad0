-- A micro-step leaves a world, and there is one from each world.
use Rattle.std.proofs.Common.{◌≡◌, ℕ, suc, ◌+◌, ◌<◌, Bool, true, false, cond, List, [], ◌∷◌, length, filter_map, Option, Some, None, is_some, if◌then◌else◌, ◌⊎◌, inl, inr, ⊎_elim, refl, sym, ap, ◌∙◌, subst, true≢false, arith, nat_lt, lt-ltb, unwrap_or, IsTrue}
use Rattle.std.specs.List.{position_from, cons_option}
use Rattle.std.specs.Cmp.{first_so, second_so}
use Rattle.std.specs.Cmp.Lexicographic.{pointwise}
use Rattle.rsml_syntax.specs.declared.syntax.Spec.{Spec}
use Rattle.rsml_syntax.specs.declared.world.World.{World}
use Rattle.rsml_syntax.specs.text.Names.{Name, same, place_of, is_in}
use Rattle.rsml_meaning.specs.Words.{Each, IsOne, AllThree, Path, is_prefix}
use Rattle.rsml_meaning.specs.Instances.{Component, components}
use Rattle.rsml_meaning.specs.Cells.{cells, is_of}
use Rattle.rsml_meaning.specs.Worlds.{IsWorld, is_choice}
use Rattle.rsml_meaning.specs.Active.{child_place, entered, given}
use Rattle.rsml_meaning.specs.Truth.{view}
use Rattle.rsml_meaning.specs.Transitions.{TransitionInstance}
use Rattle.rsml_meaning.specs.Steps.{given_by, or_kept, outcomes, enabled_transitions, raised_by}
use Rattle.rsml_meaning.proofs.Computed.{sent_by, world_after}
use Rattle.rsml_meaning.proofs.Exists.{fits, micro_is}
use Rattle.rsml_meaning.specs.RunLaws.{MicroStepsExist, MicroStepsLeaveWorlds}
use Rattle.rsml_meaning.proofs.Lists.{both}

-- There is a micro-step.

choices_fit : (cs : List Component) (ns : List ℕ) → pointwise is_choice cs ns ≡ true → fits cs ns ≡ true
choices_fit [] [] h = refl
choices_fit (c ∷ cs) (n ∷ ns) h = choices_fit cs ns (second_so (is_choice c n) (pointwise is_choice cs ns) h)
choices_fit [] (n ∷ ns) h = absurd (true≢false (sym h))
choices_fit (c ∷ cs) [] h = absurd (true≢false (sym h))

pub choices_are : (s : Spec) (w : World) → IsWorld s w → pointwise is_choice (components s) w.choices ≡ true
choices_are s w h = first_so (pointwise is_choice (components s) w.choices) (pointwise (λ c n. is_of c.numbers n) (cells s) w.cells) h

pub cells_are : (s : Spec) (w : World) → IsWorld s w → pointwise (λ c n. is_of c.numbers n) (cells s) w.cells ≡ true
cells_are s w h = second_so (pointwise is_choice (components s) w.choices) (pointwise (λ c n. is_of c.numbers n) (cells s) w.cells) h

pub micro_steps_exist : MicroStepsExist
micro_steps_exist s w present h =
    let taken = enabled_transitions s (view s w) present in (
      record { taken = taken; sent = sent_by s (view s w) present; world = world_after s w taken; raised = raised_by s taken },
      micro_is s w present (raised_by s taken) (choices_fit (components s) w.choices (choices_are s w h)) refl,
    )

-- A child's place is below their number.

position_below : {A : Type 0} (t : A → Bool) (i k : ℕ) (xs : List A) → position_from t i xs ≡ Some k → k < i + length xs
position_below t i k [] h = cc
position_below t i k (x ∷ xs) h = by_test (t x) h (position_below t (i + 1) k xs)
  where
    by_test : (b : Bool) → cond b (Some i) (position_from t (i + 1) xs) ≡ Some k → (position_from t (i + 1) xs ≡ Some k → k < i + 1 + length xs) → k < i + suc (length xs)
    by_test true e rest = let same : i ≡ k = cc in omega (arith, same)
    by_test false e rest = let l = rest e in omega (arith, l)

place_below : (name : Name) (k : ℕ) (names : List Name) → place_of name names ≡ Some k → k < length names
place_below name k names h = let l = position_below (same name) 0 k names h in omega (arith, l)

pub has_children : (name : Name) (names : List Name) → is_in name names ≡ true → 0 < length names
has_children name names h = by_place (place_of name names) refl h
  where
    by_place : (o : Option ℕ) → place_of name names ≡ o → is_some o ≡ true → 0 < length names
    by_place (Some k) e i = let l = place_below name k names e in omega (arith, l)
    by_place None e i = absurd (true≢false (sym i))

pub is_child : (c : Component) (name : Name) → 0 < length c.children → is_choice c (child_place c name) ≡ true
is_child c name h = by_place (place_of name c.children) refl
  where
    by_place : (o : Option ℕ) → place_of name c.children ≡ o → nat_lt (unwrap_or o 0) (length c.children) ≡ true
    by_place (Some k) e = lt-ltb k (length c.children) (place_below name k c.children e)
    by_place None e = lt-ltb 0 (length c.children) h

-- What a micro-step gives a component.

given_is_child : (c : Component) (t : TransitionInstance) (m : ℕ) → 0 < length c.children → given_by c t ≡ Some m → is_choice c m ≡ true
given_is_child c t m h e = by_target t.target e
  where
    by_test : (b : Bool) (k : ℕ) → is_choice c k ≡ true → (if b then Some k else None) ≡ Some m → is_choice c m ≡ true
    by_test true k i e = let same : k ≡ m = cc in subst (λ n. is_choice c n ≡ true) same i
    by_test false k i e = cc

    by_target : (o : Option Path) → elim o [ None ↦ None | Some target ↦ given t.component target c ] ≡ Some m → is_choice c m ≡ true
    by_target None e = cc
    by_target (Some target) e = by_test (is_prefix t.component c.path) (child_place c (entered target c)) (is_child c (entered target c) h) e

given_cases : (f : TransitionInstance → Option ℕ) (P : ℕ → Type 0) → ((t : TransitionInstance) (m : ℕ) → f t ≡ Some m → P m) → (ts : List TransitionInstance) (m : ℕ) → IsOne m (filter_map f ts) → P m
given_cases f P h [] m k = absurd k
given_cases f P h (t ∷ ts) m k = by_gift (f t) refl k (given_cases f P h ts m)
  where
    by_gift : (o : Option ℕ) → f t ≡ o → IsOne m (cons_option o (filter_map f ts)) → (IsOne m (filter_map f ts) → P m) → P m
    by_gift None e k rest = rest k
    by_gift (Some n) e (inl d) rest = subst P (sym d) (h t n e)
    by_gift (Some n) e (inr k) rest = rest k

outcome_cases : (n m : ℕ) (xs : List ℕ) → IsOne m (or_kept n xs) → (m ≡ n) ⊎ IsOne m xs
outcome_cases n m [] (inl e) = inl e
outcome_cases n m [] (inr k) = absurd k
outcome_cases n m (x ∷ xs) k = inr k

abbrev HasChild : Component → Type 0
HasChild c = IsTrue (is_in c.default c.children)

children_stay : (ts : List TransitionInstance) (cs : List Component) (ns ms : List ℕ) → Each HasChild cs → pointwise is_choice cs ns ≡ true
    → AllThree (λ c old new. IsOne new (outcomes ts c old)) cs ns ms → pointwise is_choice cs ms ≡ true
children_stay ts [] [] [] d h k = refl
children_stay ts (c ∷ cs) (n ∷ ns) (m ∷ ms) d h k =
    both (is_choice c m) (pointwise is_choice cs ms)
    (⊎_elim
    (λ e. subst (λ z. is_choice c z ≡ true) (sym e) (first_so (is_choice c n) (pointwise is_choice cs ns) h))
    (λ l. given_cases (given_by c) (λ z. is_choice c z ≡ true) (λ t z e. given_is_child c t z (has_children c.default c.children d.0) e) ts m l)
    (outcome_cases n m (filter_map (given_by c) ts) k.0))
    (children_stay ts cs ns ms d.1 (second_so (is_choice c n) (pointwise is_choice cs ns) h) k.1)
children_stay ts [] [] (m ∷ ms) d h k = elim k [ ]
children_stay ts [] (n ∷ ns) ms d h k = elim k [ ]
children_stay ts (c ∷ cs) [] ms d h k = elim k [ ]
children_stay ts (c ∷ cs) (n ∷ ns) [] d h k = elim k [ ]

pub micro_steps_leave_worlds : MicroStepsLeaveWorlds
micro_steps_leave_worlds s w present r scoped h m =
    both (pointwise is_choice (components s) r.world.choices) (pointwise (λ c n. is_of c.numbers n) (cells s) r.world.cells)
    (children_stay r.taken (components s) w.choices r.world.choices scoped.defaults (choices_are s w h) m.children)
    (ap (pointwise (λ c n. is_of c.numbers n) (cells s)) m.numbers ∙ cells_are s w h)
