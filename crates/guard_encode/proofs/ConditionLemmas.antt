-- What is told of the conditions of groups.
use Rattle.std.proofs.Common.{◌≡◌, ℕ, zero, suc, ◌+◌, ◌<◌, Bool, true, false, [], ◌∷◌, ◌&&◌, ◌||◌, not, List, length, take, get_or, Some, inl, inr, refl, sym, ap, ◌∙◌, subst, slice_get, arith}
use Rattle.std.specs.List.{All, list_any}
use Rattle.std.proofs.lemmas.List.Folds.{list_any_more}
use Rattle.rsml_syntax.specs.declared.syntax.Spec.{Spec}
use Rattle.rsml_meaning.specs.Words.{IsOne, Path}
use Rattle.rsml_meaning.specs.Instances.{State, states}
use Rattle.rsml_meaning.specs.Truth.{View, view}
use Rattle.rsml_meaning.specs.Groups as meaning
use Rattle.rsml_meaning.specs.Groups.{Group, groups, meets}
use Rattle.rsml_ground.specs.Truths.{is_active}
use Rattle.state_arrays.specs.Places.{path_at}
use Rattle.ground_groups.specs.declared.group.GroupKind.{GroupKind}
use Rattle.ground_groups.specs.declared.group.GroupKind.TheVariants as kinds
use Rattle.ground_groups.specs.Groups.{AreBelow, KindIs}
use Rattle.elaborate.specs.Machine.{GroundMachine, StandsFor}
use Rattle.elaborate.specs.Enabled.{meets_at}
use Rattle.elaborate.specs.Laws.{ConditionsAreThoseOfTheText}
use Rattle.guard_encode.specs.Encoding.{Encoding, Tells}
use Rattle.guard_encode.proofs.StepLemmas.{told_as}

-- one more state
pub state_more : (e : Encoding) (s t : Spec) (nodes : List ℕ) (n node r : ℕ) → n < length nodes → node ≡ get_or nodes n 0 → t ≡ s
    → Tells e (λ w. list_any (is_active s w) (take n nodes) || is_active t w node) r → Tells e (λ w. list_any (is_active s w) (take (n + 1) nodes)) r
state_more e s t nodes n node r less item same told =
    told_as e (λ w. list_any (is_active s w) (take n nodes) || is_active t w node) (λ w. list_any (is_active s w) (take (n + 1) nodes)) r
    (λ w. (λ i. list_any (is_active s w) (take n nodes) || is_active (same i) w (item i)) ∙ sym (list_any_more (is_active s w) nodes n 0 less)) told

-- one state and none of others, of machines that are one
pub alone_told : (e : Encoding) (a b c : GroundMachine) (node r : ℕ) (others : List ℕ) → b ≡ a → c ≡ b
    → Tells e (λ w. is_active b.base.spec w node && not (list_any (is_active a.base.spec w) others)) r
    → Tells e (λ w. is_active c.base.spec w node && not (list_any (is_active c.base.spec w) others)) r
alone_told e a b c node r others ba cb told =
    told_as e (λ w. is_active b.base.spec w node && not (list_any (is_active a.base.spec w) others)) (λ w. is_active c.base.spec w node && not (list_any (is_active c.base.spec w) others)) r
    (λ w i. is_active (sym cb i).base.spec w node && not (list_any (is_active (sym (cb ∙ ba) i).base.spec w) others)) told

-- a number with a path is that of a state
pub state_there : (xs : List State) (k : ℕ) (path : Path) → path_at xs k ≡ Some path → k < length xs
state_there [] k path at = absurd (let empty : ⊥ = cc in empty)
state_there (x ∷ xs) zero path at = omega arith
state_there (x ∷ xs) (suc k) path at = let h = state_there xs k path at in omega (arith, h)

-- the state of a group is one
pub kind_state : (s : Spec) (g : Group) (node event : ℕ) → KindIs s g (kinds.State node event) → node < length (states s)
kind_state s (meaning.state path e) node event is = state_there (states s) node path is.0
kind_state s (meaning.send x e) node event is = absurd is
kind_state s (meaning.function f) node event is = absurd is

item_one : (xs : List ℕ) (i d : ℕ) → i < length xs → IsOne (get_or xs i d) xs
item_one [] i d less = absurd (omega (arith, less))
item_one (x ∷ xs) zero d less = inl refl
item_one (x ∷ xs) (suc i) d less = inr (item_one xs i d (omega (arith, less)))

-- those below it are too
pub below_states : (s : Spec) (g : Group) (below : List ℕ) → AreBelow s g below → All (λ k. k < length (states s)) below
below_states s (meaning.state path e) below are = λ i d less. ((are (get_or below i d)).0 (item_one below i d less)).0
below_states s (meaning.send x e) below are = λ i d less. absurd (are (get_or below i d) (item_one below i d less))
below_states s (meaning.function f) below are = λ i d less. absurd (are (get_or below i d) (item_one below i d less))

-- the group at a place, in the words of a machine that is still this one
abbrev pub AtPlace : Spec → ℕ → (Group → Type 0) → Type 0
AtPlace s group P = (g : Group) → slice_get (groups s) group ≡ Some g → P g

-- by the text, of a group's kind and the states below it
pub condition_told : ConditionsAreThoseOfTheText → (e : Encoding) (m : GroundMachine) (s : Spec) (group r : ℕ) (kind : GroupKind) (below : List ℕ) → e.machine ≡ m → s ≡ m.base.spec → StandsFor m
    → AtPlace s group (λ g. KindIs s g kind) → AtPlace s group (λ g. AreBelow s g below) → Tells e (λ w. meets_at e.machine w kind below) r
    → AtPlace e.machine.base.spec group (λ g. Tells e (λ w. meets e.machine.base.spec (view e.machine.base.spec w) g) r)
condition_told law e m s group r kind below same spec stands is are told = λ g at.
    let own : s ≡ e.machine.base.spec = spec ∙ ap (λ (n : GroundMachine). n.base.spec) (sym same) in
    let there : slice_get (groups s) group ≡ Some g = ap (λ (t : Spec). slice_get (groups t) group) own ∙ at in
    told_as e (λ w. meets_at e.machine w kind below) (λ w. meets e.machine.base.spec (view e.machine.base.spec w) g) r
    (λ w. law e.machine w (subst StandsFor (sym same) stands) g kind below (subst (λ (t : Spec). KindIs t g kind) own (is g there)) (subst (λ (t : Spec). AreBelow t g below) own (are g there))) told

-- groups of sends and of functions have no condition
abbrev pub has_none : GroupKind → Bool
has_none (kinds.State node event) = false
has_none (kinds.Send send event) = true
has_none (kinds.Function function) = true

always : (s t : Spec) (v : View) (g : Group) (kind : GroupKind) → KindIs s g kind → has_none kind ≡ true → true ≡ meets t v g
always s t v (meaning.state path e) (kinds.State k j) is none = cc
always s t v (meaning.send x e) (kinds.Send k j) is none = refl
always s t v (meaning.function f) (kinds.Function k) is none = refl
always s t v (meaning.state path e) (kinds.Send k j) is none = absurd is
always s t v (meaning.state path e) (kinds.Function k) is none = absurd is
always s t v (meaning.send x e) (kinds.State k j) is none = absurd is
always s t v (meaning.send x e) (kinds.Function k) is none = absurd is
always s t v (meaning.function f) (kinds.State k j) is none = absurd is
always s t v (meaning.function f) (kinds.Send k j) is none = absurd is

pub always_told : (e : Encoding) (m : GroundMachine) (s : Spec) (group r : ℕ) (kind : GroupKind) → e.machine ≡ m → s ≡ m.base.spec → has_none kind ≡ true → AtPlace s group (λ g. KindIs s g kind)
    → Tells e (λ w. true) r → AtPlace e.machine.base.spec group (λ g. Tells e (λ w. meets e.machine.base.spec (view e.machine.base.spec w) g) r)
always_told e m s group r kind same spec none is told = λ g at.
    let own : s ≡ e.machine.base.spec = spec ∙ ap (λ (n : GroundMachine). n.base.spec) (sym same) in
    let there : slice_get (groups s) group ≡ Some g = ap (λ (t : Spec). slice_get (groups t) group) own ∙ at in
    told_as e (λ w. true) (λ w. meets e.machine.base.spec (view e.machine.base.spec w) g) r (λ w. always s e.machine.base.spec (view e.machine.base.spec w) g kind (is g there) none) told
