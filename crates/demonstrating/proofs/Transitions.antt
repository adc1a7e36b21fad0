-- The transitions of a plant: four of each unit, all on one event, which raise nothing.
use Rattle.std.proofs.Common.{◌≡◌, ℕ, Bool, false, ◌&&◌, List, [], ◌∷◌, ◌++◌, filter, flat_map, filter_map, nat_eq, refl, sym, ap, ◌∙◌, subst}
use Rattle.std.specs.Prelude.{codes}
use Rattle.rsml_syntax.specs.declared.world.Step.{Step}
use Rattle.rsml_syntax.specs.rules.Globals.{Globals, up_to}
use Rattle.rsml_meaning.specs.Words.{Instance, at, Path, is_prefix, Each, IsOne}
use Rattle.rsml_meaning.specs.Instances.{Component, new_component, subtree, globals_of}
use Rattle.rsml_meaning.specs.Transitions.{TransitionInstance, new_transition, transitions_of, transitions, is_on}
use Rattle.rsml_meaning.proofs.Same.{nat_itself}
use Rattle.rsml_meaning.proofs.Lists.{each_flat_map}
use Rattle.demonstrating.specs.Plant.{plant, unit, start, rest, stop, run}
use Rattle.demonstrating.proofs.Lists.{only_one_kept}

-- the event that all transitions are on
abbrev pub go : Instance
go = at (codes "Go") 0

-- the two children of a unit
abbrev pub off : Step
off = at (codes "Off") 0

abbrev pub on : Step
on = at (codes "On") 0

-- a unit, and a child of it
abbrev pub unit_at : ℕ → Path
unit_at i = at (codes "Plant") 0 ∷ at (codes "Unit") i ∷ []

abbrev pub child_at : ℕ → Step → Path
child_at i child = at (codes "Plant") 0 ∷ at (codes "Unit") i ∷ child ∷ []

abbrev component_at : ℕ → Component
component_at i = new_component (unit_at i) (codes "Off") (codes "Off" ∷ codes "On" ∷ []) [] (start ∷ rest ∷ stop ∷ run ∷ [])

-- the four transitions of a unit
abbrev pub starting : Globals → ℕ → TransitionInstance
starting g i = new_transition g (component_at i) (1, start) (codes "Off")

abbrev pub resting : Globals → ℕ → TransitionInstance
resting g i = new_transition g (component_at i) (2, rest) (codes "Off")

abbrev pub stopping : Globals → ℕ → TransitionInstance
stopping g i = new_transition g (component_at i) (3, stop) (codes "On")

abbrev pub running : Globals → ℕ → TransitionInstance
running g i = new_transition g (component_at i) (4, run) (codes "On")

abbrev pub of_unit : Globals → ℕ → List TransitionInstance
of_unit g i = starting g i ∷ resting g i ∷ stopping g i ∷ running g i ∷ []

of_units : (g : Globals) (is : List ℕ)
    → flat_map (transitions_of g) (filter_map (λ x. x.component) (flat_map (λ i. subtree g unit (unit_at i)) is ++ []))
    ≡ flat_map (of_unit g) is
of_units g [] = refl
of_units g (i ∷ is) = ap (λ ts. of_unit g i ++ ts) (of_units g is)

pub transitions_are : (n : ℕ) → transitions (plant n) ≡ flat_map (of_unit (globals_of (plant n))) (up_to n)
transitions_are n = of_units (globals_of (plant n)) (up_to n)

pub each_transition : (n : ℕ) (P : TransitionInstance → Type 0)
    → ((i : ℕ) → IsOne i (up_to n) → Each P (of_unit (globals_of (plant n)) i)) → Each P (transitions (plant n))
each_transition n P h = subst (Each P) (sym (transitions_are n)) (each_flat_map P (of_unit (globals_of (plant n))) (up_to n) h)

-- The line of a child of a unit.

-- on the line of a child
abbrev pub on_line : ℕ → Step → TransitionInstance → Bool
on_line i child t = is_on go t && is_prefix t.source (child_at i child)

none_elsewhere : (g : Globals) (i : ℕ) (child : Step) (j : ℕ) → nat_eq j i ≡ false → filter (on_line i child) (of_unit g j) ≡ []
none_elsewhere g i child j h = rw h refl

pub line_is : (n i : ℕ) (child : Step) → IsOne i (up_to n)
    → filter (on_line i child) (transitions (plant n)) ≡ filter (on_line i child) (of_unit (globals_of (plant n)) i)
line_is n i child m =
    let g = globals_of (plant n) in
    ap (filter (on_line i child)) (transitions_are n) ∙ only_one_kept (of_unit g) (on_line i child) n i m (none_elsewhere g i child)

pub line_of_off : (g : Globals) (i : ℕ) → filter (on_line i off) (of_unit g i) ≡ starting g i ∷ resting g i ∷ []
line_of_off g i = rw (nat_itself i) refl

pub line_of_on : (g : Globals) (i : ℕ) → filter (on_line i on) (of_unit g i) ≡ stopping g i ∷ running g i ∷ []
line_of_on g i = rw (nat_itself i) refl
