-- Where transitions start.
use Rattle.std.proofs.Common.{◌≡◌, ℕ, List, [], ◌∷◌, map, Option, Some, None, refl, sym, slice_get}
use Rattle.std.specs.Option.{option_and_then}
use Rattle.rsml_syntax.specs.declared.syntax.Spec.{Spec}
use Rattle.rsml_meaning.specs.Words.{Path, Each, at, numbered, item_of}
use Rattle.rsml_meaning.specs.Instances.{states, components, globals_of}
use Rattle.rsml_meaning.specs.Transitions.{TransitionInstance, new_transition, sources, transitions_of, transitions}
use Rattle.state_tree.proofs.Lists.{each_flat_map}
use Rattle.state_arrays.specs.Places.{path_at}
use Rattle.rsml_ground.proofs.DeclaredLemmas.{each_at}
use Rattle.ground_members.specs.Members.{IsTarget}
use Rattle.instance_texts.specs.Sources.{StartsBelow}

each_made : {A B : Type 0} (P : B → Type 0) (f : A → B) (xs : List A) → ((x : A) → P (f x)) → Each P (map f xs)
each_made P f [] h = tt
each_made P f (x ∷ xs) h = (h x, each_made P f xs h)

all_start : (s : Spec) → Each StartsBelow (transitions s)
all_start s =
    let g = globals_of s in
    each_flat_map StartsBelow (transitions_of g) (components s)
    (λ c _. each_flat_map StartsBelow (λ t. map (new_transition g c t) (sources c (item_of t).source)) (numbered c.transitions)
    (λ t _. each_made StartsBelow (new_transition g c t) (sources c (item_of t).source) (λ name. (at name 0, refl))))

-- a transition starts at a child of its component
pub starts_below : (s : Spec) (k : ℕ) (t : TransitionInstance) → slice_get (transitions s) k ≡ Some t → StartsBelow t
starts_below s k t h = each_at StartsBelow (transitions s) (all_start s) k t h

-- the target is the path of the state that stands for it
pub target_is : (s : Spec) (target : Option Path) (node : Option ℕ) → IsTarget s target node → target ≡ option_and_then (λ n. path_at (states s) n) node
target_is s None None h = refl
target_is s None (Some n) h = elim h [ ]
target_is s (Some p) None h = elim h [ ]
target_is s (Some p) (Some n) h = sym h
