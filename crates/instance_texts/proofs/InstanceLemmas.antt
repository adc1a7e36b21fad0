-- What is listed with its declarations is what the definitions list.
use Rattle.std.proofs.Common.{◌≡◌, ℕ, List, [], ◌∷◌, ◌++◌, map, flat_map, refl, sym, ap, ◌∙◌}
use Rattle.std.proofs.lemmas.List.{map-append}
use Rattle.rsml_syntax.specs.declared.syntax.Spec.{Spec}
use Rattle.rsml_syntax.specs.declared.syntax.Decl.{Decl}
use Rattle.rsml_syntax.specs.declared.syntax.Decl.TheVariants as decl
use Rattle.rsml_syntax.specs.declared.syntax.Mention.{Mention}
use Rattle.rsml_syntax.specs.text.Names.{Name}
use Rattle.rsml_syntax.specs.rules.Globals.{Globals, name_of, indices}
use Rattle.rsml_syntax.specs.limits.Comparisons.{Indices}
use Rattle.rsml_meaning.specs.Words.{Instance, at}
use Rattle.rsml_meaning.specs.Truth.{instance, within}
use Rattle.rsml_meaning.specs.Instances.{globals_of, events_of, events}
use Rattle.rsml_meaning.specs.Interfaces.{new_receive, receives_of, receives, sends_of, sends, definitions}
use Rattle.state_arrays.specs.Places.{defined}
use Rattle.state_arrays.specs.Made.{definitions_made, receives_made}
use Rattle.state_arrays.proofs.InterfaceLemmas.{all_defined, all_received}
use Rattle.instance_texts.specs.declared.sorts.Sort.{Sort}
use Rattle.instance_texts.specs.declared.sorts.Sort.TheVariants as sorts
use Rattle.instance_texts.specs.Listing.{Listed, at_index, instance_of, listed_by, all_listed}
use Rattle.instance_texts.specs.Inputs.{input_names, names_of_inputs}

pub mapped : {B : Type 0} (g : Globals) (sort : Sort) (f : Listed → B) (make : Decl → List B) → ((d : Decl) → map f (listed_by sort g d) ≡ make d)
    → (ds : List Decl) → map f (flat_map (listed_by sort g) ds) ≡ flat_map make ds
mapped g sort f make h [] = refl
mapped {B} g sort f make h (d ∷ ds) =
    map-append f (listed_by sort g d) (flat_map (listed_by sort g) ds)
    ∙ ap (λ (xs : List B). xs ++ map f (flat_map (listed_by sort g) ds)) (h d)
    ∙ ap (λ (xs : List B). make d ++ xs) (mapped g sort f make h ds)

instances_at : (d : Decl) (is : List ℕ) → map instance_of (map (at_index d) is) ≡ map (at (name_of d)) is
instances_at d [] = refl
instances_at d (i ∷ is) = ap (λ (xs : List Instance). at (name_of d) i ∷ xs) (instances_at d is)

one_event : (g : Globals) (d : Decl) → map instance_of (listed_by sorts.Event g d) ≡ events_of g d
one_event g (decl.Event name size) = instances_at (decl.Event name size) (indices g size)
one_event g _ = refl

one_send : (g : Globals) (d : Decl) → map instance_of (listed_by sorts.Send g d) ≡ sends_of g d
one_send g (decl.Send name size fields cases) = instances_at (decl.Send name size fields cases) (indices g size)
one_send g _ = refl

one_definition : (g : Globals) (d : Decl) → map instance_of (listed_by sorts.Definition g d) ≡ definitions_made g d
one_definition g (decl.Macro name size rows) = instances_at (decl.Macro name size rows) (indices g size)
one_definition g (decl.Function name size cases) = instances_at (decl.Function name size cases) (indices g size)
one_definition g _ = refl

one_receive : (g : Globals) (d : Decl) → map instance_of (listed_by sorts.Receive g d) ≡ receives_made g d
one_receive g (decl.Receive name size inputs raised) = instances_at (decl.Receive name size inputs raised) (indices g size)
one_receive g _ = refl

-- the events
pub events_listed : (s : Spec) → map instance_of (all_listed sorts.Event s) ≡ events s
events_listed s = mapped (globals_of s) sorts.Event instance_of (events_of (globals_of s)) (one_event (globals_of s)) s.decls

-- the sends
pub sends_listed : (s : Spec) → map instance_of (all_listed sorts.Send s) ≡ sends s
sends_listed s = mapped (globals_of s) sorts.Send instance_of (sends_of (globals_of s)) (one_send (globals_of s)) s.decls

-- the macros and functions
pub definitions_listed : (s : Spec) → map instance_of (all_listed sorts.Definition s) ≡ map defined (definitions s)
definitions_listed s =
    mapped (globals_of s) sorts.Definition instance_of (definitions_made (globals_of s)) (one_definition (globals_of s)) s.decls
    ∙ sym (all_defined (globals_of s) s.decls)

-- the receives
pub receives_listed : (s : Spec) → map instance_of (all_listed sorts.Receive s) ≡ map (λ r. r.receive) (receives s)
receives_listed s =
    mapped (globals_of s) sorts.Receive instance_of (receives_made (globals_of s)) (one_receive (globals_of s)) s.decls
    ∙ sym (all_received (globals_of s) s.decls)

-- The names of the inputs of receives.

mentioned_names : (g : Globals) (r : Indices) (ms : List Mention) → map (λ m. m.name) ms ≡ map (λ i. i.name) (map (instance g r) ms)
mentioned_names g r [] = refl
mentioned_names g r (m ∷ ms) = ap (λ (xs : List Name). m.name ∷ xs) (mentioned_names g r ms)

names_at : (g : Globals) (name : Name) (size : _) (inputs : List Mention) (raised : Mention) (is : List ℕ)
    → map (λ x. input_names x.decl) (map (at_index (decl.Receive name size inputs raised)) is) ≡ map names_of_inputs (map (new_receive g name inputs raised) is)
names_at g name size inputs raised [] = refl
names_at g name size inputs raised (i ∷ is) =
    ap (λ (xs : List Name). xs ∷ map (λ x. input_names x.decl) (map (at_index (decl.Receive name size inputs raised)) is)) (mentioned_names g (within i) inputs)
    ∙ ap (λ (xs : List (List Name)). names_of_inputs (new_receive g name inputs raised i) ∷ xs) (names_at g name size inputs raised is)

one_inputs : (g : Globals) (d : Decl) → map (λ x. input_names x.decl) (listed_by sorts.Receive g d) ≡ map names_of_inputs (receives_of g d)
one_inputs g (decl.Receive name size inputs raised) = names_at g name size inputs raised (indices g size)
one_inputs g _ = refl

all_made : (g : Globals) (ds : List Decl) → flat_map (λ d. map names_of_inputs (receives_of g d)) ds ≡ map names_of_inputs (flat_map (receives_of g) ds)
all_made g [] = refl
all_made g (d ∷ ds) =
    ap (λ (xs : List (List Name)). map names_of_inputs (receives_of g d) ++ xs) (all_made g ds)
    ∙ sym (map-append names_of_inputs (receives_of g d) (flat_map (receives_of g) ds))

-- the names of the inputs of each receive
pub inputs_listed : (s : Spec) → map (λ x. input_names x.decl) (all_listed sorts.Receive s) ≡ map names_of_inputs (receives s)
inputs_listed s =
    mapped (globals_of s) sorts.Receive (λ x. input_names x.decl) (λ d. map names_of_inputs (receives_of (globals_of s) d)) (one_inputs (globals_of s)) s.decls
    ∙ all_made (globals_of s) s.decls
