-- The states and components of the frame are those of the specification, with open guards.
use Rattle.std.proofs.Common.{◌≡◌, List, [], ◌∷◌, ◌++◌, map, flat_map, filter_map, Option, Some, None, option_map, refl, sym, ap, ◌∙◌}
use Rattle.std.specs.List.{cons_option}
use Rattle.rsml_syntax.specs.declared.syntax.Spec.{Spec}
use Rattle.rsml_syntax.specs.declared.syntax.Body.{Body, Basic, One', All', Row_of-StateDecl, end_of-StateDecl, more_of-StateDecl}
use Rattle.rsml_syntax.specs.rules.Globals.{Globals, indices}
use Rattle.rsml_meaning.specs.Words.{Path, at, child_path}
use Rattle.rsml_meaning.specs.Instances.{Component, State, new_component, row_names, component_of, new_state, inside, row_inside, states, components, globals_of}
use Rattle.spec_frames.specs.Frames.{open_transition, frame_body, frame_row, frame}
use Rattle.equal_frames.proofs.Agree.{AreBlanked, same_indices}
use Rattle.equal_frames.proofs.Micro.{opened_component}

-- a state with open guards
abbrev pub opened_state : State → State
opened_state x = record { path = x.path; body = frame_body x.body; component = option_map opened_component x.component }

pub map_append : {A B : Type 0} (f : A → B) (xs ys : List A) → map f (xs ++ ys) ≡ map f xs ++ map f ys
map_append f [] ys = refl
map_append f (x ∷ xs) ys = ap (λ zs. f x ∷ zs) (map_append f xs ys)

pub map_flat : {A B C : Type 0} (f : B → C) (p : A → List B) (q : A → List C) → ((x : A) → map f (p x) ≡ q x) → (xs : List A) → map f (flat_map p xs) ≡ flat_map q xs
map_flat f p q h [] = refl
map_flat f p q h (x ∷ xs) = map_append f (p x) (flat_map p xs) ∙ (λ i. h x i ++ map_flat f p q h xs i)

names_framed : {n : _} (row : Row_of-StateDecl n) → row_names row ≡ row_names (frame_row row)
names_framed end_of-StateDecl = refl
names_framed (more_of-StateDecl name size body others) = ap (λ ns. name ∷ ns) (names_framed others)

component_framed : (body : Body) (path : Path) → option_map opened_component (component_of body path) ≡ component_of (frame_body body) path
component_framed Basic path = refl
component_framed (One' first _ children buses transitions) path = ap (λ ns. Some (new_component path first ns buses (map open_transition transitions))) (names_framed children)
component_framed (All' _ children) path = refl

state_framed : (body : Body) (path : Path) → opened_state (new_state body path) ≡ new_state (frame_body body) path
state_framed body path = ap (λ c. record { path = path; body = frame_body body; component = c }) (component_framed body path)

module _ (g h : Globals) (a : AreBlanked g h) where
  mutual
    inside_framed : (body : Body) (path : Path) → map opened_state (inside g body path) ≡ inside h (frame_body body) path
    inside_framed Basic path = refl
    inside_framed (One' first _ children buses transitions) path = row_framed children path
    inside_framed (All' _ children) path = row_framed children path

    row_framed : {n : _} (row : Row_of-StateDecl n) (path : Path) → map opened_state (row_inside g row path) ≡ row_inside h (frame_row row) path
    row_framed end_of-StateDecl path = refl
    row_framed (more_of-StateDecl name size body others) path =
        map_append opened_state (flat_map (λ i. new_state body (child_path path (at name i)) ∷ inside g body (child_path path (at name i))) (indices g size)) (row_inside g others path)
        ∙ (λ i. (map_flat opened_state (λ k. new_state body (child_path path (at name k)) ∷ inside g body (child_path path (at name k)))
        (λ k. new_state (frame_body body) (child_path path (at name k)) ∷ inside h (frame_body body) (child_path path (at name k)))
        (λ k j. state_framed body (child_path path (at name k)) j ∷ inside_framed body (child_path path (at name k)) j) (indices g size)
        ∙ ap (flat_map (λ k. new_state (frame_body body) (child_path path (at name k)) ∷ inside h (frame_body body) (child_path path (at name k)))) (same_indices g h a size)) i
        ++ row_framed others path i)

pub states_framed : (s : Spec) → AreBlanked (globals_of s) (globals_of (frame s)) → map opened_state (states s) ≡ states (frame s)
states_framed s a = λ i. state_framed s.body (at s.top 0 ∷ []) i ∷ inside_framed (globals_of s) (globals_of (frame s)) a s.body (at s.top 0 ∷ []) i

-- the paths of states
paths_opened : (xs : List State) → map (λ x. x.path) (map opened_state xs) ≡ map (λ x. x.path) xs
paths_opened [] = refl
paths_opened (x ∷ xs) = ap (λ ps. x.path ∷ ps) (paths_opened xs)

pub paths_framed : (s : Spec) → AreBlanked (globals_of s) (globals_of (frame s)) → map (λ x. x.path) (states s) ≡ map (λ x. x.path) (states (frame s))
paths_framed s a = sym (paths_opened (states s)) ∙ ap (map (λ x. x.path)) (states_framed s a)

cons_opened : (o : Option Component) (cs : List Component) → map opened_component (cons_option o cs) ≡ cons_option (option_map opened_component o) (map opened_component cs)
cons_opened None cs = refl
cons_opened (Some c) cs = refl

components_opened : (xs : List State) → map opened_component (filter_map (λ x. x.component) xs) ≡ filter_map (λ x. x.component) (map opened_state xs)
components_opened [] = refl
components_opened (x ∷ xs) = cons_opened x.component (filter_map (λ x. x.component) xs) ∙ ap (cons_option (option_map opened_component x.component)) (components_opened xs)

pub components_framed : (s : Spec) → AreBlanked (globals_of s) (globals_of (frame s)) → map opened_component (components s) ≡ components (frame s)
components_framed s a = components_opened (states s) ∙ ap (filter_map (λ x. x.component)) (states_framed s a)
