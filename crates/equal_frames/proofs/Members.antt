-- Events, cells, receives, sends and members of the frame are those of the specification, with open guards.
use Rattle.std.proofs.Common.{◌≡◌, ℕ, suc, List, [], ◌∷◌, ◌++◌, map, flat_map, option_map, refl, sym, ap, ◌∙◌, append-nil}
use Rattle.std.proofs.lemmas.Grind.{flat_map-append}
use Rattle.rsml_syntax.specs.declared.syntax.Spec.{Spec}
use Rattle.rsml_syntax.specs.declared.syntax.Decl.{Decl}
use Rattle.rsml_syntax.specs.declared.syntax.Decl.TheVariants as decl
use Rattle.rsml_syntax.specs.declared.syntax.Guard.TheVariants as guards
use Rattle.rsml_syntax.specs.declared.syntax.Mention.{Mention}
use Rattle.rsml_syntax.specs.declared.syntax.Case.{Case}
use Rattle.rsml_syntax.specs.declared.syntax.SendCase.{SendCase}
use Rattle.rsml_syntax.specs.declared.syntax.Transition.{Transition}
use Rattle.rsml_syntax.specs.text.Names.{Name}
use Rattle.rsml_syntax.specs.rules.Globals.{Globals, indices}
use Rattle.rsml_meaning.specs.Words.{at, child_path, numbered_from, numbered, ordinal_of, item_of}
use Rattle.rsml_meaning.specs.Instances.{Component, components, globals_of, instances, events_of, events}
use Rattle.rsml_meaning.specs.Cells.{new_cell, type_named, initial_number, cells_of, own_cells}
use Rattle.rsml_meaning.specs.Truth.{within}
use Rattle.rsml_meaning.specs.Transitions.{innermost, sources, target_path, new_transition, transitions_of, transitions}
use Rattle.rsml_meaning.specs.Interfaces.{new_receive, receives_of, receives, sends_of, sends, new_send_case, send_cases_of, send_cases, FunctionInstance, new_function, functions_of, functions}
use Rattle.rsml_meaning.specs.Groups.{Member, transition, send_case, case}
use Rattle.spec_frames.specs.Frames.{open_case, open_send_case, open_transition, framed, frame}
use Rattle.equal_frames.specs.Alike.{opened_transition, opened_send_case, opened}
use Rattle.equal_frames.specs.Differences.{all_members}
use Rattle.equal_frames.proofs.Agree.{AreBlanked, same_type, same_indices, same_instances, same_instance_of, same_initial_number}
use Rattle.equal_frames.proofs.Micro.{opened_component}
use Rattle.equal_frames.proofs.States.{map_append, map_flat, components_framed}

-- Lists.

pub map_map : {A B C : Type 0} (f : B → C) (g : A → B) (xs : List A) → map f (map g xs) ≡ map (λ x. f (g x)) xs
map_map f g [] = refl
map_map f g (x ∷ xs) = ap (λ ys. f (g x) ∷ ys) (map_map f g xs)

pub map_same : {A B : Type 0} (f g : A → B) → ((x : A) → f x ≡ g x) → (xs : List A) → map f xs ≡ map g xs
map_same f g h [] = refl
map_same f g h (x ∷ xs) = λ i. h x i ∷ map_same f g h xs i

map_flat_map : {A B C D : Type 0} (f : C → D) (k : A → B) (p : A → List C) (q : B → List D) → ((x : A) → map f (p x) ≡ q (k x)) → (xs : List A) → map f (flat_map p xs) ≡ flat_map q (map k xs)
map_flat_map f k p q h [] = refl
map_flat_map f k p q h (x ∷ xs) = map_append f (p x) (flat_map p xs) ∙ (λ i. h x i ++ map_flat_map f k p q h xs i)

numbered_map : {A B C : Type 0} (o : A → B) (p : ℕ × A → C) (q : ℕ × B → C) → ((n : ℕ) (x : A) → p (n, x) ≡ q (n, o x)) → (n : ℕ) (xs : List A) → map p (numbered_from n xs) ≡ map q (numbered_from n (map o xs))
numbered_map o p q h n [] = refl
numbered_map o p q h n (x ∷ xs) = λ i. h n x i ∷ numbered_map o p q h (suc n) xs i

pub numbered_flat : {A B C : Type 0} (o : A → B) (p : ℕ × A → List C) (q : ℕ × B → List C) → ((n : ℕ) (x : A) → p (n, x) ≡ q (n, o x)) → (n : ℕ) (xs : List A)
    → flat_map p (numbered_from n xs) ≡ flat_map q (numbered_from n (map o xs))
numbered_flat o p q h n [] = refl
numbered_flat o p q h n (x ∷ xs) = λ i. h n x i ++ numbered_flat o p q h (suc n) xs i

-- what is made of declarations, and of those of the frame
made : {A B : Type 0} (f : A → B) (p : Decl → List A) (q : Decl → List B) → ((d : Decl) → map f (p d) ≡ flat_map q (framed d)) → (ds : List Decl) → map f (flat_map p ds) ≡ flat_map q (flat_map framed ds)
made f p q h [] = refl
made f p q h (d ∷ ds) = map_append f (p d) (flat_map p ds) ∙ (λ i. h d i ++ made f p q h ds i) ∙ sym (flat_map-append q (framed d) (flat_map framed ds))

itself : {A : Type 0} (xs : List A) → map (λ x. x) xs ≡ xs
itself [] = refl
itself (x ∷ xs) = ap (λ ys. x ∷ ys) (itself xs)

made_same : {A : Type 0} (p q : Decl → List A) → ((d : Decl) → p d ≡ flat_map q (framed d)) → (ds : List Decl) → flat_map p ds ≡ flat_map q (flat_map framed ds)
made_same p q h [] = refl
made_same p q h (d ∷ ds) = (λ i. h d i ++ made_same p q h ds i) ∙ sym (flat_map-append q (framed d) (flat_map framed ds))

-- a case of a function with its number, with an open guard
abbrev pub opened_numbered : ℕ × Case → ℕ × Case
opened_numbered c = (ordinal_of c, open_case (item_of c))

-- a function with open guards
abbrev pub opened_function : FunctionInstance → FunctionInstance
opened_function f = record { function = f.function; cases = map opened_numbered f.cases }

numbered_open : (n : ℕ) (cases : List Case) → map opened_numbered (numbered_from n cases) ≡ numbered_from n (map open_case cases)
numbered_open n [] = refl
numbered_open n (c ∷ cases) = ap (λ cs. (n, open_case c) ∷ cs) (numbered_open (suc n) cases)

module _ (g h : Globals) (a : AreBlanked g h) where
  one_event : (d : Decl) → events_of g d ≡ flat_map (events_of h) (framed d)
  one_event (decl.Event name size) = same_instances g h a name size ∙ sym (append-nil (instances h name size))
  one_event _ = refl

  one_input : (d : Decl) → cells_of g d ≡ flat_map (cells_of h) (framed d)
  one_input (decl.Input name size kind initial) =
      (λ i. map (new_cell (same_type g h a kind i) (same_initial_number g h a initial i)) (same_instances g h a name size i))
      ∙ sym (append-nil (map (new_cell (type_named h kind) (initial_number h initial)) (instances h name size)))
  one_input _ = refl

  pub receive_same : (name : Name) (inputs : List Mention) (raised : Mention) (k : ℕ) → new_receive g name inputs raised k ≡ new_receive h name inputs raised k
  receive_same name inputs raised k = λ i. record {
    receive = at name k;
    inputs = map (λ m. same_instance_of g h a (within k) m i) inputs;
    raised = same_instance_of g h a (within k) raised i;
  }

  one_receive : (d : Decl) → receives_of g d ≡ flat_map (receives_of h) (framed d)
  one_receive (decl.Receive name size inputs raised) =
      (λ i. map (λ k. receive_same name inputs raised k i) (same_indices g h a size i)) ∙ sym (append-nil (map (new_receive h name inputs raised) (indices h size)))
  one_receive _ = refl

  one_send : (d : Decl) → sends_of g d ≡ flat_map (sends_of h) (framed d)
  one_send (decl.Send name size fields cases) = same_instances g h a name size ∙ sym (append-nil (instances h name size))
  one_send _ = refl

  case_same : (name : Name) (fields : List Name) (k n : ℕ) (c : SendCase) → opened_send_case (new_send_case g name fields k (n, c)) ≡ new_send_case h name fields k (n, open_send_case c)
  case_same name fields k n c = λ i. record {
    send = at name k;
    fields = fields;
    ordinal = n;
    event = same_instance_of g h a (within k) c.trigger i;
    guard = guards.Always;
    answer = c.answer;
  }

  cases_same : (name : Name) (fields : List Name) (cases : List SendCase) (k : ℕ)
      → map opened_send_case (map (new_send_case g name fields k) (numbered cases)) ≡ map (new_send_case h name fields k) (numbered (map open_send_case cases))
  cases_same name fields cases k =
      map_map opened_send_case (new_send_case g name fields k) (numbered cases)
      ∙ numbered_map open_send_case (λ c. opened_send_case (new_send_case g name fields k c)) (new_send_case h name fields k) (case_same name fields k) 1 cases

  one_send_case : (d : Decl) → map opened_send_case (send_cases_of g d) ≡ flat_map (send_cases_of h) (framed d)
  one_send_case (decl.Send name size fields cases) =
      map_flat opened_send_case (λ k. map (new_send_case g name fields k) (numbered cases)) (λ k. map (new_send_case h name fields k) (numbered (map open_send_case cases))) (cases_same name fields cases) (indices g size)
      ∙ ap (flat_map (λ k. map (new_send_case h name fields k) (numbered (map open_send_case cases)))) (same_indices g h a size)
      ∙ sym (append-nil (flat_map (λ k. map (new_send_case h name fields k) (numbered (map open_send_case cases))) (indices h size)))
  one_send_case _ = refl

  function_same : (name : Name) (cases : List Case) (k : ℕ) → opened_function (new_function name cases k) ≡ new_function name (map open_case cases) k
  function_same name cases k = λ i. record { function = at name k; cases = numbered_open 1 cases i }

  one_function : (d : Decl) → map opened_function (functions_of g d) ≡ flat_map (functions_of h) (framed d)
  one_function (decl.Function name size cases) =
      map_map opened_function (new_function name cases) (indices g size)
      ∙ (λ i. map (λ k. function_same name cases k i) (same_indices g h a size i))
      ∙ sym (append-nil (map (new_function name (map open_case cases)) (indices h size)))
  one_function _ = refl

  transition_same : (c : Component) (n : ℕ) (t : Transition) (source : Name) → opened_transition (new_transition g c (n, t) source) ≡ new_transition h (opened_component c) (n, open_transition t) source
  transition_same c n t source = λ i. record {
    component = c.path;
    ordinal = n;
    source = child_path c.path (at source 0);
    target = option_map (target_path c.path) t.target;
    event = same_instance_of g h a (within (innermost c.path)) t.trigger i;
    this = innermost c.path;
    guard = guards.Always;
    raises = map (λ m. same_instance_of g h a (within (innermost c.path)) m i) t.raises;
  }

  of_component : (c : Component) → map opened_transition (transitions_of g c) ≡ transitions_of h (opened_component c)
  of_component c =
      map_flat opened_transition (λ t. map (new_transition g c t) (sources c (item_of t).source)) (λ t. map (λ x. opened_transition (new_transition g c t x)) (sources c (item_of t).source))
      (λ t. map_map opened_transition (new_transition g c t) (sources c (item_of t).source)) (numbered c.transitions)
      ∙ numbered_flat open_transition (λ t. map (λ x. opened_transition (new_transition g c t x)) (sources c (item_of t).source))
      (λ t. map (new_transition h (opened_component c) t) (sources (opened_component c) (item_of t).source))
      (λ n t. map_same (λ x. opened_transition (new_transition g c (n, t) x)) (new_transition h (opened_component c) (n, open_transition t)) (transition_same c n t) (sources c t.source)) 1 c.transitions

-- The lists of a specification and of its frame.

module _ (s : Spec) (a : AreBlanked (globals_of s) (globals_of (frame s))) where
  abbrev g : Globals
  g = globals_of s

  abbrev h : Globals
  h = globals_of (frame s)

  pub events_framed : events s ≡ events (frame s)
  events_framed = made_same (events_of g) (events_of h) (one_event g h a) s.decls

  pub own_cells_framed : own_cells s ≡ own_cells (frame s)
  own_cells_framed = made_same (cells_of g) (cells_of h) (one_input g h a) s.decls

  pub receives_framed : receives s ≡ receives (frame s)
  receives_framed = made_same (receives_of g) (receives_of h) (one_receive g h a) s.decls

  pub sends_framed : sends s ≡ sends (frame s)
  sends_framed = made_same (sends_of g) (sends_of h) (one_send g h a) s.decls

  pub send_cases_framed : map opened_send_case (send_cases s) ≡ send_cases (frame s)
  send_cases_framed = made opened_send_case (send_cases_of g) (send_cases_of h) (one_send_case g h a) s.decls

  pub functions_framed : map opened_function (functions s) ≡ functions (frame s)
  functions_framed = made opened_function (functions_of g) (functions_of h) (one_function g h a) s.decls

  pub transitions_framed : map opened_transition (transitions s) ≡ transitions (frame s)
  transitions_framed =
      map_flat_map opened_transition opened_component (transitions_of g) (transitions_of h) (of_component g h a) (components s)
      ∙ ap (flat_map (transitions_of h)) (components_framed s a)

  abbrev cases_in : FunctionInstance → List Member
  cases_in f = map (case f.function) f.cases

  cases_opened : (f : FunctionInstance) → map opened (cases_in f) ≡ cases_in (opened_function f)
  cases_opened f = map_map opened (case f.function) f.cases ∙ sym (map_map (case f.function) opened_numbered f.cases)

  pub members_framed : map opened (all_members s) ≡ all_members (frame s)
  members_framed =
      map_append opened (map transition (transitions s)) (map send_case (send_cases s) ++ flat_map cases_in (functions s))
      ∙ (λ i. (map_map opened transition (transitions s) ∙ sym (map_map transition opened_transition (transitions s)) ∙ ap (map transition) transitions_framed) i
      ++ (map_append opened (map send_case (send_cases s)) (flat_map cases_in (functions s))
      ∙ (λ j. (map_map opened send_case (send_cases s) ∙ sym (map_map send_case opened_send_case (send_cases s)) ∙ ap (map send_case) send_cases_framed) j
      ++ (map_flat_map opened opened_function cases_in cases_in cases_opened (functions s) ∙ ap (flat_map cases_in) functions_framed) j)) i)
