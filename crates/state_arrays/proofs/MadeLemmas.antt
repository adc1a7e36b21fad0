-- What the declarations of a checked specification make stands in arrays one behind another.
use Rattle.std.proofs.Common.{◌≡◌, ℕ, suc, ◌+◌, ◌≤◌, ◌<◌, Bool, true, false, List, [], ◌∷◌, ◌++◌, flat_map, length, map, take, drop, get_or, refl, sym, ap, ◌∙◌, subst, arith, length-append, if◌then◌else◌, None}
use Rattle.std.proofs.Math.Seq.{drop-cons}
use Rattle.std.proofs.lemmas.List.{take-append-drop}
use Rattle.rsml_syntax.specs.declared.syntax.Spec.{Spec}
use Rattle.rsml_syntax.specs.declared.syntax.Decl.{Decl}
use Rattle.rsml_syntax.specs.declared.syntax.Decl.TheVariants as decl
use Rattle.rsml_syntax.specs.limits.Checked.{IsChecked}
use Rattle.rsml_syntax.specs.text.Names.{Name, is_in}
use Rattle.rsml_syntax.specs.rules.Globals.{Globals, globals, name_of, indices}
use Rattle.rsml_names.specs.PreviousNames.{previous_names}
use Rattle.rsml_syntax.specs.rules.Rules.{broken_rule}
use Rattle.rsml_meaning.specs.Words.{Instance}
use Rattle.rsml_meaning.specs.Instances.{State, globals_of, instances, events_of, states}
use Rattle.rsml_meaning.specs.Interfaces.{receives, sends_of}
use Rattle.state_arrays.specs.Arrays.{has_name}
use Rattle.state_arrays.specs.Made.{Admits, AreArrays, AreNumbered, inputs_of, previous_of, definitions_made, receives_made}
use Rattle.state_arrays.proofs.Distinct.{AreNamed, name_new, none_made, named_at, sized_here}
use Rattle.state_arrays.proofs.Room.{AreFew, few, inputs_few, previous_few, definitions_few}
use Rattle.state_arrays.proofs.InterfaceLemmas.{all_defined, all_received}

-- a loop over declarations puts what the next one makes behind that of those before
pub admits_turn : (g : Globals) (make : Decl → List Instance) (ds : List Decl) (i : ℕ) (d : Decl) (xs : List Instance) → AreArrays g make ds → i < length ds → d ≡ get_or ds i d → xs ≡ flat_map make (take i ds) → Admits g xs d
admits_turn g make ds i d xs h l e x =
    subst (λ ys. Admits g ys d) (sym x)
    (h (take i ds) d (drop (suc i) ds) (sym (take-append-drop i ds) ∙ ap (λ (ys : List Decl). take i ds ++ ys) (drop-cons ds i d l) ∙ ap (λ (y : Decl). take i ds ++ (y ∷ drop (suc i) ds)) (sym e)))

arrays_of : (s : Spec) (make : Decl → List Instance) → broken_rule s ≡ None → AreNamed make → AreArrays (globals_of s) make s.decls
arrays_of s make h named before d after e =
    let small = sized_here s h before d after e in
    record {
      new = none_made make (name_of d) before named (name_new s h before d after e);
      some = small.some;
      few = small.few;
    }

event_named : (g : Globals) → AreNamed (events_of g)
event_named g (decl.Event name size) n h = named_at n name (indices g size) h
event_named g (decl.Enumeration name values) n h = refl
event_named g (decl.Range name low high) n h = refl
event_named g (decl.Constant name value) n h = refl
event_named g (decl.Input name size kind initial) n h = refl
event_named g (decl.Macro name size rows) n h = refl
event_named g (decl.Function name size cases) n h = refl
event_named g (decl.Receive name size inputs raised) n h = refl
event_named g (decl.Send name size fields cases) n h = refl

input_named : (g : Globals) → AreNamed (inputs_of g)
input_named g (decl.Input name size kind initial) n h = named_at n name (indices g size) h
input_named g (decl.Event name size) n h = refl
input_named g (decl.Enumeration name values) n h = refl
input_named g (decl.Range name low high) n h = refl
input_named g (decl.Constant name value) n h = refl
input_named g (decl.Macro name size rows) n h = refl
input_named g (decl.Function name size cases) n h = refl
input_named g (decl.Receive name size inputs raised) n h = refl
input_named g (decl.Send name size fields cases) n h = refl

chosen_named : (xs : List Instance) (b : Bool) (name : Name) → has_name xs name ≡ false → has_name (if b then xs else []) name ≡ false
chosen_named xs true name h = h
chosen_named xs false name h = refl

previous_named : (names : List Name) (g : Globals) → AreNamed (previous_of names g)
previous_named names g (decl.Input name size kind initial) n h = chosen_named (instances g name size) (is_in name names) n (named_at n name (indices g size) h)
previous_named names g (decl.Event name size) n h = refl
previous_named names g (decl.Enumeration name values) n h = refl
previous_named names g (decl.Range name low high) n h = refl
previous_named names g (decl.Constant name value) n h = refl
previous_named names g (decl.Macro name size rows) n h = refl
previous_named names g (decl.Function name size cases) n h = refl
previous_named names g (decl.Receive name size inputs raised) n h = refl
previous_named names g (decl.Send name size fields cases) n h = refl

definition_named : (g : Globals) → AreNamed (definitions_made g)
definition_named g (decl.Macro name size rows) n h = named_at n name (indices g size) h
definition_named g (decl.Function name size cases) n h = named_at n name (indices g size) h
definition_named g (decl.Event name size) n h = refl
definition_named g (decl.Enumeration name values) n h = refl
definition_named g (decl.Range name low high) n h = refl
definition_named g (decl.Constant name value) n h = refl
definition_named g (decl.Input name size kind initial) n h = refl
definition_named g (decl.Receive name size inputs raised) n h = refl
definition_named g (decl.Send name size fields cases) n h = refl

receive_named : (g : Globals) → AreNamed (receives_made g)
receive_named g (decl.Receive name size inputs raised) n h = named_at n name (indices g size) h
receive_named g (decl.Event name size) n h = refl
receive_named g (decl.Enumeration name values) n h = refl
receive_named g (decl.Range name low high) n h = refl
receive_named g (decl.Constant name value) n h = refl
receive_named g (decl.Input name size kind initial) n h = refl
receive_named g (decl.Macro name size rows) n h = refl
receive_named g (decl.Function name size cases) n h = refl
receive_named g (decl.Send name size fields cases) n h = refl

send_named : (g : Globals) → AreNamed (sends_of g)
send_named g (decl.Send name size fields cases) n h = named_at n name (indices g size) h
send_named g (decl.Event name size) n h = refl
send_named g (decl.Enumeration name values) n h = refl
send_named g (decl.Range name low high) n h = refl
send_named g (decl.Constant name value) n h = refl
send_named g (decl.Input name size kind initial) n h = refl
send_named g (decl.Macro name size rows) n h = refl
send_named g (decl.Function name size cases) n h = refl
send_named g (decl.Receive name size inputs raised) n h = refl

event_arrays : (s : Spec) → IsChecked s → AreArrays (globals_of s) (events_of (globals_of s)) s.decls
event_arrays s c = arrays_of s (events_of (globals_of s)) c.keeps.rules (event_named (globals_of s))

input_arrays : (s : Spec) → IsChecked s → AreArrays (globals_of s) (inputs_of (globals_of s)) s.decls
input_arrays s c = arrays_of s (inputs_of (globals_of s)) c.keeps.rules (input_named (globals_of s))

previous_arrays : (s : Spec) (names : List Name) → IsChecked s → AreArrays (globals_of s) (previous_of names (globals_of s)) s.decls
previous_arrays s names c = arrays_of s (previous_of names (globals_of s)) c.keeps.rules (previous_named names (globals_of s))

definition_arrays : (s : Spec) → IsChecked s → AreArrays (globals_of s) (definitions_made (globals_of s)) s.decls
definition_arrays s c = arrays_of s (definitions_made (globals_of s)) c.keeps.rules (definition_named (globals_of s))

receive_arrays : (s : Spec) → IsChecked s → AreArrays (globals_of s) (receives_made (globals_of s)) s.decls
receive_arrays s c = arrays_of s (receives_made (globals_of s)) c.keeps.rules (receive_named (globals_of s))

send_arrays : (s : Spec) → IsChecked s → AreArrays (globals_of s) (sends_of (globals_of s)) s.decls
send_arrays s c = arrays_of s (sends_of (globals_of s)) c.keeps.rules (send_named (globals_of s))

-- What `build` asks and gives.

as_few : (xs ys : List Instance) (n : ℕ) → xs ≡ ys → length ys ≤ n → length xs ≤ n
as_few xs ys n e h = subst (λ (zs : List Instance). length zs ≤ n) (sym e) h

module _ (s t : Spec) (ds : List Decl) (g : Globals) (same_spec : s ≡ t) (same_decls : ds ≡ s.decls) (same_globals : g ≡ globals ds) where
  arrays_by : (make : Globals → Decl → List Instance) → AreArrays (globals_of t) (make (globals_of t)) t.decls → AreArrays g (make g) ds
  arrays_by make h =
      let e : ds ≡ t.decls = same_decls ∙ ap (λ (x : Spec). x.decls) same_spec in
      let f : g ≡ globals_of t = same_globals ∙ ap globals e in
      subst (λ xs. AreArrays g (make g) xs) (sym e) (subst (λ x. AreArrays x (make x) t.decls) (sym f) h)

  pub event_arrays_by : IsChecked t → AreArrays g (events_of g) ds
  event_arrays_by c = arrays_by events_of (event_arrays t c)

  pub input_arrays_by : IsChecked t → AreArrays g (inputs_of g) ds
  input_arrays_by c = arrays_by inputs_of (input_arrays t c)

  pub previous_arrays_by : (names : List Name) → IsChecked t → AreArrays g (previous_of names g) ds
  previous_arrays_by names c = arrays_by (previous_of names) (previous_arrays t names c)

  pub definition_arrays_by : IsChecked t → AreArrays g (definitions_made g) ds
  definition_arrays_by c = arrays_by definitions_made (definition_arrays t c)

  pub receive_arrays_by : IsChecked t → AreArrays g (receives_made g) ds
  receive_arrays_by c = arrays_by receives_made (receive_arrays t c)

  pub send_arrays_by : IsChecked t → AreArrays g (sends_of g) ds
  send_arrays_by c = arrays_by sends_of (send_arrays t c)

  made_by : (make : Globals → Decl → List Instance) → flat_map (make g) ds ≡ flat_map (make (globals_of s)) s.decls
  made_by make = ap (λ (x : Globals). flat_map (make x) ds) (same_globals ∙ ap globals same_decls) ∙ ap (flat_map (make (globals_of s))) same_decls

  pub received : (rs : List Instance) → rs ≡ flat_map (receives_made g) ds → rs ≡ map (λ r. r.receive) (receives t)
  received rs h = h ∙ made_by receives_made ∙ sym (all_received (globals_of s) s.decls) ∙ ap (λ (x : Spec). map (λ r. r.receive) (receives x)) same_spec

  pub numbered : (names : List Name) (event_list input_list previous_list definition_list receive_list send_list : List Instance) (state_list : List State) → IsChecked t → names ≡ previous_names s
      → event_list ≡ flat_map (events_of g) ds → input_list ≡ flat_map (inputs_of g) ds → previous_list ≡ flat_map (previous_of names g) ds → definition_list ≡ flat_map (definitions_made g) ds
      → receive_list ≡ flat_map (receives_made g) ds → send_list ≡ flat_map (sends_of g) ds → state_list ≡ states t
      → AreNumbered s event_list input_list previous_list definition_list receive_list send_list state_list
  numbered names es is ps fs rs ss xs c n e i p f r o q =
      let limits = subst AreFew (sym same_spec) (few t c.keeps.limits) in
      let inputs = i ∙ made_by inputs_of in
      let previous = p ∙ made_by (previous_of names) ∙ ap (λ (ns : List Name). flat_map (previous_of ns (globals_of s)) s.decls) n in
      let made = f ∙ made_by definitions_made in
      record {
        are_events = e ∙ made_by events_of;
        are_inputs = inputs;
        are_previous = previous;
        are_definitions = made ∙ sym (all_defined (globals_of s) s.decls);
        are_receives = r ∙ made_by receives_made ∙ sym (all_received (globals_of s) s.decls);
        are_sends = o ∙ made_by sends_of;
        are_states = q ∙ sym (ap states same_spec);
        few_inputs = as_few is (flat_map (inputs_of (globals_of s)) s.decls) 1024 inputs (inputs_few s limits);
        few_previous = as_few ps (flat_map (previous_of (previous_names s) (globals_of s)) s.decls) 1024 previous (previous_few s (previous_names s) limits);
        few_definitions = as_few fs (flat_map (definitions_made (globals_of s)) s.decls) 8192 made (definitions_few s limits);
      }
