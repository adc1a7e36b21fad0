-- What a line comes to, by its parts.
use Rattle.std.proofs.Common.{◌≡◌, ℕ, ◌+◌, ◌-◌, ◌≤◌, Bool, true, false, List, [], ◌∷◌, map, length, take, slice_get, Option, Some, None, Result, Ok, Err, ℤ, refl, sym, ap, ◌∙◌, subst, arith}
use Rattle.std.specs.Prelude.{if◌then◌else◌, IsTrue, IfOk, IfErr, MatchResult, is_ok}
use Rattle.std.specs.List.{AllZip}
use Rattle.std.specs.Str.{is_utf8, IsUtf8}
use Rattle.std.proofs.lemmas.Str.{IsUtf8-from_is_utf8, is_utf8-from_IsUtf8}
use Rattle.std.proofs.lemmas.List.{length-map, length-take-le}
use Rattle.rsml_syntax.specs.declared.syntax.Spec.{Spec}
use Rattle.rsml_syntax.specs.declared.syntax.Mention.{Mention}
use Rattle.rsml_syntax.specs.text.Names.{Name}
use Rattle.rsml_syntax.specs.rules.Globals.{Globals, many}
use Rattle.rsml_meaning.specs.Words.{Instance, Each}
use Rattle.rsml_meaning.specs.Instances.{globals_of}
use Rattle.rsml_meaning.specs.Cells.{InputType, input_type, is_of}
use Rattle.rsml_meaning.specs.Interfaces.{ReceiveInstance, new_receive, receives}
use Rattle.rsml_meaning.specs.Truth.{within, instance}
use Rattle.rsml_meaning.specs.EventLines as lines
use Rattle.event_lines.specs.declared.field.Field.{Field}
use Rattle.event_lines.specs.declared.form.Form.{Form}
use Rattle.event_lines.specs.declared.line_fault.LineFault.{LineFault}
use Rattle.event_lines.specs.declared.received.Received.{Received}
use Rattle.event_lines.specs.Told.{rule_of, IsReceived, Says}
use Rattle.event_lines.specs.helpers.Declared.{types_of}
use Rattle.event_lines.specs.helpers.Values.{TypedField, field_numbers}
use Rattle.event_lines.specs.helpers.Forms.{field_of, listed, index_of, IsFormOf}
use Rattle.event_lines.proofs.FieldLemmas.{told, fields_come_to, numbers_typed}
use Rattle.event_lines.proofs.FormLemmas.{index_told, each_at}

-- The words, by the form of the receive.

module _ (s : Spec) (word : lines.Bytes) (ws : List lines.Bytes) where
  abbrev g : Globals
  g = globals_of s

  abbrev by_interface : Option lines.Interface → lines.Outcome
  by_interface o = elim o [ None ↦ lines.breaks lines.E2 | Some i ↦ lines.read_instance g word i ws ]

  pub unknown_breaks : (name : Name) → name ≡ lines.name_part word → lines.interface g name ≡ None → lines.read_words g (word ∷ ws) ≡ lines.breaks lines.E2
  unknown_breaks name n h = ap by_interface (ap (lines.interface g) (sym n) ∙ h)

  module _ (name index_text : lines.Bytes) (name_is : name ≡ lines.name_part word) (index_is : index_text ≡ lines.index_part word) (f : Form) (form : IsFormOf s name f) where
    abbrev by_index : Option ℕ → lines.Outcome
    by_index o = elim o [
      | None ↦ lines.breaks lines.E3
      | Some index ↦ lines.read_fields g (map (λ m. m.name) form.interface.inputs) (new_receive g (lines.name_part word) form.interface.inputs form.interface.raised index) ws
    ]

    at_index : (o : Option ℕ) → o ≡ index_of f.is_array f.many index_text → lines.read_words g (word ∷ ws) ≡ by_index o
    at_index o e =
        ap by_interface (ap (lines.interface g) (sym name_is) ∙ form.named)
        ∙ ap by_index (index_told g form.interface.size (lines.index_part word)
        ∙ sym (ap (λ b. index_of b (many g form.interface.size) (lines.index_part word)) form.is_array)
        ∙ sym (ap (λ n. index_of f.is_array n (lines.index_part word)) form.many)
        ∙ sym (ap (index_of f.is_array f.many) index_is) ∙ sym e)

    pub bad_index_breaks : None ≡ index_of f.is_array f.many index_text → lines.read_words g (word ∷ ws) ≡ lines.breaks lines.E3
    bad_index_breaks h = at_index None h

    abbrev typed_fields : List TypedField
    typed_fields = map (field_of (types_of s.decls)) f.fields.items

    abbrev receive_at : ℕ → ReceiveInstance
    receive_at index = new_receive g name form.interface.inputs form.interface.raised index

    by_numbers : (index : ℕ) → Some index ≡ index_of f.is_array f.many index_text → lines.read_words g (word ∷ ws) ≡ told (receive_at index) (field_numbers typed_fields ws (Ok []))
    by_numbers index e =
        at_index (Some index) e
        ∙ fields_come_to g form.interface.inputs (new_receive g (lines.name_part word) form.interface.inputs form.interface.raised index) ws
        ∙ ap (λ (z : Name). told (new_receive g z form.interface.inputs form.interface.raised index) (field_numbers (map (listed g) form.interface.inputs) ws (Ok []))) (sym name_is)
        ∙ ap (λ (fs : List TypedField). told (receive_at index) (field_numbers fs ws (Ok []))) (sym form.fields)

    pub fault_breaks : (index : ℕ) → Some index ≡ index_of f.is_array f.many index_text → (fault : LineFault) → field_numbers typed_fields ws (Ok []) ≡ Err fault →
        lines.read_words g (word ∷ ws) ≡ lines.breaks (rule_of fault)
    fault_breaks index e fault h = by_numbers index e ∙ ap (told (receive_at index)) h

    -- Where an event is told.

    fields_many : length f.fields.items ≡ length form.interface.inputs
    fields_many = sym (length-map f.fields.items (field_of (types_of s.decls))) ∙ ap length form.fields ∙ length-map form.interface.inputs (listed g)

    inputs_many : (index : ℕ) → length (receive_at index).inputs ≡ length form.interface.inputs
    inputs_many index = length-map form.interface.inputs (instance g (within index))

    pub has_room : (index room : ℕ) → Some index ≡ index_of f.is_array f.many index_text → Each (λ x. length x.inputs ≤ room) (receives s) → length f.fields.items ≤ room
    has_room index room e h =
        let here : length (receive_at index).inputs ≤ room = each_at (λ (x : ReceiveInstance). length x.inputs ≤ room) (receives s) (f.first + (index - 1)) (receive_at index) h (form.there index_text index (sym e)) in
        omega (arith, here, fields_many, inputs_many index)

    typed_inputs : (index : ℕ) (ms : List Mention) (ns : List ℤ) → AllZip (λ (x : TypedField) n. IsTrue (is_of x.1 n)) (map (listed g) ms) ns →
        AllZip (λ (x : Instance) n. IsTrue (is_of (input_type g x.name) n)) (map (instance g (within index)) ms) ns
    typed_inputs index [] [] h = tt
    typed_inputs index [] (n ∷ ns) h = elim h [ ]
    typed_inputs index (m ∷ ms) [] h = elim h [ ]
    typed_inputs index (m ∷ ms) (n ∷ ns) h = (h.0, typed_inputs index ms ns h.1)

    pub event_told : (index : ℕ) → Some index ≡ index_of f.is_array f.many index_text → (values : List ℤ) → length f.fields.items ≤ length values →
        field_numbers typed_fields ws (Ok []) ≡ Ok (take (length f.fields.items) values) → (r : Received) → r.interface ≡ f.first + (index - 1) →
        IsReceived s (lines.read_words g (word ∷ ws)) r values
    event_told index e values room h r place =
        let numbers : List ℤ = take (length f.fields.items) values in
        let many : length numbers ≡ length f.fields.items = length-take-le (length f.fields.items) values room in
        record {
          message = record { receive = receive_at index; numbers = numbers };
          told = by_numbers index e ∙ ap (told (receive_at index)) h;
          receive = ap (slice_get (receives s)) place ∙ form.there index_text index (sym e);
          numbers = ap (λ n. take n values) many;
          count = many ∙ fields_many ∙ sym (inputs_many index);
          typed = typed_inputs index form.interface.inputs numbers
              (subst (λ (fs : List TypedField). AllZip (λ (x : TypedField) n. IsTrue (is_of x.1 n)) fs numbers) form.fields (numbers_typed typed_fields ws numbers h));
        }

    -- The same where the types and the fields are given.

    abbrev Tells : List InputType → List Field → Type 0
    Tells types fields = (index : ℕ) → Some index ≡ index_of f.is_array f.many index_text → (values : List ℤ) → length fields ≤ length values →
        field_numbers (map (field_of types) fields) ws (Ok []) ≡ Ok (take (length fields) values) → (r : Received) → r.interface ≡ f.first + (index - 1) →
        IsReceived s (lines.read_words g (word ∷ ws)) r values

    pub result_told : (types : List InputType) (fields : List Field) → types ≡ types_of s.decls → fields ≡ f.fields.items → Tells types fields
    result_told types fields t k = subst (λ (ts : List InputType). Tells ts fields) (sym t) (subst (λ (fs : List Field). Tells (types_of s.decls) fs) (sym k) event_told)

    abbrev Breaks : List InputType → List Field → Type 0
    Breaks types fields = (index : ℕ) → Some index ≡ index_of f.is_array f.many index_text → (fault : LineFault) → field_numbers (map (field_of types) fields) ws (Ok []) ≡ Err fault →
        lines.read_words g (word ∷ ws) ≡ lines.breaks (rule_of fault)

    pub result_breaks : (types : List InputType) (fields : List Field) → types ≡ types_of s.decls → fields ≡ f.fields.items → Breaks types fields
    result_breaks types fields t k = subst (λ (ts : List InputType). Breaks ts fields) (sym t) (subst (λ (fs : List Field). Breaks (types_of s.decls) fs) (sym k) fault_breaks)

-- The whole line.

pub utf8_reads : (s : Spec) (line : lines.Bytes) → is_utf8 line ≡ true → lines.read_line s line ≡ lines.read_words (globals_of s) (lines.words line)
utf8_reads s line h = ap (λ b. if b then lines.read_words (globals_of s) (lines.words line) else lines.breaks lines.E1) h

pub other_breaks : (s : Spec) (line : lines.Bytes) → is_utf8 line ≡ false → lines.read_line s line ≡ lines.breaks lines.E1
other_breaks s line h = ap (λ b. if b then lines.read_words (globals_of s) (lines.words line) else lines.breaks lines.E1) h

pub not_utf8 : (line : lines.Bytes) → (IsUtf8 line → ⊥) → is_utf8 line ≡ false
not_utf8 line h = by (is_utf8 line) refl
  where
    by : (b : Bool) → is_utf8 line ≡ b → b ≡ false
    by true e = absurd (h (IsUtf8-from_is_utf8 line e))
    by false e = refl

-- what a check of a line tells
pub told_by : {V E : Type 0} (line : lines.Bytes) (A : V → Type 0) (B : E → Type 0) (r : Result V E) → MatchResult r (λ v. A v × IsUtf8 line) (λ e. (IsUtf8 line → ⊥) × B e) → is_ok r ≡ is_utf8 line
told_by line A B (Ok v) h = sym (is_utf8-from_IsUtf8 line h.1)
told_by line A B (Err e) h = sym (not_utf8 line h.0)

pub says_ok : (s : Spec) (whole part : lines.Outcome) (r : Result Received LineFault) (values : List ℤ) → whole ≡ part → Says s part r values → IfOk r (λ x. IsReceived s whole x values)
says_ok s whole part (Ok x) values e h = subst (λ (o : lines.Outcome). IsReceived s o x values) (sym e) h
says_ok s whole part (Err fault) values e h = tt

pub says_err : (s : Spec) (whole part : lines.Outcome) (r : Result Received LineFault) (values : List ℤ) → whole ≡ part → Says s part r values → IfErr r (λ fault. whole ≡ lines.breaks (rule_of fault))
says_err s whole part (Ok x) values e h = tt
says_err s whole part (Err fault) values e h = e ∙ h
