-- The fields of a line one after another are its fields at once.
use Rattle.std.proofs.Common.{◌≡◌, ℕ, ◌+◌, ◌<◌, Bool, true, false, List, [], ◌∷◌, ◌++◌, map, length, drop, get_or, Option, Some, None, Result, Ok, Err, ℤ, refl, sym, ap, ◌∙◌, subst, append_assoc, arith}
use Rattle.std.specs.Prelude.{if◌then◌else◌, ◌&&◌, zip, nat_eq, codes, IsTrue}
use Rattle.std.specs.List.{list_all, starts_with, AllZip}
use Rattle.std.specs.Option.{option_map}
use Rattle.std.proofs.lemmas.List.{append-nil, drop_more, get_or-map, length-map}
use Rattle.rsml_syntax.specs.declared.syntax.Mention.{Mention}
use Rattle.rsml_syntax.specs.text.Names.{Name}
use Rattle.rsml_syntax.specs.rules.Globals.{Globals}
use Rattle.rsml_meaning.specs.Cells.{InputType, input_type, is_of}
use Rattle.rsml_meaning.specs.Interfaces.{ReceiveInstance}
use Rattle.rsml_meaning.specs.EventLines.{Bytes, value_number, all_some, Fields, add_value, fields, E4, E5, E6, E7, Outcome, breaks, tells, read_values, read_fields}
use Rattle.event_lines.specs.declared.line_fault.LineFault.{LineFault}
use Rattle.event_lines.specs.declared.line_fault.LineFault.TheVariants.{WrongField, ExtraWord, NotAValue, OutOfRange}
use Rattle.event_lines.specs.Told.{rule_of}
use Rattle.event_lines.specs.helpers.Values.{read_value, TypedField, value_text, lower, Numbers, with_value, field_numbers}
use Rattle.event_lines.specs.declared.field.Field.{Field}
use Rattle.event_lines.specs.helpers.Forms.{field_of, listed}

-- the numbers of more values, one after another
abbrev joined : Numbers → List InputType → List Bytes → Numbers
joined so_far [] vs = so_far
joined so_far (t ∷ ts) [] = so_far
joined so_far (t ∷ ts) (v ∷ vs) = joined (with_value so_far (read_value t v)) ts vs

-- what the values come to once the fields are found
abbrev by_values : (List Bytes → Numbers) → List Bytes → List Bytes → Numbers
by_values values vs [] = values vs
by_values values vs (word ∷ more) = Err ExtraWord

abbrev by_fields : (List Bytes → Numbers) → Option Fields → Numbers
by_fields values None = Err WrongField
by_fields values (Some f) = by_values values f.values f.more

abbrev names_of : List TypedField → List Name
names_of fs = map (λ f. f.0) fs

abbrev types_of : List TypedField → List InputType
types_of fs = map (λ f. f.1) fs

found_first : (fs : List TypedField) (ws : List Bytes) (so_far : Numbers) → field_numbers fs ws so_far ≡ by_fields (joined so_far (types_of fs)) (fields (names_of fs) ws)
found_first [] [] so_far = refl
found_first [] (w ∷ ws) so_far = refl
found_first (f ∷ fs) [] so_far = refl
found_first (f ∷ fs) (w ∷ ws) so_far = by (value_text f.0 w) (λ text. found_first fs ws (with_value so_far (read_value f.1 text))) ∙ same (starts_with nat_eq w (f.0 ++ codes "="))
  where
    same : (b : Bool) → by_fields (joined so_far (f.1 ∷ types_of fs)) (elim (if b then Some (drop (length f.0 + 1) w) else None) [ None ↦ None | Some t ↦ option_map (add_value t) (fields (names_of fs) ws) ])
        ≡ by_fields (joined so_far (f.1 ∷ types_of fs)) (if b then option_map (add_value (drop (length f.0 + 1) w)) (fields (names_of fs) ws) else None)
    same true = refl
    same false = refl

    more : (text : Bytes) (o : Option Fields) → by_fields (joined (with_value so_far (read_value f.1 text)) (types_of fs)) o ≡ by_fields (joined so_far (f.1 ∷ types_of fs)) (option_map (add_value text) o)
    more text None = refl
    more text (Some x) = by_more x.more
      where
        by_more : (m : List Bytes) → by_values (joined (with_value so_far (read_value f.1 text)) (types_of fs)) x.values m ≡ by_values (joined so_far (f.1 ∷ types_of fs)) (text ∷ x.values) m
        by_more [] = refl
        by_more (w ∷ ws) = refl

    by : (o : Option Bytes) → ((text : Bytes) → field_numbers fs ws (with_value so_far (read_value f.1 text)) ≡ by_fields (joined (with_value so_far (read_value f.1 text)) (types_of fs)) (fields (names_of fs) ws)) →
        elim o [ None ↦ Err WrongField | Some t ↦ field_numbers fs ws (with_value so_far (read_value f.1 t)) ]
        ≡ by_fields (joined so_far (f.1 ∷ types_of fs)) (elim o [ None ↦ None | Some t ↦ option_map (add_value t) (fields (names_of fs) ws) ])
    by None rest = refl
    by (Some text) rest = rest text ∙ more text (fields (names_of fs) ws)

-- A fault stays, but for a lower one.

not_a_value : (ts : List InputType) (vs : List Bytes) → joined (Err NotAValue) ts vs ≡ Err NotAValue
not_a_value [] vs = refl
not_a_value (t ∷ ts) [] = refl
not_a_value (t ∷ ts) (v ∷ vs) = by (read_value t v) (not_a_value ts vs)
  where
    by : (r : Result ℤ LineFault) → joined (Err NotAValue) ts vs ≡ Err NotAValue → joined (with_value (Err NotAValue) r) ts vs ≡ Err NotAValue
    by (Ok n) rest = rest
    by (Err e) rest = rest

-- the values are numbers, or not
abbrev numbers_in : List InputType → List Bytes → Option (List ℤ)
numbers_in ts vs = all_some (map value_number (zip ts vs))

abbrev out_of_range : Option (List ℤ) → Numbers
out_of_range None = Err NotAValue
out_of_range (Some ns) = Err OutOfRange

-- what a value comes to by its number
abbrev of_number : InputType → Option ℤ → Result ℤ LineFault
of_number t o = elim o [ None ↦ Err NotAValue | Some n ↦ if is_of t n then Ok n else Err OutOfRange ]

stays_out : (ts : List InputType) (vs : List Bytes) → joined (Err OutOfRange) ts vs ≡ out_of_range (numbers_in ts vs)
stays_out [] vs = refl
stays_out (t ∷ ts) [] = refl
stays_out (t ∷ ts) (v ∷ vs) = by (value_number (t, v)) (stays_out ts vs)
  where
    more : (n : ℤ) (o : Option (List ℤ)) → out_of_range o ≡ out_of_range (option_map (λ ns. n ∷ ns) o)
    more n None = refl
    more n (Some ns) = refl

    by_range : (n : ℤ) (b : Bool) → joined (with_value (Err OutOfRange) (if b then Ok n else Err OutOfRange)) ts vs ≡ joined (Err OutOfRange) ts vs
    by_range n true = refl
    by_range n false = refl

    by : (o : Option ℤ) → joined (Err OutOfRange) ts vs ≡ out_of_range (numbers_in ts vs) → joined (with_value (Err OutOfRange) (of_number t o)) ts vs ≡ out_of_range (all_some (o ∷ map value_number (zip ts vs)))
    by None rest = not_a_value ts vs
    by (Some n) rest = by_range n (is_of t n) ∙ rest ∙ more n (numbers_in ts vs)

-- what numbers come to behind others
abbrev in_range : List ℤ → List ℤ → Bool → Numbers
in_range front ns b = if b then Ok (front ++ ns) else Err OutOfRange

abbrev behind : List ℤ → List InputType → Option (List ℤ) → Numbers
behind front ts None = Err NotAValue
behind front ts (Some ns) = in_range front ns (list_all (λ x. is_of x.0 x.1) (zip ts ns))

all_values : (front : List ℤ) (ts : List InputType) (vs : List Bytes) → joined (Ok front) ts vs ≡ behind front ts (numbers_in ts vs)
all_values front [] vs = ap Ok (sym (append-nil front))
all_values front (t ∷ ts) [] = ap Ok (sym (append-nil front))
all_values front (t ∷ ts) (v ∷ vs) = by (value_number (t, v)) (λ n. all_values (front ++ (n ∷ [])) ts vs)
  where
    kept : (n : ℤ) (o : Option (List ℤ)) → is_of t n ≡ true → behind (front ++ (n ∷ [])) ts o ≡ behind front (t ∷ ts) (option_map (λ ns. n ∷ ns) o)
    kept n None e = refl
    kept n (Some ns) e =
        ap (λ (xs : List ℤ). if list_all (λ x. is_of x.0 x.1) (zip ts ns) then Ok xs else Err OutOfRange) (append_assoc front (n ∷ []) ns)
        ∙ sym (ap (λ b. in_range front (n ∷ ns) (b && list_all (λ x. is_of x.0 x.1) (zip ts ns))) e)

    lost : (n : ℤ) (o : Option (List ℤ)) → is_of t n ≡ false → out_of_range o ≡ behind front (t ∷ ts) (option_map (λ ns. n ∷ ns) o)
    lost n None e = refl
    lost n (Some ns) e = sym (ap (λ b. in_range front (n ∷ ns) (b && list_all (λ x. is_of x.0 x.1) (zip ts ns))) e)

    by_range : (n : ℤ) (b : Bool) → is_of t n ≡ b → joined (Ok (front ++ (n ∷ []))) ts vs ≡ behind (front ++ (n ∷ [])) ts (numbers_in ts vs) → joined (with_value (Ok front) (if b then Ok n else Err OutOfRange)) ts vs ≡ behind front (t ∷ ts) (option_map (λ ns. n ∷ ns) (numbers_in ts vs))
    by_range n true e rest = rest ∙ kept n (numbers_in ts vs) e
    by_range n false e rest = stays_out ts vs ∙ lost n (numbers_in ts vs) e

    by : (o : Option ℤ) → ((n : ℤ) → joined (Ok (front ++ (n ∷ []))) ts vs ≡ behind (front ++ (n ∷ [])) ts (numbers_in ts vs)) → joined (with_value (Ok front) (of_number t o)) ts vs ≡ behind front (t ∷ ts) (all_some (o ∷ map value_number (zip ts vs)))
    by None rest = not_a_value ts vs
    by (Some n) rest = by_range n (is_of t n) refl (rest n)

-- What the numbers of a line say.

abbrev pub told : ReceiveInstance → Numbers → Outcome
told receive (Ok ns) = tells (record { receive = receive; numbers = ns })
told receive (Err e) = breaks (rule_of e)

listed_names : (g : Globals) (ms : List Mention) → names_of (map (listed g) ms) ≡ map (λ m. m.name) ms
listed_names g [] = refl
listed_names g (m ∷ ms) = ap (λ ns. m.name ∷ ns) (listed_names g ms)

listed_types : (g : Globals) (ms : List Mention) → types_of (map (listed g) ms) ≡ map (input_type g) (map (λ m. m.name) ms)
listed_types g [] = refl
listed_types g (m ∷ ms) = ap (λ ts. input_type g m.name ∷ ts) (listed_types g ms)

-- the definition of what fields come to, by cases
abbrev values_outcome : List InputType → ReceiveInstance → List Bytes → List Bytes → Outcome
values_outcome ts receive vs [] = read_values ts receive vs
values_outcome ts receive vs (word ∷ more) = breaks E5

told_values : (ts : List InputType) (receive : ReceiveInstance) (vs : List Bytes) → read_values ts receive vs ≡ told receive (joined (Ok []) ts vs)
told_values ts receive vs = by (numbers_in ts vs) ∙ sym (ap (told receive) (all_values [] ts vs))
  where
    by_range : (ns : List ℤ) (b : Bool) → (if b then tells (record { receive = receive; numbers = ns }) else breaks E7) ≡ told receive (in_range [] ns b)
    by_range ns true = refl
    by_range ns false = refl

    by : (o : Option (List ℤ)) → elim o [
      | None ↦ breaks E6
      | Some ns ↦ if list_all (λ x. is_of x.0 x.1) (zip ts ns) then tells (record { receive = receive; numbers = ns }) else breaks E7
    ] ≡ told receive (behind [] ts o)
    by None = refl
    by (Some ns) = by_range ns (list_all (λ x. is_of x.0 x.1) (zip ts ns))

-- the words behind the first come to what their fields come to one after another
pub fields_come_to : (g : Globals) (ms : List Mention) (receive : ReceiveInstance) (ws : List Bytes) →
    read_fields g (map (λ m. m.name) ms) receive ws ≡ told receive (field_numbers (map (listed g) ms) ws (Ok []))
fields_come_to g ms receive ws =
    by (fields (map (λ m. m.name) ms) ws)
    ∙ sym (ap (told receive) (found_first (map (listed g) ms) ws (Ok [])
    ∙ ap (λ (ts : List InputType). by_fields (joined (Ok []) ts) (fields (names_of (map (listed g) ms)) ws)) (listed_types g ms)
    ∙ ap (λ (ns : List Name). by_fields (joined (Ok []) types) (fields ns ws)) (listed_names g ms)))
  where
    types : List InputType
    types = map (input_type g) (map (λ m. m.name) ms)

    by_more : (vs more : List Bytes) → elim more [ [] ↦ read_values types receive vs | word ∷ rest ↦ breaks E5 ] ≡ told receive (by_values (joined (Ok []) types) vs more)
    by_more vs [] = told_values types receive vs
    by_more vs (word ∷ more) = refl

    by : (o : Option Fields) → elim o [ None ↦ breaks E4 | Some f ↦ elim f.more [ [] ↦ read_values types receive f.values | word ∷ more ↦ breaks E5 ] ]
        ≡ told receive (by_fields (joined (Ok []) types) o)
    by None = refl
    by (Some f) = by_more f.values f.more

-- The numbers are of their types.

-- the numbers from a field on, by its text
abbrev from_text : TypedField → List TypedField → List Bytes → Numbers → Option Bytes → Numbers
from_text f fs ws so_far None = Err WrongField
from_text f fs ws so_far (Some text) = field_numbers fs ws (with_value so_far (read_value f.1 text))

abbrev IsOfField : TypedField → ℤ → Type 0
IsOfField f n = IsTrue (is_of f.1 n)

-- numbers behind others, each of the type of its field
record Behind (fs : List TypedField) (front ns : List ℤ) : Type 0 where
  rest : List ℤ
  are : ns ≡ front ++ rest
  typed : AllZip IsOfField fs rest

no_numbers : (fs : List TypedField) (ws : List Bytes) (e : LineFault) (ns : List ℤ) → field_numbers fs ws (Err e) ≡ Ok ns → ⊥
no_numbers [] [] e ns h = cc
no_numbers [] (w ∷ ws) e ns h = cc
no_numbers (f ∷ fs) [] e ns h = cc
no_numbers (f ∷ fs) (w ∷ ws) e ns h = by (value_text f.0 w) (λ other. no_numbers fs ws other ns) h
  where
    by_value : (r : Result ℤ LineFault) → ((other : LineFault) → field_numbers fs ws (Err other) ≡ Ok ns → ⊥) → field_numbers fs ws (with_value (Err e) r) ≡ Ok ns → ⊥
    by_value (Ok n) rest h = rest e h
    by_value (Err other) rest h = rest (lower e other) h

    by : (o : Option Bytes) → ((other : LineFault) → field_numbers fs ws (Err other) ≡ Ok ns → ⊥) →
        from_text f fs ws (Err e) o ≡ Ok ns → ⊥
    by None rest h = cc
    by (Some text) rest h = by_value (read_value f.1 text) rest h

value_is : (t : InputType) (text : Bytes) (n : ℤ) → read_value t text ≡ Ok n → is_of t n ≡ true
value_is t text n h = by (value_number (t, text)) h
  where
    by_range : (m : ℤ) (b : Bool) → is_of t m ≡ b → (if b then Ok m else Err OutOfRange) ≡ Ok n → is_of t n ≡ true
    by_range m true e h = let same : m ≡ n = cc in sym (ap (is_of t) same) ∙ e
    by_range m false e h = cc

    by : (o : Option ℤ) → of_number t o ≡ Ok n → is_of t n ≡ true
    by None h = cc
    by (Some m) h = by_range m (is_of t m) refl h

typed_behind : (fs : List TypedField) (ws : List Bytes) (front ns : List ℤ) → field_numbers fs ws (Ok front) ≡ Ok ns → Behind fs front ns
typed_behind [] [] front ns h = record { rest = []; are = let same : front ≡ ns = cc in sym same ∙ sym (append-nil front); typed = tt }
typed_behind [] (w ∷ ws) front ns h = cc
typed_behind (f ∷ fs) [] front ns h = cc
typed_behind (f ∷ fs) (w ∷ ws) front ns h = by (value_text f.0 w) (λ n. typed_behind fs ws (front ++ (n ∷ [])) ns) h
  where
    by_value : (text : Bytes) (r : Result ℤ LineFault) → read_value f.1 text ≡ r → ((n : ℤ) → field_numbers fs ws (Ok (front ++ (n ∷ []))) ≡ Ok ns → Behind fs (front ++ (n ∷ [])) ns) → field_numbers fs ws (with_value (Ok front) r) ≡ Ok ns → Behind (f ∷ fs) front ns
    by_value text (Ok n) e rest h =
        let b = rest n h in
        record { rest = n ∷ b.rest; are = b.are ∙ append_assoc front (n ∷ []) b.rest; typed = (value_is f.1 text n e, b.typed) }
    by_value text (Err other) e rest h = absurd (no_numbers fs ws other ns h)

    by : (o : Option Bytes) → ((n : ℤ) → field_numbers fs ws (Ok (front ++ (n ∷ []))) ≡ Ok ns → Behind fs (front ++ (n ∷ [])) ns) → from_text f fs ws (Ok front) o ≡ Ok ns → Behind (f ∷ fs) front ns
    by None rest h = cc
    by (Some text) rest h = by_value text (read_value f.1 text) refl rest h

pub numbers_typed : (fs : List TypedField) (ws : List Bytes) (ns : List ℤ) → field_numbers fs ws (Ok []) ≡ Ok ns → AllZip (λ f n. IsTrue (is_of f.1 n)) fs ns
numbers_typed fs ws ns h = let b = typed_behind fs ws [] ns h in subst (λ (zs : List ℤ). AllZip IsOfField fs zs) (sym b.are) b.typed

-- One field after another.

-- no word, or none of the field
pub no_word_left : (f : TypedField) (fs : List TypedField) (ws : List Bytes) (so_far : Numbers) → ws ≡ [] → field_numbers (f ∷ fs) ws so_far ≡ Err WrongField
no_word_left f fs ws so_far e = ap (λ (zs : List Bytes). field_numbers (f ∷ fs) zs so_far) e

pub no_value : (f : TypedField) (fs : List TypedField) (more : List Bytes) (word : Bytes) (so_far : Numbers) → None ≡ value_text f.0 word → field_numbers (f ∷ fs) (word ∷ more) so_far ≡ Err WrongField
no_value f fs more word so_far h =
    ap (λ (o : Option Bytes). elim o [ None ↦ Err WrongField | Some text ↦ field_numbers fs more (with_value so_far (read_value f.1 text)) ]) (sym h)

pub value_left : (f : TypedField) (fs : List TypedField) (more : List Bytes) (word text : Bytes) (so_far after : Numbers) (read : Result ℤ LineFault) → Some text ≡ value_text f.0 word →
    read ≡ read_value f.1 text → after ≡ with_value so_far read → field_numbers (f ∷ fs) (word ∷ more) so_far ≡ field_numbers fs more after
value_left f fs more word text so_far after read h is kept =
    ap (λ (o : Option Bytes). elim o [ None ↦ Err WrongField | Some text ↦ field_numbers fs more (with_value so_far (read_value f.1 text)) ]) (sym h)
    ∙ ap (λ (r : Result ℤ LineFault). field_numbers fs more (with_value so_far r)) (sym is) ∙ ap (field_numbers fs more) (sym kept)

-- a turn of the loop over fields
module _ (types : List InputType) (all : List Field) (i : ℕ) (f : Field) (within : i < length all) (item : f ≡ get_or all i f) where
  abbrev left : ℕ → List TypedField
  left n = drop n (map (field_of types) all)

  here : left i ≡ field_of types f ∷ left (i + 1)
  here =
      drop_more (map (field_of types) all) i (field_of types f) (omega (arith, within, length-map all (field_of types)))
      ∙ ap (λ (x : TypedField). x ∷ left (i + 1)) (get_or-map (field_of types) all i f (field_of types f) within ∙ ap (field_of types) (sym item))

  pub turn : (ws more : List Bytes) (so_far after asked : Numbers) → ((fs : List TypedField) → field_numbers (field_of types f ∷ fs) ws so_far ≡ field_numbers fs more after) →
      field_numbers (left i) ws so_far ≡ asked → field_numbers (left (i + 1)) more after ≡ asked
  turn ws more so_far after asked step h = sym (step (left (i + 1))) ∙ ap (λ (fs : List TypedField). field_numbers fs ws so_far) (sym here) ∙ h

  pub fails : (ws : List Bytes) (so_far asked : Numbers) (e : LineFault) → ((fs : List TypedField) → field_numbers (field_of types f ∷ fs) ws so_far ≡ Err e) →
      field_numbers (left i) ws so_far ≡ asked → asked ≡ Err e
  fails ws so_far asked e step h = sym h ∙ ap (λ (fs : List TypedField). field_numbers fs ws so_far) here ∙ step (left (i + 1))
