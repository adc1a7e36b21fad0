-- What is known of an event that a line tells: it raises an external event, and its numbers are of the types of its inputs.
use Rattle.std.proofs.Common.{◌≡◌, ℕ, Bool, true, false, ◌&&◌, List, [], ◌∷◌, map, Option, Some, None, zip, ℤ, if◌then◌else◌, inl, inr, refl, sym, ap, ◌∙◌, subst, nat_le, leb-true, option_and_then, filter_map}
use Rattle.std.specs.List.{list_all, cons_option}
use Rattle.std.specs.Str.{is_utf8}
use Rattle.std.specs.Cmp.{first_so, second_so}
use Rattle.rsml_syntax.specs.declared.syntax.Spec.{Spec}
use Rattle.rsml_syntax.specs.declared.syntax.Amount.{Amount}
use Rattle.rsml_syntax.specs.declared.syntax.Mention.{Mention}
use Rattle.rsml_syntax.specs.declared.syntax.Decl.{Decl}
use Rattle.rsml_syntax.specs.declared.syntax.Decl.TheVariants as decl
use Rattle.rsml_syntax.specs.text.Names.{Name}
use Rattle.rsml_syntax.specs.rules.Globals.{Known, Globals, meaning, many, indices}
use Rattle.rsml_meaning.specs.Words.{Each, IsOne, Instance, same_instance}
use Rattle.rsml_meaning.specs.Instances.{globals_of}
use Rattle.rsml_meaning.specs.Cells.{InputType, input_type, is_of}
use Rattle.rsml_meaning.specs.Truth.{within, instance}
use Rattle.rsml_meaning.specs.Interfaces.{ReceiveInstance, new_receive, receives, receives_of}
use Rattle.rsml_meaning.specs.Chains.{is_external}
use Rattle.rsml_meaning.specs.EventLines.{Bytes, Interface, interface_by, interface, up_to_size, index_told, in_brackets, digits_number, is_empty, name_part, index_part, fields, Fields, words, is_skipped, Message, Outcome, breaks, tells, E1, E2, E3, E4, E5, E6, E7, all_some, value_number, read_values, read_fields, read_instance, read_words, read_line}
use Rattle.rsml_meaning.specs.EventFiles.{Line, message, messages, without_return}
use Rattle.rsml_meaning.proofs.Same.{instance_itself}
use Rattle.rsml_meaning.proofs.Lists.{one_map, one_flat_map, any_one}
use Rattle.rsml_meaning.proofs.Globals.{Means, meaning_is, in_up_to}

-- A number that a message has for an input is of the input's type.
abbrev pub IsFit : Globals → Instance × ℤ → Type 0
IsFit g f = is_of (input_type g f.0.name) f.1 ≡ true

-- What is known of a message.
pub record IsTold (s : Spec) (m : Message) : Type 0 where
  pub external : is_external s m.receive.raised ≡ true
  pub fit : Each (IsFit (globals_of s)) (zip m.receive.inputs m.numbers)

-- Numbers.

all_fit : (g : Globals) (i : ℕ) (inputs : List Mention) (ns : List ℤ) → list_all (λ (x : InputType × ℤ). is_of x.0 x.1) (zip (map (input_type g) (map (λ m. m.name) inputs)) ns) ≡ true
    → Each (IsFit g) (zip (map (instance g (within i)) inputs) ns)
all_fit g i [] ns h = tt
all_fit g i (m ∷ inputs) [] h = tt
all_fit g i (m ∷ inputs) (n ∷ ns) h =
    let here = is_of (input_type g m.name) n in
    let rest = list_all (λ (x : InputType × ℤ). is_of x.0 x.1) (zip (map (input_type g) (map (λ m. m.name) inputs)) ns) in
    (first_so here rest h, all_fit g i inputs ns (second_so here rest h))

-- What is known of a message with this receive instance and these types.
record IsRead (types : List InputType) (receive : ReceiveInstance) (m : Message) : Type 0 where
  is : m.receive ≡ receive
  fit : list_all (λ (x : InputType × ℤ). is_of x.0 x.1) (zip types m.numbers) ≡ true

values_read : (types : List InputType) (receive : ReceiveInstance) (values : List Bytes) (m : Message) → read_values types receive values ≡ tells m → IsRead types receive m
values_read types receive values m h = by_numbers (all_some (map value_number (zip types values))) h
  where
    by_test : (numbers : List ℤ) (b : Bool) → list_all (λ (x : InputType × ℤ). is_of x.0 x.1) (zip types numbers) ≡ b
        → (if b then tells (record { receive = receive; numbers = numbers }) else breaks E7) ≡ tells m → IsRead types receive m
    by_test numbers true e k =
        let same : record { receive = receive; numbers = numbers } ≡ m = cc in
        subst (IsRead types receive) same (record { is = refl; fit = e })
    by_test numbers false e k = cc

    by_numbers : (o : Option (List ℤ)) → elim o [
      | None ↦ breaks E6
      | Some numbers ↦ if list_all (λ (x : InputType × ℤ). is_of x.0 x.1) (zip types numbers) then tells (record { receive = receive; numbers = numbers }) else breaks E7
    ] ≡ tells m → IsRead types receive m
    by_numbers None k = cc
    by_numbers (Some numbers) k = by_test numbers (list_all (λ (x : InputType × ℤ). is_of x.0 x.1) (zip types numbers)) refl k

fields_read : (g : Globals) (inputs : List Name) (receive : ReceiveInstance) (ws : List Bytes) (m : Message) → read_fields g inputs receive ws ≡ tells m → IsRead (map (input_type g) inputs) receive m
fields_read g inputs receive ws m h = by_fields (fields inputs ws) h
  where
    by_more : (more : List Bytes) (values : List Bytes) → elim more [ [] ↦ read_values (map (input_type g) inputs) receive values | word ∷ more ↦ breaks E5 ] ≡ tells m → IsRead (map (input_type g) inputs) receive m
    by_more [] values k = values_read (map (input_type g) inputs) receive values m k
    by_more (word ∷ more) values k = cc

    by_fields : (o : Option Fields) → elim o [
      | None ↦ breaks E4
      | Some f ↦ elim f.more [ [] ↦ read_values (map (input_type g) inputs) receive f.values | word ∷ more ↦ breaks E5 ]
    ] ≡ tells m → IsRead (map (input_type g) inputs) receive m
    by_fields None k = cc
    by_fields (Some f) k = by_more f.more f.values k

-- The receive instance.

index_is : (g : Globals) (size : Option Amount) (text : Bytes) (i : ℕ) → index_told g size text ≡ Some i → IsOne i (indices g size)
index_is g None text i h = by_test (is_empty text) h
  where
    by_test : (b : Bool) → (if b then Some 0 else None) ≡ Some i → IsOne i (indices g None)
    by_test true k = inl (let same : 0 ≡ i = cc in sym same)
    by_test false k = cc
index_is g (Some amount) text i h = by_number (option_and_then digits_number (in_brackets text)) h
  where
    by_test : (n : ℕ) (b : Bool) → (nat_le 1 n && nat_le n (many g (Some amount))) ≡ b → (if b then Some n else None) ≡ Some i → IsOne i (indices g (Some amount))
    by_test n true e k =
        let same : n ≡ i = cc in
        subst (λ z. IsOne z (indices g (Some amount))) same
        (in_up_to (many g (Some amount)) n (leb-true 1 n (first_so (nat_le 1 n) (nat_le n (many g (Some amount))) e)) (leb-true n (many g (Some amount)) (second_so (nat_le 1 n) (nat_le n (many g (Some amount))) e)))
    by_test n false e k = cc

    by_number : (o : Option ℕ) → option_and_then (up_to_size (many g (Some amount))) o ≡ Some i → IsOne i (indices g (Some amount))
    by_number None k = cc
    by_number (Some n) k = by_test n (nat_le 1 n && nat_le n (many g (Some amount))) refl k

interface_is : (s : Spec) (name : Name) (i : Interface) → interface (globals_of s) name ≡ Some i → IsOne (decl.Receive name i.size i.inputs i.raised) s.decls
interface_is s name i h = by_meaning (meaning (globals_of s) name) refl h
  where
    by_decl : (d : Decl) (value : Option ℕ) → Means s.decls name (record { decl = d; value = value }) → interface_by (record { decl = d; value = value }) ≡ Some i → IsOne (decl.Receive name i.size i.inputs i.raised) s.decls
    by_decl (decl.Receive n size inputs raised) None m k =
        let same : n ≡ name = m.named refl in
        let is : record { size = size; inputs = inputs; raised = raised } ≡ i = cc in
        subst (λ (z : Interface). IsOne (decl.Receive name z.size z.inputs z.raised) s.decls) is (subst (λ z. IsOne (decl.Receive z size inputs raised) s.decls) same m.among)
    by_decl (decl.Receive n size inputs raised) (Some j) m k = elim m.valued [ inl e ↦ cc | inr e ↦ cc ]
    by_decl (decl.Enumeration n names) value m k = cc
    by_decl (decl.Range n low high) value m k = cc
    by_decl (decl.Constant n number) value m k = cc
    by_decl (decl.Input n size kind initial) value m k = cc
    by_decl (decl.Event n size) value m k = cc
    by_decl (decl.Macro n size rows) value m k = cc
    by_decl (decl.Function n size cases) value m k = cc
    by_decl (decl.Send n size names cases) value m k = cc

    by_meaning : (o : Option Known) → meaning (globals_of s) name ≡ o → option_and_then interface_by o ≡ Some i → IsOne (decl.Receive name i.size i.inputs i.raised) s.decls
    by_meaning None e k = cc
    by_meaning (Some known) e k = by_decl known.decl known.value (meaning_is s.decls name known e) k

raises_external : (s : Spec) (name : Name) (size : Option Amount) (inputs : List Mention) (raised : Mention) (i : ℕ) → IsOne (decl.Receive name size inputs raised) s.decls → IsOne i (indices (globals_of s) size)
    → is_external s (new_receive (globals_of s) name inputs raised i).raised ≡ true
raises_external s name size inputs raised i m k =
    let r = new_receive (globals_of s) name inputs raised i in
    any_one (λ q. same_instance q.raised r.raised) (receives s) r
    (one_flat_map (receives_of (globals_of s)) s.decls (decl.Receive name size inputs raised) r m (one_map (new_receive (globals_of s) name inputs raised) (indices (globals_of s) size) i k))
    (instance_itself r.raised)

-- Lines.

instance_read : (s : Spec) (word : Bytes) (i : Interface) (ws : List Bytes) (m : Message) → interface (globals_of s) (name_part word) ≡ Some i → read_instance (globals_of s) word i ws ≡ tells m → IsTold s m
instance_read s word i ws m e h = by_index (index_told (globals_of s) i.size (index_part word)) refl h
  where
    told : (index : ℕ) → index_told (globals_of s) i.size (index_part word) ≡ Some index
        → IsRead (map (input_type (globals_of s)) (map (λ m. m.name) i.inputs)) (new_receive (globals_of s) (name_part word) i.inputs i.raised index) m → IsTold s m
    told index q r = record {
      external = ap (λ (z : ReceiveInstance). is_external s z.raised) r.is ∙ raises_external s (name_part word) i.size i.inputs i.raised index (interface_is s (name_part word) i e) (index_is (globals_of s) i.size (index_part word) index q);
      fit = subst (λ (z : ReceiveInstance). Each (IsFit (globals_of s)) (zip z.inputs m.numbers)) (sym r.is) (all_fit (globals_of s) index i.inputs m.numbers r.fit);
    }

    by_index : (o : Option ℕ) → index_told (globals_of s) i.size (index_part word) ≡ o → elim o [
      | None ↦ breaks E3
      | Some index ↦ read_fields (globals_of s) (map (λ m. m.name) i.inputs) (new_receive (globals_of s) (name_part word) i.inputs i.raised index) ws
    ] ≡ tells m → IsTold s m
    by_index None q k = cc
    by_index (Some index) q k = told index q (fields_read (globals_of s) (map (λ m. m.name) i.inputs) (new_receive (globals_of s) (name_part word) i.inputs i.raised index) ws m k)

words_read : (s : Spec) (ws : List Bytes) (m : Message) → read_words (globals_of s) ws ≡ tells m → IsTold s m
words_read s [] m h = cc
words_read s (word ∷ ws) m h = by_interface (interface (globals_of s) (name_part word)) refl h
  where
    by_interface : (o : Option Interface) → interface (globals_of s) (name_part word) ≡ o → elim o [ None ↦ breaks E2 | Some i ↦ read_instance (globals_of s) word i ws ] ≡ tells m → IsTold s m
    by_interface None e k = cc
    by_interface (Some i) e k = instance_read s word i ws m e k

line_read : (s : Spec) (line : Bytes) (m : Message) → read_line s line ≡ tells m → IsTold s m
line_read s line m h = by_test (is_utf8 line) h
  where
    by_test : (b : Bool) → (if b then read_words (globals_of s) (words line) else breaks E1) ≡ tells m → IsTold s m
    by_test true k = words_read s (words line) m k
    by_test false k = cc

message_told : (s : Spec) (line : Line) (m : Message) → message s line ≡ Some m → IsTold s m
message_told s line m h = by_test (is_skipped (without_return line.bytes)) h
  where
    by_outcome : (o : Outcome) → read_line s (without_return line.bytes) ≡ o → elim (Some o) [ Some (tells m) ↦ Some m | _ ↦ None ] ≡ Some m → IsTold s m
    by_outcome (tells q) e k = line_read s (without_return line.bytes) m (e ∙ let same : q ≡ m = cc in ap (λ z. tells z) same)
    by_outcome (breaks rule) e k = cc

    by_test : (b : Bool) → elim (if b then None else Some (read_line s (without_return line.bytes))) [ Some (tells m) ↦ Some m | _ ↦ None ] ≡ Some m → IsTold s m
    by_test true k = cc
    by_test false k = by_outcome (read_line s (without_return line.bytes)) refl k

-- what is known of the events that lines tell
pub all_told : (s : Spec) (ls : List Line) → Each (IsTold s) (messages s ls)
all_told s [] = tt
all_told s (line ∷ ls) = by_message (message s line) refl (all_told s ls)
  where
    by_message : (o : Option Message) → message s line ≡ o → Each (IsTold s) (messages s ls) → Each (IsTold s) (cons_option o (filter_map (message s) ls))
    by_message None e rest = rest
    by_message (Some m) e rest = (message_told s line m e, rest)
