-- Lines of an event file are read alike by specifications of one frame.
use Rattle.std.proofs.Common.{◌≡◌, ℕ, Bool, true, false, List, [], ◌∷◌, map, filter_map, take_while, length, Option, Some, None, if◌then◌else◌, is_none, refl, sym, ap, ◌∙◌}
use Rattle.std.specs.Str.{is_utf8}
use Rattle.std.specs.Option.{option_map_or, option_and_then}
use Rattle.rsml_syntax.specs.declared.syntax.Spec.{Spec}
use Rattle.rsml_syntax.specs.declared.syntax.Amount.{Amount}
use Rattle.rsml_syntax.specs.declared.syntax.Decl.{Decl}
use Rattle.rsml_syntax.specs.declared.syntax.Decl.TheVariants as decl
use Rattle.rsml_syntax.specs.limits.Checked.{IsChecked}
use Rattle.rsml_syntax.specs.text.Names.{Name}
use Rattle.rsml_syntax.specs.rules.Globals.{Globals, Known, meaning}
use Rattle.rsml_meaning.specs.Words.{first_some}
use Rattle.rsml_meaning.specs.Instances.{globals_of}
use Rattle.rsml_meaning.specs.Cells.{no_type, type_by, input_type}
use Rattle.rsml_meaning.specs.Interfaces.{ReceiveInstance, new_receive}
use Rattle.rsml_meaning.specs.EventLines.{Bytes, LineRule, is_skipped, words, Interface, interface_by, interface, name_part, index_part, in_brackets, digits_number, up_to_size, index_told, fields, E1, E2, E3, E4, E5, Outcome, breaks, tells, read_values, read_fields, read_instance, read_words, read_line}
use Rattle.rsml_meaning.specs.EventFiles.{Line, lines_of, without_return, outcome, rule_broken, message, Limits, FileFault, long_line, broken_line, long_file, is_long, is_cut, fault_at, first_fault, sound_lines, messages}
use Rattle.spec_frames.specs.Frames.{frame, HaveSameFrame}
use Rattle.equal_frames.specs.Laws.{FramesReadAlike}
use Rattle.equal_frames.proofs.Agree.{AreBlanked, IsBlind, agree, same_many, same_type}
use Rattle.equal_frames.proofs.Members.{receive_same}
use Rattle.equal_frames.proofs.Worlds.{blanked_one, blanked_two}

interface_blind : IsBlind interface_by None
interface_blind x (Some n) = refl
interface_blind (decl.Macro name size rows) None = refl
interface_blind (decl.Function name size cases) None = refl
interface_blind (decl.Send name size fields cases) None = refl
interface_blind (decl.Enumeration name values) None = refl
interface_blind (decl.Range name low high) None = refl
interface_blind (decl.Constant name value) None = refl
interface_blind (decl.Input name size kind initial) None = refl
interface_blind (decl.Event name size) None = refl
interface_blind (decl.Receive name size inputs raised) None = refl

by_blind : (g : Globals) → IsBlind (type_by g) no_type
by_blind g x (Some n) = refl
by_blind g (decl.Macro name size rows) None = refl
by_blind g (decl.Function name size cases) None = refl
by_blind g (decl.Send name size fields cases) None = refl
by_blind g (decl.Enumeration name values) None = refl
by_blind g (decl.Range name low high) None = refl
by_blind g (decl.Constant name value) None = refl
by_blind g (decl.Input name size kind initial) None = refl
by_blind g (decl.Event name size) None = refl
by_blind g (decl.Receive name size inputs raised) None = refl

pub and_then_is : {A B : Type 0} (f : A → Option B) (o : Option A) → option_and_then f o ≡ option_map_or f o None
and_then_is f None = refl
and_then_is f (Some x) = refl

module _ (g h : Globals) (a : AreBlanked g h) where
  same_interface : (name : Name) → interface g name ≡ interface h name
  same_interface name = and_then_is interface_by (meaning g name) ∙ agree interface_by None interface_blind g h a name ∙ sym (and_then_is interface_by (meaning h name))

  of_input : (x : Decl) (v : Option ℕ) → type_by g (record { decl = x; value = v }) ≡ type_by h (record { decl = x; value = v })
  of_input (decl.Input name size kind initial) v = same_type g h a kind
  of_input _ v = refl

  of_known : (o : Option Known) → option_map_or (type_by g) o no_type ≡ option_map_or (type_by h) o no_type
  of_known None = refl
  of_known (Some k) = of_input k.decl k.value

  same_input_type : (name : Name) → input_type g name ≡ input_type h name
  same_input_type name = agree (type_by g) no_type (by_blind g) g h a name ∙ of_known (meaning h name)

  same_index_told : (size : Option Amount) (text : Bytes) → index_told g size text ≡ index_told h size text
  same_index_told None text = refl
  same_index_told (Some amount) text = ap (λ n. option_and_then (up_to_size n) (option_and_then digits_number (in_brackets text))) (same_many g h a (Some amount))

  same_fields : (inputs : List Name) (r q : ReceiveInstance) → r ≡ q → (ws : List Bytes) → read_fields g inputs r ws ≡ read_fields h inputs q ws
  same_fields inputs r q e ws = λ i. elim (fields inputs ws) [
    | None ↦ breaks E4
    | Some f ↦ elim f.more [ [] ↦ read_values (map (λ n. same_input_type n i) inputs) (e i) f.values | word ∷ more ↦ breaks E5 ]
  ]

  same_instance_read : (word : Bytes) (k : Interface) (ws : List Bytes) → read_instance g word k ws ≡ read_instance h word k ws
  same_instance_read word k ws = λ i. elim (same_index_told k.size (index_part word) i) [
    | None ↦ breaks E3
    | Some index ↦ same_fields (map (λ m. m.name) k.inputs) (new_receive g (name_part word) k.inputs k.raised index) (new_receive h (name_part word) k.inputs k.raised index)
        (receive_same g h a (name_part word) k.inputs k.raised index) ws i
  ]

  same_words : (ws : List Bytes) → read_words g ws ≡ read_words h ws
  same_words [] = refl
  same_words (word ∷ ws) = λ i. elim (same_interface (name_part word) i) [ None ↦ breaks E2 | Some k ↦ same_instance_read word k ws i ]

  same_read : (line : Bytes) → (if is_utf8 line then read_words g (words line) else breaks E1) ≡ (if is_utf8 line then read_words h (words line) else breaks E1)
  same_read line = λ i. if is_utf8 line then same_words (words line) i else breaks E1

module _ (s t : Spec) (one : IsChecked s) (two : IsChecked t) (same : HaveSameFrame s t) where
  read_same : (line : Bytes) → read_line s line ≡ read_line t line
  read_same line =
      same_read (globals_of s) (globals_of (frame s)) (blanked_one s t one two same) line
      ∙ ap (λ z. read_line z line) same.syntax
      ∙ sym (same_read (globals_of t) (globals_of (frame t)) (blanked_two s t one two same) line)

  outcome_same : (line : Line) → outcome s line ≡ outcome t line
  outcome_same line = λ i. if is_skipped (without_return line.bytes) then None else Some (read_same (without_return line.bytes) i)

  message_same : (line : Line) → message s line ≡ message t line
  message_same line = ap (λ (o : Option Outcome). elim o [ Some (tells m) ↦ Some m | _ ↦ None ]) (outcome_same line)

  rule_same : (line : Line) → rule_broken s line ≡ rule_broken t line
  rule_same line = ap (λ (o : Option Outcome). elim o [ Some (breaks rule) ↦ Some rule | _ ↦ None ]) (outcome_same line)

  fault_same : (limits : Limits) (size : ℕ) (line : Line) → fault_at s limits size line ≡ fault_at t limits size line
  fault_same limits size line = by_tests (is_long limits line) (is_cut limits size line) (rule_broken s line) (rule_broken t line) (rule_same line)
    where
      by_tests : (x y : Bool) (p q : Option LineRule) → p ≡ q
          → ◌≡◌ {A = Option FileFault}
          (elim x [ true ↦ Some (long_line line.number) | false ↦ elim y [ true ↦ Some long_file | false ↦ elim p [ Some rule ↦ Some (broken_line line.number rule) | None ↦ None ] ] ])
          (elim x [ true ↦ Some (long_line line.number) | false ↦ elim y [ true ↦ Some long_file | false ↦ elim q [ Some rule ↦ Some (broken_line line.number rule) | None ↦ None ] ] ])
      by_tests true y p q e = refl
      by_tests false true p q e = refl
      by_tests false false p q e = ap (λ (o : Option LineRule). elim o [ Some rule ↦ Some (broken_line line.number rule) | None ↦ None ]) e

  pub messages_same : (ls : List Line) → messages s ls ≡ messages t ls
  messages_same ls = λ i. filter_map (λ l. message_same l i) ls

  pub first_fault_same : (limits : Limits) (content : Bytes) → first_fault s limits content ≡ first_fault t limits content
  first_fault_same limits content = λ i. first_some (λ l. fault_same limits (length content) l i) (lines_of content)

  pub sound_lines_same : (limits : Limits) (content : Bytes) → sound_lines s limits content ≡ sound_lines t limits content
  sound_lines_same limits content = λ i. take_while (λ l. is_none (fault_same limits (length content) l i)) (lines_of content)

pub frames_read_alike : FramesReadAlike
frames_read_alike s t one two same limits content = (first_fault_same s t one two same limits content, sound_lines_same s t one two same limits content)
