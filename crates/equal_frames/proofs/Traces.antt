-- The trace of a run is that of the opened run in the frame.
use Rattle.std.proofs.Common.{◌≡◌, ℕ, List, [], ◌∷◌, ◌++◌, map, flat_map, Option, Some, None, if◌then◌else◌, codes, refl, sym, ap, ◌∙◌}
use Rattle.std.specs.List.{list_all}
use Rattle.std.specs.Option.{option_map_or}
use Rattle.rsml_syntax.specs.declared.syntax.Spec.{Spec}
use Rattle.rsml_syntax.specs.declared.syntax.Decl.{Decl}
use Rattle.rsml_syntax.specs.declared.syntax.Decl.TheVariants as decl
use Rattle.rsml_syntax.specs.declared.syntax.Case.{Case}
use Rattle.rsml_syntax.specs.declared.syntax.Operand.{Operand}
use Rattle.rsml_syntax.specs.declared.syntax.Operand.TheVariants as operands
use Rattle.rsml_syntax.specs.declared.syntax.Term.{Term}
use Rattle.rsml_syntax.specs.declared.syntax.Sum.{Sum}
use Rattle.rsml_syntax.specs.declared.syntax.Value.{Value}
use Rattle.rsml_syntax.specs.declared.syntax.Value.TheVariants as values
use Rattle.rsml_syntax.specs.declared.syntax.Answer.{Answer}
use Rattle.rsml_syntax.specs.declared.syntax.Answer.TheVariants as answers
use Rattle.rsml_syntax.specs.text.Names.{Name}
use Rattle.rsml_syntax.specs.rules.Globals.{Globals, Known, meaning, values_of}
use Rattle.rsml_syntax.specs.rules.Kinds.{Kind, Numbers, Values, is_numbers, type_kind, kind_of, name_kind, operand_kind, single_kind, sum_kind, cases_of}
use Rattle.rsml_meaning.specs.Words.{numbered}
use Rattle.rsml_meaning.specs.Instances.{globals_of}
use Rattle.rsml_meaning.specs.Transitions.{TransitionInstance}
use Rattle.rsml_meaning.specs.Steps.{Sent, Round}
use Rattle.rsml_meaning.specs.Runs.{Reaction}
use Rattle.rsml_meaning.specs.Texts.{Text, text_line, instance_text, label, value_text}
use Rattle.rsml_meaning.specs.Trace.{value_kind, names_of_kind, SentField, sent_fields, field_text, send_text, send_line, round_line, round_text, event_line, reaction_text, trace_text}
use Rattle.spec_frames.specs.Frames.{open_case, frame}
use Rattle.equal_frames.specs.Alike.{opened_transition}
use Rattle.equal_frames.proofs.Agree.{AreBlanked, IsBlind, agree}
use Rattle.equal_frames.proofs.Members.{numbered_flat}
use Rattle.equal_frames.proofs.Micro.{opened_sent}
use Rattle.equal_frames.proofs.Reading.{and_then_is}

-- a round with open guards
abbrev pub opened_round : Round → Round
opened_round r = record { world = r.world; present = r.present; taken = map opened_transition r.taken; sent = map opened_sent r.sent }

-- a reaction with open guards
abbrev pub opened_reaction : Reaction → Reaction
opened_reaction r = record { receive = r.receive; rounds = map opened_round r.rounds; world = r.world }

-- Notions that are blind.

type_kind_blind : IsBlind type_kind None
type_kind_blind x (Some n) = refl
type_kind_blind (decl.Macro name size rows) None = refl
type_kind_blind (decl.Function name size cases) None = refl
type_kind_blind (decl.Send name size fields cases) None = refl
type_kind_blind (decl.Enumeration name values) None = refl
type_kind_blind (decl.Range name low high) None = refl
type_kind_blind (decl.Constant name value) None = refl
type_kind_blind (decl.Input name size kind initial) None = refl
type_kind_blind (decl.Event name size) None = refl
type_kind_blind (decl.Receive name size inputs raised) None = refl

kind_blind : (g : Globals) → IsBlind (kind_of g) None
kind_blind g x (Some n) = refl
kind_blind g (decl.Macro name size rows) None = refl
kind_blind g (decl.Function name size cases) None = refl
kind_blind g (decl.Send name size fields cases) None = refl
kind_blind g (decl.Enumeration name values) None = refl
kind_blind g (decl.Range name low high) None = refl
kind_blind g (decl.Constant name value) None = refl
kind_blind g (decl.Input name size kind initial) None = refl
kind_blind g (decl.Event name size) None = refl
kind_blind g (decl.Receive name size inputs raised) None = refl

abbrev values_known : Known → List Name
values_known k = values_of k.decl

values_blind : IsBlind values_known []
values_blind x (Some n) = refl
values_blind (decl.Macro name size rows) None = refl
values_blind (decl.Function name size cases) None = refl
values_blind (decl.Send name size fields cases) None = refl
values_blind (decl.Enumeration name values) None = refl
values_blind (decl.Range name low high) None = refl
values_blind (decl.Constant name value) None = refl
values_blind (decl.Input name size kind initial) None = refl
values_blind (decl.Event name size) None = refl
values_blind (decl.Receive name size inputs raised) None = refl

-- the kind of the first case
abbrev first_of : Globals → List Case → Option Kind
first_of g cs = elim cs [ [] ↦ None | c ∷ more ↦ sum_kind g c.value ]

abbrev first_kind : Globals → Known → Option Kind
first_kind g k = first_of g (cases_of k)

first_open : (g : Globals) (cs : List Case) → first_of g (map open_case cs) ≡ first_of g cs
first_open g [] = refl
first_open g (c ∷ cs) = refl

first_blind : (g : Globals) → IsBlind (first_kind g) None
first_blind g x (Some n) = refl
first_blind g (decl.Macro name size rows) None = refl
first_blind g (decl.Function name size cases) None = first_open g cases
first_blind g (decl.Send name size fields cases) None = refl
first_blind g (decl.Enumeration name values) None = refl
first_blind g (decl.Range name low high) None = refl
first_blind g (decl.Constant name value) None = refl
first_blind g (decl.Input name size kind initial) None = refl
first_blind g (decl.Event name size) None = refl
first_blind g (decl.Receive name size inputs raised) None = refl

first_is : (g : Globals) (o : Option Known) → first_of g (option_map_or cases_of o []) ≡ option_map_or (first_kind g) o None
first_is g None = refl
first_is g (Some k) = refl

flat_blind : {A B C : Type 0} (o : A → B) (p : A → List C) (q : B → List C) → ((x : A) → p x ≡ q (o x)) → (xs : List A) → flat_map p xs ≡ flat_map q (map o xs)
flat_blind o p q h [] = refl
flat_blind o p q h (x ∷ xs) = λ i. h x i ++ flat_blind o p q h xs i

module _ (g h : Globals) (a : AreBlanked g h) where
  of_decl : (x : Decl) (v : Option ℕ) → kind_of g (record { decl = x; value = v }) ≡ kind_of h (record { decl = x; value = v })
  of_decl (decl.Input name size kind initial) v = and_then_is type_kind (meaning g kind) ∙ agree type_kind None type_kind_blind g h a kind ∙ sym (and_then_is type_kind (meaning h kind))
  of_decl _ v = refl

  of_known : (o : Option Known) → option_map_or (kind_of g) o None ≡ option_map_or (kind_of h) o None
  of_known None = refl
  of_known (Some k) = of_decl k.decl k.value

  same_name_kind : (name : Name) → name_kind g name ≡ name_kind h name
  same_name_kind name = and_then_is (kind_of g) (meaning g name) ∙ agree (kind_of g) None (kind_blind g) g h a name ∙ of_known (meaning h name) ∙ sym (and_then_is (kind_of h) (meaning h name))

  same_operand_kind : (o : Operand) → operand_kind g o ≡ operand_kind h o
  same_operand_kind (operands.Number n) = refl
  same_operand_kind (operands.Mention m) = same_name_kind m.name
  same_operand_kind (operands.Previous m) = same_name_kind m.name

  same_single_kind : (ts : List Term) → single_kind g ts ≡ single_kind h ts
  same_single_kind [] = refl
  same_single_kind (t ∷ []) = λ i. if t.minus then None else same_operand_kind t.operand i
  same_single_kind (t ∷ u ∷ ts) = refl

  same_sum_kind : (x : Sum) → sum_kind g x ≡ sum_kind h x
  same_sum_kind x = λ i. if list_all (λ t. is_numbers (same_operand_kind t.operand i)) x.terms then Some Numbers else same_single_kind x.terms i

  same_first_of : (cs : List Case) → first_of g cs ≡ first_of h cs
  same_first_of [] = refl
  same_first_of (c ∷ cs) = same_sum_kind c.value

  same_first : (o : Option Known) → option_map_or (first_kind g) o None ≡ option_map_or (first_kind h) o None
  same_first None = refl
  same_first (Some k) = same_first_of (cases_of k)

  same_value_kind : (x : Value) → value_kind g x ≡ value_kind h x
  same_value_kind (values.Sum x) = same_sum_kind x
  same_value_kind (values.Function f) =
      first_is g (meaning g f.name) ∙ agree (first_kind g) None (first_blind g) g h a f.name ∙ same_first (meaning h f.name) ∙ sym (first_is h (meaning h f.name))

  same_names : (o : Option Kind) → names_of_kind g o ≡ names_of_kind h o
  same_names None = refl
  same_names (Some Numbers) = refl
  same_names (Some (Values name)) = agree values_known [] values_blind g h a name

  same_field : (f : SentField) → field_text g f ≡ field_text h f
  same_field f = λ i. codes " " ++ (f.name ++ (codes "=" ++ value_text ((same_names (value_kind g f.value) ∙ ap (names_of_kind h) (same_value_kind f.value)) i) f.number))

  same_send : (c : Sent) (x : Answer) → ◌≡◌ {A = Text} (elim x [ answers.Quiet ↦ [] | answers.Values vs ↦ text_line (codes "    send " ++ send_text g c.send_case vs c.values) ])
      (elim x [ answers.Quiet ↦ [] | answers.Values vs ↦ text_line (codes "    send " ++ send_text h c.send_case vs c.values) ])
  same_send c answers.Quiet = refl
  same_send c (answers.Values vs) = λ i. text_line (codes "    send " ++ (instance_text c.send_case.send ++ flat_map (λ f. same_field f i) (sent_fields c.send_case.fields vs c.values)))

  same_send_line : (c : Sent) → send_line g c ≡ send_line h (opened_sent c)
  same_send_line c = same_send c c.send_case.answer

  abbrev take_line : TransitionInstance → Text
  take_line t = text_line (codes "    take " ++ label t)

  same_round : (n : ℕ) (r : Round) → round_text g (n, r) ≡ round_text h (n, opened_round r)
  same_round n r = λ i. round_line n r.present ++ (flat_blind opened_transition take_line take_line (λ t. refl) r.taken i ++ flat_blind opened_sent (send_line g) (send_line h) same_send_line r.sent i)

  same_reaction : (n : ℕ) (r : Reaction) → reaction_text g (n, r) ≡ reaction_text h (n, opened_reaction r)
  same_reaction n r = λ i. event_line n r.receive ++ numbered_flat opened_round (round_text g) (round_text h) same_round 1 r.rounds i

  pub same_reactions : (rs : List Reaction) → flat_map (reaction_text g) (numbered rs) ≡ flat_map (reaction_text h) (numbered (map opened_reaction rs))
  same_reactions rs = numbered_flat opened_reaction (reaction_text g) (reaction_text h) same_reaction 1 rs

pub trace_framed : (s : Spec) → AreBlanked (globals_of s) (globals_of (frame s)) → (rs : List Reaction) → trace_text s rs ≡ trace_text (frame s) (map opened_reaction rs)
trace_framed s a rs = same_reactions (globals_of s) (globals_of (frame s)) a rs
