-- The line of a case of a send.
use Rattle.std.proofs.Common.{◌≡◌, ℕ, zero, suc, List, [], ◌∷◌, ◌++◌, length, flat_map, codes, get_or, Option, Some, slice_get, ℤ, refl, sym, ap, ◌∙◌, subst, arith}
use Rattle.std.specs.List.{AllZip}
use Rattle.std.specs.Option.{option_map_or}
use Rattle.std.proofs.lemmas.Option.{same_Some}
use Rattle.rsml_syntax.specs.declared.syntax.Spec.{Spec}
use Rattle.rsml_syntax.specs.declared.syntax.Answer.{Answer}
use Rattle.rsml_syntax.specs.declared.syntax.Answer.TheVariants as answers
use Rattle.rsml_syntax.specs.grammar.Written.{values_in}
use Rattle.rsml_syntax.specs.rules.Globals.{Globals}
use Rattle.rsml_meaning.specs.Words.{Instance, numbered_from}
use Rattle.rsml_meaning.specs.Instances.{globals_of}
use Rattle.rsml_meaning.specs.Truth.{within}
use Rattle.rsml_meaning.specs.Interfaces.{SendCaseInstance, send_cases}
use Rattle.rsml_meaning.specs.Texts.{Text, text_line, instance_text}
use Rattle.rsml_meaning.specs.Trace.{send_text, send_line}
use Rattle.state_tree.proofs.Lists.{as_long}
use Rattle.rsml_ground.specs.declared.phrases.GroundPhrase.{GroundPhrase}
use Rattle.ground_members.specs.declared.send_cases.GroundValue.{GroundValue}
use Rattle.ground_members.specs.declared.send_cases.GroundAnswer.TheVariants as answer
use Rattle.ground_members.specs.declared.send_cases.GroundSendCase.{GroundSendCase}
use Rattle.ground_members.specs.Members.{ValueIs, AnswerIs, SendCaseIs}
use Rattle.elaborate.specs.Machine.{GroundMachine}
use Rattle.micro_step.specs.Numbers.{HaveRoom, values_of}
use Rattle.reactions.specs.Lines.{field_at, line_of}
use Rattle.reactions.proofs.FieldTexts.{fields_are}

-- the line of a case that answers so
abbrev line_by : Globals → SendCaseInstance → List ℤ → Answer → Text
line_by g c ns a = elim a [ answers.Quiet ↦ [] | answers.Values vs ↦ text_line (codes "    send " ++ send_text g c vs ns) ]

-- a quiet case has no line
pub quiet_line : (s : Spec) (ps : List GroundPhrase) (c : SendCaseInstance) (x : GroundSendCase) (ns : List ℤ) → SendCaseIs ps s c x → x.answer ≡ answer.Quiet
    → [] ≡ send_line (globals_of s) (record { send_case = c; values = ns })
quiet_line s ps c x ns is q = by c.answer refl (subst (AnswerIs s (within c.send.index) c.answer) q is.answer)
  where
    by : (a : Answer) → c.answer ≡ a → AnswerIs s (within c.send.index) a answer.Quiet → [] ≡ line_by (globals_of s) c ns c.answer
    by answers.Quiet e h = sym (ap (line_by (globals_of s) c ns) e)
    by (answers.Values vs) e h = absurd h

-- that of another has its send and its fields
pub values_line : (s : Spec) (ps : List GroundPhrase) (c : SendCaseInstance) (x : GroundSendCase) (ns : List ℤ) (k : ℕ) (ys : List GroundValue) → slice_get (send_cases s) k ≡ Some c → SendCaseIs ps s c x
    → x.answer ≡ answer.Values ys → length ns ≡ length (values_of x.answer) → line_of s x.send k ns ≡ send_line (globals_of s) (record { send_case = c; values = ns })
values_line s ps c x ns k ys at is q many = by c.answer refl (subst (AnswerIs s (within c.send.index) c.answer) q is.answer)
  where
    by : (a : Answer) → c.answer ≡ a → AnswerIs s (within c.send.index) a (answer.Values ys) → line_of s x.send k ns ≡ line_by (globals_of s) c ns c.answer
    by answers.Quiet e h = absurd h
    by (answers.Values vs) e h =
        let as_many : length vs ≡ length ys = as_long (ValueIs s (within c.send.index)) vs ys h in
        let long : length ns ≡ length ys = many ∙ ap (λ a. length (values_of a)) q in
        ap (λ (o : Option Instance). text_line (codes "    send " ++ (option_map_or instance_text o [] ++ flat_map (field_at s k) (numbered_from 0 ns)))) is.send
        ∙ ap (λ (t : Text). text_line (codes "    send " ++ (instance_text c.send ++ t))) (fields_are s k c vs ns at (ap values_in e) (omega (arith, as_many, long)))
        ∙ sym (ap (line_by (globals_of s) c ns) e)

room_at : (cs : List GroundSendCase) (lists : List (List ℤ)) (k : ℕ) (x : GroundSendCase) → AllZip (λ (y : GroundSendCase) (ns : List ℤ). length ns ≡ length (values_of y.answer)) cs lists → slice_get cs k ≡ Some x
    → length (get_or lists k []) ≡ length (values_of x.answer)
room_at [] [] k x room at = absurd (let no : ⊥ = cc in no)
room_at [] (ns ∷ lists) k x room at = absurd room
room_at (c ∷ cs) [] k x room at = absurd room
room_at (c ∷ cs) (ns ∷ lists) zero x room at = room.0 ∙ ap (λ (y : GroundSendCase). length (values_of y.answer)) (same_Some c x at)
room_at (c ∷ cs) (ns ∷ lists) (suc k) x room at = room_at cs lists k x room.1 at

-- as many numbers are kept as the case has values
pub kept_long : (m : GroundMachine) (lists : List (List ℤ)) (k : ℕ) (x : GroundSendCase) → HaveRoom m lists → slice_get m.send_cases k ≡ Some x → length (get_or lists k []) ≡ length (values_of x.answer)
kept_long m lists k x room at = room_at m.send_cases lists k x room at
