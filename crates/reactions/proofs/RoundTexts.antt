-- The text of a round.
use Rattle.std.proofs.Common.{◌≡◌, ℕ, List, [], ◌∷◌, ◌++◌, map, flat_map, codes, Option, slice_index_or, ℤ, refl, sym, ap, ◌∙◌}
use Rattle.std.specs.Option.{option_map_or}
use Rattle.rsml_syntax.specs.declared.syntax.Spec.{Spec}
use Rattle.rsml_meaning.specs.Words.{Instance}
use Rattle.rsml_meaning.specs.Instances.{globals_of}
use Rattle.rsml_meaning.specs.Transitions.{TransitionInstance, transitions}
use Rattle.rsml_meaning.specs.Interfaces.{SendCaseInstance, send_cases}
use Rattle.rsml_meaning.specs.Steps.{Sent, Round}
use Rattle.rsml_meaning.specs.Texts.{text_line, label}
use Rattle.rsml_meaning.specs.Trace.{round_line, send_line, round_text}
use Rattle.elaborate.specs.Machine.{GroundMachine}
use Rattle.event_graph.specs.declared.events.Events.{Events}
use Rattle.micro_step.specs.Micros.{events_in}
use Rattle.micro_step.specs.Numbers.{Kept, of_cases}
use Rattle.micro_step.specs.Places.{ArePlaces}
use Rattle.reactions.specs.Lines.{take_line, sent_line}
use Rattle.reactions.specs.Rounds.{IsRoundOf}
use Rattle.reactions.proofs.ItemTexts.{texts_are}

sends_are : (s : Spec) (lists : List (List ℤ)) (cs : List Sent) (ks : List ℕ) → ArePlaces (send_cases s) (map (λ c. c.send_case) cs) ks → map (λ c. c.values) cs ≡ of_cases lists ks
    → flat_map (sent_line s lists) ks ≡ flat_map (send_line (globals_of s)) cs
sends_are s lists [] [] h e = refl
sends_are s lists [] (k ∷ ks) h e = absurd h
sends_are s lists (c ∷ cs) [] h e = absurd h
sends_are s lists (c ∷ cs) (k ∷ ks) h e =
    let rest : map (λ x. x.values) cs ≡ of_cases lists ks = cc in
    λ i. one i ++ sends_are s lists cs ks h.1 rest i
  where
    here : c.values ≡ slice_index_or lists k []
    here = cc

    one : sent_line s lists k ≡ send_line (globals_of s) c
    one =
        ap (λ (o : Option SendCaseInstance). option_map_or (λ x. send_line (globals_of s) (record { send_case = x; values = slice_index_or lists k [] })) o []) h.0
        ∙ ap (λ (ns : List ℤ). send_line (globals_of s) (record { send_case = c.send_case; values = ns })) (sym here)

-- the lines of a round by its numbers are its text
pub round_is : (m n : GroundMachine) (t : Spec) (number : ℕ) (present : Events) (k : Kept) (ks : List ℕ) (r : Round) → n ≡ m → t ≡ n.base.spec → ks ≡ k.taken.items → IsRoundOf m.base.spec present k r
    → round_line number (events_in t present) ++ (flat_map (take_line n.base.spec) ks ++ flat_map (sent_line n.base.spec k.values) k.sent.items) ≡ round_text (globals_of m.base.spec) (number, r)
round_is m n t number present k ks r same texts taken is =
    let s = m.base.spec in
    let known : n.base.spec ≡ s = ap (λ (x : GroundMachine). x.base.spec) same in
    let line : round_line number (events_in t present) ≡ round_line number r.present =
    ap (λ (u : Spec). round_line number (events_in u present)) (texts ∙ known) ∙ ap (λ (es : List Instance). round_line number es) (sym is.present_are) in
    let takes : flat_map (take_line n.base.spec) ks ≡ flat_map (λ x. text_line (codes "    take " ++ label x)) r.taken =
    ap (λ (u : Spec). flat_map (take_line u) ks) known ∙ ap (λ (js : List ℕ). flat_map (take_line s) js) taken
    ∙ texts_are (λ (x : TransitionInstance). text_line (codes "    take " ++ label x)) (transitions s) r.taken k.taken.items is.taken_are in
    let sends : flat_map (sent_line n.base.spec k.values) k.sent.items ≡ flat_map (send_line (globals_of s)) r.sent =
    ap (λ (u : Spec). flat_map (sent_line u k.values) k.sent.items) known ∙ sends_are s k.values r.sent k.sent.items is.sent_are is.values_are in
    λ i. line i ++ (takes i ++ sends i)
