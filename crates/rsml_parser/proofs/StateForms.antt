-- The laws of reading buses and transitions.
use Rattle.std.proofs.Common.{◌≡◌, true, false, List, [], ◌∷◌, Option, Some, None, Ok, refl}
use Rattle.std.specs.Prelude.{IsTrue}
use Rattle.std.specs.List.{list_all}
use Rattle.rsml_syntax.specs.grammar.Grammar as put
use Rattle.rsml_syntax.specs.text.Names.{Name}
use Rattle.rsml_syntax.specs.text.Tokens.{Tokens}
use Rattle.rsml_syntax.specs.grammar.WellFormed.{has_items, guard_has_items, bus_has_items, target_has_items, transition_has_items}
use Rattle.rsml_syntax.specs.declared.token.Mark.TheVariants as marks
use Rattle.rsml_syntax.specs.declared.token.Word.TheVariants as words
use Rattle.rsml_syntax.specs.declared.syntax.Bus.{Bus}
use Rattle.rsml_syntax.specs.declared.syntax.Mention.{Mention}
use Rattle.rsml_syntax.specs.declared.syntax.Transition.{Transition}
use Rattle.rsml_parser.specs.Mentions.{mention}
use Rattle.rsml_parser.specs.Parsers.{and_then, first, is_not, sees_mark, word, mark}
use Rattle.rsml_parser.specs.States.{bus, movement, raises, transition}
use Rattle.rsml_parser.proofs.DeclarationForms.{form_names, name_again, names_again}
use Rattle.rsml_parser.proofs.Forms.{form_bind, form_pure, form_as, form_if}
use Rattle.rsml_parser.proofs.Leaves.{form_word, form_mark, form_name}
use Rattle.rsml_parser.proofs.Lists.{item_word, item_mark, item_first, item_if, item_as}
use Rattle.rsml_parser.proofs.MentionForms.{form_mention, mention_again}
use Rattle.rsml_parser.proofs.SpelledLists.{separated_again}
use Rattle.rsml_parser.proofs.Spelling.{Writes, ReadsItem, any, reads_any, all_any, both, halves, mark_for, reads_separated}
use Rattle.rsml_parser.proofs.TableForms.{form_when_guard, when_guard_again}

pub item_bus : ReadsItem bus put.bus bus_has_items
item_bus = item_as (item_word words.Bus (λ _. form_bind form_name (λ n. form_bind (form_mark marks.OpenBrace) (λ _. form_bind (form_names marks.Comma) (λ ms. (mark_for marks.CloseBrace (record { name = n; members = ms })).form)))))
    (λ k x rest us s. let m = s.later.later.later in rw (s.before, s.later.before, s.later.later.before, m.before.0, m.later.0, m.later.1) (refl, m.before.1))

pub bus_again : (b : Bus) (rest : Tokens) → IsTrue (bus_has_items b) → bus (put.bus b rest) ≡ Ok (b, rest)
unfolding and_then word mark
bus_again b rest good = rw (name_again b.name _, names_again marks.Comma b.members (put.mark marks.CloseBrace rest) good refl) refl

item_movement : ReadsItem movement (λ m rest. put.movement m.0 m.1 rest) (λ m. target_has_items m.1)
item_movement =
    item_if (item_as (item_word words.Move (λ _. form_bind form_name (λ source. form_bind (form_mark marks.Arrow) (λ _. form_bind (form_names marks.Dot) (λ target. form_pure (source, Some target))))))
    (λ k x rest us s. let t = s.later.later.later in rw (s.before, s.later.before, s.later.later.before, t.before.0, t.later.1, t.later.0) (refl, t.before.1)))
    (item_as (item_first (item_word words.Stay (λ _. form_name)) (λ source. form_pure (source, None)))
    (λ k x rest us s. rw (s.before.before, s.before.later, s.later.1, s.later.0) (refl, refl)))

movement_again : (source : Name) (target : Option (List Name)) (rest : Tokens) → IsTrue (target_has_items target) → sees_mark marks.Dot rest ≡ false → movement (put.movement source target rest) ≡ Ok ((source, target), rest)
unfolding and_then word mark
movement_again source None rest good free = rw (name_again source rest) refl
movement_again source (Some target) rest good free = rw (name_again source _, names_again marks.Dot target rest good free) refl

form_raises : Writes raises put.raises
form_raises = form_if (form_as (form_bind (form_word words.Raise) (λ _. reads_separated marks.Comma (reads_any form_mention)))
    (λ k x rest us s. rw (s.before, s.later.0) (listed x rest (halves (has_items x) (list_all any x) s.later.1).0)))
    (form_as (form_pure []) (λ k x rest us s. rw (s.1, s.0) refl))
  where
    listed : (ms : List Mention) (rest : Tokens) → IsTrue (has_items ms) → put.word words.Raise (put.separated marks.Comma put.mention ms rest) ≡ put.raises ms rest
    listed [] rest has = absurd cc
    listed (m ∷ ms) rest has = refl

raises_again : (ms : List Mention) (rest : Tokens) → raises (put.raises ms (put.mark marks.Semicolon rest)) ≡ Ok (ms, put.mark marks.Semicolon rest)
unfolding and_then word
raises_again [] rest = refl
raises_again (m ∷ ms) rest =
    separated_again marks.Comma mention put.mention any (λ r. sees_mark marks.OpenBracket r ≡ false) (λ m r _ free. mention_again m r free) (λ _. refl) (item_mark marks.Comma (λ _. form_mention)).shrinks
    (m ∷ ms) (put.mark marks.Semicolon rest) refl (all_any ms) refl refl

pub item_transition : ReadsItem transition put.transition transition_has_items
item_transition = item_as (item_first item_movement (λ way. form_bind (form_word words.On) (λ _. form_bind form_mention (λ m. form_bind form_when_guard (λ g. form_bind form_raises (λ rs.
    (mark_for marks.Semicolon (record { source = way.0; target = way.1; trigger = m; guard = g; raises = rs })).form))))))
    (λ k x rest us s. let m = s.later.later in let g = m.later in let r = g.later in
    rw (s.before.0, s.later.before, m.before, g.before.0, r.before, r.later.0, r.later.1) (refl, both (target_has_items s.got.1) (guard_has_items g.got) s.before.1 g.before.1))

pub transition_again : (t : Transition) (rest : Tokens) → IsTrue (transition_has_items t) → transition (put.transition t rest) ≡ Ok (t, rest)
unfolding and_then word mark
transition_again t rest good =
    let is = halves (target_has_items t.target) (guard_has_items t.guard) good in
    let end = put.mark marks.Semicolon rest in
    let raised = put.raises t.raises end in
    let triggered = put.mention t.trigger (put.when_guard t.guard raised) in
    rw (movement_again t.source t.target (put.word words.On triggered) is.0 refl, mention_again t.trigger (put.when_guard t.guard raised) refl, when_guard_again t.guard raised is.1, raises_again t.raises rest) refl

pub transition_begins : (t : Transition) (rest : Tokens) → first (is_not marks.CloseBrace) (put.transition t rest) ≡ true
transition_begins t rest = at t.target
  where
    at : (target : Option (List Name)) → first (is_not marks.CloseBrace) (put.movement t.source target (put.word words.On (put.mention t.trigger (put.when_guard t.guard (put.raises t.raises (put.mark marks.Semicolon rest)))))) ≡ true
    at None = refl
    at (Some target) = refl
