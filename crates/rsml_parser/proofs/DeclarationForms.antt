-- The laws of reading declarations.
use Rattle.std.proofs.Common.{◌≡◌, false, List, Option, Ok, refl}
use Rattle.std.specs.Prelude.{IsTrue, ⊤}
use Rattle.std.specs.List.{list_all}
use Rattle.rsml_syntax.specs.grammar.Grammar as put
use Rattle.rsml_syntax.specs.text.Names.{Name}
use Rattle.rsml_syntax.specs.text.Tokens.{Tokens}
use Rattle.rsml_syntax.specs.grammar.WellFormed.{has_items, row_has_items, case_has_items, send_case_has_items, declaration_has_items}
use Rattle.rsml_syntax.specs.declared.token.Mark.{Mark}
use Rattle.rsml_syntax.specs.declared.token.Mark.TheVariants as marks
use Rattle.rsml_syntax.specs.declared.token.Word.TheVariants as words
use Rattle.rsml_syntax.specs.declared.syntax.Amount.{Amount}
use Rattle.rsml_syntax.specs.declared.syntax.Case.{Case}
use Rattle.rsml_syntax.specs.declared.syntax.Decl.{Decl}
use Rattle.rsml_syntax.specs.declared.syntax.Decl.TheVariants as decls
use Rattle.rsml_syntax.specs.declared.syntax.Initial.{Initial}
use Rattle.rsml_syntax.specs.declared.syntax.Mention.{Mention}
use Rattle.rsml_syntax.specs.declared.syntax.SendCase.{SendCase}
use Rattle.rsml_syntax.specs.declared.syntax.Signed.{Signed}
use Rattle.rsml_parser.specs.Declarations.{case_of, send_case, enumeration, range, constant, input, event, macro_table, function, receive, send, declaration}
use Rattle.rsml_parser.specs.Mentions.{mention}
use Rattle.rsml_parser.specs.Parsers.{Parser, and_then, sees_mark, word, mark, name, separated, until, in_parentheses}
use Rattle.rsml_parser.proofs.Forms.{form_bind, form_pure, form_as}
use Rattle.rsml_parser.proofs.CaseForms.{item_case, case_again, case_begins, item_send_case, send_case_again}
use Rattle.rsml_parser.proofs.Leaves.{form_word, form_mark, form_name}
use Rattle.rsml_parser.proofs.Lists.{item_word, item_mark, item_if, item_as}
use Rattle.rsml_parser.proofs.MentionForms.{form_signed, signed_again, form_size, size_again, form_mention, mention_again, form_initial, initial_again}
use Rattle.rsml_parser.proofs.SpelledLists.{separated_again, until_again, in_parentheses_again}
use Rattle.rsml_parser.proofs.Spelling.{Reads, ReadsItem, any, reads_any, all_any, halves, mark_for, in_parens, reads_separated, reads_until, reads_in_parentheses}
use Rattle.rsml_parser.proofs.TableForms.{form_table, table_again}

-- Names with a mark between, or in parentheses.

pub form_names : (m : Mark) → Reads (separated m name) (put.separated m put.name) has_items
form_names m = form_as (reads_separated m (reads_any form_name)) (λ k xs rest us s. (s.0, (halves (has_items xs) (list_all any xs) s.1).0))

pub name_again : (n : Name) (rest : Tokens) → name (put.name n rest) ≡ Ok (n, rest)
unfolding name
name_again n rest = refl

pub names_again : (m : Mark) (xs : List Name) (rest : Tokens) → IsTrue (has_items xs) → sees_mark m rest ≡ false → separated m name (put.separated m put.name xs rest) ≡ Ok (xs, rest)
names_again m xs rest good b = separated_again m name put.name any (λ _. ⊤) (λ n r _ _. name_again n r) (λ _. tt) (item_mark m (λ _. form_name)).shrinks xs rest good (all_any xs) tt b

fields_again : (xs : List Name) (rest : Tokens) → in_parentheses name (in_parens put.name xs rest) ≡ Ok (xs, rest)
fields_again xs rest = in_parentheses_again name put.name any (λ _. ⊤) (λ n r _ _. name_again n r) (λ n r _. refl) (λ _. tt) (λ _. tt) (item_mark marks.Comma (λ _. form_name)).shrinks xs rest (all_any xs)

mentions_again : (xs : List Mention) (rest : Tokens) → in_parentheses mention (in_parens put.mention xs rest) ≡ Ok (xs, rest)
mentions_again xs rest = in_parentheses_again mention put.mention any (λ r. sees_mark marks.OpenBracket r ≡ false) (λ m r _ free. mention_again m r free) (λ n r _. refl) (λ _. refl) (λ _. refl)
    (item_mark marks.Comma (λ _. form_mention)).shrinks xs rest (all_any xs)

-- Each kind of declaration.

abbrev Declares : Parser Decl → Type 0
Declares read = ReadsItem read put.declaration declaration_has_items

item_enumeration : Declares enumeration
item_enumeration = item_as (item_word words.Enumeration (λ _. form_bind form_name (λ n. form_bind (form_mark marks.OpenBrace) (λ _. form_bind (form_names marks.Comma) (λ vs. (mark_for marks.CloseBrace (decls.Enumeration n vs)).form)))))
    (λ k x rest us s. let v = s.later.later.later in rw (s.before, s.later.before, s.later.later.before, v.before.0, v.later.0, v.later.1) (refl, v.before.1))

enumeration_again : (n : Name) (vs : List Name) (rest : Tokens) → IsTrue (has_items vs) → enumeration (put.declaration (decls.Enumeration n vs) rest) ≡ Ok (decls.Enumeration n vs, rest)
unfolding and_then word mark
enumeration_again n vs rest good = rw (name_again n _, names_again marks.Comma vs (put.mark marks.CloseBrace rest) good refl) refl

item_range : Declares range
item_range = item_as (item_word words.Range (λ _. form_bind form_name (λ n. form_bind form_signed (λ l. form_bind (form_mark marks.DotDot) (λ _. form_bind form_signed (λ h. (mark_for marks.Semicolon (decls.Range n l h)).form))))))
    (λ k x rest us s. let l = s.later.later in let h = l.later.later in rw (s.before, s.later.before, l.before, l.later.before, h.before, h.later.0, h.later.1) (refl, refl))

range_again : (n : Name) (l h : Signed) (rest : Tokens) → range (put.declaration (decls.Range n l h) rest) ≡ Ok (decls.Range n l h, rest)
unfolding and_then word mark name
range_again n l h rest = let more = put.mark marks.Semicolon rest in rw (signed_again l (put.mark marks.DotDot (put.signed h more)), signed_again h more) refl

item_constant : Declares constant
item_constant = item_as (item_word words.Constant (λ _. form_bind form_name (λ n. form_bind (form_mark marks.Equal) (λ _. form_bind form_signed (λ v. (mark_for marks.Semicolon (decls.Constant n v)).form)))))
    (λ k x rest us s. let v = s.later.later.later in rw (s.before, s.later.before, s.later.later.before, v.before, v.later.0, v.later.1) (refl, refl))

constant_again : (n : Name) (v : Signed) (rest : Tokens) → constant (put.declaration (decls.Constant n v) rest) ≡ Ok (decls.Constant n v, rest)
unfolding and_then word mark name
constant_again n v rest = rw (signed_again v (put.mark marks.Semicolon rest)) refl

item_input : Declares input
item_input = item_as (item_word words.Input (λ _. form_bind form_name (λ n. form_bind form_size (λ s. form_bind (form_mark marks.Colon) (λ _. form_bind form_name (λ t. form_bind (form_mark marks.Equal) (λ _.
    form_bind form_initial (λ i. (mark_for marks.Semicolon (decls.Input n s t i)).form))))))))
    (λ k x rest us s. let z = s.later.later in let t = z.later.later in let i = t.later.later in
    rw (s.before, s.later.before, z.before, z.later.before, t.before, t.later.before, i.before, i.later.0, i.later.1) (refl, refl))

input_again : (n : Name) (s : Option Amount) (t : Name) (i : Initial) (rest : Tokens) → input (put.declaration (decls.Input n s t i) rest) ≡ Ok (decls.Input n s t i, rest)
unfolding and_then word mark name
input_again n s t i rest =
    let more = put.initial i (put.mark marks.Semicolon rest) in
    rw (size_again s (put.mark marks.Colon (put.name t (put.mark marks.Equal more))) refl, initial_again i (put.mark marks.Semicolon rest)) refl

item_event : Declares event
item_event = item_as (item_word words.Event (λ _. form_bind form_name (λ n. form_bind form_size (λ s. (mark_for marks.Semicolon (decls.Event n s)).form))))
    (λ k x rest us s. let z = s.later.later in rw (s.before, s.later.before, z.before, z.later.0, z.later.1) (refl, refl))

event_again : (n : Name) (s : Option Amount) (rest : Tokens) → event (put.declaration (decls.Event n s) rest) ≡ Ok (decls.Event n s, rest)
unfolding and_then word mark name
event_again n s rest = rw (size_again s (put.mark marks.Semicolon rest) refl) refl

item_macro_table : Declares macro_table
item_macro_table = item_as (item_word words.Macro (λ _. form_bind form_name (λ n. form_bind form_size (λ s. form_bind form_table (λ rows. form_pure (decls.Macro n s rows))))))
    (λ k x rest us s. let z = s.later.later in let t = z.later in rw (s.before, s.later.before, z.before, t.before.0, t.later.1, t.later.0) (refl, t.before.1))

macro_again : (n : Name) (s : Option Amount) (rows : List _) (rest : Tokens) → IsTrue (list_all row_has_items rows) → macro_table (put.declaration (decls.Macro n s rows) rest) ≡ Ok (decls.Macro n s rows, rest)
unfolding and_then word name
macro_again n s rows rest good = rw (size_again s (put.table rows rest) refl, table_again rows rest good) refl

item_function : Declares function
item_function = item_as (item_word words.Function (λ _. form_bind form_name (λ n. form_bind form_size (λ s. form_bind (form_mark marks.OpenBrace) (λ _. form_bind (reads_until marks.CloseBrace item_case) (λ cs.
    form_pure (decls.Function n s cs)))))))
    (λ k x rest us s. let z = s.later.later in let c = z.later.later in rw (s.before, s.later.before, z.before, z.later.before, c.before.0, c.later.1, c.later.0) (refl, c.before.1))

cases_again : (cs : List Case) (rest : Tokens) → IsTrue (list_all case_has_items cs) → until marks.CloseBrace case_of (put.each put.case_of cs (put.mark marks.CloseBrace rest)) ≡ Ok (cs, rest)
cases_again cs rest good = until_again marks.CloseBrace case_of put.case_of case_has_items (λ _. ⊤) (λ c r is _. case_again c r is) case_begins (λ _ _ _. tt) (λ _. tt) item_case.shrinks cs rest good

function_again : (n : Name) (s : Option Amount) (cs : List Case) (rest : Tokens) → IsTrue (list_all case_has_items cs) → function (put.declaration (decls.Function n s cs) rest) ≡ Ok (decls.Function n s cs, rest)
unfolding and_then word mark name
function_again n s cs rest good = rw (size_again s (put.mark marks.OpenBrace (put.each put.case_of cs (put.mark marks.CloseBrace rest))) refl, cases_again cs rest good) refl

item_receive : Declares receive
item_receive = item_as (item_word words.Receive (λ _. form_bind form_name (λ n. form_bind form_size (λ s. form_bind (reads_in_parentheses (reads_any form_mention)) (λ ms. form_bind (form_word words.Raise) (λ _.
    form_bind form_mention (λ m. (mark_for marks.Semicolon (decls.Receive n s ms m)).form)))))))
    (λ k x rest us s. let z = s.later.later in let i = z.later in let m = i.later.later in
    rw (s.before, s.later.before, z.before, i.before.0, i.later.before, m.before, m.later.0, m.later.1) (refl, refl))

receive_again : (n : Name) (s : Option Amount) (ms : List Mention) (m : Mention) (rest : Tokens) → receive (put.declaration (decls.Receive n s ms m) rest) ≡ Ok (decls.Receive n s ms m, rest)
unfolding and_then word mark name
receive_again n s ms m rest =
    let more = put.word words.Raise (put.mention m (put.mark marks.Semicolon rest)) in
    rw (size_again s (in_parens put.mention ms more) refl, mentions_again ms more, mention_again m (put.mark marks.Semicolon rest) refl) refl

item_send : Declares send
item_send = item_as (item_word words.Send (λ _. form_bind form_name (λ n. form_bind form_size (λ s. form_bind (reads_in_parentheses (reads_any form_name)) (λ fs. form_bind (form_mark marks.OpenBrace) (λ _.
    form_bind (reads_until marks.CloseBrace item_send_case) (λ cs. form_pure (decls.Send n s fs cs))))))))
    (λ k x rest us s. let z = s.later.later in let f = z.later in let c = f.later.later in
    rw (s.before, s.later.before, z.before, f.before.0, f.later.before, c.before.0, c.later.1, c.later.0) (refl, c.before.1))

send_cases_again : (cs : List SendCase) (rest : Tokens) → IsTrue (list_all send_case_has_items cs) → until marks.CloseBrace send_case (put.each put.send_case cs (put.mark marks.CloseBrace rest)) ≡ Ok (cs, rest)
send_cases_again cs rest good = until_again marks.CloseBrace send_case put.send_case send_case_has_items (λ _. ⊤) (λ c r is _. send_case_again c r is) (λ c r is. refl) (λ _ _ _. tt) (λ _. tt) item_send_case.shrinks cs rest good

send_again : (n : Name) (s : Option Amount) (fs : List Name) (cs : List SendCase) (rest : Tokens) → IsTrue (list_all send_case_has_items cs) → send (put.declaration (decls.Send n s fs cs) rest) ≡ Ok (decls.Send n s fs cs, rest)
unfolding and_then word mark
send_again n s fs cs rest good =
    let more = put.mark marks.OpenBrace (put.each put.send_case cs (put.mark marks.CloseBrace rest)) in
    rw (name_again n _, size_again s (in_parens put.name fs more) refl, fields_again fs more, send_cases_again cs rest good) refl

-- Any declaration.

pub item_declaration : Declares declaration
item_declaration = item_if item_enumeration (item_if item_range (item_if item_constant (item_if item_input (item_if item_event (item_if item_macro_table (item_if item_function (item_if item_receive item_send)))))))

pub declaration_again : (d : Decl) (rest : Tokens) → IsTrue (declaration_has_items d) → declaration (put.declaration d rest) ≡ Ok (d, rest)
declaration_again (decls.Enumeration n vs) rest good = enumeration_again n vs rest good
declaration_again (decls.Range n l h) rest good = range_again n l h rest
declaration_again (decls.Constant n v) rest good = constant_again n v rest
declaration_again (decls.Input n s t i) rest good = input_again n s t i rest
declaration_again (decls.Event n s) rest good = event_again n s rest
declaration_again (decls.Macro n s rows) rest good = macro_again n s rows rest good
declaration_again (decls.Function n s cs) rest good = function_again n s cs rest good
declaration_again (decls.Receive n s ms m) rest good = receive_again n s ms m rest
declaration_again (decls.Send n s fs cs) rest good = send_again n s fs cs rest good
