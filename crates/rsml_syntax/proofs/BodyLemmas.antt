-- The tokens of a body, by the list of its children.
use Rattle.std.proofs.Common.{◌≡◌, List, Result, Ok, Err, refl, sym, ap, ◌∙◌}
use Rattle.std.specs.Result.{OnOk}
use mathlib.Core.Former.{Count}
use Rattle.rsml_syntax.specs.declared.syntax.StateDecl.{StateDecl}
use Rattle.rsml_syntax.specs.declared.syntax.Bus.{Bus}
use Rattle.rsml_syntax.specs.declared.syntax.Transition.{Transition}
use Rattle.rsml_syntax.specs.declared.syntax.Body.{Body, One, One', All, All', Row_of-StateDecl, end_of-StateDecl, more_of-StateDecl, items-the_row-StateDecl, items_hidden-the_row-StateDecl-0}
use Rattle.rsml_syntax.specs.declared.token.Word.TheVariants as words
use Rattle.rsml_syntax.specs.declared.token.Mark.TheVariants as marks
use Rattle.rsml_syntax.specs.grammar.Grammar.{word, mark, name, size, each, bus, transition, state_word, body, children_row, state}
use Rattle.rsml_syntax.specs.text.Names.{Name}
use Rattle.rsml_syntax.specs.declared.printing.printer.Printer.{Printer}
use Rattle.rsml_syntax.specs.helpers.Printing.{Writes, with_tokens}
use Rattle.rsml_syntax.specs.text.Tokens.{Tokens}

row_is_list : (n : _) (row : Row_of-StateDecl n) (rest : Tokens) → children_row row rest ≡ each state (items-the_row-StateDecl n row) rest
row_is_list n end_of-StateDecl rest = refl
row_is_list n (more_of-StateDecl a z b others) rest = ap (λ r. word (state_word z) (name a (size z (body b r)))) (row_is_list _ others rest)

abbrev row_of : Body → (n : Count) × Row_of-StateDecl n
row_of (One' f _ row bs ts) = (_, row)
row_of (All' _ row) = (_, row)
row_of _ = (_, end_of-StateDecl)

pub body_all : (cs : List StateDecl) (rest : Tokens) → body (All cs) rest ≡ word words.All (mark marks.OpenBrace (each state cs (mark marks.CloseBrace rest)))
body_all cs rest =
    let row = row_of (All cs) in
    ap (λ r. word words.All (mark marks.OpenBrace r))
    (row_is_list row.0 row.1 (mark marks.CloseBrace rest) ∙ ap (λ (ds : List StateDecl). each state ds (mark marks.CloseBrace rest)) (items_hidden-the_row-StateDecl-0 cs))

pub body_one : (f : Name) (cs : List StateDecl) (bs : List Bus) (ts : List Transition) (rest : Tokens) → body (One f cs bs ts) rest ≡
    word words.One (mark marks.OpenBrace (word words.Default (name f (mark marks.Semicolon (each state cs (each bus bs (each transition ts (mark marks.CloseBrace rest))))))))
body_one f cs bs ts rest =
    let row = row_of (One f cs bs ts) in
    let more = each bus bs (each transition ts (mark marks.CloseBrace rest)) in
    ap (λ r. word words.One (mark marks.OpenBrace (word words.Default (name f (mark marks.Semicolon r)))))
    (row_is_list row.0 row.1 more ∙ ap (λ (ds : List StateDecl). each state ds more) (items_hidden-the_row-StateDecl-0 cs))

-- the parts of a state with one active child are written one after another
pub one_written : {A E : Type 0} (r : Result A E) (p q s t u v : Printer) (b : Body) (f : Name) (cs cs' : List StateDecl) (bs bs' : List Bus) (ts ts' : List Transition) →
    b ≡ One f cs bs ts → cs' ≡ cs → bs' ≡ bs → ts' ≡ ts →
    Writes p q (word words.One) → Writes q s (mark marks.OpenBrace) → Writes s t (λ rest. word words.Default (name f (mark marks.Semicolon rest))) → Writes t u (each state cs') →
    OnOk r (Writes u v (λ rest. each bus bs' (each transition ts' (mark marks.CloseBrace rest)))) → OnOk r (Writes p v (body b))
one_written (Err e) p q s t u v b f cs cs' bs bs' ts ts' is sc sb st w1 w2 w3 w4 w5 = tt
one_written (Ok x) p q s t u v b f cs cs' bs bs' ts ts' is sc sb st w1 w2 w3 w4 w5 = λ rest.
    let more = mark marks.CloseBrace rest in
    let parts : Tokens = each bus bs (each transition ts more) in
    ap (λ x. with_tokens p (body x rest)) is ∙ ap (with_tokens p) (body_one f cs bs ts rest)
    ∙ w1 (mark marks.OpenBrace (word words.Default (name f (mark marks.Semicolon (each state cs parts)))))
    ∙ w2 (word words.Default (name f (mark marks.Semicolon (each state cs parts))))
    ∙ w3 (each state cs parts)
    ∙ ap (λ l. with_tokens t (each state l parts)) (sym sc)
    ∙ w4 parts
    ∙ ap (λ l. with_tokens u (each bus l (each transition ts more))) (sym sb)
    ∙ ap (λ l. with_tokens u (each bus bs' (each transition l more))) (sym st)
    ∙ w5 rest
