-- The laws of reading tables and guards.
use Rattle.std.proofs.Common.{◌≡◌, true, List, Ok, refl}
use Rattle.std.specs.Prelude.{IsTrue, ⊤}
use Rattle.std.specs.List.{list_all}
use Rattle.rsml_syntax.specs.grammar.Grammar as put
use Rattle.rsml_syntax.specs.text.Tokens.{Tokens}
use Rattle.rsml_syntax.specs.grammar.WellFormed.{row_has_items, guard_has_items}
use Rattle.rsml_syntax.specs.declared.token.Mark.TheVariants as marks
use Rattle.rsml_syntax.specs.declared.token.Word.TheVariants as words
use Rattle.rsml_syntax.specs.declared.syntax.Cell.{Cell}
use Rattle.rsml_syntax.specs.declared.syntax.Cell.TheVariants as cells
use Rattle.rsml_syntax.specs.declared.syntax.Guard.{Guard}
use Rattle.rsml_syntax.specs.declared.syntax.Guard.TheVariants as guards
use Rattle.rsml_syntax.specs.declared.syntax.Row.{Row}
use Rattle.rsml_parser.specs.Parsers.{and_then, first, is_not, word, mark, until}
use Rattle.rsml_parser.specs.Tables.{cell, row, table, guard, when_guard}
use Rattle.rsml_parser.proofs.Forms.{form_bind, form_pure, form_as, form_if}
use Rattle.rsml_parser.proofs.Leaves.{form_word, form_mark}
use Rattle.rsml_parser.proofs.Lists.{Item, item_mark, item_later, item_if, item_as}
use Rattle.rsml_parser.proofs.PhraseForms.{form_phrase, phrase_again, phrase_begins}
use Rattle.rsml_parser.proofs.SpelledLists.{until_again}
use Rattle.rsml_parser.proofs.Spelling.{Reads, ReadsItem, any, any_item, all_any, word_for, mark_for, reads_until}

item_cell : Item cell (λ _ c rest us. us ≡ put.cell c rest)
item_cell = item_if (item_as (word_for words.T cells.T) (λ k x rest us s. rw (s.0, s.1) refl))
    (item_if (item_as (word_for words.F cells.F) (λ k x rest us s. rw (s.0, s.1) refl)) (item_as (mark_for marks.Dot cells.Dot) (λ k x rest us s. rw (s.0, s.1) refl)))

cell_again : (c : Cell) (rest : Tokens) → cell (put.cell c rest) ≡ Ok (c, rest)
unfolding and_then word mark
cell_again cells.T rest = refl
cell_again cells.F rest = refl
cell_again cells.Dot rest = refl

cell_begins : (c : Cell) (rest : Tokens) → first (is_not marks.Semicolon) (put.cell c rest) ≡ true
cell_begins cells.T rest = refl
cell_begins cells.F rest = refl
cell_begins cells.Dot rest = refl

form_cells : Reads (until marks.Semicolon cell) (λ cs rest. put.each put.cell cs (put.mark marks.Semicolon rest)) (list_all any)
form_cells = reads_until marks.Semicolon (any_item item_cell)

cells_again : (cs : List Cell) (rest : Tokens) → until marks.Semicolon cell (put.each put.cell cs (put.mark marks.Semicolon rest)) ≡ Ok (cs, rest)
cells_again cs rest = until_again marks.Semicolon cell put.cell any (λ _. ⊤) (λ c r _ _. cell_again c r) (λ c r _. cell_begins c r) (λ _ _ _. tt) (λ _. tt) item_cell.shrinks cs rest (all_any cs)

item_row : ReadsItem row put.row row_has_items
item_row = item_as (item_later form_phrase (λ p. item_mark marks.Bar (λ _. form_bind form_cells (λ cs. form_pure (record { phrase = p; cells = cs })))))
    (λ k x rest us s. let l = s.later.later in rw (s.before.0, s.later.before, l.before.0, l.later.1, l.later.0) (refl, s.before.1))

row_again : (r : Row) (rest : Tokens) → IsTrue (row_has_items r) → row (put.row r rest) ≡ Ok (r, rest)
unfolding and_then mark
row_again r rest good = rw (phrase_again r.phrase (put.each put.cell r.cells (put.mark marks.Semicolon rest)) good, cells_again r.cells rest) refl

pub form_table : Reads table put.table (list_all row_has_items)
form_table = form_as (form_bind (form_mark marks.OpenBrace) (λ _. reads_until marks.CloseBrace item_row)) (λ k x rest us s. rw (s.before, s.later.0) (refl, s.later.1))

pub table_again : (rows : List Row) (rest : Tokens) → IsTrue (list_all row_has_items rows) → table (put.table rows rest) ≡ Ok (rows, rest)
unfolding and_then mark
table_again rows rest good =
    until_again marks.CloseBrace row put.row row_has_items (λ _. ⊤) (λ r more is _. row_again r more is) (λ r more is. phrase_begins r.phrase (put.mark marks.Bar (put.each put.cell r.cells (put.mark marks.Semicolon more))) is)
    (λ _ _ _. tt) (λ _. tt) item_row.shrinks rows rest good

pub form_guard : Reads guard put.guard guard_has_items
form_guard = form_if (form_as (word_for words.Always guards.Always).form (λ k x rest us s. rw (s.0, s.1) (refl, refl)))
    (form_as (form_bind form_table (λ rows. form_pure (guards.Table rows))) (λ k x rest us s. rw (s.before.0, s.later.1, s.later.0) (refl, s.before.1)))

guard_again : (g : Guard) (rest : Tokens) → IsTrue (guard_has_items g) → guard (put.guard g rest) ≡ Ok (g, rest)
unfolding and_then word
guard_again guards.Always rest good = refl
guard_again (guards.Table rows) rest good = rw (table_again rows rest good) refl

pub form_when_guard : Reads when_guard put.when_guard guard_has_items
form_when_guard = form_as (form_bind (form_word words.When) (λ _. form_guard)) (λ k x rest us s. rw (s.before, s.later.0) (refl, s.later.1))

pub when_guard_again : (g : Guard) (rest : Tokens) → IsTrue (guard_has_items g) → when_guard (put.when_guard g rest) ≡ Ok (g, rest)
unfolding and_then word
when_guard_again g rest good = guard_again g rest good
