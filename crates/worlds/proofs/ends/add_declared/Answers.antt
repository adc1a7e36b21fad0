use Rattle.std.proofs.Common.{◌≡◌, ◌++◌, List, Option, OnOk, map, replicate, ap, ◌∙◌, sym, subst}
use Rattle.rsml_syntax.specs.declared.syntax.Amount.{Amount}
use Rattle.rsml_syntax.specs.declared.syntax.Decl.{Decl}
use Rattle.rsml_syntax.specs.rules.Globals.{many}
use Rattle.rsml_meaning.specs.Cells.{type_named, initial_number}
use Rattle.worlds.specs.Ends.{Ends, declared_ends, written}
use Rattle.worlds.proofs.Cells.{input_ends}
use Rattle.worlds.proofs.ends.add_declared.Goals as goal

pub returns-in_ok-cell-in-Input : goal.returns-in_ok-cell-in-Input
returns-in_ok-cell-in-Input c =
    let g = c.args.globals.now in
    let initial = initial_number g c.in-Input.initial in
    let same = ap (λ (o : Option Amount). replicate (many g o) (written c.in_ok-cell-in-Input.cell)) c.as_ref.ensures.value
    ∙ ap (λ (e : Ends). replicate (many g c.in-Input.size) e) c.in_ok-cell-in-Input.ensures
    ∙ sym (input_ends g (type_named g c.in-Input.kind) initial c.in-Input.name c.in-Input.size)
    ∙ sym (ap (λ (d : Decl). declared_ends g d) c.in-Input.is) in
    subst (λ (es : List Ends). OnOk c.add_input.result (map written c.add_input.new.cells.items ≡ map written c.args.cells.now.items ++ es)) same c.add_input.ensures
