use Rattle.std.proofs.Common.{◌≡◌, ◌<◌, ◌≤◌, List, map, length, nat_lt, refl, ap, ◌∙◌, arith}
use Rattle.std.proofs.lemmas.Bool.Decides.{nat_tests}
use Rattle.rsml_syntax.specs.declared.syntax.Spec.{Spec}
use Rattle.rsml_syntax.specs.text.Names.{Name}
use Rattle.rsml_meaning.specs.Cells.{cells}
use Rattle.instance_texts.specs.InputCells.{without_first}
use Rattle.instance_texts.proofs.FoundLemmas.{so_there, so_past}
use Rattle.instance_texts.proofs.texts.Texts.has_names.Goals as goal

pub returns-in-Some : goal.returns-in-Some
returns-in-Some c =
    let all : c.deref.result.now ≡ map without_first (cells c.args.self.now) = c.deref.ensures.value ∙ c.self.invariant.are_cells ∙ ap (λ (s : Spec). map without_first (cells s)) c.self.view_is in
    let within : c.args.cell < length c.deref.result.now = let b = c.in-Some.ensures.lookup.0 in grind (arith, nat_tests, b) in
    ap (λ (names : List Name). nat_lt 0 (length names)) c.names.ensures
    ∙ so_there (λ d. nat_lt 0 (length d.numbers.names)) (λ d. refl) (cells c.args.self.now) c.deref.result.now c.args.cell c.in-Some.cell.now all within c.in-Some.ensures.lookup.1

pub returns-in-None : goal.returns-in-None
returns-in-None c =
    let all : c.deref.result.now ≡ map without_first (cells c.args.self.now) = c.deref.ensures.value ∙ c.self.invariant.are_cells ∙ ap (λ (s : Spec). map without_first (cells s)) c.self.view_is in
    let past : length c.deref.result.now ≤ c.args.cell = let b = c.in-None.ensures.lookup in grind (arith, nat_tests, b) in
    so_past (λ d. nat_lt 0 (length d.numbers.names)) (cells c.args.self.now) c.deref.result.now c.args.cell all past
