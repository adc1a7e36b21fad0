use Rattle.std.proofs.Common.{map, ap, ◌∙◌, arith, rules, w64, FitsSigned}
use Rattle.std.proofs.lemmas.Bool.Decides.{nat_tests}
use Rattle.std.proofs.lemmas.Int.{to_z-of_z}
use Rattle.rsml_syntax.specs.declared.syntax.Spec.{Spec}
use Rattle.rsml_meaning.specs.Cells.{cells}
use Rattle.worlds.specs.Ends.{ends_of, written, is_between}
use Rattle.worlds.proofs.Cells.{may_hold_at, none_at}
use Rattle.worlds.proofs.worlds.Worlds.may_hold.Goals as goal

pub returns-in-Some : goal.returns-in-Some
returns-in-Some c =
    let small : FitsSigned w64 c.args.number = search rules in
    c.is_between.ensures
    ∙ ap (is_between (written c.in-Some.ends.now)) (to_z-of_z w64 c.args.number small)
    ∙ may_hold_at (cells c.args.self.now) c.self.inside.ends.items _ c.args.cell c.args.number c.in-Some.ends.now (c.self.invariant.cells_are ∙ ap (λ (s : Spec). map ends_of (cells s)) c.self.view_is) c.deref.ensures.value
    c.in-Some.ensures.lookup.1 (let b = c.in-Some.ensures.lookup.0 in grind (arith, nat_tests, b))

pub returns-in-None : goal.returns-in-None
returns-in-None c =
    none_at (cells c.args.self.now) c.self.inside.ends.items _ c.args.cell c.args.number (c.self.invariant.cells_are ∙ ap (λ (s : Spec). map ends_of (cells s)) c.self.view_is) c.deref.ensures.value
    (let b = c.in-None.ensures.lookup in grind (arith, nat_tests, b))
