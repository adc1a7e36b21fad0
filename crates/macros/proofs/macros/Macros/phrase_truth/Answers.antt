use Rattle.std.proofs.Common.{rules, sym, ap, ◌∙◌, subst, slice_get, Option, ℤ, w64, FitsSigned}
use Rattle.std.proofs.lemmas.Int.{to_z-of_z}
use Rattle.std.specs.List.{list_any}
use Rattle.std.specs.Option.{is_some}
use Rattle.rsml_syntax.specs.rules.Relations.{compare}
use Rattle.rsml_meaning.specs.Worlds.{IsWorld}
use Rattle.rsml_ground.specs.Truths.{function_values, phrase_truth}
use Rattle.macros.proofs.Values.{some_found}
use Rattle.macros.proofs.macros.Macros.phrase_truth.Goals as goal

pub is_active-requires : goal.is_active-requires
is_active-requires c = subst (λ s. IsWorld s c.args.world.now) (sym c.requires.tree) c.requires.world

pub returns-in-Function : goal.returns-in-Function
returns-in-Function c =
    let fits : FitsSigned w64 c.in-Function.constant = search rules in
    let values = function_values c.args.world.now.cells c.args.truths.now (slice_get c.args.self.now.definitions c.in-Function.function) in
    c.is_some.ensures ∙ ap (λ (o : Option ℤ). is_some o) c.function_value.ensures ∙ some_found _ values
    ∙ ap (λ (n : ℤ). list_any (λ x. compare c.in-Function.relation x n) values) (to_z-of_z w64 c.in-Function.constant fits)
    ∙ ap (phrase_truth c.args.self.now c.args.world.now c.args.truths.now) (sym c.in-Function.is)
