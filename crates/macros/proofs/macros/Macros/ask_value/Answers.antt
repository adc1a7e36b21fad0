use Rattle.std.proofs.Common.{rules, ap, ◌∙◌, slice_get, Option, ℤ, pos, w64, FitsSigned}
use Rattle.std.proofs.lemmas.Int.{to_z-of_z}
use Rattle.std.specs.Option.{unwrap_or}
use Rattle.rsml_ground.specs.Truths.{function_values, truths_in}
use Rattle.macros.proofs.Values.{first_found}
use Rattle.macros.proofs.macros.Macros.ask_value.Goals as goal

pub returns-clause-value : goal.returns-clause-value
returns-clause-value c =
    let fits : FitsSigned w64 c.unwrap_or.result = search rules in
    to_z-of_z w64 c.unwrap_or.result fits ∙ c.unwrap_or.ensures ∙ ap (λ (o : Option ℤ). unwrap_or o (pos 0)) c.ask_function.ensures.value
    ∙ first_found (function_values c.args.world.now.cells (truths_in c.args.self.now c.args.world.now) (slice_get c.args.self.now.definitions c.args.function))
