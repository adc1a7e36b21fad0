use Rattle.std.proofs.Common.{rules, ap, sym, subst, ◌∙◌, length, slice_get, List, Bool, Option, ℤ, pos, w64, FitsSigned}
use Rattle.std.proofs.lemmas.Int.{to_z-of_z}
use Rattle.std.specs.Option.{unwrap_or}
use Rattle.rsml_meaning.specs.Truth.{Gives, view}
use Rattle.rsml_meaning.specs.Cells.{cells}
use Rattle.rsml_ground.specs.Grounded.{IsGrounded}
use Rattle.rsml_ground.specs.Rests.{IsDefined}
use Rattle.rsml_ground.specs.Truths.{first_value, function_values}
use Rattle.rsml_ground.proofs.Alike.{truths_count}
use Rattle.macros.proofs.Below.{defined}
use Rattle.macros.proofs.Means.{value_allowed}
use Rattle.macros.proofs.Values.{first_found}
use Rattle.macros.proofs.macros.Macros.value.Goals as goal

pub function_value-requires-clause-defined : goal.function_value-requires-clause-defined
function_value-requires-clause-defined c =
    subst (λ n. IsDefined c.args.self.now.definitions (length (cells c.args.self.now.spec)) n c.args.function)
    (sym (ap (λ (ts : List Bool). length ts) c.requires.truths ∙ truths_count c.args.self.now c.args.world.now))
    (defined c.args.self.now (subst IsGrounded c.self.view_is c.self.invariant.grounded) c.args.function c.requires.function)

pub returns-clause-value : goal.returns-clause-value
returns-clause-value c =
    let fits : FitsSigned w64 c.unwrap_or.result = search rules in
    let definition = slice_get c.args.self.now.definitions c.args.function in
    to_z-of_z w64 c.unwrap_or.result fits ∙ c.unwrap_or.ensures ∙ ap (λ (o : Option ℤ). unwrap_or o (pos 0)) c.function_value.ensures
    ∙ first_found (function_values c.args.world.now.cells c.args.truths.now definition)
    ∙ ap (λ (ts : List Bool). first_value (function_values c.args.world.now.cells ts definition)) c.requires.truths

pub returns-clause-allowed : goal.returns-clause-allowed
returns-clause-allowed c = λ f there.
    subst (Gives (view c.args.self.now.spec c.args.world.now) f.function) (sym (returns-clause-value c))
    (value_allowed c.args.self.now c.args.world.now c.args.function f (subst IsGrounded c.self.view_is c.self.invariant.grounded) there)
