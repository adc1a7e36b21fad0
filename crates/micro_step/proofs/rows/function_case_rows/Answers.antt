use Rattle.std.proofs.Common.{◌≡◌, ◌<◌, ◌≤◌, List, length, Some, slice_get, sym, ap, ◌∙◌, arith}
use Rattle.std.proofs.lemmas.Bool.Decides.{nat_tests}
use Rattle.std.proofs.lemmas.Option.{slice_get-get_or}
use Rattle.rsml_ground.specs.declared.definitions.GroundCase.{GroundCase}
use Rattle.rsml_ground.specs.declared.definitions.Definition.TheVariants as definition
use Rattle.rsml_ground.specs.Truths.{Grounded}
use Rattle.micro_step.specs.Rows.{bits_of}
use Rattle.micro_step.proofs.RowLemmas.{no_definition, no_function, no_function_case, function_rows_are}
use Rattle.micro_step.proofs.rows.function_case_rows.Goals as goal

pub returns-then-function-definitions-clause-rows : goal.returns-then-function-definitions-clause-rows
returns-then-function-definitions-clause-rows c =
    let m = c.args.machine.now in
    let many = ap (λ (g : Grounded). length g.definitions) c.macros-macros.ensures in
    let past : length m.base.definitions ≤ c.args.function = let over = c.if-function-definitions.true in omega (arith, over, many, c.definitions.ensures) in
    ap bits_of (no_definition m c.args.world.now c.law.ensures c.args.function c.args.place past)

pub returns-in_default-clause-rows : goal.returns-in_default-clause-rows
returns-in_default-clause-rows c =
    let m = c.args.machine.now in
    let at = ap (λ (g : Grounded). slice_get g.definitions c.args.function) (sym c.macros-macros.ensures) ∙ c.definition.ensures.is in
    ap bits_of (no_function m c.args.world.now c.law.ensures c.args.function c.args.place c.definition.result.now c.in_default.not-Function at)

pub returns-in-Some-clause-rows : goal.returns-in-Some-clause-rows
returns-in-Some-clause-rows c =
    let m = c.args.machine.now in
    let cases = c.as_slice.result.now in
    let x = c.in-Some.case.now in
    let is : slice_get m.base.definitions c.args.function ≡ Some (definition.Function c.in-Function.cases) =
    ap (λ (g : Grounded). slice_get g.definitions c.args.function) (sym c.macros-macros.ensures) ∙ c.definition.ensures.is ∙ ap Some c.in-Function.is in
    let within : c.args.place < length cases = let b = c.in-Some.ensures.lookup.0 in grind (arith, nat_tests, b) in
    let at : slice_get c.in-Function.cases c.args.place ≡ Some x =
    ap (λ (xs : List GroundCase). slice_get xs c.args.place) (sym c.as_slice.ensures) ∙ slice_get-get_or cases c.args.place x within ∙ ap Some (sym c.in-Some.ensures.lookup.1) in
    c.guard_rows.ensures.rows ∙ ap bits_of (function_rows_are m c.args.world.now c.law.ensures c.args.function c.args.place c.in-Function.cases x is at)

pub returns-in-None-clause-rows : goal.returns-in-None-clause-rows
returns-in-None-clause-rows c =
    let m = c.args.machine.now in
    let is : slice_get m.base.definitions c.args.function ≡ Some (definition.Function c.in-Function.cases) =
    ap (λ (g : Grounded). slice_get g.definitions c.args.function) (sym c.macros-macros.ensures) ∙ c.definition.ensures.is ∙ ap Some c.in-Function.is in
    let many = ap (λ (xs : List GroundCase). length xs) c.as_slice.ensures in
    let behind : length c.as_slice.result.now ≤ c.args.place = let b = c.in-None.ensures.lookup in grind (arith, nat_tests, b) in
    let past : length c.in-Function.cases ≤ c.args.place = omega (arith, behind, many) in
    ap bits_of (no_function_case m c.args.world.now c.law.ensures c.args.function c.args.place c.in-Function.cases is past)
