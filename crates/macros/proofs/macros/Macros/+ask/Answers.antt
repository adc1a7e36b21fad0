use Rattle.std.proofs.Common.{◌≡◌, ◌<◌, ◌∷◌, [], sym, ap, ◌∙◌, subst, length, get_or, Some, Option, List, ℕ, ℤ, slice_get, arith, rules, w64, FitsSigned}
use Rattle.std.specs.List.{All, find, list_any, list_all}
use Rattle.std.specs.Option.{is_some}
use Rattle.std.proofs.lemmas.Int.{to_z-of_z}
use Rattle.std.proofs.lemmas.List.{take_all}
use Rattle.rsml_meaning.specs.Cells.{cells}
use Rattle.and_or_tables.specs.Ground.{known}
use Rattle.rsml_syntax.specs.rules.Relations.{compare}
use Rattle.rsml_ground.specs.declared.definitions.Definition.{Definition}
use Rattle.rsml_ground.specs.declared.definitions.GroundGuard.{GroundGuard}
use Rattle.rsml_ground.specs.declared.definitions.GroundGuard.TheVariants as guards
use Rattle.rsml_ground.specs.declared.phrases.GroundPhrase.{GroundPhrase}
use Rattle.rsml_ground.specs.declared.phrases.GroundPhrase.TheVariants as phrases
use Rattle.rsml_ground.specs.Rests.{DefinitionFits, RestsOn}
use Rattle.rsml_ground.specs.declared.definitions.GroundCase.{GroundCase}
use Rattle.rsml_ground.specs.Truths.{function_values, guard_truth, macro_truth, sum_number, truths_in}
use Rattle.macros.specs.Guards.{GuardBelow, guards_of}
use Rattle.macros.specs.Known.{IsKnown}
use Rattle.macros.specs.Sought.{is_sought}
use Rattle.macros.proofs.Asking.{truth_is, numbers_within, values_of_cases, guards_of_cases, cases_fit, has_guard}
use Rattle.macros.proofs.Below.{IsBelow, below_guard, defined_within, named_so, names_below}
use Rattle.macros.proofs.Learning.{guard_asked, kept_on, numbers_more}
use Rattle.macros.proofs.Values.{below_at, not_this, passed, some_found, this_one}
use Rattle.macros.proofs.macros.Macros.+ask.Goals as goal
use Rattle.macros.proofs.macros.Macros.+ask.Goals.{ask_function-then-ask_guard_within+else-takes, ask_function-else-ask_guard_within}

pub ask_each-loop-number-preserved : goal.ask_each-loop-number-preserved
ask_each-loop-number-preserved t c = record {
  knows = c.ask_within.ensures.knows;
  kept = kept_on c.args.memo.now c.loop-number.memo c.ask_within.new.memo c.loop-number.invariant.kept c.ask_within.ensures.kept;
  learned = numbers_more c.loop-number.memo c.ask_within.new.memo c.args.numbers.now c.loop-number.number-index c.ask_within.ensures.kept c.ask_within.ensures.learned c.loop-number.invariant.learned;
}

pub ask_each-returns-clause-learned : goal.ask_each-returns-clause-learned
ask_each-returns-clause-learned t c =
    subst (λ (ks : List ℕ). All (IsKnown c.loop-number.memo) ks) (take_all c.loop-number.number-index c.args.numbers.now c.loop-number-test.false) c.loop-number.invariant.learned

pub ask_guard_within-ask_each-requires : goal.ask_guard_within-ask_each-requires
ask_guard_within-ask_each-requires t c = (
  omega (arith, c.decreases),
  (
    c.requires.tree,
    (
      c.requires.world,
      (
        c.requires.knows,
        subst (λ (ks : List ℕ). All (λ k. k < length c.args.self.now.phrases) ks) (sym c.phrases.ensures) (below_guard (length c.args.self.now.phrases) c.args.guard.now c.requires.guard),
      ),
    ),
  ),
)

pub ask_guard_within-returns-clause-truth : goal.ask_guard_within-returns-clause-truth
ask_guard_within-returns-clause-truth t c =
    c.truth.ensures
    ∙ guard_asked c.args.self.now c.args.world.now c.ask_each.new.memo c.truths.result.now c.args.guard.now c.ask_each.ensures.knows c.truths.ensures.right
    (subst (λ (ks : List ℕ). All (IsKnown c.ask_each.new.memo) ks) c.phrases.ensures c.ask_each.ensures.learned)

pub ask_phrase-ask_settled-requires : goal.ask_phrase-ask_settled-requires
ask_phrase-ask_settled-requires t c = (
  omega (arith, c.decreases),
  (
    c.requires.tree,
    (
      c.requires.world,
      (
        c.requires.knows,
        subst (λ (ks : List ℕ). All (λ k. k < length c.args.self.now.phrases) ks) (sym c.as_slice.ensures)
            (numbers_within c.args.self.now.phrases c.args.number c.args.phrase.now c.in-Any.numbers c.requires.phrase
            (subst (λ (p : GroundPhrase). RestsOn c.args.self.now.definitions (length (cells c.args.self.now.spec)) c.args.number p) c.in-Any.is c.requires.rests)),
      ),
    ),
  ),
)

pub ask_phrase-returns-in-Any-clause-truth : goal.ask_phrase-returns-in-Any-clause-truth
ask_phrase-returns-in-Any-clause-truth t c =
    c.ask_settled.ensures.truth ∙ ap (list_any (known (truths_in c.args.self.now c.args.world.now))) c.as_slice.ensures
    ∙ truth_is c.args.self.now c.args.world.now c.args.number c.args.phrase.now (phrases.Any c.in-Any.numbers) c.spec.ensures.standing c.requires.phrase c.in-Any.is

pub ask_phrase-ask_settled-requires-in-Every : goal.ask_phrase-ask_settled-requires-in-Every
ask_phrase-ask_settled-requires-in-Every t c = (
  omega (arith, c.decreases),
  (
    c.requires.tree,
    (
      c.requires.world,
      (
        c.requires.knows,
        subst (λ (ks : List ℕ). All (λ k. k < length c.args.self.now.phrases) ks) (sym c.as_slice-in-Every.ensures)
            (numbers_within c.args.self.now.phrases c.args.number c.args.phrase.now c.in-Every.numbers c.requires.phrase
            (subst (λ (p : GroundPhrase). RestsOn c.args.self.now.definitions (length (cells c.args.self.now.spec)) c.args.number p) c.in-Every.is c.requires.rests)),
      ),
    ),
  ),
)

pub ask_phrase-returns-in-Every-clause-truth : goal.ask_phrase-returns-in-Every-clause-truth
ask_phrase-returns-in-Every-clause-truth t c =
    c.ask_settled-in-Every.ensures.truth ∙ ap (list_all (known (truths_in c.args.self.now c.args.world.now))) c.as_slice-in-Every.ensures
    ∙ truth_is c.args.self.now c.args.world.now c.args.number c.args.phrase.now (phrases.Every c.in-Every.numbers) c.spec.ensures.standing c.requires.phrase c.in-Every.is

pub ask_phrase-truth_by-requires-clause-named : goal.ask_phrase-truth_by-requires-clause-named
ask_phrase-truth_by-requires-clause-named t c =
    named_so (IsBelow c.args.number) (IsKnown c.ask_below.new.memo) c.ask_below.ensures.learned c.args.self.now.definitions c.args.phrase.now
    (names_below c.args.self.now.definitions (length (cells c.args.self.now.spec)) c.args.number c.args.phrase.now c.requires.rests)

pub ask_phrase-ask_macro-requires : goal.ask_phrase-ask_macro-requires
ask_phrase-ask_macro-requires t c = (
  omega (arith, c.decreases),
  (
    c.requires.tree,
    (
      c.requires.world,
      (
        c.requires.knows,
        defined_within c.args.self.now.definitions (length (cells c.args.self.now.spec)) c.args.number c.in-Macro.table
            (subst (λ (p : GroundPhrase). RestsOn c.args.self.now.definitions (length (cells c.args.self.now.spec)) c.args.number p) c.in-Macro.is c.requires.rests),
      ),
    ),
  ),
)

pub ask_phrase-returns-in-Macro-clause-truth : goal.ask_phrase-returns-in-Macro-clause-truth
ask_phrase-returns-in-Macro-clause-truth t c =
    c.ask_macro.ensures.truth
    ∙ truth_is c.args.self.now c.args.world.now c.args.number c.args.phrase.now (phrases.Macro c.in-Macro.table) c.spec.ensures.standing c.requires.phrase c.in-Macro.is

pub ask_phrase-ask_function-requires : goal.ask_phrase-ask_function-requires
ask_phrase-ask_function-requires t c = (
  omega (arith, c.decreases),
  (
    c.requires.tree,
    (
      c.requires.world,
      (
        c.requires.knows,
        defined_within c.args.self.now.definitions (length (cells c.args.self.now.spec)) c.args.number c.in-Function.function
            (subst (λ (p : GroundPhrase). RestsOn c.args.self.now.definitions (length (cells c.args.self.now.spec)) c.args.number p) c.in-Function.is c.requires.rests),
      ),
    ),
  ),
)

pub ask_phrase-returns-in-Function-clause-truth : goal.ask_phrase-returns-in-Function-clause-truth
ask_phrase-returns-in-Function-clause-truth t c =
    let fits : FitsSigned w64 c.in-Function.constant = search rules in
    let values = function_values c.args.world.now.cells (truths_in c.args.self.now c.args.world.now) (slice_get c.args.self.now.definitions c.in-Function.function) in
    c.is_some.ensures ∙ ap (λ (o : Option ℤ). is_some o) c.ask_function.ensures.value ∙ some_found _ values
    ∙ ap (λ (n : ℤ). list_any (λ x. compare c.in-Function.relation x n) values) (to_z-of_z w64 c.in-Function.constant fits)
    ∙ truth_is c.args.self.now c.args.world.now c.args.number c.args.phrase.now (phrases.Function c.in-Function.function c.in-Function.relation c.in-Function.constant) c.spec.ensures.standing
    c.requires.phrase c.in-Function.is

pub ask_macro-bounds-guards-0 : goal.ask_macro-bounds-guards-0
ask_macro-bounds-guards-0 t c =
    let e : c.guards.result.now ≡ guards.Table c.in-Macro.field-0 ∷ [] = c.guards.ensures.is c.definition.result.now c.definition.ensures.is ∙ ap guards_of c.in-Macro.is in
    omega (arith, ap (λ (xs : List GroundGuard). length xs) e)

pub ask_macro-ask_guard_within-requires : goal.ask_macro-ask_guard_within-requires
ask_macro-ask_guard_within-requires t c =
    let e : c.guards.result.now ≡ guards.Table c.in-Macro.field-0 ∷ [] = c.guards.ensures.is c.definition.result.now c.definition.ensures.is ∙ ap guards_of c.in-Macro.is in
    let is : c.index-guards-0.result ≡ guards.Table c.in-Macro.field-0 = c.index-guards-0.is ∙ ap (λ (xs : List GroundGuard). get_or xs 0 c.index-guards-0.result) e in
    let fits = subst (λ (d : Definition). DefinitionFits (length (cells c.args.self.now.spec)) (length c.args.self.now.phrases) d) c.in-Macro.is c.definition.ensures.fits in
    (omega (arith, c.decreases), (c.requires.tree, (c.requires.world, (c.requires.knows, subst (GuardBelow (length c.args.self.now.phrases)) (sym is) fits.below))))

pub ask_macro-returns-in-Macro-clause-truth : goal.ask_macro-returns-in-Macro-clause-truth
ask_macro-returns-in-Macro-clause-truth t c =
    let e : c.guards.result.now ≡ guards.Table c.in-Macro.field-0 ∷ [] = c.guards.ensures.is c.definition.result.now c.definition.ensures.is ∙ ap guards_of c.in-Macro.is in
    let is : c.index-guards-0.result ≡ guards.Table c.in-Macro.field-0 = c.index-guards-0.is ∙ ap (λ (xs : List GroundGuard). get_or xs 0 c.index-guards-0.result) e in
    c.ask_guard_within.ensures.truth ∙ ap (guard_truth (truths_in c.args.self.now c.args.world.now)) is
    ∙ sym (ap (macro_truth (truths_in c.args.self.now c.args.world.now)) (c.definition.ensures.is ∙ ap Some c.in-Macro.is))

pub ask_function-bounds-guards-place : goal.ask_function-bounds-guards-place
ask_function-bounds-guards-place t c =
    has_guard c.guards-guards.result.now c.as_slice-cases.result.now c.loop-place.place
    (guards_of_cases c.args.self.now.definitions c.args.function c.guards-guards.result.now c.definition.result.now c.in-Function.list c.as_slice-cases.result.now
    c.guards-guards.ensures.is c.definition.ensures.is c.in-Function.is c.as_slice-cases.ensures)
    c.loop-place-test.true

pub ask_function-ask_guard_within-requires : goal.ask_function-ask_guard_within-requires
ask_function-ask_guard_within-requires t c =
    let all = guards_of_cases c.args.self.now.definitions c.args.function c.guards-guards.result.now c.definition.result.now c.in-Function.list c.as_slice-cases.result.now
    c.guards-guards.ensures.is c.definition.ensures.is c.in-Function.is c.as_slice-cases.ensures in
    let fit = cases_fit (length (cells c.args.self.now.spec)) (length c.args.self.now.phrases) c.definition.result.now c.in-Function.list c.as_slice-cases.result.now
    c.definition.ensures.fits c.in-Function.is c.as_slice-cases.ensures in (
      omega (arith, c.decreases),
      (
        c.requires.tree,
        (c.requires.world, (c.loop-place.invariant.knows, below_at _ _ c.as_slice-cases.result.now c.guards-guards.result.now c.loop-place.place _ all fit c.loop-place-test.true c.index-guards-place.is)),
      ),
    )

pub ask_function-returns-then-takes-clause-value : goal.ask_function-returns-then-takes-clause-value
ask_function-returns-then-takes-clause-value t c =
    let all = guards_of_cases c.args.self.now.definitions c.args.function c.guards-guards.result.now c.definition.result.now c.in-Function.list c.as_slice-cases.result.now
    c.guards-guards.ensures.is c.definition.ensures.is c.in-Function.is c.as_slice-cases.ensures in
    let fits : FitsSigned w64 c.number-value.result = search rules in
    let truths = truths_in c.args.self.now c.args.world.now in
    let number = to_z-of_z w64 c.number-value.result fits ∙ c.number-value.ensures ∙ ap (λ (x : GroundCase). sum_number c.args.world.now.cells x.value) (sym c.index-cases-place.is) in
    ap Some number
    ∙ this_one (is_sought c.args.sought) c.args.world.now.cells truths c.as_slice-cases.result.now c.guards-guards.result.now c.loop-place.place c.index-guards-place.result
    c.index-cases-place.result all c.loop-place-test.true c.index-guards-place.is c.index-cases-place.is (sym c.ask_guard_within.ensures.truth ∙ c.if-ask_guard_within.true)
    (ap (is_sought c.args.sought) (sym number) ∙ sym c.takes.ensures ∙ c.if-takes.true)
    ∙ c.loop-place.invariant.rest
    ∙ ap (find (is_sought c.args.sought)) (values_of_cases c.args.world.now.cells truths (slice_get c.args.self.now.definitions c.args.function) c.definition.result.now c.in-Function.list
    c.as_slice-cases.result.now c.definition.ensures.is c.in-Function.is c.as_slice-cases.ensures)

pub ask_function-loop-place-preserved : goal.ask_function-loop-place-preserved
ask_function-loop-place-preserved t c =
    let all = guards_of_cases c.args.self.now.definitions c.args.function c.guards-guards.result.now c.definition.result.now c.in-Function.list c.as_slice-cases.result.now
    c.guards-guards.ensures.is c.definition.ensures.is c.in-Function.is c.as_slice-cases.ensures in
    let truths = truths_in c.args.self.now c.args.world.now in
    record {
      knows = c.ask_guard_within.ensures.knows;
      kept = kept_on c.args.memo.now c.loop-place.memo c.ask_guard_within.new.memo c.loop-place.invariant.kept c.ask_guard_within.ensures.kept;
      rest = elim c.if-ask_guard_within.branch [
        | ask_function-then-ask_guard_within+else-takes w ↦
            (let fits : FitsSigned w64 w.number-value.result = search rules in
            not_this (is_sought c.args.sought) c.args.world.now.cells truths c.as_slice-cases.result.now c.guards-guards.result.now c.loop-place.place c.index-guards-place.result
            w.index-cases-place.result all c.loop-place-test.true c.index-guards-place.is w.index-cases-place.is (sym c.ask_guard_within.ensures.truth ∙ w.if-ask_guard_within.true)
            (ap (is_sought c.args.sought) (sym (to_z-of_z w64 w.number-value.result fits ∙ w.number-value.ensures ∙ ap (λ (x : GroundCase). sum_number c.args.world.now.cells x.value) (sym w.index-cases-place.is)))
            ∙ sym w.takes.ensures ∙ w.if-takes.false)
            ∙ c.loop-place.invariant.rest)
        | ask_function-else-ask_guard_within w ↦
            ap (find (is_sought c.args.sought)) (passed c.args.world.now.cells truths c.as_slice-cases.result.now c.guards-guards.result.now c.loop-place.place c.index-guards-place.result
            all c.loop-place-test.true c.index-guards-place.is (sym c.ask_guard_within.ensures.truth ∙ w.if-ask_guard_within.false))
            ∙ c.loop-place.invariant.rest
      ];
    }
