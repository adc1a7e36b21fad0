use Rattle.std.proofs.Common.{sym, subst, arith}
use Rattle.rsml_syntax.specs.declared.edition.Edition.TheVariants as editions
use Rattle.rsml_syntax.specs.text.Renaming.{names_of}
use Rattle.rsml_syntax.specs.text.Tokens.{IsFreeName}
use Rattle.rsml_syntax.proofs.RenamingLemmas.{numbered_is_name, used_more, number_small, told}
use Rattle.rsml_syntax.proofs.renaming.unused_name.Goals as goal

pub returns-then-not-contains-clause-name : goal.returns-then-not-contains-clause-name
returns-then-not-contains-clause-name c =
    subst (IsFreeName editions.Second) (sym c.in_ok-write_numbered_name.ensures) (numbered_is_name c.loop-name.number (omega arith))

pub overflow_add-number : goal.overflow_add-number
overflow_add-number c =
    let here = told (names_of c.args.tokens.now) c.in_ok-names.names.keys c.loop-name.number _ c.as_slice.result.now c.contains.result
    c.in_ok-write_numbered_name.ensures c.as_slice.ensures.value c.in_ok-names.ensures c.contains.ensures c.if-not-contains.false in
    let small = number_small c.args.tokens.now c.loop-name.number (omega arith) c.requires c.loop-name.invariant.used here in
    omega (arith, small)

pub loop-name-smaller : goal.loop-name-smaller
loop-name-smaller c =
    let here = told (names_of c.args.tokens.now) c.in_ok-names.names.keys c.loop-name.number _ c.as_slice.result.now c.contains.result
    c.in_ok-write_numbered_name.ensures c.as_slice.ensures.value c.in_ok-names.ensures c.contains.ensures c.if-not-contains.false in
    let small = number_small c.args.tokens.now c.loop-name.number (omega arith) c.requires c.loop-name.invariant.used here in
    omega (arith, small)

pub loop-name-preserved : goal.loop-name-preserved
loop-name-preserved c =
    let here = told (names_of c.args.tokens.now) c.in_ok-names.names.keys c.loop-name.number _ c.as_slice.result.now c.contains.result
    c.in_ok-write_numbered_name.ensures c.as_slice.ensures.value c.in_ok-names.ensures c.contains.ensures c.if-not-contains.false in
    record { positive = omega arith; used = used_more (names_of c.args.tokens.now) c.loop-name.number c.loop-name.invariant.used here }
