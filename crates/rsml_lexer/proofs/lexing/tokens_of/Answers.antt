use Rattle.std.proofs.Common.{◌-◌, ◌≤◌, List, length, refl, sym, ap, ◌∙◌, subst}
use Rattle.rsml_syntax.specs.declared.token.Placed.{Placed}
use Rattle.rsml_syntax.specs.helpers.Scanning.{after_blanks}
use Rattle.rsml_lexer.proofs.LexLemmas.{fails_here}
use Rattle.rsml_lexer.proofs.ScanSteps.{Reached, reached_within, none_reached, cut_leaves, leaves_cut, more_reached, less_left, no_bytes, all_reached}
use Rattle.rsml_lexer.proofs.lexing.tokens_of.Goals as goal

pub loop-rest-init : goal.loop-rest-init
loop-rest-init c =
    subst (λ (ts : List Placed). Reached c.args.edition c.args.text.now ts c.after_blanks-rest.result.now) (sym c.new-found.ensures.items)
    (none_reached c.args.edition c.args.text.now c.after_blanks-rest.result.now c.utf8.text c.after_blanks-rest.ensures.value)

pub overflow_sub-at : goal.overflow_sub-at
overflow_sub-at c = reached_within c.args.edition c.args.text.now c.loop-rest.found.items c.loop-rest.rest.now c.utf8.text c.loop-rest.invariant

pub range_from-requires : goal.range_from-requires
range_from-requires c = λ _. let t = c.in-Ok.ensures in
    leaves_cut c.loop-rest.rest.now t.1 c.in-Ok.taken.len (cut_leaves c.args.edition c.loop-rest.rest.now c.in-Ok.taken.token t.0 t.1 c.in-Ok.taken.len c.loop-rest.invariant.utf8 t.2 t.3)

pub loop-rest-smaller : goal.loop-rest-smaller
loop-rest-smaller c = let t = c.in-Ok.ensures in
    less_left c.args.edition c.loop-rest.rest.now c.in-Ok.taken.token t.0 t.1 c.in-Ok.taken.len c.after_blanks-rest-in-Ok.result.now c.loop-rest.invariant.utf8 t.2 t.3
    (subst (λ l. length c.after_blanks-rest-in-Ok.result.now ≤ length l) c.range_from.ensures.value c.after_blanks-rest-in-Ok.ensures.within)

pub loop-rest-preserved : goal.loop-rest-preserved
loop-rest-preserved c = let t = c.in-Ok.ensures in
    subst (λ (ts : List Placed). Reached c.args.edition c.args.text.now ts c.after_blanks-rest-in-Ok.result.now) (sym c.in_ok-push-in-Ok.ensures.items)
    (more_reached c.args.edition c.args.text.now c.loop-rest.found.items c.loop-rest.rest.now (record { token = c.in-Ok.taken.token; at = length c.args.text.now - length c.loop-rest.rest.now }) t.0 t.1 c.in-Ok.taken.len
    c.after_blanks-rest-in-Ok.result.now c.utf8.text c.loop-rest.invariant t.2 t.3 refl (c.after_blanks-rest-in-Ok.ensures.value ∙ ap after_blanks c.range_from.ensures.value))

pub returns-in-Err : goal.returns-in-Err
returns-in-Err c =
    fails_here c.args.edition c.args.text.now c.loop-rest.found.items c.loop-rest.rest.now (length c.args.text.now - length c.loop-rest.rest.now) c.in-Err.error c.utf8.text c.loop-rest.invariant c.in-Err.ensures refl

pub returns : goal.returns
returns c = all_reached c.args.edition c.args.text.now c.loop-rest.found.items c.loop-rest.rest.now c.loop-rest.invariant (no_bytes c.is_empty.result (length c.loop-rest.rest.now) c.is_empty.ensures c.loop-rest-test.false)
