use Rattle.std.proofs.Common.{sym, ◌∙◌, arith}
use Rattle.rsml_syntax.specs.grammar.Layout.{is_the_word}
use Rattle.rsml_syntax.specs.declared.token.Word.TheVariants as words
use Rattle.rsml_parser.specs.Claims as spec
use Rattle.rsml_parser.proofs.Loops.{starts, none_found, stopped, turn, failed, ended, passed_on}
use Rattle.rsml_parser.proofs.claims.claims.Goals as goal
use Rattle.rsml_parser.proofs.claims.claims.Goals.{else-loop-turn-test, then-loop-turn-test+then-not-sees_word}

pub loop-turn-init : goal.loop-turn-init
loop-turn-init c =
    starts (is_the_word words.Macro) spec.claim c.left-turn-end.result c.new-found.result.items c.args.reader.now c.left-turn-end.ensures
    ∙ none_found (is_the_word words.Macro) spec.claim c.new-found.result.items c.args.reader.now c.new-found.ensures.items

pub loop-turn-preserved : goal.loop-turn-preserved
loop-turn-preserved c =
    rw c.in_ok-push-in-Ok.ensures.items
    (turn (is_the_word words.Macro) spec.claim c.left-turn-end.result c.loop-turn._turn c.loop-turn.found.items c.loop-turn.reader c.claim.new.reader c.in-Ok.claim _ (omega arith)
    (sym c.sees_word.ensures ∙ c.if-not-sees_word.false) c.in-Ok.ensures c.loop-turn.invariant)

pub returns-in-Err : goal.returns-in-Err
returns-in-Err c =
    passed_on (spec.claim c.loop-turn.reader) (spec.claims c.args.reader.now) c.in-Err.fault _
    (λ s e. failed (is_the_word words.Macro) spec.claim c.left-turn-end.result c.loop-turn._turn c.loop-turn.found.items c.loop-turn.reader _ (omega arith)
    (sym c.sees_word.ensures ∙ c.if-not-sees_word.false) s e c.loop-turn.invariant)
    c.in-Err.ensures

pub returns : goal.returns
returns c = elim c.loop-turn-test.branch [
  | else-loop-turn-test w ↦ ended (is_the_word words.Macro) spec.claim c.left-turn-end.result c.loop-turn._turn c.loop-turn.found.items c.loop-turn.reader _ (omega arith) c.loop-turn.invariant
  | then-loop-turn-test+then-not-sees_word w ↦ stopped (is_the_word words.Macro) spec.claim _ c.loop-turn.found.items c.loop-turn.reader _ (sym w.sees_word.ensures ∙ w.if-not-sees_word.true) c.loop-turn.invariant
]
