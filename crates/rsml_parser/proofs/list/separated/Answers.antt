use Rattle.std.proofs.Common.{sym, ◌∙◌, ap, arith, [], ◌∷◌, ◌++◌}
use Rattle.rsml_syntax.specs.grammar.Layout.{is_mark}
use Rattle.rsml_parser.specs.Parsers.{◌>>◌, mark, separated}
use Rattle.rsml_parser.proofs.Loops.{starts_after, mark_seen, stopped, turn, failed, ended, passed_on}
use Rattle.rsml_parser.proofs.list.separated.Goals as goal
use Rattle.rsml_parser.proofs.list.separated.Goals.{else-loop-turn-test, then-loop-turn-test+then-not-sees_mark}

pub loop-turn-init : goal.loop-turn-init
loop-turn-init g c =
    starts_after c.args.mark g.T.Item.parser c.left-turn-end.result c.push.new.self c.in_ok-first.first c.args.reader.now c.read.new.reader c.left-turn-end.ensures
    (c.in_ok-push.ensures.ok ∙ ap (λ l. l ++ c.in_ok-first.first ∷ []) c.new-found.ensures) c.in_ok-first.ensures

pub loop-turn-preserved : goal.loop-turn-preserved
loop-turn-preserved g c =
    let seen = sym c.sees_mark.ensures ∙ c.if-not-sees_mark.false in
    let item = g.T.Item.parser in
    rw c.in_ok-push-in-Ok.ensures.ok
    (turn (is_mark c.args.mark) (mark c.args.mark >> item) c.left-turn-end.result c.loop-turn._turn c.loop-turn.found c.loop-turn.reader c.read-in-loop-turn.new.reader c.in-Ok.item _ (omega arith)
    seen (mark_seen c.args.mark item c.loop-turn.reader seen ∙ ap item (sym c.skip.ensures) ∙ c.in-Ok.ensures) c.loop-turn.invariant)

pub returns-in-Err : goal.returns-in-Err
returns-in-Err g c =
    let seen = sym c.sees_mark.ensures ∙ c.if-not-sees_mark.false in
    let item = g.T.Item.parser in
    passed_on (item c.skip.new.self) (separated c.args.mark item c.args.reader.now) c.in-Err.fault _
    (λ s e. failed (is_mark c.args.mark) (mark c.args.mark >> item) c.left-turn-end.result c.loop-turn._turn c.loop-turn.found c.loop-turn.reader _ (omega arith)
    seen s (mark_seen c.args.mark item c.loop-turn.reader seen ∙ ap item (sym c.skip.ensures) ∙ e) c.loop-turn.invariant)
    c.in-Err.ensures

pub returns : goal.returns
returns g c =
    let each = mark c.args.mark >> g.T.Item.parser in
    elim c.loop-turn-test.branch [
      | else-loop-turn-test w ↦ ended (is_mark c.args.mark) each c.left-turn-end.result c.loop-turn._turn c.loop-turn.found c.loop-turn.reader _ (omega arith) c.loop-turn.invariant
      | then-loop-turn-test+then-not-sees_mark w ↦ stopped (is_mark c.args.mark) each _ c.loop-turn.found c.loop-turn.reader _ (sym w.sees_mark.ensures ∙ w.if-not-sees_mark.true) c.loop-turn.invariant
    ]
