use Rattle.std.proofs.Common.{sym, ◌∙◌, arith}
use Rattle.rsml_parser.specs.Parsers.{first, and_more}
use Rattle.rsml_parser.proofs.Loops.{starts, stopped, turn, failed, ended, passed_on}
use Rattle.rsml_parser.proofs.list.and_more.Goals as goal
use Rattle.rsml_parser.proofs.list.and_more.Goals.{else-loop-turn-test, then-loop-turn-test+then-not-begins}

pub loop-turn-init : goal.loop-turn-init
loop-turn-init g c = starts g.T.Listed.begins g.T.Item.parser c.left-turn-end.result c.args.found c.args.reader.now c.left-turn-end.ensures

pub loop-turn-preserved : goal.loop-turn-preserved
loop-turn-preserved g c =
    rw c.in_ok-push-in-Ok.ensures.ok
    (turn g.T.Listed.begins g.T.Item.parser c.left-turn-end.result c.loop-turn._turn c.loop-turn.found c.loop-turn.reader c.read.new.reader c.in-Ok.item _ (omega arith)
    (sym c.begins.ensures ∙ c.if-not-begins.false) c.in-Ok.ensures c.loop-turn.invariant)

pub returns-in-Err : goal.returns-in-Err
returns-in-Err g c =
    passed_on (g.T.Item.parser c.loop-turn.reader) (and_more (first g.T.Listed.begins) g.T.Item.parser c.args.found c.args.reader.now) c.in-Err.fault _
    (λ s e. failed g.T.Listed.begins g.T.Item.parser c.left-turn-end.result c.loop-turn._turn c.loop-turn.found c.loop-turn.reader _ (omega arith)
    (sym c.begins.ensures ∙ c.if-not-begins.false) s e c.loop-turn.invariant)
    c.in-Err.ensures

pub returns : goal.returns
returns g c = elim c.loop-turn-test.branch [
  | else-loop-turn-test w ↦ ended g.T.Listed.begins g.T.Item.parser c.left-turn-end.result c.loop-turn._turn c.loop-turn.found c.loop-turn.reader _ (omega arith) c.loop-turn.invariant
  | then-loop-turn-test+then-not-begins w ↦ stopped g.T.Listed.begins g.T.Item.parser _ c.loop-turn.found c.loop-turn.reader _ (sym w.begins.ensures ∙ w.if-not-begins.true) c.loop-turn.invariant
]
