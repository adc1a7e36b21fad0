use Rattle.std.proofs.Common.{sym, ◌∙◌, ◌<◌, arith, subst}
use Rattle.rsml_parser.specs.Parsers.{Gives, first, many}
use Rattle.rsml_parser.specs.States.{opens_state, child, body}
use Rattle.rsml_parser.proofs.Loops.{starts, none_found, stopped, turn, failed, ended, passed_on}
use Rattle.rsml_parser.proofs.CodeLemmas.{with_room}
use Rattle.rsml_parser.proofs.states.+body.Goals as goal
use Rattle.rsml_parser.proofs.states.+body.Goals.{some_children-else-loop-turn-test, some_children-then-loop-turn-test+then-not-opens_state}

pub children-returns : goal.children-returns
children-returns t c =
    subst (λ o. Gives o c.some_children.result c.some_children.new.reader) (sym (with_room c.args.room c.args.reader.now (let some : 0 < c.args.room = omega arith in some))) c.some_children.ensures

pub some_children-loop-turn-init : goal.some_children-loop-turn-init
some_children-loop-turn-init t c =
    let item = child (body c.args.room) in
    starts opens_state item c.left-turn-end.result c.new-found.result c.args.reader.now c.left-turn-end.ensures ∙ none_found opens_state item c.new-found.result c.args.reader.now c.new-found.ensures

pub some_children-loop-turn-preserved : goal.some_children-loop-turn-preserved
some_children-loop-turn-preserved t c =
    rw c.in_ok-push-in-Ok.ensures.ok
    (turn opens_state (child (body c.args.room)) c.left-turn-end.result c.loop-turn._turn c.loop-turn.found c.loop-turn.reader c.child.new.reader c.in-Ok.item _ (omega arith)
    (sym c.opens_state.ensures ∙ c.if-not-opens_state.false) c.in-Ok.ensures c.loop-turn.invariant)

pub some_children-returns-in-Err : goal.some_children-returns-in-Err
some_children-returns-in-Err t c =
    passed_on (child (body c.args.room) c.loop-turn.reader) (many (first opens_state) (child (body c.args.room)) c.args.reader.now) c.in-Err.fault _
    (λ s e. failed opens_state (child (body c.args.room)) c.left-turn-end.result c.loop-turn._turn c.loop-turn.found c.loop-turn.reader _ (omega arith)
    (sym c.opens_state.ensures ∙ c.if-not-opens_state.false) s e c.loop-turn.invariant)
    c.in-Err.ensures

pub some_children-returns : goal.some_children-returns
some_children-returns t c = elim c.loop-turn-test.branch [
  | some_children-else-loop-turn-test w ↦ ended opens_state (child (body c.args.room)) c.left-turn-end.result c.loop-turn._turn c.loop-turn.found c.loop-turn.reader _ (omega arith) c.loop-turn.invariant
  | some_children-then-loop-turn-test+then-not-opens_state w ↦ stopped opens_state (child (body c.args.room)) _ c.loop-turn.found c.loop-turn.reader _ (sym w.opens_state.ensures ∙ w.if-not-opens_state.true) c.loop-turn.invariant
]
