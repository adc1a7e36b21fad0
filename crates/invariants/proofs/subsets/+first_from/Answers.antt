use Rattle.std.proofs.Common.{[], ◌+◌, ◌∙◌, subst, arith}
use Rattle.std.proofs.lemmas.Result.{IfOk-weaker}
use Rattle.event_graph.specs.Sets.{has}
use Rattle.invariants.specs.Safe.{FindsFirst, Fits}
use Rattle.invariants.specs.Told.{true_after}
use Rattle.invariants.proofs.SubsetLemmas.{broken_absent, found_present, front_present, more_in}
use Rattle.invariants.proofs.ToldLemmas.{all_on}
use Rattle.invariants.proofs.subsets.+first_from.Goals as goal

pub returns-in-Some-absent-clause-answer : goal.returns-in-Some-absent-clause-answer
returns-in-Some-absent-clause-answer t c =
    let m = c.args.machine.now in
    let claims = c.args.claims.now in
    let set = has c.args.events.now in
    let present = has c.args.present.now in
    let e = c.in-Some.ensures.some in
    broken_absent set present (has c.put.new.self) c.args.from c.in-Some.event c.requires.front e.0 e.2 e.3 c.put.ensures m claims c.in-Some-absent.broken
    (subst (FindsFirst m claims (Fits set present (c.in-Some.event + 1))) c.in-Some-absent.is c.in_ok-absent.ensures.answer)

pub returns-in-None-clause-answer : goal.returns-in-None-clause-answer
returns-in-None-clause-answer t c =
    let m = c.args.machine.now in
    let claims = c.args.claims.now in
    let set = has c.args.events.now in
    let present = has c.args.present.now in
    let e = c.in-Some.ensures.some in
    IfOk-weaker c.first_from-in-None.result _ _
    (λ found h. found_present set present (has c.put.new.self) c.args.from c.in-Some.event c.requires.front e.0 e.2 e.3 c.put.ensures m claims found
    (subst (FindsFirst m claims (Fits set present (c.in-Some.event + 1))) c.in-None.is c.in_ok-absent.ensures.answer) h)
    c.first_from-in-None.ensures.answer

pub first_from-requires-in-None : goal.first_from-requires-in-None
first_from-requires-in-None t c =
    let set = has c.args.events.now in
    let present = has c.args.present.now in
    let e = c.in-Some.ensures.some in
    let more = has c.put.new.self in
    let m = c.args.machine.now in
    let puts = c.put.ensures in (
      omega (arith, c.decreases, e.0, e.1),
      (
        c.in_ok-absent.ensures.keeps.machine ∙ c.requires.machine,
        (
          c.requires.there,
          (
            all_on m.base.spec c.args.encoder.now c.first_from.new.encoder (true_after m []) c.args.claims.now c.args.before.now c.in_ok-absent.ensures.keeps c.requires.before,
            (
              c.requires.events,
              (
                more_in set present more c.args.from c.in-Some.event c.requires.front e.0 e.2 e.3 puts c.requires.present,
                front_present set present more c.args.from c.in-Some.event c.requires.front e.0 e.2 e.3 puts,
              ),
            ),
          ),
        ),
      ),
    )
