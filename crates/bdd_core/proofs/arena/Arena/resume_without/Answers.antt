-- It goes down to the high child, or is answered.
use Rattle.std.proofs.Common.{ℕ, ◌+◌, ◌*◌, ◌<◌, ◌≤◌, sym, ◌∙◌, arith}
use Rattle.std.proofs.lemmas.Result.{IfOk-weaker}
use Rattle.bdd_core.specs.Waiting.{question, Path, fours, weight, work}
use Rattle.bdd_core.specs.Children.{AsksChild, LeadsTo, IsAny, IsRest}
use Rattle.bdd_core.proofs.StepLemmas.{keeps_refl}
use Rattle.bdd_core.proofs.ForgetLemmas.{right-keeps, right-kept}
use Rattle.bdd_core.proofs.WaitingLemmas.{work-done}
use Rattle.bdd_core.proofs.ChildLemmas.{child-turn, child-less, rest-true, rest-joined, rest-stays, child-answered}
use Rattle.bdd_core.proofs.arena.Arena.resume_without.Goals as goal

pub returns-then-is_settled-clause-leads : goal.returns-then-is_settled-clause-leads
returns-then-is_settled-clause-leads c first p =
    child-answered IsAny (IsRest c.args.levels.now) (rest-stays c.args.levels.now) c.args.self.now c.args.self.now c.laws.ensures.reduced (keeps_refl c.args.self.now) c.args.frame 1
    (rest-true c.args.self.now c.laws.ensures.reduced c.args.levels.now c.args.frame c.args.answer c.level-top.result c.in_default.is c.requires.answer c.level-top.ensures.level
    (sym c.contains-forgotten.ensures.value ∙ c.is_settled.ensures.level c.if-is_settled.true) (c.is_settled.ensures.child c.if-is_settled.true))
    first c.args.waiting.now.items p

pub returns-then-is_settled-clause-answers : goal.returns-then-is_settled-clause-answers
returns-then-is_settled-clause-answers c =
    right-kept c.args.self.now c.args.levels.now c.args.answers.now.table.slots.items c.make_room.new.self.table.slots.items c.keep.new.self.table.slots.items c.args.frame.f 1
    (omega (arith, c.requires.answer.f_ref, c.requires.answer.two)) c.requires.answers c.make_room.ensures c.keep.ensures c.requires.answer.f_ref
    (rest-true c.args.self.now c.laws.ensures.reduced c.args.levels.now c.args.frame c.args.answer c.level-top.result c.in_default.is c.requires.answer c.level-top.ensures.level
    (sym c.contains-forgotten.ensures.value ∙ c.is_settled.ensures.level c.if-is_settled.true) (c.is_settled.ensures.child c.if-is_settled.true))

pub returns-then-is_settled-clause-less : goal.returns-then-is_settled-clause-less
returns-then-is_settled-clause-less c = work-done c.args.waiting.now.items c.args.frame

pub returns-in_default-clause-leads : goal.returns-in_default-clause-leads
returns-in_default-clause-leads c =
    IfOk-weaker c.descend_without.result
    (λ r. (first : ℕ × ℕ × ℕ) → Path (AsksChild IsAny (IsRest c.args.levels.now) c.args.self.now) first c.push.new.self.items (c.own_children-high.result.1, 0, 0) → LeadsTo IsAny (IsRest c.args.levels.now) c.args.self.now first c.descend_without.new.waiting.items r)
    (λ r. (first : ℕ × ℕ × ℕ) → Path (AsksChild IsAny (IsRest c.args.levels.now) c.args.self.now) first c.args.waiting.now.items (question c.args.frame) → LeadsTo IsAny (IsRest c.args.levels.now) c.args.self.now first c.descend_without.new.waiting.items r)
    (λ r leads first p. leads first
    (child-turn IsAny (IsRest c.args.levels.now) c.args.self.now c.args.frame c.args.answer c.own_children-high.result.1 c.in_default.is c.requires.answer c.own_children-high.ensures.high
    first c.args.waiting.now.items c.push.new.self.items c.in_ok-push.ensures.items p))
    c.descend_without.ensures.leads

pub returns-in_default-clause-less : goal.returns-in_default-clause-less
returns-in_default-clause-less c =
    IfOk-weaker c.descend_without.result
    (λ _. work c.descend_without.new.waiting.items ≤ work c.push.new.self.items + 2 * fours c.own_children-high.result.1)
    (λ _. work c.descend_without.new.waiting.items < work c.args.waiting.now.items + weight c.args.frame)
    (λ r most.
    child-less IsAny (IsRest c.args.levels.now) c.args.self.now c.laws.ensures.reduced c.args.waiting.now.items c.push.new.self.items c.args.frame c.args.answer c.own_children-high.result.1 (work c.descend_without.new.waiting.items)
    c.in_default.is c.requires.answer c.own_children-high.ensures.high c.in_ok-push.ensures.items most)
    c.descend_without.ensures.most

pub returns-clause-leads : goal.returns-clause-leads
returns-clause-leads c first p =
    child-answered IsAny (IsRest c.args.levels.now) (rest-stays c.args.levels.now) c.args.self.now c.joined.new.self c.laws.ensures.reduced c.joined.ensures.keeps c.args.frame c.in_ok-joined.joined
    (rest-joined c.args.self.now c.joined.new.self c.laws.ensures.reduced c.joined.ensures.keeps c.args.levels.now c.args.frame c.in-Some.low c.args.answer c.level-top.result c.in_ok-joined.joined c.contains-forgotten.result
    c.in-Some.is c.requires.answer c.level-top.ensures.level c.contains-forgotten.ensures.value c.in_ok-joined.ensures.joined)
    first c.args.waiting.now.items p

pub returns-clause-answers : goal.returns-clause-answers
returns-clause-answers c =
    right-kept c.joined.new.self c.args.levels.now c.args.answers.now.table.slots.items c.make_room-2.new.self.table.slots.items c.keep-2.new.self.table.slots.items c.args.frame.f c.in_ok-joined.joined
    (omega (arith, c.requires.answer.f_ref, c.requires.answer.two, c.joined.ensures.keeps.longer))
    (right-keeps c.args.self.now c.joined.new.self c.joined.ensures.keeps c.args.levels.now c.args.answers.now.table.slots.items c.requires.answers)
    c.make_room-2.ensures c.keep-2.ensures (omega (arith, c.requires.answer.f_ref, c.joined.ensures.keeps.longer))
    (rest-joined c.args.self.now c.joined.new.self c.laws.ensures.reduced c.joined.ensures.keeps c.args.levels.now c.args.frame c.in-Some.low c.args.answer c.level-top.result c.in_ok-joined.joined c.contains-forgotten.result
    c.in-Some.is c.requires.answer c.level-top.ensures.level c.contains-forgotten.ensures.value c.in_ok-joined.ensures.joined)
