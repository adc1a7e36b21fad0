-- It goes down to the high child, or is answered.
use Rattle.std.proofs.Common.{ℕ, ◌+◌, ◌*◌, ◌<◌, ◌≤◌, subst}
use Rattle.std.proofs.lemmas.Result.{IfOk-weaker}
use Rattle.bdd_core.specs.Steps.{IsChoice}
use Rattle.bdd_core.specs.Waiting.{question, Path, AsksChoice, Leads, fours, weight, work}
use Rattle.bdd_core.proofs.WaitingLemmas.{turn-path, leads-joined, work-turn}
use Rattle.bdd_core.proofs.arena.Arena.resume.Goals as goal

pub returns-in_default-clause-leads : goal.returns-in_default-clause-leads
returns-in_default-clause-leads c =
    IfOk-weaker c.descend.result
    (λ r. (first : ℕ × ℕ × ℕ) → Path (AsksChoice c.args.self.now) first c.push.new.self.items (c.part-f.result.0, c.part-f.result.1, c.part-f.result.2) → Leads c.args.self.now first c.descend.new.waiting.items r)
    (λ r. (first : ℕ × ℕ × ℕ) → Path (AsksChoice c.args.self.now) first c.args.waiting.now.items (question c.args.frame) → Leads c.args.self.now first c.descend.new.waiting.items r)
    (λ r leads first p. leads first
    (turn-path c.args.self.now c.args.frame c.args.answer (c.part-f.result.0, c.part-f.result.1, c.part-f.result.2) c.in_default.is c.requires c.part-f.ensures.part
    first c.args.waiting.now.items c.push.new.self.items c.in_ok-push.ensures.items p))
    c.descend.ensures.leads

pub returns-in_default-clause-less : goal.returns-in_default-clause-less
returns-in_default-clause-less c =
    IfOk-weaker c.descend.result
    (λ _. work c.descend.new.waiting.items ≤ work c.push.new.self.items + 2 * fours (c.part-f.result.0 + c.part-f.result.1 + c.part-f.result.2))
    (λ _. work c.descend.new.waiting.items < work c.args.waiting.now.items + weight c.args.frame)
    (λ r most.
    work-turn c.args.waiting.now.items c.args.frame c.args.answer (work c.descend.new.waiting.items) c.part-f.result.0 c.part-f.result.1 c.part-f.result.2 c.in_default.is c.part-f.ensures.falls
    (subst (λ xs. work c.descend.new.waiting.items ≤ work xs + 2 * fours (c.part-f.result.0 + c.part-f.result.1 + c.part-f.result.2)) c.in_ok-push.ensures.items most))
    c.descend.ensures.most

pub returns-clause-leads : goal.returns-clause-leads
returns-clause-leads c =
    IfOk-weaker c.joined_choice.result
    (λ r. IsChoice c.joined_choice.new.self c.args.frame.f c.args.frame.g c.args.frame.h r)
    (λ r. (first : ℕ × ℕ × ℕ) → Path (AsksChoice c.args.self.now) first c.args.waiting.now.items (question c.args.frame) → Leads c.joined_choice.new.self first c.args.waiting.now.items r)
    (λ r choice first p. leads-joined c.args.self.now c.joined_choice.new.self c.laws.ensures.reduced c.joined_choice.ensures.keeps c.args.frame r choice first c.args.waiting.now.items p)
    c.joined_choice.ensures.choice
