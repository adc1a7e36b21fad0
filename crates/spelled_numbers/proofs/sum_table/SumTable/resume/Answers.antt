-- It goes down to the later levels, or is answered.
use Rattle.std.proofs.Common.{◌≡◌, ℕ, ◌-◌, ◌≤◌, length, drop, sym, subst, arith}
use Rattle.std.proofs.lemmas.Result.{IfOk-weaker}
use Rattle.spelled_numbers.specs.Steps.{weight_at, IsAtMost}
use Rattle.spelled_numbers.specs.Waiting.{Waits, Leads}
use Rattle.spelled_numbers.proofs.WaitingLemmas.{leads-joined, turn-path}
use Rattle.spelled_numbers.proofs.sum_table.SumTable.resume.Goals as goal

pub returns-in-Some-clause-leads : goal.returns-in-Some-clause-leads
returns-in-Some-clause-leads c =
    let at : c.len-at.result ≡ length c.args.waiting.now.items = omega (arith, c.len-at.ensures, c.args.waiting.now.ok.0) in
    IfOk-weaker c.join.result
    (IsAtMost c.join.new.arena (drop c.len-at.result c.args.terms.now) c.args.step.room)
    (λ r. (first : ℕ) → Waits c.args.arena.now c.args.terms.now first c.args.waiting.now.items c.args.step.room → Leads c.join.new.arena c.args.terms.now first c.args.waiting.now.items r)
    (λ r right. leads-joined c.args.arena.now c.join.new.arena c.args.terms.now c.args.waiting.now.items c.args.step.room c.join.ensures.keeps r
    (subst (λ n. IsAtMost c.join.new.arena (drop n c.args.terms.now) c.args.step.room r) at right))
    c.join.ensures.answer

pub returns-then-step-weight-clause-leads : goal.returns-then-step-weight-clause-leads
returns-then-step-weight-clause-leads c =
    let at : c.len-at.result ≡ length c.args.waiting.now.items = omega (arith, c.len-at.ensures, c.args.waiting.now.ok.0) in
    IfOk-weaker c.join-then-step-weight.result
    (IsAtMost c.join-then-step-weight.new.arena (drop c.len-at.result c.args.terms.now) c.args.step.room)
    (λ r. (first : ℕ) → Waits c.args.arena.now c.args.terms.now first c.args.waiting.now.items c.args.step.room → Leads c.join-then-step-weight.new.arena c.args.terms.now first c.args.waiting.now.items r)
    (λ r right. leads-joined c.args.arena.now c.join-then-step-weight.new.arena c.args.terms.now c.args.waiting.now.items c.args.step.room c.join-then-step-weight.ensures.keeps r
    (subst (λ n. IsAtMost c.join-then-step-weight.new.arena (drop n c.args.terms.now) c.args.step.room r) at right))
    c.join-then-step-weight.ensures.answer

pub returns-clause-leads : goal.returns-clause-leads
returns-clause-leads c =
    let at : c.len-at.result ≡ length c.args.waiting.now.items = omega (arith, c.len-at.ensures, c.args.waiting.now.ok.0) in
    IfOk-weaker c.descend.result
    (λ r. (first : ℕ) → Waits c.args.arena.now c.args.terms.now first c.push.new.self.items (c.args.step.room - weight_at c.args.terms.now c.len-at.result) → Leads c.args.arena.now c.args.terms.now first c.descend.new.waiting.items r)
    (λ r. (first : ℕ) → Waits c.args.arena.now c.args.terms.now first c.args.waiting.now.items c.args.step.room → Leads c.args.arena.now c.args.terms.now first c.descend.new.waiting.items r)
    (λ r leads first w. leads first
    (subst (λ n. Waits c.args.arena.now c.args.terms.now first c.push.new.self.items (c.args.step.room - weight_at c.args.terms.now n)) (sym at)
    (turn-path c.args.arena.now c.args.terms.now c.args.waiting.now.items c.push.new.self.items c.args.step c.args.answer c.in_default.is c.requires.answer
    (subst (λ n. weight_at c.args.terms.now n ≤ c.args.step.room) at c.if-step-weight.false) c.in_ok-push.ensures.items first w)))
    c.descend.ensures
