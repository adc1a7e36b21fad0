-- It goes down to the high child, or is answered.
use Rattle.std.proofs.Common.{ℕ, ◌+◌, ◌*◌, ◌<◌, ◌≤◌}
use Rattle.std.proofs.lemmas.Result.{IfOk-weaker}
use Rattle.bdd_core.specs.Steps.{IsCut}
use Rattle.bdd_core.specs.Waiting.{question, Path, fours, weight, work}
use Rattle.bdd_core.specs.Children.{AsksChild, LeadsTo, IsApart, IsCutAt}
use Rattle.bdd_core.proofs.ChildLemmas.{child-turn, child-less, child-answered, cut-stays}
use Rattle.bdd_core.proofs.arena.Arena.resume_cut.Goals as goal

pub returns-in_default-clause-leads : goal.returns-in_default-clause-leads
returns-in_default-clause-leads c =
    IfOk-weaker c.descend_cut.result
    (λ r. (first : ℕ × ℕ × ℕ) → Path (AsksChild (IsApart c.args.level) (IsCutAt c.args.level c.args.value) c.args.self.now) first c.push.new.self.items (c.own_children-high.result.1, 0, 0)
    → LeadsTo (IsApart c.args.level) (IsCutAt c.args.level c.args.value) c.args.self.now first c.descend_cut.new.waiting.items r)
    (λ r. (first : ℕ × ℕ × ℕ) → Path (AsksChild (IsApart c.args.level) (IsCutAt c.args.level c.args.value) c.args.self.now) first c.args.waiting.now.items (question c.args.frame)
    → LeadsTo (IsApart c.args.level) (IsCutAt c.args.level c.args.value) c.args.self.now first c.descend_cut.new.waiting.items r)
    (λ r leads first p. leads first
    (child-turn (IsApart c.args.level) (IsCutAt c.args.level c.args.value) c.args.self.now c.args.frame c.args.answer c.own_children-high.result.1 c.in_default.is c.requires c.own_children-high.ensures.high
    first c.args.waiting.now.items c.push.new.self.items c.in_ok-push.ensures.items p))
    c.descend_cut.ensures.leads

pub returns-in_default-clause-less : goal.returns-in_default-clause-less
returns-in_default-clause-less c =
    IfOk-weaker c.descend_cut.result
    (λ _. work c.descend_cut.new.waiting.items ≤ work c.push.new.self.items + 2 * fours c.own_children-high.result.1)
    (λ _. work c.descend_cut.new.waiting.items < work c.args.waiting.now.items + weight c.args.frame)
    (λ r most.
    child-less (IsApart c.args.level) (IsCutAt c.args.level c.args.value) c.args.self.now c.laws.ensures.reduced c.args.waiting.now.items c.push.new.self.items c.args.frame c.args.answer c.own_children-high.result.1 (work c.descend_cut.new.waiting.items)
    c.in_default.is c.requires c.own_children-high.ensures.high c.in_ok-push.ensures.items most)
    c.descend_cut.ensures.most

pub returns-clause-leads : goal.returns-clause-leads
returns-clause-leads c =
    IfOk-weaker c.joined_cut.result
    (λ r. IsCut c.joined_cut.new.self c.args.frame.f c.args.level c.args.value r)
    (λ r. (first : ℕ × ℕ × ℕ) → Path (AsksChild (IsApart c.args.level) (IsCutAt c.args.level c.args.value) c.args.self.now) first c.args.waiting.now.items (question c.args.frame)
    → LeadsTo (IsApart c.args.level) (IsCutAt c.args.level c.args.value) c.joined_cut.new.self first c.args.waiting.now.items r)
    (λ r cut first p. child-answered (IsApart c.args.level) (IsCutAt c.args.level c.args.value) (cut-stays c.args.level c.args.value) c.args.self.now c.joined_cut.new.self c.laws.ensures.reduced c.joined_cut.ensures.keeps c.args.frame r cut first c.args.waiting.now.items p)
    c.joined_cut.ensures.cut
