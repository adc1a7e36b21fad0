use Rattle.std.proofs.Common.{◌≡◌, map, length, None, replicate, sym, ap, ◌∙◌}
use Rattle.std.proofs.lemmas.List.{length-map}
use Rattle.rsml_ground.specs.Truths.{Grounded}
use Rattle.macros.proofs.Marks.{many_replicated}
use Rattle.micro_step.specs.Rising.{Numbers}
use Rattle.micro_step.proofs.LoopLemmas.{as_many, forgotten}
use Rattle.micro_step.proofs.scratch.Scratch.new.Goals as goal

pub invariant_of-result : goal.invariant_of-result
invariant_of-result c =
    sym (length-map c.in_ok-values.values.items (λ v. v.items))
    ∙ as_many c.args.machine.now (map (λ v. v.items) c.in_ok-values.values.items) c.in_ok-values.ensures
    ∙ sym c.send_cases.ensures
    ∙ sym (ap (λ (n : Numbers). n.below) c.in_ok-sent.ensures)

pub returns-clause-knows : goal.returns-clause-knows
returns-clause-knows c = λ w.
    let memo = c.in_ok-memo.memo in
    let long : length memo ≡ c.phrases.result = ap length c.in_ok-memo.ensures ∙ many_replicated c.phrases.result None in
    let count = long ∙ c.phrases.ensures ∙ ap (λ (g : Grounded). length g.phrases) c.macros.ensures in
    forgotten c.args.machine.now.base w memo memo count (c.in_ok-memo.ensures ∙ ap (λ n. replicate n None) (sym long))
