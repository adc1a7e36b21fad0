use Rattle.std.proofs.Common.{map, arith, ◌∙◌}
use Rattle.std.proofs.lemmas.List.{length-map}
use Rattle.ground_groups.specs.Heads.{send_key}
use Rattle.ground_groups.proofs.Rising.{any_mapped, are_heads}
use Rattle.ground_groups.proofs.heads.case_heads.Goals as goal

pub returns : goal.returns
returns c =
    are_heads (map send_key c.args.cases.now) c.loop-case.heads.keys c.sort.new.self.keys c.loop-case.case-index c.in_ok-sort.ensures.sorted c.in_ok-sort.ensures.unique
    c.in_ok-sort.ensures.reordered.2 (λ q. c.loop-case.invariant q ∙ any_mapped send_key q c.loop-case.case-index c.args.cases.now)
    (let t = c.loop-case-test.false in let e = length-map c.args.cases.now send_key in omega (arith, t, e))
