use Rattle.std.proofs.Common.{◌∙◌}
use Rattle.demonstrating.proofs.text.put_states.Goals as goal

pub returns : goal.returns
returns c =
    λ rest. c.in_ok-put-6.ensures rest ∙ c.in_ok-put-5.ensures _ ∙ c.in_ok-put-4.ensures _ ∙ c.in_ok-put-3.ensures _
    ∙ c.in_ok-put-2.ensures _ ∙ c.in_ok-put_number.ensures _ ∙ c.in_ok-put.ensures _
