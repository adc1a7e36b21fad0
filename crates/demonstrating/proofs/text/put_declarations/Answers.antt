use Rattle.std.proofs.Common.{◌∙◌}
use Rattle.demonstrating.proofs.text.put_declarations.Goals as goal

pub returns : goal.returns
returns c =
    λ rest. c.in_ok-put_number-4.ensures rest ∙ c.in_ok-put_number-3.ensures _ ∙ c.in_ok-put-3.ensures _ ∙ c.in_ok-put_number-2.ensures _
    ∙ c.in_ok-put-2.ensures _ ∙ c.in_ok-put_number.ensures _ ∙ c.in_ok-put.ensures _
