use Rattle.std.proofs.Common.{ℕ, List, ◌++◌, ap, ◌∙◌}
use Rattle.std.specs.String.{string_bytes}
use Rattle.demonstrating.proofs.text.put_number.Goals as goal

pub returns : goal.returns
returns c =
    λ rest. c.in_ok-put-3.ensures rest ∙ c.in_ok-put-2.ensures _ ∙ c.in_ok-put.ensures _
    ∙ ap (λ (ds : List ℕ). string_bytes c.args.text.now ++ (c.args.before.now ++ (ds ++ (c.args.after.now ++ rest)))) c.format.ensures.text
