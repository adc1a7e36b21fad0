use Rattle.std.proofs.Common.{◌++◌, ap, ◌∙◌}
use Rattle.std.specs.String.{string_bytes}
use Rattle.demonstrating.proofs.Written.{load_parts}
use Rattle.demonstrating.proofs.events.put_load.Goals as goal

pub returns : goal.returns
returns c =
    λ rest. c.in_ok-put_number-2.ensures rest ∙ c.in_ok-put_number.ensures _
    ∙ ap (λ r. string_bytes c.args.text.now ++ r) (load_parts c.args.unit c.args.depth rest)
