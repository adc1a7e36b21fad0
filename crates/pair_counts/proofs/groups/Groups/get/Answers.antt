use Rattle.std.proofs.Common.{ℕ, Option, List, None, Some, Bor, ap}
use Rattle.std.specs.Option.{option_map}
use Rattle.pair_counts.proofs.GroupLemmas.{found}
use Rattle.pair_counts.proofs.groups.Groups.get.Goals as goal

pub returns-in_err-get : goal.returns-in_err-get
returns-in_err-get c =
    found c.self.inside.places.entries c.args.self.now c.args.fixed (option_map (λ (places : Bor (List ℕ)). places.now) c.from_residual.result) None
    c.self.view_is (ap (λ (r : Option (Bor (List ℕ))). option_map (λ (places : Bor (List ℕ)). places.now) r) c.from_residual.ensures) c.in_err-get.ensures.value

pub returns : goal.returns
returns c =
    found c.self.inside.places.entries c.args.self.now c.args.fixed (Some c.as_slice.result.now) (Some c.in_ok-get.field-0.now)
    c.self.view_is (ap (λ (ps : List ℕ). Some ps) c.as_slice.ensures.value) c.in_ok-get.ensures.value
