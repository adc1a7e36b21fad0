use Rattle.demonstrating.proofs.Demos.{demos_are_certified}
use Rattle.demonstrating.proofs.laws.demos_are_certified.Goals as goal

pub returns : goal.returns
returns c = demos_are_certified
