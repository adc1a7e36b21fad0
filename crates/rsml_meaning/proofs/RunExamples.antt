-- The premises hold of specifications: the lamp, and one whose chains have three events.
use Rattle.std.proofs.Common.{refl}
use Rattle.rsml_meaning.proofs.Reported.{certified}
use Rattle.rsml_meaning.proofs.values.Lamp.{lamp}
use Rattle.rsml_meaning.proofs.values.Fork.{fork}
use Rattle.rsml_meaning.specs.Deterministic.{IsDeterministic}
use Rattle.rsml_meaning.proofs.Deterministic.{certified_is_deterministic}

the_lamp_is_deterministic : IsDeterministic lamp
the_lamp_is_deterministic = certified_is_deterministic lamp refl (certified 1 lamp refl)

the_fork_is_deterministic : IsDeterministic fork
the_fork_is_deterministic = certified_is_deterministic fork refl (certified 3 fork refl)
