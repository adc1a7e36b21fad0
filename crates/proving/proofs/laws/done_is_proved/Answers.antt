use Rattle.std.proofs.Common.{refl}
use Rattle.answering.specs.declared.status.Status.TheVariants as status
use Rattle.proving.proofs.OneProve.{done_read}
use Rattle.proving.proofs.laws.done_is_proved.Goals as goal

pub returns : goal.returns
returns c = λ s claims bytes h. done_read s claims status.Done bytes refl h
