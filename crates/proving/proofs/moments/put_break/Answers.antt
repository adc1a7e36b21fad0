use Rattle.std.proofs.Common.{ℕ, List, flat_map, ap}
use Rattle.rsml_syntax.specs.declared.syntax.Spec.{Spec}
use Rattle.text_writer.proofs.WritingLemmas.{followed, alike}
use Rattle.proving.specs.Numbers.{round_text, take_text}
use Rattle.proving.proofs.moments.put_break.Goals as goal

pub returns : goal.returns
returns g c =
    let s = c.args.machine.now.base.spec in
    let b = c.args.least.now in
    followed (alike (ap (λ (t : Spec). round_text t b.round b.start) c.requires.texts) c.put_round.ensures)
    (followed c.put_events.ensures
    (followed c.put_world.ensures (alike (ap (λ (ks : List ℕ). flat_map (take_text s) ks) c.as_slice.ensures.value) c.put_takes.ensures)))
