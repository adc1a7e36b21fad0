use Rattle.std.proofs.Common.{sym, arith}
use Rattle.std.proofs.lemmas.List.{length-map}
use Rattle.rsml_meaning.specs.Truth.{within, instance}
use Rattle.interfaces.proofs.KeptLemmas.{kept_pushed}
use Rattle.interfaces.proofs.table.Table.add.Goals as goal

pub returns : goal.returns
returns c =
    let e = c.len-first.ensures in
    let ok = c.args.self.now.fields.ok in
    λ xs name h. kept_pushed c.args.names.now _ _ _ _ _ xs _ h c.in_ok-add_fields.ensures (omega (arith, e, ok)) (sym (length-map c.args.inputs.now (instance c.args.globals.now (within c.args.this)))) c.event-raised.ensures c.in_ok-push.ensures.items
