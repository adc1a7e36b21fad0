use Rattle.std.proofs.Common.{subst, sym}
use Rattle.std.specs.Option.{option_copied}
use Rattle.rsml_syntax.specs.rules.Globals.{indices}
use Rattle.rsml_meaning.specs.Words.{Each}
use Rattle.rsml_meaning.specs.Interfaces.{receives_of}
use Rattle.rsml_ground.specs.Scoped.{ReceiveIsScoped}
use Rattle.interfaces.specs.Kept.{IsThere}
use Rattle.interfaces.proofs.KeptLemmas.{there_of}
use Rattle.interfaces.proofs.table.Table.add_declared.Goals as goal

pub add_sized-requires-clause-there : goal.add_sized-requires-clause-there
add_sized-requires-clause-there c =
    subst (λ ms. Each (IsThere c.args.names.now c.args.globals.now ms c.in-Receive.raised) (indices c.args.globals.now (option_copied c.as_ref.result))) (sym c.as_slice.ensures)
    (subst (λ o. Each (IsThere c.args.names.now c.args.globals.now c.in-Receive.inputs c.in-Receive.raised) (indices c.args.globals.now o)) (sym c.as_ref.ensures.value)
    (there_of c.args.names.now c.args.globals.now c.in-Receive.name c.in-Receive.inputs c.in-Receive.raised (indices c.args.globals.now c.in-Receive.size)
    (subst (λ d. Each (ReceiveIsScoped c.args.names.now) (receives_of c.args.globals.now d)) c.in-Receive.is c.requires.scoped)))
