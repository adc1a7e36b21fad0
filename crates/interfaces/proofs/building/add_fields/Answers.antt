use Rattle.rsml_meaning.specs.Truth.{within, instance}
use Rattle.rsml_ground.specs.Scoped.{InputIsScoped}
use Rattle.interfaces.proofs.TurnLemmas.{each_at}
use Rattle.interfaces.proofs.building.add_fields.Goals as goal

pub field-requires : goal.field-requires
field-requires c =
    each_at (InputIsScoped c.args.names.now) (instance c.args.globals.now (within c.args.this)) _ _ _ c.requires c.loop-input-test.true c.input-item.is
