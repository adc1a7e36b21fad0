use Rattle.checking.proofs.CheckLemmas.{first_formed, migrate_output}
use Rattle.checking.proofs.layouts.migrate.Goals as goal

pub laid_out-requires : goal.laid_out-requires
laid_out-requires c = first_formed c.args.text.now c.in_ok-read.read c.in_ok-read.ensures

pub returns : goal.returns
returns c = migrate_output c.args.text.now c.in_ok-read.read c.laid_out.result c.in_ok-read.ensures c.laid_out.ensures
