use Rattle.rsml_syntax.specs.declared.syntax.Decl.{Decl}
use Rattle.rsml_meaning.specs.Words.{Instance}
use Rattle.rsml_meaning.specs.Instances.{events_of}
use Rattle.elaborate.proofs.Counting.{one_more}
use Rattle.elaborate.proofs.count.counted.Goals as goal

pub loop-decl-preserved : goal.loop-decl-preserved
loop-decl-preserved c =
    one_more Decl Instance (events_of c.args.globals.now) c.args.decls.now c.loop-decl.decl-index c.loop-decl.count c.declared.result c.in-Some.more c.decl-item.result
    c.loop-decl-test.true c.decl-item.is c.loop-decl.invariant c.declared.ensures c.in-Some.ensures
