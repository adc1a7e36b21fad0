use Rattle.rsml_rules.proofs.DeclarationLemmas.{names_turn, judged_turn}
use Rattle.rsml_rules.proofs.breaches.lowest.each_declaration.Goals as goal

pub loop-decl-preserved : goal.loop-decl-preserved
loop-decl-preserved c =
    let l = c.loop-decl in
    let d = c.decl-item.result in
    let values = c.values_of.result.now in (
      names_turn c.args.decls.now l.decl-index d l.place _ values c.loop-decl-test.true c.decl-item.is c.values_of.ensures l.invariant.0,
      judged_turn c.args.setting.now.tables l.worst c.declaration.new.worst _ l.place values c.args.decls.now l.decl-index d c.loop-decl-test.true c.decl-item.is c.values_of.ensures c.in_ok-declaration.ensures l.invariant.1,
    )
