use Rattle.rsml_rules.proofs.SpecLemmas.{all_noted}
use Rattle.rsml_rules.proofs.breaches.lowest.spec_judged.Goals as goal

pub returns : goal.returns
returns c =
    all_noted c.args.spec.now c.args.setting.now.tables c.as_slice.result.now c.top_judged.result c.args.worst.now c.each_declaration.new.worst c.top_judged.new.worst
    c.requires c.as_slice.ensures c.in_ok-each_declaration.ensures c.top_judged.ensures
