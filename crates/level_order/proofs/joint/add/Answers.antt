use Rattle.level_order.proofs.JointLemmas.{copy_fits}
use Rattle.level_order.proofs.joint.add.Goals as goal

pub returns-in_ok-push-in-Compare : goal.returns-in_ok-push-in-Compare
returns-in_ok-push-in-Compare c = λ definitions cells n rests fit.
    copy_fits definitions cells n c.args.phrase.now c.in-Compare.left c.in-Compare.right c.in_ok-one-in-Compare.one c.in_ok-two-in-Compare.two c.in-Compare.relation c.args.beside.now.items c.push.new.self.items c.in-Compare.is c.in_ok-one-in-Compare.ensures c.in_ok-two-in-Compare.ensures
    c.in_ok-push-in-Compare.ensures.items rests fit
