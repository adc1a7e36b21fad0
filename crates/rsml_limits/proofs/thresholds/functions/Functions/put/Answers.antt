use Rattle.std.proofs.Common.{rules}
use Rattle.rsml_limits.proofs.FunctionLemmas.{put_is}
use Rattle.rsml_limits.proofs.thresholds.functions.Functions.put.Goals as goal

pub returns : goal.returns
returns c =
    put_is c.self.inside.rights.entries _ c.args.function c.args.right c.new.result c.or_insert-rights.result.now c.push.new.self _ c.args.self.now c.self.view_is
    c.new.ensures.items c.in_ok-self-inside.ensures.value c.or_insert-rights.ensures.value c.in_ok-push.ensures.items (search rules)
