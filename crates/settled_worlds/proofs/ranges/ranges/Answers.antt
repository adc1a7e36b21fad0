use Rattle.std.proofs.Common.{◌≡◌, ◌++◌, [], ◌∷◌, length, sym, ap, subst, arith}
use Rattle.std.proofs.lemmas.List.{length-append}
use Rattle.settled_worlds.specs.Conflicts.{HoldWorlds, IsRangeOf}
use Rattle.settled_worlds.proofs.RangeLemmas.{hold_more}
use Rattle.settled_worlds.proofs.ranges.ranges.Goals as goal

pub loop-cell-preserved : goal.loop-cell-preserved
loop-cell-preserved c =
    let k = c.args.levels.now in
    let before = c.loop-cell.ranges.items in
    let more : c.push.new.self.items ≡ before ++ c.range.result ∷ [] = c.in_ok-push.ensures.items in
    record {
      many = omega (arith, ap length more, length-append before (c.range.result ∷ []), c.loop-cell.invariant.many);
      hold = subst (HoldWorlds k) (sym more) (hold_more k before c.range.result c.loop-cell.invariant.hold
          (subst (λ n. IsRangeOf k n c.range.result) (sym c.loop-cell.invariant.many) c.range.ensures));
    }
