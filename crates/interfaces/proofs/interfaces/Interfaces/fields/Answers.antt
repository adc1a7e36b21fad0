use Rattle.std.proofs.Common.{◌≡◌, length, sym, arith}
use Rattle.interfaces.specs.Kept.{AreFields}
use Rattle.interfaces.proofs.KeptLemmas.{kept_within, kept_by}
use Rattle.interfaces.proofs.TurnLemmas.{some_more}
use Rattle.interfaces.proofs.interfaces.Interfaces.fields.Goals as goal

pub index-requires : goal.index-requires
index-requires c =
    let ok = c.self.inside.table.receives.ok in
    let k = kept_within c.self.inside.spec.now _ c.self.inside.table.fields.items c.self.inside.table.receives.items _ c.self.view_is c.self.invariant.are_kept c.requires in
    omega (arith, ok, k)

pub returns : goal.returns
returns c =
    some_more (λ x. AreFields c.args.self.now c.self.inside.table.fields.items c.index.result.now x) (λ x. length x.inputs ≡ c.index.result.now.count) _ (λ x h. sym h.count)
    (kept_by c.self.inside.spec.now _ _ _ _ _ c.self.view_is c.self.invariant.are_kept c.requires c.index.ensures)
