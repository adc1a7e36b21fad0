use Rattle.std.proofs.Common.{◌≡◌, Some, arith}
use Rattle.rsml_meaning.specs.Words.{place_in}
use Rattle.rsml_meaning.specs.Instances.{events}
use Rattle.interfaces.specs.Kept.{AreFields}
use Rattle.interfaces.proofs.KeptLemmas.{kept_within, kept_by}
use Rattle.interfaces.proofs.TurnLemmas.{some_more}
use Rattle.interfaces.proofs.interfaces.Interfaces.raised.Goals as goal

pub index-requires : goal.index-requires
index-requires c =
    let ok = c.self.inside.table.receives.ok in
    let k = kept_within c.self.inside.spec.now _ c.self.inside.table.fields.items c.self.inside.table.receives.items _ c.self.view_is c.self.invariant.are_kept c.requires in
    omega (arith, ok, k)

pub returns : goal.returns
returns c =
    some_more (λ x. AreFields c.args.self.now c.self.inside.table.fields.items c.index.result.now x) (λ x. place_in (events c.args.self.now) x.raised ≡ Some c.index.result.now.raised) _ (λ x h. h.raised)
    (kept_by c.self.inside.spec.now _ _ _ _ _ c.self.view_is c.self.invariant.are_kept c.requires c.index.ensures)
