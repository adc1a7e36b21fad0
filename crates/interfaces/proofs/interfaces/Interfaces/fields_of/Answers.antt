use Rattle.std.proofs.Common.{◌+◌, ◌≤◌, length, map, take, drop, sym, ap, ◌∙◌, subst, arith}
use Rattle.interfaces.specs.Kept.{AreFields, FieldsAre, written}
use Rattle.interfaces.proofs.KeptLemmas.{kept_within, kept_by}
use Rattle.interfaces.proofs.TurnLemmas.{some_more, from_some}
use Rattle.interfaces.proofs.interfaces.Interfaces.fields_of.Goals as goal

pub index-kept-requires : goal.index-kept-requires
index-kept-requires c =
    let ok = c.self.inside.table.receives.ok in
    let k = kept_within c.self.inside.spec.now _ c.self.inside.table.fields.items c.self.inside.table.receives.items _ c.self.view_is c.self.invariant.are_kept c.requires in
    omega (arith, ok, k)

pub part-requires : goal.part-requires
part-requires c =
    subst (λ fs. c.index-kept.result.now.first + c.index-kept.result.now.count ≤ length fs) (sym c.as_slice.ensures.value)
    (from_some (λ x. AreFields c.args.self.now c.self.inside.table.fields.items c.index-kept.result.now x) _ _ c.requires (λ x e h. h.within)
    (kept_by c.self.inside.spec.now _ _ _ _ _ c.self.view_is c.self.invariant.are_kept c.requires c.index-kept.ensures))

pub returns : goal.returns
returns c =
    some_more (λ x. AreFields c.args.self.now c.self.inside.table.fields.items c.index-kept.result.now x) (λ x. FieldsAre c.args.self.now x.inputs c.part.result.now) _
    (λ x h. ap (map written) (c.part.ensures ∙ ap (λ fs. take c.index-kept.result.now.count (drop c.index-kept.result.now.first fs)) c.as_slice.ensures.value) ∙ h.are)
    (kept_by c.self.inside.spec.now _ _ _ _ _ c.self.view_is c.self.invariant.are_kept c.requires c.index-kept.ensures)
