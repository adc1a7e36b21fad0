use Rattle.std.proofs.Common.{◌≡◌, length, take, List, sym, ap, ◌∙◌, subst}
use Rattle.keyed_levels.specs.declared.keyed.Keyed.{Keyed}
use Rattle.keyed_levels.specs.Keyed.{AreKeyed, KeyedWorlds}
use Rattle.guard_encode.specs.Encoding.{AreEncoded, Encoding, encoding_of, without_bounds}
use Rattle.guard_encode.proofs.BoundLemmas.{without_encoded}
use Rattle.guard_encode.proofs.encoder.Encoder.without_bounds.Goals as goal

pub invariant_of-self : goal.invariant_of-self
invariant_of-self c =
    let k = c.self.inside.levels in
    let keys = c.keys.ensures.keyed ∙ ap (λ (j : KeyedWorlds). j.keyed) c.without_bounds.ensures in
    subst (λ (j : KeyedWorlds). AreEncoded c.self.inside.machine.now j c.self.inside.arena (record {
      active = c.self.inside.active.items;
      phrases = c.self.inside.phrases.items;
      exact = c.keep.new.self;
    })) (sym c.without_bounds.ensures)
    (without_encoded c.self.inside.machine.now k c.self.inside.arena _ c.keep.new.self c.self.invariant (subst AreKeyed c.without_bounds.ensures c.keys.ensures.law)
    (c.keep.ensures ∙ ap (λ (ks : List Keyed). take (length ks) c.self.inside.exact) keys))

pub returns : goal.returns
returns c =
    subst (λ (e : Encoding). encoding_of c.self.inside.machine.now c.without_bounds.new.self c.self.inside.arena ≡ without_bounds e) c.self.view_is
    (ap (λ (j : KeyedWorlds). encoding_of c.self.inside.machine.now j c.self.inside.arena) c.without_bounds.ensures)
