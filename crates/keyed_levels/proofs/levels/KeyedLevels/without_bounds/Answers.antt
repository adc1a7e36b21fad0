use Rattle.std.proofs.Common.{take, List, sym, subst}
use Rattle.rsml_ground.specs.declared.phrases.GroundPhrase.{GroundPhrase}
use Rattle.keyed_levels.specs.declared.keyed.Keyed.{Keyed}
use Rattle.keyed_levels.specs.Stored.{AreStored}
use Rattle.keyed_levels.proofs.Bounds.{without_stored}
use Rattle.keyed_levels.proofs.levels.KeyedLevels.without_bounds.Goals as goal

pub invariant_of-self : goal.invariant_of-self
invariant_of-self c =
    let base = c.self.inside.macros.now in
    let levels = c.self.inside.layout in
    let places = c.self.inside.places.items in
    subst (λ (ps : List GroundPhrase). AreStored base (record { phrases = ps; first_phrases = c.self.inside.first_phrases; first_keys = c.self.inside.first_keys }) levels c.truncate-2.new.self.items places)
    (sym c.truncate.ensures.items)
    (subst (λ (ks : List Keyed). AreStored base (record {
      phrases = take c.self.inside.first_phrases c.self.inside.beside.items;
      first_phrases = c.self.inside.first_phrases;
      first_keys = c.self.inside.first_keys;
    }) levels ks places) (sym c.truncate-2.ensures.items)
    (without_stored base _ levels c.self.inside.keyed.items places c.self.invariant))
