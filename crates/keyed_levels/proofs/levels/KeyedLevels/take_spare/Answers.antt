use Rattle.std.proofs.Common.{List, length, sym, subst}
use Rattle.rsml_meaning.specs.Cells.{cells}
use Rattle.rsml_ground.specs.declared.phrases.GroundPhrase.{GroundPhrase}
use Rattle.keyed_levels.specs.declared.keyed.Keyed.{Keyed}
use Rattle.keyed_levels.specs.Keyed.{Beside, Extends, KeyedWorlds, PhraseFits, StandsFor}
use Rattle.keyed_levels.specs.Stored.{AreStored, IsNextKey, with_parts}
use Rattle.keyed_levels.proofs.Bounds.{bound_extends, bound_stands, bound_stored, phrase_extends, phrase_stored, with_phrase}
use Rattle.keyed_levels.proofs.levels.KeyedLevels.take_spare.Goals as goal

pub invariant_of-self-in_err-push-in-Some-2 : goal.invariant_of-self-in_err-push-in-Some-2
invariant_of-self-in_err-push-in-Some-2 c =
    let base = c.self.inside.macros.now in
    let beside : Beside = record { phrases = c.self.inside.beside.items; first_phrases = c.self.inside.first_phrases; first_keys = c.self.inside.first_keys } in
    let levels = c.self.inside.layout in
    let keyed = c.self.inside.keyed.items in
    let places = c.self.inside.places.items in
    let fits = subst (λ (k : KeyedWorlds). PhraseFits (length (cells k.base.spec)) c.args.bound) (sym c.self.view_is) c.requires in
    subst (λ (ps : List GroundPhrase). AreStored base (record { phrases = ps; first_phrases = c.self.inside.first_phrases; first_keys = c.self.inside.first_keys }) levels c.push-in-Some.new.self.items places) (sym c.in_ok-push-in-Some.ensures.items)
    (subst (λ (ks : List Keyed). AreStored base (with_phrase beside c.args.bound) levels ks places) (sym c.in_err-push-in-Some-2.ensures.items) (phrase_stored base beside levels keyed places c.args.bound c.self.invariant fits))

pub returns-in_err-push-in-Some-2-clause-extends : goal.returns-in_err-push-in-Some-2-clause-extends
returns-in_err-push-in-Some-2-clause-extends c =
    let base = c.self.inside.macros.now in
    let beside : Beside = record { phrases = c.self.inside.beside.items; first_phrases = c.self.inside.first_phrases; first_keys = c.self.inside.first_keys } in
    let levels = c.self.inside.layout in
    let keyed = c.self.inside.keyed.items in
    let places = c.self.inside.places.items in
    subst (λ (k : KeyedWorlds). Extends k (with_parts base (record { phrases = c.push.new.self.items; first_phrases = c.self.inside.first_phrases; first_keys = c.self.inside.first_keys }) levels c.push-in-Some.new.self.items)) c.self.view_is
    (subst (λ (ps : List GroundPhrase). Extends (with_parts base beside levels keyed) (with_parts base (record { phrases = ps; first_phrases = c.self.inside.first_phrases; first_keys = c.self.inside.first_keys }) levels c.push-in-Some.new.self.items)) (sym c.in_ok-push-in-Some.ensures.items)
    (subst (λ (ks : List Keyed). Extends (with_parts base beside levels keyed) (with_parts base (with_phrase beside c.args.bound) levels ks)) (sym c.in_err-push-in-Some-2.ensures.items) (phrase_extends base beside levels keyed places c.args.bound c.self.invariant)))

pub invariant_of-self-in-Some : goal.invariant_of-self-in-Some
invariant_of-self-in-Some c =
    let base = c.self.inside.macros.now in
    let beside : Beside = record { phrases = c.self.inside.beside.items; first_phrases = c.self.inside.first_phrases; first_keys = c.self.inside.first_keys } in
    let levels = c.self.inside.layout in
    let keyed = c.self.inside.keyed.items in
    let places = c.self.inside.places.items in
    let fits = subst (λ (k : KeyedWorlds). PhraseFits (length (cells k.base.spec)) c.args.bound) (sym c.self.view_is) c.requires in
    let next = subst (λ (k : KeyedWorlds). IsNextKey k c.in-Some.key) (sym c.self.view_is) c.in-Some.ensures in
    subst (λ (ps : List GroundPhrase). AreStored base (record { phrases = ps; first_phrases = c.self.inside.first_phrases; first_keys = c.self.inside.first_keys }) levels c.push-in-Some.new.self.items places) (sym c.in_ok-push-in-Some.ensures.items)
    (subst (λ (ks : List Keyed). AreStored base (with_phrase beside c.args.bound) levels ks places) (sym c.in_ok-push-in-Some-2.ensures.items) (bound_stored base beside levels keyed places c.in-Some.key c.args.bound c.self.invariant fits next))

pub returns-in_ok-push-in-Some-2-clause-extends : goal.returns-in_ok-push-in-Some-2-clause-extends
returns-in_ok-push-in-Some-2-clause-extends c =
    let base = c.self.inside.macros.now in
    let beside : Beside = record { phrases = c.self.inside.beside.items; first_phrases = c.self.inside.first_phrases; first_keys = c.self.inside.first_keys } in
    let levels = c.self.inside.layout in
    let keyed = c.self.inside.keyed.items in
    let places = c.self.inside.places.items in
    subst (λ (k : KeyedWorlds). Extends k (with_parts base (record { phrases = c.push.new.self.items; first_phrases = c.self.inside.first_phrases; first_keys = c.self.inside.first_keys }) levels c.push-in-Some.new.self.items)) c.self.view_is
    (subst (λ (ps : List GroundPhrase). Extends (with_parts base beside levels keyed) (with_parts base (record { phrases = ps; first_phrases = c.self.inside.first_phrases; first_keys = c.self.inside.first_keys }) levels c.push-in-Some.new.self.items)) (sym c.in_ok-push-in-Some.ensures.items)
    (subst (λ (ks : List Keyed). Extends (with_parts base beside levels keyed) (with_parts base (with_phrase beside c.args.bound) levels ks)) (sym c.in_ok-push-in-Some-2.ensures.items) (bound_extends base beside levels keyed places c.in-Some.key c.args.bound c.self.invariant)))

pub returns-in_ok-push-in-Some-2-clause-level : goal.returns-in_ok-push-in-Some-2-clause-level
returns-in_ok-push-in-Some-2-clause-level c =
    let base = c.self.inside.macros.now in
    let beside : Beside = record { phrases = c.self.inside.beside.items; first_phrases = c.self.inside.first_phrases; first_keys = c.self.inside.first_keys } in
    let levels = c.self.inside.layout in
    let keyed = c.self.inside.keyed.items in
    let next = subst (λ (k : KeyedWorlds). IsNextKey k c.in-Some.key) (sym c.self.view_is) c.in-Some.ensures in
    subst (λ (ps : List GroundPhrase). StandsFor (with_parts base (record { phrases = ps; first_phrases = c.self.inside.first_phrases; first_keys = c.self.inside.first_keys }) levels c.push-in-Some.new.self.items) c.args.bound c.in-Some.key.level) (sym c.in_ok-push-in-Some.ensures.items)
    (subst (λ (ks : List Keyed). StandsFor (with_parts base (with_phrase beside c.args.bound) levels ks) c.args.bound c.in-Some.key.level) (sym c.in_ok-push-in-Some-2.ensures.items) (bound_stands base beside levels keyed c.in-Some.key c.args.bound next))
