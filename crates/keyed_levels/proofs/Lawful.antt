-- Lawful values, and what functions tell at them.
use Rattle.std.proofs.Common.{◌≡◌, ℕ, zero, suc, ◌<◌, ◌==◌, Bool, true, false, List, [], ◌∷◌, length, if◌then◌else◌, refl, sym, ap, ◌∙◌, slice_get, arith}
use Rattle.std.proofs.lemmas.Bool.Decides.{nat_tests}
use Rattle.rsml_syntax.specs.declared.world.World.{World}
use Rattle.rsml_meaning.specs.Worlds.{IsWorld}
use Rattle.rsml_ground.specs.declared.phrases.GroundPhrase.{GroundPhrase}
use Rattle.bdd_core.specs.Diagram.{meaning}
use Rattle.world_levels.specs.Spelling.{spelled_world}
use Rattle.world_levels.specs.Laws.{AllSpellAWorld, EachWorldIsSpelled, FreeLevelsStay, FreeLevelsSpellNothing}
use Rattle.keyed_levels.specs.declared.keyed.Keyed.{Keyed}
use Rattle.keyed_levels.specs.Keyed.{Lawful, key_at, comparison, phrases_of, world_at}
use Rattle.keyed_levels.specs.Laws.{LawfulValuesSpellWorlds, EachWorldIsSpelledLawfully, TheyAreKeys, TellsOn, FalseInAllWorlds}

-- no comparison depends on the level of one
pub are_keys : FreeLevelsSpellNothing → TheyAreKeys
are_keys nothing k are = record {
  differ = are.differ;
  free = λ i j hi hj values value. ap (λ w. comparison w (slice_get (phrases_of k) (key_at k.keyed i).phrase))
      (nothing k.base.spec k.slots values (key_at k.keyed j).level value (are.free j hj));
}

-- the truth of the comparison for which a level stands
truth_of : List GroundPhrase → World → List Keyed → ℕ → Bool
truth_of phrases w [] level = false
truth_of phrases w (x ∷ xs) level = if level == x.level then comparison w (slice_get phrases x.phrase) else truth_of phrases w xs level

abbrev Differ : List Keyed → Type 0
Differ xs = (i j : ℕ) → i < length xs → j < length xs → (key_at xs i).level ≡ (key_at xs j).level → i ≡ j

rest_differ : (x : Keyed) (xs : List Keyed) → Differ (x ∷ xs) → Differ xs
rest_differ x xs h i j hi hj same = let e : suc i ≡ suc j = h (suc i) (suc j) (omega (arith, hi)) (omega (arith, hj)) same in omega (arith, e)

truth_at : (phrases : List GroundPhrase) (w : World) (xs : List Keyed) → Differ xs → (i : ℕ) → i < length xs
    → truth_of phrases w xs (key_at xs i).level ≡ comparison w (slice_get phrases (key_at xs i).phrase)
unfolding truth_of
truth_at phrases w [] h i less = absurd (omega (arith, less))
truth_at phrases w (x ∷ xs) h zero less =
    let same : (x.level == x.level) ≡ true = grind (arith, nat_tests) in
    ap (λ b. if b then comparison w (slice_get phrases x.phrase) else truth_of phrases w xs x.level) same
truth_at phrases w (x ∷ xs) h (suc i) less = by ((key_at xs i).level == x.level) refl (truth_at phrases w xs (rest_differ x xs h) i (omega (arith, less)))
  where
    by : (b : Bool) → ((key_at xs i).level == x.level) ≡ b → truth_of phrases w xs (key_at xs i).level ≡ comparison w (slice_get phrases (key_at xs i).phrase)
        → truth_of phrases w (x ∷ xs) (key_at xs i).level ≡ comparison w (slice_get phrases (key_at xs i).phrase)
    by true e rest =
        let same : (key_at xs i).level ≡ x.level = grind (arith, nat_tests, e) in
        let not_so : suc i ≡ 0 = h (suc i) 0 less (omega (arith, less)) same in
        absurd (omega (arith, not_so))
    by false e rest = ap (λ b. if b then comparison w (slice_get phrases x.phrase) else truth_of phrases w xs (key_at xs i).level) e ∙ rest

-- each world is spelled by lawful values
pub spelled_lawfully : EachWorldIsSpelled → FreeLevelsStay → EachWorldIsSpelledLawfully
spelled_lawfully each stay k are w is =
    let free : ℕ → Bool = truth_of (phrases_of k) w k.keyed in
    let values : ℕ → Bool = spelled_world k.base.spec k.slots w free in
    let spells : world_at k values ≡ w = each k.base.spec k.slots are.layout w is free in
    record {
      values = values;
      lawful = λ i less. stay k.base.spec k.slots w free (key_at k.keyed i).level (are.free i less)
          ∙ truth_at (phrases_of k) w k.keyed are.differ i less
          ∙ ap (λ v. comparison v (slice_get (phrases_of k) (key_at k.keyed i).phrase)) (sym spells);
      spells = spells;
    }

pub spell_worlds : AllSpellAWorld → LawfulValuesSpellWorlds
spell_worlds all k are values = all k.base.spec k.slots are.layout values

pub tells_on : TellsOn
tells_on old new k truth r keeps tells = record {
  is_ref = omega (arith, keeps.longer, tells.is_ref);
  means = λ values lawful. keeps.meanings_stay r values tells.is_ref ∙ tells.means values lawful;
}

pub false_in_all : AllSpellAWorld → EachWorldIsSpelled → FreeLevelsStay → FalseInAllWorlds
false_in_all all each stay d k truth r are tells = (to, from)
  where
    to : ((values : ℕ → Bool) → Lawful k values → meaning d r values ≡ false) → (w : World) → IsWorld k.base.spec w → truth w ≡ false
    to never w is =
        let s = spelled_lawfully each stay k are w is in
        ap truth (sym s.spells) ∙ sym (tells.means s.values s.lawful) ∙ never s.values s.lawful

    from : ((w : World) → IsWorld k.base.spec w → truth w ≡ false) → (values : ℕ → Bool) → Lawful k values → meaning d r values ≡ false
    from never values lawful = tells.means values lawful ∙ never (world_at k values) (spell_worlds all k are values)
