-- Functions that are the same at lawful values.
use Rattle.std.proofs.Common.{◌≡◌, ℕ, ◌<◌, Bool, length, refl, sym, ap, ◌∙◌}
use Rattle.bdd_core.specs.Diagram.{Diagram, IsRef, meaning}
use Rattle.bdd_core.specs.Calls.{Keeps, Represents, with_value}
use Rattle.bdd_core.proofs.StepLemmas.{keeps_trans}
use Rattle.free_levels.proofs.ValueLemmas.{with_value-own}
use Rattle.keyed_levels.specs.Keyed.{KeyedWorlds, key_at, keys_of}
use Rattle.settled_worlds.specs.Settled.{IsSameLawfully}

-- a function is what it is
pub same_still : (d : Diagram) (k : KeyedWorlds) (f : ℕ) → IsRef d f → IsSameLawfully d d k f f
same_still d k f is = record { is_ref = is; same = λ v lawful. refl }

-- one after another
pub same_both : (a b c : Diagram) (k : KeyedWorlds) (f g r : ℕ) → IsSameLawfully a b k f g → IsSameLawfully b c k g r → IsSameLawfully a c k f r
same_both a b c k f g r one other = record {
  is_ref = other.is_ref;
  same = λ v lawful. other.same v lawful ∙ one.same v lawful;
}

-- the comparison of a key in place of its level, which has its truth at lawful values
pub same_composed : (a b c : Diagram) (k : KeyedWorlds) (place level made f r : ℕ) → Keeps a b → Keeps b c → IsRef a f → place < length k.keyed
    → level ≡ (key_at k.keyed place).level → Represents b ((keys_of k).function place) made
    → Represents c (λ v. meaning b f (with_value v level (meaning b made v))) r → IsSameLawfully a c k f r
same_composed a b c k place level made f r ab bc is less own exact composed = record {
  is_ref = composed.is_ref;
  same = λ v lawful.
      composed.means v
      ∙ ap (meaning b f) (with_value-own v level (meaning b made v) (ap v own ∙ lawful place less ∙ sym (exact.means v)))
      ∙ ab.meanings_stay f v is;
}
