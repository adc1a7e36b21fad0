-- Places of paths.
use Rattle.std.proofs.Common.{◌≡◌, ℕ, ◌<◌, length, Option, Some, None, slice_get, refl}
use Rattle.std.specs.Option.{option_map}
use Rattle.rsml_syntax.specs.declared.syntax.Spec.{Spec}
use Rattle.rsml_meaning.specs.Words.{Path}
use Rattle.rsml_meaning.specs.Instances.{State, states}
use Rattle.state_arrays.specs.Places.{path_at}
use Rattle.phrase_builder.proofs.Lists.{get_below}

-- a number with a path is that of a state
pub path_below : (s : Spec) (k : ℕ) (p : Path) → path_at (states s) k ≡ Some p → k < length (states s)
path_below s k p h = by (slice_get (states s) k) refl h
  where
    by : (o : Option State) → slice_get (states s) k ≡ o → option_map (λ x. x.path) o ≡ Some p → k < length (states s)
    by None e h = absurd (let no : ⊥ = cc in no)
    by (Some x) e h = get_below (states s) k x e
