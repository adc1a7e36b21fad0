-- Worlds whose unread parts are taken from another world.
use Rattle.std.proofs.Common.{◌≡◌, ℕ, Bool, false, List, [], Some, refl, ◌∙◌, slice_get}
use Rattle.std.specs.Cmp.Lexicographic.{pointwise}
use Rattle.std.proofs.lemmas.Bool.{and_from}
use Rattle.rsml_syntax.specs.declared.syntax.Spec.{Spec}
use Rattle.rsml_syntax.specs.declared.world.World.{World}
use Rattle.rsml_meaning.specs.Instances.{components}
use Rattle.rsml_meaning.specs.Cells.{cells}
use Rattle.rsml_meaning.specs.Worlds.{IsWorld, is_choice}
use Rattle.guard_encode.specs.declared.reading.ReadParts.{ReadParts}
use Rattle.group_verdicts.specs.Narrowing.{lowered}
use Rattle.group_verdicts.proofs.Low.{one_by_one}
use Rattle.group_verdicts.proofs.Parts.{cells_are, choices_are, fits}
use Rattle.gap_tables.specs.Widening.{IsOfParts}
use Rattle.gap_tables.proofs.Places.{lowered_fits}

-- the parts of v that are marked, and the others of w
abbrev pub mixed : List Bool → List Bool → World → World → World
mixed choices cells w v = record { choices = lowered choices w.choices v.choices; cells = lowered cells w.cells v.cells }

pub mixed_is_world : (s : Spec) (choices numbers : List Bool) (w v : World) → IsWorld s w → IsWorld s v → IsWorld s (mixed choices numbers w v)
mixed_is_world s choices numbers w v is there =
    and_from (pointwise is_choice (components s) (lowered choices w.choices v.choices)) (pointwise fits (cells s) (lowered numbers w.cells v.cells))
    (lowered_fits is_choice choices (components s) w.choices v.choices (choices_are s w is) (choices_are s v there))
    (lowered_fits fits numbers (cells s) w.cells v.cells (cells_are s w is) (cells_are s v there))

-- a set that does not depend on them has both or none
pub unread : (s : Spec) (read : ReadParts) (set : World → Bool) (choices numbers : List Bool) (w v : World) → IsOfParts s read set
    → ((k : ℕ) → slice_get choices k ≡ Some false → slice_get read.choices k ≡ Some false)
    → ((k : ℕ) → slice_get numbers k ≡ Some false → slice_get read.cells k ≡ Some false)
    → IsWorld s w → IsWorld s v → set (mixed choices numbers w v) ≡ set v
unread s read set choices numbers w v of no_choice no_number is there =
    let taken = lowered choices w.choices v.choices in
    one_by_one (λ ns. set (record { choices = taken; cells = ns })) (λ ns. IsWorld s (record { choices = taken; cells = ns })) numbers w.cells v.cells
    (λ k not one other a b same. of.cells k (no_number k not) (record { choices = taken; cells = one }) (record { choices = taken; cells = other }) a b
    (record { choices = refl; cells = same }))
    (λ some. mixed_is_world s choices some w v is there)
    ∙ one_by_one (λ ns. set (record { choices = ns; cells = v.cells })) (λ ns. IsWorld s (record { choices = ns; cells = v.cells })) choices w.choices v.choices
    (λ k not one other a b same. of.choices k (no_choice k not) (record { choices = one; cells = v.cells }) (record { choices = other; cells = v.cells }) a b
    (record { choices = same; cells = refl }))
    (λ some. mixed_is_world s some [] w v is there)
