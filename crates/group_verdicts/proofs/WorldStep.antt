-- The least world: its choices, and then its cells.
use Rattle.std.proofs.Common.{◌≡◌, ℕ, Bool, false, List, ℤ, sym, ◌∙◌, slice_get, Some}
use Rattle.std.specs.Cmp.Lexicographic.{slice_cmp}
use Rattle.std.specs.Ordering.{nat_cmp, int_cmp}
use Rattle.rsml_syntax.specs.declared.world.World.{World}
use Rattle.rsml_meaning.specs.Worlds.{IsWorld}
use Rattle.guard_encode.specs.declared.reading.ReadParts.{ReadParts}
use Rattle.guard_encode.specs.Encoding.{Encoding, Keeps, Tells}
use Rattle.guard_encode.specs.Reading.{IgnoresCell, IgnoresChoice}
use Rattle.guard_encode.proofs.FindLemmas.{found_told}
use Rattle.group_verdicts.specs.Least.{IsLeastWorld}
use Rattle.group_verdicts.specs.Narrowing.{IsLow, low_of}
use Rattle.group_verdicts.specs.Finding.{IsOfSome, NarrowedLow, IsLeastPart}
use Rattle.group_verdicts.proofs.Keeping.{on_new}
use Rattle.group_verdicts.proofs.Low.{is_low, of_read_parts}
use Rattle.group_verdicts.proofs.Narrowed.{world_fixed, least_found}

-- a is the encoder before the choices, b the one after them, and c the one after the cells
pub world_found : (a b c : Encoding) (read : ReadParts) (choices : List ℕ) (cells : List ℤ) (f rest : ℕ) → Keeps b c
    → ((k : ℕ) → slice_get read.choices k ≡ Some false → IgnoresChoice a k f)
    → ((k : ℕ) → slice_get read.cells k ≡ Some false → IgnoresCell a k f)
    → NarrowedLow a b read (slice_cmp nat_cmp) (λ w. w.choices) choices f rest
    → IsLeastPart b read (slice_cmp int_cmp) (λ w. w.cells) cells rest
    → Keeps a b → (truth : World → Bool) → Tells a truth f → IsOfSome a truth
    → IsLeastWorld c.machine.base.spec truth (record { choices = choices; cells = cells })
world_found a b c read choices cells f rest bc no_choice no_cell one other ab truth told some =
    let s = a.machine.base.spec in
    let of_read = of_read_parts s read truth (λ k not. no_choice k not truth told) (λ k not v w is is2 choices cells. no_cell k not truth told v w is is2 (record { choices = choices; cells = cells })) in
    let t = one truth (found_told a truth f told) of_read (λ none. some (λ w is. sym (of_read w is) ∙ none (low_of s read w) (is_low s read w is))) in
    let u = other t.next t.found t.of_read t.narrows.some in
    on_new (λ s. IsLeastWorld s truth (record { choices = choices; cells = cells })) b c bc
    (least_found b.machine.base.spec read (record { choices = choices; cells = cells }) truth u.0
    (on_new (λ s. (w : World) → IsWorld s w → truth (low_of s read w) ≡ truth w) a b ab of_read)
    (world_fixed (IsLow b.machine.base.spec read) choices cells truth t.next u.0 t.narrows u.1))
