-- One round more in a tally.
use Rattle.std.proofs.Common.{◌≡◌, ℕ, ◌+◌, List, map, length, get_or, EachIndex, slice_index, slice_index_or, sym, ap, ◌∙◌}
use Rattle.std.specs.Prelude.{if◌then◌else◌}
use Rattle.rsml_syntax.specs.declared.syntax.Cell.{Cell}
use Rattle.rsml_syntax.specs.rules.Tables.{column, below}
use Rattle.and_or_tables.specs.Asked.{asked}
use Rattle.and_or_tables.proofs.Spelling.{items-places, map-places}
use Rattle.coverage.specs.Coverage.{Covered}
use Rattle.coverage.specs.Counters.{one_more}

-- a tally of its parts
abbrev pub made : ℕ → List ℕ → Covered
made count columns = record { count = count; columns = columns }

-- 1 where the column is true
abbrev shown : ℕ → List (List Cell) → ℕ → ℕ
shown bits cells place = if column (asked bits cells) place then 1 else 0

pub counted : (bits n : ℕ) (kept cells : List (List Cell)) (old seen new : List ℕ) → kept ≡ cells → seen ≡ old → length new ≡ length seen
    → EachIndex new (λ place. slice_index new place ≡ slice_index seen place + (if column (asked bits cells) place then 1 else 0))
    → made (n + 1) new ≡ one_more bits kept (made n old)
counted bits n kept cells old seen new k e long each =
    let here : new ≡ map (λ place. slice_index_or seen place 0 + shown bits cells place) (below (length seen)) =
    sym (items-places new 0)
    ∙ map-places (λ place. get_or new place 0) (λ place. slice_index_or seen place 0 + shown bits cells place) (length new) (λ place l. each place l)
    ∙ ap (λ m. map (λ place. slice_index_or seen place 0 + shown bits cells place) (below m)) long in
    ap (made (n + 1)) here
    ∙ ap (λ (xs : List ℕ). made (n + 1) (map (λ place. slice_index_or xs place 0 + shown bits cells place) (below (length xs)))) e
    ∙ ap (λ (cs : List (List Cell)). made (n + 1) (map (λ place. slice_index_or old place 0 + shown bits cs place) (below (length old)))) (sym k)
