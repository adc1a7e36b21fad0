use Rattle.std.proofs.Common.{◌<◌, ℕ, List, length, get_or, flat_map, ap, arith}
use Rattle.std.proofs.lemmas.List.{get_or_default, take_all}
use Rattle.rsml_meaning.specs.Words.{numbered_from}
use Rattle.text_writer.proofs.WritingLemmas.{one_more, alike}
use Rattle.reactions.proofs.ItemTexts.{numbered_long, numbered_at}
use Rattle.coverage.specs.Text.{column_line}
use Rattle.coverage.proofs.texts.put_columns.Goals as goal

pub loop-place-preserved : goal.loop-place-preserved
loop-place-preserved g c =
    let ns = c.args.counts.now in
    let i = c.loop-place.place in
    let long = numbered_long 0 ns in
    let n = get_or ns i 0 in
    let test = c.loop-place-test.true in
    let within : i < length (numbered_from 0 ns) = omega (arith, long, test) in
    one_more column_line (numbered_from 0 ns) i (i, n) within (numbered_at i ns n test (get_or_default ns i 0 n test)) c.loop-place.invariant c.put_column.ensures

pub returns : goal.returns
returns g c =
    let ns = c.args.counts.now in
    let long = numbered_long 0 ns in
    let test = c.loop-place-test.false in
    alike (ap (λ (xs : List (ℕ × ℕ)). flat_map column_line xs) (take_all c.loop-place.place (numbered_from 0 ns) (omega (arith, long, test)))) c.loop-place.invariant
