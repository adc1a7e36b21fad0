use Rattle.std.proofs.Common.{◌<◌, ◌≤◌, ℕ, ℤ, pos, List, length, get_or, flat_map, ap, arith, rules, w64, FitsSigned}
use Rattle.std.proofs.lemmas.Int.{to_z-of_z}
use Rattle.std.proofs.lemmas.List.{get_or_default, take_all}
use Rattle.rsml_meaning.specs.Words.{numbered_from}
use Rattle.text_writer.proofs.WritingLemmas.{alike, one_more}
use Rattle.reactions.specs.Lines.{field_at}
use Rattle.reactions.proofs.ItemTexts.{numbered_long, numbered_at}
use Rattle.reactions.proofs.fields.put_fields.Goals as goal

pub loop-place-preserved : goal.loop-place-preserved
loop-place-preserved g c =
    let ns = c.args.numbers.now in
    let i = c.loop-place.place in
    let n = get_or ns i (pos 0) in
    let small : FitsSigned w64 n = search rules in
    let long = numbered_long 0 ns in
    let within : i < length (numbered_from 0 ns) = omega (arith, long, c.loop-place-test.true) in
    one_more (field_at c.args.sent.now c.args.case) (numbered_from 0 ns) i (i, n) within (numbered_at i ns n c.loop-place-test.true (get_or_default ns i (pos 0) n c.loop-place-test.true)) c.loop-place.invariant
    (alike (ap (λ (m : ℤ). field_at c.args.sent.now c.args.case (i, m)) (to_z-of_z w64 n small)) c.put_field.ensures)

pub returns : goal.returns
returns g c =
    let ns = c.args.numbers.now in
    let long = numbered_long 0 ns in
    let past : length (numbered_from 0 ns) ≤ c.loop-place.place = omega (arith, long, c.loop-place-test.false) in
    alike (ap (λ (xs : List (ℕ × ℤ)). flat_map (field_at c.args.sent.now c.args.case) xs) (take_all c.loop-place.place (numbered_from 0 ns) past)) c.loop-place.invariant
