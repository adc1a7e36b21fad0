use Rattle.std.proofs.Common.{◌≡◌, ◌<◌, ℕ, ℤ, List, [], length, get_or, flat_map, sym, ap, ◌∙◌, subst}
use Rattle.std.proofs.lemmas.List.{get_or_default, take_all}
use Rattle.text_writer.proofs.WritingLemmas.{alike, one_more}
use Rattle.reactions.specs.Lines.{case_line, sent_line}
use Rattle.reactions.proofs.SendTexts.{kept_long}
use Rattle.reactions.proofs.sends.put_sends.Goals as goal

pub values-requires : goal.values-requires
values-requires g c = subst (λ (ks : List ℕ). c.loop-place.place < length ks) c.sent-cases.ensures c.loop-place-test.true

pub put_case-requires-clause-values : goal.put_case-requires-clause-values
put_case-requires-clause-values g c x at =
    let lists = c.args.scratch.now.values in
    let i = c.loop-place.place in
    let k = get_or c.sent-cases.result.now i 0 in
    let same : c.values.result.now ≡ get_or lists k [] = c.values.ensures ∙ ap (λ (ks : List ℕ). get_or lists (get_or ks i 0) []) (sym c.sent-cases.ensures) in
    ap (λ (ns : List ℤ). length ns) same ∙ kept_long c.args.machine.now lists k x c.requires.made.values at

pub loop-place-preserved : goal.loop-place-preserved
loop-place-preserved g c =
    let s = c.args.machine.now.base.spec in
    let lists = c.args.scratch.now.values in
    let ks = c.sent-cases.result.now in
    let i = c.loop-place.place in
    let k = get_or ks i 0 in
    let same : c.values.result.now ≡ get_or lists k [] = c.values.ensures ∙ ap (λ (js : List ℕ). get_or lists (get_or js i 0) []) (sym c.sent-cases.ensures) in
    one_more (sent_line s lists) ks i k c.loop-place-test.true (get_or_default ks i 0 k c.loop-place-test.true) c.loop-place.invariant
    (alike (ap (λ (ns : List ℤ). case_line s k ns) same) c.put_case.ensures)

pub returns : goal.returns
returns g c =
    let f = sent_line c.args.machine.now.base.spec c.args.scratch.now.values in
    alike (ap (λ (ks : List ℕ). flat_map f ks) (take_all c.loop-place.place c.sent-cases.result.now c.loop-place-test.false ∙ c.sent-cases.ensures)) c.loop-place.invariant
