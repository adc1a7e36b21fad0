use Rattle.std.proofs.Common.{List, [], ◌∷◌, ◌++◌, map, ap, ◌∙◌}
use Rattle.std.specs.Prelude.{flat_map}
use Rattle.std.specs.Global.{Vec}
use Rattle.std.proofs.lemmas.Result.{on_ok_weaker}
use Rattle.rsml_syntax.specs.limits.Comparisons.{GroundSum}
use Rattle.rsml_limits.specs.declared.comparisons.ground_term.GroundTerm.{GroundTerm}
use Rattle.rsml_limits.specs.comparisons.Shown.{shown_left, shown_sum, shown_ask}
use Rattle.rsml_limits.specs.thresholds.Compared.{Right, compared, Function, with_right}
use Rattle.rsml_limits.specs.thresholds.Pairs.{pairs}
use Rattle.rsml_limits.specs.thresholds.Shown.{shown_right}
use Rattle.rsml_limits.proofs.AskLemmas.{sum_asked, function_asked}
use Rattle.rsml_limits.proofs.MemberLemmas.{same_then}
use Rattle.rsml_limits.proofs.thresholds.thresholds.gather_ask.Goals as goal

pub returns-in-Sum : goal.returns-in-Sum
returns-in-Sum c =
    let a = shown_ask c.args.ask.now in
    let sum = shown_sum c.in-Sum.terms.items in
    let right : List GroundTerm → Right = λ ts. record { relation = a.relation; terms = shown_sum ts } in
    let after = λ (sums : List GroundSum) (rights : List Right). c.args.table.now ++ flat_map pairs (compared sums rights) in
    let shown = map (λ (v : Vec GroundTerm). shown_sum v.items) in
    let new = c.compare.new.table in
    on_ok_weaker c.compare.result
    (λ put g.
    sum_asked g a sum c.args.functions.now c.args.table.now new (ap shown_left c.in-Sum.is)
    (same_then new (after (shown c.from_ref.result.now) (map shown_right c.from_ref-in-Sum.result.now)) (after (sum ∷ []) (right c.args.ask.now.right.items ∷ [])) put
    ((λ i. after (shown (c.from_ref.ensures.value i)) (map shown_right (c.from_ref-in-Sum.ensures.value i)))
    ∙ ap (λ ts. after (sum ∷ []) (right ts ∷ [])) c.as_slice.ensures.value)))
    c.compare.ensures

pub returns-in-Function : goal.returns-in-Function
returns-in-Function c =
    let a = shown_ask c.args.ask.now in
    let f : Function = record { name = c.in-Function.name.now; at = c.in-Function.at } in
    let right : List GroundTerm → Right = λ ts. record { relation = a.relation; terms = shown_sum ts } in
    on_ok_weaker c.put.result
    (λ put g.
    function_asked g a f c.args.functions.now c.put.new.self c.args.table.now (ap shown_left c.in-Function.is)
    (put ∙ ap (λ ts. with_right c.args.functions.now f (right ts)) c.as_slice.ensures.value))
    c.put.ensures
