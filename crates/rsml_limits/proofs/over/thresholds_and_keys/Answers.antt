use Rattle.std.proofs.Common.{◌≡◌, List, map, flat_map, sym, ap, ◌∙◌}
use Rattle.rsml_syntax.specs.rules.Globals.{Globals}
use Rattle.rsml_syntax.specs.limits.Comparisons.{comparisons}
use Rattle.rsml_syntax.specs.grammar.Parts.{parts}
use Rattle.rsml_syntax.specs.limits.Limits.{shown, distinct}
use Rattle.rsml_syntax.specs.limits.Thresholds.{same_key, keys}
use Rattle.rsml_limits.specs.comparisons.Asks.{ask_comparisons}
use Rattle.rsml_limits.specs.comparisons.Searched.{Searched}
use Rattle.rsml_limits.specs.comparisons.Shown.{shown_ask}
use Rattle.std.proofs.Common.{length}
use Rattle.rsml_limits.proofs.OverLemmas.{both_counted}
use Rattle.rsml_limits.proofs.over.thresholds_and_keys.Goals as goal

pub returns : goal.returns
returns c =
    let g = c.args.globals.now in
    let found = flat_map (ask_comparisons g) (map shown_ask c.asks.result.now) in
    let of_globals : c.in_ok-search.search.globals ≡ g = ap (λ (s : Searched). s.globals) c.in_ok-search.ensures in
    let all : flat_map (ask_comparisons g) (map shown_ask c.asks.result.now) ≡ flat_map (comparisons g) (parts c.args.spec.now) =
    (λ i. flat_map (ask_comparisons (sym of_globals i)) (map shown_ask c.asks.result.now)) ∙ c.asks.ensures ∙ ap (λ (s : Searched). s.found) c.in_ok-search.ensures in
    let again : flat_map (ask_comparisons g) (map shown_ask c.asks-2.result.now) ≡ flat_map (comparisons g) (parts c.args.spec.now) =
    (λ i. flat_map (ask_comparisons (sym of_globals i)) (map shown_ask c.asks-2.result.now)) ∙ c.asks-2.ensures ∙ ap (λ (s : Searched). s.found) c.in_ok-search.ensures in
    both_counted c.args.spec.now g found c.in_ok-thresholds.thresholds c.in_ok-keys.keys c.saturating_add.result c.requires all c.in_ok-thresholds.ensures
    (c.in_ok-keys.ensures ∙ (λ i. shown (length (distinct same_key (flat_map keys ((again ∙ sym all) i))))))
    c.saturating_add.ensures
