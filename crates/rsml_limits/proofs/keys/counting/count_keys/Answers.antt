use Rattle.std.proofs.Common.{◌≡◌, ℕ, List, [], ◌∷◌, ◌++◌, ◌+◌, map, length, take, sym, ap, subst, ◌∙◌, arith}
use Rattle.std.specs.Prelude.{flat_map}
use Rattle.std.specs.Global.{Vec}
use Rattle.std.specs.List.{IsDistinct}
use Rattle.std.proofs.lemmas.List.{map_more, take_all}
use Rattle.std.proofs.lemmas.Result.{IfOk-weaker}
use Rattle.rsml_syntax.specs.rules.Globals.{Globals}
use Rattle.rsml_syntax.specs.limits.Limits.{distinct, shown}
use Rattle.rsml_syntax.specs.limits.Thresholds.{keys, same_key}
use Rattle.rsml_limits.specs.declared.comparisons.ask.Ask.{Ask}
use Rattle.rsml_limits.specs.comparisons.Asks.{ask_comparisons}
use Rattle.rsml_limits.specs.comparisons.Shown.{shown_ask}
use Rattle.pair_counts.specs.declared.blocks.Block.{Block}
use Rattle.pair_counts.specs.Blocks.{pairs, same_pair}
use Rattle.rsml_limits.specs.keys.Numbered.{AskBlocks, same_ordered, IsBlock}
use Rattle.rsml_limits.proofs.KeyCountLemmas.{AreBlocks, lines_seen, column_turn, row_turn, no_blocks, none_differ, many_in_blocks}
use Rattle.rsml_limits.proofs.keys.counting.count_keys.Goals as goal
use Rattle.rsml_limits.proofs.keys.counting.count_keys.Goals.{then-swaps+in_ok-push, else-swaps+in_ok-push-2}

pub loop-ask-init : goal.loop-ask-init
loop-ask-init c = record {
  names = ap (λ (l : AskBlocks). l.globals) c.new-blocks.ensures;
  differ = subst (λ (l : AskBlocks). IsDistinct same_ordered l.numbered.sums) (sym c.new-blocks.ensures) none_differ;
  are = no_blocks c.args.globals.now c.new-blocks.result.numbered c.new-columns.result.items c.new-rows.result.items c.new-columns.ensures.items c.new-rows.ensures.items;
}

pub loop-ask-preserved : goal.loop-ask-preserved
loop-ask-preserved c =
    let g = c.args.globals.now in
    let old = c.loop-ask.blocks.numbered in
    let new = c.block.new.self.numbered in
    let asks = map shown_ask (take c.loop-ask.ask-index c.args.asks.now) in
    let a = shown_ask c.ask-item.result in
    let block = c.in_ok-block.block in
    let columns = c.loop-ask.columns.items in
    let rows = c.loop-ask.rows.items in
    let now = take (c.loop-ask.ask-index + 1) c.args.asks.now in
    let is = subst (λ (g : Globals). IsBlock g new a block) c.loop-ask.invariant.names c.in_ok-block.ensures.block in
    let more : map shown_ask now ≡ asks ++ a ∷ [] =
    map_more shown_ask c.args.asks.now c.loop-ask.ask-index c.ask-item.result c.loop-ask-test.true ∙ ap (λ (x : Ask). asks ++ shown_ask x ∷ []) (sym c.ask-item.is) in
    record {
      names = c.block.ensures.same ∙ c.loop-ask.invariant.names;
      differ = c.in_ok-block.ensures.differ;
      are = elim c.if-swaps.branch [
        | then-swaps+in_ok-push w ↦
            let down : c.if-swaps.columns.items ≡ columns = ap (λ (v : Vec Block). v.items) w.columns-is in
            let across : c.if-swaps.rows.items ≡ rows ++ block ∷ [] = ap (λ (v : Vec Block). v.items) w.rows-is ∙ w.in_ok-push.ensures.items in
            lines_seen g new (asks ++ a ∷ []) (map shown_ask now) columns c.if-swaps.columns.items (rows ++ block ∷ []) c.if-swaps.rows.items more down across
            (row_turn g old new c.in_ok-block.ensures.grows asks columns rows c.loop-ask.invariant.are a block is (sym c.swaps.ensures ∙ w.if-swaps.true))
        | else-swaps+in_ok-push-2 w ↦
            let down : c.if-swaps.columns.items ≡ columns ++ block ∷ [] = ap (λ (v : Vec Block). v.items) w.columns-is ∙ w.in_ok-push-2.ensures.items in
            let across : c.if-swaps.rows.items ≡ rows = ap (λ (v : Vec Block). v.items) w.rows-is in
            lines_seen g new (asks ++ a ∷ []) (map shown_ask now) (columns ++ block ∷ []) c.if-swaps.columns.items rows c.if-swaps.rows.items more down across
            (column_turn g old new c.in_ok-block.ensures.grows asks columns rows c.loop-ask.invariant.are a block is (sym c.swaps.ensures ∙ w.if-swaps.false))
      ];
    }

pub returns : goal.returns
returns c =
    let n = c.loop-ask.blocks.numbered in
    let asks = map shown_ask c.args.asks.now in
    let all : take c.loop-ask.ask-index c.args.asks.now ≡ c.args.asks.now = take_all c.loop-ask.ask-index c.args.asks.now (omega arith) in
    let are = subst (λ (xs : List Ask). AreBlocks c.args.globals.now n (map shown_ask xs) c.loop-ask.columns.items c.loop-ask.rows.items) all c.loop-ask.invariant.are in
    let many = many_in_blocks c.args.globals.now n asks c.loop-ask.columns.items c.loop-ask.rows.items c.loop-ask.invariant.differ are in
    let seen : pairs (map (λ (v : Vec ℕ). v.items) c.lists.result.now) c.as_slice.result.now c.as_slice-2.result.now ≡ pairs n.lists c.loop-ask.columns.items c.loop-ask.rows.items =
    λ i. pairs (c.lists.ensures i) (c.as_slice.ensures.value i) (c.as_slice-2.ensures.value i) in
    IfOk-weaker c.count_pairs.result
    (λ count. count ≡ shown (length (distinct same_pair (pairs (map (λ (v : Vec ℕ). v.items) c.lists.result.now) c.as_slice.result.now c.as_slice-2.result.now))))
    (λ count. count ≡ shown (length (distinct same_key (flat_map keys (flat_map (ask_comparisons c.args.globals.now) asks)))))
    (λ count is. is ∙ ap (λ (ps : List (ℕ × ℕ)). shown (length (distinct same_pair ps))) seen ∙ ap shown many) c.count_pairs.ensures
