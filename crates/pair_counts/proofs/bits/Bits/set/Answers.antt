use Rattle.std.proofs.Common.{ℕ, ◌||◌, ◌==◌, ◌/◌, ◌%◌, List, ap, ◌∙◌, arith}
use Rattle.std.proofs.lemmas.List.{get_or_read}
use Rattle.std.specs.Int.{bit_at}
use Rattle.pair_counts.specs.Bits.{bit}
use Rattle.pair_counts.proofs.BitLemmas.{bit_set}
use Rattle.pair_counts.proofs.bits.Bits.set.Goals as goal

pub returns : goal.returns
returns c = λ q.
    bit_set c.grow.new.words.items c.args.place c.index_mut.result.now (omega (arith, c.in_ok-grow.ensures.room))
    (get_or_read c.grow.new.words.items (c.args.place / 64) c.index_mut.result.now (omega (arith, c.in_ok-grow.ensures.room)) c.index_mut.ensures.value 0) q
    ∙ ap (λ b. b || c.args.place == q) (ap (λ w. bit_at w (q % 64) == 1) (c.in_ok-grow.ensures.same (q / 64)) ∙ ap (λ (ws : List ℕ). bit ws q) c.self.view_is)
