use Rattle.std.proofs.Common.{List, ℕ, get_or, ap, ◌∙◌}
use Rattle.std.specs.Int.RustNames.{bit_or}
use Rattle.pair_counts.proofs.BitLemmas.{bit_or_is}
use Rattle.pair_counts.proofs.bits.Bits.join.Goals as goal

pub returns : goal.returns
returns c = λ q.
    bit_or_is c.args.self.now c.args.other.now c.join_words.new.words.items
    (λ i.
    c.join_words.ensures i
    ∙ (λ j.
    bit_or ((c.in_ok-grow.ensures.same i ∙ ap (λ (ws : List ℕ). get_or ws i 0) c.self.view_is) j)
    (ap (λ (ws : List ℕ). get_or ws i 0) (c.as_slice.ensures.value ∙ c.other.view_is) j)))
    q
