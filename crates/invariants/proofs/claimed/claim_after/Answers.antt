use Rattle.std.proofs.Common.{length, sym, ap, ◌∙◌, subst}
use Rattle.std.specs.List.{All}
use Rattle.bdd_core.specs.Diagram.{IsRef}
use Rattle.ground_claims.specs.Truths.{phrase_truth}
use Rattle.invariants.specs.Told.{TellsOf, active_after}
use Rattle.invariants.proofs.ToldLemmas.{refs_of, zip_long}
use Rattle.invariants.proofs.claimed.claim_after.Goals as goal

pub table_of-requires-clause-many : goal.table_of-requires-clause-many
table_of-requires-clause-many c =
    ap length c.as_slice.ensures.value
    ∙ zip_long (λ x r. TellsOf c.args.machine.now.base.spec c.rows_after.new.encoder (λ w. phrase_truth (active_after c.args.machine.now c.args.moves.now w) x.phrase) r)
    c.as_slice-rows.result.now c.in_ok-phrases.phrases.items c.in_ok-phrases.ensures.answer

pub table_of-requires-clause-phrases : goal.table_of-requires-clause-phrases
table_of-requires-clause-phrases c =
    subst (All (IsRef c.rows_after.new.encoder.diagram)) (sym c.as_slice.ensures.value)
    (refs_of c.args.machine.now.base.spec c.rows_after.new.encoder (λ x w. phrase_truth (active_after c.args.machine.now c.args.moves.now w) x.phrase)
    c.as_slice-rows.result.now c.in_ok-phrases.phrases.items c.in_ok-phrases.ensures.answer)
