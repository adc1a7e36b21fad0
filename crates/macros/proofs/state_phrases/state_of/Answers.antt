use Rattle.macros.proofs.StateLemmas.{says_state}
use Rattle.macros.proofs.state_phrases.state_of.Goals as goal

pub returns-in-In-clause-says : goal.returns-in-In-clause-says
returns-in-In-clause-says c =
    says_state c.args.macros.now c.args.phrase c.in-In.node c.phrase.result.now c.there.result c.spec.ensures.standing c.phrase.ensures.is c.in-In.is c.there.ensures.is
