use Rattle.judging.proofs.ShortLemmas.{short_text}
use Rattle.pairing.proofs.second.outcome_of.Goals as goal

pub prove-requires : goal.prove-requires
prove-requires c = c.requires.reads

pub returns-in-Prove : goal.returns-in-Prove
returns-in-Prove c = rw c.in-Prove.is c.prove.ensures

pub explain_prove-requires : goal.explain_prove-requires
explain_prove-requires c = c.requires.reads

pub returns-in-ExplainProve : goal.returns-in-ExplainProve
returns-in-ExplainProve c = rw c.in-ExplainProve.is c.explain_prove.ensures

pub compare-requires : goal.compare-requires
compare-requires c = short_text _ _ c.requires.reads

pub returns-in-Same : goal.returns-in-Same
returns-in-Same c = rw c.in-Same.is c.compare.ensures

pub explain_compare-requires : goal.explain_compare-requires
explain_compare-requires c = short_text _ _ c.requires.reads

pub returns-in-ExplainSame : goal.returns-in-ExplainSame
returns-in-ExplainSame c = rw c.in-ExplainSame.is c.explain_compare.ensures
