use Rattle.pairing.proofs.starting.notes_on.Goals as goal

pub returns-in-Prove : goal.returns-in-Prove
returns-in-Prove c = rw c.in-Prove.is c.new.ensures.items

pub returns-in-ExplainProve : goal.returns-in-ExplainProve
returns-in-ExplainProve c = rw c.in-ExplainProve.is c.fault_notes.ensures

pub returns-in-Same : goal.returns-in-Same
returns-in-Same c = rw c.in-Same.is c.new-in-Same.ensures.items

pub returns-in-ExplainSame : goal.returns-in-ExplainSame
returns-in-ExplainSame c = rw c.in-ExplainSame.is c.fault_notes-in-ExplainSame.ensures
