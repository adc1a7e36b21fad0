use Rattle.event_chains.proofs.ChainLemmas.{length_agrees, loops_there, loops_back, ends_there, ends_back, clash_there, clash_back}
use Rattle.event_chains.proofs.FirstClashes.{first_agrees}
use Rattle.event_chains.proofs.laws.a_graph_answers.Goals as goal

pub returns-clause-lengths : goal.returns-clause-lengths
returns-clause-lengths c = length_agrees

pub returns-clause-loops : goal.returns-clause-loops
returns-clause-loops c = λ s g checked d a e k. (loops_there s g checked d a e k, loops_back s g checked d a e k)

pub returns-clause-ends : goal.returns-clause-ends
returns-clause-ends c = λ s g checked d a b x e k l external n. (ends_there s g checked d a b x e k l external n, ends_back s g checked d a b x e k l n)

pub returns-clause-clashes : goal.returns-clause-clashes
returns-clause-clashes c = λ s g checked d a b i x e f k l m external n. (clash_there s g checked d a b i x e f k l m external n, clash_back s g checked d a b i x e f k l m n)

pub returns-clause-first : goal.returns-clause-first
returns-clause-first c = first_agrees
