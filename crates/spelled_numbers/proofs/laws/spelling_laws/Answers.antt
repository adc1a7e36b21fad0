use Rattle.spelled_numbers.proofs.SpellingLemmas.{every, within, free_stays, elsewhere}
use Rattle.spelled_numbers.proofs.CoverLemmas.{covers, total_sum}
use Rattle.spelled_numbers.proofs.laws.spelling_laws.Goals as goal

pub returns-clause-every : goal.returns-clause-every
returns-clause-every c = every

pub returns-clause-within : goal.returns-clause-within
returns-clause-within c = within

pub returns-clause-free : goal.returns-clause-free
returns-clause-free c = free_stays

pub returns-clause-elsewhere : goal.returns-clause-elsewhere
returns-clause-elsewhere c = elsewhere

pub returns-clause-cover : goal.returns-clause-cover
returns-clause-cover c = covers

pub returns-clause-total : goal.returns-clause-total
returns-clause-total c = total_sum
