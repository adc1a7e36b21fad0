use Rattle.std.proofs.Common.{sym, ap, ◌∙◌, is_some, true≢false}
use Rattle.ground_groups.proofs.Rising.{some_found, any_of_one}
use Rattle.ground_groups.proofs.places.find.Goals as goal

pub returns-clause-some : goal.returns-clause-some
returns-clause-some c = some_found c.args.key c.args.heads.now.keys c.get_index_of.result c.get_index_of.ensures.index

pub returns-clause-none : goal.returns-clause-none
returns-clause-none c = λ e m. true≢false (sym (any_of_one c.args.key c.args.heads.now.keys m) ∙ sym c.get_index_of.ensures.found ∙ ap is_some e)
