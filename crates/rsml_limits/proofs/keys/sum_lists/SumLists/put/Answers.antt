use Rattle.std.proofs.Common.{◌≡◌, ℕ, map, sym, subst}
use Rattle.std.specs.Global.{Vec}
use Rattle.std.proofs.lemmas.Result.{IfOk-weaker}
use Rattle.rsml_limits.specs.declared.comparisons.ground_term.GroundTerm.{GroundTerm}
use Rattle.rsml_limits.specs.comparisons.Shown.{shown_sum}
use Rattle.rsml_limits.specs.keys.Classes.{linear}
use Rattle.rsml_limits.specs.keys.Numbered.{Numbered, Grows, IsList}
use Rattle.rsml_limits.specs.keys.Shown.{shown_order}
use Rattle.rsml_limits.proofs.NumberLemmas.{put_list, put_grows}
use Rattle.rsml_limits.proofs.keys.sum_lists.SumLists.put.Goals as goal

pub returns-clause-list : goal.returns-clause-list
returns-clause-list c =
    let relation = shown_order c.args.order in
    let these = linear c.args.class (map (λ (v : Vec GroundTerm). shown_sum v.items) c.args.sums.items) in
    let new : Numbered = record { sums = c.numbers.new.self; lists = map (λ (v : Vec ℕ). v.items) c.insert_full.new.self.keys } in
    let list = put_list c.numbers.new.self c.insert_full.new.self.keys c.in_ok-place.place c.in_ok-numbers.numbers relation these c.in_ok-place.ensures.stored c.in_ok-numbers.ensures.numbers in
    IfOk-weaker c.number_of.result (λ n. n ≡ c.in_ok-place.place) (λ n. IsList new n relation these) (λ n e. subst (λ n. IsList new n relation these) (sym e) list) c.number_of.ensures

pub returns-clause-grows : goal.returns-clause-grows
returns-clause-grows c =
    let new : Numbered = record { sums = c.numbers.new.self; lists = map (λ (v : Vec ℕ). v.items) c.insert_full.new.self.keys } in
    subst (λ (old : Numbered). Grows old new) c.self.view_is
    (put_grows c.self.inside.sums c.numbers.new.self c.self.inside.lists.keys c.insert_full.new.self.keys c.in_ok-numbers.numbers c.in_ok-numbers.ensures.grows c.in_ok-place.ensures.keys)
