use Rattle.std.proofs.Common.{◌≡◌, List, sym, ap, subst, ◌∙◌, map, Some, slice_get}
use Rattle.std.specs.List.{IsDistinct}
use Rattle.std.proofs.lemmas.Result.{IfOk-weaker}
use Rattle.rsml_limits.specs.declared.keys.sums.Ordered.{Ordered}
use Rattle.rsml_limits.specs.contracts.keys.sums.OrderedPartialEq.TheImpl as ordered_eq
use Rattle.indexmap.specs.IndexSet.{insert_key}
use Rattle.rsml_limits.specs.keys.Numbered as spec
use Rattle.rsml_limits.specs.keys.Numbered.{same_ordered, Extends}
use Rattle.rsml_limits.specs.keys.Shown.{shown_ordered}
use Rattle.rsml_limits.proofs.AlikeLemmas.{ordered_alike, ordered_same}
use Rattle.rsml_limits.proofs.NumberLemmas.{insert_stays, key_at, seen_differ}
use Rattle.rsml_limits.proofs.keys.sums.Sums.number.Goals as goal

pub returns-clause-number : goal.returns-clause-number
returns-clause-number c =
    let sums = map shown_ordered c.insert_full.new.self.keys in
    let sum : Ordered = record { order = c.args.order; terms = c.args.terms } in
    let at = key_at (ordered_eq.ghosts).eq shown_ordered ordered_same c.insert_full.new.self.keys c.in_ok-place.place sum c.in_ok-place.ensures.stored in
    IfOk-weaker c.number_of.result (λ n. n ≡ c.in_ok-place.place) (λ n. slice_get sums n ≡ Some (shown_ordered sum)) (λ n e. ap (slice_get sums) e ∙ at) c.number_of.ensures

pub returns-clause-grows : goal.returns-clause-grows
returns-clause-grows c =
    let sum : Ordered = record { order = c.args.order; terms = c.args.terms } in
    let stays = insert_stays (ordered_eq.ghosts).eq shown_ordered c.self.inside.sums.keys sum in
    subst (λ (keys : List Ordered). Extends c.args.self.now (map shown_ordered keys)) (sym c.in_ok-place.ensures.keys) (subst (λ (old : List spec.Ordered). Extends old (map shown_ordered (insert_key (ordered_eq.ghosts).eq c.self.inside.sums.keys sum))) c.self.view_is stays)

pub returns-clause-differ : goal.returns-clause-differ
returns-clause-differ c =
    let keys = c.insert_full.new.self.keys in
    let differ = seen_differ (ordered_eq.ghosts).eq same_ordered shown_ordered ordered_alike keys c.in_ok-place.ensures.unique in
    IfOk-weaker c.number_of.result (λ n. n ≡ c.in_ok-place.place) (λ n. IsDistinct same_ordered (map shown_ordered keys)) (λ n e. differ) c.number_of.ensures
