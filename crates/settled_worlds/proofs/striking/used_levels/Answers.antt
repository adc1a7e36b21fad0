use Rattle.std.proofs.Common.{◌≡◌, ℕ, ◌<◌, ◌≤◌, Bool, List, length, get_or, sym, ap, subst, ◌∙◌, arith}
use Rattle.std.proofs.lemmas.List.{get_or_default}
use Rattle.settled_worlds.specs.Visits.{Visits}
use Rattle.settled_worlds.proofs.VisitLemmas.{few, walks_more, walks_end}
use Rattle.settled_worlds.proofs.striking.used_levels.Goals as goal

pub visit-requires-clause-f_ref : goal.visit-requires-clause-f_ref
visit-requires-clause-f_ref c =
    c.loop-place.invariant.refs c.index-as_slice-place.result (
      c.loop-place.place,
      omega arith,
      ap (λ (ks : List ℕ). get_or ks c.loop-place.place c.index-as_slice-place.result) (sym c.as_slice.ensures.keys)
          ∙ sym c.index-as_slice-place.is,
    )

pub loop-place-smaller : goal.loop-place-smaller
loop-place-smaller c =
    let most : length c.loop-place.seen.keys ≤ length c.args.arena.now.nodes =
    few c.args.arena.now c.loop-place.seen.keys c.len.ensures.unique c.loop-place.invariant.refs in
    omega arith

pub loop-place-preserved : goal.loop-place-preserved
loop-place-preserved c =
    let old : List ℕ = c.loop-place.seen.keys in
    let new : List ℕ = c.visit.new.seen.keys in
    let before : List Bool = c.loop-place.used.items in
    let after : List Bool = c.visit.new.used.items in
    let less : c.loop-place.place < length c.loop-place.seen.keys = omega arith in
    let node : c.index-as_slice-place.result ≡ get_or c.loop-place.seen.keys c.loop-place.place 0 =
    c.index-as_slice-place.is
    ∙ ap (λ (ks : List ℕ). get_or ks c.loop-place.place c.index-as_slice-place.result) c.as_slice.ensures.keys
    ∙ sym (get_or_default c.loop-place.seen.keys c.loop-place.place 0 c.index-as_slice-place.result less) in
    walks_more c.args.arena.now c.args.f c.loop-place.place old new before after c.loop-place.invariant less
    (subst (λ k. Visits c.args.arena.now k old new before after) node c.in_ok-visit.ensures)

pub returns : goal.returns
returns c =
    walks_end c.args.arena.now c.args.f c.loop-place.place c.loop-place.seen.keys c.loop-place.used.items c.loop-place.invariant (omega arith)
