use Rattle.std.proofs.Common.{◌≡◌, ℕ, false, ◌++◌, ◌∷◌, List, map, length, slice_get, sym, ap, ◌∙◌, arith}
use Rattle.rsml_limits.specs.declared.comparisons.ground_term.GroundTerm.{GroundTerm}
use Rattle.rsml_limits.specs.comparisons.Shown.{shown_sum}
use Rattle.std.specs.Global.{Vec}
use Rattle.std.specs.Vec.Iter.{into_iter_items}
use Rattle.rsml_limits.specs.keys.Classes.{class_of, tight, linear}
use Rattle.rsml_limits.specs.keys.Shown.{shown_order}
use Rattle.rsml_limits.proofs.NumberLemmas.{stands, linear_first, numbers_turn}
use Rattle.rsml_limits.proofs.keys.sums.Sums.numbers.Goals as goal

pub loop-terms-preserved-in_ok-push : goal.loop-terms-preserved-in_ok-push
loop-terms-preserved-in_ok-push c =
    let class = c.args.class in
    let relation = shown_order c.args.order in
    let these = map (λ (v : Vec GroundTerm). shown_sum v.items) c.args.sums.items in
    let x = shown_sum c.in-Some.terms.items in
    let rest = map (λ (v : Vec GroundTerm). shown_sum v.items) (into_iter_items c.next.new.self) in
    let before = map (slice_get c.loop-terms.self) c.loop-terms.numbers.items in
    let is_linear : tight (class_of x) class ≡ false =
    sym (c.is_tight.ensures ∙ ap (λ k. tight k class) (c.new.ensures ∙ ap (λ ts. class_of (shown_sum ts)) c.as_slice.ensures.value)) ∙ c.if-not-is_tight.true in
    let first : before ++ map (stands relation) (x ∷ linear class rest) ≡ map (stands relation) (linear class these) =
    ap (λ ys. before ++ map (stands relation) ys) (sym (linear_first class x rest is_linear))
    ∙ ap (λ (vs : List (Vec GroundTerm)). before ++ map (stands relation) (linear class (map (λ v. shown_sum v.items) vs))) (sym c.in-Some.ensures.steps.0)
    ∙ c.loop-terms.invariant.numbered in
    record {
      left = omega (arith, c.loop-terms.invariant.left, ap length c.in-Some.ensures.steps.0, c.in-Some.ensures.steps.1);
      grows = λ place o h. c.in_ok-number.ensures.grows place o (c.loop-terms.invariant.grows place o h);
      numbered =
          ap (λ (ns : List ℕ). map (slice_get c.number.new.self) ns ++ map (stands relation) (linear class rest)) c.in_ok-push.ensures.items
          ∙ numbers_turn c.loop-terms.self c.number.new.self c.in_ok-number.ensures.grows c.loop-terms.numbers.items c.in_ok-number.field-0 relation x (linear class rest) (linear class these)
          c.in_ok-number.ensures.number first;
    }
