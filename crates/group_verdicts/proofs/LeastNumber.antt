-- The least number, between bounds that come together.
use Rattle.std.proofs.Common.{◌≡◌, Bool, true, false, ◌&&◌, refl, sym, ◌∙◌, true≢false, int_le, pos, ◌+ℤ◌, ◌<ℤ◌, ℤ, IsTrue, arith}
use Rattle.std.specs.Bool.{⊤}
use Rattle.std.specs.Cmp.{first_so, second_so}
use Rattle.std.specs.Ordering.{MatchOrdering, int_cmp, int_eq}
use Rattle.std.specs.declared.cmp.Ordering.{Ordering}
use Rattle.std.specs.declared.cmp.Ordering.TheVariants.{Less, Equal, Greater}
use Rattle.std.proofs.lemmas.Cmp.{int_ranked}
use Rattle.std.proofs.lemmas.Int.{ints}
use Rattle.rsml_syntax.specs.declared.syntax.Spec.{Spec}
use Rattle.rsml_syntax.specs.declared.world.World.{World}
use Rattle.rsml_meaning.specs.Worlds.{IsWorld}
use Rattle.group_verdicts.specs.Narrowing.{IsOfNone, Narrows, Bounds}
use Rattle.group_verdicts.proofs.Narrowed.{is_false}

-- some world has a number up to the greatest
pub first_bounds : (s : Spec) (number : World → ℤ) (low high : ℤ) (truth : World → Bool) → (IsOfNone (IsWorld s) truth → ⊥)
    → ((w : World) → IsWorld s w → int_le low (number w) ≡ true) → ((w : World) → IsWorld s w → int_le (number w) high ≡ true)
    → Bounds s number low high truth
first_bounds s number low high truth some above below = record {
  some = λ none. some (λ w is. is_false (truth w) (λ k. true≢false ((λ i. sym k i && sym (below w is) i) ∙ none w is)));
  above = λ w is k. above w is;
}

-- some has one up to the middle
pub lower_half : (s : Spec) (number : World → ℤ) (low middle high : ℤ) (truth : World → Bool) → Bounds s number low high truth
    → (IsOfNone (IsWorld s) (λ w. truth w && int_le (number w) middle) → ⊥) → Bounds s number low middle truth
lower_half s number low middle high truth h some = record {
  some = some;
  above = h.above;
}

-- none has
pub upper_half : (s : Spec) (number : World → ℤ) (low middle high : ℤ) (truth : World → Bool) → Bounds s number low high truth
    → IsOfNone (IsWorld s) (λ w. truth w && int_le (number w) middle) → Bounds s number (middle +ℤ pos 1) high truth
upper_half s number low middle high truth h none = record {
  some = h.some;
  above = λ w is k. by w is k (int_le (number w) middle) refl;
}
  where
    by : (w : World) → IsWorld s w → IsTrue (truth w) → (b : Bool) → int_le (number w) middle ≡ b
        → int_le (middle +ℤ pos 1) (number w) ≡ true
    by w is k true e = absurd (true≢false ((λ i. sym k i && sym e i) ∙ none w is))
    by w is k false e = grind (arith, ints)

-- the bounds have met
pub bounds_met : (s : Spec) (number : World → ℤ) (low high : ℤ) (truth : World → Bool) → int_le high low ≡ true
    → Bounds s number low high truth → Bounds s number low low truth
bounds_met s number low high truth met h = record {
  some = λ none. h.some (λ w is. is_false (truth w && int_le (number w) high) (λ k.
      true≢false ((λ i. sym (first_so (truth w) (int_le (number w) high) k) i && sym (further w (second_so (truth w) (int_le (number w) high) k)) i) ∙ none w is)));
  above = h.above;
}
  where
    further : (w : World) → int_le (number w) high ≡ true → int_le (number w) low ≡ true
    further w l = grind (arith, ints)

-- the worlds with the least number
pub least_narrows : (s : Spec) (number : World → ℤ) (least : ℤ) (truth next : World → Bool) → Bounds s number least least truth
    → ((w : World) → IsTrue (next w) → IsTrue (truth w && int_le (number w) least))
    → ((w : World) → IsTrue (truth w) → number w ≡ least → IsTrue (next w))
    → Narrows (IsWorld s) int_cmp number least truth next
least_narrows s number least truth next h within all = record {
  some = λ none. h.some (λ w is. is_false (truth w && int_le (number w) least) (λ k.
      let a = first_so (truth w) (int_le (number w) least) k in
      true≢false (sym (all w a (same w (h.above w is a) (second_so (truth w) (int_le (number w) least) k))) ∙ none w is)));
  kept = λ w is k.
      let t = within w k in
      let a = first_so (truth w) (int_le (number w) least) t in
      (a, same w (h.above w is a) (second_so (truth w) (int_le (number w) least) t));
  order = λ w is k. by w k (h.above w is k) (int_cmp (number w) least) (int_ranked (number w) least (int_cmp (number w) least) refl);
}
  where
    same : (w : World) → int_le least (number w) ≡ true → int_le (number w) least ≡ true → number w ≡ least
    same w a b = grind (arith, ints)

    less : (w : World) → int_le least (number w) ≡ true → number w <ℤ least → ⊥
    less w a b = grind (arith, ints)

    by : (w : World) → IsTrue (truth w) → int_le least (number w) ≡ true → (o : Ordering)
        → MatchOrdering o (number w <ℤ least) (number w ≡ least) (least <ℤ number w)
        → MatchOrdering o ⊥ (IsTrue (next w)) ⊤
    by w k a Less m = less w a m
    by w k a Equal m = all w k m
    by w k a Greater m = tt

-- what has just the number is
pub up_to_number : (truth : World → Bool) (number : World → ℤ) (most : ℤ) (w : World) → IsTrue (truth w && int_eq (number w) most)
    → IsTrue (truth w && int_le (number w) most)
up_to_number truth number most w k = λ i. first_so (truth w) (int_eq (number w) most) k i && within (second_so (truth w) (int_eq (number w) most) k) i
  where
    within : int_eq (number w) most ≡ true → int_le (number w) most ≡ true
    within e = grind (arith, ints)

pub just_number : (truth : World → Bool) (number : World → ℤ) (most : ℤ) (w : World) → IsTrue (truth w) → number w ≡ most
    → IsTrue (truth w && int_eq (number w) most)
just_number truth number most w k e = λ i. k i && same i
  where
    same : int_eq (number w) most ≡ true
    same = grind (arith, ints)
