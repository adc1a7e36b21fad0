-- Adding up the numbers of a sum term by term.
use Rattle.std.proofs.Common.{◌≡◌, ℕ, suc, ◌+◌, ◌<◌, List, ◌∷◌, Bool, Option, Some, None, if◌then◌else◌, length, drop, get_or, drop-cons, add-one, refl, sym, ap, ◌∙◌, ℤ, neg_ℤ, ◌+ℤ◌}
use Rattle.std.specs.Option.{option_map}
use Rattle.std.proofs.Math.IntN.{+ℤ_assoc}
use Rattle.rsml_syntax.specs.limits.Thresholds.{plus, constant_number}
use Rattle.rsml_syntax.specs.limits.Comparisons.{OfNumber}
use Rattle.rsml_limits.specs.declared.comparisons.ground_term.GroundTerm.{GroundTerm}
use Rattle.rsml_limits.specs.declared.comparisons.atom.Atom.{Atom}
use Rattle.rsml_limits.specs.declared.comparisons.atom.Atom.TheVariants.{Number}
use Rattle.rsml_limits.specs.comparisons.Shown.{shown_atom, shown_sum}

pub split : {A : Type 0} (xs : List A) (i : ℕ) (x : A) → i < length xs → x ≡ get_or xs i x → drop i xs ≡ x ∷ drop (i + 1) xs
split xs i x h e = rw (add-one, drop-cons xs i x h) (ap (λ y. y ∷ drop (suc i) xs) (sym e))

plus_more : (minus : Bool) (n m : ℤ) (rest : Option ℤ) →
    option_map (λ k. m +ℤ k) (plus minus (OfNumber n) rest) ≡ option_map (λ k. m +ℤ (if minus then neg_ℤ n else n) +ℤ k) rest
plus_more minus n m None = refl
plus_more minus n m (Some k) = ap Some (sym (+ℤ_assoc m (if minus then neg_ℤ n else n) k))

-- a number that is added comes off those to come
pub sum_turn : (terms : List GroundTerm) (i : ℕ) (t : GroundTerm) (number more next : ℤ) (total : Option ℤ) →
    i < length terms → t ≡ get_or terms i t → t.atom ≡ Number more → next ≡ number +ℤ (if t.minus then neg_ℤ more else more) →
    total ≡ option_map (λ n. number +ℤ n) (constant_number (shown_sum (drop i terms))) →
    total ≡ option_map (λ n. next +ℤ n) (constant_number (shown_sum (drop (i + 1) terms)))
sum_turn terms i t number more next total h is atom added before =
    before
    ∙ ap (λ (ts : List GroundTerm). option_map (λ n. number +ℤ n) (constant_number (shown_sum ts))) (split terms i t h is)
    ∙ ap (λ (a : Atom). option_map (λ n. number +ℤ n) (plus t.minus (shown_atom a) (constant_number (shown_sum (drop (i + 1) terms))))) atom
    ∙ plus_more t.minus more number (constant_number (shown_sum (drop (i + 1) terms)))
    ∙ ap (λ m. option_map (λ n. m +ℤ n) (constant_number (shown_sum (drop (i + 1) terms)))) (sym added)
