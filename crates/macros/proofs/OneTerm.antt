-- A comparison of one term with one term has the truth of its phrase.
use Rattle.std.proofs.Common.{◌≡◌, ℕ, zero, suc, ◌+◌, ◌<◌, Bool, List, [], ◌∷◌, ◌++◌, length, get_or, map, take, add-one, Option, Some, ℤ, pos, ◌+ℤ◌, sym, ap, ◌∙◌, subst, slice_get, arith}
use Rattle.std.proofs.lemmas.Int.{ints}
use Rattle.std.proofs.lemmas.List.{length-map}
use Rattle.rsml_syntax.specs.declared.world.World.{World}
use Rattle.rsml_syntax.specs.declared.syntax.Relation.{Relation}
use Rattle.rsml_syntax.specs.rules.Relations.{compare}
use Rattle.rsml_meaning.specs.Words.{Each}
use Rattle.rsml_meaning.specs.Cells.{cells}
use Rattle.rsml_ground.specs.Grounded.{IsGrounded}
use Rattle.rsml_ground.specs.declared.sums.GroundTerm.{GroundTerm}
use Rattle.rsml_ground.specs.declared.definitions.Definition.{Definition}
use Rattle.rsml_ground.specs.declared.phrases.GroundPhrase.{GroundPhrase}
use Rattle.rsml_ground.specs.declared.phrases.GroundPhrase.TheVariants as phrases
use Rattle.rsml_ground.specs.Rests.{OperandFits, RestsOn}
use Rattle.rsml_ground.specs.Truths.{Grounded, phrase_truth, sum_number, term_number}
use Rattle.macros.specs.declared.pairs.Pair.{Pair}
use Rattle.macros.specs.Pairs.{only, paired, pair_of}
use Rattle.macros.proofs.Below.{none_some, some_same, there}

zero_more : (n : ℤ) → pos 0 +ℤ n ≡ n
zero_more n = omega (arith, ints)

abbrev pub pair_holds : List ℤ → Pair → Bool
pair_holds cells d = compare d.relation (term_number cells d.left) (term_number cells d.right)

abbrev pub PairFits : ℕ → Pair → Type 0
PairFits cells d = OperandFits cells d.left.operand × OperandFits cells d.right.operand

terms_hold : (cells : List ℤ) (ls rs : List GroundTerm) (r : Relation) (d : Pair) → paired (only ls) r (only rs) ≡ Some d
    → compare r (sum_number cells (record { terms = ls })) (sum_number cells (record { terms = rs })) ≡ pair_holds cells d
terms_hold cells [] rs r d e = absurd (none_some e)
terms_hold cells (a ∷ b ∷ ls) rs r d e = absurd (none_some e)
terms_hold cells (a ∷ []) [] r d e = absurd (none_some e)
terms_hold cells (a ∷ []) (b ∷ c ∷ rs) r d e = absurd (none_some e)
terms_hold cells (a ∷ []) (b ∷ []) r d e = (λ i. compare r (zero_more (term_number cells a) i) (zero_more (term_number cells b) i)) ∙ ap (pair_holds cells) (some_same e)

-- the truth of the phrase
pub pair_is : (g : Grounded) (w : World) (ts : List Bool) (p : GroundPhrase) (d : Pair) → pair_of p ≡ Some d → pair_holds w.cells d ≡ phrase_truth g w ts p
pair_is g w ts (phrases.Compare left relation right) d e = sym (terms_hold w.cells left.terms right.terms relation d e)
pair_is g w ts (phrases.In node) d e = absurd (none_some e)
pair_is g w ts (phrases.Macro number) d e = absurd (none_some e)
pair_is g w ts (phrases.Any numbers) d e = absurd (none_some e)
pair_is g w ts (phrases.Every numbers) d e = absurd (none_some e)
pair_is g w ts (phrases.Function number relation constant) d e = absurd (none_some e)

terms_fit : (cells : ℕ) (ls rs : List GroundTerm) (r : Relation) (d : Pair) → paired (only ls) r (only rs) ≡ Some d
    → Each (λ t. OperandFits cells t.operand) ls → Each (λ t. OperandFits cells t.operand) rs → PairFits cells d
terms_fit cells [] rs r d e f h = absurd (none_some e)
terms_fit cells (a ∷ b ∷ ls) rs r d e f h = absurd (none_some e)
terms_fit cells (a ∷ []) [] r d e f h = absurd (none_some e)
terms_fit cells (a ∷ []) (b ∷ c ∷ rs) r d e f h = absurd (none_some e)
terms_fit cells (a ∷ []) (b ∷ []) r d e f h = subst (PairFits cells) (some_same e) (f.0, h.0)

-- its terms are numbers or cells that there are
pub pair_fits : (ds : List Definition) (cells n : ℕ) (p : GroundPhrase) (d : Pair) → pair_of p ≡ Some d → RestsOn ds cells n p → PairFits cells d
pair_fits ds cells n (phrases.Compare left relation right) d e rests = terms_fit cells left.terms right.terms relation d e rests.0.operands rests.1.operands
pair_fits ds cells n (phrases.In node) d e rests = absurd (none_some e)
pair_fits ds cells n (phrases.Macro number) d e rests = absurd (none_some e)
pair_fits ds cells n (phrases.Any numbers) d e rests = absurd (none_some e)
pair_fits ds cells n (phrases.Every numbers) d e rests = absurd (none_some e)
pair_fits ds cells n (phrases.Function number relation constant) d e rests = absurd (none_some e)

-- Places.

-- the pair at a place is that of the phrase of that number
pub pair_at : (ps : List GroundPhrase) (pairs : List (Option Pair)) (n : ℕ) (p : GroundPhrase) (x : Option Pair) → pairs ≡ map pair_of ps
    → slice_get ps n ≡ Some p → get_or pairs n x ≡ pair_of p
pair_at ps pairs n p x all at = ap (λ (xs : List (Option Pair)). get_or xs n x) all ∙ of ps n at
  where
    of : (ps : List GroundPhrase) (n : ℕ) → slice_get ps n ≡ Some p → get_or (map pair_of ps) n x ≡ pair_of p
    of [] n at = absurd (none_some at)
    of (q ∷ ps) zero at = ap pair_of (some_same at)
    of (q ∷ ps) (suc n) at = of ps n at

-- there is a place for each phrase
pub has_place : (ps : List GroundPhrase) (pairs : List (Option Pair)) (n : ℕ) → pairs ≡ map pair_of ps → n < length ps → n < length pairs
has_place ps pairs n all within = subst (λ (xs : List (Option Pair)). n < length xs) (sym all) (let h : n < length (map pair_of ps) = omega (arith, within, length-map ps pair_of) in h)

-- one more pair
pub pairs_more : (ps : List GroundPhrase) (n : ℕ) (p : GroundPhrase) → slice_get ps n ≡ Some p → map pair_of (take (n + 1) ps) ≡ map pair_of (take n ps) ++ pair_of p ∷ []
pairs_more ps n p at = ap (λ k. map pair_of (take k ps)) (add-one n) ∙ of ps n at
  where
    of : (ps : List GroundPhrase) (n : ℕ) → slice_get ps n ≡ Some p → map pair_of (take (suc n) ps) ≡ map pair_of (take n ps) ++ pair_of p ∷ []
    of [] n at = absurd (none_some at)
    of (q ∷ ps) zero at = ap (λ x. pair_of x ∷ []) (some_same at)
    of (q ∷ ps) (suc n) at = ap (λ (xs : List (Option Pair)). pair_of q ∷ xs) (of ps n at)

-- what the pair of a phrase is
pub stands : (g : Grounded) (pairs : List (Option Pair)) (n : ℕ) (x : Option Pair) (d : Pair) → pairs ≡ map pair_of g.phrases → x ≡ get_or pairs n x → x ≡ Some d
    → (p : GroundPhrase) → slice_get g.phrases n ≡ Some p → pair_of p ≡ Some d
stands g pairs n x d all is some p at = sym (pair_at g.phrases pairs n p x all at) ∙ sym is ∙ some

pub fits_at : (g : Grounded) (pairs : List (Option Pair)) (n : ℕ) (x : Option Pair) (d : Pair) → pairs ≡ map pair_of g.phrases → x ≡ get_or pairs n x → x ≡ Some d
    → IsGrounded g → n < length g.phrases → PairFits (length (cells g.spec)) d
fits_at g pairs n x d all is some grounded within =
    let p = there g.phrases n within in
    pair_fits g.definitions (length (cells g.spec)) n p.0 d (stands g pairs n x d all is some p.0 p.1) (grounded.rest.phrase n p.0 p.1)
