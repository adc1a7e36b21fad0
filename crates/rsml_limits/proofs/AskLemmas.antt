-- What is asked of sums and of functions, one after another.
use Rattle.std.proofs.Common.{◌≡◌, Bool, true, false, ◌||◌, ◌==◌, List, [], ◌∷◌, ◌++◌, map, if◌then◌else◌, refl, sym, ap, ◌∙◌}
use Rattle.std.specs.Prelude.{flat_map}
use Rattle.std.specs.List.{list_any}
use Rattle.std.specs.Cmp.{first_so, second_so}
use Rattle.std.specs.Cmp.Lexicographic.{same_text}
use Rattle.std.proofs.lemmas.Bool.{eqb-true}
use Rattle.std.proofs.lemmas.Grind.{flat_map-append}
use Rattle.std.proofs.lemmas.List.{append-nil}
use Rattle.std.proofs.lemmas.List.Folds.{list_any-append}
use Rattle.rsml_syntax.specs.text.Names.{same}
use Rattle.rsml_syntax.specs.rules.Globals.{Globals}
use Rattle.rsml_syntax.specs.limits.Comparisons.{GroundSum, Comparison, comparison_of}
use Rattle.rsml_syntax.specs.limits.Thresholds.{Threshold, same_threshold}
use Rattle.rsml_limits.specs.comparisons.Asks.{Ask, OfSum, OfFunction, case_sums, left_sums, ask_comparisons}
use Rattle.rsml_limits.specs.thresholds.Compared.{Right, compared, Function, same_function, Group, group_comparisons, with_right}
use Rattle.rsml_limits.specs.thresholds.Pairs.{SamePairs, pairs}

function_same : (a b : Function) → same_function a b ≡ true → a ≡ b
function_same a b h =
    let name = same_text a.name b.name (sym (first_so (same a.name b.name) (a.at == b.at) h)) in
    let at = eqb-true a.at b.at (second_so (same a.name b.name) (a.at == b.at) h) in
    λ i. record { name = name i; at = at i }

-- the comparisons of a function with a right side
abbrev with_one : Globals → Function → Right → List Comparison
with_one g f r = map (λ left. comparison_of left r.relation r.terms) (case_sums g f.name f.at)

-- with right sides
abbrev with_each : Globals → Function → List Right → List Comparison
with_each g f rights = compared (case_sums g f.name f.at) rights

one_more : (g : Globals) (f : Function) (rights : List Right) (r : Right) → with_each g f (rights ++ r ∷ []) ≡ with_each g f rights ++ with_one g f r
one_more g f rights r =
    flat_map-append (λ (r : Right). with_one g f r) rights (r ∷ [])
    ∙ ap (λ cs. with_each g f rights ++ cs) (append-nil (with_one g f r))

-- the last part stands before the one in the middle
last_first : (a b c : Bool) → ((a || b) || c) ≡ ((a || c) || b)
last_first true b c = refl
last_first false true true = refl
last_first false true false = refl
last_first false false true = refl
last_first false false false = refl

or_assoc : (a b c : Bool) → ((a || b) || c) ≡ (a || (b || c))
or_assoc true b c = refl
or_assoc false b c = refl

module _ (q : Threshold) where
  abbrev is_in : List Threshold → Bool
  is_in ts = list_any (same_threshold q) ts

  -- among what comparisons ask for
  abbrev is_asked : List Comparison → Bool
  is_asked cs = is_in (flat_map pairs cs)

  in_both : (xs ys : List Threshold) → is_in (xs ++ ys) ≡ (is_in xs || is_in ys)
  in_both xs ys = list_any-append (same_threshold q) xs ys

  asked_both : (xs ys : List Comparison) → is_asked (xs ++ ys) ≡ (is_asked xs || is_asked ys)
  asked_both xs ys = ap is_in (flat_map-append pairs xs ys) ∙ in_both (flat_map pairs xs) (flat_map pairs ys)

  asked_more : (g : Globals) (groups : List Group) (f : Function) (r : Right) →
      is_asked (group_comparisons g (with_right groups f r)) ≡ (is_asked (group_comparisons g groups) || is_asked (with_one g f r))
  asked_more g [] f r = ap is_asked (append-nil (with_each g f (r ∷ [])) ∙ append-nil (with_one g f r))
  asked_more g (e ∷ es) f r =
      by (same_function f e.0) refl (asked_more g es f r) ∙ sym (ap (λ t. t || is_asked (with_one g f r)) (asked_both (with_each g e.0 e.1) (group_comparisons g es)))
    where
      by : (t : Bool) → same_function f e.0 ≡ t → is_asked (group_comparisons g (with_right es f r)) ≡ (is_asked (group_comparisons g es) || is_asked (with_one g f r)) →
          is_asked (group_comparisons g (if t then (e.0, e.1 ++ r ∷ []) ∷ es else e ∷ with_right es f r))
          ≡ ((is_asked (with_each g e.0 e.1) || is_asked (group_comparisons g es)) || is_asked (with_one g f r))
      by true here rest =
          asked_both (with_each g e.0 (e.1 ++ r ∷ [])) (group_comparisons g es)
          ∙ ap (λ cs. is_asked cs || is_asked (group_comparisons g es)) (one_more g e.0 e.1 r)
          ∙ ap (λ t. t || is_asked (group_comparisons g es)) (asked_both (with_each g e.0 e.1) (with_one g e.0 r))
          ∙ (λ i. (is_asked (with_each g e.0 e.1) || is_asked (with_one g (sym (function_same f e.0 here) i) r)) || is_asked (group_comparisons g es))
          ∙ last_first (is_asked (with_each g e.0 e.1)) (is_asked (with_one g f r)) (is_asked (group_comparisons g es))
      by false away rest =
          asked_both (with_each g e.0 e.1) (group_comparisons g (with_right es f r))
          ∙ ap (λ t. is_asked (with_each g e.0 e.1) || t) rest
          ∙ sym (or_assoc (is_asked (with_each g e.0 e.1)) (is_asked (group_comparisons g es)) (is_asked (with_one g f r)))

-- what is put down, and what is gathered of functions
abbrev known : Globals → List Threshold → List Group → List Threshold
known g table groups = table ++ flat_map pairs (group_comparisons g groups)

abbrev right_of : Ask → Right
right_of a = record { relation = a.relation; terms = a.right }

-- a sum was compared
pub sum_asked : (g : Globals) (a : Ask) (sum : GroundSum) (groups : List Group) (old new : List Threshold) → a.left ≡ OfSum sum →
    SamePairs new (old ++ flat_map pairs (compared (sum ∷ []) (right_of a ∷ []))) → SamePairs (known g new groups) (known g old groups ++ flat_map pairs (ask_comparisons g a))
sum_asked g a sum groups old new is put =
    let others = flat_map pairs (group_comparisons g groups) in
    let more = flat_map pairs (compared (sum ∷ []) (right_of a ∷ [])) in
    let asked : more ≡ flat_map pairs (ask_comparisons g a) = ap (λ l. flat_map pairs (map (λ left. comparison_of left a.relation a.right) (left_sums g l))) (sym is) in
    record {
      same = λ q.
          in_both q new others
          ∙ ap (λ t. t || is_in q others) (put.same q ∙ in_both q old more)
          ∙ last_first (is_in q old) (is_in q more) (is_in q others)
          ∙ sym (in_both q (old ++ others) (flat_map pairs (ask_comparisons g a)) ∙ (λ i. in_both q old others i || is_in q (sym asked i)));
    }

-- a function was gathered
pub function_asked : (g : Globals) (a : Ask) (f : Function) (groups after : List Group) (table : List Threshold) → a.left ≡ OfFunction f.name f.at →
    after ≡ with_right groups f (right_of a) → SamePairs (known g table after) (known g table groups ++ flat_map pairs (ask_comparisons g a))
function_asked g a f groups after table is put =
    let asked : with_one g f (right_of a) ≡ ask_comparisons g a = ap (λ l. map (λ left. comparison_of left a.relation a.right) (left_sums g l)) (sym is) in
    record {
      same = λ q.
          in_both q table (flat_map pairs (group_comparisons g after))
          ∙ ap (λ t. is_in q table || t)
          (ap (λ gs. is_asked q (group_comparisons g gs)) put ∙ asked_more q g groups f (right_of a) ∙ ap (λ cs. is_asked q (group_comparisons g groups) || is_asked q cs) asked)
          ∙ sym (or_assoc (is_in q table) (is_asked q (group_comparisons g groups)) (is_asked q (ask_comparisons g a)))
          ∙ sym
          (in_both q (known g table groups) (flat_map pairs (ask_comparisons g a))
          ∙ ap (λ t. t || is_asked q (ask_comparisons g a)) (in_both q table (flat_map pairs (group_comparisons g groups))));
    }
