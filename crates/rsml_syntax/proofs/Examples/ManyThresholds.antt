-- A table with the rows `X < 1` to `X < n` has n thresholds, also where n is too great to compute them.
use Rattle.std.proofs.Common.{◌≡◌, ℕ, zero, suc, ◌+◌, ◌<◌, ◌≤◌, false, List, [], ◌∷◌, ◌++◌, None, map, length, refl, ap, ◌∙◌, arith, lt-ltb, le-leb}
use Rattle.std.specs.Prelude.{flat_map, pos, codes}
use Rattle.std.specs.List.{list_any}
use Rattle.rsml_syntax.specs.declared.syntax.Relation.TheVariants as relations
use Rattle.rsml_syntax.specs.declared.syntax.Row.{Row}
use Rattle.rsml_syntax.specs.declared.syntax.Body.{Basic}
use Rattle.rsml_syntax.specs.declared.syntax.Spec.{Spec}
use Rattle.rsml_syntax.specs.rules.Globals.{Globals, globals}
use Rattle.rsml_syntax.specs.limits.Comparisons.{InputCell, OfNumber, OfCell, Comparison, rows_comparisons}
use Rattle.rsml_syntax.specs.limits.Thresholds.{Threshold, thresholds, same_threshold, keys, same_key}
use Rattle.rsml_syntax.specs.limits.Limits.{distinct, thresholds_and_keys, all_comparisons}
use Rattle.rsml_syntax.proofs.Examples.Writing.{plus, the, num, compare, row, range, from, input, macro, spec}

-- X < c
abbrev below : ℕ → Row
below c = row (compare (the "X") relations.Less (num c)) "T"

-- n numbers from c on
abbrev pub from_on : ℕ → ℕ → List ℕ
from_on c zero = []
from_on c (suc n) = c ∷ from_on (suc c) n

-- range R 0 .. 3000; input X : R = 0; macro M { X < 1 | T; X < 2 | T; .. }
abbrev pub ascending : ℕ → Spec
ascending n = spec (range "R" (plus 0) (plus 3000) ∷ input "X" None "R" (from (plus 0)) ∷ macro "M" None (map below (from_on 1 n)) ∷ []) Basic

-- its names, whatever the rows are
abbrev of : List Row → Globals
of rows = globals (range "R" (plus 0) (plus 3000) ∷ input "X" None "R" (from (plus 0)) ∷ macro "M" None rows ∷ [])

abbrev x : InputCell
x = record { previous = false; input = codes "X"; at = 0 }

abbrev comparison : ℕ → Comparison
comparison c = record { left = (false, OfCell x) ∷ []; relation = relations.Less; right = (false, OfNumber (pos c)) ∷ [] }

abbrev threshold : ℕ → Threshold
threshold c = (x, pos c)

plus_zero : (n : ℕ) → n + 0 ≡ n
plus_zero n = omega arith

read : (rows : List Row) (cs : List ℕ) → rows_comparisons (of rows) (map below cs ++ []) 0 ++ [] ++ [] ≡ map comparison cs
read rows [] = refl
read rows (c ∷ cs) = ap (λ xs. comparison c ∷ xs) (read rows cs)

one : (rows : List Row) (c : ℕ) → 0 < c → c ≤ 3000 → thresholds (of rows) (comparison c) ≡ threshold c ∷ []
one rows c low high = let e : c + 0 ≡ c = omega arith in rw (e, lt-ltb 0 c low, le-leb c 3000 high) refl

none : (cs : List ℕ) → flat_map keys (map comparison cs) ≡ []
none [] = refl
none (c ∷ cs) = none cs

differs : (c d : ℕ) → c < d → same_threshold (threshold c) (threshold d) ≡ false
differs c d h = rw (lt-ltb c d h) refl

asked : (rows : List Row) (c n : ℕ) → 0 < c → c + n ≤ 3001 → flat_map (thresholds (of rows)) (map comparison (from_on c n)) ≡ map threshold (from_on c n)
asked rows c zero low high = refl
asked rows c (suc n) low high =
    let fits : c ≤ 3000 = omega (arith, high) in
    let rest : suc c + n ≤ 3001 = omega (arith, high) in
    ap (λ ts. ts ++ flat_map (thresholds (of rows)) (map comparison (from_on (suc c) n))) (one rows c low fits)
    ∙ ap (λ ts. threshold c ∷ ts) (asked rows (suc c) n (omega arith) rest)

later : (c d n : ℕ) → c < d → list_any (same_threshold (threshold c)) (map threshold (from_on d n)) ≡ false
later c d zero h = refl
later c d (suc n) h = rw (differs c d h, later c (suc d) n (omega (arith, h))) refl

all_differ : (c n : ℕ) → length (distinct same_threshold (map threshold (from_on c n))) ≡ n
all_differ c zero = refl
all_differ c (suc n) = rw (later c (suc c) n (omega arith), all_differ (suc c) n) refl

pub thresholds_of_ascending : (n : ℕ) → n ≤ 3000 → thresholds_and_keys (ascending n) ≡ n
thresholds_of_ascending n h =
    let cs = from_on 1 n in
    let all : all_comparisons (ascending n) ≡ map comparison cs = read (map below cs) cs in
    let fits : 1 + n ≤ 3001 = omega (arith, h) in
    ap (λ xs. length (distinct same_threshold (flat_map (thresholds (of (map below cs))) xs)) + length (distinct same_key (flat_map keys xs))) all
    ∙ ap (λ ts. length (distinct same_threshold ts) + length (distinct same_key (flat_map keys (map comparison cs)))) (asked (map below cs) 1 n (omega arith) fits)
    ∙ ap (λ ks. length (distinct same_threshold (map threshold cs)) + length (distinct same_key ks)) (none cs)
    ∙ ap (λ k. k + 0) (all_differ 1 n)
    ∙ plus_zero n

-- the greatest number that keeps the limit, and the least that breaks it
keeps_2048_thresholds : thresholds_and_keys (ascending 2048) ≡ 2048
keeps_2048_thresholds = thresholds_of_ascending 2048 (omega arith)

breaks_2049_thresholds : thresholds_and_keys (ascending 2049) ≡ 2049
breaks_2049_thresholds = thresholds_of_ascending 2049 (omega arith)
