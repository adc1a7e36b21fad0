-- Lanes of the words of columns, and groups of places.
use Rattle.std.proofs.Common.{◌≡◌, ℕ, ◌+◌, ◌-◌, ◌*◌, ◌%◌, ◌^◌, ◌<◌, ◌≤◌, suc, zero, Bool, true, false, not, ◌||◌, cond, eqb, List, [], ◌∷◌, length, get_or, map, take, replicate, refl, ap, sym, ◌∙◌, arith, add-one, add-zero, w64}
use Rattle.std.specs.List.{list_any, range_with_len}
use Rattle.std.specs.Simd.Lanes.{mask_l, zip2, chunk, top}
use Rattle.std.proofs.lemmas.List.{drop_more}
use Rattle.std.proofs.lemmas.List.Folds.{list_any-append}
use Rattle.std.proofs.lemmas.Simd.{tops_compared, zip2_splat_left, mask_l-mod, length-zip2}
use Rattle.std.proofs.Math.Bool.{or-false, or-true}
use Rattle.std.proofs.lemmas.Bool.Decides.{nat_tests}
use mir.Val.{bits, hbits}
use lib.Bits.{bit_and}
use Rattle.rsml_syntax.specs.rules.Tables.{below}
use Rattle.and_or_tables.specs.Cells.{holds}

-- a mask is not 0 where one of its bits is set
mask-any : (ms : List Bool) → not (eqb (mask_l ms) 0) ≡ list_any (λ b. b) ms
mask-any [] = refl
mask-any (true ∷ ms) = one (mask_l ms)
  where
    one : (n : ℕ) → not (eqb (1 + 2 * n) 0) ≡ true
    one n = grind (arith, nat_tests)
mask-any (false ∷ ms) = none (mask_l ms) ∙ mask-any ms
  where
    none : (n : ℕ) → not (eqb (0 + 2 * n) 0) ≡ not (eqb n 0)
    none n = grind (arith, nat_tests)

map-zip2 : {X Y Z W : Type 0} (g : Z → W) (f : X → Y → Z) (xs : List X) (ys : List Y) → map g (zip2 f xs ys) ≡ zip2 (λ x y. g (f x y)) xs ys
map-zip2 g f [] ys = refl
map-zip2 g f (x ∷ xs) [] = refl
map-zip2 g f (x ∷ xs) (y ∷ ys) = ap (λ zs. g (f x y) ∷ zs) (map-zip2 g f xs ys)

zip2-map_left : {X Y Z V : Type 0} (f : X → Y → Z) (g : V → X) (vs : List V) (ys : List Y) → zip2 f (map g vs) ys ≡ zip2 (λ v y. f (g v) y) vs ys
zip2-map_left f g [] ys = refl
zip2-map_left f g (v ∷ vs) [] = refl
zip2-map_left f g (v ∷ vs) (y ∷ ys) = ap (λ zs. f (g v) y ∷ zs) (zip2-map_left f g vs ys)

-- a word against the care words and the want words of some lanes
pub lanes_compared : (n word : ℕ) (care want : List ℕ) → length care ≡ n
    → map (top (hbits w64)) (zip2 (λ a b. cond (eqb a b) (2 ^ bits w64 - 1) 0) (zip2 bit_and (replicate n word) care) want)
    ≡ zip2 (λ c w. eqb (bit_and word c) w) care want
lanes_compared n word care want long =
    tops_compared w64 eqb (zip2 bit_and (replicate n word) care) want
    ∙ ap (λ xs. zip2 eqb xs want) (zip2_splat_left bit_and word n care long)
    ∙ zip2-map_left eqb (bit_and word) care want

-- some lane is true
pub lanes_any : (n word : ℕ) (care want : List ℕ) → length care ≡ n → length want ≡ n → n ≤ 64
    → not (eqb (mask_l (map (top (hbits w64)) (zip2 (λ a b. cond (eqb a b) (2 ^ bits w64 - 1) 0) (zip2 bit_and (replicate n word) care) want)) % 2 ^ 64) 0)
    ≡ list_any (λ b. b) (zip2 (λ c w. eqb (bit_and word c) w) care want)
lanes_any n word care want long as_long few =
    let hits = zip2 (λ c w. eqb (bit_and word c) w) care want in
    let test : ℕ → ℕ → Bool = λ c w. eqb (bit_and word c) w in
    let wide : length (zip2 test care want) ≤ 64 = omega (arith, length-zip2 test care want (long ∙ sym as_long)) in
    ap (λ ms. not (eqb (mask_l ms % 2 ^ 64) 0)) (lanes_compared n word care want long)
    ∙ ap (λ k. not (eqb k 0)) (mask_l-mod hits 64 wide)
    ∙ mask-any hits

-- the lanes of a load, by their places
pub chunk_holds : (word : ℕ) (care want : List ℕ) (n at : ℕ) → at + n ≤ length care → at + n ≤ length want
    → list_any (λ b. b) (zip2 (λ c w. eqb (bit_and word c) w) (chunk at n care) (chunk at n want)) ≡ list_any (holds word care want) (range_with_len at n)
chunk_holds word care want zero at within as_well = refl
chunk_holds word care want (suc n) at within as_well =
    let test : ℕ → ℕ → Bool = λ c w. eqb (bit_and word c) w in
    let here : at < length care = omega arith in
    let there : at < length want = omega arith in
    ap (λ cs. list_any (λ b. b) (zip2 test (take (suc n) cs) (chunk at (suc n) want))) (drop_more care at 0 here)
    ∙ ap (λ ws. list_any (λ b. b) (zip2 test (get_or care at 0 ∷ chunk (at + 1) n care) (take (suc n) ws))) (drop_more want at 0 there)
    ∙ ap (λ b. holds word care want at || b) (chunk_holds word care want n (at + 1) (omega arith) (omega arith))

-- places up to one, and a group of places from there on
pub group_any : (f : ℕ → Bool) (n at : ℕ) → list_any f (below (at + n)) ≡ (list_any f (below at) || list_any f (range_with_len at n))
group_any f zero at = ap (λ k. list_any f (below k)) (add-zero at) ∙ sym (or-false (list_any f (below at)))
group_any f (suc n) at =
    let step : at + suc n ≡ at + 1 + n = omega arith in
    ap (λ k. list_any f (below k)) step
    ∙ group_any f n (at + 1)
    ∙ ap (λ b. b || list_any f (range_with_len (at + 1) n)) (ap (λ k. list_any f (below k)) (add-one at) ∙ list_any-append f (below at) (at ∷ []))
    ∙ regroup (list_any f (below at)) (f at) (list_any f (range_with_len (at + 1) n))
  where
    regroup : (a b c : Bool) → (a || (b || false)) || c ≡ (a || (b || c))
    regroup true b c = refl
    regroup false true c = refl
    regroup false false c = refl

pub group_none : (f : ℕ → Bool) (n at : ℕ) → list_any f (below at) ≡ false → list_any f (range_with_len at n) ≡ false → list_any f (below (at + n)) ≡ false
group_none f n at before here = group_any f n at ∙ rw (before, here) refl

-- a true place in a group settles the answer
pub group_some : (f : ℕ → Bool) (n at end : ℕ) → at + n ≤ end → list_any f (range_with_len at n) ≡ true → list_any f (below end) ≡ true
group_some f n at end within here =
    let rest : end ≡ at + n + (end - (at + n)) = omega arith in
    ap (λ k. list_any f (below k)) rest
    ∙ group_any f (end - (at + n)) (at + n)
    ∙ ap (λ b. b || list_any f (range_with_len (at + n) (end - (at + n)))) (group_any f n at ∙ ap (λ b. list_any f (below at) || b) here ∙ or-true (list_any f (below at)))
