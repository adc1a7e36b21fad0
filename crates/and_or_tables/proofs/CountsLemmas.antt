-- Lanes that count.
use Rattle.std.proofs.Common.{◌≡◌, ℕ, ◌+◌, ◌-◌, ◌^◌, ◌<◌, ◌≤◌, suc, zero, Bool, true, false, cond, eqb, List, [], ◌∷◌, length, get_or, map, take, drop, replicate, refl, ap, sym, ◌∙◌, arith, w64}
use Rattle.std.specs.List.{count_by}
use Rattle.std.specs.Simd.Lanes.{Each1, Each2, chunk, put_chunk, sel_l, sum_l, top, zip2}
use Rattle.std.proofs.lemmas.List.{length-map, take_rest, take-append-drop}
use Rattle.std.proofs.lemmas.List.Sums.{count_by-le-length, sum_by-cons, sum_by-append}
use Rattle.std.proofs.Math.Seq.{take-add}
use Rattle.std.proofs.lemmas.Simd.{tops_compared, zip2_splat, map-map, length-zip2, sum-zip2, adds_fit, Each2-of, Each1-from_get_or, get_or-chunk, length-chunk, get_or-zip2, get_or-put_chunk_at}
use mir.Val.{Fits, bits, hbits}
use lib.Bits.{bit_and}
use Rattle.and_or_tables.specs.Cells.{holds}
use Rattle.and_or_tables.proofs.LanesLemmas.{lanes_compared}

-- 1 in each lane that is true
abbrev pub ones : List Bool → List ℕ
ones hits = map (λ (hit : Bool). cond hit 1 0) hits

selected : (hits : List Bool) (n : ℕ) → length hits ≡ n → sel_l hits (replicate n 1) (replicate n 0) ≡ ones hits
selected [] n long = refl
selected (hit ∷ hits) zero long = absurd (omega arith)
selected (hit ∷ hits) (suc n) long = ap (λ xs. cond hit 1 0 ∷ xs) (selected hits n (omega arith))

ones-small : (hits : List Bool) → Each1 (λ n. n ≤ 1) (ones hits)
ones-small [] = tt
ones-small (true ∷ hits) = (omega arith, ones-small hits)
ones-small (false ∷ hits) = (omega arith, ones-small hits)

zip2-map_right : {X Y Z V : Type 0} (f : X → Y → Z) (g : V → Y) (xs : List X) (vs : List V) → zip2 f xs (map g vs) ≡ zip2 (λ x v. f x (g v)) xs vs
zip2-map_right f g [] vs = refl
zip2-map_right f g (x ∷ xs) [] = refl
zip2-map_right f g (x ∷ xs) (v ∷ vs) = ap (λ zs. f x (g v) ∷ zs) (zip2-map_right f g xs vs)

-- what the lanes of a comparison select of ones and zeros
compared_ones : (n word : ℕ) (care want : List ℕ) → length care ≡ n → length want ≡ n
    → sel_l (map (top (hbits w64)) (zip2 (λ a b. cond (eqb a b) (2 ^ bits w64 - 1) 0) (zip2 bit_and (replicate n word) care) want)) (replicate n 1) (replicate n 0)
    ≡ ones (zip2 (λ c w. eqb (bit_and word c) w) care want)
compared_ones n word care want long as_long =
    let test : ℕ → ℕ → Bool = λ c w. eqb (bit_and word c) w in
    ap (λ hits. sel_l hits (replicate n 1) (replicate n 0)) (lanes_compared n word care want long)
    ∙ selected (zip2 test care want) n (length-zip2 test care want (long ∙ sym as_long) ∙ long)

pub counted_fits : (n word : ℕ) (care want counts : List ℕ) → length care ≡ n → length want ≡ n → Each1 (λ count. count < 18446744073709551615) counts
    → Each2 (λ a b. Fits w64 (a + b)) counts
    (sel_l (map (top (hbits w64)) (zip2 (λ a b. cond (eqb a b) (2 ^ bits w64 - 1) 0) (zip2 bit_and (replicate n word) care) want)) (replicate n 1) (replicate n 0))
counted_fits n word care want counts long as_long room =
    let hits = zip2 (λ c w. eqb (bit_and word c) w) care want in
    rw (compared_ones n word care want long as_long)
    (Each2-of (λ count. count < 18446744073709551615) (λ k. k ≤ 1) (λ a b. Fits w64 (a + b)) (λ a b p q. record { fits = omega arith }) counts (ones hits) room (ones-small hits))

pub counted_sums : (n word : ℕ) (care want counts : List ℕ) → length care ≡ n → length want ≡ n
    → zip2 (λ a b. a + b) counts
    (sel_l (map (top (hbits w64)) (zip2 (λ a b. cond (eqb a b) (2 ^ bits w64 - 1) 0) (zip2 bit_and (replicate n word) care) want)) (replicate n 1) (replicate n 0))
    ≡ zip2 (λ count hit. count + cond hit 1 0) counts (zip2 (λ c w. eqb (bit_and word c) w) care want)
counted_sums n word care want counts long as_long =
    let hits = zip2 (λ c w. eqb (bit_and word c) w) care want in
    ap (zip2 (λ a b. a + b) counts) (compared_ones n word care want long as_long)
    ∙ zip2-map_right (λ a b. a + b) (λ (hit : Bool). cond hit 1 0) counts hits

-- ---- words in lanes, against one column

hits_of : (n care want : ℕ) (words : List ℕ) → length words ≡ n
    → sel_l (map (top (hbits w64)) (zip2 (λ a b. cond (eqb a b) (2 ^ bits w64 - 1) 0) (zip2 bit_and words (replicate n care)) (replicate n want))) (replicate n 1) (replicate n 0)
    ≡ ones (map (λ word. eqb (bit_and word care) want) words)
hits_of n care want words long =
    let masked : List ℕ = map (λ word. bit_and word care) words in
    let as_long : length masked ≡ n = length-map words (λ word. bit_and word care) ∙ long in
    let test : ℕ → Bool = λ word. eqb (bit_and word care) want in
    ap (λ hits. sel_l hits (replicate n 1) (replicate n 0))
    (tops_compared w64 eqb (zip2 bit_and words (replicate n care)) (replicate n want)
    ∙ ap (λ xs. zip2 eqb xs (replicate n want)) (zip2_splat bit_and words n care long)
    ∙ zip2_splat eqb masked n want as_long
    ∙ map-map (λ x. eqb x want) (λ word. bit_and word care) words)
    ∙ selected (map test words) n (length-map words test ∙ long)

sum-ones : (p : ℕ → Bool) (words : List ℕ) → sum_l (ones (map p words)) ≡ count_by p words
sum-ones p [] = refl
sum-ones p (word ∷ words) = ap (λ n. cond (p word) 1 0 + n) (sum-ones p words) ∙ sym (sum_by-cons (λ w. cond (p w) 1 0) word words)

pub hits_fit : (n care want : ℕ) (words sums : List ℕ) → length words ≡ n → sum_l sums + n < 2 ^ 64
    → Each2 (λ a b. Fits w64 (a + b)) sums
    (sel_l (map (top (hbits w64)) (zip2 (λ a b. cond (eqb a b) (2 ^ bits w64 - 1) 0) (zip2 bit_and words (replicate n care)) (replicate n want))) (replicate n 1) (replicate n 0))
hits_fit n care want words sums long room =
    let p : ℕ → Bool = λ word. eqb (bit_and word care) want in
    rw (hits_of n care want words long) (adds_fit w64 sums (ones (map p words)) (omega (arith, sum-ones p words, count_by-le-length p words)))

pub hits_sums : (n care want : ℕ) (words sums : List ℕ) → length words ≡ n
    → zip2 (λ a b. a + b) sums
    (sel_l (map (top (hbits w64)) (zip2 (λ a b. cond (eqb a b) (2 ^ bits w64 - 1) 0) (zip2 bit_and words (replicate n care)) (replicate n want))) (replicate n 1) (replicate n 0))
    ≡ zip2 (λ a b. a + b) sums (ones (map (λ word. eqb (bit_and word care) want) words))
hits_sums n care want words sums long = ap (zip2 (λ a b. a + b) sums) (hits_of n care want words long)

length-ones : (p : ℕ → Bool) (words : List ℕ) → length (ones (map p words)) ≡ length words
length-ones p words = length-map (map p words) (λ (hit : Bool). cond hit 1 0) ∙ length-map words p

pub hits_lanes : (n : ℕ) (p : ℕ → Bool) (words sums : List ℕ) → length words ≡ n → length sums ≡ n
    → length (zip2 (λ a b. a + b) sums (ones (map p words))) ≡ n
hits_lanes n p words sums long as_long =
    length-zip2 (λ a b. a + b) sums (ones (map p words)) (omega (arith, length-ones p words)) ∙ as_long

pub hits_counted : (n : ℕ) (p : ℕ → Bool) (words sums : List ℕ) → length words ≡ n → length sums ≡ n
    → sum_l (zip2 (λ a b. a + b) sums (ones (map p words))) ≡ sum_l sums + count_by p words
hits_counted n p words sums long as_long =
    sum-zip2 sums (ones (map p words)) (omega (arith, length-ones p words)) ∙ ap (λ k. sum_l sums + k) (sum-ones p words)

-- the words up to a place, and some lanes from there on
pub hits_so_far : (p : ℕ → Bool) (words : List ℕ) (at n before after : ℕ) → before ≡ count_by p (take at words) → after ≡ before + count_by p (chunk at n words)
    → after ≡ count_by p (take (at + n) words)
hits_so_far p words at n before after counted more =
    more
    ∙ ap (λ k. k + count_by p (chunk at n words)) counted
    ∙ sym (ap (count_by p) (take-add at n words) ∙ sum_by-append (λ w. cond (p w) 1 0) (take at words) (chunk at n words))

-- ---- the columns of four lanes

pub room_in_chunk : (counts : List ℕ) (at n : ℕ) → at + n ≤ length counts → ((k : ℕ) → at ≤ k → k < at + n → get_or counts k 0 < 18446744073709551615)
    → Each1 (λ count. count < 18446744073709551615) (chunk at n counts)
room_in_chunk counts at n within room =
    Each1-from_get_or (λ count. count < 18446744073709551615) (chunk at n counts) 0
    (λ k inside. let less : k < n = omega (arith, length-chunk at n counts within) in rw (get_or-chunk at n counts k 0 less) (room (at + k) (omega arith) (omega arith)))

-- what a place of the four has after the store
pub counted_place : (word : ℕ) (care want counts sums : List ℕ) (at n k : ℕ) → at + n ≤ length care → at + n ≤ length want → at + n ≤ length counts
    → sums ≡ zip2 (λ count hit. count + cond hit 1 0) (chunk at n counts) (zip2 (λ c w. eqb (bit_and word c) w) (chunk at n care) (chunk at n want))
    → at ≤ k → k < at + n
    → get_or (put_chunk at counts sums) k 0 ≡ get_or counts k 0 + cond (holds word care want k) 1 0
counted_place word care want counts sums at n k in_care in_want in_counts are low high =
    let test : ℕ → ℕ → Bool = λ c w. eqb (bit_and word c) w in
    let add : ℕ → Bool → ℕ = λ count hit. count + cond hit 1 0 in
    let cs = chunk at n care in
    let ws = chunk at n want in
    let ns = chunk at n counts in
    let hits = zip2 test cs ws in
    let c_long = length-chunk at n care in_care in
    let w_long = length-chunk at n want in_want in
    let n_long = length-chunk at n counts in_counts in
    let h_long : length hits ≡ n = length-zip2 test cs ws (c_long ∙ sym w_long) ∙ c_long in
    let s_long : length sums ≡ n = ap length are ∙ length-zip2 add ns hits (n_long ∙ sym h_long) ∙ n_long in
    let i : ℕ = k - at in
    let place : k ≡ at + i = omega arith in
    let less : i < n = omega arith in
    ap (λ m. get_or (put_chunk at counts sums) m 0) place
    ∙ get_or-put_chunk_at at counts sums i 0 (omega arith) (omega arith)
    ∙ ap (λ xs. get_or xs i 0) are
    ∙ get_or-zip2 add ns hits i 0 false 0 (omega arith) (omega arith)
    ∙ ap (λ m. m + cond (get_or hits i false) 1 0) (get_or-chunk at n counts i 0 less)
    ∙ ap (λ hit. get_or counts (at + i) 0 + cond hit 1 0) (get_or-zip2 test cs ws i 0 0 false (omega arith) (omega arith))
    ∙ ap (λ m. get_or counts (at + i) 0 + cond (eqb (bit_and word m) (get_or ws i 0)) 1 0) (get_or-chunk at n care i 0 less)
    ∙ ap (λ m. get_or counts (at + i) 0 + cond (eqb (bit_and word (get_or care (at + i) 0)) m) 1 0) (get_or-chunk at n want i 0 less)
    ∙ ap (λ m. get_or counts m 0 + cond (holds word care want m) 1 0) (sym place)

pub length_counted : (word : ℕ) (care want counts sums : List ℕ) (at n : ℕ) → at + n ≤ length care → at + n ≤ length want → at + n ≤ length counts
    → sums ≡ zip2 (λ count hit. count + cond hit 1 0) (chunk at n counts) (zip2 (λ c w. eqb (bit_and word c) w) (chunk at n care) (chunk at n want))
    → length sums ≡ n
length_counted word care want counts sums at n in_care in_want in_counts are =
    let test : ℕ → ℕ → Bool = λ c w. eqb (bit_and word c) w in
    let add : ℕ → Bool → ℕ = λ count hit. count + cond hit 1 0 in
    let c_long = length-chunk at n care in_care in
    let w_long = length-chunk at n want in_want in
    let n_long = length-chunk at n counts in_counts in
    let h_long : length (zip2 test (chunk at n care) (chunk at n want)) ≡ n = length-zip2 test (chunk at n care) (chunk at n want) (c_long ∙ sym w_long) ∙ c_long in
    ap length are ∙ length-zip2 add (chunk at n counts) (zip2 test (chunk at n care) (chunk at n want)) (n_long ∙ sym h_long) ∙ n_long

-- ---- blocks of words

-- the words up to a place, and a block from there on
pub block_more : (p : ℕ → Bool) (words : List ℕ) (at n before after first : ℕ) → before ≡ first + count_by p (take at words)
    → after ≡ before + count_by p (take (at + n - at) (drop at words))
    → after ≡ first + count_by p (take (at + n) words)
block_more p words at n before after first counted more =
    let size : at + n - at ≡ n = omega arith in
    let joined : count_by p (take (at + n) words) ≡ count_by p (take at words) + count_by p (take n (drop at words)) =
    ap (count_by p) (take-add at n words) ∙ sum_by-append (λ w. cond (p w) 1 0) (take at words) (take n (drop at words)) in
    let here : count_by p (take (at + n - at) (drop at words)) ≡ count_by p (take n (drop at words)) = ap (λ k. count_by p (take k (drop at words))) size in
    omega (arith, joined, here, counted, more)

-- the words up to a place, and all the others
pub block_last : (p : ℕ → Bool) (words : List ℕ) (at before after first : ℕ) → before ≡ first + count_by p (take at words)
    → after ≡ before + count_by p (take (length words - at) (drop at words))
    → after ≡ first + count_by p words
block_last p words at before after first counted more =
    let rest : count_by p (take (length words - at) (drop at words)) ≡ count_by p (drop at words) = ap (count_by p) (take_rest words at) in
    let joined : count_by p words ≡ count_by p (take at words) + count_by p (drop at words) =
    ap (count_by p) (sym (take-append-drop at words)) ∙ sum_by-append (λ w. cond (p w) 1 0) (take at words) (drop at words) in
    omega (arith, joined, rest, counted, more)
