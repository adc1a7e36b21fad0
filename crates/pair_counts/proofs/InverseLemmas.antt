-- Lists by their numbers, and blocks by their lists.
use Rattle.std.proofs.Common.{◌≡◌, ℕ, zero, suc, ◌+◌, ◌<◌, ◌≤◌, ◌==◌, ◌||◌, ◌&&◌, Bool, true, false, cond, nat_eq, List, [], ◌∷◌, ◌++◌, length, get_or, take, map, filter, refl, sym, ap, ◌∙◌, ⊎_elim, arith}
use Rattle.std.specs.Cmp.{nat_eq_equiv}
use Rattle.std.specs.Global.{Vec}
use Rattle.std.proofs.lemmas.Bool.{cases_eq, ne_eqb}
use Rattle.std.proofs.lemmas.List.{take_more, map_push, map-append, length-map, length-take-le}
use Rattle.std.proofs.lemmas.List.Elements.{filter-append}
use Rattle.std.proofs.lemmas.List.Folds.{list_any-append}
use Rattle.pair_counts.specs.declared.blocks.Block.{Block}
use Rattle.pair_counts.specs.Grouped.{places_of}
use Rattle.pair_counts.specs.Blocks.{list_at}
use Rattle.pair_counts.specs.Sets.{is_among}
use Rattle.pair_counts.proofs.SetLemmas.{push_same, push_other}

abbrev items : Vec ℕ → List ℕ
items v = v.items

-- none past the end
pub list_past : (lists : List (List ℕ)) (i : ℕ) → length lists ≤ i → list_at lists i ≡ []
list_past [] i h = refl
list_past (l ∷ lists) zero h = absurd (omega arith)
list_past (l ∷ lists) (suc i) h = list_past lists i (omega arith)

-- LINES FROM THE NUMBERS OF A LIST TO ITS PLACE

abbrev pub to_place : ℕ → ℕ → Block
to_place place n = record { fixed = n; list = place }

places_append : (xs ys : List Block) (n : ℕ) → places_of (xs ++ ys) n ≡ places_of xs n ++ places_of ys n
places_append xs ys n =
    ap (map (λ l. l.list)) (filter-append (λ l. n == l.fixed) xs ys)
    ∙ map-append (λ l. l.list) (filter (λ l. n == l.fixed) xs) (filter (λ l. n == l.fixed) ys)

to_one_place : (place n p : ℕ) (ns : List ℕ) → is_among nat_eq (places_of (map (to_place place) ns) n) p ≡ (is_among nat_eq ns n && nat_eq p place)
to_one_place place n p [] = refl
to_one_place place n p (m ∷ ns) = by (n == m) (to_one_place place n p ns)
  where
    both : (a b : Bool) → (a || (b && a)) ≡ a
    both true true = refl
    both true false = refl
    both false true = refl
    both false false = refl

    by : (b : Bool) → is_among nat_eq (places_of (map (to_place place) ns) n) p ≡ (is_among nat_eq ns n && nat_eq p place) →
        is_among nat_eq (map (λ (l : Block). l.list) (cond b (to_place place m ∷ filter (λ (l : Block). n == l.fixed) (map (to_place place) ns)) (filter (λ (l : Block). n == l.fixed) (map (to_place place) ns)))) p
        ≡ ((b || is_among nat_eq ns n) && nat_eq p place)
    by true rest = ap (λ b. nat_eq p place || b) rest ∙ both (nat_eq p place) (is_among nat_eq ns n)
    by false rest = rest

or_false : (b : Bool) → (b || false) ≡ b
or_false true = refl
or_false false = refl

and_false : (b : Bool) → (b && false) ≡ false
and_false true = refl
and_false false = refl

and_true : (b : Bool) → (b && true) ≡ b
and_true true = refl
and_true false = refl

-- one more list
pub blocks_turn : (lists : List (Vec ℕ)) (i : ℕ) (v : Vec ℕ) (blocks more : List Block) → i < length lists → v ≡ get_or lists i v →
    ((n p : ℕ) → is_among nat_eq (places_of blocks n) p ≡ is_among nat_eq (list_at (map items (take i lists)) p) n) →
    more ≡ blocks ++ map (to_place i) v.items →
    (n p : ℕ) → is_among nat_eq (places_of more n) p ≡ is_among nat_eq (list_at (map items (take (i + 1) lists)) p) n
blocks_turn lists i v blocks more h is before put n p =
    ap (λ ls. is_among nat_eq (places_of ls n) p) put
    ∙ ap (λ ps. is_among nat_eq ps p) (places_append blocks (map (to_place i) v.items) n)
    ∙ list_any-append (nat_eq p) (places_of blocks n) (places_of (map (to_place i) v.items) n)
    ∙ (λ j. before n p j || to_one_place i n p v.items j)
    ∙ ⊎_elim here elsewhere (cases_eq p i)
    ∙ ap (λ ls. is_among nat_eq (list_at ls p) n) (sym listed)
  where
    listed : map items (take (i + 1) lists) ≡ map items (take i lists) ++ v.items ∷ []
    listed = ap (map items) (take_more lists i v h) ∙ map_push items (take i lists) (get_or lists i v) ∙ ap (λ w. map items (take i lists) ++ items w ∷ []) (sym is)

    long : length (map items (take i lists)) ≡ i
    long = omega (arith, length-map (take i lists) items, length-take-le i lists (omega arith))

    here : p ≡ i →
        (is_among nat_eq (list_at (map items (take i lists)) p) n || (is_among nat_eq v.items n && nat_eq p i)) ≡ is_among nat_eq (list_at (map items (take i lists) ++ v.items ∷ []) p) n
    here e =
        (λ j. is_among nat_eq (list_past (map items (take i lists)) p (omega (arith, long)) j) n || (is_among nat_eq v.items n && (ap (nat_eq p) (sym e) ∙ nat_eq_equiv.refl p) j))
        ∙ and_true (is_among nat_eq v.items n)
        ∙ ap (λ ns. is_among nat_eq ns n) (sym (push_same (map items (take i lists)) v.items p (long ∙ sym e)))

    elsewhere : (p ≡ i → ⊥) →
        (is_among nat_eq (list_at (map items (take i lists)) p) n || (is_among nat_eq v.items n && nat_eq p i)) ≡ is_among nat_eq (list_at (map items (take i lists) ++ v.items ∷ []) p) n
    elsewhere ne =
        ap (λ b. is_among nat_eq (list_at (map items (take i lists)) p) n || b) (ap (λ b. is_among nat_eq v.items n && b) (ne_eqb p i ne) ∙ and_false (is_among nat_eq v.items n))
        ∙ or_false (is_among nat_eq (list_at (map items (take i lists)) p) n)
        ∙ ap (λ ns. is_among nat_eq ns n) (sym (push_other (map items (take i lists)) v.items p (λ e. ne (sym e ∙ long))))

-- LINES WITH THEIR NUMBERS SWAPPED

abbrev swap : Block → Block
swap l = record { fixed = l.list; list = l.fixed }

pub swapped_among : (blocks : List Block) (place n : ℕ) → is_among nat_eq (places_of (map swap blocks) place) n ≡ is_among nat_eq (places_of blocks n) place
swapped_among [] place n = refl
swapped_among (l ∷ blocks) place n = by (place == l.list) (n == l.fixed) refl refl (swapped_among blocks place n)
  where
    by : (a b : Bool) → place == l.list ≡ a → n == l.fixed ≡ b → is_among nat_eq (places_of (map swap blocks) place) n ≡ is_among nat_eq (places_of blocks n) place →
        is_among nat_eq (map (λ (l : Block). l.list) (cond a (swap l ∷ filter (λ (l : Block). place == l.fixed) (map swap blocks)) (filter (λ (l : Block). place == l.fixed) (map swap blocks)))) n
        ≡ is_among nat_eq (map (λ (l : Block). l.list) (cond b (l ∷ filter (λ (l : Block). n == l.fixed) blocks) (filter (λ (l : Block). n == l.fixed) blocks))) place
    by true true s t rest = (λ j. (t j || rest j)) ∙ sym (ap (λ b. b || is_among nat_eq (places_of blocks n) place) s)
    by true false s t rest = (λ j. (t j || rest j))
    by false true s t rest = rest ∙ sym (ap (λ b. b || is_among nat_eq (places_of blocks n) place) s)
    by false false s t rest = rest

-- LISTS OF GROUPS

pub lists_turn : (f : ℕ → List ℕ) (lists more : List (Vec ℕ)) (v : Vec ℕ) (i : ℕ) → length lists ≡ i → ((p : ℕ) → p < i → list_at (map items lists) p ≡ f p) →
    more ≡ lists ++ v ∷ [] → v.items ≡ f i → (p : ℕ) → p < i + 1 → list_at (map items more) p ≡ f p
lists_turn f lists more v i long before put is p h =
    ap (λ ls. list_at (map items ls) p) put
    ∙ ap (λ ls. list_at ls p) (map_push items lists v)
    ∙ ⊎_elim
    (λ (e : i ≡ p). push_same (map items lists) v.items p (length-map lists items ∙ long ∙ e) ∙ is ∙ ap f e)
    (λ (ne : i ≡ p → ⊥). push_other (map items lists) v.items p (λ e. ne (sym long ∙ sym (length-map lists items) ∙ e)) ∙ before p (omega arith))
    (cases_eq i p)
