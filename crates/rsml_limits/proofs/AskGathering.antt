-- Going through comparisons one list after another.
use Rattle.std.proofs.Common.{◌≡◌, ℕ, suc, ◌+◌, ◌<◌, List, [], ◌∷◌, ◌++◌, length, drop, get_or, add-one, append_assoc, sym, ap, ◌∙◌}
use Rattle.std.specs.Prelude.{flat_map}
use Rattle.std.proofs.lemmas.Grind.{flat_map-append}
use Rattle.std.proofs.lemmas.List.{append-nil}
use Rattle.rsml_syntax.specs.declared.syntax.Row.{Row}
use Rattle.rsml_syntax.specs.rules.Globals.{Globals, up_to}
use Rattle.rsml_syntax.specs.limits.Comparisons.{Comparison, rows_comparisons, phrase_comparisons}
use Rattle.rsml_limits.specs.comparisons.Searched.{Searched, searched}
use Rattle.rsml_limits.proofs.SumLemmas.{split}

pub searched_append : (s : Searched) (xs ys : Globals → List Comparison) → searched s (λ g. xs g ++ ys g) ≡ searched (searched s xs) ys
searched_append s xs ys = ap (λ (f : List Comparison). record { globals = s.globals; found = f }) (sym (append_assoc s.found (xs s.globals) (ys s.globals)))

-- a turn of a loop over items: what an item has comes off what is to come
pub searched_turn : {A : Type 0} (f : Globals → A → List Comparison) (old new all : Searched) (xs : List A) (i : ℕ) (x : A) →
    i < length xs → x ≡ get_or xs i x → new ≡ searched old (λ g. f g x) →
    searched old (λ g. flat_map (f g) (drop i xs)) ≡ all → searched new (λ g. flat_map (f g) (drop (i + 1) xs)) ≡ all
searched_turn f old new all xs i x h is added before =
    ap (λ s. searched s (λ g. flat_map (f g) (drop (i + 1) xs))) added
    ∙ sym (searched_append old (λ g. f g x) (λ g. flat_map (f g) (drop (i + 1) xs)))
    ∙ ap (λ ys. searched old (λ g. flat_map (f g) ys)) (sym (split xs i x h is))
    ∙ before

-- one more number
up_to_more : (f : ℕ → List Comparison) (i : ℕ) → flat_map f (up_to (i + 1)) ≡ flat_map f (up_to i) ++ f (i + 1)
up_to_more f i =
    ap (λ n. flat_map f (up_to n)) (add-one i)
    ∙ flat_map-append f (up_to i) (suc i ∷ [])
    ∙ ap (λ ys. flat_map f (up_to i) ++ ys) (append-nil (f (suc i)))
    ∙ ap (λ n. flat_map f (up_to i) ++ f n) (sym (add-one i))

-- a turn of a loop over the numbers from 1
pub searched_next : (f : Globals → ℕ → List Comparison) (start old new : Searched) (i : ℕ) →
    old ≡ searched start (λ g. flat_map (f g) (up_to i)) → new ≡ searched old (λ g. f g (i + 1)) → new ≡ searched start (λ g. flat_map (f g) (up_to (i + 1)))
searched_next f start old new i before added =
    added
    ∙ ap (λ s. searched s (λ g. f g (i + 1))) before
    ∙ sym (searched_append start (λ g. flat_map (f g) (up_to i)) (λ g. f g (i + 1)))
    ∙ (λ j. searched start (λ g. sym (up_to_more (f g) i) j))

-- the rows of lists of rows
rows_append : (g : Globals) (this : ℕ) (xs ys : List Row) → rows_comparisons g (xs ++ ys) this ≡ rows_comparisons g xs this ++ rows_comparisons g ys this
rows_append g this xs ys = flat_map-append (λ row. phrase_comparisons g this row.phrase) xs ys

-- a turn of a loop over what has rows
pub rows_turn : {A : Type 0} (h : A → List Row) (this : ℕ) (old new all : Searched) (xs : List A) (i : ℕ) (x : A) →
    i < length xs → x ≡ get_or xs i x → new ≡ searched old (λ g. rows_comparisons g (h x) this) →
    searched old (λ g. rows_comparisons g (flat_map h (drop i xs)) this) ≡ all → searched new (λ g. rows_comparisons g (flat_map h (drop (i + 1) xs)) this) ≡ all
rows_turn h this old new all xs i x less is added before =
    let rest = flat_map h (drop (i + 1) xs) in
    ap (λ s. searched s (λ g. rows_comparisons g rest this)) added
    ∙ sym (searched_append old (λ g. rows_comparisons g (h x) this) (λ g. rows_comparisons g rest this))
    ∙ (λ j. searched old (λ g. sym (rows_append g this (h x) rest) j))
    ∙ ap (λ ys. searched old (λ g. rows_comparisons g (flat_map h ys) this)) (sym (split xs i x less is))
    ∙ before
