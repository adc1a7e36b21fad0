-- Worlds that lie in columns, part by part.
use Rattle.std.proofs.Common.{◌≡◌, ◌+◌, ◌∙◌, ℕ, suc, Bool, true, false, ◌&&◌, List, [], ◌∷◌, length, slice_index_or, refl, sym, ap, pos, arith}
use Rattle.std.specs.Cmp.Lexicographic.{pointwise}
use Rattle.world_columns.specs.Columns.{in_span, is_allowed, passes_from}
use Rattle.world_columns.specs.Laws.{LyingIsPassing, PassesInTwo, PassingOneAfterAnother}

and_true : (b : Bool) → b ≡ (b && true)
and_true true = refl
and_true false = refl

turned : (a b : Bool) → (a && b) ≡ (b && a)
turned true b = and_true b
turned false true = refl
turned false false = refl

last_first : (a b c : Bool) → ((a && b) && c) ≡ ((a && c) && b)
last_first true b c = turned b c
last_first false b c = refl

pub later : {A B : Type 0} (passes : A → B → Bool) (missing : B) (k : ℕ) (xs : List A) (v : B) (values : List B)
    → passes_from passes missing (suc k) xs (v ∷ values) ≡ passes_from passes missing k xs values
later passes missing k [] v values = refl
later passes missing k (x ∷ xs) v values = ap (λ b. b && passes x (slice_index_or values k missing)) (later passes missing (suc k) xs v values)

all_pass : {A B : Type 0} (passes : A → B → Bool) (missing : B) (xs : List A) (values : List B) → length xs ≡ length values
    → pointwise passes xs values ≡ passes_from passes missing 0 xs values
all_pass passes missing [] [] e = refl
all_pass passes missing [] (v ∷ values) e = absurd (let no : ⊥ = omega (arith, e) in no)
all_pass passes missing (x ∷ xs) [] e = absurd (let no : ⊥ = omega (arith, e) in no)
all_pass passes missing (x ∷ xs) (v ∷ values) e =
    turned (passes x v) (pointwise passes xs values)
    ∙ ap (λ b. b && passes x v) (all_pass passes missing xs values (omega (arith, e)) ∙ sym (later passes missing 0 xs v values))

pub in_two : {A B : Type 0} (passes : A → B → Bool) (missing : B) → PassesInTwo passes missing
in_two passes missing k [] ys values = ap (λ n. passes_from passes missing n ys values) (let e : k ≡ k + 0 = omega arith in e)
in_two passes missing k (x ∷ xs) ys values =
    let here = passes x (slice_index_or values k missing) in
    let more : suc k + length xs ≡ k + suc (length xs) = omega arith in
    ap (λ b. b && here) (in_two passes missing (suc k) xs ys values ∙ ap (λ n. passes_from passes missing (suc k) xs values && passes_from passes missing n ys values) more)
    ∙ last_first (passes_from passes missing (suc k) xs values) (passes_from passes missing (k + suc (length xs)) ys values) here

pub one_after_another : PassingOneAfterAnother
one_after_another = (in_two is_allowed 0, in_two in_span (pos 0))

pub lying_is_passing : LyingIsPassing
lying_is_passing c w children spans =
    let a = all_pass is_allowed 0 c.children w.choices children in
    let b = all_pass in_span (pos 0) c.spans w.cells spans in
    λ i. a i && b i
