-- Adding up the numbers of a sum term by term.
use Rattle.std.proofs.Common.{◌≡◌, ℕ, suc, ◌+◌, ◌<◌, List, [], ◌∷◌, ◌++◌, length, take, get_or, refl, sym, ap, ◌∙◌, arith, ℤ, pos, ◌+ℤ◌}
use Rattle.std.specs.Prelude.{fold}
use Rattle.rsml_ground.specs.declared.sums.GroundTerm.{GroundTerm}
use Rattle.rsml_ground.specs.Truths.{term_number, sum_number}
use Rattle.phrase_builder.proofs.Lists.{take_more, item_here}

fold_more : {A B : Type 0} (f : B → A → B) (start : B) (xs : List A) (x : A) → fold f start (xs ++ (x ∷ [])) ≡ f (fold f start xs) x
fold_more f start [] x = refl
fold_more f start (y ∷ xs) x = fold_more f (f start y) xs x

pub total_turn : (terms : List GroundTerm) (n : ℕ) (d : GroundTerm) (total number next : ℤ) → n < length terms → next ≡ total +ℤ number → ((cells : List ℤ) → term_number cells (get_or terms n d) ≡ number)
    → ((cells : List ℤ) → sum_number cells (record { terms = take n terms }) ≡ total) → (cells : List ℤ) → sum_number cells (record { terms = take (n + 1) terms }) ≡ next
total_turn terms n d total number next l e is h cells =
    let more : n + 1 ≡ suc n = omega arith in
    ap (λ k. sum_number cells (record { terms = take k terms })) more
    ∙ ap (λ ts. sum_number cells (record { terms = ts })) (take_more terms n (get_or terms n d) (item_here terms n d l))
    ∙ fold_more (λ a t. a +ℤ term_number cells t) (pos 0) (take n terms) (get_or terms n d)
    ∙ ap (λ a. a +ℤ term_number cells (get_or terms n d)) (h cells)
    ∙ ap (λ b. total +ℤ b) (is cells)
    ∙ sym e
