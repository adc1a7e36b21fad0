-- Counts of rounds and of reactions, one after another.
use Rattle.std.proofs.Common.{◌≡◌, ℕ, ◌+◌, List, [], ◌∷◌, ◌++◌, length, filter, refl, sym, ap, ◌∙◌, arith, append-nil, length-append}
use Rattle.std.proofs.lemmas.Grind.{flat_map-append}
use Rattle.std.proofs.lemmas.List.Elements.{filter-append}
use Rattle.rsml_meaning.specs.Transitions.{TransitionInstance}
use Rattle.rsml_meaning.specs.Steps.{Round}
use Rattle.rsml_meaning.specs.Runs.{Reaction, rounds_in}
use Rattle.run_counts.specs.declared.counts.Counts.{Counts}
use Rattle.run_counts.specs.Counts.{taken_in, takes_in, is_move, counts_of}
use Rattle.run_counts.specs.Sums.{with_rounds, with_reactions}

-- counts of their parts
abbrev pub made : ℕ → ℕ → ℕ → ℕ → Counts
made events rounds takes moves = record { events = events; rounds = rounds; takes = takes; moves = moves }

pub same_counts : (e r t m e' r' t' m' : ℕ) → e ≡ e' → r ≡ r' → t ≡ t' → m ≡ m' → made e r t m ≡ made e' r' t' m'
same_counts e r t m e' r' t' m' a b c d =
    ap (λ (n : ℕ). made n r t m) a ∙ ap (λ (n : ℕ). made e' n t m) b ∙ ap (λ (n : ℕ). made e' r' n m) c ∙ ap (λ (n : ℕ). made e' r' t' n) d

moves_both : (ts us : List TransitionInstance) → length (filter is_move (ts ++ us)) ≡ length (filter is_move ts) + length (filter is_move us)
moves_both ts us = ap (λ (vs : List TransitionInstance). length vs) (filter-append is_move ts us) ∙ length-append (filter is_move ts) (filter is_move us)

taken_both : (rs qs : List Round) → taken_in (rs ++ qs) ≡ taken_in rs ++ taken_in qs
taken_both rs qs = flat_map-append (λ (r : Round). r.taken) rs qs

rounds_both : (rs qs : List Reaction) → rounds_in (rs ++ qs) ≡ rounds_in rs ++ rounds_in qs
rounds_both rs qs = flat_map-append (λ (r : Reaction). r.rounds) rs qs

-- of more rounds
pub more_rounds : (c : Counts) (rs qs : List Round) → with_rounds (with_rounds c rs) qs ≡ with_rounds c (rs ++ qs)
more_rounds c rs qs =
    let all = taken_both rs qs in
    let takes = ap (λ (ts : List TransitionInstance). length ts) all ∙ length-append (taken_in rs) (taken_in qs) in
    let moves = ap (λ (ts : List TransitionInstance). length (filter is_move ts)) all ∙ moves_both (taken_in rs) (taken_in qs) in
    same_counts _ _ _ _ _ _ _ _ refl (omega (arith, length-append rs qs)) (omega (arith, takes)) (omega (arith, moves))

-- of one round
pub one_round : (c c' : Counts) (r : Round) → c'.events ≡ c.events → c'.rounds ≡ c.rounds + 1 → c'.takes ≡ c.takes + length r.taken → c'.moves ≡ c.moves + length (filter is_move r.taken)
    → c' ≡ with_rounds c (r ∷ [])
one_round c c' r e n t m =
    let all : taken_in (r ∷ []) ≡ r.taken = append-nil r.taken in
    let takes = t ∙ ap (λ (ts : List TransitionInstance). c.takes + length ts) (sym all) in
    let moves = m ∙ ap (λ (ts : List TransitionInstance). c.moves + length (filter is_move ts)) (sym all) in
    same_counts _ _ _ _ _ _ _ _ e n takes moves

-- no rounds
pub no_rounds : (c : Counts) → c ≡ with_rounds c []
no_rounds c = same_counts _ _ _ _ _ _ _ _ refl (omega arith) (omega arith) (omega arith)

-- of the rounds of one reaction, with its event
pub one_reaction : (c c' c'' : Counts) (r : Reaction) → c' ≡ with_rounds c r.rounds → c'' ≡ made (c'.events + 1) c'.rounds c'.takes c'.moves → c'' ≡ with_reactions c (r ∷ [])
one_reaction c c' c'' r h e =
    let all : rounds_in (r ∷ []) ≡ r.rounds = append-nil r.rounds in
    e ∙ ap (λ (d : Counts). made (d.events + 1) d.rounds d.takes d.moves) h
    ∙ ap (λ (rs : List Round). made (c.events + 1) (c.rounds + length rs) (c.takes + length (taken_in rs)) (c.moves + length (filter is_move (taken_in rs)))) (sym all)

-- of more reactions
pub more_reactions : (c : Counts) (rs qs : List Reaction) → with_reactions (with_reactions c rs) qs ≡ with_reactions c (rs ++ qs)
more_reactions c rs qs =
    let all = rounds_both rs qs in
    let rounds = ap (λ (xs : List Round). length xs) all ∙ length-append (rounds_in rs) (rounds_in qs) in
    let taken = ap (λ (xs : List Round). taken_in xs) all ∙ taken_both (rounds_in rs) (rounds_in qs) in
    let takes = ap (λ (ts : List TransitionInstance). length ts) taken ∙ length-append (takes_in rs) (takes_in qs) in
    let moves = ap (λ (ts : List TransitionInstance). length (filter is_move ts)) taken ∙ moves_both (takes_in rs) (takes_in qs) in
    same_counts _ _ _ _ _ _ _ _ (omega (arith, length-append rs qs)) (omega (arith, rounds)) (omega (arith, takes)) (omega (arith, moves))

-- no reactions
pub no_reactions : (c : Counts) → c ≡ with_reactions c []
no_reactions c = same_counts _ _ _ _ _ _ _ _ (omega arith) (omega arith) (omega arith) (omega arith)

-- those of a run and of more reactions
pub counts_both : (rs qs : List Reaction) → with_reactions (counts_of rs) qs ≡ counts_of (rs ++ qs)
counts_both rs qs =
    let all = rounds_both rs qs in
    let rounds = ap (λ (xs : List Round). length xs) all ∙ length-append (rounds_in rs) (rounds_in qs) in
    let taken = ap (λ (xs : List Round). taken_in xs) all ∙ taken_both (rounds_in rs) (rounds_in qs) in
    let takes = ap (λ (ts : List TransitionInstance). length ts) taken ∙ length-append (takes_in rs) (takes_in qs) in
    let moves = ap (λ (ts : List TransitionInstance). length (filter is_move ts)) taken ∙ moves_both (takes_in rs) (takes_in qs) in
    same_counts _ _ _ _ _ _ _ _ (omega (arith, length-append rs qs)) (omega (arith, rounds)) (omega (arith, takes)) (omega (arith, moves))
