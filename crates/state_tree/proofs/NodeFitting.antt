-- Lists of states that fit behind others.
use Rattle.std.proofs.Common.{◌≡◌, ℕ, zero, suc, ⊎_elim, eq-or-lt_of_le, add-one, ◌+◌, ◌<◌, ◌≤◌, List, [], ◌∷◌, ◌++◌, length, flat_map, sym, ap, ◌∙◌, subst, arith, length-append, take, drop, get_or, Result, Ok, Err, IfOk, append_assoc, append-nil}
use Rattle.std.proofs.lemmas.Grind.{flat_map-append}
use Rattle.std.proofs.lemmas.List.{take_more}
use Rattle.rsml_syntax.specs.rules.Globals.{up_to}
use Rattle.rsml_meaning.specs.Words.{Path}
use Rattle.rsml_meaning.specs.Instances.{State}
use Rattle.state_tree.specs.nodes.Numbers.{HasIndices, Fit}
use Rattle.rsml_syntax.proofs.Clean.{front_each, back_each}

pub fit_front : (n : ℕ) (xs ys : List State) → Fit n (xs ++ ys) → Fit n xs
fit_front n xs ys h = record { room = omega (arith, h.room, length-append xs ys); indices = front_each (λ x. HasIndices x.path) xs ys h.indices }

pub fit_back : (n : ℕ) (xs ys : List State) → Fit n (xs ++ ys) → Fit (n + length xs) ys
fit_back n xs ys h = record { room = omega (arith, h.room, length-append xs ys); indices = back_each (λ x. HasIndices x.path) xs ys h.indices }

pub last_index : (p : Path) (x : _) → HasIndices (p ++ x ∷ []) → x.index ≤ 64
last_index p x h = (back_each (λ step. step.index ≤ 64) p (x ∷ []) h).0

-- the states behind the first
pub rest_fits : (xs ys : List State) (x : State) (zs ws : List State) → ys ≡ xs ++ x ∷ [] → zs ≡ ws → Fit (length xs) (x ∷ zs) → Fit (length ys) ws
rest_fits xs ys x zs ws e f h = subst (λ vs. Fit (length ys) vs) f (record { room = rw e (omega (arith, h.room, length-append xs (x ∷ []))); indices = h.indices.1 })

pub after_first : {E : Type 0} (r : Result (List State) E) (xs ys : List State) (x : State) (zs ws : List State) → ys ≡ xs ++ x ∷ [] → zs ≡ ws → IfOk r (λ n. n ≡ ys ++ ws) → IfOk r (λ n. n ≡ xs ++ (x ∷ zs))
after_first (Err e) xs ys x zs ws f g h = h
after_first (Ok n) xs ys x zs ws f g h = h ∙ ap (λ vs. ys ++ vs) (sym g) ∙ ap (λ vs. vs ++ zs) f ∙ append_assoc xs (x ∷ []) zs

-- A loop over items that make states.

split : {A : Type 0} (cs : List A) (i : ℕ) (c : A) → i < length cs → c ≡ get_or cs i c → cs ≡ take i cs ++ (c ∷ drop (suc i) cs)
split [] i c h e = absurd (omega (arith, h))
split (d ∷ cs) zero c h e = ap (λ x. x ∷ cs) (sym e)
split (d ∷ cs) (suc i) c h e = ap (λ xs. d ∷ xs) (split cs i c (omega (arith, h)) e)

pub turn_fits : {A : Type 0} (f : A → List State) (xs ys : List State) (cs : List A) (i : ℕ) (c : A) → ys ≡ xs ++ flat_map f (take i cs) → i < length cs → c ≡ get_or cs i c
    → Fit (length xs) (flat_map f cs) → Fit (length ys) (f c)
turn_fits f xs ys cs i c e h k fit =
    let parts : flat_map f cs ≡ flat_map f (take i cs) ++ (f c ++ flat_map f (drop (suc i) cs)) = ap (flat_map f) (split cs i c h k) ∙ flat_map-append f (take i cs) (c ∷ drop (suc i) cs) in
    let back = fit_back (length xs) (flat_map f (take i cs)) (f c ++ flat_map f (drop (suc i) cs)) (subst (λ zs. Fit (length xs) zs) parts fit) in
    subst (λ n. Fit n (f c)) (sym (ap length e ∙ length-append xs (flat_map f (take i cs)))) (fit_front (length xs + length (flat_map f (take i cs))) (f c) (flat_map f (drop (suc i) cs)) back)

pub turn_more : {A : Type 0} (f : A → List State) (xs ys zs : List State) (cs : List A) (i : ℕ) (c : A) → ys ≡ xs ++ flat_map f (take i cs) → i < length cs → c ≡ get_or cs i c
    → zs ≡ ys ++ f c → zs ≡ xs ++ flat_map f (take (i + 1) cs)
turn_more f xs ys zs cs i c e h k g =
    g ∙ ap (λ vs. vs ++ f c) e ∙ append_assoc xs (flat_map f (take i cs)) (f c)
    ∙ ap (λ vs. xs ++ vs) (ap (λ vs. flat_map f (take i cs) ++ vs) (sym (append-nil (f c))) ∙ sym (flat_map-append f (take i cs) (c ∷ [])))
    ∙ ap (λ ds. xs ++ flat_map f ds) (sym (take_more cs i c h ∙ ap (λ d. take i cs ++ d ∷ []) (sym k)))

-- A loop over the indices of an array.

up_to_parts : (n i : ℕ) → i < n → (r : List ℕ) × (up_to n ≡ up_to i ++ (suc i ∷ r))
up_to_parts zero i h = absurd (omega (arith, h))
up_to_parts (suc n) i h = ⊎_elim
    (λ e. ([], ap (λ k. up_to k ++ (suc k ∷ [])) (let s : n ≡ i = omega (arith, e) in s)))
    (λ l. let r = up_to_parts n i (omega (arith, l)) in (r.0 ++ (suc n ∷ []), ap (λ ks. ks ++ (suc n ∷ [])) r.1 ∙ append_assoc (up_to i) (suc i ∷ r.0) (suc n ∷ [])))
    (eq-or-lt_of_le h)

pub index_fits : (f : ℕ → List State) (xs ys : List State) (n i : ℕ) → ys ≡ xs ++ flat_map f (up_to i) → i < n → Fit (length xs) (flat_map f (up_to n)) → Fit (length ys) (f (i + 1))
index_fits f xs ys n i e h fit =
    let r = up_to_parts n i h in
    let parts : flat_map f (up_to n) ≡ flat_map f (up_to i) ++ (f (suc i) ++ flat_map f r.0) = ap (flat_map f) r.1 ∙ flat_map-append f (up_to i) (suc i ∷ r.0) in
    let back = fit_back (length xs) (flat_map f (up_to i)) (f (suc i) ++ flat_map f r.0) (subst (λ zs. Fit (length xs) zs) parts fit) in
    let front = fit_front (length xs + length (flat_map f (up_to i))) (f (suc i)) (flat_map f r.0) back in
    subst (λ k. Fit (length ys) (f k)) (sym (add-one i)) (subst (λ k. Fit k (f (suc i))) (sym (ap length e ∙ length-append xs (flat_map f (up_to i)))) front)

pub index_more : (f : ℕ → List State) (xs ys zs : List State) (i : ℕ) → ys ≡ xs ++ flat_map f (up_to i) → zs ≡ ys ++ f (i + 1) → zs ≡ xs ++ flat_map f (up_to (i + 1))
index_more f xs ys zs i e g =
    g ∙ ap (λ vs. vs ++ f (i + 1)) e ∙ append_assoc xs (flat_map f (up_to i)) (f (i + 1))
    ∙ ap (λ vs. xs ++ vs) (ap (λ vs. flat_map f (up_to i) ++ vs) (sym (append-nil (f (i + 1)))) ∙ ap (λ k. flat_map f (up_to i) ++ (f k ++ [])) (add-one i) ∙ sym (flat_map-append f (up_to i) (suc i ∷ [])))
    ∙ ap (λ k. xs ++ flat_map f (up_to k)) (sym (add-one i))
