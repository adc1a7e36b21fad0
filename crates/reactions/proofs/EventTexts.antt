-- The events of a set, one after another.
use Rattle.std.proofs.Common.{◌≡◌, ℕ, zero, suc, ◌+◌, ◌<◌, ◌≤◌, Bool, true, false, List, [], ◌∷◌, ◌++◌, take, flat_map, map, codes, decimal, Option, Some, slice_get, refl, sym, ap, ◌∙◌, true≢false, arith, add-one, zero-add, append-nil, append_assoc}
use Rattle.std.specs.Prelude.{if◌then◌else◌}
use Rattle.std.specs.Option.{option_map_or}
use Rattle.std.proofs.lemmas.Fmt.{decimal_digit}
use Rattle.std.proofs.lemmas.Grind.{flat_map-append}
use Rattle.std.proofs.lemmas.Option.{same_Some}
use Rattle.state_tree.proofs.Lists.{get_map}
use Rattle.rsml_syntax.specs.declared.syntax.Spec.{Spec}
use Rattle.rsml_meaning.specs.Words.{Instance}
use Rattle.rsml_meaning.specs.Instances.{events}
use Rattle.rsml_meaning.specs.Interfaces.{ReceiveInstance, receives}
use Rattle.rsml_meaning.specs.Texts.{text_line, instance_text}
use Rattle.rsml_meaning.specs.Trace.{event_line, round_line}
use Rattle.micro_step.specs.Places.{items_where}
use Rattle.reactions.specs.Lines.{spaced, spaced_at, part_text}
use Rattle.reactions.specs.declared.part.Part.TheVariants as part

-- Items by their places.

none_from : {A : Type 0} (p : ℕ → Bool) (n : ℕ) (xs : List A) → ((q : ℕ) → n ≤ q → p q ≡ false) → items_where p n xs ≡ []
none_from p n [] h = refl
none_from p n (x ∷ xs) h = by (p n) (h n (omega arith)) (none_from p (suc n) xs (λ q l. h q (omega (arith, l))))
  where
    by : (b : Bool) → b ≡ false → items_where p (suc n) xs ≡ [] → (if b then x ∷ items_where p (suc n) xs else items_where p (suc n) xs) ≡ []
    by true e r = absurd (true≢false e)
    by false e r = r

first_from : {A : Type 0} (p : ℕ → Bool) (n m : ℕ) (xs : List A) → ((q : ℕ) → n + m ≤ q → p q ≡ false) → items_where p n (take m xs) ≡ items_where p n xs
first_from p n zero xs h = sym (none_from p n xs (λ q l. h q (omega (arith, l))))
first_from p n (suc m) [] h = refl
first_from p n (suc m) (x ∷ xs) h = by (p n) (first_from p (suc n) m xs (λ q l. h q (omega (arith, l))))
  where
    by : (b : Bool) → items_where p (suc n) (take m xs) ≡ items_where p (suc n) xs
        → (if b then x ∷ items_where p (suc n) (take m xs) else items_where p (suc n) (take m xs)) ≡ (if b then x ∷ items_where p (suc n) xs else items_where p (suc n) xs)
    by true r = ap (λ ys. x ∷ ys) r
    by false r = r

next_from : {A : Type 0} (p : ℕ → Bool) (n m e : ℕ) (xs : List A) (x : A) → m ≤ e → p (n + e) ≡ true → ((q : ℕ) → n + m ≤ q → q < n + e → p q ≡ false) → slice_get xs e ≡ Some x
    → items_where p n (take (suc e) xs) ≡ items_where p n (take m xs) ++ x ∷ []
next_from p n m e [] x l t h at = absurd (let no : ⊥ = cc in no)
next_from p n zero zero (y ∷ xs) x l t h at =
    let same : n ≡ n + 0 = omega arith in
    by (p n) (ap p same ∙ t)
  where
    by : (b : Bool) → b ≡ true → (if b then y ∷ [] else []) ≡ x ∷ []
    by true e = ap (λ z. z ∷ []) (same_Some y x at)
    by false e = absurd (true≢false (sym e))
next_from p n zero (suc e) (y ∷ xs) x l t h at =
    let same : suc n + e ≡ n + suc e = omega arith in
    by (p n) (h n (omega arith) (omega arith)) (next_from p (suc n) zero e xs x (omega arith) (ap p same ∙ t) (λ q a b. h q (omega (arith, a)) (omega (arith, b))) at)
  where
    by : (b : Bool) → b ≡ false → items_where p (suc n) (take (suc e) xs) ≡ x ∷ []
        → (if b then y ∷ items_where p (suc n) (take (suc e) xs) else items_where p (suc n) (take (suc e) xs)) ≡ x ∷ []
    by true q r = absurd (true≢false q)
    by false q r = r
next_from p n (suc m) zero (y ∷ xs) x l t h at = absurd (omega (arith, l))
next_from p n (suc m) (suc e) (y ∷ xs) x l t h at =
    let same : suc n + e ≡ n + suc e = omega arith in
    by (p n) (next_from p (suc n) m e xs x (omega (arith, l)) (ap p same ∙ t) (λ q a b. h q (omega (arith, a)) (omega (arith, b))) at)
  where
    by : (b : Bool) → items_where p (suc n) (take (suc e) xs) ≡ items_where p (suc n) (take m xs) ++ x ∷ []
        → (if b then y ∷ items_where p (suc n) (take (suc e) xs) else items_where p (suc n) (take (suc e) xs))
        ≡ (if b then y ∷ items_where p (suc n) (take m xs) else items_where p (suc n) (take m xs)) ++ x ∷ []
    by true r = ap (λ ys. y ∷ ys) r
    by false r = r

skip_from : {A : Type 0} (p : ℕ → Bool) (n m e : ℕ) (xs : List A) → m ≤ e → ((q : ℕ) → n + m ≤ q → q < n + e → p q ≡ false)
    → items_where p n (take e xs) ≡ items_where p n (take m xs)
skip_from p n zero zero xs l h = refl
skip_from p n zero (suc e) [] l h = refl
skip_from p n zero (suc e) (x ∷ xs) l h =
    by (p n) (h n (omega arith) (omega arith)) (skip_from p (suc n) zero e xs (omega arith) (λ q a b. h q (omega (arith, a)) (omega (arith, b))))
  where
    by : (b : Bool) → b ≡ false → items_where p (suc n) (take e xs) ≡ [] → (if b then x ∷ items_where p (suc n) (take e xs) else items_where p (suc n) (take e xs)) ≡ []
    by true e r = absurd (true≢false e)
    by false e r = r
skip_from p n (suc m) zero xs l h = absurd (omega (arith, l))
skip_from p n (suc m) (suc e) [] l h = refl
skip_from p n (suc m) (suc e) (x ∷ xs) l h = by (p n) (skip_from p (suc n) m e xs (omega (arith, l)) (λ q a b. h q (omega (arith, a)) (omega (arith, b))))
  where
    by : (b : Bool) → items_where p (suc n) (take e xs) ≡ items_where p (suc n) (take m xs)
        → (if b then x ∷ items_where p (suc n) (take e xs) else items_where p (suc n) (take e xs)) ≡ (if b then x ∷ items_where p (suc n) (take m xs) else items_where p (suc n) (take m xs))
    by true r = ap (λ ys. x ∷ ys) r
    by false r = r

-- Events.

-- items of which none passes add nothing
pub none_between : {A : Type 0} (p : ℕ → Bool) (m e : ℕ) (xs : List A) → m ≤ e → ((q : ℕ) → m ≤ q → q < e → p q ≡ false) → items_where p 0 (take e xs) ≡ items_where p 0 (take m xs)
none_between p m e xs l h = skip_from p 0 m e xs l (λ q a b. h q (omega (arith, a)) (omega (arith, b)))

-- where nothing passes from a place on, the first items are all that pass
pub all_first : {A : Type 0} (p : ℕ → Bool) (m : ℕ) (xs : List A) → ((q : ℕ) → m ≤ q → p q ≡ false) → items_where p 0 (take m xs) ≡ items_where p 0 xs
all_first p m xs h = first_from p 0 m xs (λ q l. h q (omega (arith, l)))

-- nothing passes
pub none_at_all : {A : Type 0} (p : ℕ → Bool) (xs : List A) → ((q : ℕ) → 0 ≤ q → p q ≡ false) → items_where p 0 xs ≡ []
none_at_all p xs h = none_from p 0 xs h

-- the next that passes stands behind those before it
pub next_first : {A : Type 0} (p : ℕ → Bool) (m e : ℕ) (xs : List A) (x : A) → m ≤ e → p e ≡ true → ((q : ℕ) → m ≤ q → q < e → p q ≡ false) → slice_get xs e ≡ Some x
    → items_where p 0 (take (e + 1) xs) ≡ items_where p 0 (take m xs) ++ x ∷ []
next_first p m e xs x l t h at =
    ap (λ (k : ℕ). items_where p 0 (take k xs)) (add-one e)
    ∙ next_from p 0 m e xs x l (ap p (zero-add e) ∙ t) (λ q a b. h q (omega (arith, a)) (omega (arith, b))) at

-- the texts of the events before the next one, and then its text
pub next_text : (s : Spec) (p : ℕ → Bool) (m e : ℕ) (x : Instance) → m ≤ e → p e ≡ true → ((q : ℕ) → m ≤ q → q < e → p q ≡ false) → slice_get (events s) e ≡ Some x
    → flat_map spaced (items_where p 0 (take m (events s))) ++ (32 ∷ option_map_or instance_text (slice_get (events s) e) []) ≡ flat_map spaced (items_where p 0 (take (e + 1) (events s)))
next_text s p m e x l t h at =
    let before = items_where p 0 (take m (events s)) in
    ap (λ (o : Option Instance). flat_map spaced before ++ (32 ∷ option_map_or instance_text o [])) at
    ∙ ap (λ (z : List ℕ). flat_map spaced before ++ z) (sym (append-nil (spaced x)))
    ∙ sym (ap (λ (ys : List Instance). flat_map spaced ys) (next_first p m e (events s) x l t h at) ∙ flat_map-append spaced before (x ∷ []))

-- the text of a receive
pub receive_text : (s : Spec) (k : ℕ) (x : ReceiveInstance) → slice_get (receives s) k ≡ Some x → option_map_or instance_text (slice_get (map (λ r. r.receive) (receives s)) k) [] ≡ instance_text x.receive
receive_text s k x at = ap (λ (o : Option Instance). option_map_or instance_text o []) (get_map (λ (r : ReceiveInstance). r.receive) (receives s) k x at)

-- the line of an event, of its pieces
pub event_pieces : (s : Spec) (n k : ℕ) (x : ReceiveInstance) → slice_get (receives s) k ≡ Some x
    → codes "event " ++ (decimal n ++ part_text part.Receive s k) ≡ event_line n x.receive
event_pieces s n k x at =
    ap (λ (t : List ℕ). codes "event " ++ t) (sym (append_assoc (decimal n) (spaced_at (map (λ r. r.receive) (receives s)) k) (codes "\n")))
    ∙ ap (λ (t : List ℕ). text_line (codes "event " ++ (decimal n ++ (codes " " ++ t)))) (receive_text s k x at)

-- the texts of the events before the last one, and then its own, which ends the line
pub last_text : (s : Spec) (p : ℕ → Bool) (e : ℕ) (x : Instance) → p e ≡ true → slice_get (events s) e ≡ Some x → ((q : ℕ) → e + 1 ≤ q → p q ≡ false)
    → flat_map spaced (items_where p 0 (take e (events s))) ++ part_text part.Event s e ≡ text_line (flat_map spaced (items_where p 0 (events s)))
last_text s p e x t at rest =
    let before = flat_map spaced (items_where p 0 (take e (events s))) in
    sym (append_assoc before (spaced_at (events s) e) (codes "\n"))
    ∙ ap (λ (z : List ℕ). text_line z) (next_text s p e e x (omega arith) t (λ q a b. absurd (omega (arith, a, b))) at
    ∙ ap (λ (ys : List Instance). flat_map spaced ys) (all_first p (e + 1) (events s) rest))

-- the texts of the events before one, its own, and that of no event before the next one
pub more_text : (s : Spec) (p : ℕ → Bool) (e next : ℕ) (x : Instance) → p e ≡ true → slice_get (events s) e ≡ Some x → e + 1 ≤ next → ((q : ℕ) → e + 1 ≤ q → q < next → p q ≡ false)
    → flat_map spaced (items_where p 0 (take e (events s))) ++ spaced_at (events s) e ≡ flat_map spaced (items_where p 0 (take next (events s)))
more_text s p e next x t at l h =
    next_text s p e e x (omega arith) t (λ q a b. absurd (omega (arith, a, b))) at
    ∙ ap (λ (ys : List Instance). flat_map spaced ys) (sym (none_between p (e + 1) next (events s) l h))

-- the line of a round, of its pieces
pub round_pieces : (n : ℕ) (t : List ℕ) → (codes "  round " ++ decimal n) ++ text_line t ≡ text_line (codes "  round " ++ (decimal n ++ t))
round_pieces n t = ap (λ (z : List ℕ). codes "  round " ++ z) (sym (append_assoc (decimal n) t (codes "\n")))

-- how the line of a round with one of the first numbers begins
pub small_opening : (n : ℕ) → n < 10 → codes "  round " ++ ((48 + n) ∷ []) ≡ codes "  round " ++ decimal n
small_opening n h = ap (λ (t : List ℕ). codes "  round " ++ t) (sym (decimal_digit n h))

-- the line of the first round, where one event passes
pub first_line : (s : Spec) (p : ℕ → Bool) (e : ℕ) (x : Instance) → p e ≡ true → slice_get (events s) e ≡ Some x → ((q : ℕ) → q < e → p q ≡ false) → ((q : ℕ) → e + 1 ≤ q → p q ≡ false)
    → part_text part.First s e ≡ round_line 1 (items_where p 0 (events s))
first_line s p e x t at before rest =
    let passing = flat_map spaced (items_where p 0 (events s)) in
    let none : flat_map spaced (items_where p 0 (take e (events s))) ≡ [] =
    ap (λ (es : List Instance). flat_map spaced es) (none_between p 0 e (events s) (omega arith) (λ q a b. before q b)) in
    ap (λ (z : List ℕ). codes "  round 1" ++ z) (sym (ap (λ (z : List ℕ). z ++ part_text part.Event s e) none) ∙ last_text s p e x t at rest)
    ∙ ap (λ (z : List ℕ). z ++ text_line passing) (small_opening 1 (omega arith))
    ∙ round_pieces 1 passing
