-- What was written stays.
use Rattle.std.proofs.Common.{◌≡◌, ℕ, ◌+◌, ◌-◌, ◌<◌, ◌≤◌, List, [], ◌∷◌, ◌++◌, length, take, drop, Option, Some, None, refl, sym, ap, subst, ◌∙◌, arith, length-append}
use Rattle.std.proofs.lemmas.List.{take-append-le, take-append-drop, length-take}
use Rattle.std.proofs.Math.Seq.{take-append-add, take-append_seam}
use Rattle.rsml_io.specs.Writing.{appended, AppendsProperPrefix}
use Rattle.text_writer.specs.Buffering.{count_of, Continues, AppendsPrefix}

-- a list begins with another that is as long as its front
within : (front xs : List ℕ) → take (length front) xs ≡ front → length front ≤ length xs
within front xs e =
    let counted = length-take (length front) xs in
    let same : length (take (length front) xs) ≡ length front = ap length e in
    omega arith

pub continues_more : (before old new : Option (List ℕ)) → Continues before old → (bytes : List ℕ) × (new ≡ appended old bytes)
    → Continues before new
continues_more before None new h more =
    let e : new ≡ None = more.1 in
    let P : Option (List ℕ) → Type 0 = λ w. Continues before w in
    subst P (sym e) h
continues_more None (Some w) new h more = absurd (let no : ⊥ = cc in no)
continues_more (Some b) (Some w) new h more =
    let front : take (length b) w ≡ b = cc in
    let P : Option (List ℕ) → Type 0 = λ t. Continues (Some b) t in
    subst P (sym more.1) (ap Some (take-append-le (length b) w more.0 (within b w front) ∙ front))

-- some bytes are at least one
pub some_length : (bytes : List ℕ) → (bytes ≡ [] → ⊥) → 0 < length bytes
some_length [] some = absurd (some refl)
some_length (x ∷ xs) some = omega arith

-- what is written behind `b`, where some of the bytes behind it are left
cut_short : (b w rest bytes : List ℕ) (m j : ℕ) → length w ≡ length b + j → m ≤ length bytes → 0 < length rest
    → w ++ rest ≡ b ++ take m bytes → (j < length bytes) × (w ≡ b ++ take j bytes)
cut_short b w rest bytes m j len bound some e =
    let whole : length (w ++ rest) ≡ length (b ++ take m bytes) = ap length e in
    let left = length-append w rest in
    let right = length-append b (take m bytes) in
    let taken = length-take m bytes in
    let less : j < m = omega arith in
    let within_taken : j ≤ length (take m bytes) = omega arith in
    let front : w ≡ take (length w) (w ++ rest) = sym (take-append_seam w rest) in
    let cut : take (length w) (w ++ rest) ≡ take (length b + j) (b ++ take m bytes) =
    ap (take (length w)) e ∙ ap (λ n. take n (b ++ take m bytes)) len in
    let shorter : take j bytes ≡ take j (take m bytes) =
    ap (take j) (sym (take-append-drop m bytes)) ∙ take-append-le j (take m bytes) (drop m bytes) within_taken in
    (omega arith, front ∙ cut ∙ take-append-add b (take m bytes) j ∙ ap (λ t. b ++ t) (sym shorter))

-- where some of the text waits still, the sink has a prefix of the bytes that is shorter
pub shorter : (own began written : Option (List ℕ)) (rest bytes : List ℕ) → Continues own written → count_of own ≡ count_of began
    → (rest ≡ [] → ⊥) → (bytes ≡ [] → ⊥) → AppendsPrefix began (appended written rest) bytes → AppendsProperPrefix began written bytes
shorter own None None rest bytes h k some bytes_some front = (0, some_length bytes bytes_some, refl)
shorter own None (Some w) rest bytes h k some bytes_some front = absurd (let e = front.2 in let no : ⊥ = cc in no)
shorter own (Some b) None rest bytes h k some bytes_some front = absurd (let e = front.2 in let no : ⊥ = cc in no)
shorter None (Some b) (Some w) rest bytes h k some bytes_some front = absurd (let no : ⊥ = cc in no)
shorter (Some o) (Some b) (Some w) rest bytes h k some bytes_some front =
    let e = front.2 in
    let own_front : take (length o) w ≡ o = cc in
    let text : w ++ rest ≡ b ++ take front.0 bytes = cc in
    let long = within o w own_front in
    let cut = cut_short b w rest bytes front.0 (length w - length b) (omega arith) front.1 (some_length rest some) text in
    (length w - length b, cut.0, ap Some cut.1)
