-- Declarations are the same but for macros and guards exactly where they leave the same in the frame.
use Rattle.std.proofs.Common.{◌≡◌, Bool, true, false, not, cond, ◌&&◌, List, [], ◌∷◌, map, flat_map, refl, sym, ap, ◌∙◌, true≢false}
use Rattle.std.specs.Cmp.{first_so, second_so}
use Rattle.std.specs.Cmp.Lexicographic.{pointwise}
use Rattle.rsml_syntax.specs.declared.syntax.Guard.TheVariants as guards
use Rattle.rsml_syntax.specs.declared.syntax.Decl.{Decl}
use Rattle.rsml_syntax.specs.declared.syntax.Decl.TheVariants as decl
use Rattle.rsml_syntax.specs.declared.syntax.Case.{Case}
use Rattle.rsml_syntax.specs.declared.syntax.SendCase.{SendCase}
use Rattle.rsml_syntax.specs.contracts.syntax.SignedPartialEq.TheImpl as signed_eq
use Rattle.rsml_syntax.specs.contracts.syntax.InitialPartialEq.TheImpl as initial_eq
use Rattle.rsml_syntax.specs.contracts.syntax.AnswerPartialEq.TheImpl as answer_eq
use Rattle.rsml_syntax.specs.text.Names.{same}
use Rattle.spec_frames.specs.Frames.{open_case, open_send_case, framed}
use Rattle.spec_frames.specs.helpers.Sameness.{same_mention, same_size, same_case, same_send_case, same_decl, is_macro, kept}
use Rattle.spec_frames.proofs.ListLemmas.{both, name_same, name_itself, pointwise_same, pointwise_itself, pointwise_opens, pointwise_blind}
use Rattle.spec_frames.proofs.PartLemmas.{signed_same, signed_itself, size_same, size_itself, initial_same, initial_itself, mention_same, mention_itself, answer_same, answer_itself, sum_same, sum_itself}

-- Cases.

case_opens : (c d : Case) → same_case c d ≡ true → open_case c ≡ open_case d
case_opens c d h = let v = sum_same c.value d.value h in λ i. record { value = v i; guard = guards.Always }

send_case_opens : (c d : SendCase) → same_send_case c d ≡ true → open_send_case c ≡ open_send_case d
send_case_opens c d h =
    let t = mention_same c.trigger d.trigger (first_so (same_mention c.trigger d.trigger) ((answer_eq.ghosts).eq c.answer d.answer) h) in
    let a = answer_same c.answer d.answer (second_so (same_mention c.trigger d.trigger) ((answer_eq.ghosts).eq c.answer d.answer) h) in
    λ i. record { trigger = t i; guard = guards.Always; answer = a i }

send_case_itself : (c : SendCase) → same_send_case c c ≡ true
send_case_itself c = both (same_mention c.trigger c.trigger) ((answer_eq.ghosts).eq c.answer c.answer) (mention_itself c.trigger) (answer_itself c.answer)

-- One declaration.

-- a declaration with open guards
abbrev pub open_decl : Decl → Decl
open_decl (decl.Function name size cases) = decl.Function name size (map open_case cases)
open_decl (decl.Send name size fields cases) = decl.Send name size fields (map open_send_case cases)
open_decl d = d

-- three tests that all pass
three : (a b c : Bool) → (a && (b && c)) ≡ true → (a ≡ true) × (b ≡ true) × (c ≡ true)
three a b c h = let r = second_so a (b && c) h in (first_so a (b && c) h, first_so b c r, second_so b c r)

four : (a b c d : Bool) → (a && (b && (c && d))) ≡ true → (a ≡ true) × (b ≡ true) × (c ≡ true) × (d ≡ true)
four a b c d h = let r = three b c d (second_so a (b && (c && d)) h) in (first_so a (b && (c && d)) h, r.0, r.1, r.2)

decl_opens : (d e : Decl) → same_decl d e ≡ true → open_decl d ≡ open_decl e
decl_opens (decl.Enumeration name values) (decl.Enumeration other others) h =
    let n = name_same name other (first_so (same name other) (pointwise same values others) h) in
    let v = pointwise_same same name_same values others (second_so (same name other) (pointwise same values others) h) in
    λ i. decl.Enumeration (n i) (v i)
decl_opens (decl.Range name low high) (decl.Range other from to) h =
    let r = three (same name other) ((signed_eq.ghosts).eq low from) ((signed_eq.ghosts).eq high to) h in
    let n = name_same name other r.0 in
    let l = signed_same low from r.1 in
    let u = signed_same high to r.2 in
    λ i. decl.Range (n i) (l i) (u i)
decl_opens (decl.Constant name value) (decl.Constant other number) h =
    let n = name_same name other (first_so (same name other) ((signed_eq.ghosts).eq value number) h) in
    let v = signed_same value number (second_so (same name other) ((signed_eq.ghosts).eq value number) h) in
    λ i. decl.Constant (n i) (v i)
decl_opens (decl.Input name size kind initial) (decl.Input other many sort first) h =
    let r = four (same name other) (same_size size many) (same kind sort) ((initial_eq.ghosts).eq initial first) h in
    let n = name_same name other r.0 in
    let z = size_same size many r.1 in
    let k = name_same kind sort r.2 in
    let v = initial_same initial first r.3 in
    λ i. decl.Input (n i) (z i) (k i) (v i)
decl_opens (decl.Event name size) (decl.Event other many) h =
    let n = name_same name other (first_so (same name other) (same_size size many) h) in
    let z = size_same size many (second_so (same name other) (same_size size many) h) in
    λ i. decl.Event (n i) (z i)
decl_opens (decl.Function name size cases) (decl.Function other many others) h =
    let r = three (same name other) (same_size size many) (pointwise same_case cases others) h in
    let n = name_same name other r.0 in
    let z = size_same size many r.1 in
    let c = pointwise_opens same_case open_case case_opens cases others r.2 in
    λ i. decl.Function (n i) (z i) (c i)
decl_opens (decl.Receive name size inputs raised) (decl.Receive other many others event) h =
    let r = four (same name other) (same_size size many) (pointwise same_mention inputs others) (same_mention raised event) h in
    let n = name_same name other r.0 in
    let z = size_same size many r.1 in
    let v = pointwise_same same_mention mention_same inputs others r.2 in
    let e = mention_same raised event r.3 in
    λ i. decl.Receive (n i) (z i) (v i) (e i)
decl_opens (decl.Send name size fields cases) (decl.Send other many names others) h =
    let r = four (same name other) (same_size size many) (pointwise same fields names) (pointwise same_send_case cases others) h in
    let n = name_same name other r.0 in
    let z = size_same size many r.1 in
    let f = pointwise_same same name_same fields names r.2 in
    let c = pointwise_opens same_send_case open_send_case send_case_opens cases others r.3 in
    λ i. decl.Send (n i) (z i) (f i) (c i)
decl_opens _ _ h = absurd (true≢false (sym h))

decl_blind : (d e : Decl) → same_decl d e ≡ same_decl (open_decl d) (open_decl e)
decl_blind (decl.Function name size cases) (decl.Function other many others) = ap (λ b. same name other && (same_size size many && b)) (pointwise_blind same_case open_case (λ c d. refl) cases others)
decl_blind (decl.Send name size fields cases) (decl.Send other many names others) =
    ap (λ b. same name other && (same_size size many && (pointwise same fields names && b))) (pointwise_blind same_send_case open_send_case (λ c d. refl) cases others)
decl_blind (decl.Macro _ _ _) (decl.Macro _ _ _) = refl
decl_blind (decl.Enumeration _ _) (decl.Enumeration _ _) = refl
decl_blind (decl.Range _ _ _) (decl.Range _ _ _) = refl
decl_blind (decl.Constant _ _) (decl.Constant _ _) = refl
decl_blind (decl.Input _ _ _ _) (decl.Input _ _ _ _) = refl
decl_blind (decl.Event _ _) (decl.Event _ _) = refl
decl_blind (decl.Receive _ _ _ _) (decl.Receive _ _ _ _) = refl
decl_blind _ _ = refl

decl_itself : (d : Decl) → is_macro d ≡ false → same_decl d d ≡ true
decl_itself (decl.Enumeration name values) h = both (same name name) (pointwise same values values) (name_itself name) (pointwise_itself same name_itself values)
decl_itself (decl.Range name low high) h =
    both (same name name) ((signed_eq.ghosts).eq low low && (signed_eq.ghosts).eq high high) (name_itself name)
    (both ((signed_eq.ghosts).eq low low) ((signed_eq.ghosts).eq high high) (signed_itself low) (signed_itself high))
decl_itself (decl.Constant name value) h = both (same name name) ((signed_eq.ghosts).eq value value) (name_itself name) (signed_itself value)
decl_itself (decl.Input name size kind initial) h =
    both (same name name) (same_size size size && (same kind kind && (initial_eq.ghosts).eq initial initial)) (name_itself name)
    (both (same_size size size) (same kind kind && (initial_eq.ghosts).eq initial initial) (size_itself size)
    (both (same kind kind) ((initial_eq.ghosts).eq initial initial) (name_itself kind) (initial_itself initial)))
decl_itself (decl.Event name size) h = both (same name name) (same_size size size) (name_itself name) (size_itself size)
decl_itself (decl.Macro name size rows) h = absurd (true≢false h)
decl_itself (decl.Function name size cases) h =
    both (same name name) (same_size size size && pointwise same_case cases cases) (name_itself name)
    (both (same_size size size) (pointwise same_case cases cases) (size_itself size) (pointwise_itself same_case (λ c. sum_itself c.value) cases))
decl_itself (decl.Receive name size inputs raised) h =
    both (same name name) (same_size size size && (pointwise same_mention inputs inputs && same_mention raised raised)) (name_itself name)
    (both (same_size size size) (pointwise same_mention inputs inputs && same_mention raised raised) (size_itself size)
    (both (pointwise same_mention inputs inputs) (same_mention raised raised) (pointwise_itself same_mention mention_itself inputs) (mention_itself raised)))
decl_itself (decl.Send name size fields cases) h =
    both (same name name) (same_size size size && (pointwise same fields fields && pointwise same_send_case cases cases)) (name_itself name)
    (both (same_size size size) (pointwise same fields fields && pointwise same_send_case cases cases) (size_itself size)
    (both (pointwise same fields fields) (pointwise same_send_case cases cases) (pointwise_itself same name_itself fields) (pointwise_itself same_send_case send_case_itself cases)))

open_itself : (d : Decl) → is_macro d ≡ false → same_decl (open_decl d) (open_decl d) ≡ true
open_itself d h = sym (decl_blind d d) ∙ decl_itself d h

-- All of them.

framed_kept : (ds : List Decl) → flat_map framed ds ≡ map open_decl (kept ds)
framed_kept [] = refl
framed_kept (decl.Macro name size rows ∷ ds) = framed_kept ds
framed_kept (d ∷ ds) = ap (λ es. open_decl d ∷ es) (framed_kept ds)

kept_itself : (ds : List Decl) → pointwise same_decl (map open_decl (kept ds)) (map open_decl (kept ds)) ≡ true
kept_itself [] = refl
kept_itself (d ∷ ds) = by_test (is_macro d) refl (kept_itself ds)
  where
    by_test : (b : Bool) → is_macro d ≡ b → pointwise same_decl (map open_decl (kept ds)) (map open_decl (kept ds)) ≡ true
        → pointwise same_decl (map open_decl (cond (not b) (d ∷ kept ds) (kept ds))) (map open_decl (cond (not b) (d ∷ kept ds) (kept ds))) ≡ true
    by_test true e r = r
    by_test false e r = both (same_decl (open_decl d) (open_decl d)) (pointwise same_decl (map open_decl (kept ds)) (map open_decl (kept ds))) (open_itself d e) r

pub kept_to : (ds es : List Decl) → pointwise same_decl (kept ds) (kept es) ≡ true → flat_map framed ds ≡ flat_map framed es
kept_to ds es h = framed_kept ds ∙ pointwise_opens same_decl open_decl decl_opens (kept ds) (kept es) h ∙ sym (framed_kept es)

pub kept_from : (ds es : List Decl) → flat_map framed ds ≡ flat_map framed es → pointwise same_decl (kept ds) (kept es) ≡ true
kept_from ds es h =
    pointwise_blind same_decl open_decl decl_blind (kept ds) (kept es)
    ∙ ap (pointwise same_decl (map open_decl (kept ds))) (sym (sym (framed_kept ds) ∙ h ∙ framed_kept es))
    ∙ kept_itself ds
