-- What cases of sends send, and the names of what they send.
use Rattle.std.proofs.Common.{◌≡◌, ℕ, suc, ◌<◌, ◌≤◌, Bool, true, false, ◌&&◌, List, [], ◌∷◌, ◌++◌, map, flat_map, length, get_or, Option, Some, None, refl, sym, ap, ◌∙◌, slice_get}
use Rattle.std.specs.Prelude.{if◌then◌else◌}
use Rattle.std.specs.List.{list_all}
use Rattle.std.specs.Option.{option_map, option_map_or, option_and_then}
use Rattle.std.proofs.lemmas.List.{map-append}
use Rattle.std.proofs.lemmas.Grind.{flat_map-append}
use Rattle.std.proofs.lemmas.Option.{slice_get-map, slice_get_past}
use Rattle.rsml_syntax.specs.declared.syntax.Spec.{Spec}
use Rattle.rsml_syntax.specs.declared.syntax.Decl.{Decl}
use Rattle.rsml_syntax.specs.declared.syntax.Decl.TheVariants as decl
use Rattle.rsml_syntax.specs.declared.syntax.SendCase.{SendCase}
use Rattle.rsml_syntax.specs.declared.syntax.Term.{Term}
use Rattle.rsml_syntax.specs.declared.syntax.Sum.{Sum}
use Rattle.rsml_syntax.specs.grammar.Written.{values_in}
use Rattle.rsml_syntax.specs.text.Names.{Name}
use Rattle.rsml_syntax.specs.rules.Globals.{Globals, globals, indices}
use Rattle.rsml_syntax.specs.rules.Kinds.{Kind, Numbers, Values, is_numbers, operand_kind, single_kind, sum_kind}
use Rattle.rsml_meaning.specs.Words.{numbered_from, numbered}
use Rattle.rsml_meaning.specs.Instances.{globals_of}
use Rattle.rsml_meaning.specs.Interfaces.{SendCaseInstance, new_send_case, send_cases_of}
use Rattle.rsml_meaning.specs.Trace.{names_of_kind}
use Rattle.instance_texts.specs.declared.sorts.Sort.TheVariants as sorts
use Rattle.instance_texts.specs.Listing.{Listed, at_index, listed_by}
use Rattle.instance_texts.specs.SentCases.{Answered, names_of_value, names_in, answered_by, cases_in, answer_of, AreSent}
use Rattle.instance_texts.proofs.FoundLemmas.{got}

-- Names.

one_kind : (g : Globals) (minus : Bool) (k : Option Kind)
    → names_of_kind g (if minus then None else k) ≡ names_of_kind g (if (is_numbers k && true) then Some Numbers else (if minus then None else k))
one_kind g true None = refl
one_kind g true (Some Numbers) = refl
one_kind g true (Some (Values name)) = refl
one_kind g false None = refl
one_kind g false (Some Numbers) = refl
one_kind g false (Some (Values name)) = refl

no_kind : (g : Globals) (numbers : Bool) → names_of_kind g None ≡ names_of_kind g (if numbers then Some Numbers else None)
no_kind g true = refl
no_kind g false = refl

by_terms : (g : Globals) (ts : List Term)
    → names_of_kind g (single_kind g ts) ≡ names_of_kind g (if list_all (λ t. is_numbers (operand_kind g t.operand)) ts then Some Numbers else single_kind g ts)
by_terms g [] = refl
by_terms g (t ∷ []) = one_kind g t.minus (operand_kind g t.operand)
by_terms g (t ∷ u ∷ ts) = no_kind g (list_all (λ x. is_numbers (operand_kind g x.operand)) (t ∷ u ∷ ts))

-- only one operand without a minus has names
pub sum_names_are : (g : Globals) (x : Sum) → names_of_kind g (single_kind g x.terms) ≡ names_of_kind g (sum_kind g x)
sum_names_are g x = by_terms g x.terms

-- Cases.

numbered_cases : (g : Globals) (name : Name) (fields : List Name) (i n : ℕ) (cases : List SendCase)
    → map (answered_by g fields) cases ≡ map (answer_of g) (map (new_send_case g name fields i) (numbered_from n cases))
numbered_cases g name fields i n [] = refl
numbered_cases g name fields i n (c ∷ cs) = ap (λ (xs : List Answered). answered_by g fields c ∷ xs) (numbered_cases g name fields i (suc n) cs)

cases_at : (g : Globals) (name : Name) (size : _) (fields : List Name) (cases : List SendCase) (is : List ℕ)
    → flat_map (λ x. cases_in g x.decl) (map (at_index (decl.Send name size fields cases)) is)
    ≡ map (answer_of g) (flat_map (λ i. map (new_send_case g name fields i) (numbered cases)) is)
cases_at g name size fields cases [] = refl
cases_at g name size fields cases (i ∷ is) =
    ap (λ (xs : List Answered). xs ++ flat_map (λ x. cases_in g x.decl) (map (at_index (decl.Send name size fields cases)) is)) (numbered_cases g name fields i 1 cases)
    ∙ ap (λ (xs : List Answered). map (answer_of g) (map (new_send_case g name fields i) (numbered cases)) ++ xs) (cases_at g name size fields cases is)
    ∙ sym (map-append (answer_of g) (map (new_send_case g name fields i) (numbered cases)) (flat_map (λ j. map (new_send_case g name fields j) (numbered cases)) is))

one_send : (g : Globals) (d : Decl) → flat_map (λ x. cases_in g x.decl) (listed_by sorts.Send g d) ≡ map (answer_of g) (send_cases_of g d)
one_send g (decl.Send name size fields cases) = cases_at g name size fields cases (indices g size)
one_send g _ = refl

all_sends : (g : Globals) (ds : List Decl) → flat_map (λ x. cases_in g x.decl) (flat_map (listed_by sorts.Send g) ds) ≡ map (answer_of g) (flat_map (send_cases_of g) ds)
all_sends g [] = refl
all_sends g (d ∷ ds) =
    flat_map-append (λ x. cases_in g x.decl) (listed_by sorts.Send g d) (flat_map (listed_by sorts.Send g) ds)
    ∙ ap (λ (xs : List Answered). xs ++ flat_map (λ x. cases_in g x.decl) (flat_map (listed_by sorts.Send g) ds)) (one_send g d)
    ∙ ap (λ (xs : List Answered). map (answer_of g) (send_cases_of g d) ++ xs) (all_sends g ds)
    ∙ sym (map-append (answer_of g) (send_cases_of g d) (flat_map (send_cases_of g) ds))

-- the cases of the sends that are listed are those of the definitions, as the parts are named on the way
pub sent_by : (s : Spec) (g : Globals) (ds es : List Decl) (xs ys : List Listed) (cs : List Answered) → g ≡ globals ds → ds ≡ s.decls → es ≡ s.decls
    → xs ≡ flat_map (listed_by sorts.Send g) es → ys ≡ xs → cs ≡ flat_map (λ x. cases_in g x.decl) ys → AreSent s cs
sent_by s g ds es xs ys cs known here there x y c =
    c
    ∙ ap (λ (zs : List Listed). flat_map (λ z. cases_in g z.decl) zs) (y ∙ x ∙ ap (λ (fs : List Decl). flat_map (listed_by sorts.Send g) fs) there)
    ∙ ap (λ (h : Globals). flat_map (λ z. cases_in h z.decl) (flat_map (listed_by sorts.Send h) s.decls)) (known ∙ ap (λ (zs : List Decl). globals zs) here)
    ∙ all_sends (globals_of s) s.decls

by_case : {V : Type 0} (g : Globals) (h : Answered → Option V) (x : Answered) (o : Option SendCaseInstance) → option_map (answer_of g) o ≡ Some x → h x ≡ option_and_then (λ c. h (answer_of g c)) o
by_case g h x None e = absurd (let no : ⊥ = cc in no)
by_case g h x (Some c) e = let is : answer_of g c ≡ x = cc in sym (ap h is)

-- what is asked of the case there
pub case_there : {V : Type 0} (g : Globals) (h : Answered → Option V) (cs : List SendCaseInstance) (xs : List Answered) (k : ℕ) (x : Answered)
    → xs ≡ map (answer_of g) cs → k < length xs → x ≡ get_or xs k x → h x ≡ option_and_then (λ c. h (answer_of g c)) (slice_get cs k)
case_there g h cs xs k x all b e =
    by_case g h x (slice_get cs k) (sym (slice_get-map (answer_of g) cs k) ∙ ap (λ (ys : List Answered). slice_get ys k) (sym all) ∙ got xs k x b e)

no_case : {V : Type 0} (g : Globals) (h : Answered → Option V) (o : Option SendCaseInstance) → option_map (answer_of g) o ≡ None → None ≡ option_and_then (λ c. h (answer_of g c)) o
no_case g h None e = refl
no_case g h (Some c) e = absurd (let no : ⊥ = cc in no)

-- none past the last
pub case_past : {V : Type 0} (g : Globals) (h : Answered → Option V) (cs : List SendCaseInstance) (xs : List Answered) (k : ℕ) → xs ≡ map (answer_of g) cs → length xs ≤ k
    → None ≡ option_and_then (λ c. h (answer_of g c)) (slice_get cs k)
case_past g h cs xs k all b =
    no_case g h (slice_get cs k) (sym (slice_get-map (answer_of g) cs k) ∙ ap (λ (ys : List Answered). slice_get ys k) (sym all) ∙ slice_get_past xs k b)

-- the names at a place of an answer are those of the value there
pub by_value : (g : Globals) (place : ℕ) (o : Option SendCaseInstance)
    → option_and_then (λ c. slice_get (names_in g c.answer) place) o ≡ option_map (names_of_value g) (option_and_then (λ c. slice_get (values_in c.answer) place) o)
by_value g place None = refl
by_value g place (Some c) = slice_get-map (names_of_value g) (values_in c.answer) place

-- the text by what is found for an item
pub text_by : {A B : Type 0} (f : A → B) (h : B → List ℕ) (x : B) (o : Option A) → Some x ≡ option_map f o → h x ≡ option_map_or (λ a. h (f a)) o []
text_by f h x None e = absurd (let no : ⊥ = cc in no)
text_by f h x (Some a) e = let is : x ≡ f a = cc in ap h is

-- none for no item
pub text_by_none : {A B : Type 0} (f : A → B) (h : B → List ℕ) (o : Option A) → None ≡ option_map f o → [] ≡ option_map_or (λ a. h (f a)) o []
text_by_none f h None e = refl
text_by_none f h (Some a) e = absurd (let no : ⊥ = cc in no)
