-- The text of what stands at a place of a list.
use Rattle.std.proofs.Common.{◌≡◌, ℕ, ◌<◌, ◌≤◌, Bool, false, List, [], map, length, get_or, Option, Some, None, refl, sym, ap, ◌∙◌, slice_get}
use Rattle.std.specs.Option.{option_map, option_map_or, option_and_then}
use Rattle.std.proofs.lemmas.Option.{slice_get-map, slice_get-get_or, slice_get_past}
use Rattle.rsml_meaning.specs.Cells.{InputCell}
use Rattle.rsml_syntax.specs.declared.syntax.Spec.{Spec}
use Rattle.rsml_syntax.specs.text.Names.{Name}
use Rattle.rsml_meaning.specs.Interfaces.{receives}
use Rattle.instance_texts.specs.declared.sorts.Sort.TheVariants as sorts
use Rattle.instance_texts.specs.Listing.{Listed, all_listed}
use Rattle.instance_texts.specs.Inputs.{input_names, names_of_inputs}
use Rattle.instance_texts.specs.InputCells.{without_first}
use Rattle.instance_texts.proofs.InstanceLemmas.{inputs_listed}

-- that of the item there
pub text_there : {A B : Type 0} (f : A → B) (h : B → List ℕ) (xs : List A) (k : ℕ) (x : A) → slice_get xs k ≡ Some x → h (f x) ≡ option_map_or h (slice_get (map f xs) k) []
text_there {A} {B} f h xs k x e = sym (ap (λ (o : Option B). option_map_or h o []) (slice_get-map f xs k ∙ ap (λ (o : Option A). option_map f o) e))

-- none past the last
pub text_past : {A B : Type 0} (f : A → B) (h : B → List ℕ) (xs : List A) (k : ℕ) → slice_get xs k ≡ None → [] ≡ option_map_or h (slice_get (map f xs) k) []
text_past {A} {B} f h xs k e = sym (ap (λ (o : Option B). option_map_or h o []) (slice_get-map f xs k ∙ ap (λ (o : Option A). option_map f o) e))

-- what a look-up gives
pub got : {A : Type 0} (xs : List A) (k : ℕ) (x : A) → k < length xs → x ≡ get_or xs k x → slice_get xs k ≡ Some x
got xs k x b e = slice_get-get_or xs k x b ∙ ap Some (sym e)

-- no text of a cell shows its first number
by_cells : (h : InputCell → List ℕ) → ((c : InputCell) → h (without_first c) ≡ h c) → (x : InputCell) (o : Option InputCell) → option_map without_first o ≡ Some x → h x ≡ option_map_or h o []
by_cells h same x None e = absurd (let no : ⊥ = cc in no)
by_cells h same x (Some c) e = let is : without_first c ≡ x = cc in sym (ap h is) ∙ same c

-- the text of the cell there
pub cell_there : (h : InputCell → List ℕ) → ((c : InputCell) → h (without_first c) ≡ h c) → (cs xs : List InputCell) (k : ℕ) (x : InputCell) → xs ≡ map without_first cs → k < length xs → x ≡ get_or xs k x
    → h x ≡ option_map_or h (slice_get cs k) []
cell_there h same cs xs k x all b e =
    by_cells h same x (slice_get cs k) (sym (slice_get-map without_first cs k) ∙ ap (λ (ys : List InputCell). slice_get ys k) (sym all) ∙ got xs k x b e)

no_cell : (h : InputCell → List ℕ) (o : Option InputCell) → option_map without_first o ≡ None → [] ≡ option_map_or h o []
no_cell h None e = refl
no_cell h (Some c) e = absurd (let no : ⊥ = cc in no)

-- none past the last
pub cell_past : (h : InputCell → List ℕ) (cs xs : List InputCell) (k : ℕ) → xs ≡ map without_first cs → length xs ≤ k → [] ≡ option_map_or h (slice_get cs k) []
cell_past h cs xs k all b =
    no_cell h (slice_get cs k) (sym (slice_get-map without_first cs k) ∙ ap (λ (ys : List InputCell). slice_get ys k) (sym all) ∙ slice_get_past xs k b)

-- what is true of the cell there
so_of : (h : InputCell → Bool) → ((c : InputCell) → h (without_first c) ≡ h c) → (x : InputCell) (o : Option InputCell) → option_map without_first o ≡ Some x → h x ≡ option_map_or h o false
so_of h same x None e = absurd (let no : ⊥ = cc in no)
so_of h same x (Some c) e = let is : without_first c ≡ x = cc in sym (ap h is) ∙ same c

pub so_there : (h : InputCell → Bool) → ((c : InputCell) → h (without_first c) ≡ h c) → (cs xs : List InputCell) (k : ℕ) (x : InputCell) → xs ≡ map without_first cs → k < length xs → x ≡ get_or xs k x
    → h x ≡ option_map_or h (slice_get cs k) false
so_there h same cs xs k x all b e =
    so_of h same x (slice_get cs k) (sym (slice_get-map without_first cs k) ∙ ap (λ (ys : List InputCell). slice_get ys k) (sym all) ∙ got xs k x b e)

no_such : (h : InputCell → Bool) (o : Option InputCell) → option_map without_first o ≡ None → false ≡ option_map_or h o false
no_such h None e = refl
no_such h (Some c) e = absurd (let no : ⊥ = cc in no)

-- nothing is past the last
pub so_past : (h : InputCell → Bool) (cs xs : List InputCell) (k : ℕ) → xs ≡ map without_first cs → length xs ≤ k → false ≡ option_map_or h (slice_get cs k) false
so_past h cs xs k all b =
    no_such h (slice_get cs k) (sym (slice_get-map without_first cs k) ∙ ap (λ (ys : List InputCell). slice_get ys k) (sym all) ∙ slice_get_past xs k b)

-- the name at a place among the inputs of the receive there
pub name_there : (s : Spec) (xs : List Listed) (k place : ℕ) (x : Listed) → xs ≡ all_listed sorts.Receive s → k < length xs → x ≡ get_or xs k x
    → slice_get (input_names x.decl) place ≡ option_and_then (λ names. slice_get names place) (slice_get (map names_of_inputs (receives s)) k)
name_there s xs k place x all b e =
    sym (ap (λ (o : Option (List Name)). option_and_then (λ names. slice_get names place) o)
    (ap (λ (ys : List (List Name)). slice_get ys k) (sym (inputs_listed s))
    ∙ ap (λ (zs : List Listed). slice_get (map (λ z. input_names z.decl) zs) k) (sym all)
    ∙ slice_get-map (λ (z : Listed). input_names z.decl) xs k
    ∙ ap (λ (o : Option Listed). option_map (λ z. input_names z.decl) o) (got xs k x b e)))

-- none past the last
pub name_past : (s : Spec) (xs : List Listed) (k place : ℕ) → xs ≡ all_listed sorts.Receive s → length xs ≤ k
    → None ≡ option_and_then (λ names. slice_get names place) (slice_get (map names_of_inputs (receives s)) k)
name_past s xs k place all b =
    sym (ap (λ (o : Option (List Name)). option_and_then (λ names. slice_get names place) o)
    (ap (λ (ys : List (List Name)). slice_get ys k) (sym (inputs_listed s))
    ∙ ap (λ (zs : List Listed). slice_get (map (λ z. input_names z.decl) zs) k) (sym all)
    ∙ slice_get-map (λ (z : Listed). input_names z.decl) xs k
    ∙ ap (λ (o : Option Listed). option_map (λ z. input_names z.decl) o) (slice_get_past xs k b)))
