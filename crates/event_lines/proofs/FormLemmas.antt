-- The form at the number of a declaration is that of its receives.
use Rattle.std.proofs.Common.{◌≡◌, ℕ, zero, suc, ◌+◌, ◌-◌, ◌<◌, ◌≤◌, Bool, true, false, List, [], ◌∷◌, ◌++◌, map, flat_map, length, take, drop, get_or, slice_get, Option, Some, None, refl, sym, ap, ◌∙◌, subst, inl, inr, arith, leb-true, length-append, append_assoc, Bor}
use Rattle.std.specs.Prelude.{if◌then◌else◌, ◌&&◌, nat_le, is_some, MatchOption}
use Rattle.std.specs.Option.{option_map, option_and_then, option_copied}
use Rattle.std.specs.Cmp.{first_so, second_so}
use Rattle.std.proofs.lemmas.Bool.{cases_lt}
use Rattle.std.proofs.lemmas.List.{length-map, length_push, map_push}
use Rattle.std.proofs.lemmas.Option.{slice_get-map, same_Some}
use Rattle.rsml_syntax.specs.declared.syntax.Spec.{Spec}
use Rattle.rsml_syntax.specs.declared.syntax.Decl.{Decl}
use Rattle.rsml_syntax.specs.declared.syntax.Decl.TheVariants as decl
use Rattle.rsml_syntax.specs.declared.syntax.Amount.{Amount}
use Rattle.rsml_syntax.specs.declared.syntax.Mention.{Mention}
use Rattle.rsml_syntax.specs.text.Names.{Name}
use Rattle.rsml_syntax.specs.rules.Globals.{Globals, Known, globals, name_of, meaning, many, up_to, indices}
use Rattle.rsml_meaning.specs.Words.{Each}
use Rattle.rsml_meaning.specs.Cells.{InputType}
use Rattle.rsml_meaning.specs.Interfaces.{ReceiveInstance, new_receive, receives_of, receives}
use Rattle.rsml_meaning.specs.EventLines as lines
use Rattle.rsml_names.proofs.Gathering.{split}
use Rattle.rsml_meaning.proofs.Globals.{meaning_is}
use Rattle.event_lines.specs.declared.form.Form.{Form}
use Rattle.event_lines.specs.helpers.Declared.{declared_by, types_of}
use Rattle.event_lines.specs.helpers.Forms.{listed, index_of, Written, written, declared, declared_from, after, IsWithin, AreForms, IsFormOf}

-- Lists.

get_front : {A : Type 0} (xs ys : List A) (k : ℕ) (x : A) → slice_get xs k ≡ Some x → slice_get (xs ++ ys) k ≡ Some x
get_front [] ys k x h = cc
get_front (z ∷ xs) ys zero x h = h
get_front (z ∷ xs) ys (suc k) x h = get_front xs ys k x h

get_behind : {A : Type 0} (xs ys : List A) (k : ℕ) → slice_get (xs ++ ys) (length xs + k) ≡ slice_get ys k
get_behind [] ys k = let e : 0 + k ≡ k = omega arith in rw e refl
get_behind (x ∷ xs) ys k = let e : suc (length xs) + k ≡ suc (length xs + k) = omega arith in rw e (get_behind xs ys k)

pub each_at : {A : Type 0} (P : A → Type 0) (xs : List A) (k : ℕ) (x : A) → Each P xs → slice_get xs k ≡ Some x → P x
each_at P [] k x h e = cc
each_at P (z ∷ xs) zero x h e = subst P (same_Some z x e) h.0
each_at P (z ∷ xs) (suc k) x h e = each_at P xs k x h.1 e

-- Places.

declared_at : (g : Globals) (ds : List Decl) (first n : ℕ) (d : Decl) → slice_get ds n ≡ Some d →
    slice_get (declared_from g first ds) n ≡ Some (declared g (first + length (flat_map (receives_of g) (take n ds))) d)
declared_at g [] first n d h = cc
declared_at g (e ∷ ds) first zero d h = ap Some (ap (declared g first) (same_Some e d h) ∙ ap (λ k. declared g k d) (omega arith))
declared_at g (e ∷ ds) first (suc n) d h =
    declared_at g ds (first + length (receives_of g e)) n d h
    ∙ ap (λ k. Some (declared g k d)) (omega (arith, length-append (receives_of g e) (flat_map (receives_of g) (take n ds))))

receive_at : (g : Globals) (ds : List Decl) (n j : ℕ) (d : Decl) (x : ReceiveInstance) → slice_get ds n ≡ Some d → slice_get (receives_of g d) j ≡ Some x →
    slice_get (flat_map (receives_of g) ds) (length (flat_map (receives_of g) (take n ds)) + j) ≡ Some x
receive_at g [] n j d x h k = cc
receive_at g (e ∷ ds) zero j d x h k =
    ap (λ m. slice_get (receives_of g e ++ flat_map (receives_of g) ds) m) (omega arith)
    ∙ get_front (receives_of g e) (flat_map (receives_of g) ds) j x (ap (λ (z : Decl). slice_get (receives_of g z) j) (same_Some e d h) ∙ k)
receive_at g (e ∷ ds) (suc n) j d x h k =
    ap (λ m. slice_get (receives_of g e ++ flat_map (receives_of g) ds) m)
    (omega (arith, length-append (receives_of g e) (flat_map (receives_of g) (take n ds))))
    ∙ get_behind (receives_of g e) (flat_map (receives_of g) ds) (length (flat_map (receives_of g) (take n ds)) + j)
    ∙ receive_at g ds n j d x h k

-- Indices.

length_up_to : (n : ℕ) → length (up_to n) ≡ n
length_up_to zero = refl
length_up_to (suc n) = length_push (up_to n) (suc n) ∙ omega (arith, length_up_to n)

up_to_at : (n k : ℕ) → k < n → slice_get (up_to n) k ≡ Some (k + 1)
up_to_at zero k h = absurd (omega (arith, h))
up_to_at (suc n) k h = elim (cases_lt k n) [
  | inl l ↦ get_front (up_to n) (suc n ∷ []) k (k + 1) (up_to_at n k l)
  | inr u ↦ ap (λ m. slice_get (up_to n ++ (suc n ∷ [])) m) (omega (arith, h, u, length_up_to n))
      ∙ get_behind (up_to n) (suc n ∷ []) 0 ∙ ap Some (omega (arith, h, u))
]

in_size : (size n index : ℕ) → lines.up_to_size size n ≡ Some index → (1 ≤ index) × (index ≤ size)
in_size size n index h = by (nat_le 1 n && nat_le n size) refl h
  where
    by : (b : Bool) → (nat_le 1 n && nat_le n size) ≡ b → (if b then Some n else None) ≡ Some index → (1 ≤ index) × (index ≤ size)
    by true e k = let same = same_Some n index k in (
      subst (λ z. 1 ≤ z) same (leb-true 1 n (first_so (nat_le 1 n) (nat_le n size) e)),
      subst (λ z. z ≤ size) same (leb-true n size (second_so (nat_le 1 n) (nat_le n size) e)),
    )
    by false e k = cc

sized_index : (size : ℕ) (text : lines.Bytes) (index : ℕ) → index_of true size text ≡ Some index → (1 ≤ index) × (index ≤ size)
sized_index size text index h = by (option_and_then lines.digits_number (lines.in_brackets text)) h
  where
    by : (o : Option ℕ) → option_and_then (lines.up_to_size size) o ≡ Some index → (1 ≤ index) × (index ≤ size)
    by None h = cc
    by (Some n) h = in_size size n index h

single_index : (size : ℕ) (text : lines.Bytes) (index : ℕ) → index_of false size text ≡ Some index → index ≡ 0
single_index size text index h = by (lines.is_empty text) h
  where
    by : (b : Bool) → (if b then Some 0 else None) ≡ Some index → index ≡ 0
    by true h = sym (same_Some 0 index h)
    by false h = cc

-- an index that is told is one of those of the size
told_index : (g : Globals) (size : Option Amount) (text : lines.Bytes) (index : ℕ) → index_of (is_some size) (many g size) text ≡ Some index → slice_get (indices g size) (index - 1) ≡ Some index
told_index g None text index h = let e = single_index 1 text index h in rw e refl
told_index g (Some amount) text index h =
    let p = sized_index (many g (Some amount)) text index h in
    let low : 1 ≤ index = p.0 in
    let high : index ≤ many g (Some amount) = p.1 in
    up_to_at (many g (Some amount)) (index - 1) (omega (arith, low, high)) ∙ ap Some (omega (arith, low))

pub index_within : (b : Bool) (size : ℕ) (text : lines.Bytes) (index : ℕ) → index_of b size text ≡ Some index → index ≤ size
index_within true size text index h = (sized_index size text index h).1
index_within false size text index h = let e = single_index size text index h in omega (arith, e)

-- the index that the definitions say to be told
pub index_told : (g : Globals) (size : Option Amount) (text : lines.Bytes) → lines.index_told g size text ≡ index_of (is_some size) (many g size) text
index_told g None text = refl
index_told g (Some amount) text = refl

-- The form.

-- what a receive is declared with
abbrev interface_of : Option Amount → List Mention → Mention → lines.Interface
interface_of size inputs raised = record { size = size; inputs = inputs; raised = raised }

module _ (s : Spec) (name : Name) where
  abbrev g : Globals
  g = globals s.decls

  abbrev of_decl : Decl → Option lines.Interface
  of_decl d = elim d [ decl.Receive _ size inputs raised ↦ Some (interface_of size inputs raised) | _ ↦ None ]

  by_decl : lines.interface g name ≡ option_and_then of_decl (declared_by s.decls name)
  by_decl = by (meaning g name)
    where
      by : (o : Option Known) → option_and_then lines.interface_by o ≡ option_and_then of_decl (option_map (λ k. k.decl) o)
      by None = refl
      by (Some k) = refl

  pub unknown : declared_by s.decls name ≡ None → lines.interface g name ≡ None
  unknown h = by_decl ∙ ap (option_and_then of_decl) h

  -- the receive that the name means has the name
  own_name : (nm : Name) (size : Option Amount) (inputs : List Mention) (raised : Mention) → declared_by s.decls name ≡ Some (decl.Receive nm size inputs raised) → nm ≡ name
  own_name nm size inputs raised h = by (meaning g name) refl h
    where
      by_known : (k : Known) → meaning g name ≡ Some k → k.decl ≡ decl.Receive nm size inputs raised → nm ≡ name
      by_known k e same =
          let m = meaning_is s.decls name k e in
          elim m.valued [
            | inl none ↦ sym (ap name_of same) ∙ m.named none
            | inr values ↦ absurd (let no : ⊥ = cc in no)
          ]

      by : (o : Option Known) → meaning g name ≡ o → option_map (λ k. k.decl) o ≡ Some (decl.Receive nm size inputs raised) → nm ≡ name
      by None e h = cc
      by (Some k) e h = by_known k e (same_Some k.decl (decl.Receive nm size inputs raised) h)

  -- what is known of a form at the number of a declaration
  record FormAt (n : ℕ) (d : Decl) (o : Option Form) : Type 0 where
    there : slice_get s.decls n ≡ Some d
    declares : declared_by s.decls name ≡ Some d
    is : option_map (written (types_of s.decls)) o ≡ declared g (length (flat_map (receives_of g) (take n s.decls))) d
    within : IsWithin (length s.decls + 1) o

  no_form : (n : ℕ) (d : Decl) → FormAt n d None → lines.interface g name ≡ None
  no_form n d a = by_decl ∙ ap (option_and_then of_decl) a.declares ∙ by d a.is
    where
      by : (d : Decl) → None ≡ declared g (length (flat_map (receives_of g) (take n s.decls))) d → of_decl d ≡ None
      by (decl.Enumeration _ _) h = refl
      by (decl.Range _ _ _) h = refl
      by (decl.Constant _ _) h = refl
      by (decl.Input _ _ _ _) h = refl
      by (decl.Event _ _) h = refl
      by (decl.Macro _ _ _) h = refl
      by (decl.Function _ _ _) h = refl
      by (decl.Receive _ _ _ _) h = cc
      by (decl.Send _ _ _ _) h = refl

  receive_form : (n : ℕ) (nm : Name) (size : Option Amount) (inputs : List Mention) (raised : Mention) (f : Form) → FormAt n (decl.Receive nm size inputs raised) (Some f) → IsFormOf s name f
  receive_form n nm size inputs raised f a =
      let same : written (types_of s.decls) f ≡ record { first = length (flat_map (receives_of g) (take n s.decls)); many = many g size; is_array = is_some size; fields = map (listed g) inputs } =
      same_Some _ _ a.is in
      let arrays : f.is_array ≡ is_some size = ap (λ (w : Written). w.is_array) same in
      let sizes : f.many ≡ many g size = ap (λ (w : Written). w.many) same in
      let firsts : f.first ≡ length (flat_map (receives_of g) (take n s.decls)) = ap (λ (w : Written). w.first) same in
      record {
        interface = interface_of size inputs raised;
        named = by_decl ∙ ap (option_and_then of_decl) a.declares;
        is_array = arrays;
        many = sizes;
        fields = ap (λ (w : Written). w.fields) same;
        within = a.within;
        there = λ text index told.
            ap (λ k. slice_get (receives s) (k + (index - 1))) firsts
            ∙ receive_at g s.decls n (index - 1) (decl.Receive nm size inputs raised) (new_receive g nm inputs raised index) a.there
            (slice_get-map (new_receive g nm inputs raised) (indices g size) (index - 1)
            ∙ ap (option_map (new_receive g nm inputs raised))
            (told_index g size text index (sym (ap (λ b. index_of b (many g size) text) arrays) ∙ sym (ap (λ k. index_of f.is_array k text) sizes) ∙ told)))
            ∙ ap (λ z. Some (new_receive g z inputs raised index)) (own_name nm size inputs raised a.declares);
      }

  some_form : (n : ℕ) (d : Decl) (f : Form) → FormAt n d (Some f) → IsFormOf s name f
  some_form n d f a = by d a.is a
    where
      by : (d : Decl) → Some (written (types_of s.decls) f) ≡ declared g (length (flat_map (receives_of g) (take n s.decls))) d → FormAt n d (Some f) → IsFormOf s name f
      by (decl.Enumeration _ _) h a = cc
      by (decl.Range _ _ _) h a = cc
      by (decl.Constant _ _) h a = cc
      by (decl.Input _ _ _ _) h a = cc
      by (decl.Event _ _) h a = cc
      by (decl.Macro _ _ _) h a = cc
      by (decl.Function _ _ _) h a = cc
      by (decl.Receive nm size inputs raised) h a = receive_form n nm size inputs raised f a
      by (decl.Send _ _ _ _) h a = cc

  module _ (types : List InputType) (forms : List (Option Form)) (a : AreForms s.decls types forms) (n : ℕ)
      (number : Some (slice_get s.decls n) ≡ option_map (λ d. Some d) (declared_by s.decls name)) where
    abbrev IsDecl : Decl → Type 0
    IsDecl d = (slice_get s.decls n ≡ Some d) × (declared_by s.decls name ≡ Some d)

    the_decl : (d : Decl) × IsDecl d
    the_decl = by (declared_by s.decls name) number refl
      where
        by : (o : Option Decl) → Some (slice_get s.decls n) ≡ option_map (λ d. Some d) o → declared_by s.decls name ≡ o → (d : Decl) × IsDecl d
        by None h e = cc
        by (Some d) h e = (d, (same_Some (slice_get s.decls n) (Some d) h, e))

    written_at : (d : Decl) → slice_get s.decls n ≡ Some d → option_map (option_map (written types)) (slice_get forms n) ≡ Some (declared g (length (flat_map (receives_of g) (take n s.decls))) d)
    written_at d there =
        sym (slice_get-map (option_map (written types)) forms n) ∙ ap (λ (xs : List (Option Written)). slice_get xs n) a.forms_are ∙ declared_at g s.decls 0 n d there
        ∙ ap (λ k. Some (declared g k d)) (omega arith)

    form_at : (o : Option Form) → slice_get forms n ≡ Some o → (d : Decl) × FormAt n d o
    form_at o h =
        let d = the_decl in (
          d.0,
          record {
            there = d.1.0;
            declares = d.1.1;
            is = ap (λ (ts : List InputType). option_map (written ts) o) (sym a.types_are) ∙ same_Some _ _ (sym (ap (option_map (option_map (written types))) h) ∙ written_at d.0 d.1.0);
            within = each_at (IsWithin (length s.decls + 1)) forms n o a.within h;
          },
        )

    -- the form at the number is that of the receive of the name
    pub is_form : (f : Form) → slice_get forms n ≡ Some (Some f) → IsFormOf s name f
    is_form f h = let p = form_at (Some f) h in some_form n p.0 f p.1

    pub is_no_form : slice_get forms n ≡ Some None → lines.interface g name ≡ None
    is_no_form h = let p = form_at None h in no_form n p.0 p.1

    pub is_there : slice_get forms n ≡ None → ⊥
    is_there h = let d = the_decl in let e = sym (ap (option_map (option_map (written types))) h) ∙ written_at d.0 d.1.0 in let no : ⊥ = cc in no

-- The form of a name, by its number.

pub form_result : (sp s : Spec) (name : Name) (owners : List Decl) (types : List InputType) (forms held : List (Option Form)) (n : ℕ) (r : Option (Bor Form)) → sp ≡ s → owners ≡ sp.decls → AreForms sp.decls types forms →
    Some (slice_get owners n) ≡ option_map (λ d. Some d) (declared_by owners name) → held ≡ forms → option_copied r ≡ option_and_then (λ o. o) (slice_get held n) →
    MatchOption r (lines.interface (globals s.decls) name ≡ None) (λ f. IsFormOf s name f.now)
form_result sp s name owners types forms held n r same o a number h result =
    subst (λ (z : Spec). MatchOption r (lines.interface (globals z.decls) name ≡ None) (λ f. IsFormOf z name f.now)) same
    (by r (slice_get forms n) refl (result ∙ ap (λ (fs : List (Option Form)). option_and_then (λ o. o) (slice_get fs n)) h))
  where
    here : Some (slice_get sp.decls n) ≡ option_map (λ d. Some d) (declared_by sp.decls name)
    here = subst (λ (ds : List Decl). Some (slice_get ds n) ≡ option_map (λ d. Some d) (declared_by ds name)) o number

    by : (r : Option (Bor Form)) (held : Option (Option Form)) → slice_get forms n ≡ held → option_copied r ≡ option_and_then (λ o. o) held → MatchOption r (lines.interface (globals sp.decls) name ≡ None) (λ f. IsFormOf sp name f.now)
    by None None e k = absurd (is_there sp name types forms a n here e)
    by None (Some None) e k = is_no_form sp name types forms a n here e
    by None (Some (Some f)) e k = cc
    by (Some x) None e k = cc
    by (Some x) (Some None) e k = cc
    by (Some x) (Some (Some f)) e k = subst (λ (z : Form). IsFormOf sp name z) (sym (same_Some x.now f k)) (is_form sp name types forms a n here f e)

-- Forms one after another.

length_indices : (g : Globals) (size : Option Amount) → length (indices g size) ≡ many g size
length_indices g None = refl
length_indices g (Some amount) = length_up_to (many g (Some amount))

after_is : (types : List InputType) (g : Globals) (first : ℕ) (d : Decl) (o : Option Form) → option_map (written types) o ≡ declared g first d → after first o ≡ first + length (receives_of g d)
after_is types g first (decl.Enumeration _ _) None e = omega arith
after_is types g first (decl.Range _ _ _) None e = omega arith
after_is types g first (decl.Constant _ _) None e = omega arith
after_is types g first (decl.Input _ _ _ _) None e = omega arith
after_is types g first (decl.Event _ _) None e = omega arith
after_is types g first (decl.Macro _ _ _) None e = omega arith
after_is types g first (decl.Function _ _ _) None e = omega arith
after_is types g first (decl.Send _ _ _ _) None e = omega arith
after_is types g first (decl.Receive name size inputs raised) None e = cc
after_is types g first (decl.Enumeration _ _) (Some f) e = cc
after_is types g first (decl.Range _ _ _) (Some f) e = cc
after_is types g first (decl.Constant _ _) (Some f) e = cc
after_is types g first (decl.Input _ _ _ _) (Some f) e = cc
after_is types g first (decl.Event _ _) (Some f) e = cc
after_is types g first (decl.Macro _ _ _) (Some f) e = cc
after_is types g first (decl.Function _ _ _) (Some f) e = cc
after_is types g first (decl.Send _ _ _ _) (Some f) e = cc
after_is types g first (decl.Receive name size inputs raised) (Some f) e =
    let same : written types f ≡ record { first = first; many = many g size; is_array = is_some size; fields = map (listed g) inputs } = same_Some _ _ e in
    let firsts : f.first ≡ first = ap (λ (w : Written). w.first) same in
    let sizes : f.many ≡ many g size = ap (λ (w : Written). w.many) same in
    omega (arith, firsts, sizes, length-map (indices g size) (new_receive g name inputs raised), length_indices g size)

pub forms_turn : (types : List InputType) (g : Globals) (ds : List Decl) (i first next : ℕ) (d : Decl) (form : Option Form) (forms more : List (Option Form)) (asked : List (Option Written)) → i < length ds → d ≡ get_or ds i d →
    option_map (written types) form ≡ declared g first d → next ≡ after first form → more ≡ forms ++ (form ∷ []) →
    map (option_map (written types)) forms ++ declared_from g first (drop i ds) ≡ asked → map (option_map (written types)) more ++ declared_from g next (drop (i + 1) ds) ≡ asked
forms_turn types g ds i first next d form forms more asked below item is next_is push h =
    ap (λ (fs : List (Option Form)). map (option_map (written types)) fs ++ declared_from g next (drop (i + 1) ds)) push
    ∙ ap (λ (ws : List (Option Written)). ws ++ declared_from g next (drop (i + 1) ds)) (map_push (option_map (written types)) forms form)
    ∙ append_assoc (map (option_map (written types)) forms) (option_map (written types) form ∷ []) (declared_from g next (drop (i + 1) ds))
    ∙ ap (λ (w : Option Written). map (option_map (written types)) forms ++ (w ∷ declared_from g next (drop (i + 1) ds))) is
    ∙ ap (λ (n : ℕ). map (option_map (written types)) forms ++ (declared g first d ∷ declared_from g n (drop (i + 1) ds))) (next_is ∙ after_is types g first d form is)
    ∙ ap (λ (xs : List Decl). map (option_map (written types)) forms ++ declared_from g first xs) (sym (split ds i d below item))
    ∙ h

each_push : {A : Type 0} (P : A → Type 0) (xs : List A) (y : A) → Each P xs → P y → Each P (xs ++ (y ∷ []))
each_push P [] y h k = (k, tt)
each_push P (x ∷ xs) y h k = (h.0, each_push P xs y h.1 k)

pub within_turn : (n : ℕ) (form : Option Form) (forms more : List (Option Form)) → more ≡ forms ++ (form ∷ []) → IsWithin n form → Each (IsWithin n) forms → Each (IsWithin n) more
within_turn n form forms more push here h = subst (Each (IsWithin n)) (sym push) (each_push (IsWithin n) forms form h here)

pub are_forms : (owners ds : List Decl) (g : Globals) (fs : List (Option Form)) → owners ≡ ds → g ≡ globals owners → map (option_map (written (types_of owners))) fs ≡ declared_from g 0 ds →
    Each (IsWithin (length owners + 1)) fs → AreForms ds (types_of ds) fs
are_forms owners ds g fs e k h w = record {
  types_are = refl;
  forms_are = sym (ap (λ (zs : List Decl). map (option_map (written (types_of zs))) fs) e) ∙ h ∙ ap (λ (z : Globals). declared_from z 0 ds) (k ∙ ap globals e);
  within = subst (λ (zs : List Decl). Each (IsWithin (length zs + 1)) fs) e w;
}

pub built : (ds decls : List Decl) (types : List InputType) (fs : List (Option Form)) → ds ≡ decls → types ≡ types_of ds → AreForms ds (types_of ds) fs → AreForms decls types fs
built ds decls types fs e h a =
    subst (λ (ts : List InputType). AreForms decls ts fs) (sym (h ∙ ap types_of e)) (subst (λ (zs : List Decl). AreForms zs (types_of zs) fs) e a)
