-- The most fields of forms are the most inputs of receives.
use Rattle.std.proofs.Common.{◌≡◌, ℕ, ◌+◌, ◌<◌, ◌≤◌, Bool, true, false, List, [], ◌∷◌, ◌++◌, map, flat_map, length, take, get_or, Option, Some, None, refl, sym, ap, ◌∙◌, subst, arith}
use Rattle.std.specs.Prelude.{if◌then◌else◌, nat_lt, is_some}
use Rattle.std.specs.Option.{option_map}
use Rattle.std.proofs.lemmas.Bool.{ltb-false}
use Rattle.std.proofs.lemmas.List.{length-map, take_more}
use Rattle.std.proofs.lemmas.Option.{same_Some}
use Rattle.rsml_syntax.specs.declared.syntax.Decl.{Decl}
use Rattle.rsml_syntax.specs.declared.syntax.Decl.TheVariants as decl
use Rattle.rsml_syntax.specs.declared.syntax.Amount.{Amount}
use Rattle.rsml_syntax.specs.declared.syntax.Mention.{Mention}
use Rattle.rsml_syntax.specs.text.Names.{Name}
use Rattle.rsml_syntax.specs.rules.Globals.{Globals, many, up_to, indices}
use Rattle.rsml_meaning.specs.Words.{Each}
use Rattle.rsml_meaning.specs.Cells.{InputType}
use Rattle.rsml_meaning.specs.Interfaces.{new_receive, receives_of}
use Rattle.rsml_meaning.specs.Truth.{within, instance}
use Rattle.event_lines.specs.declared.form.Form.{Form}
use Rattle.event_lines.specs.helpers.Forms.{field_of, listed, Written, written, declared, declared_from, fields_in}

each_append : {A : Type 0} (P : A → Type 0) (xs ys : List A) → Each P xs → Each P ys → Each P (xs ++ ys)
each_append P [] ys h k = k
each_append P (x ∷ xs) ys h k = (h.0, each_append P xs ys h.1 k)

each_below : (n m : ℕ) (xs : List (Option Form)) → n ≤ m → Each (λ o. fields_in o ≤ n) xs → Each (λ o. fields_in o ≤ m) xs
each_below n m [] l h = tt
each_below n m (x ∷ xs) l h = (let below : fields_in x ≤ n = h.0 in omega (arith, l, below), each_below n m xs l h.1)

-- one form more
pub most_more : (xs : List (Option Form)) (i : ℕ) (x : Option Form) (n m : ℕ) → i < length xs → x ≡ get_or xs i x → n ≤ m → fields_in x ≤ m → Each (λ o. fields_in o ≤ n) (take i xs) → Each (λ o. fields_in o ≤ m) (take (i + 1) xs)
most_more xs i x n m h e low high each =
    subst (Each (λ o. fields_in o ≤ m)) (ap (λ y. take i xs ++ (y ∷ [])) e ∙ sym (take_more xs i x h))
    (each_append (λ o. fields_in o ≤ m) (take i xs) (x ∷ []) (each_below n m (take i xs) low each) (high, tt))

-- the receives of a declaration

each_made : (n : ℕ) (g : Globals) (name : Name) (inputs : List Mention) (raised : _) (is : List ℕ) → length inputs ≤ n → Each (λ x. length x.inputs ≤ n) (map (new_receive g name inputs raised) is)
each_made n g name inputs raised [] h = tt
each_made n g name inputs raised (i ∷ is) h = (omega (arith, h, length-map inputs (instance g (within i))), each_made n g name inputs raised is h)

single_or_some : (n : ℕ) (g : Globals) (name : Name) (size : Option Amount) (inputs : List Mention) (raised : _) (f : Form) → f.many ≡ many g size → length f.fields.items ≡ length inputs → fields_in (Some f) ≤ n →
    Each (λ x. length x.inputs ≤ n) (map (new_receive g name inputs raised) (indices g size))
single_or_some n g name size inputs raised f m l h = by (nat_lt 0 f.many) refl h
  where
    none_made : (size : Option Amount) → many g size ≡ 0 → Each (λ x. length x.inputs ≤ n) (map (new_receive g name inputs raised) (indices g size))
    none_made None e = absurd (let no : 1 ≡ 0 = e in omega (arith, no))
    none_made (Some amount) e = subst (λ k. Each (λ x. length x.inputs ≤ n) (map (new_receive g name inputs raised) (up_to k))) (sym e) tt

    by : (b : Bool) → nat_lt 0 f.many ≡ b → (if b then length f.fields.items else 0) ≤ n → Each (λ x. length x.inputs ≤ n) (map (new_receive g name inputs raised) (indices g size))
    by true e k = each_made n g name inputs raised (indices g size) (omega (arith, k, l))
    by false e k = none_made size (let z : f.many ≤ 0 = ltb-false 0 f.many e in omega (arith, z, m))

-- the most fields of forms are no fewer than the inputs of any receive
pub most_of_all : (types : List InputType) (g : Globals) (n first : ℕ) (forms : List (Option Form)) (ds : List Decl) → map (option_map (written types)) forms ≡ declared_from g first ds → Each (λ o. fields_in o ≤ n) forms →
    Each (λ x. length x.inputs ≤ n) (flat_map (receives_of g) ds)
most_of_all types g n first forms [] e h = tt
most_of_all types g n first [] (d ∷ ds) e h = absurd (let no : ⊥ = cc in no)
most_of_all types g n first (o ∷ os) (d ∷ ds) e h =
    each_append (λ x. length x.inputs ≤ n) (receives_of g d) (flat_map (receives_of g) ds)
    (by d o (let head : option_map (written types) o ≡ declared g first d = cc in head) h.0)
    (most_of_all types g n (first + length (receives_of g d)) os ds (let tail : map (option_map (written types)) os ≡ declared_from g (first + length (receives_of g d)) ds = cc in tail) h.1)
  where
    by : (d : Decl) (o : Option Form) → option_map (written types) o ≡ declared g first d → fields_in o ≤ n → Each (λ x. length x.inputs ≤ n) (receives_of g d)
    by (decl.Enumeration _ _) o e h = tt
    by (decl.Range _ _ _) o e h = tt
    by (decl.Constant _ _) o e h = tt
    by (decl.Input _ _ _ _) o e h = tt
    by (decl.Event _ _) o e h = tt
    by (decl.Macro _ _ _) o e h = tt
    by (decl.Function _ _ _) o e h = tt
    by (decl.Receive name size inputs raised) None e h = cc
    by (decl.Receive name size inputs raised) (Some f) e h =
        let same : written types f ≡ record { first = first; many = many g size; is_array = is_some size; fields = map (listed g) inputs } = same_Some _ _ e in
        single_or_some n g name size inputs raised f (ap (λ (w : Written). w.many) same)
        (sym (length-map f.fields.items (field_of types)) ∙ ap (λ (w : Written). length w.fields) same ∙ length-map inputs (listed g)) h
    by (decl.Send _ _ _ _) o e h = tt
