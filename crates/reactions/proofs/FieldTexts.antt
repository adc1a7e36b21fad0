-- The fields of a case of a send, place by place.
use Rattle.std.proofs.Common.{◌≡◌, ℕ, suc, ◌+◌, ◌≤◌, List, [], ◌∷◌, ◌++◌, length, flat_map, codes, Option, Some, None, slice_get, ℤ, refl, ap, ◌∙◌, arith, zero-add}
use Rattle.std.specs.Option.{option_and_then, option_map_or}
use Rattle.rsml_syntax.specs.declared.syntax.Spec.{Spec}
use Rattle.rsml_syntax.specs.declared.syntax.Value.{Value}
use Rattle.rsml_syntax.specs.grammar.Written.{values_in}
use Rattle.rsml_syntax.specs.text.Names.{Name}
use Rattle.rsml_meaning.specs.Words.{numbered_from}
use Rattle.rsml_meaning.specs.Instances.{globals_of}
use Rattle.rsml_meaning.specs.Interfaces.{SendCaseInstance, send_cases}
use Rattle.rsml_meaning.specs.Texts.{value_text}
use Rattle.rsml_meaning.specs.Trace.{names_of_kind, value_kind, field_text, sent_fields}
use Rattle.instance_texts.specs.SentCases.{sent_value, sent_field}
use Rattle.reactions.specs.Lines.{field_at, number_at}

at_first : {A : Type 0} (f : ℕ → A) (p : ℕ) (a : A) → f (p + 0) ≡ a → f p ≡ a
at_first f p a e =
    let same : p ≡ p + 0 = omega arith in
    ap f same ∙ e

later : {A : Type 0} (f : ℕ → A) (p k : ℕ) (a : A) → f (p + suc k) ≡ a → f (suc p + k) ≡ a
later f p k a e =
    let same : suc p + k ≡ p + suc k = omega arith in
    ap f same ∙ e

no_more : (s : Spec) (case p : ℕ) (ns : List ℤ) → ((k : ℕ) → sent_field s case (p + k) ≡ None) → flat_map (field_at s case) (numbered_from p ns) ≡ []
no_more s case p [] f = refl
no_more s case p (n ∷ ns) f = λ i. here i ++ no_more s case (suc p) ns (λ k. later (sent_field s case) p k None (f (suc k))) i
  where
    here : field_at s case (p, n) ≡ []
    here = ap (λ (o : Option Name). option_map_or (λ name. codes " " ++ (name ++ (codes "=" ++ number_at s case p n))) o []) (at_first (sent_field s case) p None (f 0))

fields_from : (s : Spec) (case p : ℕ) (names : List Name) (vs : List Value) (ns : List ℤ) → length ns ≤ length vs
    → ((k : ℕ) → sent_field s case (p + k) ≡ slice_get names k) → ((k : ℕ) → sent_value s case (p + k) ≡ slice_get vs k)
    → flat_map (field_at s case) (numbered_from p ns) ≡ flat_map (field_text (globals_of s)) (sent_fields names vs ns)
fields_from s case p [] vs ns l f v = no_more s case p ns f
fields_from s case p (name ∷ names) [] [] l f v = refl
fields_from s case p (name ∷ names) [] (n ∷ ns) l f v = absurd (omega (arith, l))
fields_from s case p (name ∷ names) (value ∷ vs) [] l f v = refl
fields_from s case p (name ∷ names) (value ∷ vs) (n ∷ ns) l f v = λ i.
    here i ++ fields_from s case (suc p) names vs ns (omega (arith, l))
    (λ k. later (sent_field s case) p k (slice_get names k) (f (suc k))) (λ k. later (sent_value s case) p k (slice_get vs k) (v (suc k))) i
  where
    here : field_at s case (p, n) ≡ field_text (globals_of s) (record { name = name; value = value; number = n })
    here =
        ap (λ (o : Option Name). option_map_or (λ x. codes " " ++ (x ++ (codes "=" ++ number_at s case p n))) o []) (at_first (sent_field s case) p (Some name) (f 0))
        ∙ ap (λ (o : Option Value). codes " " ++ (name ++ (codes "=" ++ option_map_or (λ x. value_text (names_of_kind (globals_of s) (value_kind (globals_of s) x)) n) o []))) (at_first (sent_value s case) p (Some value) (v 0))

-- the fields by their places are those of the case
pub fields_are : (s : Spec) (case : ℕ) (c : SendCaseInstance) (vs : List Value) (ns : List ℤ) → slice_get (send_cases s) case ≡ Some c → values_in c.answer ≡ vs → length ns ≤ length vs
    → flat_map (field_at s case) (numbered_from 0 ns) ≡ flat_map (field_text (globals_of s)) (sent_fields c.fields vs ns)
fields_are s case c vs ns at are l = fields_from s case 0 c.fields vs ns l
    (λ k. ap (sent_field s case) (zero-add k) ∙ ap (λ (o : Option SendCaseInstance). option_and_then (λ x. slice_get x.fields k) o) at)
    (λ k. ap (sent_value s case) (zero-add k) ∙ ap (λ (o : Option SendCaseInstance). option_and_then (λ x. slice_get (values_in x.answer) k) o) at ∙ ap (λ (xs : List Value). slice_get xs k) are)
