-- The text of a field's value.
use Rattle.std.proofs.Common.{◌≡◌, ◌+◌, Bool, true, false, ◌++◌, length, drop, Option, Some, None, refl, sym, ap, ◌∙◌, append_assoc, length-append, Bor}
use Rattle.std.specs.Prelude.{if◌then◌else◌, ◌≢◌, nat_eq, codes, MatchOption}
use Rattle.std.specs.Option.{option_copied}
use Rattle.std.specs.List.{starts_with}
use Rattle.std.proofs.lemmas.Bool.Decides.{Decides-eqb}
use Rattle.std.proofs.lemmas.List.{append_cancel_left, drop_at}
use Rattle.std.proofs.lemmas.Slice.Eq.{starts_is}
use Rattle.rsml_syntax.specs.text.Names.{Name}
use Rattle.rsml_meaning.specs.EventLines.{Bytes}
use Rattle.event_lines.specs.helpers.Values.{value_text}

module _ (name : Name) (word : Bytes) where
  abbrev front : Bytes
  front = name ++ codes "="

  abbrev by_start : Bool → Option Bytes
  by_start b = if b then Some (drop (length name + 1) word) else None

  starts : starts_with nat_eq word front ≡ true → word ≡ front ++ drop (length front) word
  starts h = (starts_is Decides-eqb word front (starts_with nat_eq word front) refl).0 h

  is_start : (value : Bytes) → word ≡ front ++ value → starts_with nat_eq word front ≡ true
  is_start value e = (starts_is Decides-eqb word front (starts_with nat_eq word front) refl).1 value e

  pub value_is : (rest value : Bytes) → word ≡ name ++ rest → rest ≡ codes "=" ++ value → value_text name word ≡ Some value
  value_is rest value e h =
      let whole : word ≡ front ++ value = e ∙ ap (λ (z : Bytes). name ++ z) h ∙ sym (append_assoc name (codes "=") value) in
      ap by_start (is_start value whole)
      ∙ ap Some (ap (drop (length name + 1)) whole ∙ drop_at front value (length name + 1) (length-append name (codes "=")))

  never : (starts_with nat_eq word front ≡ true → ⊥) → by_start (starts_with nat_eq word front) ≡ None
  never lacks = by (starts_with nat_eq word front) refl
    where
      by : (b : Bool) → starts_with nat_eq word front ≡ b → by_start b ≡ None
      by true h = absurd (lacks h)
      by false h = refl

  pub no_name : ((rest : Bytes) → word ≢ name ++ rest) → value_text name word ≡ None
  no_name lacks = never (λ h. lacks (codes "=" ++ drop (length front) word) (starts h ∙ append_assoc name (codes "=") (drop (length front) word)))

  pub no_mark : (rest : Bytes) → word ≡ name ++ rest → ((value : Bytes) → rest ≢ codes "=" ++ value) → value_text name word ≡ None
  no_mark rest e lacks = never (λ h. lacks (drop (length front) word)
      (append_cancel_left name rest (codes "=" ++ drop (length front) word) (sym e ∙ starts h ∙ append_assoc name (codes "=") (drop (length front) word))))

  -- what the rest gives
  pub text_is : (rest : Bytes) (r : Option (Bor Bytes)) → word ≡ name ++ rest → MatchOption r ((value : Bytes) → rest ≢ codes "=" ++ value) (λ x. rest ≡ codes "=" ++ x.now) → option_copied r ≡ value_text name word
  text_is rest None e h = sym (no_mark rest e h)
  text_is rest (Some x) e h = sym (value_is rest x.now e h)
