-- What stands in brackets.
use Rattle.std.proofs.Common.{◌≡◌, ℕ, ◌+◌, Bool, true, false, [], ◌∷◌, ◌++◌, length, Some, None, refl, ap, ◌∙◌}
use Rattle.std.specs.Prelude.{if◌then◌else◌, ◌==◌}
use Rattle.std.specs.Option.{option_map}
use Rattle.std.specs.Str.{byte}
use Rattle.std.proofs.lemmas.List.{nil_from_length}
use Rattle.rsml_meaning.specs.EventLines.{Bytes, before_close, in_brackets}

last_decides : (front : Bytes) (c : ℕ) → before_close (front ++ (c ∷ [])) ≡ (if c == byte "]" then Some front else None)
last_decides [] c = refl
last_decides (d ∷ []) c = by (c == byte "]")
  where
    by : (b : Bool) → option_map (λ (z : Bytes). d ∷ z) (if b then Some [] else None) ≡ (if b then Some (d ∷ []) else None)
    by true = refl
    by false = refl
last_decides (d ∷ e ∷ ds) c = ap (option_map (λ (z : Bytes). d ∷ z)) (last_decides (e ∷ ds) c) ∙ by (c == byte "]")
  where
    by : (b : Bool) → option_map (λ (z : Bytes). d ∷ z) (if b then Some (e ∷ ds) else None) ≡ (if b then Some (d ∷ e ∷ ds) else None)
    by true = refl
    by false = refl

-- what ends with `]`, and what does not

pub closed : (text front : Bytes) (c : ℕ) → text ≡ front ++ (c ∷ []) → (c == byte "]") ≡ true → before_close text ≡ Some front
closed text front c e h = ap before_close e ∙ last_decides front c ∙ ap (λ b. if b then Some front else None) h

pub unclosed : (text front : Bytes) (c : ℕ) → text ≡ front ++ (c ∷ []) → (c == byte "]") ≡ false → before_close text ≡ None
unclosed text front c e h = ap before_close e ∙ last_decides front c ∙ ap (λ b. if b then Some front else None) h

pub no_text : (text : Bytes) → length text ≡ 0 → before_close text ≡ None
no_text text h = ap before_close (nil_from_length text h)

pub no_brackets : (text : Bytes) → length text ≡ 0 → in_brackets text ≡ None
no_brackets text h = ap in_brackets (nil_from_length text h)

pub bracketed : (text rest : Bytes) (c : ℕ) → text ≡ c ∷ rest → (c == byte "[") ≡ true → in_brackets text ≡ before_close rest
bracketed text rest c e h = ap in_brackets e ∙ ap (λ b. if b then before_close rest else None) h

pub unbracketed : (text rest : Bytes) (c : ℕ) → text ≡ c ∷ rest → (c == byte "[") ≡ false → in_brackets text ≡ None
unbracketed text rest c e h = ap in_brackets e ∙ ap (λ b. if b then before_close rest else None) h
