-- The places of faults: there is at most one, and reading stands there.
use Rattle.std.proofs.Common.{◌≡◌, ◌⊎◌, inl, inr, ℕ, ◌+◌, [], ◌∷◌, ◌++◌, length, append-nil, append_assoc, refl, sym, ap, subst, ◌∙◌}
use Rattle.rsml_syntax.specs.grammar.Places.{IsTokensOf, Begins, BeginsWithin, StopsAt, IsSyntaxPlace, IsDepthPlace}
use Rattle.rsml_syntax.specs.text.Tokens.{Tokens}
use Rattle.rsml_syntax.specs.declared.syntax.Spec.{Spec}
use Rattle.rsml_syntax.specs.declared.token.Token.{Token}

-- Two ways to cut a list: one front goes on in the other.

pub cut_again : (f r g s : Tokens) → f ++ r ≡ g ++ s → ((m : Tokens) × (g ≡ f ++ m) × (r ≡ m ++ s)) ⊎ ((t : Token) × (m : Tokens) × (f ≡ g ++ t ∷ m) × (s ≡ (t ∷ m) ++ r))
cut_again [] r g s h = inl (g, refl, h)
cut_again (t ∷ f) r [] s h = inr (t, f, refl, sym h)
cut_again (t ∷ f) r (u ∷ g) s h =
    let heads : t ≡ u = cc in let tails : f ++ r ≡ g ++ s = cc in
    elim (cut_again f r g s tails) [
      | inl e ↦ inl (e.0, ap (λ (t : Token). t ∷ g) (sym heads) ∙ ap (λ (l : Tokens). t ∷ l) e.1, e.2)
      | inr e ↦ inr (e.0, e.1, ap (λ (t : Token). t ∷ f) heads ∙ ap (λ (l : Tokens). u ∷ l) e.2, e.3)
    ]

-- a prefix of a prefix begins a specification
begins_before : (f : Tokens) (t : Token) (m : Tokens) → Begins (f ++ t ∷ m) → Begins (f ++ t ∷ [])
begins_before f t m b = (b.0, m ++ b.1, b.2, b.3 ∙ append_assoc f (t ∷ m) b.1 ∙ sym (append_assoc f (t ∷ []) (m ++ b.1)))

begins_within_before : (f : Tokens) (t : Token) (m : Tokens) → BeginsWithin (f ++ t ∷ m) → BeginsWithin (f ++ t ∷ [])
begins_within_before f t m b = (b.0, m ++ b.1, b.2, b.3, b.4 ∙ append_assoc f (t ∷ m) b.1 ∙ sym (append_assoc f (t ∷ []) (m ++ b.1)))

pub within : (f : Tokens) → BeginsWithin f → Begins f
within f b = (b.0, b.1, b.2, b.4)

-- At most one place.

one_syntax : (f r g s : Tokens) → f ++ r ≡ g ++ s → Begins g → StopsAt f r → (t : Token) (m : Tokens) → g ≡ f ++ t ∷ m → r ≡ (t ∷ m) ++ s → ⊥
one_syntax f r g s h begins stops t m e k = subst (StopsAt f) k stops (begins_before f t m (subst Begins e begins))

same_place : (f r g s : Tokens) → f ++ r ≡ g ++ s → Begins f → Begins g → StopsAt f r → StopsAt g s → f ≡ g
same_place f r g s h bf bg sf sg = elim (cut_again f r g s h) [
  | inl e ↦ nothing_more e.0 e.1 e.2
  | inr e ↦ absurd (one_syntax g s f r (sym h) bf sg e.0 e.1 e.2 e.3)
]
  where
    nothing_more : (m : Tokens) → g ≡ f ++ m → r ≡ m ++ s → f ≡ g
    nothing_more [] e k = sym (e ∙ append-nil f)
    nothing_more (t ∷ m) e k = absurd (one_syntax f r g s h bg sf t m e k)

pub one_syntax_place : (ts : Tokens) (a b : ℕ) → IsSyntaxPlace ts a → IsSyntaxPlace ts b → a ≡ b
one_syntax_place ts a b one two =
    one.here
    ∙ ap (λ (f : Tokens). length f + 1) (same_place one.before one.rest two.before two.rest (sym one.split ∙ two.split) one.begins two.begins one.stops two.stops)
    ∙ sym two.here

pub same_depth : (f : Tokens) (t : Token) (r g : Tokens) (u : Token) (s : Tokens) → f ++ t ∷ r ≡ g ++ u ∷ s → BeginsWithin f → BeginsWithin g → (BeginsWithin (f ++ t ∷ []) → ⊥) → (BeginsWithin (g ++ u ∷ []) → ⊥) → f ≡ g
same_depth f t r g u s h bf bg nf ng = elim (cut_again f (t ∷ r) g (u ∷ s) h) [
  | inl e ↦ nothing_more e.0 e.1 e.2
  | inr e ↦ absurd (ng (longer g u s f t r e.0 e.1 e.2 e.3 bf))
]
  where
    longer : (f : Tokens) (t : Token) (r g : Tokens) (u : Token) (s : Tokens) (v : Token) (m : Tokens) → g ≡ f ++ v ∷ m → t ∷ r ≡ (v ∷ m) ++ u ∷ s → BeginsWithin g → BeginsWithin (f ++ t ∷ [])
    longer f t r g u s v m e k b = let heads : v ≡ t = cc in subst (λ (t : Token). BeginsWithin (f ++ t ∷ [])) heads (begins_within_before f v m (subst BeginsWithin e b))

    nothing_more : (m : Tokens) → g ≡ f ++ m → t ∷ r ≡ m ++ u ∷ s → f ≡ g
    nothing_more [] e k = sym (e ∙ append-nil f)
    nothing_more (v ∷ m) e k = absurd (nf (longer f t r g u s v m e k bg))

pub one_depth_place : (ts : Tokens) (a b : ℕ) → IsDepthPlace ts a → IsDepthPlace ts b → a ≡ b
one_depth_place ts a b one two =
    one.here
    ∙ ap (λ (f : Tokens). length f + 1)
    (same_depth one.before one.token one.rest two.before two.token two.rest (sym one.split ∙ two.split) one.within two.within one.too_deep two.too_deep)
    ∙ sym two.here

-- before a fault of syntax no state too many opens
pub no_depth_place : (ts f r : Tokens) → ts ≡ f ++ r → BeginsWithin f → StopsAt f r → (deep : ℕ) → IsDepthPlace ts deep → ⊥
no_depth_place ts f r h begins stops deep d = elim (cut_again f r d.before (d.token ∷ d.rest) (sym h ∙ d.split)) [
  | inl e ↦ at e.0 e.1 e.2
  | inr e ↦
      let heads : e.0 ≡ d.token = let k = e.3 in cc in
      d.too_deep (subst (λ (t : Token). BeginsWithin (d.before ++ t ∷ [])) heads (begins_within_before d.before e.0 e.1 (subst BeginsWithin e.2 begins)))
]
  where
    at : (m : Tokens) → d.before ≡ f ++ m → r ≡ m ++ d.token ∷ d.rest → ⊥
    at [] e k = subst (StopsAt f) k stops (subst (λ (g : Tokens). Begins (g ++ d.token ∷ [])) (e ∙ append-nil f) d.begins)
    at (v ∷ m) e k = one_syntax f r d.before (d.token ∷ d.rest) (sym h ∙ d.split) (within d.before d.within) stops v m e k

-- tokens that are a specification have neither place
pub no_syntax_place_of : (ts : Tokens) (s : Spec) → IsTokensOf ts s → (place : ℕ) → IsSyntaxPlace ts place → ⊥
no_syntax_place_of ts s is place p = at p.rest p.split p.stops
  where
    at : (r : Tokens) → ts ≡ p.before ++ r → StopsAt p.before r → ⊥
    at [] e stops = stops s is.well_formed (is.tokens ∙ e ∙ append-nil p.before)
    at (t ∷ r) e stops = stops (s, r, is.well_formed, is.tokens ∙ e ∙ sym (append_assoc p.before (t ∷ []) r))

pub no_depth_place_of : (ts : Tokens) (s : Spec) → IsTokensOf ts s → (place : ℕ) → IsDepthPlace ts place → ⊥
no_depth_place_of ts s is place d =
    d.too_deep (s, d.rest, is.well_formed, is.depth, is.tokens ∙ d.split ∙ sym (append_assoc d.before (d.token ∷ []) d.rest))
