-- How an outcome was come by.
use Rattle.std.proofs.Common.{◌≡◌, ◌⊎◌, inl, inr, length-append, Bool, true, false, [], ◌∷◌, ◌++◌, length, Ok, Err, refl, ap, arith}
use Rattle.std.specs.Prelude.{if◌then◌else◌}
use Rattle.rsml_syntax.specs.text.Tokens.{Tokens}
use Rattle.rsml_parser.specs.Parsers.{Outcome, Parser, Stop, and_then}

pub same_ok : {A : Type 0} (x y : A) (r s : Tokens) → (let o : Outcome A = Ok (x, r) in o) ≡ Ok (y, s) → (x ≡ y) × (r ≡ s)
same_ok {A} x y r s h = let e : (let p : A × Tokens = (x, r) in p) ≡ (y, s) = cc in (ap (λ p. p.0) e, ap (λ p. p.1) e)

pub same_err : {A : Type 0} (j k : Bool) (r s : Tokens) → (let o : Outcome A = Err (j, r) in o) ≡ Err (k, s) → (j ≡ k) × (r ≡ s)
same_err {A} j k r s h = let e : (let p : Stop = (j, r) in p) ≡ (k, s) = cc in (ap (λ p. p.0) e, ap (λ p. p.1) e)

pub not_both : {A : Type 0} (o : Outcome A) (p : A × Tokens) (s : Stop) → o ≡ Ok p → o ≡ Err s → ⊥
not_both o p s e h = cc

pub bind_ok : {A B : Type 0} (o : Outcome A) (f : A → Parser B) (y : B × Tokens) → and_then o f ≡ Ok y → (p : A × Tokens) × (o ≡ Ok p) × (f p.0 p.1 ≡ Ok y)
unfolding and_then
bind_ok (Ok p) f y h = (p, refl, h)
bind_ok (Err s) f y h = cc

pub bind_err : {A B : Type 0} (o : Outcome A) (f : A → Parser B) (s : Stop) → and_then o f ≡ Err s → (o ≡ Err s) ⊎ ((p : A × Tokens) × (o ≡ Ok p) × (f p.0 p.1 ≡ Err s))
unfolding and_then
bind_err (Ok p) f s h = inr (p, refl, h)
bind_err {A} {B} (Err e) f s h = inl (ap (λ (s : Stop). (let o : Outcome A = Err s in o)) (let e : e ≡ s = cc in e))

pub then_ok : {A B : Type 0} (o : Outcome A) (f : A → Parser B) (x : A) (ts : Tokens) → o ≡ Ok (x, ts) → and_then o f ≡ f x ts
unfolding and_then
then_ok o f x ts e = ap (λ o. and_then o f) e

pub then_err : {A B : Type 0} (o : Outcome A) (f : A → Parser B) (s : Stop) → o ≡ Err s → and_then o f ≡ Err s
unfolding and_then
then_err o f s e = ap (λ o. and_then o f) e

-- which way a test went
pub chosen : {A : Type 0} (b : Bool) (x y z : A) → (if b then x else y) ≡ z → ((b ≡ true) × (x ≡ z)) ⊎ ((b ≡ false) × (y ≡ z))
chosen true x y z h = inl (refl, h)
chosen false x y z h = inr (refl, h)

pub takes_first : {A : Type 0} (b : Bool) (x y : A) → b ≡ true → (if b then x else y) ≡ x
takes_first b x y e = ap (λ (c : Bool). if c then x else y) e

pub takes_second : {A : Type 0} (b : Bool) (x y : A) → b ≡ false → (if b then x else y) ≡ y
takes_second b x y e = ap (λ (c : Bool). if c then x else y) e

-- what stands before the same end is the same
pub cancel : (xs ys zs : Tokens) → xs ++ zs ≡ ys ++ zs → xs ≡ ys
cancel [] [] zs h = refl
cancel [] (y ∷ ys) zs h = let e = ap length h in let l = length-append ys zs in absurd (omega (arith, e, l))
cancel (x ∷ xs) [] zs h = let e = ap length h in let l = length-append xs zs in absurd (omega (arith, e, l))
cancel (x ∷ xs) (y ∷ ys) zs h = let r = cancel xs ys zs cc in cc
