-- The order of worlds is total, and tells any two worlds apart; so a least world is the only one.
use Rattle.std.proofs.Common.{◌≡◌, ℕ, List, [], ◌∷◌, ℤ, refl, ap, ◌∙◌, arith}
use Rattle.std.specs.Ordering.{ordering_then, ordering_reverse, nat_cmp, int_cmp}
use Rattle.std.specs.Cmp.Lexicographic.{slice_cmp, lists_total}
use Rattle.std.specs.Cmp.{then_total, on_total, nat_cmp_total, int_cmp_total}
use Rattle.std.specs.declared.cmp.Ordering.{Ordering}
use Rattle.std.specs.declared.cmp.Ordering.TheVariants.{Less, Equal, Greater}
use Rattle.rsml_syntax.specs.declared.world.World.{World}
use Rattle.rsml_meaning.specs.Worlds.{world_cmp}
use Rattle.rsml_meaning.specs.Findings.{IsLeast}
use Rattle.rsml_meaning.specs.Laws.{WorldsAreOrdered, WorldsAreApart}

pub worlds_are_ordered : WorldsAreOrdered
worlds_are_ordered = then_total (on_total (λ w. w.choices) (lists_total nat_cmp_total)) (on_total (λ w. w.cells) (lists_total int_cmp_total))

then_first : (a b : Ordering) → ordering_then a b ≡ Equal → a ≡ Equal
then_first Less b h = h
then_first Equal b h = refl
then_first Greater b h = h

then_second : (a b : Ordering) → ordering_then a b ≡ Equal → b ≡ Equal
then_second Less b h = cc
then_second Equal b h = h
then_second Greater b h = cc

pub lists_apart : {A : Type 0} (R : A → A → Ordering) → ((x y : A) → R x y ≡ Equal → x ≡ y) → (xs ys : List A) → slice_cmp R xs ys ≡ Equal → xs ≡ ys
lists_apart R apart [] [] h = refl
lists_apart R apart [] (y ∷ ys) h = cc
lists_apart R apart (x ∷ xs) [] h = cc
lists_apart R apart (x ∷ xs) (y ∷ ys) h =
    ap (λ z. z ∷ xs) (apart x y (then_first (R x y) (slice_cmp R xs ys) h)) ∙ ap (λ zs. y ∷ zs) (lists_apart R apart xs ys (then_second (R x y) (slice_cmp R xs ys) h))

pub nats_apart : (x y : ℕ) → nat_cmp x y ≡ Equal → x ≡ y
nats_apart x y h = grind arith

pub ints_apart : (x y : ℤ) → int_cmp x y ≡ Equal → x ≡ y
ints_apart x y h = grind arith

pub worlds_are_apart : WorldsAreApart
worlds_are_apart v w h =
    let choices = lists_apart nat_cmp nats_apart v.choices w.choices (then_first (slice_cmp nat_cmp v.choices w.choices) (slice_cmp int_cmp v.cells w.cells) h) in
    let numbers = lists_apart int_cmp ints_apart v.cells w.cells (then_second (slice_cmp nat_cmp v.choices w.choices) (slice_cmp int_cmp v.cells w.cells) h) in
    ap (λ ns. record { choices = ns; cells = v.cells }) choices ∙ ap (λ zs. record { choices = w.choices; cells = zs }) numbers

-- before, equal or after
pub in_order : (a : Ordering) → (a ≡ Less → ⊥) → (ordering_reverse a ≡ Less → ⊥) → a ≡ Equal
in_order Less p q = absurd (p refl)
in_order Equal p q = refl
in_order Greater p q = absurd (q refl)

-- of two that are both least neither is before the other
pub least_is_one : {IsSuch : World → Type 0} (v w : World) → IsLeast IsSuch v → IsLeast IsSuch w → v ≡ w
least_is_one v w a b = worlds_are_apart v w
    (in_order (world_cmp v w) (b.least v a.such) (λ h. a.least w b.such (worlds_are_ordered.antisymm w v ∙ h)))
