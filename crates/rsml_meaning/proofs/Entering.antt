-- Moves of components that are not on one line commute.
use Rattle.std.proofs.Common.{◌≡◌, ℕ, Bool, true, false, ◌&&◌, ◌||◌, List, [], ◌∷◌, map, zip, refl, sym, ap, ◌∙◌, true≢false}
use Rattle.std.specs.Cmp.{first_so, second_so}
use Rattle.rsml_meaning.specs.Words.{Path, same_instance, is_prefix, on_one_line}
use Rattle.rsml_meaning.specs.Instances.{Component, components}
use Rattle.rsml_meaning.specs.Active.{given_or_kept}
use Rattle.rsml_meaning.specs.Laws.{MovesApartCommute}
use Rattle.rsml_meaning.proofs.Same.{instance_same, instance_itself}

-- of two prefixes of one path one is a prefix of the other
pub prefixes_meet : (p q r : Path) → is_prefix p r ≡ true → is_prefix q r ≡ true → on_one_line p q ≡ true
prefixes_meet [] q r h k = refl
prefixes_meet (x ∷ p) [] r h k = refl
prefixes_meet (x ∷ p) (y ∷ q) [] h k = absurd (true≢false (sym h))
prefixes_meet (x ∷ p) (y ∷ q) (z ∷ r) h k =
    let one = instance_same x z (first_so (same_instance x z) (is_prefix p r) h) in
    let two = instance_same y z (first_so (same_instance y z) (is_prefix q r) k) in
    let same = ap (λ u. same_instance x u) (two ∙ sym one) ∙ instance_itself x in
    let back = ap (λ u. same_instance y u) (one ∙ sym two) ∙ instance_itself y in
    ap (λ b. (b && is_prefix p q) || (same_instance y x && is_prefix q p)) same ∙ ap (λ b. is_prefix p q || (b && is_prefix q p)) back
    ∙ prefixes_meet p q r (second_so (same_instance x z) (is_prefix p r) h) (second_so (same_instance y z) (is_prefix q r) k)

-- in a component that both moves reach they would be on one line
one_component : (p q target other : Path) (c : Component) (n : ℕ) → on_one_line p q ≡ false
    → given_or_kept p target (c, given_or_kept q other (c, n)) ≡ given_or_kept q other (c, given_or_kept p target (c, n))
one_component p q target other c n h = by_tests (is_prefix p c.path) (is_prefix q c.path) refl refl
  where
    by_tests : (a b : Bool) → is_prefix p c.path ≡ a → is_prefix q c.path ≡ b
        → given_or_kept p target (c, given_or_kept q other (c, n)) ≡ given_or_kept q other (c, given_or_kept p target (c, n))
    by_tests true true d e = absurd (true≢false (sym (prefixes_meet p q c.path d e) ∙ h))
    by_tests true false d e = rw (d, e) refl
    by_tests false b d e = rw d refl

commute : (p q target other : Path) (cs : List Component) (ns : List ℕ) → on_one_line p q ≡ false
    → map (given_or_kept p target) (zip cs (map (given_or_kept q other) (zip cs ns))) ≡ map (given_or_kept q other) (zip cs (map (given_or_kept p target) (zip cs ns)))
commute p q target other [] ns h = refl
commute p q target other (c ∷ cs) [] h = refl
commute p q target other (c ∷ cs) (n ∷ ns) h =
    ap (λ m. m ∷ map (given_or_kept p target) (zip cs (map (given_or_kept q other) (zip cs ns)))) (one_component p q target other c n h)
    ∙ ap (λ ms. given_or_kept q other (c, given_or_kept p target (c, n)) ∷ ms) (commute p q target other cs ns h)

pub moves_apart_commute : MovesApartCommute
moves_apart_commute s p q target other choices h = commute p q target other (components s) choices h
