-- How worlds are narrowed down to the least.
use Rattle.std.proofs.Common.{◌≡◌, ℕ, ◌+◌, ◌<◌, Bool, true, false, ◌&&◌, List, [], ◌∷◌, ◌++◌, length, take, refl, sym, ap, ◌∙◌, subst, true≢false, slice_index_or, ℤ, IsTrue, arith}
use Rattle.std.specs.Bool.{⊤}
use Rattle.std.specs.Cmp.{first_so, second_so}
use Rattle.std.specs.Cmp.Lexicographic.{slice_cmp}
use Rattle.std.specs.Ordering.{MatchOrdering, ordering_then, nat_cmp, int_cmp}
use Rattle.std.specs.declared.cmp.Ordering.{Ordering}
use Rattle.std.specs.declared.cmp.Ordering.TheVariants.{Less, Equal, Greater}
use Rattle.std.proofs.lemmas.List.{take_more, take_all, length-take-le}
use Rattle.rsml_syntax.specs.declared.syntax.Spec.{Spec}
use Rattle.rsml_syntax.specs.declared.world.World.{World}
use Rattle.rsml_meaning.specs.Worlds.{IsWorld, is_world, world_cmp}
use Rattle.group_verdicts.specs.Least.{IsLeastWorld}
use Rattle.guard_encode.specs.declared.reading.ReadParts.{ReadParts}
use Rattle.group_verdicts.specs.Narrowing.{IsOfNone, Narrows, IsLow, IsOfRead, low_of}
use Rattle.group_verdicts.proofs.Low.{is_low, low_before}
use Rattle.group_verdicts.proofs.Parts.{cmp_more}

-- a test that is not true is false
pub is_false : (b : Bool) → (b ≡ true → ⊥) → b ≡ false
is_false true h = absurd (h refl)
is_false false h = refl

-- no part is fixed yet
pub none_fixed : {A : Type 0} (Among : World → Type 0) (cmp : A → A → Ordering) (parts : World → List A) (truth : World → Bool)
    → (IsOfNone Among truth → ⊥)
    → Narrows Among (slice_cmp cmp) (λ w. take 0 (parts w)) [] truth truth
none_fixed Among cmp parts truth some = record {
  some = some;
  kept = λ w is h. (h, refl);
  order = λ w is h. h;
}

-- one part, and then another
pub fixed_both : {A B C : Type 0} (Among : World → Type 0) (f : A → A → Ordering) (g : B → B → Ordering) (h : C → C → Ordering) (p : World → A) (q : World → B) (r : World → C) (x : A) (y : B) (z : C)
    (truth mid next : World → Bool) → Narrows Among f p x truth mid → Narrows Among g q y mid next
    → ((w : World) → Among w → p w ≡ x → q w ≡ y → r w ≡ z)
    → ((w : World) → Among w → h (r w) z ≡ ordering_then (f (p w) x) (g (q w) y))
    → Narrows Among h r z truth next
fixed_both Among f g h p q r x y z truth mid next one other joined compared = record {
  some = other.some;
  kept = λ w is k. let b = other.kept w is k in let a = one.kept w is b.0 in (a.0, joined w is a.1 b.1);
  order = λ w is k.
      subst (λ (o : Ordering). MatchOrdering o ⊥ (IsTrue (next w)) ⊤) (sym (compared w is))
      (by w is (f (p w) x) (one.order w is k));
}
  where
    by : (w : World) → Among w → (o : Ordering) → MatchOrdering o ⊥ (IsTrue (mid w)) ⊤
        → MatchOrdering (ordering_then o (g (q w) y)) ⊥ (IsTrue (next w)) ⊤
    by w is Less k = k
    by w is Equal k = other.order w is k
    by w is Greater k = tt

-- one more part of a list
pub one_more : {A : Type 0} (Among : World → Type 0) (cmp : A → A → Ordering) (parts : World → List A) (d : A) (many : ℕ)
    → ((w : World) → Among w → length (parts w) ≡ many)
    → (n : ℕ) → n < many → (xs : List A) → length xs ≡ n → (x : A) (truth mid next : World → Bool)
    → Narrows Among (slice_cmp cmp) (λ w. take n (parts w)) xs truth mid → Narrows Among cmp (λ w. slice_index_or (parts w) n d) x mid next
    → Narrows Among (slice_cmp cmp) (λ w. take (n + 1) (parts w)) (xs ++ x ∷ []) truth next
one_more {A} Among cmp parts d many long n less xs so_many x truth mid next before here =
    fixed_both Among (slice_cmp cmp) cmp (slice_cmp cmp) (λ w. take n (parts w)) (λ w. slice_index_or (parts w) n d) (λ w. take (n + 1) (parts w)) xs x (xs ++ x ∷ []) truth mid next before here
    (λ w is a b. more w is ∙ (λ i. a i ++ b i ∷ []))
    (λ w is.
    ap (λ zs. slice_cmp cmp zs (xs ++ x ∷ [])) (more w is)
    ∙ cmp_more cmp (take n (parts w)) xs (slice_index_or (parts w) n d) x (length-take-le n (parts w) (let l = long w is in omega (arith, l, less)) ∙ sym so_many))
  where
    more : (w : World) → Among w → take (n + 1) (parts w) ≡ take n (parts w) ++ slice_index_or (parts w) n d ∷ []
    more w is = take_more (parts w) n d (let l = long w is in omega (arith, l, less))

-- all parts of a list
pub all_fixed : {A : Type 0} (Among : World → Type 0) (cmp : A → A → Ordering) (parts : World → List A) (many : ℕ)
    → ((w : World) → Among w → length (parts w) ≡ many)
    → (xs : List A) (truth next : World → Bool) → Narrows Among (slice_cmp cmp) (λ w. take many (parts w)) xs truth next
    → Narrows Among (slice_cmp cmp) parts xs truth next
all_fixed {A} Among cmp parts many long xs truth next h = record {
  some = h.some;
  kept = λ w is k. let a = h.kept w is k in (a.0, sym (whole w is) ∙ a.1);
  order = λ w is k. subst (λ zs. MatchOrdering (slice_cmp cmp zs xs) ⊥ (IsTrue (next w)) ⊤) (whole w is) (h.order w is k);
}
  where
    whole : (w : World) → Among w → take many (parts w) ≡ parts w
    whole w is = take_all many (parts w) (let l = long w is in omega (arith, l))

-- the choices, and then the cells
pub world_fixed : (Among : World → Type 0) (choices : List ℕ) (cells : List ℤ) (truth mid next : World → Bool)
    → Narrows Among (slice_cmp nat_cmp) (λ w. w.choices) choices truth mid → Narrows Among (slice_cmp int_cmp) (λ w. w.cells) cells mid next
    → Narrows Among world_cmp (λ w. w) (record { choices = choices; cells = cells }) truth next
world_fixed Among choices cells truth mid next one other =
    fixed_both Among (slice_cmp nat_cmp) (slice_cmp int_cmp) world_cmp (λ w. w.choices) (λ w. w.cells) (λ w. w) choices cells
    (record { choices = choices; cells = cells }) truth mid next one other
    (λ w is a b i. record { choices = a i; cells = b i })
    (λ w is. refl)

-- The low worlds of the least are that one, and no other world comes before it.
pub least_found : (s : Spec) (read : ReadParts) (x : World) (truth next : World → Bool) → IsOfRead s read truth
    → Narrows (IsLow s read) world_cmp (λ w. w) x truth next → IsLeastWorld s truth x
least_found s read x truth next of_read h = record {
  such = by (is_world s x && truth x) refl;
  least = λ v such before.
      let low : IsLow s read (low_of s read v) = is_low s read v such.0 in
      subst (λ (o : Ordering). MatchOrdering o ⊥ (IsTrue (next (low_of s read v))) ⊤) (low_before s read v x such.0 before)
      (h.order (low_of s read v) low (of_read v such.0 ∙ such.1));
}
  where
    by : (b : Bool) → is_world s x && truth x ≡ b → IsWorld s x × IsTrue (truth x)
    by true e = (first_so (is_world s x) (truth x) e, second_so (is_world s x) (truth x) e)
    by false e = absurd (h.some (λ w is. is_false (next w) (λ k.
        let a = h.kept w is k in
        let world : IsWorld s w = is.is_world in
        let there : is_world s x && truth x ≡ true = (λ i. is_world s (sym a.1 i) && truth (sym a.1 i)) ∙ (λ i. world i && a.0 i) in
        true≢false (sym there ∙ e))))
