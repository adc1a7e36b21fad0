-- What diagrams tell, while the arena grows.
use Rattle.std.proofs.Common.{◌≡◌, ℕ, ◌+◌, ◌<◌, suc, Bool, ◌||◌, List, [], ◌∷◌, length, take, get_or, refl, sym, ap, ◌∙◌, arith}
use Rattle.std.specs.List.{All, list_any}
use Rattle.std.proofs.lemmas.List.Folds.{list_any_more}
use Rattle.rsml_syntax.specs.declared.world.World.{World}
use Rattle.bdd_core.specs.Diagram.{Diagram, IsRef, meaning}
use Rattle.bdd_core.specs.Calls.{Keeps, Represents}
use Rattle.world_levels.specs.Spelling.{WorldLevels, world_of}
use Rattle.phrase_diagrams.specs.Tells as exact
use Rattle.phrase_diagrams.specs.Diagrams.{truths_at}
use Rattle.keyed_levels.specs.Keyed.{KeyedWorlds, Tells}

-- diagrams stand for the same truths in an arena that has grown
pub truths_stay : (a b : Diagram) (diagrams : List ℕ) (v : ℕ → Bool) → Keeps a b → All (IsRef a) diagrams → truths_at b diagrams v ≡ truths_at a diagrams v
truths_stay a b [] v keeps refs = refl
truths_stay a b (f ∷ diagrams) v keeps refs =
    ap (λ x. x ∷ truths_at b diagrams v) (keeps.meanings_stay f v (refs 0 f (omega arith)))
    ∙ ap (λ xs. meaning a f v ∷ xs) (truths_stay a b diagrams v keeps (λ k d less. refs (suc k) d (omega arith)))

-- handles are handles of an arena that has grown
pub refs_stay : (a b : Diagram) (diagrams : List ℕ) → Keeps a b → All (IsRef a) diagrams → All (IsRef b) diagrams
refs_stay a b diagrams keeps refs = λ k d less. let r : get_or diagrams k d < length a.nodes = refs k d less in omega (arith, r, keeps.longer)

-- what holds exactly in worlds is told at lawful values
pub exact_tells : (d : Diagram) (k : KeyedWorlds) (levels : WorldLevels) (truth : World → Bool) (r : ℕ) → levels.spec ≡ k.base.spec → levels.slots ≡ k.slots → exact.Tells d levels truth r → Tells d k truth r
exact_tells d k levels truth r spec slots h = record {
  is_ref = h.is_ref;
  means = λ values lawful. h.means values ∙ (λ i. truth (world_of (spec i) (slots i) values));
}

-- One more of a list: f has some of those before it, g has the next one, and r has both. The arena is first a; then b, where f
-- is made; then c, where g is; then d.
pub some_more : {X : Type 0} (p : (ℕ → Bool) → List Bool → X → Bool) (a b c d : Diagram) (diagrams : List ℕ) (xs : List X) (n : ℕ) (x : X) (f g r : ℕ)
    → n < length xs → x ≡ get_or xs n x → All (IsRef a) diagrams → Keeps a b → Keeps b c
    → Represents b (λ v. list_any (p v (truths_at a diagrams v)) (take n xs)) f
    → Represents c (λ v. p v (truths_at b diagrams v) x) g
    → Represents d (λ v. meaning c f v || meaning c g v) r
    → Represents d (λ v. list_any (p v (truths_at a diagrams v)) (take (n + 1) xs)) r
some_more p a b c d diagrams xs n x f g r less item refs ab bc before next both = record {
  is_ref = both.is_ref;
  means = λ v.
      both.means v
      ∙ ap (λ t. t || meaning c g v) (bc.meanings_stay f v before.is_ref ∙ before.means v)
      ∙ ap (λ t. list_any (p v (truths_at a diagrams v)) (take n xs) || t) (next.means v ∙ ap (λ ts. p v ts x) (truths_stay a b diagrams v ab refs))
      ∙ ap (λ y. list_any (p v (truths_at a diagrams v)) (take n xs) || p v (truths_at a diagrams v) y) item
      ∙ sym (list_any_more (p v (truths_at a diagrams v)) xs n x less);
}
