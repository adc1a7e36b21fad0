-- Families that stand among more, and the place of a child.
use Rattle.std.proofs.Common.{◌≡◌, ℕ, zero, suc, ◌+◌, List, [], ◌∷◌, ◌++◌, length, map, Option, Some, None, refl, sym, ap, ◌∙◌, subst, slice_get, ◌⊎◌, inl, inr, take, get_or, ◌<◌, append_assoc, Result, Ok, Err, IfOk}
use Rattle.std.proofs.lemmas.List.{take_more, map_push}
use Rattle.std.proofs.lemmas.Option.{same_Some}
use Rattle.std.specs.Option.{option_map, option_and_then}
use Rattle.rsml_syntax.specs.declared.syntax.StateDecl.{StateDecl}
use Rattle.rsml_syntax.specs.text.Names.{Name, same, place_of}
use Rattle.rsml_syntax.specs.rules.Uses.{child_named}
use Rattle.rsml_syntax.specs.grammar.Parts.{children_of}
use Rattle.rsml_names.proofs.NamesLemmas.{found}
use Rattle.rsml_names.specs.Kin.{Family, Holds, AreBelow, Fits, AreFamilies, Grown, child_at, child_of, IsChild, HoldsSome}

-- a family keeps its number
pub holds_more : (fs more : List Family) (n : ℕ) (cs : List StateDecl) → Holds fs n cs → Holds (fs ++ more) n cs
holds_more [] more n cs h = cc
holds_more (f ∷ fs) more zero cs h = h
holds_more (f ∷ fs) more (suc n) cs h = holds_more fs more n cs h

-- the family that is put last has the next number
pub holds_last : (fs : List Family) (f : Family) → Holds (fs ++ f ∷ []) (length fs) f.children
holds_last [] f = refl
holds_last (g ∷ fs) f = holds_last fs f

-- numbers of families stay right
pub below_more : (fs more : List Family) (cs : List StateDecl) (ns : List ℕ) → AreBelow fs cs ns → AreBelow (fs ++ more) cs ns
below_more fs more [] [] h = h
below_more fs more (c ∷ cs) (n ∷ ns) h = (holds_more fs more n (children_of c.body) h.0, below_more fs more cs ns h.1)
below_more fs more [] (n ∷ ns) h = h
below_more fs more (c ∷ cs) [] h = h

-- one more child, with the number of its own family
pub below_push : (fs : List Family) (cs : List StateDecl) (ns : List ℕ) (c : StateDecl) (n : ℕ) → AreBelow fs cs ns → Holds fs n (children_of c.body) → AreBelow fs (cs ++ c ∷ []) (ns ++ n ∷ [])
below_push fs [] [] c n h k = (k, tt)
below_push fs (d ∷ cs) (m ∷ ns) c n h k = (h.0, below_push fs cs ns c n h.1 k)
below_push fs [] (m ∷ ns) c n h k = absurd h
below_push fs (d ∷ cs) [] c n h k = absurd h

-- a family that fits still fits
pub fits_more : (fs more : List Family) (f : Family) → Fits fs f → Fits (fs ++ more) f
fits_more fs more f h = record { names = h.names; below = below_more fs more f.children f.below h.below }

-- what stands in a list with one more at its end
from_push : (fs : List Family) (f : Family) (n : ℕ) (g : Family) → slice_get (fs ++ f ∷ []) n ≡ Some g → (slice_get fs n ≡ Some g) ⊎ (f ≡ g)
from_push [] f zero g h = inr cc
from_push [] f (suc n) g h = absurd cc
from_push (x ∷ fs) f zero g h = inl h
from_push (x ∷ fs) f (suc n) g h = from_push fs f n g h

-- all fit with one more that fits
pub fit_push : (fs : List Family) (f : Family) → AreFamilies fs → Fits fs f → AreFamilies (fs ++ f ∷ [])
fit_push fs f all fits n g h = elim (from_push fs f n g h) [
  | inl k ↦ fits_more fs (f ∷ []) g (all n g k)
  | inr e ↦ fits_more fs (f ∷ []) g (subst (λ (x : Family). Fits fs x) e fits)
]

-- A TURN OVER CHILDREN

-- families that stand behind those that stand behind the first
pub grown_more : (fs gs hs : List Family) → Grown fs gs → Grown gs hs → Grown fs hs
grown_more fs gs hs h k = (h.0 ++ k.0, k.1 ∙ ap (λ (x : List Family). x ++ k.0) h.1 ∙ append_assoc fs h.0 k.0)

-- a turn takes one child more
taken : (cs : List StateDecl) (i : ℕ) (c : StateDecl) → i < length cs → c ≡ get_or cs i c → take (i + 1) cs ≡ take i cs ++ c ∷ []
taken cs i c h e = take_more cs i c h ∙ ap (λ (d : StateDecl). take i cs ++ d ∷ []) (sym e)

-- the names after a turn
pub names_turn : (before after : List Name) (cs : List StateDecl) (i : ℕ) (c : StateDecl) → i < length cs → c ≡ get_or cs i c →
    before ≡ map (λ (d : StateDecl). d.name) (take i cs) → after ≡ before ++ c.name ∷ [] → after ≡ map (λ (d : StateDecl). d.name) (take (i + 1) cs)
names_turn before after cs i c h e named put =
    put
    ∙ ap (λ (ns : List Name). ns ++ c.name ∷ []) named
    ∙ sym (map_push (λ (d : StateDecl). d.name) (take i cs) c)
    ∙ ap (λ (ds : List StateDecl). map (λ (d : StateDecl). d.name) ds) (sym (taken cs i c h e))

-- the numbers after a turn
pub below_turn : (fs gs : List Family) (cs : List StateDecl) (i : ℕ) (c : StateDecl) (ns : List ℕ) (n : ℕ) → i < length cs → c ≡ get_or cs i c →
    AreBelow fs (take i cs) ns → Grown fs gs → Holds gs n (children_of c.body) → AreBelow gs (take (i + 1) cs) (ns ++ n ∷ [])
below_turn fs gs cs i c ns n h e below grown holds =
    let now = subst (λ (x : List Family). AreBelow x (take i cs) ns) (sym grown.1) (below_more fs grown.0 (take i cs) ns below) in
    subst (λ (ds : List StateDecl). AreBelow gs ds (ns ++ n ∷ [])) (sym (taken cs i c h e)) (below_push gs (take i cs) ns c n now holds)

-- what families hold that were put last
pub put_holds : {E : Type 0} (r : Result (List Family × ℕ) E) (first fs : List Family) (f : Family) → Grown first fs →
    IfOk r (λ p. (p.0 ≡ fs ++ f ∷ []) × (p.1 ≡ length fs)) → IfOk r (λ p. Grown first p.0 × Holds p.0 p.1 f.children)
put_holds (Err e) first fs f grown h = h
put_holds (Ok p) first fs f grown h = (
  grown_more first fs p.0 grown (f ∷ [], h.0),
  subst (λ (gs : List Family). Holds gs p.1 f.children) (sym h.0) (subst (λ (n : ℕ). Holds (fs ++ f ∷ []) n f.children) (sym h.1) (holds_last fs f)),
)

-- THE CHILD OF A NAME

-- the child at a place, with its own family
at_place : (fs : List Family) (cs : List StateDecl) (ns : List ℕ) (names : List Name) (p : ℕ) → AreBelow fs cs ns → IsChild fs (slice_get cs p) (child_at (record { children = cs; names = names; below = ns }) p)
at_place fs [] [] names p h = tt
at_place fs (c ∷ cs) (n ∷ ns) names zero h = (refl, h.0)
at_place fs (c ∷ cs) (n ∷ ns) names (suc p) h = at_place fs cs ns names p h.1
at_place fs [] (n ∷ ns) names p h = absurd h
at_place fs (c ∷ cs) [] names p h = absurd h

-- the child of a name, in a family that fits
pub is_child : (fs : List Family) (f : Family) (name : Name) → Fits fs f → IsChild fs (child_named name f.children) (child_of f name)
is_child fs f name h =
    subst (λ (o : Option StateDecl). IsChild fs o (child_of f name)) (sym (found (λ (c : StateDecl). c.name) (same name) f.children))
    (subst (λ (ns : List Name). IsChild fs (option_and_then (slice_get f.children) (place_of name ns)) (child_of f name)) h.names
    (by (place_of name f.names)))
  where
    by : (o : Option ℕ) → IsChild fs (option_and_then (slice_get f.children) o) (option_and_then (child_at f) o)
    by None = tt
    by (Some p) = at_place fs f.children f.below f.names p h.below

-- the family of a number has the children that it holds
pub held : (fs : List Family) (n : ℕ) (f : Family) (cs : List StateDecl) → Some f ≡ slice_get fs n → Holds fs n cs → f.children ≡ cs
held fs n f cs e h = same_Some f.children cs (ap (λ (o : Option Family). option_map (λ (g : Family). g.children) o) e ∙ h)

-- the number at the place of a child is that of its own family
pub below_at : (fs : List Family) (cs : List StateDecl) (ns : List ℕ) (p : ℕ) (c : StateDecl) → AreBelow fs cs ns → slice_get cs p ≡ Some c → HoldsSome fs (slice_get ns p) (children_of c.body)
below_at fs [] [] p c h e = absurd cc
below_at fs (d ∷ cs) (n ∷ ns) zero c h e = subst (λ (x : StateDecl). Holds fs n (children_of x.body)) (same_Some d c e) h.0
below_at fs (d ∷ cs) (n ∷ ns) (suc p) c h e = below_at fs cs ns p c h.1 e
below_at fs [] (n ∷ ns) p c h e = absurd h
below_at fs (d ∷ cs) [] p c h e = absurd h
