-- What a child that was found by its name is.
use Rattle.std.proofs.Common.{◌≡◌, ℕ, List, Option, Some, None, refl, sym, ap, subst}
use Rattle.rsml_syntax.specs.declared.syntax.StateDecl.{StateDecl}
use Rattle.rsml_syntax.specs.grammar.Parts.{children_of}
use Rattle.rsml_names.specs.Kin.{Family, Child, Holds, HoldsSome, IsChild}

-- Nothing was found, so there is none.
pub child_none : (fs : List Family) (c : Option StateDecl) → IsChild fs c None → c ≡ None
child_none fs None is = refl
child_none fs (Some c) is = elim is [ ]

-- What was found is the child.
pub child_some : (fs : List Family) (c : Option StateDecl) (found : Child) → IsChild fs c (Some found) → c ≡ Some found.state
child_some fs (Some c) found is = ap Some (sym is.0)
child_some fs None found is = elim is [ ]

-- The family of what was found has its children.
pub child_held : (fs : List Family) (c : Option StateDecl) (found : Child) → IsChild fs c (Some found) → Holds fs found.family (children_of found.state.body)
child_held fs (Some c) found is = subst (λ (s : StateDecl). Holds fs found.family (children_of s.body)) (sym is.0) is.1
child_held fs None found is = elim is [ ]

-- The same of an answer, and of what is read in it.
pub answer_held : (fs : List Family) (c : Option StateDecl) (answer : Option Child) (found read : Child) → IsChild fs c answer → answer ≡ Some found → read ≡ found →
    Holds fs read.family (children_of read.state.body)
answer_held fs c answer found read is some same =
    subst (λ (x : Child). Holds fs x.family (children_of x.state.body)) (sym same) (child_held fs c found (subst (λ (r : Option Child). IsChild fs c r) some is))

-- A child's own family has a number.
pub held_none : {P : Type 0} (fs : List Family) (answer : Option ℕ) (c : StateDecl) → answer ≡ None → HoldsSome fs answer (children_of c.body) → P
held_none fs answer c none held = elim (subst (λ (n : Option ℕ). HoldsSome fs n (children_of c.body)) none held) [ ]
