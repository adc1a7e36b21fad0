-- What is counted inside a state, by the list of its children.
use Rattle.std.proofs.Common.{◌≡◌, ◌+◌, List, [], ◌∷◌, ◌++◌, Bool, true, false, Option, refl, ap, ◌∙◌, arith}
use Rattle.rsml_syntax.specs.declared.syntax.Amount.{Amount}
use Rattle.rsml_syntax.specs.declared.syntax.StateDecl.{StateDecl}
use Rattle.rsml_syntax.specs.declared.syntax.Bus.{Bus}
use Rattle.rsml_syntax.specs.declared.syntax.Transition.{Transition}
use Rattle.rsml_syntax.specs.declared.syntax.Body.{One, All}
use Rattle.rsml_syntax.specs.text.Names.{Name, is_in}
use Rattle.rsml_syntax.specs.limits.Limits.{adds}
use Rattle.rsml_syntax.specs.grammar.Parts.{Part, Opens, Closes, State, placed, nearer, inside, child_parts}
use Rattle.rsml_names.proofs.PreviousChildren.{inside_all, inside_one}
use Rattle.rsml_limits.specs.declared.counts.counted.Counted.{Counted}
use Rattle.rsml_limits.specs.declared.counts.counted.Counted.TheVariants as kinds
use Rattle.rsml_limits.specs.counts.Counting.{CountedNames, counted, state_count, child_count}
use Rattle.rsml_limits.proofs.Adding.{adds_append}

-- a state counts by its innermost array and its body alone
pub own : (k : Counted) (w : CountedNames) (s : State) → counted k w (Opens s) + counted k w (Closes s) ≡ state_count k w (nearer s.size s.array) s.body
own kinds.States w s = refl
own kinds.Transitions w s = refl
own kinds.Events w s = refl
own kinds.Cells w s = refl
own kinds.Definitions w s = refl
own kinds.Rows w s = refl

count_by_child : (k : Counted) (w : CountedNames) (in_one : Bool) (array : Option Amount) (earlier : List Name) (cs : List StateDecl) →
    adds (counted k w) (child_parts in_one array earlier cs) ≡ adds (child_count k w array) cs
count_by_child k w in_one array earlier [] = refl
count_by_child k w in_one array earlier (c ∷ cs) =
    let s = placed c.name (is_in c.name earlier) c.size array in_one c.body in
    let rest = child_parts in_one array (earlier ++ (c.name ∷ [])) cs in
    omega (arith, own k w s, adds_append (counted k w) (inside (nearer c.size array) c.body) (Closes s ∷ rest), count_by_child k w in_one array (earlier ++ (c.name ∷ [])) cs)

pub count_of_all : (k : Counted) (w : CountedNames) (array : Option Amount) (cs : List StateDecl) → adds (counted k w) (inside array (All cs)) ≡ adds (child_count k w array) cs
count_of_all k w array cs = ap (λ (ps : List Part). adds (counted k w) ps) (inside_all array cs) ∙ count_by_child k w false array [] cs

pub count_of_one : (k : Counted) (w : CountedNames) (array : Option Amount) (n : Name) (cs : List StateDecl) (bs : List Bus) (ts : List Transition) →
    adds (counted k w) (inside array (One n cs bs ts)) ≡ adds (child_count k w array) cs
count_of_one k w array n cs bs ts = ap (λ (ps : List Part). adds (counted k w) ps) (inside_one array n cs bs ts) ∙ count_by_child k w true array [] cs
