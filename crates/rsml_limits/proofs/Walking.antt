-- The comparisons of states and of declarations, by their lists.
use Rattle.std.proofs.Common.{◌≡◌, ℕ, ◌+◌, List, [], ◌∷◌, ◌++◌, Bool, true, false, Option, None, refl, sym, ap, ◌∙◌, append_assoc, length}
use Rattle.std.specs.Prelude.{flat_map}
use Rattle.std.proofs.lemmas.Grind.{flat_map-append}
use Rattle.std.proofs.lemmas.List.{append-nil}
use Rattle.rsml_syntax.specs.declared.syntax.Amount.{Amount}
use Rattle.rsml_syntax.specs.declared.syntax.Decl.{Decl}
use Rattle.rsml_syntax.specs.declared.syntax.StateDecl.{StateDecl}
use Rattle.rsml_syntax.specs.declared.syntax.Bus.{Bus}
use Rattle.rsml_syntax.specs.declared.syntax.Transition.{Transition}
use Rattle.rsml_syntax.specs.declared.syntax.Spec.{Spec}
use Rattle.rsml_syntax.specs.declared.syntax.Body.{One, All}
use Rattle.rsml_syntax.specs.text.Names.{Name, is_in}
use Rattle.rsml_syntax.specs.rules.Globals.{Globals, names_of}
use Rattle.rsml_syntax.specs.grammar.Parts.{Part, Declared, Opens, Closes, placed, nearer, declared, inside, child_parts, transitions_of, top_of, parts}
use Rattle.rsml_syntax.specs.limits.Comparisons.{comparisons}
use Rattle.rsml_names.proofs.PreviousChildren.{inside_all, inside_one}
use Rattle.rsml_limits.specs.comparisons.Searched.{Searched, searched, transition_comparisons, child_comparisons}
use Rattle.rsml_limits.proofs.AskGathering.{searched_append}

-- the comparisons of children do not depend on the earlier names
by_child : (g : Globals) (in_one : Bool) (array : Option Amount) (earlier : List Name) (cs : List StateDecl) →
    flat_map (comparisons g) (child_parts in_one array earlier cs) ≡ flat_map (child_comparisons g array) cs
by_child g in_one array earlier [] = refl
by_child g in_one array earlier (c ∷ cs) =
    let rest = child_parts in_one array (earlier ++ (c.name ∷ [])) cs in
    let all = flat_map (comparisons g) (inside (nearer c.size array) c.body) in
    let own = transition_comparisons (nearer c.size array) (transitions_of c.body) g in
    flat_map-append (comparisons g) (inside (nearer c.size array) c.body) (Closes (placed c.name (is_in c.name earlier) c.size array in_one c.body) ∷ rest)
    ∙ ap (λ ds. all ++ (own ++ ds)) (by_child g in_one array (earlier ++ (c.name ∷ [])) cs)
    ∙ sym (append_assoc all own (flat_map (child_comparisons g array) cs))

pub comparisons_all : (g : Globals) (array : Option Amount) (cs : List StateDecl) → flat_map (comparisons g) (inside array (All cs)) ≡ flat_map (child_comparisons g array) cs
comparisons_all g array cs = ap (λ (ps : List Part). flat_map (comparisons g) ps) (inside_all array cs) ∙ by_child g false array [] cs

pub comparisons_one : (g : Globals) (array : Option Amount) (n : Name) (cs : List StateDecl) (bs : List Bus) (ts : List Transition) →
    flat_map (comparisons g) (inside array (One n cs bs ts)) ≡ flat_map (child_comparisons g array) cs
comparisons_one g array n cs bs ts = ap (λ (ps : List Part). flat_map (comparisons g) ps) (inside_one array n cs bs ts) ∙ by_child g true array [] cs

-- the comparisons of declarations do not depend on their places
pub by_declaration : (g : Globals) (place : ℕ) (ds : List Decl) → flat_map (comparisons g) (declared place ds) ≡ flat_map (λ d. comparisons g (Declared 0 d)) ds
by_declaration g place [] = refl
by_declaration g place (d ∷ ds) = ap (λ cs. comparisons g (Declared 0 d) ++ cs) (by_declaration g (place + length (names_of d)) ds)

-- all comparisons: those of the declarations, those inside the top state, and its own
pub by_part : (g : Globals) (s : Spec) →
    flat_map (comparisons g) (parts s)
    ≡ flat_map (λ d. comparisons g (Declared 0 d)) s.decls ++ (flat_map (comparisons g) (inside None s.body) ++ transition_comparisons None (transitions_of s.body) g)
by_part g s =
    let all = flat_map (comparisons g) (inside None s.body) in
    flat_map-append (comparisons g) (declared 0 s.decls) (Opens (top_of s) ∷ (inside None s.body ++ (Closes (top_of s) ∷ [])))
    ∙ ap (λ cs. cs ++ flat_map (comparisons g) (inside None s.body ++ (Closes (top_of s) ∷ []))) (by_declaration g 0 s.decls)
    ∙ ap (λ cs. flat_map (λ d. comparisons g (Declared 0 d)) s.decls ++ cs)
    (flat_map-append (comparisons g) (inside None s.body) (Closes (top_of s) ∷ []) ∙ ap (λ cs. all ++ cs) (append-nil (transition_comparisons None (transitions_of s.body) g)))

-- a search through the declarations, then inside the top state, and then through its own transitions
pub searched_parts : (s : Spec) (start one two : Searched) → one ≡ searched start (λ g. flat_map (λ d. comparisons g (Declared 0 d)) s.decls) →
    two ≡ searched one (λ g. flat_map (comparisons g) (inside None s.body)) →
    searched two (transition_comparisons None (transitions_of s.body)) ≡ searched start (λ g. flat_map (comparisons g) (parts s))
searched_parts s start one two first second =
    let all = λ (g : Globals). flat_map (comparisons g) (inside None s.body) in
    let own = transition_comparisons None (transitions_of s.body) in
    ap (λ w. searched w own) second
    ∙ sym (searched_append one all own)
    ∙ ap (λ w. searched w (λ g. all g ++ own g)) first
    ∙ sym (searched_append start (λ g. flat_map (λ d. comparisons g (Declared 0 d)) s.decls) (λ g. all g ++ own g))
    ∙ (λ j. searched start (λ g. sym (by_part g s) j))
