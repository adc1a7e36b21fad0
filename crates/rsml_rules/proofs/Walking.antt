-- What is judged at a state, and at children one after another.
use Rattle.std.proofs.Common.{◌≡◌, ℕ, suc, ◌+◌, ◌<◌, List, [], ◌∷◌, ◌++◌, Bool, true, false, Option, length, drop, get_or, drop-cons, add-one, append_assoc, refl, sym, ap, ◌∙◌}
use Rattle.std.specs.Prelude.{flat_map}
use Rattle.std.proofs.lemmas.Grind.{flat_map-append}
use mathlib.Core.Former.{Count}
use Rattle.rsml_syntax.specs.declared.syntax.Amount.{Amount}
use Rattle.rsml_syntax.specs.declared.syntax.Bus.{Bus}
use Rattle.rsml_syntax.specs.declared.syntax.Transition.{Transition}
use Rattle.rsml_syntax.specs.declared.syntax.StateDecl.{StateDecl}
use Rattle.rsml_syntax.specs.declared.syntax.Body.{Body, One, One', All, All', Row_of-StateDecl, end_of-StateDecl, more_of-StateDecl, items-the_row-StateDecl, items_hidden-the_row-StateDecl-0}
use Rattle.rsml_syntax.specs.text.Names.{Name, is_in}
use Rattle.rsml_syntax.specs.rules.Breaches.{Breach}
use Rattle.rsml_rules.specs.breaches.Noting.{noted}
use Rattle.rsml_syntax.specs.rules.Scopes.{NameTables}
use Rattle.rsml_syntax.specs.grammar.Parts.{Part, State, Opens, Closes, placed, nearer, inside, row_parts, child_parts}
use Rattle.rsml_syntax.specs.rules.States.{opening, closing}
use Rattle.rsml_syntax.specs.rules.Rules.{judged}
use Rattle.rsml_rules.specs.breaches.Walks.{state_parts}
use Rattle.rsml_rules.proofs.Noting.{noted_append}

-- WHAT IS IN A BODY

-- The parts of a row of children are those of their list.
row_is_list : (in_one : Bool) (array : Option Amount) (earlier : List Name) (n : Count) (row : Row_of-StateDecl n) → row_parts in_one array earlier row ≡ child_parts in_one array earlier (items-the_row-StateDecl n row)
row_is_list in_one array earlier n end_of-StateDecl = refl
row_is_list in_one array earlier n (more_of-StateDecl a z b others) =
    ap (λ (ps : List Part). Opens (placed a (is_in a earlier) z array in_one b) ∷ (inside (nearer z array) b ++ (Closes (placed a (is_in a earlier) z array in_one b) ∷ ps)))
    (row_is_list in_one array (earlier ++ (a ∷ [])) _ others)

-- the row of a body
abbrev row_of : Body → (n : Count) × Row_of-StateDecl n
row_of (One' f _ row bs ts) = (_, row)
row_of (All' _ row) = (_, row)
row_of _ = (_, end_of-StateDecl)

-- Inside an `all` state are its children.
pub inside_all : (array : Option Amount) (cs : List StateDecl) → inside array (All cs) ≡ child_parts false array [] cs
inside_all array cs =
    let row = row_of (All cs) in
    row_is_list false array [] row.0 row.1 ∙ ap (λ (ds : List StateDecl). child_parts false array [] ds) (items_hidden-the_row-StateDecl-0 cs)

-- Inside a `one` state are its children.
pub inside_one : (array : Option Amount) (n : Name) (cs : List StateDecl) (bs : List Bus) (ts : List Transition) → inside array (One n cs bs ts) ≡ child_parts true array [] cs
inside_one array n cs bs ts =
    let row = row_of (One n cs bs ts) in
    row_is_list true array [] row.0 row.1 ∙ ap (λ (ds : List StateDecl). child_parts true array [] ds) (items_hidden-the_row-StateDecl-0 cs)

-- A STATE

-- What is noted where a state opens, inside it, and where it closes.
pub state_noted : (w : NameTables) (s : State) (worst opened inner : Option Breach) (array : Option Amount) (body : Body) →
    opened ≡ noted worst (opening w s) → array ≡ nearer s.size s.array → body ≡ s.body → inner ≡ noted opened (flat_map (judged w) (inside array body)) →
    noted inner (closing w s) ≡ noted worst (flat_map (judged w) (state_parts s))
state_noted w s worst opened inner array body opens near its inner_is =
    let within = flat_map (judged w) (inside (nearer s.size s.array) s.body) in
    let at_inner : inner ≡ noted (noted worst (opening w s)) within =
    inner_is ∙ (λ j. noted (opens j) (flat_map (judged w) (inside (near j) (its j)))) in
    ap (λ b. noted b (closing w s)) at_inner
    ∙ sym (noted_append (noted (noted worst (opening w s)) within) (closing w s) [])
    ∙ sym (noted_append (noted worst (opening w s)) within (closing w s ++ []))
    ∙ ap (noted (noted worst (opening w s))) (sym (flat_map-append (judged w) (inside (nearer s.size s.array) s.body) (Closes s ∷ [])))
    ∙ sym (noted_append worst (opening w s) (flat_map (judged w) (inside (nearer s.size s.array) s.body ++ (Closes s ∷ []))))

-- CHILDREN

-- What is noted at a child, and then at those behind it.
child_noted : (w : NameTables) (worst : Option Breach) (in_one : Bool) (array : Option Amount) (earlier : List Name) (c : StateDecl) (cs : List StateDecl) →
    noted worst (flat_map (judged w) (child_parts in_one array earlier (c ∷ cs)))
    ≡ noted (noted worst (flat_map (judged w) (state_parts (placed c.name (is_in c.name earlier) c.size array in_one c.body)))) (flat_map (judged w) (child_parts in_one array (earlier ++ (c.name ∷ [])) cs))
child_noted w worst in_one array earlier c cs =
    let s = placed c.name (is_in c.name earlier) c.size array in_one c.body in
    let rest = child_parts in_one array (earlier ++ (c.name ∷ [])) cs in
    ap (λ (ps : List Part). noted worst (flat_map (judged w) (Opens s ∷ ps))) (sym (append_assoc (inside (nearer c.size array) c.body) (Closes s ∷ []) rest))
    ∙ ap (noted worst) (flat_map-append (judged w) (state_parts s) rest)
    ∙ noted_append worst (flat_map (judged w) (state_parts s)) (flat_map (judged w) rest)

-- A turn of the loop over children.
pub child_turn : (w : NameTables) (worst next all : Option Breach) (in_one : Bool) (array : Option Amount) (earlier after : List Name) (cs : List StateDecl) (i : ℕ) (c : StateDecl) (repeated : Bool) (size : Option Amount) →
    i < length cs → c ≡ get_or cs i c → after ≡ earlier ++ (c.name ∷ []) → repeated ≡ is_in c.name earlier → size ≡ c.size →
    next ≡ noted worst (flat_map (judged w) (state_parts (placed c.name repeated size array in_one c.body))) →
    noted worst (flat_map (judged w) (child_parts in_one array earlier (drop i cs))) ≡ all →
    noted next (flat_map (judged w) (child_parts in_one array after (drop (i + 1) cs))) ≡ all
child_turn w worst next all in_one array earlier after cs i c repeated size h e put again sized now before =
    let split : drop i cs ≡ c ∷ drop (i + 1) cs = rw (add-one, drop-cons cs i c h) (ap (λ (d : StateDecl). d ∷ drop (suc i) cs) (sym e)) in
    ap (λ b. noted b (flat_map (judged w) (child_parts in_one array after (drop (i + 1) cs)))) now
    ∙ (λ j. noted (noted worst (flat_map (judged w) (state_parts (placed c.name (again j) (sized j) array in_one c.body)))) (flat_map (judged w) (child_parts in_one array (put j) (drop (i + 1) cs))))
    ∙ sym (child_noted w worst in_one array earlier c (drop (i + 1) cs))
    ∙ ap (λ (ds : List StateDecl). noted worst (flat_map (judged w) (child_parts in_one array earlier ds))) (sym split)
    ∙ before
