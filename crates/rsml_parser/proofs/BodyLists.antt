-- A body by the list of its children: its tokens, its items and how deep it nests.
use Rattle.std.proofs.Common.{◌≡◌, ◌⊎◌, inl, inr, ℕ, suc, ◌≤◌, Bool, List, [], ◌∷◌, refl, sym, ap, subst, ◌∙◌, arith}
use Rattle.std.specs.Prelude.{◌&&◌, nat_le, max, IsTrue}
use Rattle.std.specs.List.{list_all}
use Rattle.std.proofs.lemmas.Bool.{leb-true, le-leb}
use mathlib.Core.Former.{Count}
use Rattle.rsml_syntax.specs.grammar.Grammar as put
use Rattle.rsml_syntax.specs.text.Names.{Name}
use Rattle.rsml_syntax.specs.text.Tokens.{Tokens}
use Rattle.rsml_syntax.specs.grammar.WellFormed.{bus_has_items, transition_has_items, body_has_items, row_of_children_has_items, depth_of, children_depth}
use Rattle.rsml_syntax.specs.declared.token.Mark.TheVariants as marks
use Rattle.rsml_syntax.specs.declared.token.Word.TheVariants as words
use Rattle.rsml_syntax.specs.declared.syntax.Body.{Body, Basic, One, One', All, All', Row_of-StateDecl, end_of-StateDecl, more_of-StateDecl, items-the_row-StateDecl, items_hidden-the_row-StateDecl-0, roll-Body, out-Body, roll-out-Body}
use Rattle.rsml_syntax.specs.declared.syntax.Body.TheOpen as layer
use Rattle.rsml_syntax.specs.declared.syntax.Body.TheVariants.{rolls-Basic, rolls-One, rolls-All}
use Rattle.rsml_syntax.specs.declared.syntax.Bus.{Bus}
use Rattle.rsml_syntax.specs.declared.syntax.StateDecl.{StateDecl}
use Rattle.rsml_syntax.specs.declared.syntax.Transition.{Transition}
use Rattle.rsml_parser.proofs.Spelling.{both, halves}

-- what a body can be
abbrev pub Kind : Body → Type 0
Kind b = (b ≡ Basic) ⊎ (((n : Name) × (cs : List StateDecl) × (bs : List Bus) × (ts : List Transition) × (b ≡ One n cs bs ts)) ⊎ ((cs : List StateDecl) × (b ≡ All cs)))

pub kind : (b : Body) → Kind b
kind b = subst Kind (roll-out-Body b) (elim (out-Body b) as (λ l. Kind (roll-Body l)) [
  | layer.Basic ↦ inl rolls-Basic
  | layer.One n cs bs ts ↦ inr (inl (n, cs, bs, ts, rolls-One n cs bs ts))
  | layer.All cs ↦ inr (inr (cs, rolls-All cs))
])

-- how many states are nested in some children at most
abbrev pub list_depth : List StateDecl → ℕ
list_depth [] = 0
list_depth (c ∷ cs) = max (depth_of c.body) (list_depth cs)

abbrev pub has_its_items : StateDecl → Bool
has_its_items c = body_has_items c.body

row_tokens : (n : _) (row : Row_of-StateDecl n) (rest : Tokens) → put.children_row row rest ≡ put.each put.state (items-the_row-StateDecl n row) rest
row_tokens n end_of-StateDecl rest = refl
row_tokens n (more_of-StateDecl a z b others) rest = ap (λ r. put.word (put.state_word z) (put.name a (put.size z (put.body b r)))) (row_tokens _ others rest)

row_items : (n : _) (row : Row_of-StateDecl n) → row_of_children_has_items row ≡ list_all has_its_items (items-the_row-StateDecl n row)
row_items n end_of-StateDecl = refl
row_items n (more_of-StateDecl a z b others) = ap (λ r. body_has_items b && r) (row_items _ others)

row_depth : (n : _) (row : Row_of-StateDecl n) → children_depth row ≡ list_depth (items-the_row-StateDecl n row)
row_depth n end_of-StateDecl = refl
row_depth n (more_of-StateDecl a z b others) = ap (λ r. max (depth_of b) r) (row_depth _ others)

abbrev row_of : Body → (n : Count) × Row_of-StateDecl n
row_of (One' n _ row bs ts) = (_, row)
row_of (All' _ row) = (_, row)
row_of _ = (_, end_of-StateDecl)

-- the tokens of some children, and of a body

pub tokens_of_all : (cs : List StateDecl) (rest : Tokens) → put.body (All cs) rest ≡ put.word words.All (put.mark marks.OpenBrace (put.each put.state cs (put.mark marks.CloseBrace rest)))
tokens_of_all cs rest =
    let row = row_of (All cs) in
    ap (λ r. put.word words.All (put.mark marks.OpenBrace r))
    (row_tokens row.0 row.1 (put.mark marks.CloseBrace rest) ∙ ap (λ (ds : List StateDecl). put.each put.state ds (put.mark marks.CloseBrace rest)) (items_hidden-the_row-StateDecl-0 cs))

pub tokens_of_one : (n : Name) (cs : List StateDecl) (bs : List Bus) (ts : List Transition) (rest : Tokens) → put.body (One n cs bs ts) rest ≡
    put.word words.One (put.mark marks.OpenBrace (put.word words.Default (put.name n (put.mark marks.Semicolon (put.each put.state cs (put.each put.bus bs (put.each put.transition ts (put.mark marks.CloseBrace rest))))))))
tokens_of_one n cs bs ts rest =
    let row = row_of (One n cs bs ts) in
    let more = put.each put.bus bs (put.each put.transition ts (put.mark marks.CloseBrace rest)) in
    ap (λ r. put.word words.One (put.mark marks.OpenBrace (put.word words.Default (put.name n (put.mark marks.Semicolon r)))))
    (row_tokens row.0 row.1 more ∙ ap (λ (ds : List StateDecl). put.each put.state ds more) (items_hidden-the_row-StateDecl-0 cs))

items_of_all : (cs : List StateDecl) → body_has_items (All cs) ≡ list_all has_its_items cs
items_of_all cs = let row = row_of (All cs) in row_items row.0 row.1 ∙ ap (λ (ds : List StateDecl). list_all has_its_items ds) (items_hidden-the_row-StateDecl-0 cs)

items_of_one : (n : Name) (cs : List StateDecl) (bs : List Bus) (ts : List Transition) → body_has_items (One n cs bs ts) ≡ (list_all has_its_items cs && (list_all bus_has_items bs && list_all transition_has_items ts))
items_of_one n cs bs ts =
    let row = row_of (One n cs bs ts) in
    ap (λ r. r && (list_all bus_has_items bs && list_all transition_has_items ts)) (row_items row.0 row.1 ∙ ap (λ (ds : List StateDecl). list_all has_its_items ds) (items_hidden-the_row-StateDecl-0 cs))

depth_of_all : (cs : List StateDecl) → depth_of (All cs) ≡ suc (list_depth cs)
depth_of_all cs = let row = row_of (All cs) in ap suc (row_depth row.0 row.1 ∙ ap (λ (ds : List StateDecl). list_depth ds) (items_hidden-the_row-StateDecl-0 cs))

depth_of_one : (n : Name) (cs : List StateDecl) (bs : List Bus) (ts : List Transition) → depth_of (One n cs bs ts) ≡ suc (list_depth cs)
depth_of_one n cs bs ts = let row = row_of (One n cs bs ts) in ap suc (row_depth row.0 row.1 ∙ ap (λ (ds : List StateDecl). list_depth ds) (items_hidden-the_row-StateDecl-0 cs))

-- A body that has its items and nests at most so many states.

abbrev pub good_body : ℕ → Body → Bool
good_body most b = body_has_items b && nat_le (depth_of b) most

abbrev pub good_state : ℕ → StateDecl → Bool
good_state most s = good_body most s.body

pub all_good : (most : ℕ) (cs : List StateDecl) → IsTrue (list_all (good_state most) cs) → IsTrue (list_all has_its_items cs) × (list_depth cs ≤ most)
all_good most [] h = (refl, omega arith)
all_good most (c ∷ cs) h =
    let one = halves (good_state most c) (list_all (good_state most) cs) h in
    let own = halves (body_has_items c.body) (nat_le (depth_of c.body) most) one.0 in
    let others = all_good most cs one.1 in
    let depth = leb-true (depth_of c.body) most own.1 in
    let more = others.1 in
    (both (body_has_items c.body) (list_all has_its_items cs) own.0 others.0, omega (arith, depth, more))

pub each_is_good : (most : ℕ) (cs : List StateDecl) → IsTrue (list_all has_its_items cs) → list_depth cs ≤ most → IsTrue (list_all (good_state most) cs)
each_is_good most [] items depth = refl
each_is_good most (c ∷ cs) items depth =
    let is = halves (body_has_items c.body) (list_all has_its_items cs) items in
    both (good_state most c) (list_all (good_state most) cs) (both (body_has_items c.body) (nat_le (depth_of c.body) most) is.0 (le-leb (depth_of c.body) most (omega (arith, depth))))
    (each_is_good most cs is.1 (omega (arith, depth)))

pub basic_is_good : (most : ℕ) → IsTrue (good_body (suc most) Basic)
basic_is_good most = le-leb 1 (suc most) (omega arith)

pub all_is_good : (most : ℕ) (cs : List StateDecl) → IsTrue (list_all (good_state most) cs) → IsTrue (good_body (suc most) (All cs))
all_is_good most cs h =
    let is = all_good most cs h in let depth = is.1 in let same = depth_of_all cs in
    both (body_has_items (All cs)) (nat_le (depth_of (All cs)) (suc most)) (items_of_all cs ∙ is.0) (le-leb (depth_of (All cs)) (suc most) (omega (arith, same, depth)))

pub one_is_good : (most : ℕ) (n : Name) (cs : List StateDecl) (bs : List Bus) (ts : List Transition) → IsTrue (list_all (good_state most) cs) → IsTrue (list_all bus_has_items bs) → IsTrue (list_all transition_has_items ts) →
    IsTrue (good_body (suc most) (One n cs bs ts))
one_is_good most n cs bs ts h buses transitions =
    let is = all_good most cs h in let depth = is.1 in let same = depth_of_one n cs bs ts in
    both (body_has_items (One n cs bs ts)) (nat_le (depth_of (One n cs bs ts)) (suc most))
    (items_of_one n cs bs ts ∙ both (list_all has_its_items cs) (list_all bus_has_items bs && list_all transition_has_items ts) is.0 (both (list_all bus_has_items bs) (list_all transition_has_items ts) buses transitions))
    (le-leb (depth_of (One n cs bs ts)) (suc most) (omega (arith, same, depth)))

-- the parts of a good body

pub in_all : (most : ℕ) (cs : List StateDecl) → IsTrue (good_body (suc most) (All cs)) → IsTrue (list_all (good_state most) cs)
in_all most cs h =
    let is = halves (body_has_items (All cs)) (nat_le (depth_of (All cs)) (suc most)) h in
    let depth = leb-true (depth_of (All cs)) (suc most) is.1 in let same = depth_of_all cs in
    each_is_good most cs (sym (items_of_all cs) ∙ is.0) (omega (arith, depth, same))

pub in_one : (most : ℕ) (n : Name) (cs : List StateDecl) (bs : List Bus) (ts : List Transition) → IsTrue (good_body (suc most) (One n cs bs ts)) →
    IsTrue (list_all (good_state most) cs) × IsTrue (list_all bus_has_items bs) × IsTrue (list_all transition_has_items ts)
in_one most n cs bs ts h =
    let is = halves (body_has_items (One n cs bs ts)) (nat_le (depth_of (One n cs bs ts)) (suc most)) h in
    let depth = leb-true (depth_of (One n cs bs ts)) (suc most) is.1 in let same = depth_of_one n cs bs ts in
    let items = halves (list_all has_its_items cs) (list_all bus_has_items bs && list_all transition_has_items ts) (sym (items_of_one n cs bs ts) ∙ is.0) in
    let others = halves (list_all bus_has_items bs) (list_all transition_has_items ts) items.1 in
    (each_is_good most cs items.0 (omega (arith, depth, same)), others.0, others.1)

-- each state is one
pub no_depth : (b : Body) → depth_of b ≤ 0 → ⊥
no_depth Basic h = omega (arith, h)
no_depth (One' n _ row bs ts) h = omega (arith, h)
no_depth (All' _ row) h = omega (arith, h)
