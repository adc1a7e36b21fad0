-- The place at which a state opens inside 16 others.
use Rattle.std.specs.Prelude.{◌≡◌, ℕ, zero, suc, ◌+◌, ◌≤◌, List, [], ◌∷◌, drop, Some, None, codes}
use Rattle.std.proofs.Common.{refl, ap, arith}
use Rattle.unicode_ident.proofs.IdentLemmas.{is_xid_start-ascii}
use lib.Utf8.{encode}
use mathlib.Core.Former.{Count}
use Rattle.rsml_syntax.specs.declared.edition.Edition.TheVariants as editions
use Rattle.rsml_syntax.specs.declared.syntax.Body.{Body, Basic, One', All', Row_of-StateDecl, end_of-StateDecl, more_of-StateDecl}
use Rattle.rsml_syntax.specs.declared.syntax.Decl.{Decl}
use Rattle.rsml_syntax.specs.declared.syntax.Decl.TheVariants as decls
use Rattle.rsml_syntax.specs.declared.syntax.Spec.{Spec}
use Rattle.rsml_syntax.specs.declared.token.Mark.TheVariants as marks
use Rattle.rsml_syntax.specs.declared.token.Token.TheVariants as token
use Rattle.rsml_syntax.specs.declared.token.Word.TheVariants as words
use Rattle.rsml_syntax.specs.grammar.Grammar.{tokens_of, body, children_row}
use Rattle.rsml_syntax.specs.grammar.Places.{IsDepthPlace}
use Rattle.rsml_syntax.specs.grammar.WellFormed.{WellFormed, depth_of, children_depth}
use Rattle.rsml_syntax.specs.text.Tokens.{Tokens, AreTokens, IsFreeName}
use Rattle.rsml_syntax.specs.text.Words.{spelling}
use Rattle.rsml_syntax.proofs.Examples.Places.{name_A, word_at}

name_D : IsFreeName editions.Second (codes "D")
unfolding spelling encode
name_D = (codes "D", refl, refl, rw (is_xid_start-ascii 68 (omega arith)) refl, refl)

-- `state A all {`, so many times, and then the rest
abbrev openings : ℕ → Tokens → Tokens
openings zero rest = rest
openings (suc n) rest = token.Word words.State ∷ token.Name (codes "A") ∷ token.Word words.All ∷ token.Mark marks.OpenBrace ∷ openings n rest

-- `}`, so many times
abbrev closings : ℕ → Tokens
closings zero = []
closings (suc n) = token.Mark marks.CloseBrace ∷ closings n

-- `specification D;`, and then the rest
abbrev header : Tokens → Tokens
header rest = token.Word words.Specification ∷ token.Name (codes "D") ∷ token.Mark marks.Semicolon ∷ rest

-- so many states inside a state, each inside the one before
abbrev tower : ℕ → Body
tower zero = All' [] end_of-StateDecl
tower (suc n) = All' (tt ∷ []) (more_of-StateDecl (codes "A") None (tower n) end_of-StateDecl)

abbrev tower_spec : ℕ → Spec
tower_spec n = record { name = codes "D"; decls = []; top = codes "A"; body = tower n }

openings_are : (n : ℕ) (rest : Tokens) → AreTokens editions.Second rest → AreTokens editions.Second (openings n rest)
openings_are zero rest are = are
openings_are (suc n) rest are = (refl, (name_A, (refl, (refl, openings_are n rest are))))

closings_are : (n : ℕ) → AreTokens editions.Second (closings n)
closings_are zero = refl
closings_are (suc n) = (refl, closings_are n)

sixteen_is : WellFormed (tower_spec 15)
sixteen_is = record { tokens = (refl, (name_D, (refl, openings_are 16 (closings 16) (closings_are 16)))); items = refl }

seventeen_is : WellFormed (tower_spec 16)
seventeen_is = record { tokens = (refl, (name_D, (refl, openings_are 17 (closings 17) (closings_are 17)))); items = refl }

-- 16 states are open
abbrev opened : Tokens
opened = header (openings 16 [])

some_depth : (b : Body) → 1 ≤ depth_of b
some_depth Basic = omega arith
some_depth (One' _ _ children _ _) = omega arith
some_depth (All' _ children) = omega arith

-- a further state is there
row_base : {shape : Count} (row : Row_of-StateDecl shape) (rest more : Tokens) → children_row row (token.Mark marks.CloseBrace ∷ rest) ≡ token.Word words.State ∷ more → 1 ≤ children_depth row
unfolding word_at
row_base end_of-StateDecl rest more e = absurd (cc (ap (word_at 0) e))
row_base (more_of-StateDecl _ _ b others) rest more e = let some = some_depth b in omega (arith, some)

-- A body that goes on with so many openings.
abbrev GoesOn : ℕ → Body → Tokens → Tokens → Type 0
GoesOn n b rest more = body b rest ≡ token.Word words.All ∷ token.Mark marks.OpenBrace ∷ openings n (token.Word words.State ∷ more)

row_deep : (n : ℕ) {shape : Count} (row : Row_of-StateDecl shape) (rest more : Tokens) → ((b : Body) (rest : Tokens) → GoesOn n b rest more → n + 2 ≤ depth_of b) →
    children_row row (token.Mark marks.CloseBrace ∷ rest) ≡ openings (suc n) (token.Word words.State ∷ more) → n + 2 ≤ children_depth row
unfolding word_at
row_deep n end_of-StateDecl rest more inner e = absurd (cc (ap (word_at 0) e))
row_deep n (more_of-StateDecl _ (Some _) b others) rest more inner e = absurd (cc (ap (word_at 0) e))
row_deep n (more_of-StateDecl _ None b others) rest more inner e =
    let deep = inner b (children_row others (token.Mark marks.CloseBrace ∷ rest)) (ap (drop 2) e) in omega (arith, deep)

-- it has states that deep
deep_body : (n : ℕ) (b : Body) (rest more : Tokens) → GoesOn n b rest more → n + 2 ≤ depth_of b
unfolding word_at
deep_body n Basic rest more e = absurd (cc (ap (word_at 0) e))
deep_body n (One' _ _ _ _ _) rest more e = absurd (cc (ap (word_at 0) e))
deep_body zero (All' _ children) rest more e = let deep = row_base children rest more (ap (drop 2) e) in omega (arith, deep)
deep_body (suc n) (All' _ children) rest more e =
    let deep = row_deep n children rest more (λ b rest. deep_body n b rest more) (ap (drop 2) e) in omega (arith, deep)

-- no specification of at most 16 levels has a further state there
no_state_fits : (s : Spec) (more : Tokens) → tokens_of s ≡ header (openings 16 (token.Word words.State ∷ more)) → 17 ≤ depth_of s.body
unfolding word_at
no_state_fits s more e = by_decls s.decls e
  where
    by_decls : (ds : List Decl) → tokens_of (record s { decls = ds }) ≡ header (openings 16 (token.Word words.State ∷ more)) → 17 ≤ depth_of s.body
    by_decls [] e = deep_body 15 s.body [] more (ap (drop 5) e)
    by_decls (decls.Enumeration _ _ ∷ ds) e = absurd (cc (ap (word_at 3) e))
    by_decls (decls.Range _ _ _ ∷ ds) e = absurd (cc (ap (word_at 3) e))
    by_decls (decls.Constant _ _ ∷ ds) e = absurd (cc (ap (word_at 3) e))
    by_decls (decls.Input _ _ _ _ ∷ ds) e = absurd (cc (ap (word_at 3) e))
    by_decls (decls.Event _ _ ∷ ds) e = absurd (cc (ap (word_at 3) e))
    by_decls (decls.Macro _ _ _ ∷ ds) e = absurd (cc (ap (word_at 3) e))
    by_decls (decls.Function _ _ _ ∷ ds) e = absurd (cc (ap (word_at 3) e))
    by_decls (decls.Receive _ _ _ _ ∷ ds) e = absurd (cc (ap (word_at 3) e))
    by_decls (decls.Send _ _ _ _ ∷ ds) e = absurd (cc (ap (word_at 3) e))

-- in `specification D;`, 16 times `state A all {`, and then `state A;`, the 68th token opens a state inside 16 others
seventeenth_state : IsDepthPlace (header (openings 16 (token.Word words.State ∷ token.Name (codes "A") ∷ token.Mark marks.Semicolon ∷ []))) 68
seventeenth_state = record {
  before = opened;
  token = token.Word words.State;
  rest = token.Name (codes "A") ∷ token.Mark marks.Semicolon ∷ [];
  split = refl;
  here = refl;
  within = (tower_spec 15, closings 16, sixteen_is, omega arith, refl);
  begins = (tower_spec 16, token.Name (codes "A") ∷ token.Word words.All ∷ token.Mark marks.OpenBrace ∷ closings 17, seventeen_is, refl);
  too_deep = λ b. let deep = no_state_fits b.0 b.1 b.4 in omega (arith, deep, b.3);
}
