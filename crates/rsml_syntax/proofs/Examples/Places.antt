-- The places of two faults of syntax.
use Rattle.std.specs.Prelude.{◌≡◌, ℕ, zero, suc, Bool, true, false, List, [], ◌∷◌, ◌++◌, drop, Option, Some, None, codes}
use Rattle.std.proofs.Common.{refl, ap, arith}
use Rattle.unicode_ident.proofs.IdentLemmas.{is_xid_start-ascii}
use lib.Utf8.{encode}
use Rattle.rsml_syntax.specs.declared.edition.Edition.TheVariants as editions
use Rattle.rsml_syntax.specs.declared.token.Token.TheVariants as token
use Rattle.rsml_syntax.specs.declared.token.Word.{Word}
use Rattle.rsml_syntax.specs.declared.token.Word.TheVariants as words
use Rattle.rsml_syntax.specs.declared.syntax.Decl.{Decl}
use Rattle.rsml_syntax.specs.declared.syntax.Guard.{Guard}
use Rattle.rsml_syntax.specs.declared.syntax.Guard.TheVariants as guards
use Rattle.rsml_syntax.specs.declared.syntax.Index.{Index}
use Rattle.rsml_syntax.specs.declared.syntax.Transition.{Transition}
use Rattle.rsml_syntax.specs.text.Names.{Name}
use Rattle.rsml_syntax.specs.declared.token.Mark.TheVariants as marks
use Rattle.rsml_syntax.specs.declared.syntax.Spec.{Spec}
use Rattle.rsml_syntax.specs.declared.syntax.Body.{Body, Basic, One', All', Row_of-StateDecl, end_of-StateDecl, more_of-StateDecl}
use Rattle.rsml_syntax.specs.declared.syntax.Bus.{Bus}
use mathlib.Core.Former.{Count}
use Rattle.rsml_syntax.specs.declared.syntax.Decl.TheVariants as decls
use Rattle.rsml_syntax.specs.grammar.Grammar.{tokens_of, children_row, each, bus, transition, mark}
use Rattle.rsml_syntax.specs.grammar.Places.{Begins, IsSyntaxPlace}
use Rattle.rsml_syntax.specs.text.Tokens.{Tokens, IsFreeName}
use Rattle.rsml_syntax.specs.text.Words.{spelling}
use Rattle.rsml_syntax.specs.grammar.WellFormed.{WellFormed}

-- `specification A; state A one {`
abbrev pub opened : Tokens
opened = token.Word words.Specification ∷ token.Name (codes "A") ∷ token.Mark marks.Semicolon ∷ token.Word words.State ∷ token.Name (codes "A")
    ∷ token.Word words.One ∷ token.Mark marks.OpenBrace ∷ []

pub name_A : IsFreeName editions.Second (codes "A")
unfolding spelling encode
name_A = (codes "A", refl, refl, rw (is_xid_start-ascii 65 (omega arith)) refl, refl)

-- `specification A; state A one { default A; }`
abbrev pub shortest : Spec
shortest = record { name = codes "A"; decls = []; top = codes "A"; body = One' (codes "A") [] end_of-StateDecl [] [] }

shortest_is : WellFormed shortest
shortest_is = record {
  tokens = (refl, (name_A, (refl, (refl, (name_A, (refl, (refl, (refl, (name_A, (refl, (refl, refl)))))))))));
  items = refl;
}

opened_begins : Begins opened
opened_begins = (shortest, token.Word words.Default ∷ token.Name (codes "A") ∷ token.Mark marks.Semicolon ∷ token.Mark marks.CloseBrace ∷ [], shortest_is, refl)

-- the word at a place
unfoldable pub word_at : ℕ → Tokens → Option Word
word_at n [] = None
word_at zero (token.Word w ∷ ts) = Some w
word_at zero (t ∷ ts) = None
word_at (suc n) (t ∷ ts) = word_at n ts

-- a further word `state` cannot follow
no_state_follows : (s : Spec) (more : Tokens) → tokens_of s ≡ opened ++ token.Word words.State ∷ more → ⊥
unfolding word_at
no_state_follows s more e = by_body s.decls s.body e
  where
    by_body : (ds : List Decl) (b : Body) → tokens_of (record s { decls = ds; body = b }) ≡ opened ++ token.Word words.State ∷ more → ⊥
    by_body [] Basic e = absurd (cc (ap (word_at 5) e))
    by_body [] (One' first _ children buses transitions) e = absurd (cc (ap (word_at 7) e))
    by_body [] (All' _ children) e = absurd (cc (ap (word_at 5) e))
    by_body (decls.Enumeration _ _ ∷ ds) b e = absurd (cc (ap (word_at 3) e))
    by_body (decls.Range _ _ _ ∷ ds) b e = absurd (cc (ap (word_at 3) e))
    by_body (decls.Constant _ _ ∷ ds) b e = absurd (cc (ap (word_at 3) e))
    by_body (decls.Input _ _ _ _ ∷ ds) b e = absurd (cc (ap (word_at 3) e))
    by_body (decls.Event _ _ ∷ ds) b e = absurd (cc (ap (word_at 3) e))
    by_body (decls.Macro _ _ _ ∷ ds) b e = absurd (cc (ap (word_at 3) e))
    by_body (decls.Function _ _ _ ∷ ds) b e = absurd (cc (ap (word_at 3) e))
    by_body (decls.Receive _ _ _ _ ∷ ds) b e = absurd (cc (ap (word_at 3) e))
    by_body (decls.Send _ _ _ _ ∷ ds) b e = absurd (cc (ap (word_at 3) e))

-- in `specification A; state A one { state A; }` the fault is at the eighth token
one_state_without_a_default : IsSyntaxPlace (opened ++ token.Word words.State ∷ token.Name (codes "A") ∷ token.Mark marks.Semicolon ∷ token.Mark marks.CloseBrace ∷ []) 8
one_state_without_a_default = record {
  before = opened;
  rest = token.Word words.State ∷ token.Name (codes "A") ∷ token.Mark marks.Semicolon ∷ token.Mark marks.CloseBrace ∷ [];
  split = refl;
  here = refl;
  begins = opened_begins;
  stops = λ b. no_state_follows b.0 b.1 b.3;
}

name_B : IsFreeName editions.Second (codes "B")
unfolding spelling encode
name_B = (codes "B", refl, refl, rw (is_xid_start-ascii 66 (omega arith)) refl, refl)

name_E : IsFreeName editions.Second (codes "E")
unfolding spelling encode
name_E = (codes "E", refl, refl, rw (is_xid_start-ascii 69 (omega arith)) refl, refl)

-- `specification A; state A one { default B; state B; stay B on E when`
abbrev pub cut_off : Tokens
cut_off = opened ++ token.Word words.Default ∷ token.Name (codes "B") ∷ token.Mark marks.Semicolon ∷ token.Word words.State ∷ token.Name (codes "B")
    ∷ token.Mark marks.Semicolon ∷ token.Word words.Stay ∷ token.Name (codes "B") ∷ token.Word words.On ∷ token.Name (codes "E") ∷ token.Word words.When ∷ []

-- the same, and then `always; }`
abbrev pub completed : Spec
completed = record {
  name = codes "A";
  decls = [];
  top = codes "A";
  body = One' (codes "B") (tt ∷ []) (more_of-StateDecl (codes "B") None Basic end_of-StateDecl) []
      (record { source = codes "B"; target = None; trigger = record { name = codes "E"; index = None }; guard = guards.Always; raises = [] } ∷ []);
}

completed_is : WellFormed completed
completed_is = record {
  tokens = (
    refl,
    (
      name_A,
      (
        refl,
        (
          refl,
          (
            name_A,
            (
              refl,
              (
                refl,
                (
                  refl,
                  (
                    name_B,
                    (
                      refl,
                      (
                        refl,
                        (
                          name_B,
                          (
                            refl,
                            (refl, (name_B, (refl, (name_E, (refl, (refl, (refl, (refl, refl)))))))),
                          ),
                        ),
                      ),
                    ),
                  ),
                ),
              ),
            ),
          ),
        ),
      ),
    ),
  );
  items = refl;
}

cut_off_begins : Begins cut_off
cut_off_begins = (completed, token.Word words.Always ∷ token.Mark marks.Semicolon ∷ token.Mark marks.CloseBrace ∷ [], completed_is, refl)

-- whether there is a token at a place
is_there : ℕ → Tokens → Bool
is_there n [] = false
is_there zero (t ∷ ts) = true
is_there (suc n) (t ∷ ts) = is_there n ts

-- what follows the default
abbrev pub children_cut_off : Tokens
children_cut_off = token.Word words.State ∷ token.Name (codes "B") ∷ token.Mark marks.Semicolon ∷ token.Word words.Stay ∷ token.Name (codes "B")
    ∷ token.Word words.On ∷ token.Name (codes "E") ∷ token.Word words.When ∷ []

-- the buses and transitions of a state, and its end
abbrev pub inner : List Bus → List Transition → Tokens
inner bs ts = each bus bs (each transition ts (mark marks.CloseBrace []))

transition_goes_on : (t : Transition) (ts : List Transition) (target : Option (List Name)) (index : Option Index) (g : Guard) →
    inner [] (record t { target = target; trigger = record { name = t.trigger.name; index = index }; guard = g } ∷ ts) ≡ drop 3 children_cut_off → ⊥
unfolding word_at is_there
transition_goes_on t ts None None guards.Always e = absurd (cc (ap (is_there 5) e))
transition_goes_on t ts None None (guards.Table rows) e = absurd (cc (ap (is_there 5) e))
transition_goes_on t ts None (Some i) g e = absurd (cc (ap (word_at 4) e))
transition_goes_on t ts (Some target) index g e = absurd (cc (ap (word_at 0) e))

-- no children, buses and transitions end there
children_go_on : {shape : Count} (row : Row_of-StateDecl shape) (bs : List Bus) (ts : List Transition) → children_row row (inner bs ts) ≡ children_cut_off → ⊥
unfolding word_at is_there
children_go_on end_of-StateDecl [] [] e = absurd (cc (ap (word_at 0) e))
children_go_on end_of-StateDecl [] (t ∷ ts) e = by_target t.target e
  where
    by_target : (target : Option (List Name)) → inner [] (record t { target = target } ∷ ts) ≡ children_cut_off → ⊥
    by_target None e = absurd (cc (ap (word_at 0) e))
    by_target (Some path) e = absurd (cc (ap (word_at 0) e))
children_go_on end_of-StateDecl (b ∷ bs) ts e = absurd (cc (ap (word_at 0) e))
children_go_on (more_of-StateDecl n (Some a) b others) bs ts e = absurd (cc (ap (word_at 0) e))
children_go_on (more_of-StateDecl n None (One' f _ cs cbs cts) others) bs ts e = absurd (cc (ap (word_at 2) e))
children_go_on (more_of-StateDecl n None (All' _ cs) others) bs ts e = absurd (cc (ap (word_at 2) e))
children_go_on (more_of-StateDecl n None Basic others) bs ts e = later others bs ts (ap (drop 3) e)
  where
    later : {shape : Count} (row : Row_of-StateDecl shape) (bs : List Bus) (ts : List Transition) → children_row row (inner bs ts) ≡ drop 3 children_cut_off → ⊥
    later end_of-StateDecl [] [] e = absurd (cc (ap (word_at 0) e))
    later end_of-StateDecl [] (t ∷ ts) e = transition_goes_on t ts t.target t.trigger.index t.guard e
    later end_of-StateDecl (b ∷ bs) ts e = absurd (cc (ap (word_at 0) e))
    later (more_of-StateDecl n None b others) bs ts e = absurd (cc (ap (word_at 0) e))
    later (more_of-StateDecl n (Some a) b others) bs ts e = absurd (cc (ap (word_at 0) e))

-- no specification ends there
cut_off_is_none : (s : Spec) → tokens_of s ≡ cut_off → ⊥
unfolding word_at
cut_off_is_none s e = by_body s.decls s.body e
  where
    by_body : (ds : List Decl) (b : Body) → tokens_of (record s { decls = ds; body = b }) ≡ cut_off → ⊥
    by_body [] Basic e = absurd (cc (ap (word_at 5) e))
    by_body [] (All' _ children) e = absurd (cc e)
    by_body [] (One' first _ children bs ts) e = children_go_on children bs ts (ap (drop 10) e)
    by_body (decls.Enumeration _ _ ∷ ds) b e = absurd (cc (ap (word_at 3) e))
    by_body (decls.Range _ _ _ ∷ ds) b e = absurd (cc (ap (word_at 3) e))
    by_body (decls.Constant _ _ ∷ ds) b e = absurd (cc (ap (word_at 3) e))
    by_body (decls.Input _ _ _ _ ∷ ds) b e = absurd (cc (ap (word_at 3) e))
    by_body (decls.Event _ _ ∷ ds) b e = absurd (cc (ap (word_at 3) e))
    by_body (decls.Macro _ _ _ ∷ ds) b e = absurd (cc (ap (word_at 3) e))
    by_body (decls.Function _ _ _ ∷ ds) b e = absurd (cc (ap (word_at 3) e))
    by_body (decls.Receive _ _ _ _ ∷ ds) b e = absurd (cc (ap (word_at 3) e))
    by_body (decls.Send _ _ _ _ ∷ ds) b e = absurd (cc (ap (word_at 3) e))

-- in `specification A; state A one { default B; state B; stay B on E when` the fault is one past the last token
text_that_is_cut_off : IsSyntaxPlace cut_off 19
text_that_is_cut_off = record {
  before = cut_off;
  rest = [];
  split = refl;
  here = refl;
  begins = cut_off_begins;
  stops = λ s w. cut_off_is_none s;
}
