-- The bodies that are spelled are read again.
use Rattle.std.proofs.Common.{◌≡◌, inl, inr, ℕ, zero, suc, Bool, true, false, List, [], ◌∷◌, Option, Some, None, Ok, refl, sym, ap, subst, ◌∙◌}
use Rattle.std.specs.Prelude.{nat_le, IsTrue, ⊤}
use Rattle.std.specs.List.{list_all}
use Rattle.std.proofs.lemmas.Bool.{leb-true}
use Rattle.rsml_syntax.specs.grammar.Grammar as put
use Rattle.rsml_syntax.specs.grammar.Layout.{is_the_word}
use Rattle.rsml_syntax.specs.text.Names.{Name}
use Rattle.rsml_syntax.specs.text.Tokens.{Tokens}
use Rattle.rsml_syntax.specs.grammar.WellFormed.{bus_has_items, transition_has_items, body_has_items, depth_of}
use Rattle.rsml_syntax.specs.declared.token.Mark.TheVariants as marks
use Rattle.rsml_syntax.specs.declared.token.Token.{Token}
use Rattle.rsml_syntax.specs.declared.token.Word.TheVariants as words
use Rattle.rsml_syntax.specs.declared.syntax.Amount.{Amount}
use Rattle.rsml_syntax.specs.declared.syntax.Body.{Body, Basic, One, All}
use Rattle.rsml_syntax.specs.declared.syntax.Bus.{Bus}
use Rattle.rsml_syntax.specs.declared.syntax.StateDecl.{StateDecl}
use Rattle.rsml_syntax.specs.declared.syntax.Transition.{Transition}
use Rattle.rsml_parser.specs.Parsers.{Parser, and_then, first, sees_word, word, mark, name, many, until}
use Rattle.rsml_parser.specs.States.{bus, transition, opens_state, child, body_of, no_children, children, body}
use Rattle.rsml_parser.proofs.BodyForms.{shrinks_child}
use Rattle.rsml_parser.proofs.BodyLists.{kind, good_body, good_state, in_all, in_one, no_depth, tokens_of_all, tokens_of_one}
use Rattle.rsml_parser.proofs.MentionForms.{bracketed_amount_again}
use Rattle.rsml_parser.proofs.Outcomes.{takes_second}
use Rattle.rsml_parser.proofs.SpelledLists.{many_again, until_again}
use Rattle.rsml_parser.proofs.Spelling.{halves}
use Rattle.rsml_parser.proofs.StateForms.{item_bus, bus_again, item_transition, transition_again, transition_begins}

-- bodies that nest at most so many states are read again
pub record BodiesAgain (inner : Parser Body) (most : ℕ) : Type 0 where
  pub again : (b : Body) (rest : Tokens) → IsTrue (good_body most b) → inner (put.body b rest) ≡ Ok (b, rest)

pub record ChildrenAgain (inner : Parser (List StateDecl)) (most : ℕ) : Type 0 where
  pub again : (cs : List StateDecl) (rest : Tokens) → IsTrue (list_all (good_state most) cs) → first opens_state rest ≡ false → inner (put.each put.state cs rest) ≡ Ok (cs, rest)

child_again : (most : ℕ) (inner : Parser Body) → BodiesAgain inner most → (c : StateDecl) (rest : Tokens) → IsTrue (good_state most c) → child inner (put.state c rest) ≡ Ok (c, rest)
unfolding and_then word name
child_again most inner is c rest good = at c.size
  where
    at : (size : Option Amount) → child inner (put.word (put.state_word size) (put.name c.name (put.size size (put.body c.body rest))))
        ≡ Ok ((let s : StateDecl = record { name = c.name; size = size; body = c.body } in s), rest)
    at None = rw (is.again c.body rest good) refl
    at (Some a) = rw (bracketed_amount_again a (put.body c.body rest), is.again c.body rest good) refl

child_begins : (c : StateDecl) (rest : Tokens) → first opens_state (put.state c rest) ≡ true
child_begins c rest = at c.size
  where
    at : (size : Option Amount) → first opens_state (put.word (put.state_word size) (put.name c.name (put.size size (put.body c.body rest)))) ≡ true
    at None = refl
    at (Some a) = refl

-- What comes after the children of a state, and after its buses.

after_buses : (ts : List Transition) (rest : Tokens) → (test : Token → Bool) → ((target : Option (List Name)) (source : Name) (more : Tokens) → first test (put.movement source target more) ≡ false) → first test (put.mark marks.CloseBrace rest) ≡ false →
    first test (put.each put.transition ts (put.mark marks.CloseBrace rest)) ≡ false
after_buses [] rest test moves ends = ends
after_buses (t ∷ ts) rest test moves ends = moves t.target t.source _

no_bus : (target : Option (List Name)) (source : Name) (more : Tokens) → sees_word words.Bus (put.movement source target more) ≡ false
no_bus None source more = refl
no_bus (Some t) source more = refl

no_state : (target : Option (List Name)) (source : Name) (more : Tokens) → first opens_state (put.movement source target more) ≡ false
no_state None source more = refl
no_state (Some t) source more = refl

after_children : (bs : List Bus) (ts : List Transition) (rest : Tokens) → first opens_state (put.each put.bus bs (put.each put.transition ts (put.mark marks.CloseBrace rest))) ≡ false
after_children [] ts rest = after_buses ts rest opens_state no_state refl
after_children (b ∷ bs) ts rest = refl

-- A body.

buses_again : (bs : List Bus) (ts : List Transition) (rest : Tokens) → IsTrue (list_all bus_has_items bs) → let more = put.each put.transition ts (put.mark marks.CloseBrace rest) in
    many (sees_word words.Bus) bus (put.each put.bus bs more) ≡ Ok (bs, more)
buses_again bs ts rest good =
    many_again (is_the_word words.Bus) bus put.bus bus_has_items (λ _. ⊤) (λ b r is _. bus_again b r is) (λ _ _ _. refl) (λ _ _ _. tt) item_bus.shrinks bs _ good tt (after_buses ts rest (is_the_word words.Bus) no_bus refl)

transitions_again : (ts : List Transition) (rest : Tokens) → IsTrue (list_all transition_has_items ts) → until marks.CloseBrace transition (put.each put.transition ts (put.mark marks.CloseBrace rest)) ≡ Ok (ts, rest)
transitions_again ts rest good =
    until_again marks.CloseBrace transition put.transition transition_has_items (λ _. ⊤) (λ t r is _. transition_again t r is) (λ t r _. transition_begins t r) (λ _ _ _. tt) (λ _. tt) item_transition.shrinks ts rest good

module _ (most : ℕ) (inner : Parser (List StateDecl)) (is : ChildrenAgain inner most) where
  one_again : (n : Name) (cs : List StateDecl) (bs : List Bus) (ts : List Transition) (rest : Tokens) → IsTrue (good_body (suc most) (One n cs bs ts)) → body_of inner (put.body (One n cs bs ts) rest) ≡ Ok (One n cs bs ts, rest)
  unfolding and_then word mark name
  one_again n cs bs ts rest good =
      let parts = in_one most n cs bs ts good in
      ap (body_of inner) (tokens_of_one n cs bs ts rest)
      ∙ rw (is.again cs (put.each put.bus bs (put.each put.transition ts (put.mark marks.CloseBrace rest))) parts.0 (after_children bs ts rest), buses_again bs ts rest parts.1, transitions_again ts rest parts.2) refl

  all_again : (cs : List StateDecl) (rest : Tokens) → IsTrue (good_body (suc most) (All cs)) → body_of inner (put.body (All cs) rest) ≡ Ok (All cs, rest)
  unfolding and_then word mark
  all_again cs rest good = ap (body_of inner) (tokens_of_all cs rest) ∙ rw (is.again cs (put.mark marks.CloseBrace rest) (in_all most cs good) refl) refl

  basic_again : (rest : Tokens) → body_of inner (put.body Basic rest) ≡ Ok (Basic, rest)
  unfolding and_then mark
  basic_again rest = refl

  abbrev Again : Body → Type 0
  Again b = (rest : Tokens) → IsTrue (good_body (suc most) b) → body_of inner (put.body b rest) ≡ Ok (b, rest)

  body_of_again : BodiesAgain (body_of inner) (suc most)
  body_of_again = record {
    again = λ b rest good. elim (kind b) [
      | inl e ↦ subst Again (sym e) (λ rest good. basic_again rest) rest good
      | inr (inl e) ↦ subst Again (sym e.4) (one_again e.0 e.1 e.2 e.3) rest good
      | inr (inr e) ↦ subst Again (sym e.1) (all_again e.0) rest good
    ];
  }

-- Children, and bodies.

no_children_again : ChildrenAgain no_children 0
no_children_again = record { again = again }
  where
    again : (cs : List StateDecl) (rest : Tokens) → IsTrue (list_all (good_state 0) cs) → first opens_state rest ≡ false → no_children (put.each put.state cs rest) ≡ Ok (cs, rest)
    again [] rest good free = takes_second (first opens_state rest) _ _ free
    again (c ∷ cs) rest good free =
        let one = halves (good_state 0 c) (list_all (good_state 0) cs) good in
        absurd (no_depth c.body (leb-true (depth_of c.body) 0 (halves (body_has_items c.body) (nat_le (depth_of c.body) 0) one.0).1))

pub children_again : (room : ℕ) → ChildrenAgain (children room) room
unfolding children
children_again zero = no_children_again
children_again (suc room) =
    let inner = body_of_again room (children room) (children_again room) in
    record {
      again = λ cs rest good free. many_again opens_state (child (body_of (children room))) put.state (good_state (suc room)) (λ _. ⊤) (λ c r is _. child_again (suc room) (body_of (children room)) inner c r is) (λ c r _. child_begins c r) (λ _ _ _. tt)
          (shrinks_child room) cs rest good tt free;
    }

pub body_again : (room : ℕ) → BodiesAgain (body room) (suc room)
body_again room = body_of_again room (children room) (children_again room)
