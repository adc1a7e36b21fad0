-- The braces that are open where a state too many opens.
use Rattle.std.proofs.Common.{◌≡◌, inl, inr, ℕ, zero, suc, ◌+◌, Bool, true, false, List, [], ◌∷◌, ◌++◌, length, Ok, Err, refl, sym, ap, ◌∙◌, subst, append_assoc, arith}
use Rattle.std.specs.Prelude.{IsTrue}
use Rattle.std.specs.List.{fold}
use Rattle.rsml_syntax.specs.grammar.Layout.{open_after, is_mark, is_the_word}
use Rattle.rsml_syntax.specs.text.Tokens.{Tokens}
use Rattle.rsml_syntax.specs.declared.token.Mark.{Mark}
use Rattle.rsml_syntax.specs.declared.token.Mark.TheVariants as marks
use Rattle.rsml_syntax.specs.declared.token.Token.TheVariants as token
use Rattle.rsml_syntax.specs.declared.token.Word.{Word}
use Rattle.rsml_syntax.specs.declared.token.Word.TheVariants as words
use Rattle.rsml_syntax.specs.declared.syntax.Body.{Body}
use Rattle.rsml_syntax.specs.declared.syntax.StateDecl.{StateDecl}
use Rattle.rsml_parser.specs.Claims.{whole_claims}
use Rattle.rsml_parser.specs.Declarations.{case_of, answer, send_case, enumeration, range, constant, input, event, macro_table, function, receive, send, declaration}
use Rattle.rsml_parser.specs.Mentions.{minus, signed, amount, bracketed_amount, size, index, indexed, mention, initial}
use Rattle.rsml_parser.specs.Parsers.{Parser, ◌>>=◌, pure, choose, first, of_first, word, mark, name, seen_name, number, seen_number, end, many_from, many, and_more, separated, until, in_parentheses}
use Rattle.rsml_parser.specs.Phrases.{simple, quantified, phrase}
use Rattle.rsml_parser.specs.States.{bus, movement, raises, transition, opens_state, child, body_of, no_children, children, whole}
use Rattle.rsml_parser.specs.Sums.{operand, first_term, later_term, sum, relation}
use Rattle.rsml_parser.specs.Tables.{cell, row, table, when_guard}
use Rattle.rsml_parser.proofs.Leaves.{form_word, form_mark, form_name, form_number, found_err}
use Rattle.rsml_parser.proofs.Outcomes.{same_ok, same_err, bind_ok, bind_err, chosen, cancel}

-- how many braces are open after some tokens, of those that are open before them
abbrev pub after : ℕ → Tokens → ℕ
after level ts = fold open_after level ts

after_append : (level : ℕ) (xs ys : Tokens) → after level (xs ++ ys) ≡ after (after level xs) ys
after_append level [] ys = refl
after_append level (x ∷ xs) ys = after_append (open_after level x) xs ys

-- These tokens are taken, and so many braces are open then.
pub record Taken (ts rest : Tokens) (from to : ℕ) : Type 0 where
  pub front : Tokens
  pub split : ts ≡ front ++ rest
  pub level : after from front ≡ to

-- Where `from` braces are open, the parser goes on to where `to` are; and a state opens too many where `deep` are.
pub record Braces {A : Type 0} (p : Parser A) (from to deep : ℕ) : Type 0 where
  pub takes : (ts : Tokens) (x : A) (rest : Tokens) → p ts ≡ Ok (x, rest) → Taken ts rest from to
  pub stops : (ts rest : Tokens) → p ts ≡ Err (true, rest) → Taken ts rest from deep × IsTrue (first opens_state rest)

taken_more : (ts mid rest : Tokens) (from between to : ℕ) → Taken ts mid from between → Taken mid rest between to → Taken ts rest from to
taken_more ts mid rest from between to a b = record {
  front = a.front ++ b.front;
  split = a.split ∙ ap (λ (l : Tokens). a.front ++ l) b.split ∙ sym (append_assoc a.front b.front rest);
  level = after_append from a.front b.front ∙ ap (λ n. after n b.front) a.level ∙ b.level;
}

-- The ways to put parsers together.

bind : {A B : Type 0} {p : Parser A} {f : A → Parser B} {from between to deep : ℕ} → Braces p from between deep → ((x : A) → Braces (f x) between to deep) → Braces (p >>= f) from to deep
bind {A} {B} {p} {f} {from} {between} {to} {deep} one two = record {
  takes = λ ts y rest h. let e = bind_ok (p ts) f (y, rest) h in
      taken_more ts e.0.1 rest from between to (one.takes ts e.0.0 e.0.1 e.1) ((two e.0.0).takes e.0.1 y rest e.2);
  stops = λ ts rest h. elim (bind_err (p ts) f (true, rest) h) [
    | inl e ↦ one.stops ts rest e
    | inr e ↦ let s = (two e.0.0).stops e.0.1 rest e.2 in (taken_more ts e.0.1 rest from between deep (one.takes ts e.0.0 e.0.1 e.1) s.0, s.1)
  ];
}

done : {A : Type 0} (x : A) {level deep : ℕ} → Braces (pure x) level level deep
done x {level} {deep} = record {
  takes = λ ts y rest h. record { front = []; split = (same_ok x y ts rest h).1; level = refl };
  stops = λ ts rest h. absurd cc;
}

either : {A : Type 0} (test : Tokens → Bool) {p q : Parser A} {from to deep : ℕ} → Braces p from to deep → Braces q from to deep → Braces (choose test p q) from to deep
either {A} test {p} {q} one two = record {
  takes = λ ts x rest h. elim (chosen (test ts) (p ts) (q ts) (Ok (x, rest)) h) [ inl e ↦ one.takes ts x rest e.1 | inr e ↦ two.takes ts x rest e.1 ];
  stops = λ ts rest h. elim (chosen (test ts) (p ts) (q ts) (Err (true, rest)) h) [ inl e ↦ one.stops ts rest e.1 | inr e ↦ two.stops ts rest e.1 ];
}

-- One token.

not_deep : (k : Bool) → k ≡ true → k ≡ false → ⊥
not_deep k t f = cc

of_word : (w : Word) {level deep : ℕ} → Braces (word w) level level deep
unfolding word
of_word w = record {
  takes = λ ts x rest h. record { front = token.Word w ∷ []; split = (form_word w).takes false ts x rest h; level = refl };
  stops = λ ts rest h. elim (chosen (first (is_the_word w) ts) _ _ _ h) [ inl e ↦ absurd (let n = e.1 in cc) | inr e ↦ absurd (let n = (same_err false true ts rest e.1).0 in cc) ];
}

of_mark : (m : Mark) {level deep : ℕ} → Braces (mark m) level (open_after level (token.Mark m)) deep
unfolding mark
of_mark m = record {
  takes = λ ts x rest h. record { front = token.Mark m ∷ []; split = (form_mark m).takes false ts x rest h; level = refl };
  stops = λ ts rest h. elim (chosen (first (is_mark m) ts) _ _ _ h) [ inl e ↦ absurd (let n = e.1 in cc) | inr e ↦ absurd (let n = (same_err false true ts rest e.1).0 in cc) ];
}

of_close : {level deep : ℕ} → Braces (mark marks.CloseBrace) (level + 1) level deep
of_close {level} {deep} = subst (λ n. Braces (mark marks.CloseBrace) (level + 1) n deep) (omega arith) (of_mark marks.CloseBrace {level = level + 1} {deep = deep})

of_name : {level deep : ℕ} → Braces name level level deep
unfolding name
of_name = record {
  takes = λ ts x rest h. record { front = token.Name x ∷ []; split = form_name.takes false ts x rest h; level = refl };
  stops = λ ts rest h. absurd (let n = (found_err (of_first seen_name ts) ts true rest h).1 in cc);
}

of_number : {level deep : ℕ} → Braces number level level deep
unfolding number
of_number = record {
  takes = λ ts x rest h. record { front = token.Number x ∷ []; split = form_number.takes false ts x rest h; level = refl };
  stops = λ ts rest h. absurd (let n = (found_err (of_first seen_number ts) ts true rest h).1 in cc);
}

of_end : {level deep : ℕ} → Braces end level level deep
unfolding end
of_end {level} {deep} = record { takes = takes; stops = stops }
  where
    takes : (ts : Tokens) (x : Unit {0}) (rest : Tokens) → end ts ≡ Ok (x, rest) → Taken ts rest level level
    takes [] x rest h = record { front = []; split = (same_ok tt x [] rest h).1; level = refl }
    takes (t ∷ ts) x rest h = absurd cc

    stops : (ts rest : Tokens) → end ts ≡ Err (true, rest) → Taken ts rest level deep × IsTrue (first opens_state rest)
    stops [] rest h = absurd cc
    stops (t ∷ ts) rest h = absurd (let n = (same_err false true (t ∷ ts) rest h).0 in cc)

-- Lists.

from_many : {A : Type 0} (test : Tokens → Bool) {item : Parser A} {level deep : ℕ} → Braces item level level deep → (n : ℕ) → Braces (many_from test item n) level level deep
unfolding many_from
from_many test one zero = done []
from_many test one (suc n) = either test (bind one (λ x. bind (from_many test one n) (λ xs. done (x ∷ xs)))) (done [])

of_many : {A : Type 0} (test : Tokens → Bool) {item : Parser A} {level deep : ℕ} → Braces item level level deep → Braces (many test item) level level deep
unfolding many
of_many test one = record { takes = λ ts. (from_many test one (length ts)).takes ts; stops = λ ts. (from_many test one (length ts)).stops ts }

of_more : {A : Type 0} (test : Tokens → Bool) (found : List A) {item : Parser A} {level deep : ℕ} → Braces item level level deep → Braces (and_more test item found) level level deep
unfolding and_more
of_more test found one = bind (of_many test one) (λ more. done _)

of_separated : {A : Type 0} (m : Mark) {item : Parser A} {level deep : ℕ} → open_after level (token.Mark m) ≡ level → Braces item level level deep → Braces (separated m item) level level deep
of_separated m {item} {level} {deep} same one =
    bind one (λ x. bind (of_many _ (bind (subst (λ n. Braces (mark m) level n deep) same (of_mark m)) (λ _. one))) (λ xs. done (x ∷ xs)))

of_until : {A : Type 0} (m : Mark) {item : Parser A} {level to deep : ℕ} → Braces (mark m) level to deep → Braces item level level deep → Braces (until m item) level to deep
of_until m closes one = bind (of_many _ one) (λ xs. bind closes (λ _. done xs))

of_parentheses : {A : Type 0} {item : Parser A} {level deep : ℕ} → Braces item level level deep → Braces (in_parentheses item) level level deep
of_parentheses one = bind (of_mark marks.OpenParen) (λ _. either _ (bind (of_mark marks.CloseParen) (λ _. done []))
    (bind (of_separated marks.Comma refl one) (λ xs. bind (of_mark marks.CloseParen) (λ _. done xs))))

-- The grammar.

module _ {level deep : ℕ} where
  of_minus : Braces minus level level deep
  of_minus = either _ (bind (of_mark marks.Minus) (λ _. done true)) (done false)

  of_signed : Braces signed level level deep
  of_signed = bind of_minus (λ m. bind of_number (λ n. done _))

  of_amount : Braces amount level level deep
  of_amount = either _ (bind of_number (λ n. done _)) (bind of_name (λ n. done _))

  of_bracketed_amount : Braces bracketed_amount level level deep
  of_bracketed_amount = bind (of_mark marks.OpenBracket) (λ _. bind of_amount (λ a. bind (of_mark marks.CloseBracket) (λ _. done a)))

  of_size : Braces size level level deep
  of_size = either _ (bind of_bracketed_amount (λ a. done _)) (done _)

  of_index : Braces index level level deep
  of_index = either _ (bind of_number (λ n. done _)) (either _ (bind of_name (λ n. done _)) (bind (of_word words.This) (λ _. done _)))

  of_indexed : Braces indexed level level deep
  of_indexed = either _ (bind (bind (of_mark marks.OpenBracket) (λ _. bind of_index (λ i. bind (of_mark marks.CloseBracket) (λ _. done i)))) (λ i. done _)) (done _)

  of_mention : Braces mention level level deep
  of_mention = bind of_name (λ n. bind of_indexed (λ i. done _))

  of_initial : Braces initial level level deep
  of_initial = either _ (bind of_name (λ n. done _)) (bind of_signed (λ s. done _))

  of_operand : Braces operand level level deep
  of_operand = either _ (bind of_number (λ n. done _)) (either _ (bind (bind (of_word words.Previous) (λ _. of_mention)) (λ m. done _)) (bind of_mention (λ m. done _)))

  of_first_term : Braces first_term level level deep
  of_first_term = bind of_minus (λ m. bind of_operand (λ o. done _))

  of_later_term : Braces later_term level level deep
  of_later_term = bind (either _ (bind (of_mark marks.Plus) (λ _. done false)) (bind (of_mark marks.Minus) (λ _. done true))) (λ m. bind of_operand (λ o. done _))

  of_sum : Braces sum level level deep
  of_sum = bind of_first_term (λ t. bind (of_more _ _ of_later_term) (λ ts. done _))

  of_relation : Braces relation level level deep
  of_relation = either _ (bind (of_mark marks.Equal) (λ _. done _)) (either _ (bind (of_mark marks.NotEqual) (λ _. done _))
      (either _ (bind (of_mark marks.Less) (λ _. done _)) (either _ (bind (of_mark marks.LessEqual) (λ _. done _))
      (either _ (bind (of_mark marks.Greater) (λ _. done _)) (bind (of_mark marks.GreaterEqual) (λ _. done _))))))

  of_simple : Braces simple level level deep
  of_simple = either _ (bind (bind (of_word words.In) (λ _. of_separated marks.Dot refl of_mention)) (λ p. done _))
      (either _ (bind (bind (of_word words.Macro) (λ _. of_mention)) (λ m. done _))
      (either _ (bind (of_word words.Function) (λ _. bind of_mention (λ f. bind of_relation (λ r. bind of_sum (λ s. done _)))))
      (bind of_sum (λ l. bind of_relation (λ r. bind of_sum (λ s. done _))))))

  of_quantified : Braces quantified level level deep
  of_quantified = bind of_name (λ v. bind (of_word words.Of) (λ _. bind of_amount (λ b. bind (of_mark marks.Colon) (λ _. bind of_simple (λ s. done _)))))

  of_phrase : Braces phrase level level deep
  of_phrase = either _ (bind (bind (of_word words.Any) (λ _. of_quantified)) (λ q. done _))
      (either _ (bind (bind (of_word words.Every) (λ _. of_quantified)) (λ q. done _)) (bind of_simple (λ s. done _)))

  of_cell : Braces cell level level deep
  of_cell = either _ (bind (of_word words.T) (λ _. done _)) (either _ (bind (of_word words.F) (λ _. done _)) (bind (of_mark marks.Dot) (λ _. done _)))

  of_row : Braces row level level deep
  of_row = bind of_phrase (λ p. bind (of_mark marks.Bar) (λ _. bind (of_until marks.Semicolon (of_mark marks.Semicolon) of_cell) (λ cs. done _)))

of_table : {level deep : ℕ} → Braces table level level deep
of_table = bind (of_mark marks.OpenBrace) (λ _. of_until marks.CloseBrace of_close of_row)

module _ {level deep : ℕ} where
  of_when_guard : Braces when_guard level level deep
  of_when_guard = bind (of_word words.When) (λ _. either _ (bind (of_word words.Always) (λ _. done _)) (bind of_table (λ rows. done _)))

  of_case : Braces case_of level level deep
  of_case = bind of_sum (λ v. bind of_when_guard (λ g. bind (of_mark marks.Semicolon) (λ _. done _)))

  of_answer : Braces answer level level deep
  of_answer = either _ (bind (of_word words.Quiet) (λ _. done _))
      (bind (of_parentheses (either _ (bind (bind (of_word words.Function) (λ _. of_mention)) (λ f. done _)) (bind of_sum (λ s. done _)))) (λ vs. done _))

  of_send_case : Braces send_case level level deep
  of_send_case = bind (of_word words.On) (λ _. bind of_mention (λ m. bind of_when_guard (λ g. bind of_answer (λ a. bind (of_mark marks.Semicolon) (λ _. done _)))))

module _ {level deep : ℕ} where
  of_enumeration : Braces enumeration level level deep
  of_enumeration = bind (of_word words.Enumeration) (λ _. bind of_name (λ n. bind (of_mark marks.OpenBrace) (λ _. bind (of_separated marks.Comma refl of_name) (λ vs. bind of_close (λ _. done _)))))

  of_range : Braces range level level deep
  of_range = bind (of_word words.Range) (λ _. bind of_name (λ n. bind of_signed (λ l. bind (of_mark marks.DotDot) (λ _. bind of_signed (λ h. bind (of_mark marks.Semicolon) (λ _. done _))))))

  of_constant : Braces constant level level deep
  of_constant = bind (of_word words.Constant) (λ _. bind of_name (λ n. bind (of_mark marks.Equal) (λ _. bind of_signed (λ v. bind (of_mark marks.Semicolon) (λ _. done _)))))

  of_input : Braces input level level deep
  of_input = bind (of_word words.Input) (λ _. bind of_name (λ n. bind of_size (λ s. bind (of_mark marks.Colon) (λ _. bind of_name (λ k.
      bind (of_mark marks.Equal) (λ _. bind of_initial (λ i. bind (of_mark marks.Semicolon) (λ _. done _))))))))

  of_event : Braces event level level deep
  of_event = bind (of_word words.Event) (λ _. bind of_name (λ n. bind of_size (λ s. bind (of_mark marks.Semicolon) (λ _. done _))))

  of_macro_table : Braces macro_table level level deep
  of_macro_table = bind (of_word words.Macro) (λ _. bind of_name (λ n. bind of_size (λ s. bind of_table (λ rows. done _))))

  of_function_cases : Braces function level level deep
  of_function_cases = bind (of_word words.Function) (λ _. bind of_name (λ n. bind of_size (λ s. bind (of_mark marks.OpenBrace) (λ _. bind (of_until marks.CloseBrace of_close of_case) (λ cases. done _)))))

  of_receive : Braces receive level level deep
  of_receive = bind (of_word words.Receive) (λ _. bind of_name (λ n. bind of_size (λ s. bind (of_parentheses of_mention) (λ is.
      bind (of_word words.Raise) (λ _. bind of_mention (λ r. bind (of_mark marks.Semicolon) (λ _. done _)))))))

  of_send : Braces send level level deep
  of_send = bind (of_word words.Send) (λ _. bind of_name (λ n. bind of_size (λ s. bind (of_parentheses of_name) (λ fs.
      bind (of_mark marks.OpenBrace) (λ _. bind (of_until marks.CloseBrace of_close of_send_case) (λ cases. done _))))))

  of_declaration : Braces declaration level level deep
  of_declaration = either _ of_enumeration (either _ of_range (either _ of_constant (either _ of_input (either _ of_event (either _ of_macro_table (either _ of_function_cases (either _ of_receive of_send)))))))

  of_bus : Braces bus level level deep
  of_bus = bind (of_word words.Bus) (λ _. bind of_name (λ n. bind (of_mark marks.OpenBrace) (λ _. bind (of_separated marks.Comma refl of_name) (λ ms. bind of_close (λ _. done _)))))

  of_movement : Braces movement level level deep
  of_movement = either _ (bind (of_word words.Move) (λ _. bind of_name (λ s. bind (of_mark marks.Arrow) (λ _. bind (of_separated marks.Dot refl of_name) (λ t. done _)))))
      (bind (bind (of_word words.Stay) (λ _. of_name)) (λ s. done _))

  of_raises : Braces raises level level deep
  of_raises = either _ (bind (of_word words.Raise) (λ _. of_separated marks.Comma refl of_mention)) (done _)

  of_transition : Braces transition level level deep
  of_transition = bind of_movement (λ w. bind (of_word words.On) (λ _. bind of_mention (λ m. bind of_when_guard (λ g. bind of_raises (λ rs. bind (of_mark marks.Semicolon) (λ _. done _))))))

-- States.

of_child : {inner : Parser Body} {level deep : ℕ} → Braces inner level level deep → Braces (child inner) level level deep
of_child inside = either _
    (bind (of_word words.Array) (λ _. bind of_name (λ n. bind of_bracketed_amount (λ s. bind inside (λ b. done _)))))
    (bind (of_word words.State) (λ _. bind of_name (λ n. bind inside (λ b. done _))))

of_body_of : {inner : Parser (List StateDecl)} {level deep : ℕ} → Braces inner (level + 1) (level + 1) deep → Braces (body_of inner) level level deep
of_body_of inside = either _ (bind (of_mark marks.Semicolon) (λ _. done _)) (either _
    (bind (of_word words.One) (λ _. bind (of_mark marks.OpenBrace) (λ _. bind (of_word words.Default) (λ _. bind of_name (λ n. bind (of_mark marks.Semicolon) (λ _.
    bind inside (λ cs. bind (of_many _ of_bus) (λ bs. bind (of_until marks.CloseBrace of_close of_transition) (λ ts. done _)))))))))
    (bind (of_word words.All) (λ _. bind (of_mark marks.OpenBrace) (λ _. bind inside (λ cs. bind of_close (λ _. done _))))))

of_no_children : {level : ℕ} → Braces no_children level level level
of_no_children = record {
  takes = λ ts x rest h. elim (chosen (first opens_state ts) _ _ _ h) [
    | inl e ↦ absurd (let n = e.1 in cc)
    | inr e ↦ record { front = []; split = (same_ok [] x ts rest e.1).1; level = refl }
  ];
  stops = λ ts rest h. elim (chosen (first opens_state ts) _ _ _ h) [
    | inl e ↦ let same = (same_err true true ts rest e.1).1 in (record { front = []; split = same; level = refl }, sym (ap (first opens_state) same) ∙ e.0)
    | inr e ↦ absurd (let n = e.1 in cc)
  ];
}

of_children : (room level deep : ℕ) → deep ≡ level + room → Braces (children room) level level deep
unfolding children
of_children zero level deep is = let same : level ≡ deep = omega (arith, is) in subst (λ n. Braces no_children level level n) same of_no_children
of_children (suc room) level deep is = of_many _ (of_child (of_body_of (of_children room (level + 1) deep (omega (arith, is)))))

pub of_whole : (room deep : ℕ) → deep ≡ room + 1 → Braces (whole room) 0 0 deep
unfolding whole
of_whole room deep is = bind
    (bind (of_word words.Specification) (λ _. bind of_name (λ n. bind (of_mark marks.Semicolon) (λ _. bind (of_many _ of_declaration) (λ ds.
    bind (of_word words.State) (λ _. bind of_name (λ top. bind (of_body_of (of_children room 1 deep (omega (arith, is)))) (λ b. done _)))))))) (λ s. bind of_end (λ _. done s))

-- Claims.

of_claims : {level deep : ℕ} → Braces whole_claims level level deep
unfolding whole_claims
of_claims = bind (of_many _ (bind (of_word words.Macro) (λ _. bind of_name (λ n. bind of_table (λ rows. done _))))) (λ cs. bind of_end (λ _. done cs))

-- no state opens in claims, so none opens too many, whatever the number of braces that are open there
pub none_deep : (ts rest : Tokens) → whole_claims ts ≡ Err (true, rest) → ⊥
none_deep ts rest h =
    let one = ((of_claims {level = 0} {deep = 0}).stops ts rest h).0 in
    let two = ((of_claims {level = 0} {deep = 1}).stops ts rest h).0 in
    let front = cancel one.front two.front rest (sym one.split ∙ two.split) in
    let level : 0 ≡ 1 = sym one.level ∙ ap (after 0) front ∙ two.level in
    omega (arith, level)
