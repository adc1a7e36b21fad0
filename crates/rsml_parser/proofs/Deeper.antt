-- More room for nested states: what is read stays, and so does a fault of syntax.
use Rattle.std.proofs.Common.{◌≡◌, inl, inr, ℕ, zero, suc, ◌≤◌, Bool, true, false, List, [], ◌∷◌, length, Some, None, Ok, Err, sym, subst, ◌∙◌, arith}
use Rattle.std.proofs.Math.Nat.{le-suc_iff}
use Rattle.rsml_syntax.specs.grammar.Layout.{is_the_word}
use Rattle.rsml_syntax.specs.text.Tokens.{Tokens}
use Rattle.rsml_syntax.specs.declared.token.Mark.TheVariants as marks
use Rattle.rsml_syntax.specs.declared.token.Token.{Token}
use Rattle.rsml_syntax.specs.declared.token.Word.TheVariants as words
use Rattle.rsml_syntax.specs.declared.syntax.Body.{Body, Basic, One, All}
use Rattle.rsml_syntax.specs.declared.syntax.StateDecl.{StateDecl}
use Rattle.rsml_parser.specs.Declarations.{declaration}
use Rattle.rsml_parser.specs.Mentions.{bracketed_amount}
use Rattle.rsml_parser.specs.Parsers.{Parser, ◌>>=◌, ◌>>◌, pure, choose, first, word, mark, name, end, many_from, many, until}
use Rattle.rsml_parser.specs.States.{bus, transition, opens_state, child, body_of, no_children, children, opens_declaration, whole}
use Rattle.rsml_parser.proofs.Outcomes.{same_err, bind_ok, bind_err, then_ok, then_err, chosen, takes_first, takes_second}

-- what q reads is what p reads, but where p has too little room
pub record Deeper {A : Type 0} (p q : Parser A) : Type 0 where
  pub ok : (ts : Tokens) (y : A × Tokens) → p ts ≡ Ok y → q ts ≡ Ok y
  pub err : (ts stop : Tokens) → p ts ≡ Err (false, stop) → q ts ≡ Err (false, stop)

same : {A : Type 0} (p : Parser A) → Deeper p p
same p = record { ok = λ ts y h. h; err = λ ts stop h. h }

deeper_bind : {A B : Type 0} {p q : Parser A} {f g : A → Parser B} → Deeper p q → ((x : A) → Deeper (f x) (g x)) → Deeper (p >>= f) (q >>= g)
deeper_bind {A} {B} {p} {q} {f} {g} one two = record {
  ok = λ ts y h. let e = bind_ok (p ts) f y h in then_ok (q ts) g e.0.0 e.0.1 (one.ok ts e.0 e.1) ∙ (two e.0.0).ok e.0.1 y e.2;
  err = λ ts stop h. elim (bind_err (p ts) f (false, stop) h) [
    | inl e ↦ then_err (q ts) g (false, stop) (one.err ts stop e)
    | inr e ↦ then_ok (q ts) g e.0.0 e.0.1 (one.ok ts e.0 e.1) ∙ (two e.0.0).err e.0.1 stop e.2
  ];
}

-- the first part is the same
deeper_later : {A B : Type 0} {f g : A → Parser B} (p : Parser A) → ((x : A) → Deeper (f x) (g x)) → Deeper (p >>= f) (p >>= g)
deeper_later p two = deeper_bind (same p) two

deeper_if : {A : Type 0} {test : Token → Bool} {p q r s : Parser A} → Deeper p r → Deeper q s → Deeper (choose (first test) p q) (choose (first test) r s)
deeper_if {A} {test} {p} {q} {r} {s} one two = record {
  ok = λ ts y h. elim (chosen (first test ts) (p ts) (q ts) (Ok y) h) [
    | inl e ↦ takes_first (first test ts) (r ts) (s ts) e.0 ∙ one.ok ts y e.1
    | inr e ↦ takes_second (first test ts) (r ts) (s ts) e.0 ∙ two.ok ts y e.1
  ];
  err = λ ts stop h. elim (chosen (first test ts) (p ts) (q ts) (Err (false, stop)) h) [
    | inl e ↦ takes_first (first test ts) (r ts) (s ts) e.0 ∙ one.err ts stop e.1
    | inr e ↦ takes_second (first test ts) (r ts) (s ts) e.0 ∙ two.err ts stop e.1
  ];
}

deeper_from : {A : Type 0} {p q : Parser A} (test : Token → Bool) → Deeper p q → (n : ℕ) → Deeper (many_from (first test) p n) (many_from (first test) q n)
unfolding many_from
deeper_from test d zero = same (pure [])
deeper_from test d (suc n) = deeper_if (deeper_bind d (λ x. deeper_bind (deeper_from test d n) (λ xs. same (pure (x ∷ xs))))) (same (pure []))

deeper_many : {A : Type 0} {p q : Parser A} (test : Token → Bool) → Deeper p q → Deeper (many (first test) p) (many (first test) q)
unfolding many
deeper_many test d = record { ok = λ ts. (deeper_from test d (length ts)).ok ts; err = λ ts. (deeper_from test d (length ts)).err ts }

deeper_child : {p q : Parser Body} → Deeper p q → Deeper (child p) (child q)
deeper_child d = deeper_if
    (deeper_later (word words.Array) (λ _. deeper_later name (λ n. deeper_later bracketed_amount (λ s. deeper_bind d (λ b. same (pure (record { name = n; size = Some s; body = b })))))))
    (deeper_later (word words.State) (λ _. deeper_later name (λ n. deeper_bind d (λ b. same (pure (record { name = n; size = None; body = b }))))))

deeper_body_of : {p q : Parser (List StateDecl)} → Deeper p q → Deeper (body_of p) (body_of q)
deeper_body_of d = deeper_if (same (mark marks.Semicolon >> pure Basic)) (deeper_if
    (deeper_later (word words.One) (λ _. deeper_later (mark marks.OpenBrace) (λ _. deeper_later (word words.Default) (λ _. deeper_later name (λ n. deeper_later (mark marks.Semicolon) (λ _. deeper_bind d (λ cs.
    same (many (first (is_the_word words.Bus)) bus >>= (λ bs. until marks.CloseBrace transition >>= (λ ts. pure (One n cs bs ts)))))))))))
    (deeper_later (word words.All) (λ _. deeper_later (mark marks.OpenBrace) (λ _. deeper_bind d (λ cs. same (mark marks.CloseBrace >> pure (All cs)))))))

-- where no state opens, none is read
deeper_none : (item : Parser StateDecl) → Deeper no_children (many (first opens_state) item)
unfolding many many_from
deeper_none item = record { ok = ok; err = err }
  where
    ok : (ts : Tokens) (y : List StateDecl × Tokens) → no_children ts ≡ Ok y → many (first opens_state) item ts ≡ Ok y
    ok [] y h = h
    ok (t ∷ ts) y h = elim (chosen (opens_state t) (Err (true, t ∷ ts)) (Ok ([], t ∷ ts)) (Ok y) h) [
      | inl e ↦ absurd (let n = e.1 in cc)
      | inr e ↦ takes_second (opens_state t) _ (pure [] (t ∷ ts)) e.0 ∙ e.1
    ]

    err : (ts stop : Tokens) → no_children ts ≡ Err (false, stop) → many (first opens_state) item ts ≡ Err (false, stop)
    err ts stop h = elim (chosen (first opens_state ts) (Err (true, ts)) (Ok ([], ts)) (Err (false, stop)) h) [
      | inl e ↦ absurd (let n = (same_err true false ts stop e.1).0 in cc)
      | inr e ↦ absurd (let n = e.1 in cc)
    ]

deeper_children : (room : ℕ) → Deeper (children room) (children (suc room))
unfolding children
deeper_children zero = deeper_none (child (body_of no_children))
deeper_children (suc room) = deeper_many opens_state (deeper_child (deeper_body_of (deeper_children room)))

deeper_whole : (room : ℕ) → Deeper (whole room) (whole (suc room))
unfolding whole
deeper_whole room = deeper_bind
    (deeper_later (word words.Specification) (λ _. deeper_later name (λ n. deeper_later (mark marks.Semicolon) (λ _. deeper_later (many (first opens_declaration) declaration) (λ ds. deeper_later (word words.State) (λ _. deeper_later name (λ top.
    deeper_bind (deeper_body_of (deeper_children room)) (λ b. same (pure (record { name = n; decls = ds; top = top; body = b })))))))))) (λ s. same (end >> pure s))

pub deeper : (d e : ℕ) → d ≤ e → Deeper (whole d) (whole e)
deeper d zero le = let none : d ≡ 0 = omega arith in subst (λ n. Deeper (whole n) (whole 0)) (sym none) (same (whole 0))
deeper d (suc e) le = elim ((le-suc_iff {m = d} {n = e}).0 le) [
  | inl less ↦ let one = deeper d e less in let two = deeper_whole e in
      record { ok = λ ts y h. two.ok ts y (one.ok ts y h); err = λ ts stop h. two.err ts stop (one.err ts stop h) }
  | inr eq ↦ subst (λ n. Deeper (whole n) (whole (suc e))) (sym eq) (same (whole (suc e)))
]
