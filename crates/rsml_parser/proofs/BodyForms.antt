-- The laws of reading bodies, in which states are nested.
use Rattle.std.proofs.Common.{◌≡◌, ◌⊎◌, inl, inr, ℕ, zero, suc, Bool, true, false, List, [], ◌∷◌, ◌++◌, Some, None, Ok, Err, refl, sym, ap, subst, ◌∙◌, arith}
use Rattle.std.specs.Prelude.{◌||◌, IsTrue}
use Rattle.std.specs.List.{list_all}
use Rattle.rsml_syntax.specs.grammar.Grammar as put
use Rattle.rsml_syntax.specs.grammar.Layout.{is_the_word}
use Rattle.rsml_syntax.specs.text.Tokens.{Tokens}
use Rattle.rsml_syntax.specs.declared.token.Mark.TheVariants as marks
use Rattle.rsml_syntax.specs.declared.token.Token.{Token}
use Rattle.rsml_syntax.specs.declared.token.Token.TheVariants as token
use Rattle.rsml_syntax.specs.declared.token.Word.TheVariants as words
use Rattle.rsml_syntax.specs.declared.syntax.Amount.TheVariants as amounts
use Rattle.rsml_syntax.specs.declared.syntax.Body.{Body, Basic, One, All}
use Rattle.rsml_syntax.specs.declared.syntax.StateDecl.{StateDecl}
use Rattle.rsml_parser.specs.Parsers.{Stop, Parser, first, many}
use Rattle.rsml_parser.specs.States.{opens_state, child, body_of, no_children, children, body}
use Rattle.rsml_parser.proofs.BodyLists.{good_body, good_state, basic_is_good, all_is_good, one_is_good, tokens_of_all, tokens_of_one}
use Rattle.rsml_parser.proofs.Forms.{Fit, Shares, Spelled, Form, none_yet, past, same_first, form_bind, form_pure, form_as, form_if}
use Rattle.rsml_parser.proofs.Leaves.{is_known_word, underscore, form_word, form_mark, form_name}
use Rattle.rsml_parser.proofs.Lists.{Item, Shrinks, item_word, item_if, item_as, form_many}
use Rattle.rsml_parser.proofs.MentionForms.{form_bracketed_amount}
use Rattle.rsml_parser.proofs.Outcomes.{same_ok, same_err, chosen, takes_first, takes_second, cancel}
use Rattle.rsml_parser.proofs.Spelling.{each_good, mark_for, reads_many, reads_until}
use Rattle.rsml_parser.proofs.StateForms.{item_bus, item_transition}

-- so many states may be nested, and one more with `true`
abbrev pub slack : Bool → ℕ → ℕ
slack false n = n
slack true n = suc n

slack_suc : (k : Bool) (n : ℕ) → slack k (suc n) ≡ suc (slack k n)
slack_suc false n = refl
slack_suc true n = refl

abbrev pub Children : Parser (List StateDecl) → (Bool → ℕ) → Type 0
Children read most = Form read (λ k cs rest us. (us ≡ put.each put.state cs rest) × IsTrue (list_all (good_state (most k)) cs))

abbrev pub Bodies : Parser Body → (Bool → ℕ) → Type 0
Bodies read most = Form read (λ k b rest us. (us ≡ put.body b rest) × IsTrue (good_body (most k) b))

-- A child.

abbrev Child : Parser StateDecl → (Bool → ℕ) → Type 0
Child read most = Item read (λ k c rest us. (us ≡ put.state c rest) × IsTrue (good_state (most k) c))

item_child : (most : Bool → ℕ) (inner : Parser Body) → Bodies inner most → Child (child inner) most
item_child most inner form =
    item_if (item_as (item_word words.Array (λ _. form_bind form_name (λ n. form_bind form_bracketed_amount (λ s. form_bind form (λ b. form_pure (record { name = n; size = Some s; body = b }))))))
    (λ k x rest us s. let z = s.later.later in let b = z.later in rw (s.before, s.later.before, z.before, b.before.0, b.later.1, b.later.0) (refl, b.before.1)))
    (item_as (item_word words.State (λ _. form_bind form_name (λ n. form_bind form (λ b. form_pure (record { name = n; size = None; body = b })))))
    (λ k x rest us s. let b = s.later.later in rw (s.before, s.later.before, b.before.0, b.later.1, b.later.0) (refl, b.before.1)))

-- A body.

form_body_of : (most : Bool → ℕ) (inner : Parser (List StateDecl)) → Children inner most → Bodies (body_of inner) (λ k. suc (most k))
form_body_of most inner form =
    form_if (form_as (mark_for marks.Semicolon Basic).form (λ k b rest us s. rw (s.0, s.1) (refl, basic_is_good (most k))))
    (form_if (form_as (form_bind (form_word words.One) (λ _. form_bind (form_mark marks.OpenBrace) (λ _. form_bind (form_word words.Default) (λ _. form_bind form_name (λ n. form_bind (form_mark marks.Semicolon) (λ _.
    form_bind form (λ cs. form_bind (reads_many (is_the_word words.Bus) item_bus) (λ bs. form_bind (reads_until marks.CloseBrace item_transition) (λ ts. form_pure (One n cs bs ts))))))))))
    (λ k b rest us s. let n = s.later.later.later in let c = n.later.later in let h = c.later in let t = h.later in
    rw (s.before, s.later.before, s.later.later.before, n.before, n.later.before, c.before.0, h.before.0, t.before.0, t.later.1, t.later.0)
    (sym (tokens_of_one n.got c.got h.got t.got rest), one_is_good (most k) n.got c.got h.got t.got c.before.1 h.before.1 t.before.1)))
    (form_as (form_bind (form_word words.All) (λ _. form_bind (form_mark marks.OpenBrace) (λ _. form_bind form (λ cs. (mark_for marks.CloseBrace (All cs)).form))))
    (λ k b rest us s. let c = s.later.later in
    rw (s.before, s.later.before, c.before.0, c.later.0, c.later.1) (sym (tokens_of_all c.got rest), all_is_good (most k) c.got c.before.1))))

-- Children where no state may open.

opened : (t : Token) → opens_state t ≡ true → (t ≡ token.Word words.State) ⊎ (t ≡ token.Word words.Array)
opened t h = at (is_the_word words.State t) (is_the_word words.Array t) refl refl h
  where
    at : (a b : Bool) → is_the_word words.State t ≡ a → is_the_word words.Array t ≡ b → (a || b) ≡ true → (t ≡ token.Word words.State) ⊎ (t ≡ token.Word words.Array)
    at true b e f h = inl (is_known_word words.State t e)
    at false true e f h = inr (is_known_word words.Array t f)
    at false false e f h = absurd cc

-- the least state that such a token opens
least_state : (t : Token) (a : Tokens) → opens_state t ≡ true → (c : StateDecl) × ((rest : Tokens) → Fit rest → Spelled (λ cs rest us. (us ≡ put.each put.state cs rest) × IsTrue (list_all (good_state 1) cs)) (c ∷ []) rest (t ∷ a) a)
least_state t a h = elim (opened t h) [
  | inl e ↦ (
    record { name = 95 ∷ []; size = None; body = Basic },
    λ rest fit. record {
      us = put.word words.State (put.name (95 ∷ []) (put.mark marks.Semicolon rest));
      spelled = (refl, refl);
      shares = record { front = t ∷ []; tail = put.name (95 ∷ []) (put.mark marks.Semicolon rest); have = refl; given = ap (λ t. t ∷ put.name (95 ∷ []) (put.mark marks.Semicolon rest)) (sym e); fit = (underscore, (refl, fit)) };
    },
  )
  | inr e ↦ (
    record { name = 95 ∷ []; size = Some (amounts.Number 0); body = Basic },
    λ rest fit.
        let more = put.name (95 ∷ []) (put.size (Some (amounts.Number 0)) (put.mark marks.Semicolon rest)) in record {
          us = put.word words.Array more;
          spelled = (refl, refl);
          shares = record { front = t ∷ []; tail = more; have = refl; given = ap (λ t. t ∷ more) (sym e); fit = (underscore, (refl, (omega arith, (refl, (refl, fit))))) };
        },
  )
]

form_no_children : Children no_children (λ k. slack k 0)
form_no_children = record {
  takes = λ k ts x rest h. let e = went ts x rest h in subst (λ (cs : List StateDecl). (ts ≡ put.each put.state cs rest) × IsTrue (list_all (good_state (slack k 0)) cs)) e.0 (e.1, refl);
  lifts = λ k ts x rest h stop more s. let e = went ts x rest h in
      record { us = more; spelled = subst (λ (cs : List StateDecl). (more ≡ put.each put.state cs more) × IsTrue (list_all (good_state (slack k 0)) cs)) e.0 (refl, refl); shares = subst (λ r. Shares r stop more) (sym e.1) s };
  begins = begins;
  opens = never;
  least = ([], λ k rest fit. record { us = rest; spelled = (refl, refl); fit = fit });
  same = λ front t a b x g h. let e = went (front ++ t ∷ a) x (g ++ t ∷ a) h in
      takes_second (first opens_state (front ++ t ∷ b)) (Err (true, front ++ t ∷ b)) (Ok ([], front ++ t ∷ b)) (same_first opens_state front t b a ∙ e.2)
      ∙ ap (λ (cs : List StateDecl). Ok (cs, front ++ t ∷ b)) e.0 ∙ ap (λ (l : Tokens). Ok (x, l ++ t ∷ b)) (cancel front g (t ∷ a) e.1);
  fails = λ front t a b k g h. let e = stood (front ++ t ∷ a) k (g ++ t ∷ a) h in
      takes_first (first opens_state (front ++ t ∷ b)) (Err (true, front ++ t ∷ b)) (Ok ([], front ++ t ∷ b)) (same_first opens_state front t b a ∙ e.2)
      ∙ ap (λ (j : Bool). Err (j, front ++ t ∷ b)) e.0 ∙ ap (λ (l : Tokens). Err (k, l ++ t ∷ b)) (cancel front g (t ∷ a) e.1);
}
  where
    went : (ts : Tokens) (x : List StateDecl) (rest : Tokens) → no_children ts ≡ Ok (x, rest) → ([] ≡ x) × (ts ≡ rest) × (first opens_state ts ≡ false)
    went ts x rest h = elim (chosen (first opens_state ts) (Err (true, ts)) (Ok ([], ts)) (Ok (x, rest)) h) [
      | inl e ↦ absurd (let n = e.1 in cc)
      | inr e ↦ let n = same_ok [] x ts rest e.1 in (n.0, n.1, e.0)
    ]

    stood : (ts : Tokens) (k : Bool) (r : Tokens) → no_children ts ≡ Err (k, r) → (true ≡ k) × (ts ≡ r) × (first opens_state ts ≡ true)
    stood ts k r h = elim (chosen (first opens_state ts) (Err (true, ts)) (Ok ([], ts)) (Err (k, r)) h) [
      | inl e ↦ let n = same_err true k ts r e.1 in (n.0, n.1, e.0)
      | inr e ↦ absurd (let n = e.1 in cc)
    ]

    never : (ts : Tokens) → no_children ts ≡ Err (true, []) → ⊥
    never ts h = let e = stood ts true [] h in let n = sym (ap (first opens_state) e.1) ∙ e.2 in cc

    begins : (k : Bool) (ts : Tokens) (s : Stop) → no_children ts ≡ Err s →
        (cs : List StateDecl) × ((rest : Tokens) → Fit rest → Spelled (λ cs rest us. (us ≡ put.each put.state cs rest) × IsTrue (list_all (good_state (slack k 0)) cs)) cs rest ts (past k s))
    begins false ts (j, r) h = ([], λ rest fit. record { us = rest; spelled = (refl, refl); shares = subst (λ l. Shares ts l rest) (stood ts j r h).1 (none_yet ts rest fit) })
    begins true [] (j, r) h = absurd (let n = (stood [] j r h).2 in cc)
    begins true (t ∷ a) (j, r) h =
        let e = stood (t ∷ a) j r h in
        let c = least_state t a e.2 in
        let same : a ≡ past true (j, r) = ap (λ (l : Tokens). past true (true, l)) e.1 ∙ ap (λ (j : Bool). past true (j, r)) e.0 in
        (c.0 ∷ [], λ rest fit. subst (λ l. Spelled (λ cs rest us. (us ≡ put.each put.state cs rest) × IsTrue (list_all (good_state 1) cs)) (c.0 ∷ []) rest (t ∷ a) l) same (c.1 rest fit))

-- All children.

form_list : (most : Bool → ℕ) (read : Parser StateDecl) → Child read most → Children (many (first opens_state) read) most
form_list most read item = form_as (form_many opens_state item) (λ k cs rest us s. each_good put.state (good_state (most k)) cs rest us s)

pub form_children : (room : ℕ) → Children (children room) (λ k. slack k room)
unfolding children
form_children zero = form_no_children
form_children (suc room) =
    form_as (form_list (λ k. suc (slack k room)) (child (body_of (children room))) (item_child (λ k. suc (slack k room)) (body_of (children room)) (form_body_of (λ k. slack k room) (children room) (form_children room))))
    (λ k cs rest us s. (s.0, subst (λ n. IsTrue (list_all (good_state n) cs)) (sym (slack_suc k room)) s.1))

pub form_body : (room : ℕ) → Bodies (body room) (λ k. suc (slack k room))
form_body room = form_body_of (λ k. slack k room) (children room) (form_children room)

pub shrinks_child : (room : ℕ) → Shrinks (child (body_of (children room)))
shrinks_child room = (item_child (λ k. suc (slack k room)) (body_of (children room)) (form_body_of (λ k. slack k room) (children room) (form_children room))).shrinks
