-- Steps that wait: one more, one less, and that more nodes change nothing.
use Rattle.std.proofs.Common.{◌≡◌, ℕ, ◌+◌, ◌-◌, ◌<◌, ◌≤◌, List, [], ◌∷◌, ◌++◌, length, drop, get_or, refl, sym, ap, subst, ◌∙◌, arith, Option, Some, None, inl, inr}
use Rattle.std.proofs.lemmas.Bool.{cases_lt}
use Rattle.std.proofs.lemmas.List.{length-append, drop_all}
use Rattle.bdd_core.specs.Diagram.{Diagram}
use Rattle.bdd_core.specs.Calls.{Keeps}
use Rattle.spelled_numbers.specs.declared.step.Step.{Step}
use Rattle.spelled_numbers.specs.declared.weighted.Weighted.{Weighted}
use Rattle.spelled_numbers.specs.Sums.{total_weight}
use Rattle.spelled_numbers.specs.Steps.{no_term, weight_at, IsAtMost}
use Rattle.spelled_numbers.specs.Waiting.{IsNext, Asks, AsksAfter, Waits, Leads, AreAnswers, HasAnswer}
use Rattle.spelled_numbers.proofs.StepLemmas.{represents-keeps, fits, some_left, from_one}

-- one more waits
pub waits-push : (d : Diagram) (terms : List Weighted) (first : ℕ) (xs : List Step) (x : Step) (next : ℕ) → Waits d terms first xs x.room
    → AsksAfter d (drop (length xs) terms) x next → Waits d terms first (xs ++ x ∷ []) next
waits-push d [] first [] x next w a = elim a [ ]
waits-push d [] first (y ∷ ys) x next w a = elim w [ ]
waits-push d (t ∷ ts) first [] x next w a = (w, (next, a, refl))
waits-push d (t ∷ ts) first (y ∷ ys) x next w a = (w.0, (w.1.0, w.1.1, waits-push d ts w.1.0 ys x next w.1.2 a))

-- one less waits
pub waits-pop : (d : Diagram) (terms : List Weighted) (first : ℕ) (xs : List Step) (x : Step) (last : ℕ) → Waits d terms first (xs ++ x ∷ []) last
    → Waits d terms first xs x.room × AsksAfter d (drop (length xs) terms) x last
waits-pop d [] first [] x last w = elim w [ ]
waits-pop d [] first (y ∷ ys) x last w = elim w [ ]
waits-pop d (t ∷ ts) first [] x last w = (w.0, subst (Asks d t ts x) w.1.2 w.1.1)
waits-pop d (t ∷ ts) first (y ∷ ys) x last w =
    let back = waits-pop d ts w.1.0 ys x last w.1.2 in
    ((w.0, (w.1.0, w.1.1, back.0)), back.1)

-- a step that waits has a term
some_term : (d : Diagram) (terms : List Weighted) (at : ℕ) (x : Step) (next : ℕ) → AsksAfter d (drop at terms) x next → at < length terms
some_term d terms at x next a = elim (cases_lt at (length terms)) [
  | inl less ↦ less
  | inr most ↦ elim (subst (λ ts. AsksAfter d ts x next) (drop_all at terms most) a) [ ]
]

-- more nodes change nothing
next-keeps : (a b : Diagram) (t : Weighted) (ts : List Weighted) (room : ℕ) (out : Option ℕ) (next : ℕ) → Keeps a b → IsNext a t ts room out next → IsNext b t ts room out next
next-keeps a b t ts room None next k is = is
next-keeps a b t ts room (Some out) next k is = (is.0, represents-keeps a b _ _ k is.1)

pub waits-keeps : (a b : Diagram) (terms : List Weighted) (first : ℕ) (xs : List Step) (last : ℕ) → Keeps a b → Waits a terms first xs last → Waits b terms first xs last
waits-keeps a b terms first [] last k w = w
waits-keeps a b [] first (x ∷ xs) last k w = elim w [ ]
waits-keeps a b (t ∷ ts) first (x ∷ xs) last k w =
    (w.0, (w.1.0, record { rest = w.1.1.rest; is_next = next-keeps a b t ts x.room x.out w.1.0 k w.1.1.is_next }, waits-keeps a b ts w.1.0 xs last k w.1.2))

-- what waits after going down asks the terms after it, which have this rest
pub record IsAsked (d : Diagram) (terms : List Weighted) (old new : List Step) (room rest : ℕ) : Type 0 where
  pub within : length new ≤ length terms
  pub is_rest : rest ≡ total_weight (drop (length new) terms)
  pub path : (first : ℕ) → Waits d terms first old room → Waits d terms first new room

-- the rest from a term on
pub rest_from : (terms : List Weighted) (at rest : ℕ) → at < length terms → rest ≡ total_weight (drop at terms) → rest ≡ weight_at terms at + total_weight (drop (at + 1) terms)
rest_from terms at rest less e = e ∙ ap total_weight (from_one terms at less)

-- one more waits for the next term
pub asked-next : (d : Diagram) (terms : List Weighted) (old mid new : List Step) (room rest : ℕ) → IsAsked d terms old mid room rest → room < rest
    → new ≡ mid ++ (record { rest = rest; room = room; out = None }) ∷ [] → IsAsked d terms old new room (rest - weight_at terms (length mid))
asked-next d terms old mid new room rest a more is =
    let less : length mid < length terms = some_left terms (length mid) rest room a.is_rest more in
    let from : rest ≡ weight_at terms (length mid) + total_weight (drop (length mid + 1) terms) = rest_from terms (length mid) rest less a.is_rest in
    let x : Step = record { rest = rest; room = room; out = None } in
    let long : length new ≡ length mid + 1 = ap length is ∙ length-append mid (x ∷ []) in
    record {
      within = omega (arith, long, less);
      is_rest = subst (λ n. rest - weight_at terms (length mid) ≡ total_weight (drop n terms)) (sym long) (omega (arith, from));
      path = λ first w. subst (λ xs. Waits d terms first xs room) (sym is) (waits-push d terms first mid x room (a.path first w) (subst (λ ts. AsksAfter d ts x room) (sym (from_one terms (length mid) less)) (record { rest = from; is_next = refl })));
    }

-- a step that is answered
pub leads-joined : (a b : Diagram) (terms : List Weighted) (xs : List Step) (room : ℕ) → Keeps a b → (r : ℕ) → IsAtMost b (drop (length xs) terms) room r
    → (first : ℕ) → Waits a terms first xs room → Leads b terms first xs r
leads-joined a b terms xs room k r right first w = record { last = room; waits = waits-keeps a b terms first xs room k w; right = right }

-- the step behind what waits has its answer
answers-of : (d : Diagram) (t : Weighted) (ts : List Weighted) (room : ℕ) (out : Option ℕ) (next r : ℕ) → IsNext d t ts room out next → IsAtMost d ts next r → AreAnswers d t.weight ts room out r
answers-of d t ts room None next r is right = subst (λ n. IsAtMost d ts n r) (sym is) right
answers-of d t ts room (Some out) next r is right =
    (is.1, fits d ts t.weight room r (omega (arith, is.0)) (subst (λ n. IsAtMost d ts n r) (omega (arith, is.0)) right))

pub leads-back : (d : Diagram) (terms : List Weighted) (first : ℕ) (all xs : List Step) (x : Step) (r : ℕ) → all ≡ xs ++ x ∷ [] → Leads d terms first all r
    → Waits d terms first xs x.room × HasAnswer d terms (length xs) x r
leads-back d terms first all xs x r is l =
    let back = waits-pop d terms first xs x l.last (subst (λ ys. Waits d terms first ys l.last) is l.waits) in
    let less : length xs < length terms = some_term d terms (length xs) x l.last back.1 in
    let asks : Asks d (get_or terms (length xs) no_term) (drop (length xs + 1) terms) x l.last = subst (λ ts. AsksAfter d ts x l.last) (from_one terms (length xs) less) back.1 in
    let long : length all ≡ length xs + 1 = ap length is ∙ length-append xs (x ∷ []) in (
      back.0,
      record {
        within = less;
        rest = asks.rest ∙ sym (ap total_weight (from_one terms (length xs) less));
        answers = answers-of d (get_or terms (length xs) no_term) (drop (length xs + 1) terms) x.room x.out l.last r asks.is_next
            (subst (λ n. IsAtMost d (drop n terms) l.last r) long l.right);
      },
    )

-- nothing waits
pub leads-end : (d : Diagram) (terms : List Weighted) (room r : ℕ) (waiting : List Step) → waiting ≡ [] → Leads d terms room waiting r → IsAtMost d terms room r
leads-end d terms room r waiting none l =
    let same : room ≡ l.last = subst (λ xs. Waits d terms room xs l.last) none l.waits in
    subst (λ n. IsAtMost d terms n r) (sym same) (subst (λ xs. IsAtMost d (drop (length xs) terms) l.last r) none l.right)

-- the step waits for the answer where its term counts
pub turn-path : (d : Diagram) (terms : List Weighted) (xs new : List Step) (x : Step) (answer : ℕ) → x.out ≡ None → HasAnswer d terms (length xs) x answer → weight_at terms (length xs) ≤ x.room
    → new ≡ xs ++ (record { rest = x.rest; room = x.room; out = Some answer }) ∷ []
    → (first : ℕ) → Waits d terms first xs x.room → Waits d terms first new (x.room - weight_at terms (length xs))
turn-path d terms xs new x answer none has fit is first w =
    let y : Step = record { rest = x.rest; room = x.room; out = Some answer } in
    let out : IsAtMost d (drop (length xs + 1) terms) x.room answer = subst (λ o. AreAnswers d (weight_at terms (length xs)) (drop (length xs + 1) terms) x.room o answer) none has.answers in
    subst (λ ys. Waits d terms first ys (x.room - weight_at terms (length xs))) (sym is)
    (waits-push d terms first xs y (x.room - weight_at terms (length xs)) w
    (subst (λ ts. AsksAfter d ts y (x.room - weight_at terms (length xs))) (sym (from_one terms (length xs) has.within))
    (record { rest = rest_from terms (length xs) x.rest has.within has.rest; is_next = (omega (arith, fit), out) })))
