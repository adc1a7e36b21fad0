-- What a text says where `this` does not stand in it is the same in all instances.
use Rattle.std.proofs.Common.{◌≡◌, ℕ, Bool, true, false, ◌||◌, List, [], ◌∷◌, map, Option, Some, None, slice_get, IfOk, refl, ap, ◌∙◌, subst, true≢false}
use Rattle.std.specs.List.{AllZip, list_any}
use Rattle.std.specs.declared.result.Result.{Result}
use Rattle.std.specs.declared.result.Result.TheVariants.{Ok, Err}
use Rattle.std.specs.Option.{option_map_or}
use Rattle.rsml_syntax.specs.declared.syntax.Spec.{Spec}
use Rattle.rsml_syntax.specs.declared.syntax.Index.{Index}
use Rattle.rsml_syntax.specs.declared.syntax.Index.TheVariants as index
use Rattle.rsml_syntax.specs.declared.syntax.Mention.{Mention}
use Rattle.rsml_syntax.specs.declared.syntax.Operand.{Operand}
use Rattle.rsml_syntax.specs.declared.syntax.Operand.TheVariants as written
use Rattle.rsml_syntax.specs.declared.syntax.Term.{Term}
use Rattle.rsml_syntax.specs.declared.syntax.Sum.{Sum}
use Rattle.rsml_syntax.specs.declared.syntax.Simple.{Simple}
use Rattle.rsml_syntax.specs.declared.syntax.Simple.TheVariants as simples
use Rattle.rsml_syntax.specs.declared.syntax.Phrase.{Phrase}
use Rattle.rsml_syntax.specs.declared.syntax.Phrase.TheVariants as phrase_of
use Rattle.rsml_syntax.specs.declared.syntax.Row.{Row}
use Rattle.rsml_syntax.specs.declared.syntax.Guard.{Guard}
use Rattle.rsml_syntax.specs.declared.syntax.Guard.TheVariants as guard_of
use Rattle.rsml_syntax.specs.declared.syntax.Value.{Value}
use Rattle.rsml_syntax.specs.declared.syntax.Value.TheVariants as values
use Rattle.rsml_syntax.specs.declared.syntax.Answer.{Answer}
use Rattle.rsml_syntax.specs.declared.syntax.Answer.TheVariants as answers
use Rattle.rsml_syntax.specs.declared.syntax.SendCase.{SendCase}
use Rattle.rsml_syntax.specs.limits.Comparisons.{Indices, index_number}
use Rattle.rsml_syntax.specs.rules.Globals.{meaning, indices}
use Rattle.rsml_syntax.specs.rules.Uses.{is_input}
use Rattle.rsml_syntax.specs.grammar.Written.{simple_of}
use Rattle.rsml_syntax.specs.text.Names.{Name}
use Rattle.rsml_meaning.specs.Words.{at}
use Rattle.rsml_meaning.specs.Instances.{globals_of}
use Rattle.rsml_meaning.specs.Truth.{within, instance}
use Rattle.rsml_meaning.specs.Interfaces.{definitions, macro_table, new_send_case}
use Rattle.state_arrays.specs.Places.{cell_place, previous_place}
use Rattle.rsml_ground.specs.declared.sums.GroundOperand.{GroundOperand}
use Rattle.rsml_ground.specs.declared.sums.GroundOperand.TheVariants as operands
use Rattle.rsml_ground.specs.declared.sums.GroundSum.{GroundSum}
use Rattle.rsml_ground.specs.declared.definitions.GroundGuard.{GroundGuard}
use Rattle.rsml_ground.specs.declared.definitions.GroundGuard.TheVariants as guards
use Rattle.rsml_ground.specs.declared.phrases.GroundPhrase.{GroundPhrase}
use Rattle.rsml_ground.specs.declared.phrases.GroundPhrase.TheVariants as phrases
use Rattle.rsml_ground.specs.StandsFor.{MentionIs, OperandIs, TermIs, SumIs, IsMacro, IsFunction, SimpleIs, NumberIs, PhraseIs, RowIs, GuardIs}
use Rattle.ground_members.specs.declared.send_cases.GroundValue.{GroundValue}
use Rattle.ground_members.specs.declared.send_cases.GroundValue.TheVariants as value
use Rattle.ground_members.specs.declared.send_cases.GroundAnswer.{GroundAnswer}
use Rattle.ground_members.specs.declared.send_cases.GroundAnswer.TheVariants as answer
use Rattle.ground_members.specs.declared.send_cases.GroundSendCase.{GroundSendCase}
use Rattle.ground_members.specs.Members.{IsEvent, IsSend, ValueIs, AnswerIs, SendCaseIs}
use Rattle.ground_members.specs.Shared.{of_send}
use Rattle.ground_members.specs.This.{is_this, mention_has_this, operand_has_this, sum_has_this, simple_has_this, guard_has_this, value_has_this, answer_has_this, case_has_this}

pub ok_so : {T E : Type 0} (P Q : T → Type 0) (r : Result T E) → ((x : T) → P x → Q x) → IfOk r P → IfOk r Q
ok_so P Q (Ok x) f h = f x h
ok_so P Q (Err e) f h = tt

neither : (a b : Bool) → (a || b) ≡ false → (a ≡ false) × (b ≡ false)
neither true b h = absurd (true≢false h)
neither false b h = (refl, h)

-- what holds of pairs still does where the first of each has a property
zip_free : {A B : Type 0} (f : A → Bool) (P Q : A → B → Type 0) → ((x : A) (y : B) → f x ≡ false → P x y → Q x y) → (xs : List A) (ys : List B) → list_any f xs ≡ false → AllZip P xs ys → AllZip Q xs ys
zip_free f P Q to [] [] h z = tt
zip_free f P Q to [] (y ∷ ys) h z = absurd z
zip_free f P Q to (x ∷ xs) [] h z = absurd z
zip_free f P Q to (x ∷ xs) (y ∷ ys) h z = let r = neither (f x) (list_any f xs) h in (to x y r.0 z.0, zip_free f P Q to xs ys r.1 z.1)

zip_all : {A B : Type 0} (P Q : A → B → Type 0) → ((x : A) (y : B) → P x y → Q x y) → (xs : List A) (ys : List B) → AllZip P xs ys → AllZip Q xs ys
zip_all P Q to [] [] z = tt
zip_all P Q to [] (y ∷ ys) z = absurd z
zip_all P Q to (x ∷ xs) [] z = absurd z
zip_all P Q to (x ∷ xs) (y ∷ ys) z = (to x y z.0, zip_all P Q to xs ys z.1)

map_free : {A B : Type 0} (t : A → Bool) (f g : A → B) → ((x : A) → t x ≡ false → f x ≡ g x) → (xs : List A) → list_any t xs ≡ false → map f xs ≡ map g xs
map_free t f g e [] h = refl
map_free t f g e (x ∷ xs) h = let r = neither (t x) (list_any t xs) h in ap (λ z. z ∷ map f xs) (e x r.0) ∙ ap (λ zs. g x ∷ zs) (map_free t f g e xs r.1)

module _ (s : Spec) (i j : ℕ) where
  -- in the two instances, under a variable
  abbrev here : Option (Name × ℕ) → Indices
  here v = record { this = i; variable = v }

  abbrev there : Option (Name × ℕ) → Indices
  there v = record { this = j; variable = v }

  same_index : (v : Option (Name × ℕ)) (o : Option Index) → is_this o ≡ false → index_number (globals_of s) (here v) o ≡ index_number (globals_of s) (there v) o
  same_index v None h = refl
  same_index v (Some (index.Number n)) h = refl
  same_index v (Some (index.Name name)) h = refl
  same_index v (Some index.This) h = absurd (true≢false h)

  same : (v : Option (Name × ℕ)) (m : Mention) → mention_has_this m ≡ false → instance (globals_of s) (here v) m ≡ instance (globals_of s) (there v) m
  same v m h = ap (at m.name) (same_index v m.index h)

  operand_same : (v : Option (Name × ℕ)) (t : Operand) (x : GroundOperand) → operand_has_this t ≡ false → OperandIs s (here v) t x → OperandIs s (there v) t x
  operand_same v (written.Number n) (operands.Number z) h is = is
  operand_same v (written.Number n) (operands.Cell c) h is = absurd is
  operand_same v (written.Previous m) (operands.Number z) h is = absurd is
  operand_same v (written.Previous m) (operands.Cell c) h is = subst (λ z. previous_place s z ≡ Some c) (same v m h) is
  operand_same v (written.Mention m) x h is = by (option_map_or is_input (meaning (globals_of s) m.name) false) x is
    where
      by : (b : Bool) (x : GroundOperand) → MentionIs s (here v) m b x → MentionIs s (there v) m b x
      by true (operands.Cell c) k = subst (λ z. cell_place s z ≡ Some c) (same v m h) k
      by true (operands.Number z) k = absurd k
      by false (operands.Number z) k = k
      by false (operands.Cell c) k = absurd k

  sum_same : (v : Option (Name × ℕ)) (t : Sum) (x : GroundSum) → sum_has_this t ≡ false → SumIs s (here v) t x → SumIs s (there v) t x
  sum_same v t x h is =
      zip_free (λ (t : Term). operand_has_this t.operand) (TermIs s (here v)) (TermIs s (there v)) (λ t x k is. record { minus = is.minus; operand = operand_same v t.operand x.operand k is.operand }) t.terms x.terms h is

  macro_same : (v : Option (Name × ℕ)) (m : Mention) (k : ℕ) → mention_has_this m ≡ false → IsMacro s (here v) m k → IsMacro s (there v) m k
  macro_same v m k h is = subst (λ z. (rows : List Row) × (slice_get (definitions s) k ≡ Some (macro_table z rows))) (same v m h) is

  function_same : (v : Option (Name × ℕ)) (m : Mention) (k : ℕ) → mention_has_this m ≡ false → IsFunction s (here v) m k → IsFunction s (there v) m k
  function_same v m k h is = (is.0, is.1, is.2 ∙ same v m h)

  simple_same : (v : Option (Name × ℕ)) (b : Simple) (p : GroundPhrase) → simple_has_this b ≡ false → SimpleIs s (here v) b p → SimpleIs s (there v) b p
  simple_same v (simples.In path) (phrases.In node) h is = is ∙ ap (λ zs. Some zs) (map_free mention_has_this (instance (globals_of s) (here v)) (instance (globals_of s) (there v)) (same v) path h)
  simple_same v (simples.Macro m) (phrases.Macro k) h is = macro_same v m k h is
  simple_same v (simples.Compare left relation right) (phrases.Compare x q y) h is =
      let r = neither (sum_has_this left) (sum_has_this right) h in
      (sum_same v left x r.0 is.0, is.1, sum_same v right y r.1 is.2)
  simple_same v (simples.Function f relation right) (phrases.Function k q constant) h is =
      let r = neither (mention_has_this f) (sum_has_this right) h in
      (function_same v f k r.0 is.0, is.1, (is.2.0, sum_same v right is.2.0 r.1 is.2.1, is.2.2))
  simple_same v (simples.In path) (phrases.Any ks) h is = absurd is
  simple_same v (simples.In path) (phrases.Every ks) h is = absurd is
  simple_same v (simples.In path) (phrases.Macro k) h is = absurd is
  simple_same v (simples.In path) (phrases.Compare x q y) h is = absurd is
  simple_same v (simples.In path) (phrases.Function k q c) h is = absurd is
  simple_same v (simples.Macro m) (phrases.In node) h is = absurd is
  simple_same v (simples.Macro m) (phrases.Any ks) h is = absurd is
  simple_same v (simples.Macro m) (phrases.Every ks) h is = absurd is
  simple_same v (simples.Macro m) (phrases.Compare x q y) h is = absurd is
  simple_same v (simples.Macro m) (phrases.Function k q c) h is = absurd is
  simple_same v (simples.Compare left relation right) (phrases.In node) h is = absurd is
  simple_same v (simples.Compare left relation right) (phrases.Any ks) h is = absurd is
  simple_same v (simples.Compare left relation right) (phrases.Every ks) h is = absurd is
  simple_same v (simples.Compare left relation right) (phrases.Macro k) h is = absurd is
  simple_same v (simples.Compare left relation right) (phrases.Function k q c) h is = absurd is
  simple_same v (simples.Function f relation right) (phrases.In node) h is = absurd is
  simple_same v (simples.Function f relation right) (phrases.Any ks) h is = absurd is
  simple_same v (simples.Function f relation right) (phrases.Every ks) h is = absurd is
  simple_same v (simples.Function f relation right) (phrases.Macro k) h is = absurd is
  simple_same v (simples.Function f relation right) (phrases.Compare x q y) h is = absurd is

  module _ (ps : List GroundPhrase) where
    number_same : (v : Option (Name × ℕ)) (b : Simple) (k : ℕ) → simple_has_this b ≡ false → NumberIs ps s (here v) b k → NumberIs ps s (there v) b k
    number_same v b k h is = (is.0, is.1, simple_same v b is.0 h is.2)

    phrase_same : (p : Phrase) (k : ℕ) → simple_has_this (simple_of p) ≡ false → PhraseIs ps s (within i) p k → PhraseIs ps s (within j) p k
    phrase_same (phrase_of.Plain b) k h is = number_same None b k h is
    phrase_same (phrase_of.Any x bound b) k h is =
        (is.0, is.1, zip_all (λ n k. NumberIs ps s (here (Some (x, n))) b k) (λ n k. NumberIs ps s (there (Some (x, n))) b k) (λ n k. number_same (Some (x, n)) b k h) (indices (globals_of s) (Some bound)) is.0 is.2)
    phrase_same (phrase_of.Every x bound b) k h is =
        (is.0, is.1, zip_all (λ n k. NumberIs ps s (here (Some (x, n))) b k) (λ n k. NumberIs ps s (there (Some (x, n))) b k) (λ n k. number_same (Some (x, n)) b k h) (indices (globals_of s) (Some bound)) is.0 is.2)

    pub guard_same : (g : Guard) (x : GroundGuard) → guard_has_this g ≡ false → GuardIs ps s (within i) g x → GuardIs ps s (within j) g x
    guard_same guard_of.Always guards.Always h is = tt
    guard_same guard_of.Always (guards.Table t) h is = absurd is
    guard_same (guard_of.Table rows) guards.Always h is = absurd is
    guard_same (guard_of.Table rows) (guards.Table t) h is =
        zip_free (λ (row : Row). simple_has_this (simple_of row.phrase)) (RowIs ps s (within i)) (RowIs ps s (within j)) (λ row x k is. record { cells = is.cells; phrase = phrase_same row.phrase x.phrase k is.phrase }) rows t.rows h is

  value_same : (v : Value) (x : GroundValue) → value_has_this v ≡ false → ValueIs s (within i) v x → ValueIs s (within j) v x
  value_same (values.Sum t) (value.Sum x) h is = (sum_same None t x h is.0, is.1)
  value_same (values.Sum t) (value.Function k) h is = absurd is
  value_same (values.Function f) (value.Sum x) h is = absurd is
  value_same (values.Function f) (value.Function k) h is = function_same None f k h is

  answer_same : (a : Answer) (x : GroundAnswer) → answer_has_this a ≡ false → AnswerIs s (within i) a x → AnswerIs s (within j) a x
  answer_same answers.Quiet answer.Quiet h is = tt
  answer_same answers.Quiet (answer.Values ys) h is = absurd is
  answer_same (answers.Values xs) answer.Quiet h is = absurd is
  answer_same (answers.Values xs) (answer.Values ys) h is = zip_free value_has_this (ValueIs s (within i)) (ValueIs s (within j)) value_same xs ys h is

  -- a case of one instance, with the send of another, stands for that of the other
  pub case_same : (ps : List GroundPhrase) (name : Name) (fields : List Name) (n : ℕ) (c : SendCase) (x : GroundSendCase) (k : ℕ) → case_has_this c ≡ false → IsSend s (at name j) k
      → SendCaseIs ps s (new_send_case (globals_of s) name fields i (n, c)) x → SendCaseIs ps s (new_send_case (globals_of s) name fields j (n, c)) (of_send k x)
  case_same ps name fields n c x k h send is =
      let r = neither (mention_has_this c.trigger) (guard_has_this c.guard || answer_has_this c.answer) h in
      let q = neither (guard_has_this c.guard) (answer_has_this c.answer) r.1 in
      record {
        send = send;
        event = subst (λ e. IsEvent s e x.event) (same None c.trigger r.0) is.event;
        guard = guard_same ps c.guard x.guard q.0 is.guard;
        fits = is.fits;
        answer = answer_same c.answer x.answer q.1 is.answer;
        ordinal = is.ordinal;
      }
