-- Readings of what the grammar writes: the laws of tokens and lists, in the grammar's words.
use Rattle.std.proofs.Common.{◌≡◌, Bool, true, false, List, [], ◌∷◌, refl, sym, ap, ◌∙◌, subst}
use Rattle.std.specs.Prelude.{◌&&◌, IsTrue}
use Rattle.std.specs.List.{list_all}
use Rattle.rsml_syntax.specs.grammar.Grammar as put
use Rattle.rsml_syntax.specs.grammar.Layout.{is_mark}
use Rattle.rsml_syntax.specs.text.Tokens.{Tokens}
use Rattle.rsml_syntax.specs.grammar.WellFormed.{has_items}
use Rattle.rsml_syntax.specs.declared.token.Mark.{Mark}
use Rattle.rsml_syntax.specs.declared.token.Mark.TheVariants as marks
use Rattle.rsml_syntax.specs.declared.token.Token.{Token}
use Rattle.rsml_syntax.specs.declared.token.Word.{Word}
use Rattle.rsml_parser.specs.Parsers.{Parser, ◌>>=◌, ◌>>◌, pure, first, word, mark, is_not, many, separated, until, in_parentheses}
use Rattle.rsml_parser.proofs.Forms.{Form, form_bind, form_pure, form_as, form_if}
use Rattle.rsml_parser.proofs.Leaves.{form_mark}
use Rattle.rsml_parser.proofs.Lists.{Each, Item, item_word, item_mark, item_as, form_many}

-- a reading reads what `spell` writes
abbrev pub Writes : {A : Type 0} → Parser A → (A → Tokens → Tokens) → Type 0
Writes read spell = Form read (λ _ x rest us. us ≡ spell x rest)

-- and what it reads is good
abbrev pub Reads : {A : Type 0} → Parser A → (A → Tokens → Tokens) → (A → Bool) → Type 0
Reads read spell good = Form read (λ _ x rest us. (us ≡ spell x rest) × IsTrue (good x))

-- and it takes a token
abbrev pub ReadsItem : {A : Type 0} → Parser A → (A → Tokens → Tokens) → (A → Bool) → Type 0
ReadsItem read spell good = Item read (λ _ x rest us. (us ≡ spell x rest) × IsTrue (good x))

-- anything is good
abbrev pub any : {A : Type 0} → A → Bool
any x = true

pub reads_any : {A : Type 0} {read : Parser A} {spell : A → Tokens → Tokens} → Writes read spell → Reads read spell any
reads_any form = form_as form (λ k x rest us s. (s, refl))

pub any_item : {A : Type 0} {read : Parser A} {spell : A → Tokens → Tokens} → Item read (λ _ x rest us. us ≡ spell x rest) → ReadsItem read spell any
any_item item = item_as item (λ k x rest us s. (s, refl))

pub all_any : {A : Type 0} (xs : List A) → IsTrue (list_all any xs)
all_any [] = refl
all_any (x ∷ xs) = all_any xs

pub both : (a b : Bool) → IsTrue a → IsTrue b → IsTrue (a && b)
both true b e f = f
both false b e f = e

pub halves : (a b : Bool) → IsTrue (a && b) → IsTrue a × IsTrue b
halves true b e = (refl, e)
halves false b e = absurd cc

-- A word or a mark that stands for something.

pub word_for : {A : Type 0} (w : Word) (x : A) → Item (word w >> pure x) (λ _ y rest us. (us ≡ put.word w rest) × (y ≡ x))
word_for w x = item_as (item_word w (λ _. form_pure x)) (λ k y rest us s. (s.before ∙ ap (put.word w) s.later.1, s.later.0))

pub mark_for : {A : Type 0} (m : Mark) (x : A) → Item (mark m >> pure x) (λ _ y rest us. (us ≡ put.mark m rest) × (y ≡ x))
mark_for m x = item_as (item_mark m (λ _. form_pure x)) (λ k y rest us s. (s.before ∙ ap (put.mark m) s.later.1, s.later.0))

-- Lists.

pub each_good : {A : Type 0} (spell : A → Tokens → Tokens) (good : A → Bool) (xs : List A) (rest us : Tokens) → Each (λ x r u. (u ≡ spell x r) × IsTrue (good x)) xs rest us →
    (us ≡ put.each spell xs rest) × IsTrue (list_all good xs)
each_good spell good [] rest us s = (s, refl)
each_good spell good (x ∷ xs) rest us s = let r = each_good spell good xs rest s.0 s.2 in (s.1.0 ∙ ap (spell x) r.0, both (good x) (list_all good xs) s.1.1 r.1)

pub each_after : {A : Type 0} (m : Mark) (spell : A → Tokens → Tokens) (xs : List A) (rest : Tokens) → put.each (λ x r. put.mark m (spell x r)) xs rest ≡ put.each_after m spell xs rest
each_after m spell [] rest = refl
each_after m spell (x ∷ xs) rest = ap (λ l. put.mark m (spell x l)) (each_after m spell xs rest)

pub reads_many : {A : Type 0} {item : Parser A} {spell : A → Tokens → Tokens} {good : A → Bool} (test : Token → Bool) → ReadsItem item spell good → Reads (many (first test) item) (put.each spell) (list_all good)
reads_many {A} {item} {spell} {good} test is = form_as (form_many test is) (λ k xs rest us s. each_good spell good xs rest us s)

pub reads_separated : {A : Type 0} {item : Parser A} {spell : A → Tokens → Tokens} {good : A → Bool} (m : Mark) → Reads item spell good →
    Reads (separated m item) (put.separated m spell) (λ xs. has_items xs && list_all good xs)
reads_separated {A} {item} {spell} {good} m form =
    form_as (form_bind form (λ x. form_bind (reads_many (is_mark m) after) (λ xs. form_pure (x ∷ xs))))
    (λ k xs rest us s. let l = s.later in
    subst (λ (xs : List A). (us ≡ put.separated m spell xs rest) × IsTrue (has_items xs && list_all good xs)) (sym l.later.0) (
      s.before.0 ∙ ap (spell s.got) (l.before.0 ∙ each_after m spell l.got l.mid ∙ ap (put.each_after m spell l.got) l.later.1),
      both (good s.got) (list_all good l.got) s.before.1 l.before.1,
    ))
  where
    after : ReadsItem (mark m >> item) (λ x r. put.mark m (spell x r)) good
    after = item_as (item_mark m (λ _. form)) (λ k x rest us s. (s.before ∙ ap (put.mark m) s.later.0, s.later.1))

pub reads_until : {A : Type 0} {item : Parser A} {spell : A → Tokens → Tokens} {good : A → Bool} (m : Mark) → ReadsItem item spell good →
    Reads (until m item) (λ xs rest. put.each spell xs (put.mark m rest)) (list_all good)
reads_until {A} {item} {spell} {good} m is =
    form_as (form_bind (reads_many (is_not m) is) (λ xs. (mark_for m xs).form))
    (λ k xs rest us s. subst (λ (xs : List A). (us ≡ put.each spell xs (put.mark m rest)) × IsTrue (list_all good xs)) (sym s.later.1)
    (s.before.0 ∙ ap (put.each spell s.got) s.later.0, s.before.1))

-- the tokens of a list in parentheses
abbrev pub in_parens : {A : Type 0} → (A → Tokens → Tokens) → List A → Tokens → Tokens
in_parens spell xs rest = put.mark marks.OpenParen (put.separated marks.Comma spell xs (put.mark marks.CloseParen rest))

pub reads_in_parentheses : {A : Type 0} {item : Parser A} {spell : A → Tokens → Tokens} {good : A → Bool} → Reads item spell good → Reads (in_parentheses item) (in_parens spell) (list_all good)
reads_in_parentheses {A} {item} {spell} {good} form =
    form_as (form_bind (form_mark marks.OpenParen) (λ _. form_if none some)) (λ k xs rest us s. (s.before ∙ ap (put.mark marks.OpenParen) s.later.0, s.later.1))
  where
    inside : List A → Tokens → Tokens
    inside xs rest = put.separated marks.Comma spell xs (put.mark marks.CloseParen rest)

    none : Reads (mark marks.CloseParen >> pure []) inside (list_all good)
    none = form_as (mark_for marks.CloseParen []).form (λ k xs rest us s. subst (λ (xs : List A). (us ≡ inside xs rest) × IsTrue (list_all good xs)) (sym s.1) (s.0, refl))

    some : Reads (separated marks.Comma item >>= (λ xs. mark marks.CloseParen >> pure xs)) inside (list_all good)
    some = form_as (form_bind (reads_separated marks.Comma form) (λ xs. (mark_for marks.CloseParen xs).form))
        (λ k xs rest us s. subst (λ (xs : List A). (us ≡ inside xs rest) × IsTrue (list_all good xs)) (sym s.later.1)
        (s.before.0 ∙ ap (put.separated marks.Comma spell s.got) s.later.0, (halves (has_items s.got) (list_all good s.got) s.before.1).1))
