use Rattle.std.proofs.Common.{◌≤◌, Some, None, length, take, refl, ap, sym, ◌∙◌, subst, arith}
use Rattle.rsml_syntax.specs.text.Characters.{digits_at}
use Rattle.rsml_syntax.specs.text.Marks.{mark_at}
use Rattle.rsml_syntax.specs.helpers.Scanning.{named}
use Rattle.rsml_lexer.specs.Answers.{IsNumber}
use Rattle.rsml_lexer.proofs.TextLemmas.{name_front, digits_are, small_front, big_front, mark_front, bad_front}
use Rattle.rsml_lexer.proofs.front.token_at.Goals as goal

pub returns-then-begins_name : goal.returns-then-begins_name
returns-then-begins_name c =
    name_front c.args.edition c.args.text.now c.name_len-len.result c.in_ok-token.token c.utf8.text c.name_len-len.ensures.within
    (sym c.begins_name.ensures ∙ c.if-begins_name.true) c.name_len-len.ensures.front
    (c.in_ok-token.ensures ∙ ap (λ l. named c.args.edition (take c.name_len-len.result l)) c.as_bytes-bytes.ensures.value)

pub number_of-requires : goal.number_of-requires
number_of-requires c = digits_are c.as_bytes-bytes.result.now c.digits_len-len.result c.digits_len-len.ensures.front

pub returns-in-Some : goal.returns-in-Some
returns-in-Some c =
    let same = c.as_bytes-bytes.ensures.value in
    small_front c.args.edition c.args.text.now c.digits_len-len.result c.in-Some.number c.utf8.text
    (subst (λ l. c.digits_len-len.result ≤ length l) same c.digits_len-len.ensures.within) c.if-len-gt0.true
    (sym c.begins_name.ensures ∙ c.if-begins_name.false)
    (ap (take c.digits_len-len.result) (sym same) ∙ c.digits_len-len.ensures.front ∙ ap digits_at same)
    (subst (λ l. IsNumber (take c.digits_len-len.result l) (Some c.in-Some.number)) same c.in-Some.ensures)

pub returns-in-None : goal.returns-in-None
returns-in-None c =
    let same = c.as_bytes-bytes.ensures.value in (
      big_front c.args.edition c.args.text.now c.digits_len-len.result c.utf8.text
          (subst (λ l. c.digits_len-len.result ≤ length l) same c.digits_len-len.ensures.within) c.if-len-gt0.true
          (sym c.begins_name.ensures ∙ c.if-begins_name.false)
          (ap (take c.digits_len-len.result) (sym same) ∙ c.digits_len-len.ensures.front ∙ ap digits_at same)
          (subst (λ l. IsNumber (take c.digits_len-len.result l) None) same c.in-None.ensures),
      refl,
    )

pub returns-in-Some-mark_at : goal.returns-in-Some-mark_at
returns-in-Some-mark_at c =
    let same = c.as_bytes-bytes.ensures.value in
    let m = mark_front c.args.edition c.args.text.now c.digits_len-len.result c.in-Some-mark_at.mark c.utf8.text c.requires
    (subst (λ l. c.digits_len-len.result ≤ length l) same c.digits_len-len.ensures.within) (omega (arith, c.if-len-gt0.false))
    (sym c.begins_name.ensures ∙ c.if-begins_name.false)
    (ap (take c.digits_len-len.result) (sym same) ∙ c.digits_len-len.ensures.front ∙ ap digits_at same)
    (ap mark_at (sym same) ∙ sym c.mark_at.ensures ∙ c.in-Some-mark_at.is) in
    (m.0, m.1, m.2, ap length c.spelling.ensures ∙ m.3)

pub returns-in-None-mark_at : goal.returns-in-None-mark_at
returns-in-None-mark_at c =
    let same = c.as_bytes-bytes.ensures.value in (
      bad_front c.args.edition c.args.text.now c.digits_len-len.result c.utf8.text c.requires
          (subst (λ l. c.digits_len-len.result ≤ length l) same c.digits_len-len.ensures.within) (omega (arith, c.if-len-gt0.false))
          (sym c.begins_name.ensures ∙ c.if-begins_name.false)
          (ap (take c.digits_len-len.result) (sym same) ∙ c.digits_len-len.ensures.front ∙ ap digits_at same)
          (ap mark_at (sym same) ∙ sym c.mark_at.ensures ∙ c.in-None-mark_at.is),
      refl,
    )
