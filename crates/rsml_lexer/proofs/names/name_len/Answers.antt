use Rattle.std.proofs.Common.{◌<◌, length, get_or, take, drop, ap, sym, ◌∙◌, subst, arith}
use Rattle.std.specs.Str.{encode_utf8_all, chars}
use Rattle.rsml_syntax.specs.text.Characters.{is_continuing}
use Rattle.rsml_syntax.specs.text.Characters.{passing}
use Rattle.rsml_syntax.specs.helpers.Scanning.{after_passing}
use Rattle.rsml_lexer.specs.Bytes.{is_ascii_continuing}
use Rattle.rsml_lexer.proofs.TextLemmas.{ascii_cut, name_goes_on, name_stops}
use Rattle.rsml_lexer.proofs.names.name_len.Goals as goal
use Rattle.rsml_lexer.proofs.names.name_len.Goals.{else-len-bytes-via-then-len-bytes+else-bytes-len-ge128, else-len-bytes-via-else-len-bytes}

pub range_from-requires : goal.range_from-requires
range_from-requires c = λ _. ascii_cut c.args.text.now c.as_bytes-bytes.result.now c.ascii_len-len.result c.utf8.text c.as_bytes-bytes.ensures.value c.ascii_len-len.ensures.rest c.ascii_len-len.ensures.within

pub returns-then-bytes-len-ge128-clause-front : goal.returns-then-bytes-len-ge128-clause-front
returns-then-bytes-len-ge128-clause-front c =
    let same = c.as_bytes-bytes.ensures.value in
    let r = c.range_from.ensures.value in
    name_goes_on c.args.text.now c.ascii_len-len.result c.any_len.result c.utf8.text
    (ap (take c.ascii_len-len.result) (sym same) ∙ c.ascii_len-len.ensures.front ∙ ap (passing is_ascii_continuing) same)
    (ap (drop c.ascii_len-len.result) (sym same) ∙ c.ascii_len-len.ensures.rest ∙ ap (after_passing is_ascii_continuing) same)
    (ap (take c.any_len.result) (sym r) ∙ c.any_len.ensures.front ∙ ap (λ l. encode_utf8_all (passing is_continuing (chars l))) r)

pub returns-else-len-bytes-clause-front : goal.returns-else-len-bytes-clause-front
returns-else-len-bytes-clause-front c =
    let same = c.as_bytes-bytes.ensures.value in
    name_stops c.args.text.now c.ascii_len-len.result c.utf8.text
    (ap (take c.ascii_len-len.result) (sym same) ∙ c.ascii_len-len.ensures.front ∙ ap (passing is_ascii_continuing) same)
    (ap (drop c.ascii_len-len.result) (sym same) ∙ c.ascii_len-len.ensures.rest ∙ ap (after_passing is_ascii_continuing) same)
    (λ within. elim c.else-len-bytes.branch [
      | else-len-bytes-via-then-len-bytes+else-bytes-len-ge128 w ↦ subst (λ l. get_or l c.ascii_len-len.result 0 < 128) same w.if-bytes-len-ge128.false
      | else-len-bytes-via-else-len-bytes w ↦ absurd (omega (arith, within, w.if-len-bytes.false, ap length same))
    ])
