-- What the code rests on besides the definitions of reading.
use Rattle.std.proofs.Common.{◌≡◌, ℕ, zero, suc, ◌-◌, ◌<◌, ◌≤◌, Bool, List, length, length-append, Err, ap, arith}
use Rattle.std.proofs.lemmas.List.{length-map}
use Rattle.rsml_syntax.specs.text.Lexing.{bare}
use Rattle.rsml_syntax.specs.text.Tokens.{Tokens}
use Rattle.rsml_syntax.specs.declared.token.Placed.{Placed}
use Rattle.rsml_parser.specs.Parsers.{first, many}
use Rattle.rsml_parser.specs.States.{opens_state, child, body_of, children, body, whole}
use Rattle.rsml_parser.proofs.Forms.{left_at_fault}
use Rattle.rsml_parser.proofs.SpecificationForms.{form_whole}

-- where there is room for a state, there is room for one less in it
pub with_room : (room : ℕ) (ts : Tokens) → 0 < room → children room ts ≡ many (first opens_state) (child (body (room - 1))) ts
unfolding children
with_room zero ts h = absurd (omega (arith, h))
with_room (suc room) ts h = ap (λ n. many (first opens_state) (child (body_of (children n))) ts) (let same : room ≡ suc room - 1 = omega arith in same)

-- there are as many tokens without their offsets
pub length_bare : (ts : List Placed) → length (bare ts) ≡ length ts
length_bare ts = length-map ts (λ t. t.token)

-- no more tokens are left at a fault than there were
pub left_within : (room : ℕ) (ts : Tokens) (deep : Bool) (left : Tokens) → whole room ts ≡ Err (deep, left) → length left ≤ length ts
left_within room ts deep left h =
    let e = left_at_fault (form_whole room) ts (deep, left) h in
    let n = ap length e.1 in let m = length-append e.0 left in omega (arith, n, m)
