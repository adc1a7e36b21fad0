-- Reading all tokens of a text, one after another.
use Rattle.std.proofs.Common.{◌≡◌, ℕ, ◌+◌, ◌-◌, ◌<◌, ◌≤◌, Bool, ◌==◌, true, false, List, [], ◌∷◌, ◌++◌, length, drop, refl, sym, ap, ◌∙◌, subst, arith, length-append}
use Rattle.std.proofs.lemmas.Bool.Decides.{nat_tests}
use Rattle.std.specs.Str.{encode_utf8_all, all_scalars, chars, IsUtf8, IsCharBoundary}
use Rattle.std.proofs.lemmas.List.{drop_at, length-drop}
use Rattle.std.proofs.lemmas.Str.{encodes-append, chars-encodes, encodes-chars, scalars-chars, length-le-encodes, IsCharBoundary-from_drop, chars-nil}
use Rattle.rsml_syntax.specs.declared.edition.Edition.{Edition}
use Rattle.rsml_syntax.specs.declared.token.Placed.{Placed}
use Rattle.rsml_syntax.specs.declared.token.Token.{Token}
use Rattle.rsml_syntax.specs.text.Characters.{are_blanks}
use Rattle.rsml_syntax.specs.text.Lexing.{bytes_of, Scans, ScansWhole}
use Rattle.rsml_syntax.specs.helpers.Scanning.{after_blanks, Front, Cut, front, Stuck}
use Rattle.rsml_syntax.specs.text.Tokens.{Spells, ends}
use Rattle.rsml_syntax.proofs.FrontLemmas.{Means, front_means, token_cut}
use Rattle.rsml_syntax.proofs.ScanLemmas.{bytes_of-append, next_token, scans_bytes, scans_whole, scalars_apart, after_within}
use Rattle.rsml_lexer.proofs.ByteLemmas.{blanks_text}

placed : Token → ℕ → Placed
placed t n = record { token = t; at = n }

-- one more token
scans_push : (e : Edition) (at : ℕ) (cs : List ℕ) (ts : List Placed) (left gap s more : List ℕ) (t : Placed) → Scans e at cs ts left → left ≡ gap ++ (s ++ more) →
    are_blanks false gap ≡ true → Spells e t.token s → ends t.token more ≡ true → t.at + bytes_of (s ++ more) ≡ at + bytes_of cs → Scans e at cs (ts ++ (t ∷ [])) more
scans_push e at cs [] left gap s more t h is blank spells stop place =
    let whole : cs ≡ gap ++ (s ++ more) = h ∙ is in
    (gap, s, more, whole, blank, omega (arith, place, ap bytes_of whole, bytes_of-append gap (s ++ more)), spells, stop, refl)
scans_push e at cs (u ∷ us) left gap s more t h is blank spells stop place = (
  h.0,
  h.1,
  h.2,
  h.3,
  h.4,
  h.5,
  h.6,
  h.7,
  scans_push e (at + bytes_of h.0 + bytes_of h.1) h.2 us left gap s more t h.8 is blank spells stop
      (omega (arith, place, ap bytes_of h.3, bytes_of-append h.0 (h.1 ++ h.2), bytes_of-append h.1 h.2)),
)

-- these tokens are found, and this text is left, which begins with no blank
pub record Reached (e : Edition) (text : List ℕ) (found : List Placed) (rest : List ℕ) : Type 0 where
  pub left : List ℕ
  pub scanned : Scans e 0 (chars text) found left
  pub blanks : after_blanks left ≡ chars rest
  pub utf8 : IsUtf8 rest

text_bytes : (text : List ℕ) → IsUtf8 text → bytes_of (chars text) ≡ length text
text_bytes text u = ap length (encodes-chars text u)

pub reached_within : (e : Edition) (text : List ℕ) (found : List Placed) (rest : List ℕ) → IsUtf8 text → Reached e text found rest → length rest ≤ length text
reached_within e text found rest u r =
    let s = scans_bytes e 0 (chars text) found r.left r.scanned in
    omega (arith, text_bytes text u, text_bytes rest r.utf8, ap bytes_of r.blanks, after_within r.left, ap bytes_of s.1, bytes_of-append s.0 r.left)

pub none_reached : (e : Edition) (text rest : List ℕ) → IsUtf8 text → rest ≡ after_blanks text → Reached e text [] rest
none_reached e text rest u is =
    let b = blanks_text text u in
    record { left = chars text; scanned = refl; blanks = sym (ap chars is ∙ b.1); utf8 = subst IsUtf8 (sym is) b.0 }

-- what a token leaves
pub record Leaves (rest more : List ℕ) (len : ℕ) : Type 0 where
  pub after : drop len rest ≡ encode_utf8_all more
  pub utf8 : IsUtf8 (drop len rest)
  pub characters : chars (drop len rest) ≡ more
  pub within : len ≤ length rest
  pub some : 0 < len

pub cut_leaves : (e : Edition) (rest : List ℕ) (t : Token) (s more : List ℕ) (len : ℕ) → IsUtf8 rest → front e (chars rest) ≡ Cut t s more → len ≡ bytes_of s → Leaves rest more len
cut_leaves e rest t s more len u is size =
    let m = subst (Means e (chars rest)) is (front_means e (chars rest)) in
    let c = token_cut e t s more m.1 m.2 in
    let whole : rest ≡ encode_utf8_all s ++ encode_utf8_all more = sym (encodes-chars rest u) ∙ ap encode_utf8_all m.0 ∙ encodes-append s more in
    let scalar : all_scalars more ≡ true = (scalars_apart s more (ap all_scalars (sym m.0) ∙ scalars-chars rest u)).1 in
    let after : drop len rest ≡ encode_utf8_all more = ap (drop len) whole ∙ drop_at (encode_utf8_all s) (encode_utf8_all more) len (sym size) in
    record {
      after = after;
      utf8 = (more, (scalar, sym after));
      characters = ap chars after ∙ chars-encodes more scalar;
      within = omega (arith, size, ap length whole, length-append (encode_utf8_all s) (encode_utf8_all more));
      some = omega (arith, size, length-le-encodes s, c.some);
    }

-- the text may be cut after a token
pub leaves_cut : (rest more : List ℕ) (len : ℕ) → Leaves rest more len → IsCharBoundary rest len
leaves_cut rest more len l = IsCharBoundary-from_drop rest len l.within l.utf8

-- the token at the front is the next one
pub more_reached : (e : Edition) (text : List ℕ) (found : List Placed) (rest : List ℕ) (t : Placed) (s more : List ℕ) (len : ℕ) (new : List ℕ) → IsUtf8 text → Reached e text found rest →
    front e (chars rest) ≡ Cut t.token s more → len ≡ bytes_of s → t.at ≡ length text - length rest → new ≡ after_blanks (drop len rest) → Reached e text (found ++ (t ∷ [])) new
more_reached e text found rest t s more len new u r is size place new_is =
    let l = cut_leaves e rest t.token s more len r.utf8 is size in
    let n = next_token e r.left s more t.token (ap (front e) r.blanks ∙ is) in
    let b = blanks_text (drop len rest) l.utf8 in
    let m = subst (Means e (chars rest)) is (front_means e (chars rest)) in
    let within = reached_within e text found rest u r in
    record {
      left = more;
      scanned = scans_push e 0 (chars text) found r.left n.0 s more t r.scanned n.1 n.2 n.3 n.4
          (omega (arith, place, within, text_bytes text u, text_bytes rest r.utf8, ap bytes_of m.0));
      blanks = ap after_blanks (sym l.characters) ∙ sym b.1 ∙ ap chars (sym new_is);
      utf8 = subst IsUtf8 (sym new_is) b.0;
    }

pub less_left : (e : Edition) (rest : List ℕ) (t : Token) (s more : List ℕ) (len : ℕ) (new : List ℕ) → IsUtf8 rest → front e (chars rest) ≡ Cut t s more → len ≡ bytes_of s →
    length new ≤ length (drop len rest) → length new < length rest
less_left e rest t s more len new u is size le =
    let l = cut_leaves e rest t s more len u is size in
    omega (arith, le, length-drop len rest, l.within, l.some)

pub no_bytes : (b : Bool) (n : ℕ) → b ≡ (n == 0) → b ≡ true → n ≡ 0
no_bytes b n is h = let e = sym is ∙ h in grind (arith, nat_tests)

-- all of the text is read
pub all_reached : (e : Edition) (text : List ℕ) (found : List Placed) (rest : List ℕ) → Reached e text found rest → length rest ≡ 0 → ScansWhole e (chars text) found
unfolding front
all_reached e text found rest r none =
    let empty : chars rest ≡ [] = no_characters rest none in
    scans_whole e (chars text) found r.left r.scanned (ap (front e) (r.blanks ∙ empty))
  where
    no_characters : (rest : List ℕ) → length rest ≡ 0 → chars rest ≡ []
    no_characters [] h = chars-nil
    no_characters (c ∷ rest) h = absurd (omega arith)

-- no token stands next
pub stuck_reached : (e : Edition) (text : List ℕ) (found : List Placed) (rest : List ℕ) (f : Front) (at place : ℕ) → IsUtf8 text → Reached e text found rest →
    front e (chars rest) ≡ f → at ≡ place → place ≡ length text - length rest → Stuck e (chars text) at f
stuck_reached e text found rest f at place u r is same where_ =
    record {
      tokens = found;
      rest = r.left;
      ahead = chars rest;
      scanned = r.scanned;
      is = ap (front e) r.blanks ∙ is;
      blanks = r.blanks;
      offset = let within = reached_within e text found rest u r in omega (arith, same, where_, within, text_bytes text u, text_bytes rest r.utf8);
    }
