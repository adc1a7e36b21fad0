-- When a text is a list of tokens, and else its first fault.
use Rattle.std.specs.Prelude.{◌≡◌, ℕ, ◌+◌, ◌<◌, true, false, List, [], ◌∷◌, ◌++◌, length, take, map, IsTrue, IsFalse}
use Rattle.std.specs.Str.{all_scalars, encode_utf8_all}
use Rattle.std.specs.Str.Lossy.{utf8_valid_len}
use Rattle.rsml_syntax.specs.declared.edition.Edition.{Edition}
use Rattle.rsml_syntax.specs.declared.token.Placed.{Placed}
use Rattle.rsml_syntax.specs.text.Characters.{are_blanks, begins_blanks, is_digit, digits_at, digits_value}
use Rattle.rsml_syntax.specs.text.Tokens.{Tokens, Spells, ends, begins_token, first_is, greatest_number}

-- how many bytes the characters take
abbrev pub bytes_of : List ℕ → ℕ
bytes_of cs = length (encode_utf8_all cs)

-- From the offset `at` on the characters are these tokens, each with its offset, and then the rest. Before each token
-- stand blanks, and each token is as long as the characters allow.
abbrev pub Scans : Edition → ℕ → List ℕ → List Placed → List ℕ → Type 0
Scans e at cs [] rest = cs ≡ rest
Scans e at cs (t ∷ ts) rest = (gap spelling more : List ℕ) × (cs ≡ gap ++ (spelling ++ more)) × IsTrue (are_blanks false gap)
    × (t.at ≡ at + bytes_of gap) × Spells e t.token spelling × IsTrue (ends t.token more) × Scans e (at + bytes_of gap + bytes_of spelling) more ts rest

-- the characters are these tokens, with blanks before, between and after them
abbrev pub ScansWhole : Edition → List ℕ → List Placed → Type 0
ScansWhole e cs ts = (rest : List ℕ) × Scans e 0 cs ts rest × IsTrue (are_blanks true rest)

-- the text is UTF-8, and these tokens
abbrev pub Lexes : Edition → List ℕ → List Placed → Type 0
Lexes e bytes ts = (cs : List ℕ) × IsTrue (all_scalars cs) × (bytes ≡ encode_utf8_all cs) × ScansWhole e cs ts

-- the tokens without their offsets
abbrev pub bare : List Placed → Tokens
bare ts = map (λ t. t.token) ts

-- What can be wrong with a text, with the offset of it.
pub data Fault : Type 0 where
  NotUtf8 : ℕ → Fault
  BadCharacter : ℕ → Fault
  NumberTooBig : ℕ → Fault

-- the longest prefix of the bytes that is UTF-8
abbrev pub utf8_prefix : List ℕ → List ℕ
utf8_prefix bytes = take (utf8_valid_len bytes) bytes

-- the characters of the longest prefix of the bytes that is UTF-8
pub record AreCharacters (bytes cs : List ℕ) : Type 0 where
  pub scalars : IsTrue (all_scalars cs)
  pub encoded : utf8_prefix bytes ≡ encode_utf8_all cs

-- The characters are tokens and then blanks, and after these, at this offset, others that come next.
pub record Reaches (e : Edition) (cs : List ℕ) (at : ℕ) (next : List ℕ) : Type 0 where
  pub tokens : List Placed
  pub before : List ℕ
  pub gap : List ℕ
  pub scanned : Scans e 0 cs tokens (gap ++ next)
  pub blanks : IsTrue (are_blanks false gap)
  pub split : cs ≡ before ++ next
  pub offset : at ≡ bytes_of before

-- From the offset on the text is no longer UTF-8; what stands before is tokens and blanks.
pub record StopsBeingUtf8 (e : Edition) (bytes : List ℕ) (at : ℕ) : Type 0 where
  pub cs : List ℕ
  pub tokens : List Placed
  pub characters : AreCharacters bytes cs
  pub scanned : ScansWhole e cs tokens
  pub offset : at ≡ utf8_valid_len bytes
  pub within : at < length bytes

-- At the offset stands a character with which neither a token nor blanks begin; what stands before is tokens and blanks.
pub record HasBadCharacter (e : Edition) (bytes : List ℕ) (at : ℕ) : Type 0 where
  pub cs : List ℕ
  pub next : List ℕ
  pub characters : AreCharacters bytes cs
  pub reached : Reaches e cs at next
  pub some : next ≡ [] → ⊥
  pub no_blanks : IsFalse (begins_blanks next)
  pub no_token : IsFalse (begins_token next)

-- At the offset begins a number that is too big; what stands before is tokens and blanks.
pub record HasBigNumber (e : Edition) (bytes : List ℕ) (at : ℕ) : Type 0 where
  pub cs : List ℕ
  pub next : List ℕ
  pub characters : AreCharacters bytes cs
  pub reached : Reaches e cs at next
  pub digits : IsTrue (first_is is_digit next)
  pub too_big : greatest_number < digits_value (digits_at next)

-- the first fault of a text
abbrev pub LexFault : Edition → List ℕ → Fault → Type 0
LexFault e bytes (NotUtf8 at) = StopsBeingUtf8 e bytes at
LexFault e bytes (BadCharacter at) = HasBadCharacter e bytes at
LexFault e bytes (NumberTooBig at) = HasBigNumber e bytes at
