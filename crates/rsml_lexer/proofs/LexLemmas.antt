-- The answers of the lexer: what it says of each is what the text has.
use Rattle.std.proofs.Common.{◌≡◌, ℕ, ◌-◌, ◌<◌, ◌≤◌, inl, inr, List, length, Result, Ok, Err, Vec, Global, refl, sym, ap, ◌∙◌, subst, arith}
use Rattle.std.specs.Str.{encode_utf8_all, chars, IsUtf8}
use Rattle.std.specs.Str.Lossy.{utf8_valid_len}
use Rattle.std.proofs.lemmas.List.{take_all, length-take-le}
use Rattle.std.proofs.lemmas.Str.{encodes-chars, scalars-chars, utf8_valid_len_le, utf8_valid_len-IsUtf8}
use Rattle.rsml_syntax.specs.declared.edition.Edition.{Edition}
use Rattle.rsml_syntax.specs.declared.token.Placed.{Placed}
use Rattle.rsml_syntax.specs.text.Lexing.{ScansWhole, Lexes, Fault, LexFault, AreCharacters, utf8_prefix}
use Rattle.rsml_syntax.specs.text.Lexing as faults
use Rattle.rsml_syntax.specs.helpers.Scanning.{TooBig, Bad}
use Rattle.rsml_syntax.proofs.ScanLemmas.{lexes_once, fault_once, lexes_or_faults, lexes_tokens, stuck_bad, stuck_big}
use Rattle.rsml_lexer.specs.declared.fault.LexError.{LexError}
use Rattle.rsml_lexer.specs.declared.fault.LexError.TheVariants as errors
use Rattle.rsml_lexer.specs.Answers.{Takes, Reads, error_of, Lexed}
use Rattle.rsml_lexer.proofs.ScanSteps.{Reached, stuck_reached}

pub all_valid : (bytes : List ℕ) → IsUtf8 bytes → bytes ≡ utf8_prefix bytes
all_valid bytes u = sym (take_all (utf8_valid_len bytes) bytes (omega (arith, utf8_valid_len-IsUtf8 bytes u)))

-- an error at the front of what is left
pub fails_here : (e : Edition) (text : List ℕ) (found : List Placed) (rest : List ℕ) (place : ℕ) (error : LexError) → IsUtf8 text → Reached e text found rest →
    Takes e (chars rest) place (Err error) → place ≡ length text - length rest → Reads e (chars text) (Err error)
fails_here e text found rest place (errors.NotUtf8 at) u r h is = h
fails_here e text found rest place (errors.BadCharacter at) u r h is = stuck_reached e text found rest Bad at place u r h.0 h.1 is
fails_here e text found rest place (errors.NumberTooBig at) u r h is = stuck_reached e text found rest TooBig at place u r h.0 h.1 is
fails_here e text found rest place errors.NoMemory u r h is = tt

error_same : (f g : Fault) → error_of f ≡ error_of g → f ≡ g
error_same (faults.NotUtf8 m) (faults.NotUtf8 n) h = cc
error_same (faults.NotUtf8 m) (faults.BadCharacter n) h = absurd (cc)
error_same (faults.NotUtf8 m) (faults.NumberTooBig n) h = absurd (cc)
error_same (faults.BadCharacter m) (faults.NotUtf8 n) h = absurd (cc)
error_same (faults.BadCharacter m) (faults.BadCharacter n) h = cc
error_same (faults.BadCharacter m) (faults.NumberTooBig n) h = absurd (cc)
error_same (faults.NumberTooBig m) (faults.NotUtf8 n) h = absurd (cc)
error_same (faults.NumberTooBig m) (faults.BadCharacter n) h = absurd (cc)
error_same (faults.NumberTooBig m) (faults.NumberTooBig n) h = cc

no_fault : (f : Fault) → errors.NoMemory ≡ error_of f → ⊥
no_fault (faults.NotUtf8 m) h = cc
no_fault (faults.BadCharacter m) h = cc
no_fault (faults.NumberTooBig m) h = cc

pub tokens_lexed : (e : Edition) (bytes : List ℕ) (v : Vec Placed Global) → Lexes e bytes v.items → Lexed e bytes (Ok v)
tokens_lexed e bytes v h =
    let t = lexes_tokens e bytes v.items h in
    record {
      ok = h;
      fault = λ f n. absurd (cc);
      only_ok = λ ts k. lexes_once e bytes v.items ts h k;
      only_fault = λ f k. lexes_or_faults e bytes v.items f h k;
      tokens = t.0;
      few = omega (arith, t.1, v.ok);
    }

pub fault_lexed : (e : Edition) (bytes : List ℕ) (f : Fault) → LexFault e bytes f → Lexed e bytes (Err (error_of f))
fault_lexed e bytes f h = record {
  ok = tt;
  fault = λ g n. subst (LexFault e bytes) (error_same f g (same_error (error_of f) (error_of g) n)) h;
  only_ok = λ ts k. absurd (lexes_or_faults e bytes ts f k h);
  only_fault = λ g k. inl (ap error_of (fault_once e bytes f g h k));
  tokens = tt;
  few = tt;
}
  where
    same_error : (a b : LexError) → (let x : Result (Vec Placed Global) LexError = Err a in x) ≡ Err b → a ≡ b
    same_error a b h = cc

pub no_memory_lexed : (e : Edition) (bytes : List ℕ) → Lexed e bytes (Err errors.NoMemory)
no_memory_lexed e bytes = record {
  ok = tt;
  fault = λ f n. absurd (no_fault f (same_error errors.NoMemory (error_of f) n));
  only_ok = λ ts k. refl;
  only_fault = λ f k. inr refl;
  tokens = tt;
  few = tt;
}
  where
    same_error : (a b : LexError) → (let x : Result (Vec Placed Global) LexError = Err a in x) ≡ Err b → a ≡ b
    same_error a b h = cc

-- the characters of the prefix
prefix_is : (bytes text : List ℕ) → IsUtf8 text → text ≡ utf8_prefix bytes → utf8_prefix bytes ≡ encode_utf8_all (chars text)
prefix_is bytes text u is = sym is ∙ sym (encodes-chars text u)

pub broken_lexed : (e : Edition) (bytes text : List ℕ) (ts : List Placed) → IsUtf8 text → text ≡ utf8_prefix bytes → ScansWhole e (chars text) ts → length text < length bytes →
    Lexed e bytes (Err (errors.NotUtf8 (length text)))
broken_lexed e bytes text ts u is h short =
    let at : length text ≡ utf8_valid_len bytes = ap length is ∙ length-take-le (utf8_valid_len bytes) bytes (utf8_valid_len_le bytes) in
    fault_lexed e bytes (faults.NotUtf8 (length text)) (record {
      cs = chars text;
      tokens = ts;
      characters = record { scalars = scalars-chars text u; encoded = prefix_is bytes text u is };
      scanned = h;
      offset = at;
      within = short;
    })

pub whole_lexed : (e : Edition) (bytes text : List ℕ) (v : Vec Placed Global) → IsUtf8 text → text ≡ utf8_prefix bytes → ScansWhole e (chars text) v.items → length bytes ≤ length text →
    Lexed e bytes (Ok v)
whole_lexed e bytes text v u is h long =
    let at : length text ≡ utf8_valid_len bytes = ap length is ∙ length-take-le (utf8_valid_len bytes) bytes (utf8_valid_len_le bytes) in
    let all : utf8_prefix bytes ≡ bytes = take_all (utf8_valid_len bytes) bytes (omega (arith, at, long)) in
    tokens_lexed e bytes v (chars text, scalars-chars text u, sym all ∙ prefix_is bytes text u is, h)

pub error_lexed : (e : Edition) (bytes text : List ℕ) (error : LexError) → IsUtf8 text → text ≡ utf8_prefix bytes → Reads e (chars text) (Err error) → Lexed e bytes (Err error)
error_lexed e bytes text (errors.NotUtf8 at) u is h = absurd h
error_lexed e bytes text (errors.BadCharacter at) u is h =
    fault_lexed e bytes (faults.BadCharacter at) (stuck_bad e bytes (chars text) at (scalars-chars text u) (prefix_is bytes text u is) h)
error_lexed e bytes text (errors.NumberTooBig at) u is h =
    fault_lexed e bytes (faults.NumberTooBig at) (stuck_big e bytes (chars text) at (scalars-chars text u) (prefix_is bytes text u is) h)
error_lexed e bytes text errors.NoMemory u is h = no_memory_lexed e bytes
