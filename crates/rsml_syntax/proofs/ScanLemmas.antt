-- A text is at most one list of tokens, or has at most one first fault, and never both.
use Rattle.std.proofs.Common.{◌≡◌, ℕ, zero, suc, ◌+◌, ◌-◌, ◌<◌, ◌≤◌, Bool, true, false, ◌⊎◌, inl, inr, List, [], ◌∷◌, ◌++◌, length, take, refl, sym, ap, ◌∙◌, subst, arith, append_assoc, length-append}
use Rattle.std.specs.Prelude.{if◌then◌else◌}
use Rattle.std.specs.Str.{encode_utf8_all, all_scalars, IsUtf8, is_utf8}
use Rattle.std.specs.Str.Lossy.{utf8_valid_len, valid_len_up_to}
use Rattle.std.proofs.lemmas.List.{take_all, length-take-le}
use Rattle.std.proofs.lemmas.Str.{encodes_same, encodes-append, length-le-encodes, utf8_valid_len-IsUtf8, utf8_valid_len_le, IsUtf8-nil, IsUtf8-from_is_utf8}
use Rattle.std.proofs.lemmas.Bool.{cases_lt}
use lib.Utf8.{scalar}
use Rattle.rsml_syntax.specs.declared.edition.Edition.{Edition}
use Rattle.rsml_syntax.specs.declared.token.Placed.{Placed}
use Rattle.rsml_syntax.specs.declared.token.Token.{Token}
use Rattle.rsml_syntax.specs.declared.token.Token.TheVariants as token
use Rattle.rsml_syntax.specs.text.Characters.{are_blanks, begins_blanks}
use Rattle.rsml_syntax.specs.text.Lexing.{bytes_of, Scans, ScansWhole, Lexes, bare, Fault, NotUtf8, BadCharacter, NumberTooBig, Reaches, utf8_prefix, LexFault}
use Rattle.rsml_syntax.specs.helpers.Scanning.{after_blanks, Front, Nothing, Cut, TooBig, Bad, front, next, Stuck}
use Rattle.rsml_syntax.specs.text.Tokens.{Spells, ends, IsToken, AreTokens}
use Rattle.rsml_syntax.proofs.CharacterLemmas.{both, blanks_ahead, blanks_before, blanks_only, blanks_to_end, no_blanks}
use Rattle.rsml_syntax.proofs.FrontLemmas.{token_cut, bad_front, big_front, Means, front_means}

abbrev placed : Token → ℕ → Placed
placed t n = record { token = t; at = n }

pub bytes_of-append : (cs ds : List ℕ) → bytes_of (cs ++ ds) ≡ bytes_of cs + bytes_of ds
bytes_of-append cs ds = ap length (encodes-append cs ds) ∙ length-append (encode_utf8_all cs) (encode_utf8_all ds)

-- no token follows
abbrev pub stops : Front → Bool
stops (Cut t s more) = false
stops _ = true

-- a token after blanks is what comes next
pub token_next : (e : Edition) (cs gap s more : List ℕ) (t : Token) → cs ≡ gap ++ (s ++ more) → are_blanks false gap ≡ true → Spells e t s → ends t more ≡ true →
    (next e cs ≡ Cut t s more) × (after_blanks cs ≡ s ++ more) × (0 < length s)
token_next e cs gap s more t whole blank spelled stop =
    let c = token_cut e t s more spelled stop in
    let after : after_blanks cs ≡ s ++ more = ap after_blanks whole ∙ blanks_ahead gap (s ++ more) blank ∙ no_blanks (s ++ more) c.no_blank in
    (ap (front e) after ∙ c.cut, after, c.some)

nothing_cut : (e : Edition) (t : Token) (s more : List ℕ) → front e [] ≡ Cut t s more → ⊥
unfolding front
nothing_cut e t s more h = cc

-- what came next is a token after blanks
pub next_token : (e : Edition) (cs s more : List ℕ) (t : Token) → next e cs ≡ Cut t s more →
    (gap : List ℕ) × (cs ≡ gap ++ (s ++ more)) × (are_blanks false gap ≡ true) × Spells e t s × (ends t more ≡ true)
next_token e cs s more t h =
    let m = subst (Means e (after_blanks cs)) h (front_means e (after_blanks cs)) in
    let b = blanks_before cs (λ none. let k = sym (ap (front e) none) ∙ h in nothing_cut e t s more k) in
    (b.0, b.1 ∙ ap (λ l. b.0 ++ l) m.0, b.2, m.1, m.2)

-- where tokens begin is where the bytes before them end
pub scans_bytes : (e : Edition) (at : ℕ) (cs : List ℕ) (ts : List Placed) (rest : List ℕ) → Scans e at cs ts rest →
    (front : List ℕ) × (cs ≡ front ++ rest)
scans_bytes e at cs [] rest h = ([], h)
scans_bytes e at cs (t ∷ ts) rest h =
    let r = scans_bytes e (at + bytes_of h.0 + bytes_of h.1) h.2 ts rest h.8 in
    (h.0 ++ (h.1 ++ r.0), h.3 ∙ ap (λ l. h.0 ++ (h.1 ++ l)) r.1 ∙ sym (append_assoc h.0 (h.1 ++ r.0) rest ∙ ap (λ l. h.0 ++ l) (append_assoc h.1 r.0 rest)))

-- two lists of tokens that no token follows are one
pub scans_same : (e : Edition) (at : ℕ) (cs : List ℕ) (ts us : List Placed) (rest left : List ℕ) →
    Scans e at cs ts rest → stops (next e rest) ≡ true → Scans e at cs us left → stops (next e left) ≡ true → (ts ≡ us) × (rest ≡ left)
scans_same e at cs [] [] rest left h hs k ks = (refl, sym h ∙ k)
scans_same e at cs [] (u ∷ us) rest left h hs k ks =
    let n = token_next e cs k.0 k.1 k.2 u.token k.3 k.4 k.6 k.7 in
    absurd (let s = sym hs ∙ ap (λ l. stops (next e l)) (sym h) ∙ ap stops n.0 in cc)
scans_same e at cs (t ∷ ts) [] rest left h hs k ks =
    let n = token_next e cs h.0 h.1 h.2 t.token h.3 h.4 h.6 h.7 in
    absurd (let s = sym ks ∙ ap (λ l. stops (next e l)) (sym k) ∙ ap stops n.0 in cc)
scans_same e at cs (t ∷ ts) (u ∷ us) rest left h hs k ks =
    let n = token_next e cs h.0 h.1 h.2 t.token h.3 h.4 h.6 h.7 in
    let m = token_next e cs k.0 k.1 k.2 u.token k.3 k.4 k.6 k.7 in
    let both : Cut t.token h.1 h.2 ≡ Cut u.token k.1 k.2 = sym n.0 ∙ m.0 in
    let token : t.token ≡ u.token = cc in
    let spelling : h.1 ≡ k.1 = cc in
    let more : h.2 ≡ k.2 = cc in
    let gap : bytes_of h.0 ≡ bytes_of k.0 = same_gap h.0 k.0 (h.1 ++ h.2) (k.1 ++ k.2) (ap (λ l. l ++ h.2) spelling ∙ ap (λ l. k.1 ++ l) more) (sym h.3 ∙ k.3) in
    let place : t.at ≡ u.at = h.5 ∙ ap (λ n. at + n) gap ∙ sym k.5 in
    let from : at + bytes_of k.0 + bytes_of k.1 ≡ at + bytes_of h.0 + bytes_of h.1 = omega (arith, gap, ap bytes_of spelling) in
    let rest_of_it = subst (λ (n : ℕ). Scans e n k.2 us left) from k.8 in
    let r = scans_same e (at + bytes_of h.0 + bytes_of h.1) h.2 ts us rest left h.8 hs (subst (λ (l : List ℕ). Scans e (at + bytes_of h.0 + bytes_of h.1) l us left) (sym more) rest_of_it) ks in
    (cons_same t u ts us token place r.0, r.1)
  where
    same_gap : (g l xs ys : List ℕ) → xs ≡ ys → g ++ xs ≡ l ++ ys → bytes_of g ≡ bytes_of l
    same_gap g l xs ys e w = omega (arith, ap bytes_of e, ap bytes_of w, bytes_of-append g xs, bytes_of-append l ys)

    cons_same : (t u : Placed) (ts us : List Placed) → t.token ≡ u.token → t.at ≡ u.at → ts ≡ us → t ∷ ts ≡ u ∷ us
    cons_same t u ts us a b c = ap (λ x. placed x t.at ∷ ts) a ∙ ap (λ n. placed u.token n ∷ ts) b ∙ ap (λ l. u ∷ l) c

-- The ways to stop.

whole_stops : (e : Edition) (rest : List ℕ) → are_blanks true rest ≡ true → next e rest ≡ Nothing
unfolding front
whole_stops e rest h = ap (front e) (blanks_to_end rest h)

reached : (e : Edition) (cs : List ℕ) (at : ℕ) (ahead : List ℕ) (f : Front) → Reaches e cs at ahead → front e ahead ≡ f → begins_blanks ahead ≡ false → Stuck e cs at f
reached e cs at ahead f r h plain =
    let after : after_blanks (r.gap ++ ahead) ≡ ahead = blanks_ahead r.gap ahead r.blanks ∙ no_blanks ahead plain in
    record {
      tokens = r.tokens;
      rest = r.gap ++ ahead;
      ahead = ahead;
      scanned = r.scanned;
      is = ap (front e) after ∙ h;
      blanks = after;
      offset = omega (arith, r.offset, ap bytes_of r.split, bytes_of-append r.before ahead);
    }

stuck_same : (e : Edition) (cs : List ℕ) (m n : ℕ) (f g : Front) → stops f ≡ true → stops g ≡ true → Stuck e cs m f → Stuck e cs n g → (m ≡ n) × (f ≡ g)
stuck_same e cs m n f g fs gs a b =
    let s = scans_same e 0 cs a.tokens b.tokens a.rest b.rest a.scanned (ap stops a.is ∙ fs) b.scanned (ap stops b.is ∙ gs) in
    let ahead : a.ahead ≡ b.ahead = sym a.blanks ∙ ap after_blanks s.1 ∙ b.blanks in
    (omega (arith, a.offset, b.offset, ap bytes_of ahead), sym a.is ∙ ap (next e) s.1 ∙ b.is)

whole_stuck : (e : Edition) (cs : List ℕ) (ts : List Placed) → ScansWhole e cs ts → Stuck e cs (bytes_of cs) Nothing
whole_stuck e cs ts h = record { tokens = ts; rest = h.0; ahead = []; scanned = h.1; is = whole_stops e h.0 h.2; blanks = blanks_to_end h.0 h.2; offset = omega arith }

-- The laws on texts.

pub whole_same : (e : Edition) (cs : List ℕ) (ts us : List Placed) → ScansWhole e cs ts → ScansWhole e cs us → ts ≡ us
whole_same e cs ts us a b =
    (scans_same e 0 cs ts us a.0 b.0 a.1 (ap stops (whole_stops e a.0 a.2)) b.1 (ap stops (whole_stops e b.0 b.2))).0

-- a text has at most one token list
pub lexes_once : (e : Edition) (bytes : List ℕ) (ts us : List Placed) → Lexes e bytes ts → Lexes e bytes us → ts ≡ us
lexes_once e bytes ts us a b =
    let same : b.0 ≡ a.0 = encodes_same b.0 a.0 (sym b.2 ∙ a.2) in
    whole_same e a.0 ts us a.3 (subst (λ (cs : List ℕ). ScansWhole e cs us) same b.3)

-- the characters of the longest front that is UTF-8, and how far the tokens reach in it
pub record Faulty (e : Edition) (bytes : List ℕ) (at : ℕ) (f : Front) : Type 0 where
  pub characters : List ℕ
  pub encoded : utf8_prefix bytes ≡ encode_utf8_all characters
  pub stuck : Stuck e characters at f

-- what a fault shows at its offset
abbrev pub shown : Fault → Front
shown (NotUtf8 at) = Nothing
shown (BadCharacter at) = Bad
shown (NumberTooBig at) = TooBig

abbrev pub offset_of : Fault → ℕ
offset_of (NotUtf8 at) = at
offset_of (BadCharacter at) = at
offset_of (NumberTooBig at) = at

length_front : (bytes : List ℕ) → length (utf8_prefix bytes) ≡ utf8_valid_len bytes
length_front bytes = length-take-le (utf8_valid_len bytes) bytes (utf8_valid_len_le bytes)

pub fault_is : (e : Edition) (bytes : List ℕ) (f : Fault) → LexFault e bytes f → Faulty e bytes (offset_of f) (shown f)
fault_is e bytes (NotUtf8 at) h =
    let at_end : at ≡ bytes_of h.cs = h.offset ∙ sym (length_front bytes) ∙ ap length h.characters.encoded in
    record { characters = h.cs; encoded = h.characters.encoded; stuck = subst (λ (n : ℕ). Stuck e h.cs n Nothing) (sym at_end) (whole_stuck e h.cs h.tokens h.scanned) }
fault_is e bytes (BadCharacter at) h =
    record {
      characters = h.cs;
      encoded = h.characters.encoded;
      stuck = reached e h.cs at h.next Bad h.reached (bad_front e h.next h.some h.no_token) h.no_blanks;
    }
fault_is e bytes (NumberTooBig at) h =
    let big = big_front e h.next h.digits h.too_big in
    record { characters = h.cs; encoded = h.characters.encoded; stuck = reached e h.cs at h.next TooBig h.reached big.0 big.1 }

-- a text has at most one first fault
pub fault_once : (e : Edition) (bytes : List ℕ) (f g : Fault) → LexFault e bytes f → LexFault e bytes g → f ≡ g
fault_once e bytes f g h k =
    let a = fault_is e bytes f h in
    let b = fault_is e bytes g k in
    let same : b.characters ≡ a.characters = encodes_same b.characters a.characters (sym b.encoded ∙ a.encoded) in
    let s = stuck_same e a.characters (offset_of f) (offset_of g) (shown f) (shown g) (shown_stops f) (shown_stops g) a.stuck (subst (λ (cs : List ℕ). Stuck e cs (offset_of g) (shown g)) same b.stuck) in
    told f g s.0 s.1
  where
    shown_stops : (f : Fault) → stops (shown f) ≡ true
    shown_stops (NotUtf8 at) = refl
    shown_stops (BadCharacter at) = refl
    shown_stops (NumberTooBig at) = refl

    told : (f g : Fault) → offset_of f ≡ offset_of g → shown f ≡ shown g → f ≡ g
    told (NotUtf8 m) (NotUtf8 n) a b = ap NotUtf8 a
    told (NotUtf8 m) (BadCharacter n) a b = absurd (cc)
    told (NotUtf8 m) (NumberTooBig n) a b = absurd (cc)
    told (BadCharacter m) (NotUtf8 n) a b = absurd (cc)
    told (BadCharacter m) (BadCharacter n) a b = ap BadCharacter a
    told (BadCharacter m) (NumberTooBig n) a b = absurd (cc)
    told (NumberTooBig m) (NotUtf8 n) a b = absurd (cc)
    told (NumberTooBig m) (BadCharacter n) a b = absurd (cc)
    told (NumberTooBig m) (NumberTooBig n) a b = ap NumberTooBig a

utf8_front : (bytes cs : List ℕ) → all_scalars cs ≡ true → bytes ≡ encode_utf8_all cs → (utf8_valid_len bytes ≡ length bytes) × (utf8_prefix bytes ≡ encode_utf8_all cs)
utf8_front bytes cs scalar h =
    let n = utf8_valid_len-IsUtf8 bytes (cs, (scalar, sym h)) in
    (n, take_all (utf8_valid_len bytes) bytes (omega arith) ∙ h)

-- never a token list and a fault
pub lexes_or_faults : (e : Edition) (bytes : List ℕ) (ts : List Placed) (f : Fault) → Lexes e bytes ts → LexFault e bytes f → ⊥
lexes_or_faults e bytes ts f h k = differ f k
  where
    differs : (at : ℕ) (g : Front) → stops g ≡ true → (g ≡ Nothing → ⊥) → Faulty e bytes at g → ⊥
    differs at g s other b =
        let same : b.characters ≡ h.0 = encodes_same b.characters h.0 (sym b.encoded ∙ (utf8_front bytes h.0 h.1 h.2).1) in
        other (sym (stuck_same e h.0 (bytes_of h.0) at Nothing g refl s (whole_stuck e h.0 ts h.3) (subst (λ (cs : List ℕ). Stuck e cs at g) same b.stuck)).1)

    differ : (f : Fault) → LexFault e bytes f → ⊥
    differ (NotUtf8 at) k = omega (arith, (utf8_front bytes h.0 h.1 h.2).0, k.offset, k.within)
    differ (BadCharacter at) k = differs at Bad refl (λ h. cc) (fault_is e bytes (BadCharacter at) k)
    differ (NumberTooBig at) k = differs at TooBig refl (λ h. cc) (fault_is e bytes (NumberTooBig at) k)

-- Each text is a list of tokens or has a first fault.

pub after_within : (rest : List ℕ) → bytes_of (after_blanks rest) ≤ bytes_of rest
after_within rest = elim (is_nil (after_blanks rest)) [
  | inl none ↦ omega (arith, ap bytes_of none)
  | inr some ↦ let b = blanks_before rest some in omega (arith, ap bytes_of b.1, bytes_of-append b.0 (after_blanks rest))
]
  where
    is_nil : (l : List ℕ) → (l ≡ []) ⊎ (l ≡ [] → ⊥)
    is_nil [] = inl refl
    is_nil (c ∷ cs) = inr (λ h. cc)

stuck_scans : (e : Edition) (cs : List ℕ) (ts : List Placed) (rest : List ℕ) (f : Front) → Scans e 0 cs ts rest → next e rest ≡ f →
    Stuck e cs (bytes_of cs - bytes_of (after_blanks rest)) f
stuck_scans e cs ts rest f h is = record { tokens = ts; rest = rest; ahead = after_blanks rest; scanned = h; is = is; blanks = refl; offset = fits (after_within rest) }
  where
    fits : bytes_of (after_blanks rest) ≤ bytes_of rest → bytes_of cs - bytes_of (after_blanks rest) + bytes_of (after_blanks rest) ≡ bytes_of cs
    fits le = let b = scans_bytes e 0 cs ts rest h in omega (arith, le, ap bytes_of b.1, bytes_of-append b.0 rest)

-- nothing is left but blanks
pub scans_whole : (e : Edition) (cs : List ℕ) (ts : List Placed) (rest : List ℕ) → Scans e 0 cs ts rest → next e rest ≡ Nothing → ScansWhole e cs ts
scans_whole e cs ts rest h is = (rest, h, blanks_only rest (subst (Means e (after_blanks rest)) is (front_means e (after_blanks rest))))

some_after : (e : Edition) (rest : List ℕ) (f : Front) → next e rest ≡ f → (f ≡ Nothing → ⊥) → after_blanks rest ≡ [] → ⊥
unfolding front
some_after e rest f is some none = some (sym is ∙ ap (front e) none)

stuck_reaches : (e : Edition) (cs : List ℕ) (at : ℕ) (f : Front) (s : Stuck e cs at f) → (f ≡ Nothing → ⊥) →
    Reaches e cs at (after_blanks s.rest) × (begins_blanks (after_blanks s.rest) ≡ false)
stuck_reaches e cs at f s some =
    let b = blanks_before s.rest (some_after e s.rest f s.is some) in
    let scanned = subst (λ (l : List ℕ). Scans e 0 cs s.tokens l) b.1 s.scanned in
    let split = scans_bytes e 0 cs s.tokens (b.0 ++ after_blanks s.rest) scanned in
    let whole : cs ≡ (split.0 ++ b.0) ++ after_blanks s.rest = split.1 ∙ sym (append_assoc split.0 b.0 (after_blanks s.rest)) in (
      record {
        tokens = s.tokens;
        before = split.0 ++ b.0;
        gap = b.0;
        scanned = scanned;
        blanks = b.2;
        split = whole;
        offset = omega (arith, s.offset, ap bytes_of s.blanks, ap bytes_of whole, bytes_of-append (split.0 ++ b.0) (after_blanks s.rest));
      },
      b.3,
    )

pub stuck_bad : (e : Edition) (bytes cs : List ℕ) (at : ℕ) → all_scalars cs ≡ true → utf8_prefix bytes ≡ encode_utf8_all cs → Stuck e cs at Bad → LexFault e bytes (BadCharacter at)
stuck_bad e bytes cs at scalar is s =
    let m = subst (Means e (after_blanks s.rest)) s.is (front_means e (after_blanks s.rest)) in
    let r = stuck_reaches e cs at Bad s (λ h. cc) in
    record {
      cs = cs;
      next = after_blanks s.rest;
      characters = record { scalars = scalar; encoded = is };
      reached = r.0;
      some = m.0;
      no_blanks = r.1;
      no_token = m.1;
    }

pub stuck_big : (e : Edition) (bytes cs : List ℕ) (at : ℕ) → all_scalars cs ≡ true → utf8_prefix bytes ≡ encode_utf8_all cs → Stuck e cs at TooBig → LexFault e bytes (NumberTooBig at)
stuck_big e bytes cs at scalar is s =
    let m = subst (Means e (after_blanks s.rest)) s.is (front_means e (after_blanks s.rest)) in
    let r = stuck_reaches e cs at TooBig s (λ h. cc) in
    record { cs = cs; next = after_blanks s.rest; characters = record { scalars = scalar; encoded = is }; reached = r.0; digits = m.0; too_big = m.1 }

-- all tokens from the front on
scan : (n : ℕ) (e : Edition) (at : ℕ) (cs : List ℕ) → length cs ≤ n → (ts : List Placed) × (rest : List ℕ) × Scans e at cs ts rest × (stops (next e rest) ≡ true)
unfolding front
scan zero e at [] le = ([], [], refl, refl)
scan zero e at (c ∷ cs) le = absurd (omega arith)
scan (suc n) e at cs le =
    elim (next e cs) as (λ f. next e cs ≡ f → (ts : List Placed) × (rest : List ℕ) × Scans e at cs ts rest × (stops (next e rest) ≡ true)) [
      | Nothing ↦ λ is. ([], cs, refl, ap stops is)
      | Cut t s more ↦ λ is.
          let k = next_token e cs s more t is in
          let some = (token_next e cs k.0 s more t k.1 k.2 k.3 k.4).2 in
          let r = scan n e (at + bytes_of k.0 + bytes_of s) more (omega (arith, le, some, ap length k.1, length-append k.0 (s ++ more), length-append s more)) in
          (placed t (at + bytes_of k.0) ∷ r.0, r.1, (k.0, s, more, k.1, k.2, refl, k.3, k.4, r.2), r.3)
      | TooBig ↦ λ is. ([], cs, refl, ap stops is)
      | Bad ↦ λ is. ([], cs, refl, ap stops is)
    ] refl

front_utf8 : (bs : List ℕ) (n : ℕ) → IsUtf8 (take (valid_len_up_to bs n) bs)
front_utf8 bs zero = IsUtf8-nil
front_utf8 bs (suc n) =
    elim (is_utf8 (take (suc n) bs)) as (λ b. is_utf8 (take (suc n) bs) ≡ b → IsUtf8 (take (if b then suc n else valid_len_up_to bs n) bs))
    [ true ↦ λ h. IsUtf8-from_is_utf8 (take (suc n) bs) h | false ↦ λ h. front_utf8 bs n ] refl

-- the characters of the longest front that is UTF-8
pub front_characters : (bytes : List ℕ) → (cs : List ℕ) × (all_scalars cs ≡ true) × (utf8_prefix bytes ≡ encode_utf8_all cs)
unfolding utf8_valid_len
front_characters bytes = let u = front_utf8 bytes (length bytes) in (u.0, u.1.0, sym u.1.1)

-- what is whole up to where UTF-8 ends
pub whole_or_broken : (e : Edition) (bytes cs : List ℕ) (ts : List Placed) → all_scalars cs ≡ true → utf8_prefix bytes ≡ encode_utf8_all cs → ScansWhole e cs ts →
    Lexes e bytes ts ⊎ LexFault e bytes (NotUtf8 (utf8_valid_len bytes))
whole_or_broken e bytes cs ts scalar is h = elim (cases_lt (utf8_valid_len bytes) (length bytes)) [
  | inl short ↦ inr (record { cs = cs; tokens = ts; characters = record { scalars = scalar; encoded = is }; scanned = h; offset = refl; within = short })
  | inr all ↦ inl (cs, scalar, sym (take_all (utf8_valid_len bytes) bytes all) ∙ is, h)
]

pub lexes_or_fails : (e : Edition) (bytes : List ℕ) → ((ts : List Placed) × Lexes e bytes ts) ⊎ ((f : Fault) × LexFault e bytes f)
lexes_or_fails e bytes =
    let c = front_characters bytes in
    let r = scan (length c.0) e 0 c.0 (omega arith) in
    read c.0 c.1 c.2 r.0 r.1 r.2 (next e r.1) refl r.3
  where
    whole : (cs : List ℕ) → all_scalars cs ≡ true → utf8_prefix bytes ≡ encode_utf8_all cs → (ts : List Placed) → ScansWhole e cs ts →
        ((ts : List Placed) × Lexes e bytes ts) ⊎ ((f : Fault) × LexFault e bytes f)
    whole cs scalar is ts h = elim (whole_or_broken e bytes cs ts scalar is h) [ inl l ↦ inl (ts, l) | inr f ↦ inr (NotUtf8 (utf8_valid_len bytes), f) ]

    read : (cs : List ℕ) → all_scalars cs ≡ true → utf8_prefix bytes ≡ encode_utf8_all cs → (ts : List Placed) (rest : List ℕ) → Scans e 0 cs ts rest →
        (f : Front) → next e rest ≡ f → stops (next e rest) ≡ true → ((ts : List Placed) × Lexes e bytes ts) ⊎ ((f : Fault) × LexFault e bytes f)
    read cs scalar is ts rest h Nothing same stop = whole cs scalar is ts (scans_whole e cs ts rest h same)
    read cs scalar is ts rest h (Cut t s more) same stop = absurd (let k = sym (ap stops same) ∙ stop in cc)
    read cs scalar is ts rest h TooBig same stop = inr (NumberTooBig (bytes_of cs - bytes_of (after_blanks rest)), stuck_big e bytes cs _ scalar is (stuck_scans e cs ts rest TooBig h same))
    read cs scalar is ts rest h Bad same stop = inr (BadCharacter (bytes_of cs - bytes_of (after_blanks rest)), stuck_bad e bytes cs _ scalar is (stuck_scans e cs ts rest Bad h same))

-- What is read are tokens, no more of them than bytes.

token_is : (e : Edition) (t : Token) (s : List ℕ) → all_scalars s ≡ true → Spells e t s → IsToken e t
token_is e (token.Word w) s scalar h = h.1
token_is e (token.Name name) s scalar h = (s, scalar, h.0, h.1, h.2)
token_is e (token.Number n) s scalar h = h.2
token_is e (token.Mark m) s scalar h = refl

pub scalars_apart : (xs ys : List ℕ) → all_scalars (xs ++ ys) ≡ true → (all_scalars xs ≡ true) × (all_scalars ys ≡ true)
scalars_apart [] ys h = (refl, h)
scalars_apart (x ∷ xs) ys h =
    let k = both (scalar x) (all_scalars (xs ++ ys)) h in
    let r = scalars_apart xs ys k.1 in
    (rw k.0 r.0, r.1)

pub scans_tokens : (e : Edition) (at : ℕ) (cs : List ℕ) (ts : List Placed) (rest : List ℕ) → all_scalars cs ≡ true → Scans e at cs ts rest →
    AreTokens e (bare ts) × (length ts ≤ length cs)
scans_tokens e at cs [] rest scalar h = (refl, omega arith)
scans_tokens e at cs (t ∷ ts) rest scalar h =
    let a = scalars_apart h.0 (h.1 ++ h.2) (ap all_scalars (sym h.3) ∙ scalar) in
    let b = scalars_apart h.1 h.2 a.1 in
    let r = scans_tokens e (at + bytes_of h.0 + bytes_of h.1) h.2 ts rest b.1 h.8 in
    let some = (token_next e cs h.0 h.1 h.2 t.token h.3 h.4 h.6 h.7).2 in
    ((token_is e t.token h.1 b.0 h.6, r.0), omega (arith, r.1, some, ap length h.3, length-append h.0 (h.1 ++ h.2), length-append h.1 h.2))

pub lexes_tokens : (e : Edition) (bytes : List ℕ) (ts : List Placed) → Lexes e bytes ts → AreTokens e (bare ts) × (length ts ≤ length bytes)
lexes_tokens e bytes ts h =
    let r = scans_tokens e 0 h.0 ts h.3.0 h.1 h.3.1 in
    (r.0, omega (arith, r.1, length-le-encodes h.0, ap length h.2))
