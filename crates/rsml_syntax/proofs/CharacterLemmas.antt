-- Which characters exclude each other, and how characters at a front split off.
use Rattle.std.proofs.Common.{◌≡◌, ℕ, ◌<◌, Bool, true, false, ◌||◌, ◌&&◌, ◌==◌, ◌⊎◌, inl, inr, List, [], ◌∷◌, ◌++◌, refl, sym, ap, ◌∙◌, subst, arith}
use Rattle.std.specs.Prelude.{if◌then◌else◌}
use Rattle.std.specs.List.{list_all}
use Rattle.std.proofs.lemmas.Bool.{cases_lt}
use Rattle.std.proofs.lemmas.Bool.Decides.{nat_tests}
use Rattle.unicode_ident.specs.Ident.{is_xid_start}
use Rattle.unicode_ident.proofs.IdentLemmas.{is_xid_start-ascii, is_xid_continue-ascii, is_xid_start-is_xid_continue}
use Rattle.rsml_syntax.specs.text.Characters.{is_white, are_blanks, is_comment, begins_blanks, is_start, is_continuing, is_digit}
use Rattle.rsml_syntax.specs.text.Characters.{passing}
use Rattle.rsml_syntax.specs.helpers.Scanning.{after_blanks, after_comment, after_passing}
use Rattle.rsml_syntax.specs.text.Tokens.{first_is}

-- either side of an `||`
pub either : (a b : Bool) → (a || b) ≡ true → (a ≡ true) ⊎ (b ≡ true)
either true b h = inl refl
either false b h = inr h

pub both : (a b : Bool) → (a && b) ≡ true → (a ≡ true) × (b ≡ true)
both true b h = (refl, h)
both false b h = absurd (cc)

pub neither : (a b : Bool) → (a || b) ≡ false → (a ≡ false) × (b ≡ false)
neither true b h = absurd (cc)
neither false b h = (refl, h)

pub start_continues : (c : ℕ) → is_start c ≡ true → is_continuing c ≡ true
start_continues c h = elim (either (is_xid_start c) (c == 95) h) [
  | inl s ↦ is_xid_start-is_xid_continue c s
  | inr u ↦ let e : c ≡ 95 = grind (arith, nat_tests) in rw e (is_xid_continue-ascii 95 (omega arith))
]

-- what begins a name begins neither a blank nor a number
pub start_excludes : (c : ℕ) → is_start c ≡ true → ((c == 35 || is_white c) ≡ false) × (is_digit c ≡ false)
start_excludes c h = elim (cases_lt c 128) [
  | inl low ↦ let e = is_xid_start-ascii c low in (grind (arith, nat_tests), grind (arith, nat_tests))
  | inr high ↦ (grind (arith, nat_tests), grind (arith, nat_tests))
]

pub digit_excludes : (c : ℕ) → is_digit c ≡ true → ((c == 35 || is_white c) ≡ false) × (is_start c ≡ false)
digit_excludes c h =
    let low : c < 128 = grind (arith, nat_tests) in
    let e = is_xid_start-ascii c low in (grind (arith, nat_tests), grind (arith, nat_tests))

-- a blank goes on with no name and no number
pub blank_excludes : (c : ℕ) → (c == 35 || is_white c) ≡ true → (is_continuing c ≡ false) × (is_digit c ≡ false)
blank_excludes c h =
    let low : c < 128 = grind (arith, nat_tests) in
    let e = is_xid_continue-ascii c low in (grind (arith, nat_tests), grind (arith, nat_tests))

-- what is split off, and the rest
pub split_whole : (test : ℕ → Bool) (cs : List ℕ) → cs ≡ passing test cs ++ after_passing test cs
split_whole test [] = refl
split_whole test (c ∷ cs) = step (test c) (split_whole test cs)
  where
    step : (b : Bool) → cs ≡ passing test cs ++ after_passing test cs →
        c ∷ cs ≡ (if b then c ∷ passing test cs else []) ++ (if b then after_passing test cs else c ∷ cs)
    step true rest = ap (λ l. c ∷ l) rest
    step false rest = refl

pub split_passes : (test : ℕ → Bool) (cs : List ℕ) → list_all test (passing test cs) ≡ true
split_passes test [] = refl
split_passes test (c ∷ cs) = step (test c) refl (split_passes test cs)
  where
    step : (b : Bool) → b ≡ test c → list_all test (passing test cs) ≡ true → list_all test (if b then c ∷ passing test cs else []) ≡ true
    step true e rest = rw (← e) rest
    step false e rest = refl

pub split_ends : (test : ℕ → Bool) (cs : List ℕ) → first_is test (after_passing test cs) ≡ false
split_ends test [] = refl
split_ends test (c ∷ cs) = step (test c) refl (split_ends test cs)
  where
    step : (b : Bool) → b ≡ test c → first_is test (after_passing test cs) ≡ false → first_is test (if b then after_passing test cs else c ∷ cs) ≡ false
    step true e rest = rest
    step false e rest = sym e

-- where the front passes and what follows does not, they are what is split
pub split_again : (test : ℕ → Bool) (front rest : List ℕ) → list_all test front ≡ true → first_is test rest ≡ false →
    (passing test (front ++ rest) ≡ front) × (after_passing test (front ++ rest) ≡ rest)
split_again test [] [] all stop = (refl, refl)
split_again test [] (c ∷ rest) all stop = (rw stop refl, rw stop refl)
split_again test (c ∷ front) rest all stop =
    let h = both (test c) (list_all test front) all in
    let r = split_again test front rest h.1 stop in
    (rw h.0 (ap (λ l. c ∷ l) r.0), rw h.0 r.1)

-- blanks before other characters
mutual
  pub blanks_ahead : (gap cs : List ℕ) → are_blanks false gap ≡ true → after_blanks (gap ++ cs) ≡ after_blanks cs
  blanks_ahead [] cs h = refl
  blanks_ahead (c ∷ gap) cs h =
      elim (c == 35) as (λ b. elim b [ true ↦ is_comment false gap | false ↦ is_white c && are_blanks false gap ] ≡ true →
      (if b then after_comment (gap ++ cs) else if is_white c then after_blanks (gap ++ cs) else c ∷ (gap ++ cs)) ≡ after_blanks cs) [
        | true ↦ λ h. comment_ahead gap cs h
        | false ↦ λ h. let k = both (is_white c) (are_blanks false gap) h in rw k.0 (blanks_ahead gap cs k.1)
      ] h

  pub comment_ahead : (gap cs : List ℕ) → is_comment false gap ≡ true → after_comment (gap ++ cs) ≡ after_blanks cs
  comment_ahead [] cs h = absurd (cc)
  comment_ahead (c ∷ gap) cs h =
      elim (c == 10) as (λ b. elim b [ true ↦ are_blanks false gap | false ↦ is_comment false gap ] ≡ true →
      (if b then after_blanks (gap ++ cs) else after_comment (gap ++ cs)) ≡ after_blanks cs)
      [ true ↦ λ h. blanks_ahead gap cs h | false ↦ λ h. comment_ahead gap cs h ] h

-- a white character before blanks
pub white_before : (unclosed : Bool) (c : ℕ) (cs : List ℕ) → (c == 35) ≡ false → is_white c ≡ true → are_blanks unclosed cs ≡ true → are_blanks unclosed (c ∷ cs) ≡ true
white_before unclosed c cs e w h =
    subst (λ (b : Bool). elim b [ true ↦ is_comment unclosed cs | false ↦ is_white c && are_blanks unclosed cs ] ≡ true) (sym e)
    (subst (λ (b : Bool). (b && are_blanks unclosed cs) ≡ true) (sym w) h)

-- the blanks that a text begins with, where something follows them
mutual
  pub blanks_before : (cs : List ℕ) → (after_blanks cs ≡ [] → ⊥) →
      (gap : List ℕ) × (cs ≡ gap ++ after_blanks cs) × (are_blanks false gap ≡ true) × (begins_blanks (after_blanks cs) ≡ false)
  blanks_before [] some = absurd (some refl)
  blanks_before (c ∷ cs) some =
      elim (c == 35) as (λ b. b ≡ (c == 35) → ((if b then after_comment cs else if is_white c then after_blanks cs else c ∷ cs) ≡ [] → ⊥) →
      (gap : List ℕ) × (c ∷ cs ≡ gap ++ (if b then after_comment cs else if is_white c then after_blanks cs else c ∷ cs)) × (are_blanks false gap ≡ true)
      × (begins_blanks (if b then after_comment cs else if is_white c then after_blanks cs else c ∷ cs) ≡ false)) [
        | true ↦ λ e some. let r = comment_before cs some in (c ∷ r.0, ap (λ l. c ∷ l) r.1, rw (← e, are_blanks) r.2, r.3)
        | false ↦ λ e some.
            elim (is_white c) as (λ w. w ≡ is_white c → ((if w then after_blanks cs else c ∷ cs) ≡ [] → ⊥) →
            (gap : List ℕ) × (c ∷ cs ≡ gap ++ (if w then after_blanks cs else c ∷ cs)) × (are_blanks false gap ≡ true)
            × (begins_blanks (if w then after_blanks cs else c ∷ cs) ≡ false)) [
              | true ↦ λ w some. let r = blanks_before cs some in (c ∷ r.0, ap (λ l. c ∷ l) r.1, white_before false c r.0 (sym e) (sym w) r.2, r.3)
              | false ↦ λ w some. ([], refl, refl, ap (λ b. b || is_white c) (sym e) ∙ sym w)
            ] refl some
      ] refl some

  pub comment_before : (cs : List ℕ) → (after_comment cs ≡ [] → ⊥) →
      (gap : List ℕ) × (cs ≡ gap ++ after_comment cs) × (is_comment false gap ≡ true) × (begins_blanks (after_comment cs) ≡ false)
  comment_before [] some = absurd (some refl)
  comment_before (c ∷ cs) some =
      elim (c == 10) as (λ b. b ≡ (c == 10) → ((if b then after_blanks cs else after_comment cs) ≡ [] → ⊥) →
      (gap : List ℕ) × (c ∷ cs ≡ gap ++ (if b then after_blanks cs else after_comment cs)) × (is_comment false gap ≡ true)
      × (begins_blanks (if b then after_blanks cs else after_comment cs) ≡ false)) [
        | true ↦ λ e some. let r = blanks_before cs some in (c ∷ r.0, ap (λ l. c ∷ l) r.1, rw (← e, is_comment) r.2, r.3)
        | false ↦ λ e some. let r = comment_before cs some in (c ∷ r.0, ap (λ l. c ∷ l) r.1, rw (← e, is_comment) r.2, r.3)
      ] refl some

-- nothing but blanks, of which the last may be a comment that is left open
mutual
  pub blanks_only : (cs : List ℕ) → after_blanks cs ≡ [] → are_blanks true cs ≡ true
  blanks_only [] h = refl
  blanks_only (c ∷ cs) h =
      elim (c == 35) as (λ b. (if b then after_comment cs else if is_white c then after_blanks cs else c ∷ cs) ≡ [] →
      elim b [ true ↦ is_comment true cs | false ↦ is_white c && are_blanks true cs ] ≡ true) [
        | true ↦ λ h. comment_only cs h
        | false ↦ λ h. elim (is_white c) as (λ w. (if w then after_blanks cs else c ∷ cs) ≡ [] → (w && are_blanks true cs) ≡ true)
            [ true ↦ λ h. blanks_only cs h | false ↦ λ h. absurd (cc) ] h
      ] h

  pub comment_only : (cs : List ℕ) → after_comment cs ≡ [] → is_comment true cs ≡ true
  comment_only [] h = refl
  comment_only (c ∷ cs) h =
      elim (c == 10) as (λ b. (if b then after_blanks cs else after_comment cs) ≡ [] →
      elim b [ true ↦ are_blanks true cs | false ↦ is_comment true cs ] ≡ true)
      [ true ↦ λ h. blanks_only cs h | false ↦ λ h. comment_only cs h ] h

mutual
  pub blanks_to_end : (cs : List ℕ) → are_blanks true cs ≡ true → after_blanks cs ≡ []
  blanks_to_end [] h = refl
  blanks_to_end (c ∷ cs) h =
      elim (c == 35) as (λ b. elim b [ true ↦ is_comment true cs | false ↦ is_white c && are_blanks true cs ] ≡ true →
      (if b then after_comment cs else if is_white c then after_blanks cs else c ∷ cs) ≡ []) [
        | true ↦ λ h. comment_to_end cs h
        | false ↦ λ h. let k = both (is_white c) (are_blanks true cs) h in rw k.0 (blanks_to_end cs k.1)
      ] h

  pub comment_to_end : (cs : List ℕ) → is_comment true cs ≡ true → after_comment cs ≡ []
  comment_to_end [] h = refl
  comment_to_end (c ∷ cs) h =
      elim (c == 10) as (λ b. elim b [ true ↦ are_blanks true cs | false ↦ is_comment true cs ] ≡ true →
      (if b then after_blanks cs else after_comment cs) ≡ [])
      [ true ↦ λ h. blanks_to_end cs h | false ↦ λ h. comment_to_end cs h ] h

-- what begins with no blank is left as it is
pub no_blanks : (cs : List ℕ) → begins_blanks cs ≡ false → after_blanks cs ≡ cs
no_blanks [] h = refl
no_blanks (c ∷ cs) h = let k = neither (c == 35) (is_white c) h in rw (k.0, k.1) refl
