-- Cases of sends that are added to those that have their numbers, instance by instance.
use Rattle.std.proofs.Common.{◌≡◌, ℕ, zero, suc, ◌+◌, ◌<◌, ◌≤◌, ◌==◌, Bool, false, true≢false, List, [], ◌∷◌, ◌++◌, map, flat_map, length, take, get_or, Option, refl, sym, ap, ◌∙◌, subst, append_assoc, append-nil, arith, not-suc-le-zero, le_of_suc-le-suc, inl, inr}
use Rattle.std.specs.List.{AllZip}
use Rattle.std.proofs.lemmas.Bool.{cases_lt}
use Rattle.std.proofs.lemmas.List.{take_more, take_all}
use Rattle.rsml_syntax.specs.declared.syntax.Spec.{Spec}
use Rattle.rsml_syntax.specs.declared.syntax.Amount.{Amount}
use Rattle.rsml_syntax.specs.declared.syntax.Decl.{Decl}
use Rattle.rsml_syntax.specs.declared.syntax.Decl.TheVariants as decl
use Rattle.rsml_syntax.specs.declared.syntax.SendCase.{SendCase}
use Rattle.rsml_syntax.specs.text.Names.{Name}
use Rattle.rsml_syntax.specs.rules.Globals.{Globals, indices, up_to}
use Rattle.rsml_meaning.specs.Words.{Each, at, numbered_from, numbered}
use Rattle.rsml_meaning.specs.Interfaces.{SendCaseInstance, new_send_case, send_cases_of}
use Rattle.rsml_ground.specs.declared.definitions.Definition.{Definition}
use Rattle.rsml_ground.specs.declared.phrases.GroundPhrase.{GroundPhrase}
use Rattle.rsml_ground.specs.Grounded.{IsGrounded}
use Rattle.rsml_ground.specs.Numbers.{Keeps}
use Rattle.ground_members.specs.declared.send_cases.GroundSendCase.{GroundSendCase}
use Rattle.ground_members.specs.CaseLists.{cases_of, AddsCases}
use Rattle.ground_members.specs.Members.{SendCaseIs}
use Rattle.ground_members.specs.Scoped.{HasSend, CaseIsScoped}
use Rattle.ground_members.proofs.Adding.{numbered_append, length_take, flat_append}
use Rattle.ground_members.proofs.Lists.{map_append, zip_append, zip_to, each_front}
use Rattle.ground_members.proofs.Staying.{case_stays, keeps_both}

-- Lists by number.

pub each_numbered : {A B : Type 0} (P : B → Type 0) (f : ℕ × A → B) (k n : ℕ) (xs : List A) (i : ℕ) (x : A) → Each P (map f (numbered_from k xs)) → i < length xs → x ≡ get_or xs i x → n ≡ k + i → P (f (n, x))
each_numbered P f k n [] i x e l is q = absurd (not-suc-le-zero l)
each_numbered P f k n (y ∷ xs) zero x e l is q = let g : k ≡ n = omega (arith, q) in subst (λ m. P (f (m, x))) g (subst (λ z. P (f (k, z))) (sym is) e.0)
each_numbered P f k n (y ∷ xs) (suc i) x e l is q = each_numbered P f (suc k) n xs i x e.1 (le_of_suc-le-suc l) is (omega (arith, q))

pub zip_numbered : {A B C : Type 0} (R : B → C → Type 0) (f : ℕ × A → B) (k n : ℕ) (xs : List A) (ys : List C) (i : ℕ) (x : A) (y : C) → AllZip R (map f (numbered_from k xs)) ys → i < length xs → x ≡ get_or xs i x → y ≡ get_or ys i y → n ≡ k + i → R (f (n, x)) y
zip_numbered R f k n [] ys i x y z l is at q = absurd (not-suc-le-zero l)
zip_numbered R f k n (a ∷ xs) [] i x y z l is at q = absurd z
zip_numbered R f k n (a ∷ xs) (b ∷ ys) zero x y z l is at q =
    let g : k ≡ n = omega (arith, q) in subst (λ m. R (f (m, x)) y) g (subst (λ c. R (f (k, c)) y) (sym is) (subst (R (f (k, a))) (sym at) z.0))
zip_numbered R f k n (a ∷ xs) (b ∷ ys) (suc i) x y z l is at q = zip_numbered R f (suc k) n xs ys i x y z.1 (le_of_suc-le-suc l) is at (omega (arith, q))

pub length_numbered : {A B C : Type 0} (R : B → C → Type 0) (f : ℕ × A → B) (k : ℕ) (xs : List A) (ys : List C) → AllZip R (map f (numbered_from k xs)) ys → length ys ≡ length xs
length_numbered R f k [] [] z = refl
length_numbered R f k [] (y ∷ ys) z = absurd z
length_numbered R f k (x ∷ xs) [] z = absurd z
length_numbered R f k (x ∷ xs) (y ∷ ys) z = ap suc (length_numbered R f (suc k) xs ys z.1)

-- what holds of each that an index up to the last makes
pub each_up_to : {B : Type 0} (P : B → Type 0) (f : ℕ → List B) (count n : ℕ) → Each P (flat_map f (up_to count)) → n < count → Each P (f (n + 1))
each_up_to P f zero n e l = absurd (not-suc-le-zero l)
each_up_to P f (suc count) n e l =
    let both = each_front P (flat_map f (up_to count)) (flat_map f (suc count ∷ [])) (subst (Each P) (flat_append f (up_to count) (suc count ∷ [])) e) in
    elim (cases_lt n count) [
      | inl k ↦ each_up_to P f count n both.0 k
      | inr k ↦ let g : suc count ≡ n + 1 = omega (arith, l, k) in subst (λ m. Each P (f m)) g (each_front P (f (suc count)) [] both.1).0
    ]

-- a send instance that has a case has a number
pub some_sent : (s : Spec) (g : Globals) (name : Name) (fields : List Name) (cases : List SendCase) (i : ℕ) (b : Bool) → Each (CaseIsScoped s) (cases_of g name fields cases i) → b ≡ (length cases == 0) → b ≡ false → HasSend s (at name i)
some_sent s g name fields [] i b h e f = absurd (true≢false (sym e ∙ f))
some_sent s g name fields (c ∷ cases) i b h e f = h.0.send

-- the first index up to a count
pub first_up_to : {B : Type 0} (P : B → Type 0) (f : ℕ → List B) (count : ℕ) → Each P (flat_map f (up_to count)) → (count ≡ 0 → ⊥) → Each P (f 1)
first_up_to P f zero e h = absurd (h refl)
first_up_to P f (suc count) e h = each_up_to P f (suc count) 0 e (omega arith)

-- Declarations.

-- what a send's declaration makes
pub sends_made : (g : Globals) (d : Decl) (name : Name) (size o : Option Amount) (fields fs : List Name) (cases cs : List SendCase) → d ≡ decl.Send name size fields cases → fs ≡ fields → cs ≡ cases → o ≡ size
    → flat_map (cases_of g name fs cs) (indices g o) ≡ send_cases_of g d
sends_made g d name size o fields fs cases cs e f c z =
    ap (λ xs. flat_map (cases_of g name xs cs) (indices g o)) f ∙ ap (λ xs. flat_map (cases_of g name fields xs) (indices g o)) c ∙ ap (λ x. flat_map (cases_of g name fields cases) (indices g x)) z ∙ ap (send_cases_of g) (sym e)

-- another declaration makes no cases
pub no_cases : (g : Globals) (d : Decl) → ((name : Name) (size : Option Amount) (fields : List Name) (cases : List SendCase) → d ≡ decl.Send name size fields cases → ⊥) → send_cases_of g d ≡ []
no_cases g (decl.Send name size fields cases) h = absurd (h name size fields cases refl)
no_cases g _ h = refl

-- Cases that are added.

-- So far the phrases have grown, and behind what was there stands a case for each of these.
pub record Grown (s : Spec) (ds : List Definition) (old new : List GroundPhrase) (cs : List SendCaseInstance) (start now : List GroundSendCase) : Type 0 where
  pub grounded : IsGrounded (record { spec = s; phrases = new; definitions = ds })
  pub keeps : Keeps old new
  pub adds : AddsCases new s cs start now

-- nothing is added
pub none_more : (ps : List GroundPhrase) (s : Spec) (start : List GroundSendCase) → AddsCases ps s [] start start
none_more ps s start = record { more = []; are = tt; added = sym (append-nil start) }

-- what stands behind nothing
pub from_none : (ps : List GroundPhrase) (s : Spec) (cs : List SendCaseInstance) (now : List GroundSendCase) → AddsCases ps s cs [] now → AllZip (SendCaseIs ps s) cs now
from_none ps s cs now a = subst (AllZip (SendCaseIs ps s) cs) (sym a.added) a.are

pub all_more : (ps : List GroundPhrase) (s : Spec) (cs : List SendCaseInstance) (more start now : List GroundSendCase) → AllZip (SendCaseIs ps s) cs more → now ≡ start ++ more → AddsCases ps s cs start now
all_more ps s cs more start now are e = record { more = more; are = are; added = e }

module _ (s : Spec) (ds : List Definition) where
  pub grown_starts : (ps : List GroundPhrase) (start : List GroundSendCase) → IsGrounded (record { spec = s; phrases = ps; definitions = ds }) → Grown s ds ps ps [] start start
  grown_starts ps start g = record { grounded = g; keeps = λ k p h. h; adds = none_more ps s start }

  pub grown_more : (old ps qs : List GroundPhrase) (bs cs : List SendCaseInstance) (start mid new : List GroundSendCase) → Grown s ds old ps bs start mid → IsGrounded (record { spec = s; phrases = qs; definitions = ds }) → Keeps ps qs
      → AddsCases qs s cs mid new → Grown s ds old qs (bs ++ cs) start new
  grown_more old ps qs bs cs start mid new h g k a = record {
    grounded = g;
    keeps = keeps_both old ps qs h.keeps k;
    adds = record {
      more = h.adds.more ++ a.more;
      are = zip_append (SendCaseIs qs s) bs cs h.adds.more a.more (zip_to (SendCaseIs ps s) (SendCaseIs qs s) (case_stays ps qs s k) bs h.adds.more h.adds.are) a.are;
      added = a.added ∙ ap (λ zs. zs ++ a.more) h.adds.added ∙ append_assoc start h.adds.more a.more;
    };
  }

  -- the next of the cases of a send instance
  pub case_turn : (g : Globals) (name : Name) (fields : List Name) (cases : List SendCase) (index i n : ℕ) (c : SendCase) (x : GroundSendCase) (old ps qs : List GroundPhrase) (start mid new : List GroundSendCase)
      → Grown s ds old ps (cases_of g name fields (take i cases) index) start mid → i < length cases → c ≡ get_or cases i c → n ≡ i + 1 → IsGrounded (record { spec = s; phrases = qs; definitions = ds }) → Keeps ps qs
      → SendCaseIs qs s (new_send_case g name fields index (n, c)) x → new ≡ mid ++ (x ∷ []) → Grown s ds old qs (cases_of g name fields (take (i + 1) cases) index) start new
  case_turn g name fields cases index i n c x old ps qs start mid new h l is e grounded k a q =
      let f = new_send_case g name fields index in
      let count : 1 + length (take i cases) ≡ n = let m = length_take i cases l in omega (arith, m, e) in
      let next : numbered (take (i + 1) cases) ≡ numbered (take i cases) ++ ((n, c) ∷ []) =
      ap numbered (take_more cases i c l ∙ ap (λ z. take i cases ++ (z ∷ [])) (sym is)) ∙ numbered_append 1 (take i cases) c ∙ ap (λ m. numbered (take i cases) ++ ((m, c) ∷ [])) count in
      subst (λ cs. Grown s ds old qs cs start new) (sym (ap (map f) next ∙ map_append f (numbered (take i cases)) ((n, c) ∷ [])))
      (grown_more old ps qs (cases_of g name fields (take i cases) index) (f (n, c) ∷ []) start mid new h grounded k (record { more = x ∷ []; are = (a, tt); added = q }))

  pub case_end : (g : Globals) (name : Name) (fields : List Name) (cases : List SendCase) (index i : ℕ) (old ps : List GroundPhrase) (start now : List GroundSendCase)
      → Grown s ds old ps (cases_of g name fields (take i cases) index) start now → length cases ≤ i → AddsCases ps s (cases_of g name fields cases index) start now
  case_end g name fields cases index i old ps start now h l = subst (λ cs. AddsCases ps s (cases_of g name fields cs index) start now) (take_all i cases l) h.adds

  -- the next of the instances of an array
  pub index_turn : (f : ℕ → List SendCaseInstance) (n : ℕ) (old ps qs : List GroundPhrase) (start mid new : List GroundSendCase)
      → Grown s ds old ps (flat_map f (up_to n)) start mid → IsGrounded (record { spec = s; phrases = qs; definitions = ds }) → Keeps ps qs → AddsCases qs s (f (n + 1)) mid new → Grown s ds old qs (flat_map f (up_to (n + 1))) start new
  index_turn f n old ps qs start mid new h g k a =
      let next : suc n ≡ n + 1 = omega arith in
      let same : flat_map f (up_to n) ++ f (n + 1) ≡ flat_map f (up_to (n + 1)) =
      ap (λ m. flat_map f (up_to n) ++ f m) (sym next)
      ∙ ap (λ zs. flat_map f (up_to n) ++ zs) (sym (append-nil (f (suc n))))
      ∙ sym (flat_append f (up_to n) (suc n ∷ []))
      ∙ ap (λ m. flat_map f (up_to m)) next in
      subst (λ cs. Grown s ds old qs cs start new) same (grown_more old ps qs (flat_map f (up_to n)) (f (n + 1)) start mid new h g k a)

  pub index_end : (f : ℕ → List SendCaseInstance) (n count : ℕ) (old ps : List GroundPhrase) (start now : List GroundSendCase) → Grown s ds old ps (flat_map f (up_to n)) start now → n ≡ count → AddsCases ps s (flat_map f (up_to count)) start now
  index_end f n count old ps start now h e = subst (λ m. AddsCases ps s (flat_map f (up_to m)) start now) e h.adds

  -- the next declaration
  pub decl_turn : (f : Decl → List SendCaseInstance) (decls : List Decl) (i : ℕ) (d : Decl) (old ps qs : List GroundPhrase) (start mid new : List GroundSendCase)
      → Grown s ds old ps (flat_map f (take i decls)) start mid → i < length decls → d ≡ get_or decls i d → IsGrounded (record { spec = s; phrases = qs; definitions = ds }) → Keeps ps qs → AddsCases qs s (f d) mid new
      → Grown s ds old qs (flat_map f (take (i + 1) decls)) start new
  decl_turn f decls i d old ps qs start mid new h l is g k a =
      let next : flat_map f (take i decls) ++ f d ≡ flat_map f (take (i + 1) decls) =
      ap (λ zs. flat_map f (take i decls) ++ zs) (sym (append-nil (f d)))
      ∙ sym (flat_append f (take i decls) (d ∷ []))
      ∙ ap (flat_map f) (ap (λ z. take i decls ++ (z ∷ [])) is ∙ sym (take_more decls i d l)) in
      subst (λ cs. Grown s ds old qs cs start new) next (grown_more old ps qs (flat_map f (take i decls)) (f d) start mid new h g k a)

  pub decl_end : (f : Decl → List SendCaseInstance) (decls : List Decl) (i : ℕ) (old ps : List GroundPhrase) (now : List GroundSendCase) → Grown s ds old ps (flat_map f (take i decls)) [] now → length decls ≤ i → AllZip (SendCaseIs ps s) (flat_map f decls) now
  decl_end f decls i old ps now h l = from_none ps s (flat_map f decls) now (subst (λ zs. AddsCases ps s (flat_map f zs) [] now) (take_all i decls l) h.adds)
