-- What `prove` answers and writes is one thing.
use Rattle.std.proofs.Common.{◌≡◌, ℕ, ◌+◌, ◌≤◌, Bool, true, false, not, ◌&&◌, cond, true≢false, List, [], ◌∷◌, ◌++◌, Some, length, inl, inr, sym, ap, ◌∙◌, subst, arith, append_assoc, append-nil, IsTrue}
use Rattle.std.proofs.lemmas.Option.{same_Some}
use Rattle.rsml_lexer.specs.Laws.{AtMostOneTokenList, AtMostOneFirstFault, NeverBoth}
use Rattle.rsml_parser.specs.Laws.{ClaimsAreUnambiguous}
use Rattle.rsml_parser.proofs.PlaceLemmas.{cut_again}
use Rattle.rsml_syntax.specs.declared.edition.Edition.TheVariants as edition
use Rattle.rsml_syntax.specs.declared.syntax.Spec.{Spec}
use Rattle.rsml_syntax.specs.declared.token.Placed.{Placed}
use Rattle.rsml_syntax.specs.declared.token.Token.{Token}
use Rattle.rsml_syntax.specs.text.Lexing.{bare}
use Rattle.rsml_syntax.specs.text.Tokens.{Tokens}
use Rattle.rsml_meaning.specs.Certified.{Certified}
use Rattle.rsml_meaning.specs.EventLines.{Bytes}
use Rattle.rsml_meaning.specs.Laws.{ReportIsOne}
use Rattle.rsml_meaning.specs.MicroSteps.{Result}
use Rattle.rsml_meaning.specs.Runs.{first_world}
use Rattle.rsml_meaning.specs.Scoped.{WellScoped}
use Rattle.rsml_meaning.specs.Steps.{enabled_transitions}
use Rattle.rsml_meaning.specs.Truth.{view}
use Rattle.rsml_meaning.specs.Words.{Each}
use Rattle.claim_syntax.specs.declared.claim.Claim.{Claim}
use Rattle.claim_syntax.specs.Grammar.{AreClaimsOf}
use Rattle.claim_syntax.specs.Joined.{joined}
use Rattle.claim_syntax.specs.OfStates.{IsOfStates, first_other}
use Rattle.claim_syntax.specs.Places.{BeginClaims, ClaimsStopAt, IsClaimsFault}
use Rattle.claims.specs.Claims.{is_true, all_true}
use Rattle.claims.specs.Inductive.{Moment}
use Rattle.claims.specs.NextWorlds.{next_world}
use Rattle.claims.specs.Laws.{LeastBreaksAreOne, NextWorldsAreLeft, InductiveHaveNoBreak}
use Rattle.judging.specs.FaultLines as lines
use Rattle.judging.specs.Judgements.{IsBroken}
use Rattle.judging.specs.Texts.{greatest_text}
use Rattle.judging.proofs.OneText.{one_broken, keeps_none, one_report}
use Rattle.answering.specs.declared.status.Status.{Status}
use Rattle.answering.specs.declared.status.Status.TheVariants as status
use Rattle.proving.specs.ClaimTexts.{AreOfText, AreUnread, AreKept, no_tokens, no_syntax}
use Rattle.proving.specs.Laws.{ReadsAsProved}
use Rattle.proving.specs.Outputs.{first_false, ClaimsFault, ClaimsOutput, ProveOutput, IsProved, IsLeast}
use Rattle.proving.specs.Outputs as output
use Rattle.proving.specs.ProveText.{of_first, of_second, other_line, proved_text, initial_text, breaks_text}

-- one status and one text
abbrev AreOne : Status → Bytes → Status → Bytes → Type 0
AreOne a xs b ys = (a ≡ b) × (xs ≡ ys)

-- The place of a fault of claims.

begins_before : (f : Tokens) (t : Token) (m : Tokens) → BeginClaims (f ++ t ∷ m) → BeginClaims (f ++ t ∷ [])
begins_before f t m b = (b.0, m ++ b.1, subst (λ (l : Tokens). AreClaimsOf l b.0) (append_assoc f (t ∷ m) b.1 ∙ sym (append_assoc f (t ∷ []) (m ++ b.1))) b.2)

goes_on : (f r s : Tokens) (t : Token) (m : Tokens) → BeginClaims (f ++ t ∷ m) → ClaimsStopAt f r → r ≡ (t ∷ m) ++ s → ⊥
goes_on f r s t m begins stops e = subst (ClaimsStopAt f) e stops (begins_before f t m begins)

same_front : (f r g s : Tokens) → f ++ r ≡ g ++ s → BeginClaims f → BeginClaims g → ClaimsStopAt f r → ClaimsStopAt g s → f ≡ g
same_front f r g s h bf bg sf sg = elim (cut_again f r g s h) [
  | inl e ↦ nothing_more e.0 e.1 e.2
  | inr e ↦ absurd (goes_on g s r e.0 e.1 (subst BeginClaims e.2 bf) sg e.3)
]
  where
    nothing_more : (m : Tokens) → g ≡ f ++ m → r ≡ m ++ s → f ≡ g
    nothing_more [] e k = sym (e ∙ append-nil f)
    nothing_more (t ∷ m) e k = absurd (goes_on f r s t m (subst BeginClaims e bg) sf k)

one_place : (ts : Tokens) (a b : ℕ) → IsClaimsFault ts a → IsClaimsFault ts b → a ≡ b
one_place ts a b one two =
    one.here
    ∙ ap (λ (f : Tokens). length f + 1) (same_front one.before one.rest two.before two.rest (sym one.split ∙ two.split) one.begin two.begin one.stop two.stop)
    ∙ sym two.here

no_place : (ts : Tokens) (cs : List Claim) → AreClaimsOf ts cs → (place : ℕ) → IsClaimsFault ts place → ⊥
no_place ts cs is place p = at p.rest p.split p.stop
  where
    at : (r : Tokens) → ts ≡ p.before ++ r → ClaimsStopAt p.before r → ⊥
    at [] e stop = stop cs (subst (λ (l : Tokens). AreClaimsOf l cs) (e ∙ append-nil p.before) is)
    at (t ∷ r) e stop = stop (cs, r, subst (λ (l : Tokens). AreClaimsOf l cs) (e ∙ sym (append_assoc p.before (t ∷ []) r)) is)

-- Claims of states have no other.
none_other : (cs : List Claim) (c : Claim) → Each IsOfStates cs → first_other cs ≡ Some c → ⊥
none_other [] c h e = cc
none_other (d ∷ cs) c h e = none_other cs c h.1 (sym (ap (λ (b : Bool). cond (not b) (Some d) (first_other cs)) h.0) ∙ e)

-- What a text of claims reads as.
module _ (faults : AtMostOneFirstFault) (lists : AtMostOneTokenList) (never : NeverBoth) (claims : ClaimsAreUnambiguous) where
  one_text : (text : Bytes) (cs ds : List Claim) → AreOfText text cs → AreOfText text ds → cs ≡ ds
  one_text text cs ds h k =
      let same = ap bare (lists edition.Second text h.tokens k.tokens h.lexes k.lexes) in
      claims cs ds h.are.well_formed k.are.well_formed (h.are.tokens ∙ same ∙ sym k.are.tokens)

  not_unread : (text line : Bytes) (cs : List Claim) → AreOfText text cs → AreUnread text line → ⊥
  not_unread text line cs h (no_tokens f _ fault _) = never edition.Second text h.tokens f h.lexes fault
  not_unread text line cs h (no_syntax ts place _ lexes fault _) =
      no_place (bare ts) cs (subst (λ (l : List Placed). AreClaimsOf (bare l) cs) (lists edition.Second text h.tokens ts h.lexes lexes) h.are) place fault

  one_unread : (text xs ys : Bytes) → AreUnread text xs → AreUnread text ys → xs ≡ ys
  one_unread text xs ys (no_tokens f _ h i) (no_tokens g _ k j) = i ∙ ap lines.lexical (faults edition.Second text f g h k) ∙ sym j
  one_unread text xs ys (no_tokens f _ h _) (no_syntax ts _ _ l _ _) = absurd (never edition.Second text ts f l h)
  one_unread text xs ys (no_syntax ts _ _ l _ _) (no_tokens f _ h _) = absurd (never edition.Second text ts f l h)
  one_unread text xs ys (no_syntax ts p _ l h i) (no_syntax us q _ k f j) =
      let at = one_place (bare us) p q (subst (λ (v : List Placed). IsClaimsFault (bare v) p) (lists edition.Second text ts us l k) h) f in
      i ∙ ap lines.syntax at ∙ sym j

  short_unread : (text xs : Bytes) → AreUnread text xs → length text ≤ greatest_text
  short_unread text xs (no_tokens _ h _ _) = h
  short_unread text xs (no_syntax _ _ h _ _ _) = h

  one_other : (text : Bytes) (cs ds : List Claim) (c d : Claim) → AreOfText text cs → AreOfText text ds → first_other cs ≡ Some c → first_other ds ≡ Some d → c ≡ d
  one_other text cs ds c d h k e f = same_Some c d (sym e ∙ ap first_other (one_text text cs ds h k) ∙ f)

  not_other : (text : Bytes) (cs ds : List Claim) (c : Claim) → AreOfText text cs → AreOfText text ds → first_other cs ≡ Some c → Each IsOfStates ds → ⊥
  not_other text cs ds c h k e are = none_other cs c (subst (Each IsOfStates) (sym (one_text text cs ds h k)) are) e

  one_fault : (s : Spec) (text : Bytes) (a b : Status) (xs ys : Bytes) → ClaimsFault s text a xs → ClaimsFault s text b ys → AreOne a xs b ys
  one_fault s text a b xs ys (output.too_long _ e h) (output.too_long _ f k) = (e ∙ sym f, h ∙ sym k)
  one_fault s text a b xs ys (output.too_long l e h) (output.unread u f) = absurd (omega (arith, l, short_unread text ys u))
  one_fault s text a b xs ys (output.too_long l e h) (output.other ds d k g f j) = absurd (omega (arith, l, k.short))
  one_fault s text a b xs ys (output.too_long l e h) (output.ClaimsFault.broken ds k g f) = absurd (omega (arith, l, k.of_text.short))
  one_fault s text a b xs ys (output.unread u e) (output.too_long l f k) = absurd (omega (arith, l, short_unread text xs u))
  one_fault s text a b xs ys (output.unread u e) (output.unread v f) = (e ∙ sym f, one_unread text xs ys u v)
  one_fault s text a b xs ys (output.unread u e) (output.other ds d k g f j) = absurd (not_unread text xs ds k u)
  one_fault s text a b xs ys (output.unread u e) (output.ClaimsFault.broken ds k g f) = absurd (not_unread text xs ds k.of_text u)
  one_fault s text a b xs ys (output.other cs c h i e j) (output.too_long l f k) = absurd (omega (arith, l, h.short))
  one_fault s text a b xs ys (output.other cs c h i e j) (output.unread u f) = absurd (not_unread text ys cs h u)
  one_fault s text a b xs ys (output.other cs c h i e j) (output.other ds d k g f l) = (e ∙ sym f, j ∙ ap other_line (one_other text cs ds c d h k i g) ∙ sym l)
  one_fault s text a b xs ys (output.other cs c h i e j) (output.ClaimsFault.broken ds k g f) = absurd (not_other text cs ds c h k.of_text i k.of_states)
  one_fault s text a b xs ys (output.ClaimsFault.broken cs h i e) (output.too_long l f k) = absurd (omega (arith, l, h.of_text.short))
  one_fault s text a b xs ys (output.ClaimsFault.broken cs h i e) (output.unread u f) = absurd (not_unread text ys cs h.of_text u)
  one_fault s text a b xs ys (output.ClaimsFault.broken cs h i e) (output.other ds d k g f j) = absurd (not_other text ds cs d k h.of_text g h.of_states)
  one_fault s text a b xs ys (output.ClaimsFault.broken cs h i e) (output.ClaimsFault.broken ds k g f) =
      (e ∙ sym f, one_broken (joined s cs) xs ys i (subst (λ (l : List Claim). IsBroken (joined s l) ys) (sym (one_text text cs ds h.of_text k.of_text)) g))

  no_fault : (s : Spec) (text : Bytes) (a : Status) (xs : Bytes) (cs : List Claim) → AreKept s text cs → ClaimsFault s text a xs → ⊥
  no_fault s text a xs cs k (output.too_long l e h) = omega (arith, l, k.claims.of_text.short)
  no_fault s text a xs cs k (output.unread u e) = not_unread text xs cs k.claims.of_text u
  no_fault s text a xs cs k (output.other ds d h g f j) = not_other text ds cs d h k.claims.of_text g k.claims.of_states
  no_fault s text a xs cs k (output.ClaimsFault.broken ds h g f) =
      keeps_none (joined s cs) xs k.joined (subst (λ (l : List Claim). IsBroken (joined s l) xs) (one_text text ds cs h.of_text k.claims.of_text) g)

  -- What is written of claims that are kept.
  module _ (report : ReportIsOne) (least : LeastBreaksAreOne) (left : NextWorldsAreLeft) (none : InductiveHaveNoBreak) (s : Spec) (scoped : WellScoped s) where
    -- claims that are all true in a world have none that is false there
    none_false : (cs : List Claim) (c : Claim) → IsTrue (all_true s cs (first_world s)) → first_false s cs (first_world s) ≡ Some c → ⊥
    none_false [] c h e = cc
    none_false (d ∷ cs) c h e = by (is_true s (first_world s) d) h e (none_false cs c)
      where
        by : (b : Bool) → IsTrue (b && all_true s cs (first_world s)) → cond (not b) (Some d) (first_false s cs (first_world s)) ≡ Some c
            → (IsTrue (all_true s cs (first_world s)) → first_false s cs (first_world s) ≡ Some c → ⊥) → ⊥
        by true f g rest = rest f g
        by false f g rest = true≢false (sym f)

    one_least : (cs : List Claim) (c d : Claim) (m k : Moment) (r q : Result) → Certified s → IsLeast s cs c m r → IsLeast s cs d k q
        → breaks_text s cs c m r.taken ≡ breaks_text s cs d k q.taken
    one_least cs c d m k r q certified h j =
        let same = least s cs m k scoped h.least j.least in
        let world : r.world ≡ q.world =
        left s m r scoped certified h.least.such.may_come h.comes_to ∙ ap (next_world s) same ∙ sym (left s k q scoped certified j.least.such.may_come j.comes_to) in
        let claim : c ≡ d = same_Some c d (sym h.claim ∙ ap (first_false s cs) world ∙ j.claim) in
        let taken : r.taken ≡ q.taken =
        h.comes_to.all_taken ∙ ap (λ (n : Moment). enabled_transitions s (view s n.world) n.present) same ∙ sym j.comes_to.all_taken in
        λ i. breaks_text s cs (claim i) (same i) (taken i)

    one_claims : (cs : List Claim) (a b : Status) (xs ys : Bytes) → ClaimsOutput s cs a xs → ClaimsOutput s cs b ys → AreOne a xs b ys
    one_claims cs a b xs ys (output.uncertified r h e i) (output.uncertified q k f j) = (e ∙ sym f, i ∙ ap of_first (one_report report s r q h.report k.report) ∙ sym j)
    one_claims cs a b xs ys (output.uncertified r h e i) (output.initial d c k f j) = absurd (h.not_certified c)
    one_claims cs a b xs ys (output.uncertified r h e i) (output.breaks d n q c k f j) = absurd (h.not_certified c)
    one_claims cs a b xs ys (output.uncertified r h e i) (output.proved k f j) = absurd (h.not_certified k.certified)
    one_claims cs a b xs ys (output.initial c o h e i) (output.uncertified q k f j) = absurd (k.not_certified o)
    one_claims cs a b xs ys (output.initial c o h e i) (output.initial d p k f j) = (e ∙ sym f, i ∙ ap (initial_text s cs) (same_Some c d (sym h ∙ k)) ∙ sym j)
    one_claims cs a b xs ys (output.initial c o h e i) (output.breaks d n q p k f j) = absurd (none_false cs c k.initial h)
    one_claims cs a b xs ys (output.initial c o h e i) (output.proved k f j) = absurd (none_false cs c k.inductive.first h)
    one_claims cs a b xs ys (output.breaks c m r o h e i) (output.uncertified q k f j) = absurd (k.not_certified o)
    one_claims cs a b xs ys (output.breaks c m r o h e i) (output.initial d p k f j) = absurd (none_false cs d h.initial k)
    one_claims cs a b xs ys (output.breaks c m r o h e i) (output.breaks d n q p k f j) = (e ∙ sym f, i ∙ one_least cs c d m n r q o h k ∙ sym j)
    one_claims cs a b xs ys (output.breaks c m r o h e i) (output.proved k f j) = absurd (none s cs k.inductive m h.least.such)
    one_claims cs a b xs ys (output.proved h e i) (output.uncertified q k f j) = absurd (k.not_certified h.certified)
    one_claims cs a b xs ys (output.proved h e i) (output.initial d p k f j) = absurd (none_false cs d h.inductive.first k)
    one_claims cs a b xs ys (output.proved h e i) (output.breaks d n q p k f j) = absurd (none s cs h.inductive n k.least.such)
    one_claims cs a b xs ys (output.proved h e i) (output.proved k f j) = (e ∙ sym f, i ∙ sym j)

    pub one_prove : (text : Bytes) (a b : Status) (xs ys : Bytes) → ProveOutput s text a xs → ProveOutput s text b ys → AreOne a xs b ys
    one_prove text a b xs ys (output.fault r h e) (output.fault q k f) =
        let one = one_fault s text a b r q h k in (one.0, e ∙ ap of_second one.1 ∙ sym f)
    one_prove text a b xs ys (output.fault r h e) (output.judged ds k f) = absurd (no_fault s text a r ds k h)
    one_prove text a b xs ys (output.judged cs h e) (output.fault q k f) = absurd (no_fault s text b q cs h k)
    one_prove text a b xs ys (output.judged cs h e) (output.judged ds k f) =
        one_claims cs a b xs ys e (subst (λ (l : List Claim). ClaimsOutput s l b ys) (one_text text ds cs k.claims.of_text h.claims.of_text) f)

-- where it ends with Done, the claims are proved
pub done_proved : (s : Spec) (cs : List Claim) (answer : Status) (bytes : Bytes) → answer ≡ status.Done → ClaimsOutput s cs answer bytes
    → IsProved s cs × (bytes ≡ proved_text s cs)
done_proved s cs answer bytes d (output.uncertified r h e i) = absurd (let no : ⊥ = cc in no)
done_proved s cs answer bytes d (output.initial c o h e i) = absurd (let no : ⊥ = cc in no)
done_proved s cs answer bytes d (output.breaks c m r o h e i) = absurd (let no : ⊥ = cc in no)
done_proved s cs answer bytes d (output.proved h e i) = (h, i)

no_done_fault : (s : Spec) (text : Bytes) (answer : Status) (line : Bytes) → answer ≡ status.Done → ClaimsFault s text answer line → ⊥
no_done_fault s text answer line d (output.too_long l e h) = cc
no_done_fault s text answer line d (output.unread u e) = cc
no_done_fault s text answer line d (output.other cs c h i e j) = cc
no_done_fault s text answer line d (output.ClaimsFault.broken cs h i e) = cc

pub done_read : (s : Spec) (text : Bytes) (answer : Status) (bytes : Bytes) → answer ≡ status.Done → ProveOutput s text answer bytes → ReadsAsProved s text bytes
done_read s text answer bytes d (output.fault line h e) = absurd (no_done_fault s text answer line d h)
done_read s text answer bytes d (output.judged cs k h) =
    let p = done_proved s cs answer bytes d h in
    record { read = cs; kept = k; proved = p.0; text = p.1 }
