-- What handles tell of the worlds of a specification.
use Rattle.std.proofs.Common.{◌≡◌, ℕ, zero, suc, Bool, false, not, ◌&&◌, ◌||◌, List, [], ◌∷◌, ◌++◌, length, take, get_or, ◌<◌, ◌+◌, Option, Some, None, if◌then◌else◌, slice_get, refl, sym, ap, ◌∙◌, subst, arith}
use Rattle.std.specs.List.{All, AllZip}
use Rattle.std.specs.Prelude.{MatchOption}
use Rattle.std.proofs.lemmas.List.{take_more}
use Rattle.std.proofs.lemmas.Option.{same_Some}
use Rattle.rsml_syntax.specs.declared.syntax.Spec.{Spec}
use Rattle.rsml_syntax.specs.declared.world.World.{World}
use Rattle.rsml_meaning.specs.Worlds.{IsWorld}
use Rattle.bdd_core.specs.Diagram.{IsRef}
use Rattle.bdd_core.proofs.StepLemmas.{keeps_refl}
use Rattle.guard_encode.specs.Encoding.{Encoding, Keeps, Tells, TellsExactly}
use Rattle.guard_encode.proofs.StepLemmas.{told_on}
use Rattle.group_verdicts.specs.Least.{IsLeastWorld}
use Rattle.invariants.specs.Told.{TellsOf, DecidesOf}

-- One handle.

pub of_tells : (s : Spec) (e : Encoding) (truth : World → Bool) (r : ℕ) → Tells e truth r → TellsOf s e truth r
of_tells s e truth r h = record { told = truth; tells = h; same = λ w is. refl }

pub ref_of : (s : Spec) (e : Encoding) (truth : World → Bool) (r : ℕ) → TellsOf s e truth r → IsRef e.diagram r
ref_of s e truth r h = h.tells.is_ref

pub tells_on : (s : Spec) (old new : Encoding) (truth : World → Bool) (r : ℕ) → Keeps old new → TellsOf s old truth r → TellsOf s new truth r
tells_on s old new truth r keeps h = record { told = h.told; tells = told_on old new h.told r keeps h.tells; same = h.same }

pub tells_as : (s : Spec) (e : Encoding) (one other : World → Bool) (r : ℕ) → ((w : World) → IsWorld s w → one w ≡ other w) → TellsOf s e one r → TellsOf s e other r
tells_as s e one other r same h = record { told = h.told; tells = h.tells; same = λ w is. h.same w is ∙ same w is }

pub tells_not : (s : Spec) (a b : Encoding) (truth : World → Bool) (f r : ℕ) → ((told : World → Bool) → Tells a told f → Tells b (λ w. not (told w)) r)
    → TellsOf s a truth f → TellsOf s b (λ w. not (truth w)) r
tells_not s a b truth f r h x = record { told = λ w. not (x.told w); tells = h x.told x.tells; same = λ w is. ap not (x.same w is) }

pub tells_and : (s : Spec) (a b : Encoding) (one other : World → Bool) (f g r : ℕ)
    → ((t u : World → Bool) → Tells a t f → Tells a u g → Tells b (λ w. t w && u w) r)
    → TellsOf s a one f → TellsOf s a other g → TellsOf s b (λ w. one w && other w) r
tells_and s a b one other f g r h x y = record {
  told = λ w. x.told w && y.told w;
  tells = h x.told y.told x.tells y.tells;
  same = λ w is i. x.same w is i && y.same w is i;
}

pub tells_or : (s : Spec) (a b : Encoding) (one other : World → Bool) (f g r : ℕ)
    → ((t u : World → Bool) → Tells a t f → Tells a u g → Tells b (λ w. t w || u w) r)
    → TellsOf s a one f → TellsOf s a other g → TellsOf s b (λ w. one w || other w) r
tells_or s a b one other f g r h x y = record {
  told = λ w. x.told w || y.told w;
  tells = h x.told y.told x.tells y.tells;
  same = λ w is i. x.same w is i || y.same w is i;
}

pub tells_ite : (s : Spec) (a b : Encoding) (condition one other : World → Bool) (f g h r : ℕ)
    → ((c t u : World → Bool) → Tells a c f → Tells a t g → Tells a u h → Tells b (λ w. if c w then t w else u w) r)
    → TellsOf s a condition f → TellsOf s a one g → TellsOf s a other h → TellsOf s b (λ w. if condition w then one w else other w) r
tells_ite s a b condition one other f g h r k x y z = record {
  told = λ w. if x.told w then y.told w else z.told w;
  tells = k x.told y.told z.told x.tells y.tells z.tells;
  same = λ w is i. if x.same w is i then y.same w is i else z.same w is i;
}

-- a function that was settled
pub tells_decided : (s : Spec) (a b : Encoding) (truth : World → Bool) (f r : ℕ) → ((told : World → Bool) → Tells a told f → TellsExactly b told r)
    → TellsOf s a truth f → TellsOf s b truth r
tells_decided s a b truth f r h x = record { told = x.told; tells = (h x.told x.tells).told; same = x.same }

pub decides : (s : Spec) (a b : Encoding) (truth : World → Bool) (f r : ℕ) → ((told : World → Bool) → Tells a told f → TellsExactly b told r)
    → TellsOf s a truth f → DecidesOf s b truth r
decides s a b truth f r h x = record { told = x.told; tells = h x.told x.tells; same = x.same }

-- the least world of it
pub least_of : (s t : Spec) (e : Encoding) (truth : World → Bool) (f : ℕ) (found : Option World) → t ≡ s → DecidesOf s e truth f
    → ((told : World → Bool) → TellsExactly e told f → MatchOption found ((w : World) → IsWorld t w → told w ≡ false) (IsLeastWorld t told))
    → MatchOption found ((w : World) → IsWorld s w → truth w ≡ false) (IsLeastWorld s truth)
least_of s t e truth f found own d h = by found (subst (λ (x : Spec). MatchOption found ((w : World) → IsWorld x w → d.told w ≡ false) (IsLeastWorld x d.told)) own (h d.told d.tells))
  where
    by : (o : Option World) → MatchOption o ((w : World) → IsWorld s w → d.told w ≡ false) (IsLeastWorld s d.told)
        → MatchOption o ((w : World) → IsWorld s w → truth w ≡ false) (IsLeastWorld s truth)
    by None none = λ w is. sym (d.same w is) ∙ none w is
    by (Some w) least = record {
      such = (least.such.0, sym (d.same w least.such.0) ∙ least.such.1);
      least = λ v is before. least.least v (is.0, d.same v is.0 ∙ is.1) before;
    }

-- Several handles.

pub zip_so : {A B : Type 0} (P Q : A → B → Type 0) (xs : List A) (ys : List B) → ((x : A) (y : B) → P x y → Q x y) → AllZip P xs ys → AllZip Q xs ys
zip_so P Q [] [] h z = tt
zip_so P Q [] (y ∷ ys) h z = absurd z
zip_so P Q (x ∷ xs) [] h z = absurd z
zip_so P Q (x ∷ xs) (y ∷ ys) h z = (h x y z.0, zip_so P Q xs ys h z.1)

pub zip_push : {A B : Type 0} (P : A → B → Type 0) (xs : List A) (ys : List B) (x : A) (y : B) → AllZip P xs ys → P x y → AllZip P (xs ++ (x ∷ [])) (ys ++ (y ∷ []))
zip_push P [] [] x y z p = (p, tt)
zip_push P [] (b ∷ ys) x y z p = absurd z
zip_push P (a ∷ xs) [] x y z p = absurd z
zip_push P (a ∷ xs) (b ∷ ys) x y z p = (z.0, zip_push P xs ys x y z.1 p)

pub zip_long : {A B : Type 0} (P : A → B → Type 0) (xs : List A) (ys : List B) → AllZip P xs ys → length ys ≡ length xs
zip_long P [] [] z = refl
zip_long P [] (y ∷ ys) z = absurd z
zip_long P (x ∷ xs) [] z = absurd z
zip_long P (x ∷ xs) (y ∷ ys) z = let l = zip_long P xs ys z.1 in omega (arith, l)

pub zip_at : {A B : Type 0} (P : A → B → Type 0) (xs : List A) (ys : List B) (k : ℕ) (x : A) (y : B) → AllZip P xs ys → slice_get xs k ≡ Some x → slice_get ys k ≡ Some y → P x y
zip_at P [] ys k x y z at bt = absurd (let no : ⊥ = cc in no)
zip_at P (a ∷ xs) [] k x y z at bt = absurd z
zip_at P (a ∷ xs) (b ∷ ys) zero x y z at bt = subst (P x) (same_Some b y bt) (subst (λ c. P c b) (same_Some a x at) z.0)
zip_at P (a ∷ xs) (b ∷ ys) (suc k) x y z at bt = zip_at P xs ys k x y z.1 at bt

-- one more item, and what stands beside it
pub zip_more : {A : Type 0} (P : A → ℕ → Type 0) (xs : List A) (i : ℕ) (x : A) (ys new : List ℕ) (y : ℕ) → i < length xs → x ≡ get_or xs i x → new ≡ ys ++ (y ∷ [])
    → AllZip P (take i xs) ys → P x y → AllZip P (take (i + 1) xs) new
zip_more P xs i x ys new y l is put z p =
    let more : take (i + 1) xs ≡ take i xs ++ (x ∷ []) = take_more xs i x l ∙ ap (λ a. take i xs ++ (a ∷ [])) (sym is) in
    subst (λ zs. AllZip P zs new) (sym more) (subst (AllZip P (take i xs ++ (x ∷ []))) (sym put) (zip_push P (take i xs) ys x y z p))

pub zip_index : {A : Type 0} (P : A → ℕ → Type 0) (xs : List A) (ys : List ℕ) (k : ℕ) (x : A) (y d : ℕ) → AllZip P xs ys → k < length xs → x ≡ get_or xs k x → y ≡ get_or ys k d → P x y
zip_index P [] ys k x y d z l at bt = absurd (omega (arith, l))
zip_index P (a ∷ xs) [] k x y d z l at bt = absurd z
zip_index P (a ∷ xs) (b ∷ ys) zero x y d z l at bt = subst (P x) (sym bt) (subst (λ c. P c b) (sym at) z.0)
zip_index P (a ∷ xs) (b ∷ ys) (suc k) x y d z l at bt = zip_index P xs ys k x y d z.1 (omega (arith, l)) at bt

-- a handle stays one
pub ref_on : (old new : Encoding) (r : ℕ) → Keeps old new → IsRef old.diagram r → IsRef new.diagram r
ref_on old new r keeps is = omega (arith, keeps.diagram.longer, is)

pub refs_on : (old new : Encoding) (rs : List ℕ) → Keeps old new → All (IsRef old.diagram) rs → All (IsRef new.diagram) rs
refs_on old new rs keeps all = λ k d l. ref_on old new (get_or rs k d) keeps (all k d l)

-- without a call all is as it was
pub no_calls : (e : Encoding) → Keeps e e
no_calls e = record { machine = refl; beside = refl; slots = refl; keyed = refl; diagram = keeps_refl e.diagram }

-- all that it tells stays told
pub all_on : {A : Type 0} (s : Spec) (old new : Encoding) (truth : A → World → Bool) (xs : List A) (rs : List ℕ) → Keeps old new → AllZip (λ x r. TellsOf s old (truth x) r) xs rs
    → AllZip (λ x r. TellsOf s new (truth x) r) xs rs
all_on s old new truth xs rs keeps h = zip_so (λ x r. TellsOf s old (truth x) r) (λ x r. TellsOf s new (truth x) r) xs rs (λ x r t. tells_on s old new (truth x) r keeps t) h

-- they are handles
pub refs_of : {A : Type 0} (s : Spec) (e : Encoding) (truth : A → World → Bool) (xs : List A) (rs : List ℕ) → AllZip (λ x r. TellsOf s e (truth x) r) xs rs → All (IsRef e.diagram) rs
refs_of s e truth [] [] z = λ k d l. absurd (omega (arith, l))
refs_of s e truth [] (r ∷ rs) z = absurd z
refs_of s e truth (x ∷ xs) [] z = absurd z
refs_of {A} s e truth (x ∷ xs) (r ∷ rs) z = by (refs_of s e truth xs rs z.1)
  where
    by : All (IsRef e.diagram) rs → (k d : ℕ) → k < length (r ∷ rs) → IsRef e.diagram (get_or (r ∷ rs) k d)
    by rest zero d l = z.0.tells.is_ref
    by rest (suc k) d l = rest k d (omega (arith, l))
