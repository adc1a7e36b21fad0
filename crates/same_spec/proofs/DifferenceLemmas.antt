-- The first difference.
use Rattle.std.proofs.Common.{◌≡◌, ℕ, suc, ◌+◌, ◌<◌, ◌≤◌, Bool, true, false, not, List, [], ◌∷◌, length, zip, Option, None, Some, IfSome, MatchOption, if◌then◌else◌, refl, sym, ap, ◌∙◌, subst, slice_get, slice_index_or, nat_lt, arith, ltb-true, ltb-false}
use Rattle.std.specs.List.{AllZip}
use Rattle.std.proofs.lemmas.Option.{MatchOption-at_none, MatchOption-at_some, same_Some, slice_get-get_or}
use Rattle.rsml_syntax.specs.declared.syntax.Spec.{Spec}
use Rattle.rsml_syntax.specs.declared.world.World.{World}
use Rattle.rsml_meaning.specs.Worlds.{IsWorld}
use Rattle.rsml_meaning.specs.Truth.{view}
use Rattle.rsml_meaning.specs.Groups.{Member, enabled}
use Rattle.state_tree.proofs.Lists.{as_long, get_of_zip, get_within, get_zip, within_get}
use Rattle.rsml_ground.proofs.DeclaredLemmas.{beside_first}
use Rattle.ground_groups.specs.declared.group.Member.{Member as Number}
use Rattle.ground_groups.specs.declared.group.Member.TheVariants as variants
use Rattle.ground_groups.specs.Groups.{MemberIs}
use Rattle.elaborate.specs.Machine.{GroundMachine}
use Rattle.guard_encode.specs.Encoding.{Encoding, Keeps, Tells}
use Rattle.guard_encode.proofs.StepLemmas.{told_on}
use Rattle.group_verdicts.specs.Least.{IsLeastWorld}
use Rattle.equal_frames.specs.Alike.{opened}
use Rattle.equal_frames.specs.Differences.{Difference, IsDifference, NoDifference, all_members, differ}
use Rattle.same_spec.specs.declared.found.Found.{Found}
use Rattle.same_spec.specs.Found.{DifferFirst, IsFound, NeverDiffer}

-- no pair before a place differs
abbrev pub NoneBefore : Spec → Spec → ℕ → Type 0
NoneBefore s t place = (k : ℕ) (p : Member × Member) → k < place → slice_get (zip (all_members s) (all_members t)) k ≡ Some p → NeverDiffer s t p.0 p.1

-- the members of these numbers at a place
pub record AreAt (s t : Spec) (place : ℕ) (member other : Number) : Type 0 where
  pub one : Member
  pub two : Member
  pub one_at : slice_get (all_members s) place ≡ Some one
  pub two_at : slice_get (all_members t) place ≡ Some two
  pub one_is : MemberIs s one member
  pub two_is : MemberIs t two other

member_at : (s : Spec) (xs : List Number) (place : ℕ) (x : Number) → AllZip (MemberIs s) (all_members s) xs → slice_get xs place ≡ Some x → (m : Member) × (slice_get (all_members s) place ≡ Some m) × MemberIs s m x
member_at s xs place x are at =
    let within = get_within xs place x at in
    let m = within_get (all_members s) place (omega (arith, within, as_long (MemberIs s) (all_members s) xs are)) in
    let y = beside_first (MemberIs s) (all_members s) xs are place m.0 m.1 in
    (m.0, m.1, subst (λ z. MemberIs s m.0 z) (same_Some y.0 x (sym y.1 ∙ at)) y.2)

pub are_at : (s t : Spec) (xs ys : List Number) (place : ℕ) → AllZip (MemberIs s) (all_members s) xs → AllZip (MemberIs t) (all_members t) ys → length xs ≡ length ys → place < length xs
    → AreAt s t place (slice_index_or xs place (variants.Transition 0)) (slice_index_or ys place (variants.Transition 0))
are_at s t xs ys place one two many less =
    let d = variants.Transition 0 in
    let m = member_at s xs place (slice_index_or xs place d) one (slice_get-get_or xs place d less) in
    let n = member_at t ys place (slice_index_or ys place d) two (slice_get-get_or ys place d (omega (arith, less, many))) in
    record { one = m.0; two = n.0; one_at = m.1; two_at = n.1; one_is = m.2; two_is = n.2 }

-- nor does the pair at the place
pub none_more : (s t : Spec) (place : ℕ) (x y : Number) → NoneBefore s t place → (here : AreAt s t place x y) → NeverDiffer s t here.one here.two → NoneBefore s t (place + 1)
none_more s t place x y before here never = λ k p less at. by k p less at (nat_lt k place) refl
  where
    by : (k : ℕ) (p : Member × Member) → k < place + 1 → slice_get (zip (all_members s) (all_members t)) k ≡ Some p → (b : Bool) → nat_lt k place ≡ b → NeverDiffer s t p.0 p.1
    by k p less at true e = before k p (ltb-true k place e) at
    by k p less at false e =
        let same : k ≡ place = omega (arith, less, ltb-false k place e) in
        subst (λ (q : Member × Member). NeverDiffer s t q.0 q.1)
        (same_Some (here.one, here.two) p
        (sym (get_zip (all_members s) (all_members t) place here.one here.two here.one_at here.two_at) ∙ ap (slice_get (zip (all_members s) (all_members t))) (sym same) ∙ at))
        never

-- it is the first difference
pub first_found : (s t : Spec) (place : ℕ) (y : Number) (x : Found) (member : Number) → NoneBefore s t place → x.member ≡ member → (here : AreAt s t place member y) → DifferFirst s t here.one here.two x
    → (d : Difference) × IsFound s x d × IsDifference s t d
first_found s t place y x member before own here differs = (
  record { member = here.one; world = x.world; first = x.first },
  record { member = subst (λ z. MemberIs s here.one z) (sym own) here.one_is; world = refl; first = refl },
  record {
    place = place;
    other = here.two;
    here = get_zip (all_members s) (all_members t) place here.one here.two here.one_at here.two_at;
    before = before;
    least = differs.least;
    side = differs.first;
  },
)

-- no pair differs
pub none_found : (s t : Spec) (xs ys : List Number) (place : ℕ) → AllZip (MemberIs s) (all_members s) xs → AllZip (MemberIs t) (all_members t) ys → length xs ≡ length ys → length xs ≤ place → NoneBefore s t place
    → NoDifference s t
none_found s t xs ys place one two many past before =
    each (all_members s) (all_members t) (omega (arith, long, as_long (MemberIs t) (all_members t) ys two, many))
    (λ k p at. before k p (let less = get_within (all_members s) k p.0 (get_of_zip (all_members s) (all_members t) k p at).0 in omega (arith, less, long, past)) at)
  where
    long : length (all_members s) ≡ length xs
    long = as_long (MemberIs s) (all_members s) xs one

    each : (ms ns : List Member) → length ms ≡ length ns → ((k : ℕ) (p : Member × Member) → slice_get (zip ms ns) k ≡ Some p → NeverDiffer s t p.0 p.1) → AllZip (λ m n. (w : World) → IsWorld s w → differ s t (m, n) w ≡ false) ms ns
    each [] [] l h = tt
    each (m ∷ ms) (n ∷ ns) l h = (h 0 (m, n) refl, each ms ns (omega (arith, l)) (λ k. h (suc k)))
    each [] (n ∷ ns) l h = absurd (omega (arith, l))
    each (m ∷ ms) [] l h = absurd (omega (arith, l))

-- members that are enabled in the same worlds never differ
pub never_differ : (s t : Spec) (m n : Member) → ((w : World) → IsWorld s w → enabled (view s w) m ≡ enabled (view t w) n) → NeverDiffer s t m n
never_differ s t m n same = λ w is. ap (λ a. if a then not (enabled (view t w) n) else enabled (view t w) n) (same w is) ∙ itself (enabled (view t w) n)
  where
    itself : (b : Bool) → (if b then not b else b) ≡ false
    itself true = refl
    itself false = refl

-- Two members by one encoder.

-- where exactly one of two is true
abbrev pub one_of : (World → Bool) → (World → Bool) → World → Bool
one_of one other w = if one w then not (other w) else other w

-- two handles tell where they are enabled
pub record TellBoth (e : Encoding) (s t : Spec) (member other : Number) (here there : ℕ) : Type 0 where
  pub one : (m : Member) → MemberIs s m member → Tells e (λ w. enabled (view s w) m) here
  pub two : (n : Member) → MemberIs t n other → Tells e (λ w. enabled (view t w) n) there

-- by one call after another
pub told_both : (a b c : Encoding) (t : Spec) (member other : Number) (here there : ℕ) → Keeps a b → Keeps b c
    → ((m : Member) → MemberIs b.machine.base.spec m member → Tells b (λ w. enabled (view b.machine.base.spec w) m) here)
    → ((n : Member) → MemberIs t n other → Tells c (λ w. enabled (view t w) n) there) → TellBoth c a.machine.base.spec t member other here there
told_both a b c t member other here there ab bc one two = record {
  one = λ m is.
      told_on b c (λ w. enabled (view a.machine.base.spec w) m) here bc
      (subst (λ (x : GroundMachine). MemberIs x.base.spec m member → Tells b (λ w. enabled (view x.base.spec w) m) here) ab.machine (one m) is);
  two = two;
}

-- the worlds of an encoder that has gone on
pub own_world : (a b : Encoding) (w : World) → Keeps a b → IsWorld a.machine.base.spec w → IsWorld b.machine.base.spec w
own_world a b w keeps is = subst (λ (x : GroundMachine). IsWorld x.base.spec w) (sym keeps.machine) is

-- where both are one function
pub one_function : (a c : Encoding) (t : Spec) (member other : Number) (here there : ℕ) → Keeps a c → TellBoth c a.machine.base.spec t member other here there
    → ((one two : World → Bool) → Tells c one here → Tells c two there → (w : World) → IsWorld c.machine.base.spec w → one w ≡ two w)
    → (m n : Member) → MemberIs a.machine.base.spec m member → MemberIs t n other → NeverDiffer a.machine.base.spec t m n
one_function a c t member other here there keeps both same m n is also =
    let s = a.machine.base.spec in
    never_differ s t m n (λ w of. same (λ v. enabled (view s v) m) (λ v. enabled (view t v) n) (both.one m is) (both.two n also) w (own_world a c w keeps of))

-- what was looked for
abbrev pub IsSought : Encoding → ℕ → ℕ → Encoding → Option World → Type 0
IsSought c here there d found = (one two : World → Bool) → Tells c one here → Tells c two there
    → MatchOption found ((w : World) → IsWorld d.machine.base.spec w → one_of one two w ≡ false) (IsLeastWorld d.machine.base.spec (one_of one two))

sought : (a c d : Encoding) (t : Spec) (member other : Number) (here there : ℕ) (found : Option World) → Keeps a d → TellBoth c a.machine.base.spec t member other here there → IsSought c here there d found
    → (m n : Member) → MemberIs a.machine.base.spec m member → MemberIs t n other
    → MatchOption found ((w : World) → IsWorld a.machine.base.spec w → differ a.machine.base.spec t (m, n) w ≡ false) (IsLeastWorld a.machine.base.spec (differ a.machine.base.spec t (m, n)))
sought a c d t member other here there found keeps both is m n one two =
    let s = a.machine.base.spec in
    subst (λ (x : GroundMachine). MatchOption found ((w : World) → IsWorld x.base.spec w → differ s t (m, n) w ≡ false) (IsLeastWorld x.base.spec (differ s t (m, n)))) keeps.machine
    (is (λ w. enabled (view s w) m) (λ w. enabled (view t w) n) (both.one m one) (both.two n two))

-- they differ in no world
pub no_world : (a c d : Encoding) (t : Spec) (member other : Number) (here there : ℕ) (found : Option World) → Keeps a d → TellBoth c a.machine.base.spec t member other here there → IsSought c here there d found
    → found ≡ None → (m n : Member) → MemberIs a.machine.base.spec m member → MemberIs t n other → NeverDiffer a.machine.base.spec t m n
no_world a c d t member other here there found keeps both is none m n one two =
    let s = a.machine.base.spec in
    MatchOption-at_none (NeverDiffer s t m n) (IsLeastWorld s (differ s t (m, n))) none (sought a c d t member other here there found keeps both is m n one two)

-- they differ in this world, and in none before it
pub least_world : (a c d : Encoding) (t : Spec) (member other : Number) (here there : ℕ) (found : Option World) (w : World) → Keeps a d → TellBoth c a.machine.base.spec t member other here there → IsSought c here there d found
    → found ≡ Some w → (m n : Member) → MemberIs a.machine.base.spec m member → MemberIs t n other → IsLeastWorld a.machine.base.spec (differ a.machine.base.spec t (m, n)) w
least_world a c d t member other here there found w keeps both is some m n one two =
    let s = a.machine.base.spec in
    MatchOption-at_some (NeverDiffer s t m n) (IsLeastWorld s (differ s t (m, n))) w some (sought a c d t member other here there found keeps both is m n one two)

-- One place after another.

-- what is answered of two members
abbrev pub IsAnswer : Spec → Spec → Number → Number → Option Found → Type 0
IsAnswer s t member other found = (m n : Member) → MemberIs s m member → MemberIs t n other → MatchOption found (NeverDiffer s t m n) (DifferFirst s t m n)

pub answer_in : (first old : Encoding) (t : Spec) (member other : Number) (found : Option Found) → Keeps first old → IsAnswer old.machine.base.spec t member other found → IsAnswer first.machine.base.spec t member other found
answer_in first old t member other found keeps answer = subst (λ (m : GroundMachine). IsAnswer m.base.spec t member other found) keeps.machine answer

pub member_some : (found : Option Found) (x : Found) (member : Number) → found ≡ Some x → IfSome found (λ y. y.member ≡ member) → x.member ≡ member
member_some found x member is own = subst (λ (o : Option Found). IfSome o (λ y. y.member ≡ member)) is own

-- specifications of one frame have as many members
pub many_members : (s t : Spec) (xs ys : List Number) → AllZip (λ m n. opened m ≡ opened n) (all_members s) (all_members t) → AllZip (MemberIs s) (all_members s) xs → AllZip (MemberIs t) (all_members t) ys → length xs ≡ length ys
many_members s t xs ys same one two =
    sym (as_long (MemberIs s) (all_members s) xs one) ∙ as_long (λ m n. opened m ≡ opened n) (all_members s) (all_members t) same ∙ as_long (MemberIs t) (all_members t) ys two

-- what is found of two members
pub least_found : (a c d : Encoding) (t : Spec) (member other : Number) (here there : ℕ) (found : Option World) (w : World) (x : Found) → Keeps a d → Keeps c d → TellBoth c a.machine.base.spec t member other here there → IsSought c here there d found
    → found ≡ Some w → x.world ≡ w → ((truth : World → Bool) → Tells d truth here → x.first ≡ truth w) → (m n : Member) → MemberIs a.machine.base.spec m member → MemberIs t n other → DifferFirst a.machine.base.spec t m n x
least_found a c d t member other here there found w x keeps late both is some own holds m n one two =
    let s = a.machine.base.spec in record {
      least = subst (IsLeastWorld s (differ s t (m, n))) (sym own) (least_world a c d t member other here there found w keeps both is some m n one two);
      first = holds (λ v. enabled (view s v) m) (told_on c d (λ v. enabled (view s v) m) here late (both.one m one)) ∙ ap (λ v. enabled (view s v) m) (sym own);
    }

-- a world that was found is one of the encoder's
pub found_world : (a c d : Encoding) (t : Spec) (member other : Number) (here there : ℕ) (found : Option World) (w : World) → Keeps a d → TellBoth c a.machine.base.spec t member other here there → IsSought c here there d found
    → found ≡ Some w → (m n : Member) → MemberIs a.machine.base.spec m member → MemberIs t n other → IsWorld d.machine.base.spec w
found_world a c d t member other here there found w keeps both is some m n one two =
    own_world a d w keeps (least_world a c d t member other here there found w keeps both is some m n one two).such.0
