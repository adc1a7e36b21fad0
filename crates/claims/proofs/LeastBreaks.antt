-- The order of moments is total, and tells any two breaks apart; so a least break is the only one.
use Rattle.std.proofs.Common.{◌≡◌, ℕ, Bool, true, false, List, [], ◌∷◌, map, cond, filter, if◌then◌else◌, refl, sym, ap, ◌∙◌, subst, arith}
use Rattle.std.specs.Ordering.{ordering_then, nat_cmp}
use Rattle.std.specs.Cmp.Lexicographic.{slice_cmp, lists_total}
use Rattle.std.specs.Cmp.{then_total, on_total, nat_cmp_total}
use Rattle.std.specs.declared.cmp.Ordering.{Ordering}
use Rattle.std.specs.declared.cmp.Ordering.TheVariants.{Less, Equal, Greater}
use Rattle.rsml_syntax.specs.declared.syntax.Spec.{Spec}
use Rattle.rsml_meaning.specs.Words.{Instance, same_instance, has}
use Rattle.rsml_meaning.specs.Instances.{events}
use Rattle.rsml_meaning.specs.Interfaces.{receives}
use Rattle.rsml_meaning.specs.Worlds.{world_cmp}
use Rattle.rsml_meaning.specs.Chains.{is_external}
use Rattle.rsml_meaning.proofs.Same.{instance_same, instance_itself}
use Rattle.rsml_meaning.proofs.Order.{worlds_are_ordered, worlds_are_apart, lists_apart, nats_apart, in_order}
use Rattle.rsml_meaning.proofs.OneReport.{place_apart}
use Rattle.rsml_meaning.specs.Scoped.{WellScoped, IsEvent}
use Rattle.rsml_meaning.proofs.Lists.{each_one, any_one, any_some}
use Rattle.claim_syntax.specs.declared.claim.Claim.{Claim}
use Rattle.claims.specs.Inductive.{Moment}
use Rattle.claims.specs.Breaks.{IsBreak, presence, moment_rank, moment_cmp}
use Rattle.claims.specs.Laws.{MomentsAreOrdered, LeastBreaksAreOne}

pub moments_are_ordered : MomentsAreOrdered
moments_are_ordered s = then_total (on_total (moment_rank s) (lists_total nat_cmp_total)) (on_total (λ m. m.world) worlds_are_ordered)

then_first : (a b : Ordering) → ordering_then a b ≡ Equal → a ≡ Equal
then_first Less b h = h
then_first Equal b h = refl
then_first Greater b h = h

then_second : (a b : Ordering) → ordering_then a b ≡ Equal → b ≡ Equal
then_second Less b h = cc
then_second Equal b h = h
then_second Greater b h = cc

-- Ranks.

abbrev head_or : ℕ → List ℕ → ℕ
head_or d [] = d
head_or d (n ∷ ns) = n

abbrev rest : List ℕ → List ℕ
rest [] = []
rest (n ∷ ns) = ns

abbrev one_or_none : Bool → ℕ
one_or_none b = if b then 1 else 0

same_test : (a b : Bool) → one_or_none a ≡ one_or_none b → a ≡ b
same_test true true h = refl
same_test true false h = absurd (omega (arith, h))
same_test false true h = absurd (omega (arith, h))
same_test false false h = refl

-- where as many are present of each event, the same are
same_events : (m k : Moment) (es : List Instance) → map (presence m) es ≡ map (presence k) es → filter (has m.present) es ≡ filter (has k.present) es
same_events m k [] h = refl
same_events m k (e ∷ es) h =
    let here = same_test (has m.present e) (has k.present e) (ap (head_or 0) h) in
    let later = same_events m k es (ap rest h) in
    λ t. cond (here t) (e ∷ later t) (later t)

-- an external event is an event
external_is_event : (s : Spec) → WellScoped s → (x : Instance) → is_external s x ≡ true → has (events s) x ≡ true
external_is_event s scoped x h =
    let r = any_some (λ r. same_instance r.raised x) (receives s) h in
    let e = r.0.raised in
    subst (λ z. has (events s) z ≡ true) (instance_same e x r.2)
    (any_one (same_instance e) (events s) e (each_one (λ r. IsEvent s r.raised) (receives s) r.0 scoped.receives r.1) (instance_itself e))

-- moments of the same parts are one
same_moment : (m k : Moment) → m.start ≡ k.start → m.round ≡ k.round → m.present ≡ k.present → m.world ≡ k.world → m ≡ k
same_moment m k a b c d = λ t. record { start = a t; round = b t; present = c t; world = d t }

breaks_apart : (s : Spec) (cs : List Claim) (m k : Moment) → WellScoped s → IsBreak s cs m → IsBreak s cs k → moment_cmp s m k ≡ Equal → m ≡ k
breaks_apart s cs m k scoped a b h =
    let ranks = slice_cmp nat_cmp (moment_rank s m) (moment_rank s k) in
    let worlds = world_cmp m.world k.world in
    let is : moment_rank s m ≡ moment_rank s k = lists_apart nat_cmp nats_apart (moment_rank s m) (moment_rank s k) (then_first ranks worlds h) in
    same_moment m k
    (place_apart s m.start k.start (external_is_event s scoped m.start a.may_come.external) (external_is_event s scoped k.start b.may_come.external) (ap (head_or 0) is))
    (ap (λ z. head_or 0 (rest z)) is)
    (a.listed ∙ same_events m k (events s) (ap (λ z. rest (rest z)) is) ∙ sym b.listed)
    (worlds_are_apart m.world k.world (then_second ranks worlds h))

pub least_breaks_are_one : LeastBreaksAreOne
least_breaks_are_one s cs m k scoped a b =
    breaks_apart s cs m k scoped a.such b.such
    (in_order (moment_cmp s m k) (b.least m a.such) (λ h. a.least k b.such ((moments_are_ordered s).antisymm k m ∙ h)))
