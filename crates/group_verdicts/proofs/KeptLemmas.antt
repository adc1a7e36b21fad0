-- What is kept of transitions.
use Rattle.std.proofs.Common.{◌≡◌, ℕ, zero, suc, ◌<◌, ◌⊎◌, inl, inr, ⊎_elim, List, [], ◌∷◌, Option, Some, None, length, replicate, refl, sym, ap, ◌∙◌, subst, slice_get, slice_set, unwrap_or}
use Rattle.std.proofs.lemmas.List.{length-set}
use Rattle.std.proofs.lemmas.Option.{same_Some}
use Rattle.rsml_syntax.specs.declared.syntax.Spec.{Spec}
use Rattle.rsml_meaning.specs.Transitions.{transitions}
use Rattle.rsml_meaning.specs.Groups.{transition, send_case, case}
use Rattle.rsml_meaning.specs.Groups as meaning
use Rattle.state_tree.proofs.Lists.{as_long, get_within}
use Rattle.ground_groups.specs.declared.group.Member.{Member}
use Rattle.ground_groups.specs.declared.group.Member.TheVariants as member
use Rattle.ground_groups.specs.Groups.{MemberIs}
use Rattle.ground_members.specs.Members.{TransitionIs}
use Rattle.elaborate.specs.Machine.{GroundMachine, StandsFor}
use Rattle.guard_encode.specs.Encoding.{Encoding, IsMember, Keeps}
use Rattle.group_verdicts.specs.declared.kept.Kept.{Kept}
use Rattle.group_verdicts.specs.Kept.{AreKept, IsKept, IsThere, known_of}

-- Nothing is known.

none_there : (n j r : ℕ) → slice_get (replicate n None) j ≡ Some (Some r) → ⊥
none_there zero j r h = let no : ⊥ = cc in no
none_there (suc n) zero r h = let no : None ≡ Some r = same_Some None (Some r) h in let false : ⊥ = cc in false
none_there (suc n) (suc j) r h = none_there n j r h

none_long : (n : ℕ) → length (replicate {A = Option ℕ} n None) ≡ n
none_long zero = refl
none_long (suc n) = ap suc (none_long n)

pub nothing_kept : (R : Encoding → Member → ℕ → Type 0) (m : GroundMachine) (n : ℕ) (kept : Kept) → StandsFor m → n ≡ length m.transitions → kept.functions.items ≡ replicate n None → (e : Encoding) → e.machine ≡ m → AreKept e R kept
nothing_kept R m n kept stands many is e same = record {
  many = ap length is ∙ none_long n ∙ many ∙ sym (as_long (TransitionIs m.base.phrases m.base.spec) (transitions m.base.spec) m.transitions stands.transitions_are) ∙ ap (λ (k : GroundMachine). length (transitions k.base.spec)) (sym same);
  each = λ number r at. absurd (none_there n number r (sym (ap (λ xs. slice_get xs number) is) ∙ at));
}

-- What is known of a member.

some_known : (o : Option (Option ℕ)) (r : ℕ) → unwrap_or o None ≡ Some r → o ≡ Some (Some r)
some_known None r h = absurd (let no : ⊥ = cc in no)
some_known (Some k) r h = ap (λ z. Some z) h

pub known_is : (R : Encoding → Member → ℕ → Type 0) (e : Encoding) (kept : Kept) (x : Member) (r : ℕ) → AreKept e R kept → Some r ≡ known_of kept x → R e x r
known_is R e kept (member.Transition k) r are known = are.each k r (some_known (slice_get kept.functions.items k) r (sym known))
known_is R e kept (member.SendCase k) r are known = absurd (let no : ⊥ = cc in no)
known_is R e kept (member.FunctionCase f k) r are known = absurd (let no : ⊥ = cc in no)

there_of : (s : Spec) (m : meaning.Member) (k : ℕ) → MemberIs s m (member.Transition k) → k < length (transitions s)
there_of s (transition t) k h = get_within (transitions s) k t h
there_of s (send_case c) k h = absurd h
there_of s (case f c) k h = absurd h

-- there is a place for each transition that is a member
pub is_there : (R : Encoding → Member → ℕ → Type 0) (e : Encoding) (kept : Kept) (x : Member) → AreKept e R kept → IsMember e.machine x → IsThere kept x
is_there R e kept (member.Transition k) are is = subst (λ n. k < n) (sym are.many) (there_of e.machine.base.spec is.0 k is.1)
is_there R e kept (member.SendCase k) are is = tt
is_there R e kept (member.FunctionCase f k) are is = tt

-- What is kept.

-- it is so of a member, if that is a transition
abbrev pub IfTransition : (Encoding → Member → ℕ → Type 0) → Encoding → Member → ℕ → Type 0
IfTransition R e (member.Transition k) r = R e (member.Transition k) r
IfTransition R e _ r = Unit {0}

-- what stands in a list of which one item was set
get_set : {A : Type 0} (xs : List A) (k : ℕ) (v : A) (j : ℕ) (y : A) → slice_get (slice_set xs k v) j ≡ Some y → ((j ≡ k) × (v ≡ y)) ⊎ (slice_get xs j ≡ Some y)
get_set [] k v j y h = inr h
get_set (x ∷ xs) zero v zero y h = inl (refl, same_Some v y h)
get_set (x ∷ xs) zero v (suc j) y h = inr h
get_set (x ∷ xs) (suc k) v zero y h = inr h
get_set (x ∷ xs) (suc k) v (suc j) y h = ⊎_elim (λ e. inl (ap suc e.0, e.1)) (λ e. inr e) (get_set xs k v j y h)

pub kept_more : (R : Encoding → Member → ℕ → Type 0) (e : Encoding) (old new : Kept) (x : Member) (r : ℕ) → AreKept e R old → IfTransition R e x r → IsKept old new x r → AreKept e R new
kept_more R e old new (member.Transition k) r are is kept = record {
  many = ap length kept ∙ length-set old.functions.items k (Some r) ∙ are.many;
  each = λ number q at. ⊎_elim
      (λ f. subst (λ j. R e (member.Transition j) q) (sym f.0) (subst (λ z. R e (member.Transition k) z) (same_Some r q f.1) is))
      (λ f. are.each number q f)
      (get_set old.functions.items k (Some r) number (Some q) (ap (λ xs. slice_get xs number) (sym kept) ∙ at));
}
kept_more R e old new (member.SendCase k) r are is kept = subst (λ z. AreKept e R z) (sym kept) are
kept_more R e old new (member.FunctionCase f k) r are is kept = subst (λ z. AreKept e R z) (sym kept) are

-- by an encoder that has gone on
pub kept_on : (R : Encoding → Member → ℕ → Type 0) (old new : Encoding) (kept : Kept) → Keeps old new → ((x : Member) (r : ℕ) → R old x r → R new x r) → AreKept old R kept → AreKept new R kept
kept_on R old new kept keeps on are = record {
  many = are.many ∙ ap (λ (k : GroundMachine). length (transitions k.base.spec)) (sym keeps.machine);
  each = λ number r at. on (member.Transition number) r (are.each number r at);
}
