-- What is known of a name that is used without a breach.
use Rattle.std.proofs.Common.{◌≡◌, ℕ, suc, ◌+◌, Bool, true, false, cond, not, List, [], ◌∷◌, flat_map, Option, Some, None, is_some, if◌then◌else◌, refl, sym, ap, ◌∙◌, subst, arith, nat_lt, slice_get, true≢false}
use Rattle.std.specs.List.{AllZip, position_from}
use Rattle.std.specs.Option.{option_map_or}
use Rattle.rsml_syntax.specs.declared.syntax.Spec.{Spec}
use Rattle.rsml_syntax.specs.declared.syntax.Mention.{Mention}
use Rattle.rsml_syntax.specs.declared.want.Want.{Want}
use Rattle.rsml_syntax.specs.text.Names.{Name, same, place_of}
use Rattle.rsml_syntax.specs.rules.Globals.{Known, known_by, meaning, size_of}
use Rattle.rsml_syntax.specs.rules.Breaches.{breach}
use Rattle.rsml_syntax.specs.rules.Scopes.{Scope, is_indexed, size_number}
use Rattle.rsml_syntax.specs.rules.Uses.{is_definition, is_declared, fits, used, is_indexed_for, mentioned}
use Rattle.rsml_syntax.specs.rules.Rules.{name_tables}
use Rattle.rsml_meaning.specs.Instances.{globals_of}
use Rattle.rsml_meaning.proofs.Globals.{Means, all_known, meaning_is}
use Rattle.rsml_syntax.proofs.Clean.{names_in, no_front, no_back, holds}

-- beside the first that passes there is an item
there_beside : {A B : Type 0} (R : A → B → Type 0) (t : A → Bool) (xs : List A) (ys : List B) (i j : ℕ) → AllZip R xs ys → position_from t i xs ≡ Some j → (p : ℕ) × (j ≡ i + p) × (y : B) × (slice_get ys p ≡ Some y)
there_beside R t [] ys i j h k = cc
there_beside R t (x ∷ xs) [] i j h k = elim h [ ]
there_beside {A} {B} R t (x ∷ xs) (y ∷ ys) i j h k = by_test (t x) k (there_beside R t xs ys (i + 1) j h.1)
  where
    by_test : (b : Bool) → cond b (Some i) (position_from t (i + 1) xs) ≡ Some j → (position_from t (i + 1) xs ≡ Some j → (p : ℕ) × (j ≡ i + 1 + p) × (z : B) × (slice_get ys p ≡ Some z))
        → (p : ℕ) × (j ≡ i + p) × (z : B) × (slice_get (y ∷ ys) p ≡ Some z)
    by_test true e rest = (0, (let same : i ≡ j = cc in omega (arith, same)), y, refl)
    by_test false e rest = let r = rest e in (suc r.0, (let q = r.1 in omega (arith, q)), r.2, r.3)

-- What is known of such a name: its place, what it means, and that the use fits it.
pub record IsUsed (s : Spec) (at : Scope) (want : Want) (name : Name) : Type 0 where
  pub place : ℕ
  pub at_place : place_of name (names_in s.decls) ≡ Some place
  pub known : Known
  pub there : slice_get (flat_map known_by s.decls) place ≡ Some known
  pub is : meaning (globals_of s) name ≡ Some known
  pub early : is_definition known ≡ true → nat_lt place at.before ≡ true
  pub fit : fits want known ≡ true
  pub means : Means s.decls name known

pub used_is : (s : Spec) (at : Scope) (want : Want) (name : Name) → used (name_tables s) at want name ≡ [] → IsUsed s at want name
used_is s at want name h = by_place (place_of name (names_in s.decls)) refl
    (holds 2 name (is_declared (name_tables s) at name) (no_front (breach 2 name (not (is_declared (name_tables s) at name))) (breach 3 name (not (option_map_or (fits want) (meaning (globals_of s) name) true))) h))
    (holds 3 name (option_map_or (fits want) (meaning (globals_of s) name) true) (no_back (breach 2 name (not (is_declared (name_tables s) at name))) (breach 3 name (not (option_map_or (fits want) (meaning (globals_of s) name) true))) h))
  where
    not_there : (b : Bool) → (if b then false else false) ≡ true → ⊥
    not_there true k = true≢false (sym k)
    not_there false k = true≢false (sym k)

    when_so : (b before : Bool) → b ≡ true → (if b then before else true) ≡ true → before ≡ true
    when_so true before k d = d
    when_so false before k d = absurd (true≢false (sym k))

    by_place : (o : Option ℕ) → place_of name (names_in s.decls) ≡ o
        → (if option_map_or is_definition (meaning (globals_of s) name) false then option_map_or (λ place. nat_lt place at.before) o false else is_some o) ≡ true
        → option_map_or (fits want) (meaning (globals_of s) name) true ≡ true → IsUsed s at want name
    by_place None e d f = absurd (not_there (option_map_or is_definition (meaning (globals_of s) name) false) d)
    by_place (Some place) e d f =
        let b = there_beside (Means s.decls) (same name) (names_in s.decls) (flat_map known_by s.decls) 0 place (all_known s.decls) e in
        let same_place : b.0 ≡ place = let q = b.1 in omega (arith, q) in
        let there : slice_get (flat_map known_by s.decls) place ≡ Some b.2 = ap (slice_get (flat_map known_by s.decls)) (sym same_place) ∙ b.3 in
        let is : meaning (globals_of s) name ≡ Some b.2 = ap (λ o. option_map_or (λ q. slice_get (flat_map known_by s.decls) q) o None) e ∙ there in
        record {
          place = place;
          at_place = e;
          known = b.2;
          there = there;
          is = is;
          early = λ k. when_so (is_definition b.2) (nat_lt place at.before) k (subst (λ o. (if option_map_or is_definition o false then nat_lt place at.before else true) ≡ true) is d);
          fit = subst (λ o. option_map_or (fits want) o true ≡ true) is f;
          means = meaning_is s.decls name b.2 is;
        }

-- What is known of a mention: its name is used so, and its index is right.
pub record IsMentioned (s : Spec) (at : Scope) (want : Want) (m : Mention) : Type 0 where
  pub names : IsUsed s at want m.name
  pub indexed : is_indexed (globals_of s) at (size_number (globals_of s) (size_of names.known.decl)) m.index ≡ true

pub mentioned_is : (s : Spec) (at : Scope) (want : Want) (m : Mention) → mentioned (name_tables s) at want m ≡ [] → IsMentioned s at want m
mentioned_is s at want m h =
    let wrong = breach 6 m.name (not (option_map_or (is_indexed_for (name_tables s) at m) (meaning (globals_of s) m.name) true)) in
    let u = used_is s at want m.name (no_front (used (name_tables s) at want m.name) wrong h) in
    let i = holds 6 m.name (option_map_or (is_indexed_for (name_tables s) at m) (meaning (globals_of s) m.name) true) (no_back (used (name_tables s) at want m.name) wrong h) in
    record { names = u; indexed = subst (λ o. option_map_or (is_indexed_for (name_tables s) at m) o true ≡ true) u.is i }
