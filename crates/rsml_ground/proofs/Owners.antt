-- The guards and sums of a declaration: their shape, and that they are among those of the specification.
use Rattle.std.proofs.Common.{◌≡◌, ℕ, ◌+◌, true, false, not, ◌&&◌, ◌||◌, List, [], ◌∷◌, ◌++◌, length, flat_map, None, inl, inr, refl, subst}
use Rattle.std.specs.List.{list_any, list_all}
use Rattle.rsml_syntax.specs.declared.syntax.Spec.{Spec}
use Rattle.rsml_syntax.specs.declared.syntax.Decl.{Decl}
use Rattle.rsml_syntax.specs.declared.syntax.Guard.{Guard}
use Rattle.rsml_syntax.specs.declared.syntax.Sum.{Sum}
use Rattle.rsml_syntax.specs.grammar.Parts.{Declared, Opens, Closes, declared, inside, top_of, parts}
use Rattle.rsml_syntax.specs.grammar.Written.{sums_of_guard, guards_of, sums_of}
use Rattle.rsml_syntax.specs.limits.Previous.{sums_of_part, written_sums}
use Rattle.rsml_syntax.specs.rules.Breaches.{breach}
use Rattle.rsml_syntax.specs.rules.Globals.{name_of, names_of}
use Rattle.rsml_syntax.specs.rules.Kinds.{has_kind}
use Rattle.rsml_syntax.specs.rules.Owners.{is_long, guard_kinds_match, guard_is_table, guard_is_long}
use Rattle.rsml_syntax.specs.rules.Rules.{name_tables, broken_rule}
use Rattle.rsml_syntax.proofs.Clean.{names_in, no_front, no_back, unbroken, holds}
use Rattle.rsml_meaning.specs.Words.{Each, IsOne}
use Rattle.rsml_meaning.specs.Instances.{globals_of}
use Rattle.rsml_meaning.proofs.Lists.{each_ones, list_all_one, one_front, one_back, one_flat_map, none_first, none_second, none_one}
use Rattle.rsml_meaning.proofs.rules.Declared.{owner_clean}
use Rattle.rsml_ground.proofs.Declared.{placed}

-- a declaration is a part of the specification
declared_one : (place : ℕ) (ds : List Decl) (d : Decl) → IsOne d ds → (n : ℕ) × IsOne (Declared n d) (declared place ds)
declared_one place [] d m = absurd m
declared_one place (e ∷ ds) d (inl same) = (place, subst (λ z. IsOne (Declared place d) (Declared place z ∷ declared (place + length (names_of z)) ds)) same (inl refl))
declared_one place (e ∷ ds) d (inr m) = let r = declared_one (place + length (names_of e)) ds d m in (r.0, inr r.1)

-- A guard of a declaration: its shape, and its sums.
pub record IsOwnGuard (s : Spec) (g : Guard) : Type 0 where
  pub table : guard_is_table g ≡ true
  pub short : guard_is_long g ≡ false
  pub sums : Each (λ x. IsOne x (written_sums s)) (sums_of_guard g)

-- A sum of a declaration that stands in no guard.
pub record IsOwnSum (s : Spec) (x : Sum) : Type 0 where
  pub short : is_long x ≡ false
  pub among : IsOne x (written_sums s)

module _ (s : Spec) (h : broken_rule s ≡ None) (d : Decl) (m : IsOne d s.decls) where
  -- the sums of the declaration are among those of the specification
  all_among : (x : Sum) → IsOne x (flat_map sums_of_guard (guards_of d) ++ sums_of d) → IsOne x (written_sums s)
  all_among x k =
      let r = declared_one 0 s.decls d m in
      one_flat_map sums_of_part (parts s) (Declared r.0 d) x (one_front (Declared r.0 d) (declared 0 s.decls) (Opens (top_of s) ∷ (inside None s.body ++ (Closes (top_of s) ∷ []))) r.1) k

  -- What S8 and S16 give.
  record AreRight : Type 0 where
    tables : list_all guard_is_table (guards_of d) ≡ true
    short : (list_any guard_is_long (guards_of d) || list_any is_long (sums_of d)) ≡ false

  are_right : AreRight
  are_right =
      let name = name_of d in
      let p = placed s h d m in
      let kinds = breach 7 name (not (list_all (guard_kinds_match (globals_of s)) (guards_of d) && list_all (has_kind (globals_of s)) (sums_of d))) in
      let wrong = breach 8 name (not (list_all guard_is_table (guards_of d))) in
      let long = breach 16 name (list_any guard_is_long (guards_of d) || list_any is_long (sums_of d)) in
      let later = no_back kinds (wrong ++ long) (owner_clean (name_tables s) (length (names_in p.before)) d p.clean) in
      record {
        tables = holds 8 name (list_all guard_is_table (guards_of d)) (no_front wrong long later);
        short = unbroken 16 name (list_any guard_is_long (guards_of d) || list_any is_long (sums_of d)) (no_back wrong long later);
      }

  pub own_guard : (g : Guard) → IsOne g (guards_of d) → IsOwnGuard s g
  own_guard g k = record {
    table = list_all_one guard_is_table (guards_of d) g are_right.tables k;
    short = none_one guard_is_long (guards_of d) g (none_first (list_any guard_is_long (guards_of d)) (list_any is_long (sums_of d)) are_right.short) k;
    sums = each_ones (λ x. IsOne x (written_sums s)) (sums_of_guard g)
        (λ x l. all_among x (one_front x (flat_map sums_of_guard (guards_of d)) (sums_of d) (one_flat_map sums_of_guard (guards_of d) g x k l)));
  }

  pub own_sum : (x : Sum) → IsOne x (sums_of d) → IsOwnSum s x
  own_sum x k = record {
    short = none_one is_long (sums_of d) x (none_second (list_any guard_is_long (guards_of d)) (list_any is_long (sums_of d)) are_right.short) k;
    among = all_among x (one_back x (flat_map sums_of_guard (guards_of d)) (sums_of d) k);
  }
