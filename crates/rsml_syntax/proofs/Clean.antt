-- Where no rule is broken there is no breach, and no part of the specification has one.
--
-- `Each` is std's `AllByRecursion`; it computes to the same as `Each` of rsml_meaning. Names for the crates above:
-- lists and breaches: no_front, no_back, none_each, each_append, front_each, back_each, unbroken, holds, front_breach, no_breach;
-- parts: Clean, all_clean, clean_declared, CleanStates, clean_states;
-- declarations: names_in, next_place, later_clean, IsPlaced, each_placed;
-- states: Opened, opened, CleanRow, clean_row.
use Rattle.std.proofs.Common.{◌≡◌, ℕ, ◌+◌, Bool, true, false, not, List, [], ◌∷◌, ◌++◌, length, flat_map, Option, None, refl, sym, ap, ◌∙◌, subst, append_assoc, append-nil, length-append}
use Rattle.std.specs.List.{AllByRecursion as Each}
use Rattle.std.proofs.lemmas.Grind.{flat_map-append}
use Rattle.rsml_syntax.specs.declared.syntax.Amount.{Amount}
use Rattle.rsml_syntax.specs.declared.syntax.Body.{Body, Row_of-StateDecl}
use Rattle.rsml_syntax.specs.declared.syntax.Decl.{Decl}
use Rattle.rsml_syntax.specs.declared.syntax.Spec.{Spec}
use Rattle.rsml_syntax.specs.grammar.Parts.{Part, Opens, Closes, State, declared, inside, nearer, placed, row_parts, top_of, parts}
use Rattle.rsml_syntax.specs.rules.Breaches.{Breach, breach}
use Rattle.rsml_syntax.specs.rules.Declarations.{declaration}
use Rattle.rsml_syntax.specs.rules.Globals.{names_of}
use Rattle.rsml_syntax.specs.rules.Rules.{name_tables, judged, breaches, broken_rule}
use Rattle.rsml_syntax.specs.rules.States.{state_scope, is_composed, is_misplaced}
use Rattle.rsml_syntax.specs.rules.Uses.{sized}
use Rattle.rsml_syntax.specs.text.Names.{Name, is_in}
use Rattle.rsml_syntax.proofs.Lowest.{none_iff}

-- Lists.

pub no_front : {A : Type 0} (xs ys : List A) → xs ++ ys ≡ [] → xs ≡ []
no_front [] ys h = refl
no_front (x ∷ xs) ys h = cc

pub no_back : {A : Type 0} (xs ys : List A) → xs ++ ys ≡ [] → ys ≡ []
no_back [] ys h = h
no_back (x ∷ xs) ys h = cc

pub none_each : {A B : Type 0} (f : A → List B) (xs : List A) → flat_map f xs ≡ [] → Each (λ x. f x ≡ []) xs
none_each f [] h = tt
none_each f (x ∷ xs) h = (no_front (f x) (flat_map f xs) h, none_each f xs (no_back (f x) (flat_map f xs) h))

pub each_append : {A : Type 0} (P : A → Type 0) (xs ys : List A) → Each P xs → Each P ys → Each P (xs ++ ys)
each_append P [] ys a b = b
each_append P (x ∷ xs) ys a b = (a.0, each_append P xs ys a.1 b)

pub front_each : {A : Type 0} (P : A → Type 0) (xs ys : List A) → Each P (xs ++ ys) → Each P xs
front_each P [] ys h = tt
front_each P (x ∷ xs) ys h = (h.0, front_each P xs ys h.1)

pub back_each : {A : Type 0} (P : A → Type 0) (xs ys : List A) → Each P (xs ++ ys) → Each P ys
back_each P [] ys h = h
back_each P (x ∷ xs) ys h = back_each P xs ys h.1

-- Breaches.

pub unbroken : (rule : ℕ) (name : Name) (b : Bool) → breach rule name b ≡ [] → b ≡ false
unbroken rule name true h = cc
unbroken rule name false h = refl

pub holds : (rule : ℕ) (name : Name) (b : Bool) → breach rule name (not b) ≡ [] → b ≡ true
holds rule name true h = refl
holds rule name false h = cc

pub front_breach : (s : Spec) (rule : ℕ) (name : Name) (b : Bool) (rest : List Breach) → breach rule name (not b) ++ rest ≡ [] → b ≡ true
front_breach s rule name true rest h = refl
front_breach s rule name false rest h = cc

-- where no rule is broken there is no breach
pub no_breach : (s : Spec) → broken_rule s ≡ None → breaches s ≡ []
no_breach s h = (none_iff (breaches s)).0 h

-- Parts.

-- the part has no breach
abbrev pub Clean : Spec → Part → Type 0
Clean s part = judged (name_tables s) part ≡ []

pub all_clean : (s : Spec) → broken_rule s ≡ None → Each (Clean s) (parts s)
all_clean s h = none_each (judged (name_tables s)) (parts s) (no_breach s h)

-- the parts of the states
abbrev states_of : Spec → List Part
states_of s = Opens (top_of s) ∷ (inside None s.body ++ (Closes (top_of s) ∷ []))

pub clean_declared : (s : Spec) → broken_rule s ≡ None → Each (Clean s) (declared 0 s.decls)
clean_declared s h = front_each (Clean s) (declared 0 s.decls) (states_of s) (all_clean s h)

-- What is known of the states.
pub record CleanStates (s : Spec) : Type 0 where
  pub opens : Clean s (Opens (top_of s))
  pub inner : Each (Clean s) (inside None s.body)
  pub closes : Clean s (Closes (top_of s))

pub clean_states : (s : Spec) → broken_rule s ≡ None → CleanStates s
clean_states s h =
    let last = Closes (top_of s) ∷ [] in
    let all = back_each (Clean s) (declared 0 s.decls) (states_of s) (all_clean s h) in
    record {
      opens = all.0;
      inner = front_each (Clean s) (inside None s.body) last all.1;
      closes = (back_each (Clean s) (inside None s.body) last all.1).0;
    }

-- Declarations.

-- the names that declarations give
abbrev pub names_in : List Decl → List Name
names_in ds = flat_map names_of ds

pub next_place : (before : List Decl) (d : Decl) → length (names_in before) + length (names_of d) ≡ length (names_in (before ++ (d ∷ [])))
next_place before d =
    sym (length-append (names_in before) (names_of d))
    ∙ ap (λ z. length (names_in before ++ z)) (sym (append-nil (names_of d)))
    ∙ ap length (sym (flat_map-append names_of before (d ∷ [])))

-- A declaration stands among the others, and has no breach there.
pub record IsPlaced (s : Spec) (d : Decl) : Type 0 where
  pub before : List Decl
  pub after : List Decl
  pub is : s.decls ≡ before ++ (d ∷ after)
  pub clean : declaration (name_tables s) (length (names_in before)) d ≡ []

pub later_clean : (s : Spec) (before : List Decl) (d : Decl) (ds : List Decl) → Each (Clean s) (declared (length (names_in before) + length (names_of d)) ds)
    → Each (Clean s) (declared (length (names_in (before ++ (d ∷ [])))) ds)
later_clean s before d ds h = subst (λ n. Each (Clean s) (declared n ds)) (next_place before d) h

placed_from : (s : Spec) (before ds : List Decl) → s.decls ≡ before ++ ds → Each (Clean s) (declared (length (names_in before)) ds) → Each (IsPlaced s) ds
placed_from s before [] e h = tt
placed_from s before (d ∷ ds) e h =
    (record { before = before; after = ds; is = e; clean = h.0 }, placed_from s (before ++ (d ∷ [])) ds (e ∙ sym (append_assoc before (d ∷ []) ds)) (later_clean s before d ds h.1))

pub each_placed : (s : Spec) → broken_rule s ≡ None → Each (IsPlaced s) s.decls
each_placed s h = placed_from s [] s.decls refl (clean_declared s h)

-- States.

-- What is known of a state where it opens.
pub record Opened (s : Spec) (x : State) : Type 0 where
  pub new : x.repeated ≡ false
  pub composed : is_composed x.body ≡ true
  pub no_array : is_misplaced x ≡ false
  pub size : sized (name_tables s) (state_scope (name_tables s) x) x.name x.size ≡ []

pub opened : (s : Spec) (x : State) → Clean s (Opens x) → Opened s x
opened s x h =
    let size = sized (name_tables s) (state_scope (name_tables s) x) x.name x.size in
    let third = breach 13 x.name (is_misplaced x) in
    let second = breach 10 x.name (not (is_composed x.body)) in
    let after = no_back (breach 1 x.name x.repeated) (second ++ (third ++ size)) h in
    let later = no_back second (third ++ size) after in
    record {
      new = unbroken 1 x.name x.repeated (no_front (breach 1 x.name x.repeated) (second ++ (third ++ size)) h);
      composed = holds 10 x.name (is_composed x.body) (no_front second (third ++ size) after);
      no_array = unbroken 13 x.name (is_misplaced x) (no_front third size later);
      size = no_back third size later;
    }

-- What is known of a row of children: of the first, of what is inside it, of its end, and of the others.
pub record CleanRow (s : Spec) (in_one : Bool) (array : Option Amount) (earlier : List Name) (name : Name) (size : Option Amount) (body : Body) {m : _} (others : Row_of-StateDecl m) : Type 0 where
  pub first : Opened s (placed name (is_in name earlier) size array in_one body)
  pub inner : Each (Clean s) (inside (nearer size array) body)
  pub last : Clean s (Closes (placed name (is_in name earlier) size array in_one body))
  pub after : Each (Clean s) (row_parts in_one array (earlier ++ (name ∷ [])) others)

pub clean_row : (s : Spec) (in_one : Bool) (array : Option Amount) (earlier : List Name) (name : Name) (size : Option Amount) (body : Body) {m : _} (others : Row_of-StateDecl m)
    → Clean s (Opens (placed name (is_in name earlier) size array in_one body)) → Each (Clean s) (inside (nearer size array) body
    ++ (Closes (placed name (is_in name earlier) size array in_one body) ∷ row_parts in_one array (earlier ++ (name ∷ [])) others)) → CleanRow s in_one array earlier name size body others
clean_row s in_one array earlier name size body others h clean =
    let x = placed name (is_in name earlier) size array in_one body in
    let rest = back_each (Clean s) (inside (nearer size array) body) (Closes x ∷ row_parts in_one array (earlier ++ (name ∷ [])) others) clean in
    record {
      first = opened s x h;
      inner = front_each (Clean s) (inside (nearer size array) body) (Closes x ∷ row_parts in_one array (earlier ++ (name ∷ [])) others) clean;
      last = rest.0;
      after = rest.1;
    }
