-- What a global name is in the frame: what it is in the specification, with open guards; a macro's name is none.
use Rattle.std.proofs.Common.{◌≡◌, ℕ, suc, ◌+◌, Bool, true, false, cond, ◌||◌, List, [], ◌∷◌, ◌++◌, map, flat_map, length, Option, Some, None, refl, sym, ap, ◌∙◌, subst, arith, slice_get, true≢false}
use Rattle.std.specs.List.{list_any, position_from, AllZip}
use Rattle.std.specs.Option.{option_map_or, option_and_then}
use Rattle.rsml_syntax.specs.declared.syntax.Spec.{Spec}
use Rattle.rsml_syntax.specs.declared.syntax.Decl.{Decl}
use Rattle.rsml_syntax.specs.declared.syntax.Decl.TheVariants as decl
use Rattle.rsml_syntax.specs.text.Names.{Name, same}
use Rattle.rsml_syntax.specs.rules.Globals.{Known, globals, names_of, values_of, known_values, known_by, meaning}
use Rattle.rsml_syntax.specs.rules.Rules.{broken_rule}
use Rattle.rsml_syntax.proofs.Clean.{names_in}
use Rattle.rsml_meaning.specs.Instances.{globals_of}
use Rattle.rsml_meaning.proofs.Same.{name_same}
use Rattle.spec_frames.specs.Frames.{open_case, open_send_case, framed, frame}
use Rattle.equal_frames.proofs.Once.{NamesOnce, names_once}

-- what a declaration is in the frame
abbrev pub blank_decl : Decl → Option Known
blank_decl (decl.Macro name size rows) = None
blank_decl (decl.Function name size cases) = Some (record { decl = decl.Function name size (map open_case cases); value = None })
blank_decl (decl.Send name size fields cases) = Some (record { decl = decl.Send name size fields (map open_send_case cases); value = None })
blank_decl d = Some (record { decl = d; value = None })

-- what is known of a name, in the frame: the value of an enumeration stays
abbrev pub blank : Known → Option Known
blank k = elim k.value [ Some n ↦ Some k | None ↦ blank_decl k.decl ]

-- The first of the known ones that has the name.

abbrev pub look : Name → List Name → List Known → Option Known
look name [] ks = None
look name (x ∷ xs) [] = None
look name (x ∷ xs) (k ∷ ks) = cond (same name x) (Some k) (look name xs ks)

look_none : (name : Name) (xs : List Name) → look name xs [] ≡ None
look_none name [] = refl
look_none name (x ∷ xs) = refl

found : (name : Name) (xs : List Name) (ks : List Known) (i : ℕ) (get : ℕ → Option Known) → ((n : ℕ) → get (i + n) ≡ slice_get ks n)
    → option_map_or get (position_from (same name) i xs) None ≡ look name xs ks
found name [] ks i get h = refl
found name (x ∷ xs) [] i get h = by_test (same name x) (found name xs [] (i + 1) get (λ n. ap get (omega arith) ∙ h (suc n)) ∙ look_none name xs)
  where
    by_test : (b : Bool) → option_map_or get (position_from (same name) (i + 1) xs) None ≡ None → option_map_or get (cond b (Some i) (position_from (same name) (i + 1) xs)) None ≡ None
    by_test true e = ap get (omega arith) ∙ h 0
    by_test false e = e
found name (x ∷ xs) (k ∷ ks) i get h = by_test (same name x) (found name xs ks (i + 1) get (λ n. ap get (omega arith) ∙ h (suc n)))
  where
    by_test : (b : Bool) → option_map_or get (position_from (same name) (i + 1) xs) None ≡ look name xs ks
        → option_map_or get (cond b (Some i) (position_from (same name) (i + 1) xs)) None ≡ cond b (Some k) (look name xs ks)
    by_test true e = ap get (omega arith) ∙ h 0
    by_test false e = e

abbrev pub or_else : Option Known → Option Known → Option Known
or_else (Some k) o = Some k
or_else None o = o

look_append : (name : Name) (xs : List Name) (ks : List Known) (ys : List Name) (ls : List Known) → length xs ≡ length ks → look name (xs ++ ys) (ks ++ ls) ≡ or_else (look name xs ks) (look name ys ls)
look_append name [] [] ys ls h = refl
look_append name [] (k ∷ ks) ys ls h = absurd (omega (arith, h))
look_append name (x ∷ xs) [] ys ls h = absurd (omega (arith, h))
look_append name (x ∷ xs) (k ∷ ks) ys ls h = by_test (same name x) (look_append name xs ks ys ls (omega (arith, h)))
  where
    by_test : (b : Bool) → look name (xs ++ ys) (ks ++ ls) ≡ or_else (look name xs ks) (look name ys ls)
        → cond b (Some k) (look name (xs ++ ys) (ks ++ ls)) ≡ or_else (cond b (Some k) (look name xs ks)) (look name ys ls)
    by_test true e = refl
    by_test false e = e

-- what a declaration says of a name
abbrev pub own : Decl → Name → Option Known
own d name = look name (names_of d) (known_by d)

abbrev pub find_in : List Decl → Name → Option Known
find_in [] name = None
find_in (d ∷ ds) name = or_else (own d name) (find_in ds name)

values_long : (d : Decl) (n : ℕ) (names : List Name) → length names ≡ length (known_values d n names)
values_long d n [] = refl
values_long d n (name ∷ names) = ap suc (values_long d (n + 1) names)

look_is : (name : Name) (ds : List Decl) → look name (flat_map names_of ds) (flat_map known_by ds) ≡ find_in ds name
look_is name [] = refl
look_is name (d ∷ ds) =
    look_append name (names_of d) (known_by d) (flat_map names_of ds) (flat_map known_by ds) (ap suc (values_long d 0 (values_of d)))
    ∙ ap (or_else (own d name)) (look_is name ds)

pub meaning_found : (ds : List Decl) (name : Name) → meaning (globals ds) name ≡ find_in ds name
meaning_found ds name =
    found name (flat_map names_of ds) (flat_map known_by ds) 0 (λ n. slice_get (flat_map known_by ds) n) (λ n. ap (slice_get (flat_map known_by ds)) (omega arith))
    ∙ look_is name ds

-- a name that no declaration gives is nothing
none_found : (name : Name) (xs : List Name) (ks : List Known) → list_any (same name) xs ≡ false → look name xs ks ≡ None
none_found name [] ks h = refl
none_found name (x ∷ xs) [] h = refl
none_found name (x ∷ xs) (k ∷ ks) h = by_test (same name x) h (none_found name xs ks)
  where
    by_test : (b : Bool) → (b || list_any (same name) xs) ≡ false → (list_any (same name) xs ≡ false → look name xs ks ≡ None) → cond b (Some k) (look name xs ks) ≡ None
    by_test true h e = absurd (true≢false h)
    by_test false h e = e h

none_in : (name : Name) (ds : List Decl) → list_any (same name) (names_in ds) ≡ false → find_in ds name ≡ None
none_in name ds h = sym (look_is name ds) ∙ none_found name (flat_map names_of ds) (flat_map known_by ds) h

-- One declaration.

kept : (name : Name) (xs : List Name) (ks ls : List Known) (rest rest' : Option Known) → AllZip (λ k l. blank k ≡ Some l) ks ls → option_and_then blank rest ≡ rest'
    → option_and_then blank (or_else (look name xs ks) rest) ≡ or_else (look name xs ls) rest'
kept name [] ks ls rest rest' h e = e
kept name (x ∷ xs) [] [] rest rest' h e = e
kept name (x ∷ xs) (k ∷ ks) (l ∷ ls) rest rest' h e = by_test (same name x) (kept name xs ks ls rest rest' h.1 e)
  where
    by_test : (b : Bool) → option_and_then blank (or_else (look name xs ks) rest) ≡ or_else (look name xs ls) rest'
        → option_and_then blank (or_else (cond b (Some k) (look name xs ks)) rest) ≡ or_else (cond b (Some l) (look name xs ls)) rest'
    by_test true r = h.0
    by_test false r = r
kept name (x ∷ xs) [] (l ∷ ls) rest rest' h e = elim h [ ]
kept name (x ∷ xs) (k ∷ ks) [] rest rest' h e = elim h [ ]

values_stay : (d : Decl) (n : ℕ) (names : List Name) → AllZip (λ k l. blank k ≡ Some l) (known_values d n names) (known_values d n names)
values_stay d n [] = tt
values_stay d n (name ∷ names) = (refl, values_stay d (n + 1) names)

-- All of them.

passed : (n name : Name) (ds : List Decl) (k : Known) → blank k ≡ None → list_any (same n) (names_in ds) ≡ false → option_and_then blank (find_in ds name) ≡ find_in (flat_map framed ds) name
    → option_and_then blank (or_else (cond (same name n) (Some k) None) (find_in ds name)) ≡ find_in (flat_map framed ds) name
passed n name ds k gone once e = by_test (same name n) refl
  where
    by_test : (b : Bool) → same name n ≡ b → option_and_then blank (or_else (cond b (Some k) None) (find_in ds name)) ≡ find_in (flat_map framed ds) name
    by_test true t =
        let others = subst (λ z. list_any (same z) (names_in ds) ≡ false) (sym (name_same name n t)) once in
        gone ∙ sym (ap (option_and_then blank) (none_in name ds others)) ∙ e
    by_test false t = e

pub find_framed : (ds : List Decl) (name : Name) → NamesOnce ds → option_and_then blank (find_in ds name) ≡ find_in (flat_map framed ds) name
find_framed [] name h = refl
find_framed (decl.Macro n size rows ∷ ds) name h = passed n name ds (record { decl = decl.Macro n size rows; value = None }) refl h.0 (find_framed ds name h.1)
find_framed (decl.Enumeration n values ∷ ds) name h =
    let d = decl.Enumeration n values in
    kept name (names_of d) (known_by d) (known_by d) (find_in ds name) (find_in (flat_map framed ds) name) (refl, values_stay d 0 values) (find_framed ds name h.1)
find_framed (decl.Range n low high ∷ ds) name h =
    let d = decl.Range n low high in
    kept name (names_of d) (known_by d) (known_by d) (find_in ds name) (find_in (flat_map framed ds) name) (refl, tt) (find_framed ds name h.1)
find_framed (decl.Constant n value ∷ ds) name h =
    let d = decl.Constant n value in
    kept name (names_of d) (known_by d) (known_by d) (find_in ds name) (find_in (flat_map framed ds) name) (refl, tt) (find_framed ds name h.1)
find_framed (decl.Input n size kind initial ∷ ds) name h =
    let d = decl.Input n size kind initial in
    kept name (names_of d) (known_by d) (known_by d) (find_in ds name) (find_in (flat_map framed ds) name) (refl, tt) (find_framed ds name h.1)
find_framed (decl.Event n size ∷ ds) name h =
    let d = decl.Event n size in
    kept name (names_of d) (known_by d) (known_by d) (find_in ds name) (find_in (flat_map framed ds) name) (refl, tt) (find_framed ds name h.1)
find_framed (decl.Function n size cases ∷ ds) name h =
    let d = decl.Function n size cases in
    kept name (names_of d) (known_by d) (known_by (decl.Function n size (map open_case cases))) (find_in ds name) (find_in (flat_map framed ds) name) (refl, tt) (find_framed ds name h.1)
find_framed (decl.Receive n size inputs raised ∷ ds) name h =
    let d = decl.Receive n size inputs raised in
    kept name (names_of d) (known_by d) (known_by d) (find_in ds name) (find_in (flat_map framed ds) name) (refl, tt) (find_framed ds name h.1)
find_framed (decl.Send n size fields cases ∷ ds) name h =
    let d = decl.Send n size fields cases in
    kept name (names_of d) (known_by d) (known_by (decl.Send n size fields (map open_send_case cases))) (find_in ds name) (find_in (flat_map framed ds) name) (refl, tt) (find_framed ds name h.1)

-- where the rules are kept, what a name means in the frame is what it means in the specification, blanked
pub meaning_framed : (s : Spec) → broken_rule s ≡ None → (name : Name) → option_and_then blank (meaning (globals_of s) name) ≡ meaning (globals_of (frame s)) name
meaning_framed s h name = ap (option_and_then blank) (meaning_found s.decls name) ∙ find_framed s.decls name (names_once s h) ∙ sym (meaning_found (flat_map framed s.decls) name)
