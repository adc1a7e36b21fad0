-- The children of a component stand one behind another, each where the one before it ends.
use Rattle.std.proofs.Common.{◌≡◌, ℕ, suc, ◌+◌, ◌-◌, ◌<◌, Bool, true, false, ◌&&◌, List, [], ◌∷◌, ◌++◌, flat_map, length, Option, Some, None, refl, sym, ap, ◌∙◌, subst, slice_get, slice_index_or, true≢false, append_assoc, append-nil, arith, length-append, nat_le, nat_lt}
use Rattle.std.specs.List.{AllZip}
use Rattle.std.specs.Option.{option_map}
use Rattle.std.proofs.lemmas.Option.{same_Some}
use Rattle.std.proofs.lemmas.List.{length-map}
use Rattle.rsml_syntax.specs.declared.syntax.Spec.{Spec}
use Rattle.rsml_syntax.specs.declared.syntax.Amount.{Amount}
use Rattle.rsml_syntax.specs.declared.syntax.StateDecl.{StateDecl}
use Rattle.rsml_syntax.specs.declared.syntax.Body.{Body, Basic, One', All', Row_of-StateDecl, end_of-StateDecl, more_of-StateDecl, items-the_row-StateDecl}
use Rattle.rsml_syntax.specs.text.Names.{Name}
use Rattle.rsml_syntax.specs.rules.Globals.{indices}
use Rattle.rsml_syntax.specs.grammar.Parts.{nearer, row_parts, children_of, default_of}
use Rattle.rsml_syntax.specs.grammar.Parts as part
use Rattle.rsml_syntax.specs.limits.Checked.{IsChecked}
use Rattle.rsml_syntax.proofs.Clean.{Clean, clean_states, clean_row, each_append}
use Rattle.rsml_meaning.specs.Words.{Path, Each, at, child_path, is_prefix}
use Rattle.rsml_meaning.specs.Instances.{State, globals_of, new_state, row_inside, states}
use Rattle.rsml_meaning.specs.Instances as made
use Rattle.state_tree.specs.nodes.Numbers.{paths}
use Rattle.state_tree.specs.Tables.{AreEnds, IsChildNamed, in_row}
use Rattle.state_tree.proofs.Goods.{each_one}
use Rattle.state_tree.proofs.Kin.{HasBody, names, get_index}
use Rattle.state_tree.proofs.Lists.{one_at, get_within, within_get, get_map, get_of_map, each_flat_map}
use Rattle.state_tree.proofs.Numbering.{get_last}
use Rattle.state_tree.proofs.Spans.{one_end}
use Rattle.state_tree.proofs.Spread.{made_by, stretch_at, stretch_span}

-- Bodies break no rule.

-- what is inside the body of a state breaks no rule
abbrev IsClean : Spec → State → Type 0
IsClean s x = (array : Option Amount) × Each (Clean s) (part.inside array x.body)

mutual
  clean_body : (s : Spec) (body : Body) (array : Option Amount) (path : Path) → Each (Clean s) (part.inside array body) → Each (IsClean s) (made.inside (globals_of s) body path)
  clean_body s Basic array path clean = tt
  clean_body s (One' first shape row bs ts) array path clean = clean_children s _ row true array [] path clean
  clean_body s (All' shape row) array path clean = clean_children s _ row false array [] path clean

  clean_children : (s : Spec) (n : _) (row : Row_of-StateDecl n) (in_one : Bool) (array : Option Amount) (earlier : List Name) (path : Path) → Each (Clean s) (row_parts in_one array earlier row)
      → Each (IsClean s) (row_inside (globals_of s) row path)
  clean_children s n end_of-StateDecl in_one array earlier path clean = tt
  clean_children s n (more_of-StateDecl name size body others) in_one array earlier path clean =
      let g = globals_of s in
      let r = clean_row s in_one array earlier name size body others clean.0 clean.1 in
      each_append (IsClean s) (flat_map (made_by g name body path) (indices g size)) (row_inside g others path)
      (each_flat_map (IsClean s) (made_by g name body path) (indices g size) (λ i m. ((nearer size array, r.inner), clean_body s body (nearer size array) (child_path path (at name i)) r.inner)))
      (clean_children s _ others in_one array (earlier ++ (name ∷ [])) path r.after)

clean_at : (s : Spec) → IsChecked s → (node : ℕ) (x : State) → slice_get (states s) node ≡ Some x → IsClean s x
clean_at s h node x e =
    let c = clean_states s h.keeps.rules in
    each_one (IsClean s) (states s) x ((None, c.inner), clean_body s s.body None (at s.top 0 ∷ []) c.inner) (one_at (states s) node x e)

-- Ends.

-- a state is followed by what its body makes, as the first of what is in it
record IsFollowed (s : Spec) (node : ℕ) (x : State) : Type 0 where
  pub before : List State
  pub after : List State
  pub is : states s ≡ before ++ (x ∷ (made.inside (globals_of s) x.body x.path ++ after))
  pub place : node ≡ length before
  pub span : (j : ℕ) (q : Path) → slice_get (paths (states s)) j ≡ Some q → is_prefix x.path q ≡ (nat_le node j && nat_lt j (node + suc (length (made.inside (globals_of s) x.body x.path))))

followed : (s : Spec) → IsChecked s → (node : ℕ) (x : State) → slice_get (states s) node ≡ Some x → IsFollowed s node x
followed s c node x e =
    let r = stretch_at s c node x.path (get_map (λ (y : State). y.path) (states s) node x e) in
    let h = r.0 in
    let first : h.first ≡ x =
    same_Some h.first x (sym (get_last h.before h.first (h.inner ++ h.after)) ∙ ap (λ zs. slice_get zs (length h.before)) (sym h.is) ∙ ap (λ k. slice_get (states s) k) (sym r.1) ∙ e) in
    let inner : h.inner ≡ made.inside (globals_of s) x.body x.path = h.whole ∙ ap (λ (y : State). made.inside (globals_of s) y.body x.path) first in
    record {
      before = h.before;
      after = h.after;
      is = h.is ∙ ap (λ y. h.before ++ (y ∷ (h.inner ++ h.after))) first ∙ ap (λ ys. h.before ++ (x ∷ (ys ++ h.after))) inner;
      place = r.1;
      span = λ j q g.
          let z = get_of_map (λ (y : State). y.path) (states s) j q g in
          ap (λ p. is_prefix x.path p) (sym z.2)
          ∙ stretch_span x.path (states s) h j z.0 z.1
          ∙ ap (λ k. nat_le k j && nat_lt j (k + suc (length h.inner))) (sym r.1)
          ∙ ap (λ ys. nat_le node j && nat_lt j (node + suc (length ys))) inner;
    }

-- the end that stands for a state
end_here : (s : Spec) → IsChecked s → (es : List ℕ) → AreEnds (paths (states s)) es → (node : ℕ) (x : State) → slice_get (states s) node ≡ Some x
    → slice_get es node ≡ Some (node + suc (length (made.inside (globals_of s) x.body x.path)))
end_here s c es ends node x e =
    let inner = made.inside (globals_of s) x.body x.path in
    let f = followed s c node x e in
    let many : length (paths (states s)) ≡ length f.before + suc (length inner + length f.after) =
    length-map (states s) (λ (y : State). y.path) ∙ ap length f.is ∙ length-append f.before (x ∷ (inner ++ f.after)) ∙ ap (λ k. length f.before + suc k) (length-append inner f.after) in
    let p = f.place in
    let k = ends.many in
    let r = within_get es node (omega (arith, many, p, k)) in
    r.1 ∙ ap (λ z. Some z)
    (one_end (paths (states s)) node r.0 (node + suc (length inner)) x.path (get_map (λ (y : State). y.path) (states s) node x e) (ends.each node r.0 r.1) (omega arith) (omega (arith, many, p)) f.span)

-- Children.

-- Children of a state stand one behind another from this number on.
pub record StandFrom (xs : List State) (es : List ℕ) (node place : ℕ) (cs : List StateDecl) : Type 0 where
  pub within : Each (λ k. k < length es) (in_row es place (length cs))
  pub are : AllZip (IsChildNamed (paths xs) node) (names cs) (in_row es place (length cs))

row_stands : (s : Spec) → IsChecked s → (es : List ℕ) → AreEnds (paths (states s)) es → (node : ℕ) (p : Path) → slice_get (paths (states s)) node ≡ Some p
    → (array : Option Amount) (earlier : List Name) (n : _) (row : Row_of-StateDecl n) (place : ℕ) (front after : List State) → Each (Clean s) (row_parts true array earlier row)
    → place ≡ length front → states s ≡ front ++ (row_inside (globals_of s) row p ++ after) → StandFrom (states s) es node place (items-the_row-StateDecl n row)
row_stands s c es ends node p here array earlier n end_of-StateDecl place front after clean l is = record { within = tt; are = tt }
row_stands s c es ends node p here array earlier n (more_of-StateDecl name (Some size) body others) place front after clean l is =
    let r = clean_row s true array earlier name (Some size) body others clean.0 clean.1 in absurd (true≢false r.first.no_array)
row_stands s c es ends node p here array earlier n (more_of-StateDecl name None body others) place front after clean l is =
    let g = globals_of s in
    let r = clean_row s true array earlier name None body others clean.0 clean.1 in
    let path = child_path p (at name 0) in
    let x = new_state body path in
    let inner = made.inside g body path in
    let rest = row_inside g others p in
    let whole : states s ≡ front ++ (x ∷ (inner ++ (rest ++ after))) = is ∙ ap (λ zs. front ++ ((zs ++ rest) ++ after)) (append-nil (x ∷ inner)) ∙ ap (λ zs. front ++ zs) (append_assoc (x ∷ inner) rest after) in
    let there : slice_get (states s) place ≡ Some x = ap (λ k. slice_get (states s) k) l ∙ ap (λ zs. slice_get zs (length front)) whole ∙ get_last front x (inner ++ (rest ++ after)) in
    let e = place + suc (length inner) in
    let ended = end_here s c es ends place x there in
    let next : slice_index_or es place 0 ≡ e = get_index es place e 0 ended in
    let others_stand = row_stands s c es ends node p here array (earlier ++ (name ∷ [])) _ others e (front ++ (x ∷ inner)) after r.after
    (omega (arith, l, length-append front (x ∷ inner))) (whole ∙ sym (append_assoc front (x ∷ inner) (rest ++ after))) in
    let cs = items-the_row-StateDecl _ others in
    record {
      within = (get_within es place e ended, subst (λ k. Each (λ j. j < length es) (in_row es k (length cs))) (sym next) others_stand.within);
      are = (
        λ q k. get_map (λ (y : State). y.path) (states s) place x there ∙ ap (λ z. Some (child_path z (at name 0))) (same_Some p q (sym here ∙ k)),
        subst (λ k. AllZip (IsChildNamed (paths (states s)) node) (names cs) (in_row es k (length cs))) (sym next) others_stand.are,
      );
    }

children_stand : (s : Spec) → IsChecked s → (es : List ℕ) → AreEnds (paths (states s)) es → (node : ℕ) (body : Body) (first : Name) → HasBody (states s) node body → default_of body ≡ Some first
    → StandFrom (states s) es node (node + 1) (children_of body)
children_stand s c es ends node body first b d = by_state (slice_get (states s) node) refl
  where
    by_body : (x : State) → slice_get (states s) node ≡ Some x → (body : Body) → x.body ≡ body → default_of body ≡ Some first → StandFrom (states s) es node (node + 1) (children_of body)
    by_body x e Basic q k = absurd (let no : ⊥ = cc in no)
    by_body x e (All' shape row) q k = absurd (let no : ⊥ = cc in no)
    by_body x e (One' f shape row bs ts) q k =
        let g = globals_of s in
        let h = followed s c node x e in
        let clean = clean_at s c node x e in
        row_stands s c es ends node x.path (get_map (λ (y : State). y.path) (states s) node x e) clean.0 [] _ row (node + 1) (h.before ++ (x ∷ [])) h.after
        (subst (λ z. Each (Clean s) (part.inside clean.0 z)) q clean.1)
        (let p = h.place in omega (arith, p, length-append h.before (x ∷ [])))
        (h.is ∙ ap (λ z. h.before ++ (x ∷ (made.inside g z x.path ++ h.after))) q ∙ sym (append_assoc h.before (x ∷ []) (row_inside g row x.path ++ h.after)))

    by_state : (o : Option State) → slice_get (states s) node ≡ o → StandFrom (states s) es node (node + 1) (children_of body)
    by_state None e = absurd (no_body (b ∙ ap (option_map (λ (y : State). y.body)) e))
      where
        no_body : Some body ≡ None → ⊥
        no_body k = cc
    by_state (Some x) e = by_body x e body (sym (same_Some body x.body (b ∙ ap (option_map (λ (y : State). y.body)) e))) d

-- the same of lists that are those of the states and of the children
pub children_in_row : (s : Spec) (xs : List State) (es : List ℕ) (node : ℕ) (body : Body) (first : Name) (cs : List StateDecl) → IsChecked s → xs ≡ states s → AreEnds (paths xs) es → HasBody xs node body
    → Some first ≡ default_of body → cs ≡ children_of body → StandFrom xs es node (node + 1) cs
children_in_row s xs es node body first cs c e ends b d is =
    subst (λ (ds : List StateDecl). StandFrom xs es node (node + 1) ds) (sym is)
    (subst (λ (ys : List State). StandFrom ys es node (node + 1) (children_of body)) (sym e)
    (children_stand s c es (subst (λ (ys : List State). AreEnds (paths ys) es) e ends) node body first (subst (λ (ys : List State). HasBody ys node body) e b) (sym d)))

-- Numbers in a row.

-- one number is put behind others, and the row goes on where it ends
pub row_more : (es : List ℕ) (first place i n : ℕ) (done more : List ℕ) → i < n → more ≡ done ++ place ∷ [] → done ++ in_row es place (n - i) ≡ in_row es first n → more ++ in_row es (slice_index_or es place 0) (n - (i + 1)) ≡ in_row es first n
row_more es first place i n done more l q h =
    let m = n - (i + 1) in
    let k : n - i ≡ suc m = omega (arith, l) in
    let next = slice_index_or es place 0 in
    ap (λ zs. zs ++ in_row es next m) q ∙ append_assoc done (place ∷ []) (in_row es next m) ∙ ap (λ z. done ++ in_row es place z) (sym k) ∙ h

-- the next number in a row, and those after it
pub row_within : (P : ℕ → Type 0) (es : List ℕ) (place i n : ℕ) → i < n → Each P (in_row es place (n - i)) → P place × Each P (in_row es (slice_index_or es place 0) (n - (i + 1)))
row_within P es place i n l h = let k : n - i ≡ suc (n - (i + 1)) = omega (arith, l) in subst (λ z. Each P (in_row es place z)) k h
