-- What is kept of receives that stand one behind another.
use Rattle.std.proofs.Common.{◌≡◌, ℕ, zero, suc, ◌+◌, ◌≤◌, ◌<◌, List, [], ◌∷◌, ◌++◌, map, length, take, drop, Option, Some, None, slice_get, get_or, IfSome, unwrap_or, refl, sym, ap, ◌∙◌, subst, arith, length-append, append-nil, append_assoc}
use Rattle.std.specs.Option.{option_map}
use Rattle.std.proofs.Math.Seq.{take-append_seam, drop-append-add}
use Rattle.std.proofs.lemmas.Grind.{flat_map-append}
use Rattle.std.proofs.lemmas.List.{map-append, take-map, drop-map, length-map}
use Rattle.std.proofs.lemmas.Option.{slice_get-map}
use Rattle.rsml_syntax.specs.declared.syntax.Spec.{Spec}
use Rattle.rsml_syntax.specs.declared.syntax.Mention.{Mention}
use Rattle.rsml_syntax.specs.text.Names.{Name}
use Rattle.rsml_syntax.specs.rules.Globals.{Globals, up_to}
use Rattle.rsml_meaning.specs.Words.{Instance, Each, place_in}
use Rattle.rsml_meaning.proofs.Lists.{each_one}
use Rattle.rsml_meaning.proofs.Globals.{in_up_to}
use Rattle.rsml_ground.specs.Scoped.{ReceiveIsScoped}
use Rattle.rsml_meaning.specs.Instances.{events}
use Rattle.rsml_meaning.specs.Interfaces.{ReceiveInstance, new_receive, receives}
use Rattle.interfaces.specs.declared.field.Field.{Field}
use Rattle.interfaces.specs.declared.receive.Receive.{Receive}
use Rattle.interfaces.specs.Kept.{places, written, inputs_of, entries, entry, IsThere, AreFields, AreKept}

pub same_some : {A : Type 0} (x y : A) → Some x ≡ Some y → x ≡ y
same_some {A} x y h = ap (λ (o : Option A). unwrap_or o x) h

inputs_behind : (xs : List ReceiveInstance) (x : ReceiveInstance) → inputs_of (xs ++ (x ∷ [])) ≡ inputs_of xs ++ x.inputs
inputs_behind xs x = flat_map-append (λ (y : ReceiveInstance). y.inputs) xs (x ∷ []) ∙ ap (λ (zs : List Instance). inputs_of xs ++ zs) (append-nil x.inputs)

module _ (s : Spec) where
  -- what is kept of a receive whose first field has this place
  abbrev kept_at : ℕ → ReceiveInstance → ℕ × (ℕ × Option ℕ)
  kept_at first x = (first, (length x.inputs, place_in (events s) x.raised))

  behind : (n : ℕ) (xs : List ReceiveInstance) (x : ReceiveInstance) → entries s n (xs ++ (x ∷ [])) ≡ entries s n xs ++ (kept_at (n + length (inputs_of xs)) x ∷ [])
  behind n [] x = ap (λ (m : ℕ). kept_at m x ∷ []) (omega arith)
  behind n (y ∷ ys) x =
      let l = length-append y.inputs (inputs_of ys) in
      ap (λ (es : List (ℕ × (ℕ × Option ℕ))). kept_at n y ∷ es)
      (behind (n + length y.inputs) ys x ∙ ap (λ (m : ℕ). entries s (n + length y.inputs) ys ++ (kept_at m x ∷ [])) (omega (arith, l)))

  pub kept_behind : (fields more : List Field) (kept : List Receive) (r : Receive) (xs : List ReceiveInstance) (x : ReceiveInstance) → AreKept s fields kept xs → map written more ≡ map written fields ++ map (places s) x.inputs
      → r.first ≡ length fields → r.count ≡ length x.inputs → place_in (events s) x.raised ≡ Some r.raised → AreKept s more (kept ++ (r ∷ [])) (xs ++ (x ∷ []))
  kept_behind fields more kept r xs x h m first count raised =
      let l = sym (length-map fields written) ∙ ap length h.fields_are ∙ length-map (inputs_of xs) (places s) in
      let begins : r.first ≡ 0 + length (inputs_of xs) = omega (arith, l, first) in
      record {
        fields_are = m ∙ ap (λ (ps : List (Option ℕ × Option ℕ)). ps ++ map (places s) x.inputs) h.fields_are ∙ sym (map-append (places s) (inputs_of xs) x.inputs) ∙ ap (map (places s)) (sym (inputs_behind xs x));
        kept_are =
            map-append entry kept (r ∷ [])
            ∙ ap (λ (es : List (ℕ × (ℕ × Option ℕ))). es ++ (entry r ∷ [])) h.kept_are
            ∙ ap (λ (n : ℕ). entries s 0 xs ++ ((n, (r.count, Some r.raised)) ∷ [])) begins
            ∙ ap (λ (n : ℕ). entries s 0 xs ++ ((0 + length (inputs_of xs), (n, Some r.raised)) ∷ [])) count
            ∙ ap (λ (o : Option ℕ). entries s 0 xs ++ ((0 + length (inputs_of xs), (length x.inputs, o)) ∷ [])) (sym raised)
            ∙ sym (behind 0 xs x);
      }

  -- The fields of the receive at a place begin so far behind the first ones.
  record IsPart (n : ℕ) (xs : List ReceiveInstance) (k : ℕ) (x : ReceiveInstance) : Type 0 where
    later : ℕ
    is : slice_get (entries s n xs) k ≡ Some (kept_at (n + later) x)
    within : later + length x.inputs ≤ length (inputs_of xs)
    part : take (length x.inputs) (drop later (inputs_of xs)) ≡ x.inputs

  part_here : (n : ℕ) (y : ReceiveInstance) (ys : List ReceiveInstance) → IsPart n (y ∷ ys) 0 y
  part_here n y ys = record {
    later = 0;
    is = ap (λ (m : ℕ). Some (kept_at m y)) (omega arith);
    within = let l = length-append y.inputs (inputs_of ys) in omega (arith, l);
    part = take-append_seam y.inputs (inputs_of ys);
  }

  part_at : (n : ℕ) (xs : List ReceiveInstance) (k : ℕ) (x : ReceiveInstance) → slice_get xs k ≡ Some x → IsPart n xs k x
  part_at n [] k x h = absurd (let no : ⊥ = cc in no)
  part_at n (y ∷ ys) zero x h = subst (λ z. IsPart n (y ∷ ys) 0 z) (same_some y x h) (part_here n y ys)
  part_at n (y ∷ ys) (suc k) x h =
      let r = part_at (n + length y.inputs) ys k x h in
      let l = length-append y.inputs (inputs_of ys) in
      let w = r.within in
      record {
        later = length y.inputs + r.later;
        is = r.is ∙ ap (λ (m : ℕ). Some (kept_at m x)) (omega arith);
        within = omega (arith, l, w);
        part = ap (take (length x.inputs)) (drop-append-add y.inputs (inputs_of ys) r.later) ∙ r.part;
      }

  pub fields_at : (fields : List Field) (kept : List Receive) (xs : List ReceiveInstance) (k : ℕ) (x : ReceiveInstance) (r : Receive) → AreKept s fields kept xs → slice_get xs k ≡ Some x → slice_get kept k ≡ Some r → AreFields s fields r x
  fields_at fields kept xs k x r h at_x at_r =
      let p = part_at 0 xs k x at_x in
      let same = same_some (entry r) (kept_at (0 + p.later) x) (sym (slice_get-map entry kept k ∙ ap (λ (o : Option Receive). option_map entry o) at_r) ∙ ap (λ es. slice_get es k) h.kept_are ∙ p.is) in
      by p.later (ap (λ (e : ℕ × (ℕ × Option ℕ)). e.0) same) (ap (λ (e : ℕ × (ℕ × Option ℕ)). e.1.0) same) (ap (λ (e : ℕ × (ℕ × Option ℕ)). e.1.1) same) p.within p.part
    where
      by : (later : ℕ) → r.first ≡ 0 + later → r.count ≡ length x.inputs → Some r.raised ≡ place_in (events s) x.raised → later + length x.inputs ≤ length (inputs_of xs)
          → take (length x.inputs) (drop later (inputs_of xs)) ≡ x.inputs → AreFields s fields r x
      by later first count raised within part =
          let l = sym (length-map fields written) ∙ ap length h.fields_are ∙ length-map (inputs_of xs) (places s) in
          let begins : r.first ≡ later = omega (arith, first) in
          record {
            count = count;
            raised = sym raised;
            within = omega (arith, l, begins, count, within);
            are =
                sym (take-map written r.count (drop r.first fields))
                ∙ ap (take r.count) (sym (drop-map written r.first fields))
                ∙ ap (λ (ps : List (Option ℕ × Option ℕ)). take r.count (drop r.first ps)) h.fields_are
                ∙ ap (λ (n : ℕ). take n (drop r.first (map (places s) (inputs_of xs)))) count
                ∙ ap (λ (n : ℕ). take (length x.inputs) (drop n (map (places s) (inputs_of xs)))) begins
                ∙ ap (take (length x.inputs)) (drop-map (places s) later (inputs_of xs))
                ∙ take-map (places s) (length x.inputs) (drop later (inputs_of xs))
                ∙ ap (map (places s)) part;
          }

  kept_long : (n : ℕ) (xs : List ReceiveInstance) → length (entries s n xs) ≡ length xs
  kept_long n [] = refl
  kept_long n (x ∷ xs) = ap suc (kept_long (n + length x.inputs) xs)

  pub as_many : (fields : List Field) (kept : List Receive) (xs : List ReceiveInstance) → AreKept s fields kept xs → length kept ≡ length xs
  as_many fields kept xs h = sym (length-map kept entry) ∙ ap length h.kept_are ∙ kept_long 0 xs

  some_fields : (o : Option ReceiveInstance) (fields : List Field) (r : Receive) → ((x : ReceiveInstance) → o ≡ Some x → AreFields s fields r x) → IfSome o (λ x. AreFields s fields r x)
  some_fields None fields r h = tt
  some_fields (Some x) fields r h = h x refl

  -- what is kept of the receive at a place
  pub kept_there : (t : Spec) (fields : List Field) (kept : List Receive) (k : ℕ) (r : Receive) → s ≡ t → AreKept s fields kept (receives s) → slice_get kept k ≡ Some r → IfSome (slice_get (receives t) k) (λ x. AreFields t fields r x)
  kept_there t fields kept k r e h at_r =
      subst (λ u. IfSome (slice_get (receives u) k) (λ x. AreFields u fields r x)) e (some_fields (slice_get (receives s) k) fields r (λ x at_x. fields_at fields kept (receives s) k x r h at_x at_r))

  pub kept_within : (t : Spec) (fields : List Field) (kept : List Receive) (k : ℕ) → s ≡ t → AreKept s fields kept (receives s) → k < length (receives t) → k < length kept
  kept_within t fields kept k e h l = let m = as_many fields kept (receives s) h in let n = ap (λ (u : Spec). length (receives u)) e in omega (arith, l, m, n)

  item : {A : Type 0} (xs : List A) (k : ℕ) (x : A) → k < length xs → x ≡ get_or xs k x → slice_get xs k ≡ Some x
  item [] k x l e = absurd (omega (arith, l))
  item (y ∷ ys) zero x l e = ap (λ z. Some z) (sym e)
  item (y ∷ ys) (suc k) x l e = item ys k x (omega (arith, l)) e

  pub kept_by : (t : Spec) (fields : List Field) (kept : List Receive) (k : ℕ) (r : Receive) → s ≡ t → AreKept s fields kept (receives s) → k < length (receives t) → r ≡ get_or kept k r
      → IfSome (slice_get (receives t) k) (λ x. AreFields t fields r x)
  kept_by t fields kept k r e h l i = kept_there t fields kept k r e h (item kept k r (kept_within t fields kept k e h l) i)

  pub receives_count : (t : Spec) (names : List Instance) (n : ℕ) → s ≡ t → names ≡ map (λ x. x.receive) (receives s) → n ≡ length names → n ≡ length (receives t)
  receives_count t names n e h l = l ∙ ap length h ∙ length-map (receives s) (λ (x : ReceiveInstance). x.receive) ∙ ap (λ (u : Spec). length (receives u)) e

  pub kept_pushed : (fields more : List Field) (kept new : List Receive) (r : Receive) (xs : List ReceiveInstance) (x : ReceiveInstance) → AreKept s fields kept xs → map written more ≡ map written fields ++ map (places s) x.inputs
      → r.first ≡ length fields → r.count ≡ length x.inputs → place_in (events s) x.raised ≡ Some r.raised → new ≡ kept ++ (r ∷ []) → AreKept s more new (xs ++ (x ∷ []))
  kept_pushed fields more kept new r xs x h m first count raised push = subst (λ ks. AreKept s more ks (xs ++ (x ∷ []))) (sym push) (kept_behind fields more kept r xs x h m first count raised)

  pub kept_next : (g : Globals) (name : Name) (inputs : List Mention) (raised : Mention) (fields : List Field) (kept : List Receive) (xs : List ReceiveInstance) (n : ℕ)
      → AreKept s fields kept ((xs ++ map (new_receive g name inputs raised) (up_to n)) ++ (new_receive g name inputs raised (n + 1) ∷ [])) → AreKept s fields kept (xs ++ map (new_receive g name inputs raised) (up_to (n + 1)))
  kept_next g name inputs raised fields kept xs n h =
      let one : n + 1 ≡ suc n = omega arith in
      subst (AreKept s fields kept)
      (append_assoc xs (map (new_receive g name inputs raised) (up_to n)) (new_receive g name inputs raised (n + 1) ∷ [])
      ∙ ap (λ (zs : List ReceiveInstance). xs ++ zs) (sym (map-append (new_receive g name inputs raised) (up_to n) ((n + 1) ∷ [])))
      ∙ ap (λ (m : ℕ). xs ++ map (new_receive g name inputs raised) (up_to n ++ (m ∷ []))) one
      ∙ ap (λ (m : ℕ). xs ++ map (new_receive g name inputs raised) (up_to m)) (sym one)) h

  pub there_at : (g : Globals) (inputs : List Mention) (raised : Mention) (n m k : ℕ) → Each (IsThere s g inputs raised) (up_to n) → m ≡ n → k < m → IsThere s g inputs raised (k + 1)
  there_at g inputs raised n m k h e l = each_one (IsThere s g inputs raised) (up_to n) (k + 1) h (in_up_to n (k + 1) (omega arith) (omega (arith, e, l)))

  pub there_of : (g : Globals) (name : Name) (inputs : List Mention) (raised : Mention) (is : List ℕ) → Each (ReceiveIsScoped s) (map (new_receive g name inputs raised) is) → Each (IsThere s g inputs raised) is
  there_of g name inputs raised [] h = tt
  there_of g name inputs raised (i ∷ is) h = (record { inputs_are = h.0.inputs; event_is = (h.0.event, h.0.place, h.0.fits) }, there_of g name inputs raised is h.1)
