-- A function that depends on no level of a part, nor on one of a comparison that reads the part, does not tell worlds apart that
-- differ in that part alone.
use Rattle.std.proofs.Common.{◌≡◌, ◌≢◌, ℕ, zero, suc, ◌+◌, ◌-◌, ◌<◌, ◌==◌, ltb, Bool, true, false, ◌&&◌, ◌||◌, if◌then◌else◌, List, [], ◌∷◌, ◌++◌, length, zip, refl, sym, ap, ◌∙◌, subst, true≢false, inl, inr, arith, slice_get, slice_index_or, Option, None, Some}
use Rattle.std.specs.List.{list_any}
use Rattle.std.specs.Option.{unwrap_or}
use Rattle.std.proofs.lemmas.Bool.{eq-eqb}
use Rattle.std.proofs.lemmas.Bool.Decides.{eqb_tells, nat_tests}
use Rattle.std.proofs.lemmas.List.Folds.{list_any_at}
use Rattle.std.proofs.lemmas.Option.{same_Some, unwrap_or-slice_get}
use Rattle.rsml_syntax.specs.declared.syntax.Spec.{Spec}
use Rattle.rsml_syntax.specs.declared.world.World.{World}
use Rattle.rsml_meaning.specs.Instances.{components}
use Rattle.rsml_meaning.specs.Cells.{cells}
use Rattle.rsml_meaning.specs.Worlds.{IsWorld}
use Rattle.rsml_ground.specs.declared.phrases.GroundPhrase.{GroundPhrase}
use Rattle.rsml_ground.specs.declared.phrases.GroundPhrase.TheVariants as phrases
use Rattle.rsml_ground.specs.Truths.{Grounded, sum_number}
use Rattle.rsml_syntax.specs.rules.Relations.{compare}
use Rattle.bdd_core.specs.Diagram.{Diagram, meaning}
use Rattle.spelled_numbers.specs.declared.slot.Slot.{Slot}
use Rattle.spelled_numbers.specs.declared.slot.Slot.TheVariants.{Part, Free}
use Rattle.spelled_numbers.specs.Spelling.{total, left_after, digits}
use Rattle.spelled_numbers.specs.Bits.{bits_of}
use Rattle.world_levels.specs.Spelling.{above_least, cell_part, part_number, spelled_world}
use Rattle.world_levels.specs.Laws.{DifferInCell, EachWorldIsSpelled, FreeLevelsStay}
use Rattle.free_levels.specs.Values.{is_in, Ignores, IgnoresAll}
use Rattle.free_levels.proofs.StageLemmas.{never_true}
use Rattle.free_levels.proofs.ValueLemmas.{ignores-all, or-by_left, or-by_right}
use Rattle.keyed_levels.specs.declared.keyed.Keyed.{Keyed}
use Rattle.keyed_levels.specs.Keyed.{AreKeyed, KeyedWorlds, Lawful, Tells, comparison, key_at, no_key, phrases_of, world_at}
use Rattle.keyed_levels.specs.Laws.{EachWorldIsSpelledLawfully, SpelledLawfully}
use Rattle.settled_worlds.specs.Steps.{compares}
use Rattle.settled_worlds.proofs.ReadLemmas.{same_comparison}
use Rattle.elaborate.specs.Machine.{GroundMachine}
use Rattle.guard_encode.specs.declared.reading.ReadParts.{ReadParts}
use Rattle.guard_encode.specs.Encoding.{encoding_of, worlds_of}
use Rattle.guard_encode.specs.Marking.{AreRead, part_levels}
use Rattle.guard_encode.specs.Reading.{DifferInChoice, IgnoresCell, IgnoresChoice}
use Rattle.guard_encode.proofs.CellLemmas.{level_list, one_bit, later}

-- The digits of a part.

left_at : (b : Bool) (m : ℕ → ℕ) (p q v : ℕ) → (if b then left_after m q v else m) p ≡ (if b then m p - (if q == p then v else 0) else m p)
left_at true m p q v = refl
left_at false m p q v = refl

nothing_off : (b : Bool) (n : ℕ) → (if b then n - 0 else n) ≡ n
nothing_off true n = omega arith
nothing_off false n = refl

same_left : (b c : Bool) (m n : ℕ → ℕ) (p q v : ℕ) → (q ≡ p → b ≡ c) → m p ≡ n p → (if b then left_after m q v else m) p ≡ (if c then left_after n q v else n) p
same_left b c m n p q v tests same = left_at b m p q v ∙ mid ∙ sym (left_at c n p q v)
  where
    mid : (if b then m p - (if q == p then v else 0) else m p) ≡ (if c then n p - (if q == p then v else 0) else n p)
    mid = elim (eqb_tells q p) [
      | inl h ↦ (λ i. if tests h.1 i then same i - (if q == p then v else 0) else same i)
      | inr h ↦ ap (λ t. if b then m p - (if t then v else 0) else m p) h.0 ∙ nothing_off b (m p) ∙ same
          ∙ sym (ap (λ t. if c then n p - (if t then v else 0) else n p) h.0 ∙ nothing_off c (n p))
    ]

-- the value of a level depends on the number of its own part alone
same_digit : (slots : List Slot) (m n : ℕ → ℕ) (f g : ℕ → Bool) (k level p w : ℕ) → slice_get slots level ≡ Some (Part p w) → m p ≡ n p
    → slice_index_or (digits slots m f k) level false ≡ slice_index_or (digits slots n g k) level false
same_digit [] m n f g k level p w at same = absurd (let no : ⊥ = cc in no)
same_digit (Free ∷ ss) m n f g k zero p w at same = absurd (let no : ⊥ = cc in no)
same_digit (Free ∷ ss) m n f g k (suc level) p w at same = same_digit ss m n f g (k + 1) level p w at same
same_digit (Part q v ∷ ss) m n f g k zero p w at same =
    let own : q ≡ p = cc in
    ap (λ r. ltb (total q ss) (m r)) own ∙ ap (ltb (total q ss)) same ∙ sym (ap (λ r. ltb (total q ss) (n r)) own)
same_digit (Part q v ∷ ss) m n f g k (suc level) p w at same =
    same_digit ss (if ltb (total q ss) (m q) then left_after m q v else m) (if ltb (total q ss) (n q) then left_after n q v else n) f g (k + 1) level p w at
    (same_left (ltb (total q ss) (m q)) (ltb (total q ss) (n q)) m n p q v
    (λ own. ap (λ r. ltb (total q ss) (m r)) own ∙ ap (ltb (total q ss)) same ∙ sym (ap (λ r. ltb (total q ss) (n r)) own)) same)

-- past the last level
no_digit : (slots : List Slot) (m : ℕ → ℕ) (f : ℕ → Bool) (k level : ℕ) → slice_get slots level ≡ None → slice_index_or (digits slots m f k) level false ≡ false
no_digit [] m f k level at = refl
no_digit (s ∷ ss) m f k zero at = absurd (let no : ⊥ = cc in no)
no_digit (Free ∷ ss) m f k (suc level) at = no_digit ss m f (k + 1) level at
no_digit (Part q v ∷ ss) m f k (suc level) at = no_digit ss (if ltb (total q ss) (m q) then left_after m q v else m) f (k + 1) level at

-- The numbers of parts.

same_at : {A : Type 0} (xs ys : List A) (k : ℕ) (d : A) → slice_get xs k ≡ slice_get ys k → slice_index_or xs k d ≡ slice_index_or ys k d
same_at xs ys k d same = sym (unwrap_or-slice_get xs k d) ∙ ap (λ o. unwrap_or o d) same ∙ unwrap_or-slice_get ys k d

zip_past : {A B : Type 0} (cs : List A) (xs : List B) (k : ℕ) → slice_get xs k ≡ None → slice_get (zip cs xs) k ≡ None
zip_past [] xs k past = refl
zip_past (c ∷ cs) [] k past = refl
zip_past (c ∷ cs) (x ∷ xs) zero past = absurd (let no : ⊥ = cc in no)
zip_past (c ∷ cs) (x ∷ xs) (suc k) past = zip_past cs xs k past

zip_at : {A B : Type 0} (cs : List A) (xs ys : List B) (k : ℕ) → slice_get xs k ≡ slice_get ys k → slice_get (zip cs xs) k ≡ slice_get (zip cs ys) k
zip_at [] xs ys k same = refl
zip_at (c ∷ cs) [] ys k same = sym (zip_past (c ∷ cs) ys k (sym same))
zip_at (c ∷ cs) (x ∷ xs) [] k same = zip_past (c ∷ cs) (x ∷ xs) k same
zip_at (c ∷ cs) (x ∷ xs) (y ∷ ys) zero same = ap (λ z. Some (c, z)) (same_Some x y same)
zip_at (c ∷ cs) (x ∷ xs) (y ∷ ys) (suc k) same = zip_at cs xs ys k same

part_of_choice : (s : Spec) (component p : ℕ) (v w : World) → DifferInChoice component v w → p ≢ component → part_number s v p ≡ part_number s w p
part_of_choice s component p v w differ other =
    let same : slice_index_or v.choices p 0 ≡ slice_index_or w.choices p 0 = same_at v.choices w.choices p 0 (differ.choices p other) in
    λ i. if ltb p (length (components s)) then same i else above_least (slice_get (zip (cells s) (differ.cells i)) (p - length (components s)))

part_of_cell : (s : Spec) (cell p : ℕ) (v w : World) → DifferInCell s cell v w → p ≢ cell_part s cell → part_number s v p ≡ part_number s w p
part_of_cell s cell p v w differ other = by (ltb p (length (components s))) refl
  where
    by : (b : Bool) → ltb p (length (components s)) ≡ b → (if b then slice_index_or v.choices p 0 else above_least (slice_get (zip (cells s) v.cells) (p - length (components s))))
        ≡ (if b then slice_index_or w.choices p 0 else above_least (slice_get (zip (cells s) w.cells) (p - length (components s))))
    by true e = ap (λ ns. slice_index_or ns p 0) differ.choices
    by false e = ap above_least (zip_at (cells s) v.cells w.cells (p - length (components s))
        (differ.cells (p - length (components s)) (λ same. other (grind (arith, nat_tests, e, same)))))

-- Lawful values that spell a world, in one way.

-- whether a level is a key's
is_key : List Keyed → ℕ → Bool
is_key keyed level = list_any (λ x. x.level == level) keyed

-- the levels of parts as the world is spelled; those of keys as given, and the other free ones false
values_for : KeyedWorlds → (ℕ → Bool) → World → ℕ → Bool
values_for k given w = spelled_world k.base.spec k.slots w (λ level. is_key k.keyed level && given level)

-- they spell the world, and each key has the truth of its comparison
record SpellKeyed (k : KeyedWorlds) (w : World) (values : ℕ → Bool) : Type 0 where
  spells : world_at k values ≡ w
  of_key : (i : ℕ) → i < length k.keyed → values (key_at k.keyed i).level ≡ comparison w (slice_get (phrases_of k) (key_at k.keyed i).phrase)

lawful_for : (k : KeyedWorlds) (w : World) (values : ℕ → Bool) → SpellKeyed k w values → Lawful k values
lawful_for k w values h = λ i less. h.of_key i less ∙ ap (λ v. comparison v (slice_get (phrases_of k) (key_at k.keyed i).phrase)) (sym h.spells)

own_key : (keyed : List Keyed) (i : ℕ) → i < length keyed → is_key keyed (key_at keyed i).level ≡ true
unfolding is_key
own_key keyed i less = list_any_at (λ x. x.level == (key_at keyed i).level) keyed i no_key less (eq-eqb (key_at keyed i).level (key_at keyed i).level refl)

spell_keyed : EachWorldIsSpelled → FreeLevelsStay → (k : KeyedWorlds) → AreKeyed k → (w : World) → IsWorld k.base.spec w → (s : SpelledLawfully k w) → SpellKeyed k w (values_for k s.values w)
unfolding values_for
spell_keyed each stay k are w is s = record {
  spells = each k.base.spec k.slots are.layout w is (λ level. is_key k.keyed level && s.values level);
  of_key = λ i less.
      stay k.base.spec k.slots w (λ level. is_key k.keyed level && s.values level) (key_at k.keyed i).level (are.free i less)
      ∙ ap (λ b. b && s.values (key_at k.keyed i).level) (own_key k.keyed i less)
      ∙ s.lawful i less
      ∙ ap (λ v. comparison v (slice_get (phrases_of k) (key_at k.keyed i).phrase)) s.spells;
}

-- each world is spelled in one way by some lawful values
pub lawfully_spelled : EachWorldIsSpelled → FreeLevelsStay → EachWorldIsSpelledLawfully → (k : KeyedWorlds) → AreKeyed k → (w : World) → IsWorld k.base.spec w
    → (free : ℕ → Bool) × Lawful k (spelled_world k.base.spec k.slots w free)
unfolding values_for
lawfully_spelled each stay lawfully k are w is =
    let s = lawfully k are w is in
    (λ level. is_key k.keyed level && s.values level, lawful_for k w (values_for k s.values w) (spell_keyed each stay k are w is s))

record Found (keyed : List Keyed) (level : ℕ) : Type 0 where
  place : ℕ
  there : place < length keyed
  own : (key_at keyed place).level ≡ level

found : (keyed : List Keyed) (level : ℕ) → is_key keyed level ≡ true → Found keyed level
unfolding is_key
found [] level e = absurd (true≢false (sym e))
found (x ∷ xs) level e = by (x.level == level) refl (found xs level) e
  where
    by : (b : Bool) → (x.level == level) ≡ b → (list_any (λ y. y.level == level) xs ≡ true → Found xs level) → (b || list_any (λ y. y.level == level) xs) ≡ true → Found (x ∷ xs) level
    by true same rest e = record { place = 0; there = omega arith; own = grind (arith, nat_tests, same) }
    by false other rest e = let r = rest e in record { place = suc r.place; there = omega (arith, r.there); own = r.own }

-- the values for two worlds are the same at a level, where its part has the same number in both, or its comparison the same truth
record SameAt (k : KeyedWorlds) (v w : World) (level : ℕ) : Type 0 where
  of_part : (p weight : ℕ) → slice_get k.slots level ≡ Some (Part p weight) → part_number k.base.spec v p ≡ part_number k.base.spec w p
  of_key : (i : ℕ) → i < length k.keyed → (key_at k.keyed i).level ≡ level
      → comparison v (slice_get (phrases_of k) (key_at k.keyed i).phrase) ≡ comparison w (slice_get (phrases_of k) (key_at k.keyed i).phrase)

same_value : FreeLevelsStay → (k : KeyedWorlds) (v w : World) (g h : ℕ → Bool) (level : ℕ) → SpellKeyed k v (values_for k g v) → SpellKeyed k w (values_for k h w) → SameAt k v w level
    → values_for k g v level ≡ values_for k h w level
unfolding values_for is_key
same_value stay k v w g h level one other same = by (slice_get k.slots level) refl
  where
    free : slice_get k.slots level ≡ Some Free → (b : Bool) → is_key k.keyed level ≡ b → values_for k g v level ≡ values_for k h w level
    free at false none =
        stay k.base.spec k.slots v (λ l. is_key k.keyed l && g l) level at
        ∙ ap (λ b. b && g level) none
        ∙ sym (stay k.base.spec k.slots w (λ l. is_key k.keyed l && h l) level at ∙ ap (λ b. b && h level) none)
    free at true some =
        let there = found k.keyed level some in
        ap (values_for k g v) (sym there.own)
        ∙ one.of_key there.place there.there
        ∙ same.of_key there.place there.there there.own
        ∙ sym (other.of_key there.place there.there)
        ∙ ap (values_for k h w) there.own

    by : (o : Option Slot) → slice_get k.slots level ≡ o → values_for k g v level ≡ values_for k h w level
    by None at = no_digit k.slots (part_number k.base.spec v) _ 0 level at ∙ sym (no_digit k.slots (part_number k.base.spec w) _ 0 level at)
    by (Some Free) at = free at (is_key k.keyed level) refl
    by (Some (Part p weight)) at = same_digit k.slots (part_number k.base.spec v) (part_number k.base.spec w) _ _ 0 level p weight at (same.of_part p weight at)

-- what is told by a function that depends on none of some levels, of worlds that are the same at all others
told_same : EachWorldIsSpelled → FreeLevelsStay → EachWorldIsSpelledLawfully → (d : Diagram) (k : KeyedWorlds) (f : ℕ) (truth : World → Bool) → AreKeyed k → Tells d k truth f
    → (levels : List ℕ) → IgnoresAll (meaning d f) levels → (v w : World) → IsWorld k.base.spec v → IsWorld k.base.spec w
    → ((level : ℕ) → is_in levels level ≡ false → SameAt k v w level) → truth v ≡ truth w
told_same each stay lawfully d k f truth are told levels ignores v w is_v is_w same =
    let a = lawfully k are v is_v in
    let b = lawfully k are w is_w in
    let one = spell_keyed each stay k are v is_v a in
    let other = spell_keyed each stay k are w is_w b in
    ap truth (sym one.spells)
    ∙ sym (told.means (values_for k a.values v) (lawful_for k v (values_for k a.values v) one))
    ∙ ignores-all (meaning d f) levels ignores (values_for k a.values v) (values_for k b.values w) (λ level out. same_value stay k v w a.values b.values level one other (same level out))
    ∙ told.means (values_for k b.values w) (lawful_for k w (values_for k b.values w) other)
    ∙ ap truth other.spells

-- The levels of a part, and of the comparisons that read a cell.

in_part : (p w : ℕ) (slots : List Slot) (k j : ℕ) → slice_get slots j ≡ Some (Part p w) → is_in (level_list (bits_of p false slots k)) (k + j) ≡ true
in_part p w [] k j at = absurd (let no : ⊥ = cc in no)
in_part p w (Free ∷ ss) k zero at = absurd (let no : ⊥ = cc in no)
in_part p w (Free ∷ ss) k (suc j) at =
    let e : (k + 1) + j ≡ k + suc j = omega arith in
    subst (λ l. is_in (level_list (bits_of p false ss (k + 1))) l ≡ true) e (in_part p w ss (k + 1) j at)
in_part p w (Part q v ∷ ss) k zero at =
    let own : q ≡ p = cc in
    let e : k ≡ k + 0 = omega arith in
    let here : is_in (level_list (one_bit true v k ++ bits_of p false ss (k + 1))) k ≡ true = ap (λ b. b || is_in (level_list (bits_of p false ss (k + 1))) k) (eq-eqb k k refl) in
    subst (λ l. is_in (level_list (one_bit (q == p) v k ++ bits_of p false ss (k + 1))) l ≡ true) e
    (subst (λ b. is_in (level_list (one_bit b v k ++ bits_of p false ss (k + 1))) k ≡ true) (sym (eq-eqb q p own)) here)
in_part p w (Part q v ∷ ss) k (suc j) at =
    let e : (k + 1) + j ≡ k + suc j = omega arith in
    later (q == p) v p ss k (k + suc j) (subst (λ l. is_in (level_list (bits_of p false ss (k + 1))) l ≡ true) e (in_part p w ss (k + 1) j at))

-- a level that is none of a part's is another's
other_part : (slots : List Slot) (part level p w : ℕ) → is_in (part_levels slots part) level ≡ false → slice_get slots level ≡ Some (Part p w) → p ≢ part
other_part slots part level p w out at own =
    let here : 0 + level ≡ level = omega arith in
    true≢false (sym (subst (λ q. is_in (part_levels slots q) level ≡ true) own
    (subst (λ l. is_in (part_levels slots p) l ≡ true) here (in_part p w slots 0 level at))) ∙ out)

-- the levels of a part, and those of the keys that pass a test
keys_and : List ℕ → (Keyed → Bool) → List Keyed → List ℕ
keys_and levels test [] = levels
keys_and levels test (x ∷ xs) = if test x then x.level ∷ keys_and levels test xs else keys_and levels test xs

in_either : (b : Bool) (l : ℕ) (ls : List ℕ) (level : ℕ) → is_in ls level ≡ true → is_in (if b then l ∷ ls else ls) level ≡ true
in_either true l ls level e = or-by_right (level == l) (is_in ls level) e
in_either false l ls level e = e

in_levels : (levels : List ℕ) (test : Keyed → Bool) (xs : List Keyed) (level : ℕ) → is_in levels level ≡ true → is_in (keys_and levels test xs) level ≡ true
unfolding keys_and
in_levels levels test [] level e = e
in_levels levels test (x ∷ xs) level e = in_either (test x) x.level (keys_and levels test xs) level (in_levels levels test xs level e)

in_keys : (levels : List ℕ) (test : Keyed → Bool) (xs : List Keyed) (i : ℕ) → i < length xs → test (key_at xs i) ≡ true → is_in (keys_and levels test xs) (key_at xs i).level ≡ true
unfolding keys_and
in_keys levels test [] i less e = absurd (omega (arith, less))
in_keys levels test (x ∷ xs) zero less e =
    subst (λ b. is_in (if b then x.level ∷ keys_and levels test xs else keys_and levels test xs) x.level ≡ true) (sym e)
    (or-by_left (x.level == x.level) (is_in (keys_and levels test xs) x.level) (eq-eqb x.level x.level refl))
in_keys levels test (x ∷ xs) (suc i) less e =
    in_either (test x) x.level (keys_and levels test xs) (key_at xs i).level (in_keys levels test xs i (omega (arith, less)) e)

ignores_keys : (F : (ℕ → Bool) → Bool) (levels : List ℕ) (test : Keyed → Bool) (xs : List Keyed) → IgnoresAll F levels
    → ((i : ℕ) → i < length xs → test (key_at xs i) ≡ true → Ignores F (key_at xs i).level) → IgnoresAll F (keys_and levels test xs)
unfolding keys_and
ignores_keys F levels test [] all keys = all
ignores_keys F levels test (x ∷ xs) all keys = by (test x) refl (ignores_keys F levels test xs all (λ i less e. keys (suc i) (omega (arith, less)) e))
  where
    by : (b : Bool) → test x ≡ b → IgnoresAll F (keys_and levels test xs) → IgnoresAll F (if b then x.level ∷ keys_and levels test xs else keys_and levels test xs)
    by true e rest = λ level there. elim (eqb_tells level x.level) [
      | inl h ↦ subst (Ignores F) (sym h.1) (keys 0 (omega arith) e)
      | inr h ↦ rest level (sym (ap (λ b. b || is_in (keys_and levels test xs) level) h.0) ∙ there)
    ]
    by false e rest = rest

-- What is told by a function does not depend on a component of whose levels it depends on none.

same_cells : (v w : World) (o : Option GroundPhrase) → v.cells ≡ w.cells → comparison v o ≡ comparison w o
same_cells v w None same = refl
same_cells v w (Some (phrases.In n)) same = refl
same_cells v w (Some (phrases.Macro n)) same = refl
same_cells v w (Some (phrases.Any ns)) same = refl
same_cells v w (Some (phrases.Every ns)) same = refl
same_cells v w (Some (phrases.Function n relation constant)) same = refl
same_cells v w (Some (phrases.Compare left relation right)) same = ap (λ ns. compare relation (sum_number ns left) (sum_number ns right)) same

pub choice_ignored : EachWorldIsSpelled → FreeLevelsStay → EachWorldIsSpelledLawfully → (d : Diagram) (k : KeyedWorlds) (f component : ℕ) (truth : World → Bool) → AreKeyed k → Tells d k truth f
    → IgnoresAll (meaning d f) (part_levels k.slots component) → (v w : World) → IsWorld k.base.spec v → IsWorld k.base.spec w → DifferInChoice component v w → truth v ≡ truth w
choice_ignored each stay lawfully d k f component truth are told ignores v w is_v is_w differ =
    told_same each stay lawfully d k f truth are told (part_levels k.slots component) ignores v w is_v is_w
    (λ level out. record {
      of_part = λ p weight at. part_of_choice k.base.spec component p v w differ (other_part k.slots component level p weight out at);
      of_key = λ i less own. same_cells v w (slice_get (phrases_of k) (key_at k.keyed i).phrase) differ.cells;
    })

-- Nor on a cell of whose levels it depends on none, where it depends on the level of no comparison that names the cell.
pub cell_ignored : EachWorldIsSpelled → FreeLevelsStay → EachWorldIsSpelledLawfully → (d : Diagram) (k : KeyedWorlds) (f cell : ℕ) (truth : World → Bool) → AreKeyed k → Tells d k truth f
    → IgnoresAll (meaning d f) (part_levels k.slots (cell_part k.base.spec cell))
    → ((i : ℕ) → i < length k.keyed → compares cell (slice_get (phrases_of k) (key_at k.keyed i).phrase) ≡ true → Ignores (meaning d f) (key_at k.keyed i).level)
    → (v w : World) → IsWorld k.base.spec v → IsWorld k.base.spec w → DifferInCell k.base.spec cell v w → truth v ≡ truth w
cell_ignored each stay lawfully d k f cell truth are told ignores keys v w is_v is_w differ =
    told_same each stay lawfully d k f truth are told levels (ignores_keys (meaning d f) own reads k.keyed ignores keys) v w is_v is_w
    (λ level out. record {
      of_part = λ p weight at. part_of_cell k.base.spec cell p v w differ
          (other_part k.slots (cell_part k.base.spec cell) level p weight (never_true (is_in own level) (λ e. true≢false (sym (in_levels own reads k.keyed level e) ∙ out))) at);
      of_key = λ i less is. same_comparison cell v w (slice_get (phrases_of k) (key_at k.keyed i).phrase) differ.cells
          (never_true (reads (key_at k.keyed i)) (λ e. true≢false (sym (in_keys own reads k.keyed i less e) ∙ ap (is_in levels) is ∙ out)));
    })
  where
    own : List ℕ
    own = part_levels k.slots (cell_part k.base.spec cell)

    reads : Keyed → Bool
    reads x = compares cell (slice_get (phrases_of k) x.phrase)

    levels : List ℕ
    levels = keys_and own reads k.keyed

-- The same of an encoder, by the marks over its own levels.

own_read : (m : GroundMachine) (k : KeyedWorlds) (d : Diagram) (f : ℕ) (read : ReadParts) → k.base ≡ m.base → AreRead d k f read → AreRead d (worlds_of (encoding_of m k d)) f read
own_read m k d f read same are = subst (λ (g : Grounded). AreRead d (record k { base = g }) f read) same are

pub choice_unread : EachWorldIsSpelled → FreeLevelsStay → EachWorldIsSpelledLawfully → (m : GroundMachine) (k : KeyedWorlds) (d : Diagram) (f : ℕ) (read : ReadParts) → k.base ≡ m.base
    → AreKeyed (worlds_of (encoding_of m k d)) → AreRead d k f read → (component : ℕ) → slice_get read.choices component ≡ Some false → IgnoresChoice (encoding_of m k d) component f
choice_unread each stay lawfully m k d f read same keyed are component not = λ truth told v w is_v is_w differ.
    choice_ignored each stay lawfully d (worlds_of (encoding_of m k d)) f component truth keyed told ((own_read m k d f read same are).of_choice component not) v w is_v is_w differ

pub cell_unread : EachWorldIsSpelled → FreeLevelsStay → EachWorldIsSpelledLawfully → (m : GroundMachine) (k : KeyedWorlds) (d : Diagram) (f : ℕ) (read : ReadParts) → k.base ≡ m.base
    → AreKeyed (worlds_of (encoding_of m k d)) → AreRead d k f read → (cell : ℕ) → slice_get read.cells cell ≡ Some false → IgnoresCell (encoding_of m k d) cell f
cell_unread each stay lawfully m k d f read same keyed are cell not = λ truth told v w is_v is_w differ.
    let own = own_read m k d f read same are in
    cell_ignored each stay lawfully d (worlds_of (encoding_of m k d)) f cell truth keyed told (own.of_cell cell not) (λ i less reads. own.of_key cell i not less reads)
    v w is_v is_w differ
