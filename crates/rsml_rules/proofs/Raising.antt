-- Mentions in a raise list, and those that were seen.
use Rattle.std.proofs.Common.{◌≡◌, ℕ, ◌+◌, ◌<◌, Bool, true, false, cond, List, [], ◌∷◌, ◌++◌, length, take, drop, get_or, Option, Some, None, Bor, suc, refl, sym, ap, ◌∙◌, add-one, drop-cons, true≢false}
use Rattle.std.specs.Prelude.{not, ◌&&◌, ◌||◌}
use Rattle.std.specs.List.{list_any}
use Rattle.std.specs.Cmp.Lexicographic.{same_text}
use Rattle.std.proofs.lemmas.Bool.{eqb-true}
use Rattle.std.proofs.lemmas.List.{take_more}
use Rattle.std.proofs.lemmas.List.Folds.{list_any-append}
use Rattle.indexmap.specs.IndexSet.{insert_key}
use Rattle.rsml_syntax.specs.declared.syntax.Index.{Index}
use Rattle.rsml_syntax.specs.declared.syntax.Index.TheVariants as index
use Rattle.rsml_syntax.specs.declared.syntax.Mention.{Mention}
use Rattle.rsml_syntax.specs.text.Names.{Name, same}
use Rattle.rsml_syntax.specs.rules.Breaches.{Breach, breach}
use Rattle.rsml_rules.specs.breaches.Noting.{noted}
use Rattle.rsml_syntax.specs.rules.States.{same_index, same_mention, raised_again}
use Rattle.rsml_syntax.specs.contracts.syntax.MentionPartialEq.TheImpl as mentions
use Rattle.rsml_rules.proofs.Noting.{noted_append}

-- THE SAME MENTION

-- the same by the parts of mentions
same_parts : (n m : Name) (a b : Option Index) →
    mentions.eq-value.it (record { name = n; index = a }) (record { name = m; index = b }) ≡ same_mention (record { name = n; index = a }) (record { name = m; index = b })
same_parts n m None None = refl
same_parts n m None (Some (index.Number j)) = refl
same_parts n m None (Some (index.Name j)) = refl
same_parts n m None (Some index.This) = refl
same_parts n m (Some (index.Number i)) None = refl
same_parts n m (Some (index.Number i)) (Some (index.Number j)) = refl
same_parts n m (Some (index.Number i)) (Some (index.Name j)) = refl
same_parts n m (Some (index.Number i)) (Some index.This) = refl
same_parts n m (Some (index.Name i)) None = refl
same_parts n m (Some (index.Name i)) (Some (index.Number j)) = refl
same_parts n m (Some (index.Name i)) (Some (index.Name j)) = refl
same_parts n m (Some (index.Name i)) (Some index.This) = refl
same_parts n m (Some index.This) None = refl
same_parts n m (Some index.This) (Some (index.Number j)) = refl
same_parts n m (Some index.This) (Some (index.Name j)) = refl
same_parts n m (Some index.This) (Some index.This) = refl

-- a lent mention equals this one
abbrev pub equals : Mention → Bor Mention → Bool
equals m b = mentions.eq-value.it m b.now

same_equals : (m : Mention) (b : Bor Mention) → equals m b ≡ same_mention m b.now
same_equals m b = same_parts m.name b.now.name m.index b.now.index

-- indices that are the same are equal
same_index_is : (a b : Option Index) → same_index a b ≡ true → a ≡ b
same_index_is None None h = refl
same_index_is (Some (index.Number a)) (Some (index.Number b)) h = ap (λ (n : ℕ). Some (index.Number n)) (eqb-true a b h)
same_index_is (Some (index.Name a)) (Some (index.Name b)) h = ap (λ (n : Name). Some (index.Name n)) (same_text a b (sym h))
same_index_is (Some index.This) (Some index.This) h = refl
same_index_is None (Some b) h = absurd (true≢false (sym h))
same_index_is (Some (index.Number a)) None h = absurd (true≢false (sym h))
same_index_is (Some (index.Name a)) None h = absurd (true≢false (sym h))
same_index_is (Some index.This) None h = absurd (true≢false (sym h))
same_index_is (Some (index.Number a)) (Some (index.Name b)) h = absurd (true≢false (sym h))
same_index_is (Some (index.Number a)) (Some index.This) h = absurd (true≢false (sym h))
same_index_is (Some (index.Name a)) (Some (index.Number b)) h = absurd (true≢false (sym h))
same_index_is (Some (index.Name a)) (Some index.This) h = absurd (true≢false (sym h))
same_index_is (Some index.This) (Some (index.Number b)) h = absurd (true≢false (sym h))
same_index_is (Some index.This) (Some (index.Name b)) h = absurd (true≢false (sym h))

-- both hold
both : (a b : Bool) → (a && b) ≡ true → (a ≡ true) × (b ≡ true)
both true b h = (refl, h)
both false b h = absurd (true≢false (sym h))

-- mentions that are the same are equal
same_mention_is : (a b : Mention) → same_mention a b ≡ true → a ≡ b
same_mention_is a b h =
    let parts = both (same a.name b.name) (same_index a.index b.index) h in
    let name : a.name ≡ b.name = same_text a.name b.name (sym parts.0) in
    let index : a.index ≡ b.index = same_index_is a.index b.index parts.1 in
    λ j. record { name = name j; index = index j }

-- WHAT WAS SEEN

-- a mention is among those that are lent
abbrev pub is_among : List (Bor Mention) → Mention → Bool
is_among ks m = list_any (λ k. same_mention m k.now) ks

found_by : (m : Mention) (ks : List (Bor Mention)) → list_any (equals m) ks ≡ is_among ks m
found_by m [] = refl
found_by m (j ∷ ks) = ap (λ b. b || list_any (equals m) ks) (same_equals m j) ∙ ap (λ b. same_mention m j.now || b) (found_by m ks)

-- a second case that the first one covers changes nothing
stays : (a b : Bool) → (b ≡ true → a ≡ true) → (a || (b || false)) ≡ a
stays true b h = refl
stays false true h = sym (h refl)
stays false false h = refl

-- the mentions that were seen, with one more
pub seen_more : (ks : List (Bor Mention)) (es : List Mention) (k : Bor Mention) (m : Mention) → ((m : Mention) → is_among ks m ≡ list_any (same_mention m) es) →
    is_among (insert_key (λ a. equals a.now) ks k) m ≡ list_any (same_mention m) (es ++ k.now ∷ [])
seen_more ks es k m h = by (list_any (equals k.now) ks) refl ∙ sym (list_any-append (same_mention m) es (k.now ∷ []))
  where
    in_new : is_among (ks ++ k ∷ []) m ≡ (list_any (same_mention m) es || (same_mention m k.now || false))
    in_new =
        list_any-append (λ (k : Bor Mention). same_mention m k.now) ks (k ∷ [])
        ∙ ap (λ b. b || (same_mention m k.now || false)) (h m)

    was_seen : list_any (equals k.now) ks ≡ true → same_mention m k.now ≡ true → list_any (same_mention m) es ≡ true
    was_seen found alike =
        ap (λ (n : Mention). list_any (same_mention n) es) (same_mention_is m k.now alike)
        ∙ sym (h k.now)
        ∙ sym (found_by k.now ks)
        ∙ found

    by : (b : Bool) → list_any (equals k.now) ks ≡ b → is_among (cond b ks (ks ++ k ∷ [])) m ≡ (list_any (same_mention m) es || (same_mention m k.now || false))
    by true found = h m ∙ sym (stays (list_any (same_mention m) es) (same_mention m k.now) (was_seen found))
    by false found = in_new

-- A TURN

-- what is not denied holds
not_not : (b : Bool) → not (not b) ≡ b
not_not true = refl
not_not false = refl

-- whether a mention is new
pub new_mention : (ks : List (Bor Mention)) (es : List Mention) (x : Mention) (is_new : Bool) → ((m : Mention) → is_among ks m ≡ list_any (same_mention m) es) →
    is_new ≡ not (list_any (equals x) ks) → not is_new ≡ list_any (same_mention x) es
new_mention ks es x is_new h new = ap not new ∙ not_not (list_any (equals x) ks) ∙ found_by x ks ∙ h x

-- what is still to note is what is noted at a mention, and then at those behind it
pub raised_turn : (worst : Option Breach) (ms : List Mention) (i : ℕ) (x : Mention) → i < length ms → x ≡ get_or ms i x →
    noted worst (raised_again (take i ms) (drop i ms))
    ≡ noted (noted worst (breach 14 x.name (list_any (same_mention x) (take i ms)))) (raised_again (take (i + 1) ms) (drop (i + 1) ms))
raised_turn worst ms i x h e =
    let front : take (i + 1) ms ≡ take i ms ++ x ∷ [] = take_more ms i x h ∙ ap (λ y. take i ms ++ y ∷ []) (sym e) in
    let rest : drop i ms ≡ x ∷ drop (i + 1) ms = rw (add-one, drop-cons ms i x h) (ap (λ y. y ∷ drop (suc i) ms) (sym e)) in
    ap (λ (ys : List Mention). noted worst (raised_again (take i ms) ys)) rest
    ∙ noted_append worst (breach 14 x.name (list_any (same_mention x) (take i ms))) (raised_again (take i ms ++ x ∷ []) (drop (i + 1) ms))
    ∙ ap (λ (ys : List Mention). noted (noted worst (breach 14 x.name (list_any (same_mention x) (take i ms)))) (raised_again ys (drop (i + 1) ms))) (sym front)
