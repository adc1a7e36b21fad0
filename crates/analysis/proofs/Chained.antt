-- What is found of the events, as answers of a report.
use Rattle.std.proofs.Common.{◌≡◌, ℕ, suc, ◌+◌, ◌≤◌, Bool, true, false, List, [], ◌∷◌, ◌++◌, map, flat_map, filter, zip, length, Option, Some, None, is_some, slice_get, refl, ap, ◌∙◌, subst, arith, codes, decimal}
use Rattle.std.specs.List.{AllZip, items_where_true, range_with_len}
use Rattle.std.specs.Option.{option_map_or}
use Rattle.std.proofs.lemmas.List.FromFn.{length-range_with_len}
use Rattle.rsml_syntax.specs.declared.syntax.Spec.{Spec}
use Rattle.rsml_meaning.specs.Words.{Instance}
use Rattle.rsml_meaning.specs.Instances.{events}
use Rattle.rsml_meaning.specs.Texts.{text_line, instance_text}
use Rattle.rsml_meaning.specs.Report.{ClashFound, IsLengthAnswer, IsClashAnswer, length_text, chain_line, loop_line, clash_line}
use Rattle.ground_members.specs.Members.{IsEvent}
use Rattle.event_graph.specs.declared.clash.Clash.{Clash}
use Rattle.event_graph.specs.Clashes.{if_any}
use Rattle.event_chains.specs.declared.external.External.{External}
use Rattle.event_chains.specs.Found.{AreLoopAnswers, AreLooping, ClashIs, IsFirst, ExternalIs}
use Rattle.analysis.specs.Lines.{event_text, chain_line_of, loop_line_of, clash_line_of}

event_is : (s : Spec) (e : Instance) (n : ℕ) → IsEvent s e n → event_text s n ≡ instance_text e
event_is s e n h = ap (λ (o : Option Instance). option_map_or instance_text o []) h

-- Lengths.

pub lengths_right : (s : Spec) (xs : List Instance) (rs : List External) → AllZip (ExternalIs s) xs rs → AllZip (IsLengthAnswer s) xs (map (λ r. r.length) rs)
lengths_right s [] [] h = tt
lengths_right s [] (r ∷ rs) h = absurd h
lengths_right s (x ∷ xs) [] h = absurd h
lengths_right s (x ∷ xs) (r ∷ rs) h = (h.0.length, lengths_right s xs rs h.1)

pub chain_lines : (s : Spec) (xs : List Instance) (rs : List External) → AllZip (ExternalIs s) xs rs
    → flat_map (chain_line_of s) rs ≡ flat_map chain_line (zip xs (map (λ r. r.length) rs))
chain_lines s [] [] h = refl
chain_lines s [] (r ∷ rs) h = absurd h
chain_lines s (x ∷ xs) [] h = absurd h
chain_lines s (x ∷ xs) (r ∷ rs) h =
    λ i. text_line (codes "chain " ++ (event_is s x r.event h.0.event i ++ (codes " " ++ length_text r.length))) ++ chain_lines s xs rs h.1 i

-- Loops.

-- what is picked of two lists is as many
as_many : {A B : Type 0} (flags : List Bool) (xs : List A) (ys : List B) → length xs ≡ length ys → length (items_where_true flags xs) ≡ length (items_where_true flags ys)
as_many [] xs ys h = refl
as_many (b ∷ flags) [] [] h = refl
as_many (b ∷ flags) [] (y ∷ ys) h = absurd (omega (arith, h))
as_many (b ∷ flags) (x ∷ xs) [] h = absurd (omega (arith, h))
as_many (true ∷ flags) (x ∷ xs) (y ∷ ys) h = ap suc (as_many flags xs ys (omega (arith, h)))
as_many (false ∷ flags) (x ∷ xs) (y ∷ ys) h = as_many flags xs ys (omega (arith, h))

no_more : {A : Type 0} (flags : List Bool) (xs : List A) → length (items_where_true flags xs) ≤ length xs
no_more [] xs = omega arith
no_more (b ∷ flags) [] = omega arith
no_more (true ∷ flags) (x ∷ xs) = let l = no_more flags xs in omega (arith, l)
no_more (false ∷ flags) (x ∷ xs) = let l = no_more flags xs in omega (arith, l)

picked_lines : (s : Spec) (flags : List Bool) (es : List Instance) (i : ℕ) → ((k : ℕ) (e : Instance) → slice_get es k ≡ Some e → IsEvent s e (i + k))
    → flat_map (loop_line_of s) (items_where_true flags (range_with_len i (length es))) ≡ flat_map loop_line (items_where_true flags es)
picked_lines s [] es i h = refl
picked_lines s (b ∷ flags) [] i h = refl
picked_lines s (true ∷ flags) (e ∷ es) i h =
    let here : IsEvent s e i = subst (λ n. IsEvent s e n) (omega arith) (h 0 e refl) in
    let rest = picked_lines s flags es (i + 1) (λ k f l. subst (λ n. IsEvent s f n) (omega arith) (h (suc k) f l)) in
    λ j. text_line (codes "loop " ++ event_is s e i here j) ++ rest j
picked_lines s (false ∷ flags) (e ∷ es) i h = picked_lines s flags es (i + 1) (λ k f l. subst (λ n. IsEvent s f n) (omega arith) (h (suc k) f l))

-- The flags of the events that loop, with their lines and how many they are.
pub record LoopsTold (s : Spec) (ks : List ℕ) : Type 0 where
  pub flags : List Bool
  pub right : AreLoopAnswers s flags
  pub told : flat_map (loop_line_of s) ks ≡ flat_map loop_line (items_where_true flags (events s))
  pub count : length ks ≡ length (items_where_true flags (events s))
  pub few : length ks ≤ length (events s)

pub loops_told : (s : Spec) (ks : List ℕ) → AreLooping s ks → LoopsTold s ks
loops_told s ks (flags, right, are) =
    let count : length ks ≡ length (items_where_true flags (events s)) = ap length are ∙ as_many flags (range_with_len 0 (length (events s))) (events s) (length-range_with_len 0 (length (events s))) in
    record {
      flags = flags;
      right = right;
      told = ap (flat_map (loop_line_of s)) are ∙ picked_lines s flags (events s) 0 (λ k e h. ap (slice_get (events s)) (omega arith) ∙ h);
      count = count;
      few = let l = no_more flags (events s) in omega (arith, l, count);
    }

-- Clashes.

-- The first clashes of events, with their lines and how many they are.
pub record ClashesTold (s : Spec) (xs : List Instance) (cs : List Clash) : Type 0 where
  pub firsts : List (Option ClashFound)
  pub right : AllZip (IsClashAnswer s) xs firsts
  pub told : flat_map (clash_line_of s) cs ≡ flat_map clash_line (zip xs firsts)
  pub count : length cs ≡ length (filter is_some firsts)
  pub few : length cs ≤ length xs

clash_is : (s : Spec) (x : Instance) (d : ClashFound) (c : Clash) → ClashIs s x d c → clash_line_of s c ≡ clash_line (x, Some d)
clash_is s x d c is =
    λ i. text_line (codes "clash " ++ (event_is s x c.start is.start i ++ (codes " round " ++ (decimal (is.round i)
    ++ (codes " " ++ (event_is s d.one c.one is.one i ++ (codes " " ++ event_is s d.two c.two is.two i)))))))

one_told : (s : Spec) (x : Instance) (xs : List Instance) (o : Option Clash) (cs : List Clash) → IsFirst s x o → ClashesTold s xs cs → ClashesTold s (x ∷ xs) (if_any o ++ cs)
one_told s x xs None cs (None, right, is) r = record {
  firsts = None ∷ r.firsts;
  right = (right, r.right);
  told = r.told;
  count = r.count;
  few = let l = r.few in omega (arith, l);
}
one_told s x xs None cs (Some d, right, is) r = absurd is
one_told s x xs (Some c) cs (None, right, is) r = absurd is
one_told s x xs (Some c) cs (Some d, right, is) r = record {
  firsts = Some d ∷ r.firsts;
  right = (right, r.right);
  told = λ i. clash_is s x d c is i ++ r.told i;
  count = ap suc r.count;
  few = let l = r.few in omega (arith, l);
}

pub clashes_told : (s : Spec) (xs : List Instance) (os : List (Option Clash)) → AllZip (IsFirst s) xs os → ClashesTold s xs (flat_map if_any os)
clashes_told s [] [] h = record { firsts = []; right = tt; told = refl; count = refl; few = omega arith }
clashes_told s [] (o ∷ os) h = absurd h
clashes_told s (x ∷ xs) [] h = absurd h
clashes_told s (x ∷ xs) (o ∷ os) h = one_told s x xs o (flat_map if_any os) h.0 (clashes_told s xs os h.1)
