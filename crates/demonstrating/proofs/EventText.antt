-- The events of `demo` are well-formed lines.
use Rattle.std.proofs.Common.{◌≡◌, ℕ, zero, suc, ◌+◌, ◌*◌, ◌%◌, ◌≤◌, true, ◌&&◌, List, [], ◌∷◌, map, length, None, refl, ap, ◌∙◌, subst, sym, length-append, arith}
use Rattle.std.specs.List.{list_all}
use Rattle.std.proofs.lemmas.List.{length-map}
use Rattle.rsml_syntax.specs.rules.Globals.{up_to}
use Rattle.rsml_meaning.specs.Words.{Each}
use Rattle.rsml_meaning.specs.EventLines.{Bytes}
use Rattle.rsml_meaning.specs.EventFiles.{Line, lines, lines_of, placed_from, rule_broken}
use Rattle.rsml_meaning.proofs.Lists.{each_map}
use Rattle.demonstrating.specs.Plant.{plant}
use Rattle.demonstrating.specs.Events.{event_line, event_lines, event_text}
use Rattle.demonstrating.specs.Laws.{DemoEventsAreWellFormed}
use Rattle.demonstrating.proofs.Pieces.{is_unparted, is_feed, lines_again, each_placed, whole_length}
use Rattle.demonstrating.proofs.EventLines.{number_told, load_kept, load_fed, load_short, IsTold}

-- a number of units, and the unit and the depth of a line
told_unit : (n place : ℕ) → 1 ≤ n → n ≤ 64 → IsTold (1 + (7 * place) % n)
told_unit n place h k = number_told (1 + (7 * place) % n) (omega arith)

told_depth : (place : ℕ) → IsTold ((37 * place) % 1000)
told_depth place = number_told ((37 * place) % 1000) (omega arith)

lines_fed : (n : ℕ) (places : List ℕ) → 1 ≤ n → n ≤ 64 → list_all (is_unparted is_feed) (map (event_line n) places) ≡ true
lines_fed n [] h k = refl
lines_fed n (j ∷ js) h k = λ i. load_fed (1 + (7 * j) % n) ((37 * j) % 1000) (told_unit n j h k) (told_depth j) i && lines_fed n js h k i

lines_are : (n : ℕ) → 1 ≤ n → n ≤ 64 → lines (event_text n) ≡ event_lines n
lines_are n h k = lines_again (event_lines n) (lines_fed n (up_to 1000) h k)

length_up_to : (n : ℕ) → length (up_to n) ≡ n
length_up_to zero = refl
length_up_to (suc n) = let e = length_up_to n in let a = length-append (up_to n) (suc n ∷ []) in omega (arith, e, a)

length_placed : (number start : ℕ) (ls : List Bytes) → length (placed_from number start ls) ≡ length ls
length_placed number start [] = refl
length_placed number start (l ∷ ls) = ap suc (length_placed (suc number) (start + length l + 1) ls)

length_lines : (n : ℕ) → length (event_lines n) ≡ 1000
length_lines n = length-map (up_to 1000) (event_line n) ∙ length_up_to 1000

each_line : (n : ℕ) (P : Line → Type 0) → 1 ≤ n → n ≤ 64
    → ((place number start : ℕ) → P (record { number = number; start = start; bytes = event_line n place }))
    → Each P (lines_of (event_text n))
each_line n P h k f =
    subst (λ (ls : List Bytes). Each P (placed_from 1 0 ls)) (sym (lines_are n h k))
    (each_placed P (event_lines n) 1 0
    (each_map (λ l. (number start : ℕ) → P (record { number = number; start = start; bytes = l })) (event_line n) (up_to 1000) f))

line_short : (n place : ℕ) → 1 ≤ n → n ≤ 64 → length (event_line n place) ≤ 19
line_short n place h k = load_short (1 + (7 * place) % n) ((37 * place) % 1000) (told_unit n place h k) (told_depth place)

text_short : (n : ℕ) → 1 ≤ n → n ≤ 64 → length (event_text n) ≤ 20000
text_short n h k =
    let each = each_map (λ l. length l + 1 ≤ 20) (event_line n) (up_to 1000) (λ j. let l = line_short n j h k in omega (arith, l)) in
    let all = whole_length 20 (event_lines n) each in
    let count = length_lines n in
    omega (arith, all, count)

line_kept : (n place number start : ℕ) → 1 ≤ n → n ≤ 64
    → rule_broken (plant n) (record { number = number; start = start; bytes = event_line n place }) ≡ None
line_kept n place number start h k =
    load_kept n (1 + (7 * place) % n) ((37 * place) % 1000) number start (omega arith) (omega arith)
    (told_unit n place h k) (told_depth place)

pub demo_events_are_well_formed : DemoEventsAreWellFormed
demo_events_are_well_formed n h k = record {
  count = length_placed 1 0 (lines (event_text n)) ∙ ap length (lines_are n h k) ∙ length_lines n;
  well_formed = record {
    short = let l = text_short n h k in omega (arith, l);
    short_lines = each_line n (λ l. length l.bytes ≤ 4096) h k (λ j number start. let l = line_short n j h k in omega (arith, l));
    kept = each_line n (λ l. rule_broken (plant n) l ≡ None) h k (λ j number start. line_kept n j number start h k);
  };
}
