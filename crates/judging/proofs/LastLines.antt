-- The report is lines, and its last line tells how many loops, clashes and findings stand before it.
use Rattle.std.proofs.Common.{◌≡◌, ◌≢◌, ℕ, Bool, true, false, List, [], ◌∷◌, ◌++◌, Option, Some, None, refl, sym, ap, ◌∙◌, append_assoc, append-nil, ne_eqb, length}
use Rattle.std.specs.Prelude.{codes, decimal, flat_map, zip, filter, if◌then◌else◌, ◌==◌, ℤ}
use Rattle.std.specs.Ordering.{int_eq}
use Rattle.rsml_syntax.specs.declared.syntax.Spec.{Spec}
use Rattle.rsml_syntax.specs.declared.world.World.{World}
use Rattle.rsml_meaning.specs.Words.{Instance}
use Rattle.rsml_meaning.specs.Instances.{Component, components}
use Rattle.rsml_meaning.specs.Cells.{InputCell, cells}
use Rattle.rsml_meaning.specs.Findings.{Verdict, sound, none, two}
use Rattle.rsml_meaning.specs.Groups.{Group, groups}
use Rattle.rsml_meaning.specs.Report.{Answers, ClashFound, report_text, refusals, last_line, chain_line, loop_line, clash_line, clash_text, finding, choice_line, cell_line, world_text, enabled_text, looping, externals, group_text, member_label, confirmed, length_text}
use Rattle.rsml_meaning.specs.Active.{chosen}
use Rattle.rsml_meaning.specs.Truth.{view}
use Rattle.rsml_meaning.specs.Groups.{members, enabled}
use Rattle.rsml_meaning.specs.Texts.{Text, text_line, path_text, cell_text, value_text, instance_text}
use Rattle.judging.specs.Headline.{EndsInLine}

-- A text that ends with LF.
record Ended (text : Text) : Type 0 where
  before : Text
  is : text ≡ before ++ codes "\n"

-- a text that ends with LF still does where this follows
abbrev StaysEnded : Text → Type 0
StaysEnded more = (text : Text) → Ended text → Ended (text ++ more)

nothing_more : StaysEnded []
nothing_more text h = record { before = h.before; is = append-nil text ∙ h.is }

line_more : (line : Text) → StaysEnded (text_line line)
line_more line text h = record { before = text ++ line; is = sym (append_assoc text line (codes "\n")) }

both_more : (xs ys : Text) → StaysEnded xs → StaysEnded ys → StaysEnded (xs ++ ys)
both_more xs ys f g text h = let r = g (text ++ xs) (f text h) in record { before = r.before; is = sym (append_assoc text xs ys) ∙ r.is }

each_more : {A : Type 0} (f : A → Text) → ((x : A) → StaysEnded (f x)) → (xs : List A) → StaysEnded (flat_map f xs)
each_more f h [] = nothing_more
each_more f h (x ∷ xs) = both_more (f x) (flat_map f xs) (h x) (each_more f h xs)

maybe_more : (b : Bool) (line : Text) → StaysEnded (if b then [] else text_line line)
maybe_more true line = nothing_more
maybe_more false line = line_more line

-- The lines of a report.

clash_more : (c : Instance × Option ClashFound) → StaysEnded (clash_line c)
clash_more (x, None) = nothing_more
clash_more (x, Some d) = line_more (codes "clash " ++ clash_text x d)

choice_more : (c : Component × ℕ) → StaysEnded (choice_line c)
choice_more c = maybe_more (c.1 == 0) (codes "  in " ++ (path_text (chosen c) ++ codes " | T"))

cell_more : (c : InputCell × ℤ) → StaysEnded (cell_line c)
cell_more c = maybe_more (int_eq c.1 c.0.numbers.low) (codes "  " ++ (cell_text c.0 ++ (codes " = " ++ (value_text c.0.numbers.names c.1 ++ codes " | T"))))

world_more : (s : Spec) (w : World) → StaysEnded (world_text s w)
world_more s w = both_more _ _ (each_more choice_line choice_more (zip (components s) w.choices)) (each_more cell_line cell_more (zip (cells s) w.cells))

finding_more : (s : Spec) (x : Group × Verdict) → StaysEnded (finding s x)
finding_more s (g, sound) = nothing_more
finding_more s (g, none w) =
    both_more (text_line (codes "none " ++ group_text g)) (world_text s w ++ confirmed) (line_more (codes "none " ++ group_text g))
    (both_more (world_text s w) confirmed (world_more s w) (line_more (codes "  confirmed")))
finding_more s (g, two w) =
    both_more (text_line (codes "two " ++ group_text g)) (world_text s w ++ (enabled_text s g w ++ confirmed)) (line_more (codes "two " ++ group_text g))
    (both_more (world_text s w) (enabled_text s g w ++ confirmed) (world_more s w)
    (both_more (enabled_text s g w) confirmed
    (each_more (λ m. text_line (codes "  enabled " ++ member_label m)) (λ m. line_more (codes "  enabled " ++ member_label m)) (filter (enabled (view s w)) (members s g)))
    (line_more (codes "  confirmed"))))

apart : (a b c d e f z : Text) → a ++ (b ++ (c ++ (d ++ (e ++ (f ++ z))))) ≡ (a ++ (b ++ (c ++ (d ++ (e ++ f))))) ++ z
apart a b c d e f z = simp append_assoc

-- what a report with these answers is without its last line, and that it ends with LF
pub record Above (s : Spec) (a : Answers) : Type 0 where
  pub before : Text
  pub split : report_text s a ≡ (before ++ codes "\n") ++ last_line (refusals s a)

pub above : (s : Spec) (a : Answers) → Above s a
above s a =
    let name : Text = codes "specification " ++ s.name in
    let count : Text = text_line (codes "groups " ++ decimal (length (groups s))) in
    let chains : Text = flat_map chain_line (zip (externals s) a.lengths) in
    let loops : Text = flat_map loop_line (looping s a) in
    let clashes : Text = flat_map clash_line (zip (externals s) a.clashes) in
    let findings : Text = flat_map (finding s) (zip (groups s) a.verdicts) in
    let rest = both_more clashes findings (each_more clash_line clash_more (zip (externals s) a.clashes)) (each_more (finding s) (finding_more s) (zip (groups s) a.verdicts)) in
    let rest' = both_more loops (clashes ++ findings) (each_more loop_line (λ e. line_more (codes "loop " ++ instance_text e)) (looping s a)) rest in
    let rest'' = both_more chains (loops ++ (clashes ++ findings))
    (each_more chain_line (λ c. line_more (codes "chain " ++ (instance_text c.0 ++ (codes " " ++ length_text c.1)))) (zip (externals s) a.lengths)) rest' in
    let r = both_more count (chains ++ (loops ++ (clashes ++ findings))) (line_more (codes "groups " ++ decimal (length (groups s)))) rest''
    (text_line name) (record { before = name; is = refl }) in
    record { before = r.before; split = apart (text_line name) count chains loops clashes findings (last_line (refusals s a)) ∙ ap (λ (t : Text). t ++ last_line (refusals s a)) r.is }

-- a report that counts no refusal ends with `certified`, another with their number
pub ends_certified : (s : Spec) (a : Answers) → refusals s a ≡ 0 → EndsInLine (report_text s a) (codes "certified")
ends_certified s a e = let r = above s a in record { before = r.before; split = r.split ∙ ap (λ n. (r.before ++ codes "\n") ++ last_line n) e }

pub ends_refused : (s : Spec) (a : Answers) → refusals s a ≢ 0 → EndsInLine (report_text s a) (codes "refused " ++ decimal (refusals s a))
ends_refused s a ne =
    let r = above s a in
    record {
      before = r.before;
      split = r.split ∙ ap (λ (b : Bool). (r.before ++ codes "\n") ++ (if b then text_line (codes "certified") else text_line (codes "refused " ++ decimal (refusals s a)))) (ne_eqb (refusals s a) 0 ne);
    }
