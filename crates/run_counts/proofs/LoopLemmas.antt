-- How far the lines of an event file were counted.
use Rattle.std.proofs.Common.{◌≡◌, ℕ, ◌-◌, ◌≤◌, List, [], ◌∷◌, ◌++◌, length, take, drop, Some, None, refl, sym, ap, ◌∙◌, arith, subst}
use Rattle.rsml_syntax.specs.declared.syntax.Spec.{Spec}
use Rattle.rsml_syntax.specs.declared.world.World.{World}
use Rattle.rsml_meaning.specs.Words.{Each}
use Rattle.rsml_meaning.specs.EventLines.{Bytes, Message}
use Rattle.rsml_meaning.specs.EventFiles.{Line, rule_broken, messages, program_limits, IsWellFormed}
use Rattle.rsml_meaning.specs.Runs.{Reaction, first_world, IsRunFrom, IsRun}
use Rattle.event_file.specs.Reading.{line_at, Begins, lines_ahead}
use Rattle.event_file.specs.Pieces.{IsLine, IsLongLine}
use Rattle.event_file.proofs.Splits.{split, none_there, begins}
use Rattle.event_file.proofs.CallerLemmas.{none_ahead, all_ahead, line_among, line_ahead}
use Rattle.simulator.specs.helpers.Series.{world_after}
use Rattle.simulator.specs.helpers.Turns.{said, rule_in}
use Rattle.simulator.proofs.SeriesLemmas.{world_after_both}
use Rattle.simulator.proofs.RunLemmas.{more_lines}
use Rattle.simulator.proofs.LineLemmas.{rule_of_said, messages_of_said}
use Rattle.run_counts.specs.declared.counts.Counts.{Counts}
use Rattle.run_counts.specs.Counts.{counts_of, HasCounts}
use Rattle.run_counts.specs.Sums.{with_reactions}
use Rattle.run_counts.specs.Lines.{LineIsCounted}
use Rattle.run_counts.proofs.SumLemmas.{counts_both}

-- The events of the lines before an offset have this run, which leaves this world, and of which this is counted.
pub record Followed (s : Spec) (content : Bytes) (at : ℕ) (w : World) (c : Counts) : Type 0 where
  pub run : List Reaction
  pub is_run : IsRun s (lines_ahead at content) run
  pub leaves : world_after (first_world s) run ≡ w
  pub counted : c ≡ counts_of run

-- at the beginning
pub starts : (s : Spec) (content : Bytes) (w : World) (c : Counts) → w ≡ first_world s → c ≡ counts_of [] → Followed s content 0 w c
starts s content w c first none =
    record { run = []; is_run = subst (λ (ls : List Line). IsRun s ls []) (sym (none_ahead content)) tt; leaves = sym first; counted = none }

-- an offset where a line begins, or the file ends
pub begins_first : (content : Bytes) → Begins content 0
begins_first content = begins content 0 (record { before = []; same = refl; starts = tt; within = omega arith })

each_behind : {A : Type 0} (P : A → Type 0) (xs : List A) (y : A) (ys : List A) → Each P (xs ++ (y ∷ ys)) → P y
each_behind P [] y ys h = h.0
each_behind P (x ∷ xs) y ys h = each_behind P xs y ys h.1

module _ (s : Spec) (content : Bytes) (formed : IsWellFormed s program_limits content) (at : ℕ) (here : Begins content at) where
  kept : (line : Line) → line_at content at ≡ Some line → rule_broken s line ≡ None
  kept line there =
      let among = line_among content at here line there in
      each_behind (λ l. rule_broken s l ≡ None) (lines_ahead at content) line among.0 (subst (Each (λ l. rule_broken s l ≡ None)) among.1 formed.kept)

  -- the line there breaks no rule
  pub sound : (stop next : ℕ) → IsLine content 4096 at stop next → rule_in (said s (take (stop - at) (drop at content))) ≡ None
  sound stop next h = sym (rule_of_said s h.line (take (stop - at) (drop at content)) h.bytes) ∙ kept h.line h.there

  -- and it is not too long
  pub not_long : IsLongLine content 4096 at → ⊥
  not_long h =
      let among = line_among content at here h.line h.there in
      let short : length h.line.bytes ≤ 4096 =
      each_behind (λ l. length l.bytes ≤ 4096) (lines_ahead at content) h.line among.0 (subst (Each (λ l. length l.bytes ≤ 4096)) among.1 formed.short_lines) in
      let long = h.long in
      omega (arith, short, long)

  -- after a line that was counted
  pub followed_on : (stop next : ℕ) (h : IsLine content 4096 at stop next) (w w' : World) (c c' : Counts) → Followed s content at w c
      → LineIsCounted s (said s (take (stop - at) (drop at content))) w w' c c' → Followed s content next w' c'
  followed_on stop next h w w' c c' f l =
      let text = take (stop - at) (drop at content) in
      let ahead = line_ahead content at here h.line next h.there h.after in
      let told = subst (λ (ms : List Message). IsRunFrom s w ms l.run) (sym (messages_of_said s h.line text h.bytes)) l.is_run in
      let next_run : IsRunFrom s (world_after (first_world s) f.run) (messages s (h.line ∷ [])) l.run =
      subst (λ (v : World). IsRunFrom s v (messages s (h.line ∷ [])) l.run) (sym f.leaves) told in
      record {
        run = f.run ++ l.run;
        is_run = subst (λ (ls : List Line). IsRun s ls (f.run ++ l.run)) (sym ahead) (more_lines s (lines_ahead at content) (h.line ∷ []) f.run l.run f.is_run next_run);
        leaves = world_after_both (first_world s) f.run l.run ∙ ap (λ (v : World). world_after v l.run) f.leaves ∙ l.leaves;
        counted = l.counted ∙ ap (λ (d : Counts). with_reactions d l.run) f.counted ∙ counts_both f.run l.run;
      }

  -- at the end
  pub ends : (w : World) (c : Counts) → at ≡ length content → Followed s content at w c → HasCounts s content c
  ends w c is_end f = record {
    run = f.run;
    is_run = subst (λ (ls : List Line). IsRun s ls f.run) (all_ahead content at here (none_there content at (split content at here) is_end)) f.is_run;
    counted = f.counted;
  }
