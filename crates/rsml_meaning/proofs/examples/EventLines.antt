-- What event lines break or tell, and the first faults of event files.
use Rattle.std.specs.Prelude.{◌≡◌, refl, List, [], ◌∷◌, ◌++◌, map, Option, Some, None, ℤ, pos, negsuc, codes, replicate}
use Rattle.std.specs.Str.{is_utf8, chars}
use Prim.Native.String.{String}
use Rattle.rsml_syntax.specs.declared.syntax.Spec.{Spec}
use Rattle.rsml_meaning.specs.EventLines.{LineRule, E1, E2, E3, E4, E5, E6, E7, Outcome, breaks, tells, read_line}
use Rattle.rsml_meaning.specs.EventFiles.{Limits, program_limits, FileFault, long_line, broken_line, long_file, first_fault}
use Rattle.rsml_meaning.proofs.values.Colours.{colours}
use Rattle.rsml_meaning.proofs.values.Height.{height}
use Rattle.rsml_meaning.proofs.values.Lamp.{lamp}
use Rattle.rsml_meaning.proofs.values.Tracks.{tracks}

abbrev broken : Outcome → Option LineRule
broken (breaks rule) = Some rule
broken (tells m) = None

abbrev numbers : Outcome → List ℤ
numbers (breaks rule) = []
numbers (tells m) = m.numbers

-- the rule that a line breaks
abbrev rule : Spec → String → Option LineRule
rule s line = broken (read_line s (codes line))

the_rules_that_lines_of_the_lamp_break :
    map (rule lamp) ("Sett Lever=Up" ∷ "Set[1] Lever=Up" ∷ "Set" ∷ "Set Lever = Up" ∷ "Set Lever=Up x" ∷ "Set Lever=Side" ∷ "Set Lever=Up" ∷ [])
    ≡ Some E2 ∷ Some E3 ∷ Some E4 ∷ Some E4 ∷ Some E5 ∷ Some E6 ∷ None ∷ []
unfolding is_utf8 chars lib.Utf8.encode
the_rules_that_lines_of_the_lamp_break = refl

words_stand_between_spaces_and_tabs : rule lamp "\t Set \t Lever=Up\t" ≡ None
unfolding is_utf8 chars lib.Utf8.encode
words_stand_between_spaces_and_tabs = refl

-- `Set ` and a byte that no character of UTF-8 has
a_line_that_is_not_utf8 : broken (read_line lamp (0x53 ∷ 0x65 ∷ 0x74 ∷ 0x20 ∷ 0xFF ∷ [])) ≡ Some E1
unfolding is_utf8 chars lib.Utf8.encode
a_line_that_is_not_utf8 = refl

the_rules_that_lines_of_the_height_break : map (rule height) ("Set Alt=5x" ∷ "Set Alt=-1" ∷ "Set Alt=60001" ∷ "Set Alt=-0" ∷ []) ≡ Some E6 ∷ Some E7 ∷ Some E7 ∷ None ∷ []
unfolding is_utf8 chars lib.Utf8.encode
the_rules_that_lines_of_the_height_break = refl

leading_zeros_are_allowed : numbers (read_line height (codes "Set Alt=0005")) ≡ pos 5 ∷ []
unfolding is_utf8 chars lib.Utf8.encode
leading_zeros_are_allowed = refl

the_rules_that_lines_of_the_tracks_break :
    map (rule tracks) ("Track Other_Alt=1" ∷ "Track[0] Other_Alt=1" ∷ "Track[4] Other_Alt=1" ∷ "Track[+1] Other_Alt=1" ∷ "Track[1]x Other_Alt=1" ∷ "Track[] Other_Alt=1" ∷ "Track[02] Other_Alt=1" ∷ [])
    ≡ Some E3 ∷ Some E3 ∷ Some E3 ∷ Some E3 ∷ Some E3 ∷ Some E3 ∷ None ∷ []
unfolding is_utf8 chars lib.Utf8.encode
the_rules_that_lines_of_the_tracks_break = refl

-- the value of a later field before the range of an earlier one, an enumeration by its names alone, one sign, no empty value
the_rules_that_lines_of_the_colours_break :
    map (rule colours) ("R X=9 Y=Green" ∷ "R X=1 Y=1" ∷ "R X=+1 Y=Red" ∷ "R X=--1 Y=Red" ∷ "R X= Y=Red" ∷ "R Y=Red X=1" ∷ "R X=1 Y=Red z" ∷ "R X=9 Y=Red" ∷ "R X=-2 Y=Red" ∷ [])
    ≡ Some E6 ∷ Some E6 ∷ Some E6 ∷ Some E6 ∷ Some E6 ∷ Some E4 ∷ Some E5 ∷ Some E7 ∷ None ∷ []
unfolding is_utf8 chars lib.Utf8.encode
the_rules_that_lines_of_the_colours_break = refl

the_numbers_of_a_line : numbers (read_line colours (codes "R X=-2 Y=Blue")) ≡ negsuc 1 ∷ pos 1 ∷ []
unfolding is_utf8 chars lib.Utf8.encode
the_numbers_of_a_line = refl

-- Files.

abbrev fault : Spec → String → Option FileFault
fault s content = first_fault s program_limits (codes content)

the_first_fault_is_the_first_broken_line : fault tracks "Track[2] Other_Alt=300\nTrack[4] Other_Alt=1\nTrack\n" ≡ Some (broken_line 2 E3)
unfolding is_utf8 chars lib.Utf8.encode
the_first_fault_is_the_first_broken_line = refl

skipped_lines_are_counted : fault height "# all lines have a number\n\nSet Alt=60001" ≡ Some (broken_line 3 E7)
unfolding is_utf8 chars lib.Utf8.encode
skipped_lines_are_counted = refl

a_line_may_have_so_many_bytes : first_fault lamp program_limits (replicate 4096 32) ≡ None
a_line_may_have_so_many_bytes = refl

a_line_that_is_too_long : first_fault lamp program_limits (replicate 4097 32) ≡ Some (long_line 1)
a_line_that_is_too_long = refl

-- the carriage return is counted
a_carriage_return_is_a_byte_of_the_line : first_fault lamp program_limits (replicate 4096 32 ++ codes "\r") ≡ Some (long_line 1)
a_carriage_return_is_a_byte_of_the_line = refl

-- Small limits: lines of at most 12 bytes, files of at most 20.

abbrev small : Limits
small = record { line = 12; file = 20 }

abbrev small_fault : String → Option FileFault
small_fault content = first_fault lamp small (codes content)

-- at the second line, with its LF, the file goes past offset 20
a_line_that_is_too_long_goes_before_the_end_of_the_file : small_fault "Set Lever=Up\nSet Lever=Down\n" ≡ Some (long_line 2)
unfolding is_utf8 chars lib.Utf8.encode
a_line_that_is_too_long_goes_before_the_end_of_the_file = refl

a_file_that_goes_on_where_no_whole_line_is_left : small_fault "Set Lever=Up\nSet Lever=Up\n" ≡ Some long_file
unfolding is_utf8 chars lib.Utf8.encode
a_file_that_goes_on_where_no_whole_line_is_left = refl

a_line_that_does_not_end_within_the_file_breaks_no_rule : small_fault "Set Lever=Up\nSett Lever\n" ≡ Some long_file
unfolding is_utf8 chars lib.Utf8.encode
a_line_that_does_not_end_within_the_file_breaks_no_rule = refl

a_line_that_ends_before_breaks_its_rule : small_fault "Set Lever=Up\nSett\n#######\n" ≡ Some (broken_line 2 E2)
unfolding is_utf8 chars lib.Utf8.encode
a_line_that_ends_before_breaks_its_rule = refl

-- 20 bytes, the last of which is no LF
a_last_line_may_end_with_the_file : small_fault "Set Lever=Up\n#######" ≡ None
unfolding is_utf8 chars lib.Utf8.encode
a_last_line_may_end_with_the_file = refl
