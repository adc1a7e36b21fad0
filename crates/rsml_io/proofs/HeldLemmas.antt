-- Files in a list, and changes of one of them.
use Rattle.std.proofs.Common.{◌≡◌, ◌≢◌, ℕ, ◌+◌, ◌<◌, ◌≤◌, ◌++◌, Bool, true, false, List, [], ◌∷◌, length, get_or, Option, Some, None, refl, ap, sym, ◌∙◌, arith, cond}
use Rattle.std.proofs.Math.ListN.{set}
use Rattle.std.specs.Prelude.{position, find, option_map}
use Rattle.std.specs.List.{position_or_len, position_from}
use Rattle.std.specs.Option.{option_or, option_map_or}
use Rattle.std.specs.Str.{bytes_eq}
use Rattle.std.specs.Cmp.Lexicographic.{same_text, other_text, bytes_decides}
use Rattle.std.proofs.lemmas.List.Folds.{find_at, find-set, find_past, find-append}
use Rattle.std.proofs.lemmas.List.Quantifiers.{position-Some}
use Rattle.std.proofs.lemmas.Iterator.Adapters.{position_from-zero}
use Rattle.std.proofs.lemmas.List.Sums.{position_or_len_is}
use Rattle.std.proofs.lemmas.Option.{slice_get_read}
use Rattle.rsml_io.specs.Held.{named, file_of, ChangesFile}
use Rattle.rsml_io.specs.declared.held.HeldFile.{HeldFile}

-- two texts are one where their test says so, and only there
same_bytes : (xs ys : List ℕ) → xs ≡ ys → bytes_eq xs ys ≡ true
same_bytes xs ys e = (bytes_decides xs ys).1 e

other_bytes : (xs ys : List ℕ) → xs ≢ ys → bytes_eq xs ys ≡ false
other_bytes xs ys other = test (bytes_eq xs ys) refl
  where
    test : (b : Bool) → b ≡ bytes_eq xs ys → b ≡ false
    test true e = absurd (other (same_text xs ys e))
    test false e = refl

module _ (files : List HeldFile) (name : List ℕ) (place : ℕ) (file : HeldFile) (first : Some place ≡ position (named name) files) (here : file ≡ get_or files place file) where
  first_place : place ≡ position_or_len (named name) files
  first_place =
      let at = position-Some (named name) files place file (sym first) in
      sym (position_or_len_is (named name) files place file (omega (arith, at.0)) at.2 (λ _. at.1))

  within : place < length files
  within = (position-Some (named name) files place file (sym first)).0

  has_name : file.name ≡ name
  has_name = same_text file.name name (sym ((ap (named name) here) ∙ (position-Some (named name) files place file (sym first)).1))

  pub file_there : file_of files name ≡ Some file
  file_there = find_at (named name) files ∙ rw (← first_place) (slice_get_read files (length files) place file refl within here)

  -- a file put in the place of one of its name
  pub set_changes : (change : Option HeldFile → Option HeldFile) (new : HeldFile) → change (Some file) ≡ Some new → new.name ≡ file.name → ChangesFile change files (set files place new) name
  set_changes change new made same = record {
    here = find-set (named name) files place new first_place within (same_bytes new.name name (same ∙ has_name)) ∙ sym made ∙ ap change (sym file_there);
    others = λ q other.
        find_past (named q) files place new file (ap (named q) (sym here) ∙ other_bytes file.name q (λ e. other (sym e ∙ has_name))) (other_bytes new.name q (λ e. other (sym e ∙ same ∙ has_name)));
  }

none_from : (p : HeldFile → Bool) (i : ℕ) (files : List HeldFile) → position_from p i files ≡ None → find p files ≡ None
none_from p i [] none = refl
none_from p i (file ∷ files) none = test (p file) (none_from p (i + 1) files) none
  where
    test : (b : Bool) → (position_from p (i + 1) files ≡ None → find p files ≡ None) → cond b (Some i) (position_from p (i + 1) files) ≡ None → cond b (Some file) (find p files) ≡ None
    test true rest none = cc
    test false rest none = rest none

pub no_file : (files : List HeldFile) (name : List ℕ) → None ≡ position (named name) files → file_of files name ≡ None
no_file files name none = none_from (named name) 0 files (sym (position_from-zero (named name) files) ∙ sym none)

pub none_changes : (files : List HeldFile) (name : List ℕ) (change : Option HeldFile → Option HeldFile) → None ≡ position (named name) files → change None ≡ None → ChangesFile change files files name
none_changes files name change none same = record {
  here = no_file files name none ∙ sym same ∙ ap change (sym (no_file files name none));
  others = λ q other. refl;
}

or_none : (file : Option HeldFile) → option_or file None ≡ file
or_none None = refl
or_none (Some file) = refl

-- a file put at the end where there is none of its name
pub push_changes : (files : List HeldFile) (name : List ℕ) (change : Option HeldFile → Option HeldFile) (new : HeldFile) →
    None ≡ position (named name) files → change None ≡ Some new → new.name ≡ name → ChangesFile change files (files ++ new ∷ []) name
push_changes files name change new none made same = record {
  here = find-append (named name) files (new ∷ []) ∙ rw (no_file files name none, same_bytes new.name name same) (sym made);
  others = λ q other.
      find-append (named q) files (new ∷ []) ∙ rw (other_bytes new.name q (λ e. other (sym e ∙ same))) (or_none (file_of files q));
}

-- what a change keeps of each file is the same of every name
pub field_kept : {A : Type 0} (field : HeldFile → A) (none : A) (change : HeldFile → HeldFile) → ((file : HeldFile) → field (change file) ≡ field file) →
    (old new : List HeldFile) (name : List ℕ) → ChangesFile (option_map change) old new name →
    (q : List ℕ) → option_map_or field (file_of new q) none ≡ option_map_or field (file_of old q) none
field_kept field none change keeps old new name changes q = test (bytes_eq q name) refl
  where
    kept : (file : Option HeldFile) → option_map_or field (option_map change file) none ≡ option_map_or field file none
    kept None = refl
    kept (Some file) = keeps file

    test : (b : Bool) → b ≡ bytes_eq q name → option_map_or field (file_of new q) none ≡ option_map_or field (file_of old q) none
    test true e = rw (same_text q name e) (ap (λ (file : Option HeldFile). option_map_or field file none) changes.here ∙ kept (file_of old name))
    test false e = ap (λ (file : Option HeldFile). option_map_or field file none) (changes.others q (other_text q name e))

-- a number that a change of one file does not lower falls at no name
pub field_rises : (field : HeldFile → ℕ) (change : HeldFile → HeldFile) (old new : List HeldFile) (name : List ℕ) (file : HeldFile) →
    file_of old name ≡ Some file → field file ≤ field (change file) → ChangesFile (option_map change) old new name →
    (q : List ℕ) (none : ℕ) → option_map_or field (file_of old q) none ≤ option_map_or field (file_of new q) none
field_rises field change old new name file there rises changes q none = test (bytes_eq q name) refl
  where
    test : (b : Bool) → b ≡ bytes_eq q name → option_map_or field (file_of old q) none ≤ option_map_or field (file_of new q) none
    test true e = rw (same_text q name e, changes.here, there) rises
    test false e = rw (changes.others q (other_text q name e)) (omega arith)
