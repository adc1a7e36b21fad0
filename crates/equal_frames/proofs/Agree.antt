-- What is blind to macros and guards is the same for the names of a specification and for those of its frame.
use Rattle.std.proofs.Common.{◌≡◌, ℕ, false, map, Option, Some, None, pos, unsigned_abs, refl, sym, ap, ◌∙◌}
use Rattle.std.specs.Option.{option_map_or, option_and_then}
use Rattle.rsml_syntax.specs.declared.syntax.Decl.{Decl}
use Rattle.rsml_syntax.specs.declared.syntax.Decl.TheVariants as decl
use Rattle.rsml_syntax.specs.declared.syntax.Amount.{Amount}
use Rattle.rsml_syntax.specs.declared.syntax.Amount.TheVariants as amounts
use Rattle.rsml_syntax.specs.declared.syntax.Index.{Index}
use Rattle.rsml_syntax.specs.declared.syntax.Index.TheVariants as index
use Rattle.rsml_syntax.specs.declared.syntax.Mention.{Mention}
use Rattle.rsml_syntax.specs.declared.syntax.Initial.{Initial}
use Rattle.rsml_syntax.specs.declared.syntax.Initial.TheVariants as initials
use Rattle.rsml_syntax.specs.text.Names.{Name}
use Rattle.rsml_syntax.specs.rules.Globals.{Known, Globals, meaning, constant_of, constant, number_of, number, amount_of, many, indices, up_to, values_of}
use Rattle.rsml_syntax.specs.rules.Uses.{is_input}
use Rattle.rsml_syntax.specs.limits.Thresholds.{type_ends}
use Rattle.rsml_syntax.specs.limits.Comparisons.{Indices, variable_value, index_number}
use Rattle.rsml_meaning.specs.Words.{at}
use Rattle.rsml_meaning.specs.Instances.{instances}
use Rattle.rsml_meaning.specs.Cells.{InputType, new_type, no_type, type_named, initial_number}
use Rattle.rsml_meaning.specs.Truth.{instance}
use Rattle.equal_frames.proofs.Blank.{blank}

-- what a name means for the second is what it means for the first, blanked
abbrev pub AreBlanked : Globals → Globals → Type 0
AreBlanked g h = (name : Name) → option_and_then blank (meaning g name) ≡ meaning h name

-- a notion is blind where it says the same of what is known and of what it is in the frame
abbrev pub IsBlind : {B : Type 0} → (Known → B) → B → Type 0
IsBlind f d = (x : Decl) (v : Option ℕ) → option_map_or f (blank (record { decl = x; value = v })) d ≡ f (record { decl = x; value = v })

blind : {B : Type 0} (f : Known → B) (d : B) → IsBlind f d → (o : Option Known) → option_map_or f (option_and_then blank o) d ≡ option_map_or f o d
blind f d h None = refl
blind f d h (Some k) = h k.decl k.value

pub agree : {B : Type 0} (f : Known → B) (d : B) → IsBlind f d → (g h : Globals) → AreBlanked g h → (name : Name) → option_map_or f (meaning g name) d ≡ option_map_or f (meaning h name) d
agree f d b g h a name = sym (blind f d b (meaning g name)) ∙ ap (λ o. option_map_or f o d) (a name)

-- The notions.

constant_blind : IsBlind constant_of None
constant_blind x (Some n) = refl
constant_blind (decl.Macro name size rows) None = refl
constant_blind (decl.Function name size cases) None = refl
constant_blind (decl.Send name size fields cases) None = refl
constant_blind (decl.Enumeration name values) None = refl
constant_blind (decl.Range name low high) None = refl
constant_blind (decl.Constant name value) None = refl
constant_blind (decl.Input name size kind initial) None = refl
constant_blind (decl.Event name size) None = refl
constant_blind (decl.Receive name size inputs raised) None = refl

number_blind : IsBlind number_of (pos 0)
number_blind x (Some n) = refl
number_blind (decl.Macro name size rows) None = refl
number_blind (decl.Function name size cases) None = refl
number_blind (decl.Send name size fields cases) None = refl
number_blind (decl.Enumeration name values) None = refl
number_blind (decl.Range name low high) None = refl
number_blind (decl.Constant name value) None = refl
number_blind (decl.Input name size kind initial) None = refl
number_blind (decl.Event name size) None = refl
number_blind (decl.Receive name size inputs raised) None = refl

input_blind : IsBlind is_input false
input_blind x (Some n) = refl
input_blind (decl.Macro name size rows) None = refl
input_blind (decl.Function name size cases) None = refl
input_blind (decl.Send name size fields cases) None = refl
input_blind (decl.Enumeration name values) None = refl
input_blind (decl.Range name low high) None = refl
input_blind (decl.Constant name value) None = refl
input_blind (decl.Input name size kind initial) None = refl
input_blind (decl.Event name size) None = refl
input_blind (decl.Receive name size inputs raised) None = refl

abbrev of_type : Known → InputType
of_type k = new_type (type_ends k) (values_of k.decl)

type_blind : IsBlind of_type no_type
type_blind x (Some n) = refl
type_blind (decl.Macro name size rows) None = refl
type_blind (decl.Function name size cases) None = refl
type_blind (decl.Send name size fields cases) None = refl
type_blind (decl.Enumeration name values) None = refl
type_blind (decl.Range name low high) None = refl
type_blind (decl.Constant name value) None = refl
type_blind (decl.Input name size kind initial) None = refl
type_blind (decl.Event name size) None = refl
type_blind (decl.Receive name size inputs raised) None = refl

module _ (g h : Globals) (a : AreBlanked g h) where
  pub same_constant : (name : Name) → constant g name ≡ constant h name
  same_constant name = agree constant_of None constant_blind g h a name

  pub same_number : (name : Name) → number g name ≡ number h name
  same_number name = agree number_of (pos 0) number_blind g h a name

  pub same_is_input : (name : Name) → option_map_or is_input (meaning g name) false ≡ option_map_or is_input (meaning h name) false
  same_is_input name = agree is_input false input_blind g h a name

  pub same_type : (name : Name) → type_named g name ≡ type_named h name
  same_type name = agree of_type no_type type_blind g h a name

  same_amount : (x : Amount) → amount_of g x ≡ amount_of h x
  same_amount (amounts.Number n) = refl
  same_amount (amounts.Name name) = same_constant name

  pub same_many : (size : Option Amount) → many g size ≡ many h size
  same_many None = refl
  same_many (Some x) = ap (λ o. option_map_or unsigned_abs o 1) (same_amount x)

  pub same_indices : (size : Option Amount) → indices g size ≡ indices h size
  same_indices None = refl
  same_indices (Some x) = ap up_to (same_many (Some x))

  pub same_instances : (name : Name) (size : Option Amount) → instances g name size ≡ instances h name size
  same_instances name size = ap (map (at name)) (same_indices size)

  same_index : (r : Indices) (i : Option Index) → index_number g r i ≡ index_number h r i
  same_index r None = refl
  same_index r (Some (index.Number n)) = refl
  same_index r (Some (index.Name name)) = ap (λ o. option_map_or (λ n. n) (variable_value r name) (option_map_or unsigned_abs o 0)) (same_constant name)
  same_index r (Some index.This) = refl

  pub same_instance_of : (r : Indices) (m : Mention) → instance g r m ≡ instance h r m
  same_instance_of r m = ap (at m.name) (same_index r m.index)

  pub same_initial_number : (i : Initial) → initial_number g i ≡ initial_number h i
  same_initial_number (initials.Number n) = refl
  same_initial_number (initials.Name name) = same_number name
