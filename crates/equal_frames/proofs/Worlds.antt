-- Specifications of one frame have the same worlds and the same members.
use Rattle.std.proofs.Common.{◌≡◌, ℕ, ℤ, ◌&&◌, List, [], ◌∷◌, ◌++◌, map, flat_map, filter, zip, refl, sym, ap, ◌∙◌}
use Rattle.std.specs.List.{list_all, AllZip, AllByRecursion}
use Rattle.std.specs.Cmp.Lexicographic.{pointwise}
use Rattle.rsml_syntax.specs.declared.syntax.Spec.{Spec}
use Rattle.rsml_syntax.specs.declared.syntax.Decl.{Decl}
use Rattle.rsml_syntax.specs.declared.syntax.Decl.TheVariants as decl
use Rattle.rsml_syntax.specs.text.Names.{Name}
use Rattle.rsml_syntax.specs.rules.Globals.{Globals, indices}
use Rattle.rsml_syntax.specs.limits.Previous.{names_previous}
use Rattle.rsml_syntax.specs.limits.Checked.{IsChecked}
use Rattle.rsml_meaning.specs.Words.{Path, Each, at}
use Rattle.rsml_meaning.specs.Instances.{Component, State, components, globals_of, states}
use Rattle.rsml_meaning.specs.Cells.{InputType, InputCell, new_cell, type_named, initial_number, cells_of, own_cells, as_previous, cells, is_of}
use Rattle.rsml_meaning.proofs.Lists.{each_append, each_one, filter_same}
use Rattle.rsml_meaning.specs.Worlds.{is_choice}
use Rattle.rsml_meaning.specs.Active.{leads_on}
use Rattle.spec_frames.specs.Frames.{input_of, frame, HaveSameFrame}
use Rattle.equal_frames.specs.Alike.{HaveSameWorlds, opened}
use Rattle.equal_frames.specs.Differences.{all_members}
use Rattle.equal_frames.specs.Laws.{FramesGiveWorlds, FramesGiveMembers}
use Rattle.equal_frames.proofs.Agree.{AreBlanked}
use Rattle.equal_frames.proofs.Blank.{meaning_framed}
use Rattle.equal_frames.proofs.Micro.{opened_component}
use Rattle.equal_frames.proofs.States.{paths_framed, components_framed}
use Rattle.equal_frames.proofs.Members.{own_cells_framed, members_framed}

pub zip_of_map : {A B C : Type 0} (f : A → C) (g : B → C) (xs : List A) (ys : List B) → map f xs ≡ map g ys → AllZip (λ x y. f x ≡ g y) xs ys
zip_of_map f g [] [] e = tt
zip_of_map f g [] (y ∷ ys) e = absurd (let k : ⊥ = cc in k)
zip_of_map f g (x ∷ xs) [] e = absurd (let k : ⊥ = cc in k)
zip_of_map f g (x ∷ xs) (y ∷ ys) e = (cc, zip_of_map f g xs ys cc)

choices_blind : (cs : List Component) (ns : List ℕ) → pointwise is_choice cs ns ≡ pointwise is_choice (map opened_component cs) ns
choices_blind [] [] = refl
choices_blind [] (n ∷ ns) = refl
choices_blind (c ∷ cs) [] = refl
choices_blind (c ∷ cs) (n ∷ ns) = ap (λ b. is_choice c n && b) (choices_blind cs ns)

active_blind : (path : Path) (cs : List Component) (ns : List ℕ) → list_all (leads_on path) (zip cs ns) ≡ list_all (leads_on path) (zip (map opened_component cs) ns)
active_blind path [] ns = refl
active_blind path (c ∷ cs) [] = refl
active_blind path (c ∷ cs) (n ∷ ns) = ap (λ b. leads_on path (c, n) && b) (active_blind path cs ns)

-- what holds of the name of each input holds of that of each cell
of_instances : (P : Name → Type 0) (name : Name) (numbers : InputType) (initial : ℤ) (is : List ℕ) → P name → Each (λ c. P c.input.name) (map (new_cell numbers initial) (map (at name) is))
of_instances P name numbers initial [] h = tt
of_instances P name numbers initial (i ∷ is) h = (h, of_instances P name numbers initial is h)

of_inputs : (P : Name → Type 0) (g : Globals) (ds : List Decl) → AllByRecursion P (flat_map input_of ds) → Each (λ c. P c.input.name) (flat_map (cells_of g) ds)
of_inputs P g [] h = tt
of_inputs P g (decl.Input name size kind initial ∷ ds) h =
    each_append (λ c. P c.input.name) (cells_of g (decl.Input name size kind initial)) (flat_map (cells_of g) ds)
    (of_instances P name (type_named g kind) (initial_number g initial) (indices g size) h.0) (of_inputs P g ds h.1)
of_inputs P g (d ∷ ds) h = of_inputs P g ds h

module _ (s t : Spec) (one : IsChecked s) (two : IsChecked t) (same : HaveSameFrame s t) where
  pub blanked_one : AreBlanked (globals_of s) (globals_of (frame s))
  blanked_one = meaning_framed s one.keeps.rules

  pub blanked_two : AreBlanked (globals_of t) (globals_of (frame t))
  blanked_two = meaning_framed t two.keeps.rules

  pub parts_same : map opened_component (components s) ≡ map opened_component (components t)
  parts_same = components_framed s blanked_one ∙ ap components same.syntax ∙ sym (components_framed t blanked_two)

  pub own_cells_same : own_cells s ≡ own_cells t
  own_cells_same = own_cells_framed s blanked_one ∙ ap own_cells same.syntax ∙ sym (own_cells_framed t blanked_two)

  pub cells_same : cells s ≡ cells t
  cells_same = λ i. own_cells_same i ++ map as_previous (previous_same i)
    where
      previous_same : filter (λ c. names_previous s c.input.name) (own_cells s) ≡ filter (λ c. names_previous t c.input.name) (own_cells t)
      previous_same =
          filter_same (λ c. names_previous s c.input.name) (λ c. names_previous t c.input.name) (own_cells s)
          (λ c m. each_one (λ (x : InputCell). names_previous s x.input.name ≡ names_previous t x.input.name) (own_cells s) c
          (of_inputs (λ name. names_previous s name ≡ names_previous t name) (globals_of s) s.decls same.previous) m)
          ∙ ap (filter (λ (c : InputCell). names_previous t c.input.name)) own_cells_same

  pub worlds_same : HaveSameWorlds s t
  worlds_same = record {
    worlds = λ w.
        let here : pointwise is_choice (components s) w.choices ≡ pointwise is_choice (components t) w.choices
        = choices_blind (components s) w.choices ∙ ap (λ cs. pointwise is_choice cs w.choices) parts_same ∙ sym (choices_blind (components t) w.choices) in
        λ i. here i && pointwise (λ (c : InputCell) n. is_of c.numbers n) (cells_same i) w.cells;
    paths = paths_framed s blanked_one ∙ ap (λ z. map (λ (x : State). x.path) (states z)) same.syntax ∙ sym (paths_framed t blanked_two);
    active = λ w path. active_blind path (components s) w.choices ∙ ap (λ cs. list_all (leads_on path) (zip cs w.choices)) parts_same ∙ sym (active_blind path (components t) w.choices);
    cells = cells_same;
  }

  pub members_same : AllZip (λ m n. opened m ≡ opened n) (all_members s) (all_members t)
  members_same = zip_of_map opened opened (all_members s) (all_members t) (members_framed s blanked_one ∙ ap all_members same.syntax ∙ sym (members_framed t blanked_two))

pub frames_give_worlds : FramesGiveWorlds
frames_give_worlds s t one two same = worlds_same s t one two same

pub frames_give_members : FramesGiveMembers
frames_give_members s t one two same = members_same s t one two same
