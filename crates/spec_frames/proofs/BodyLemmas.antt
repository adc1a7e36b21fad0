-- Bodies are the same but for guards exactly where their frames are one.
use Rattle.std.proofs.Common.{◌≡◌, Bool, true, ◌&&◌, List, [], ◌∷◌, refl, sym, ap, ◌∙◌, true≢false}
use Rattle.std.specs.Option.{option_eq}
use Rattle.std.specs.Cmp.{first_so, second_so}
use Rattle.std.specs.Cmp.Lexicographic.{pointwise}
use mathlib.Core.Path.{subst⁻¹}
use mathlib.Core.Former.{Count, none_left, one_more, list_count, this as child_former}
use Rattle.rsml_syntax.specs.declared.syntax.Guard.TheVariants as guards
use Rattle.rsml_syntax.specs.declared.syntax.Bus.{Bus}
use Rattle.rsml_syntax.specs.declared.syntax.Transition.{Transition}
use Rattle.rsml_syntax.specs.declared.syntax.StateDecl.{StateDecl}
use Rattle.rsml_syntax.specs.declared.syntax.Body.{Body, Basic, One, One', All, All', Row_of-StateDecl, end_of-StateDecl, more_of-StateDecl, items-the_row-StateDecl, items_hidden-the_row-StateDecl-0}
use Rattle.rsml_syntax.specs.text.Names.{Name, same}
use Rattle.spec_frames.specs.Frames.{open_transition, frame_body, frame_row}
use Rattle.spec_frames.specs.helpers.Sameness.{same_mention, same_bus, same_size, same_transition, same_body, same_row, same_child}
use Rattle.spec_frames.proofs.ListLemmas.{both, name_same, name_itself, pointwise_same, pointwise_itself, pointwise_opens, pointwise_blind, option_same, option_itself}
use Rattle.spec_frames.proofs.PartLemmas.{size_same, size_itself, mention_same, mention_itself, bus_same, bus_itself}

-- Transitions.

abbrev same_path : List Name → List Name → Bool
same_path = pointwise same

transition_opens : (t u : Transition) → same_transition t u ≡ true → open_transition t ≡ open_transition u
transition_opens t u h =
    let a = same t.source u.source in
    let b = option_eq same_path t.target u.target in
    let c = same_mention t.trigger u.trigger in
    let d = pointwise same_mention t.raises u.raises in
    let rest = second_so a (b && (c && d)) h in
    let last = second_so b (c && d) rest in
    let s = name_same t.source u.source (first_so a (b && (c && d)) h) in
    let p = option_same same_path (pointwise_same same name_same) t.target u.target (first_so b (c && d) rest) in
    let m = mention_same t.trigger u.trigger (first_so c d last) in
    let r = pointwise_same same_mention mention_same t.raises u.raises (second_so c d last) in
    λ i. record { source = s i; target = p i; trigger = m i; guard = guards.Always; raises = r i }

transition_itself : (t : Transition) → same_transition t t ≡ true
transition_itself t =
    let b = option_eq same_path t.target t.target in
    let c = same_mention t.trigger t.trigger in
    let d = pointwise same_mention t.raises t.raises in
    both (same t.source t.source) (b && (c && d)) (name_itself t.source)
    (both b (c && d) (option_itself same_path (pointwise_itself same name_itself) t.target)
    (both c d (mention_itself t.trigger) (pointwise_itself same_mention mention_itself t.raises)))

-- Bodies.

abbrev AnyRow : Type 0
AnyRow = (n : Count) × Row_of-StateDecl n

-- how many children a shape has
abbrev arity : List (Unit {0}) → Count
arity m = list_count child_former m none_left

abbrev RowOf : List (Unit {0}) → Type 0
RowOf m = Row_of-StateDecl (arity m)

-- children with their shape
abbrev Shaped : Type 0
Shaped = (m : List (Unit {0})) × RowOf m

abbrev shape_of : Count → List (Unit {0})
shape_of none_left = []
shape_of (one_more n) = tt ∷ shape_of n

arity_is : (n : Count) → arity (shape_of n) ≡ n
arity_is none_left = refl
arity_is (one_more n) = ap one_more (arity_is n)

shape_is : (m : List (Unit {0})) → shape_of (arity m) ≡ m
shape_is [] = refl
shape_is (a ∷ m) = ap (λ (k : List (Unit {0})). tt ∷ k) (shape_is m)

both_are : (m : List (Unit {0})) → arity_is (arity m) ≡ ap arity (shape_is m)
unfolding arity_is shape_is
both_are [] = refl
both_are (a ∷ m) = ap (λ (e : arity (shape_of (arity m)) ≡ arity m). ap one_more e) (both_are m)

abbrev shaped : AnyRow → Shaped
shaped p = (shape_of p.0, subst⁻¹ Row_of-StateDecl (arity_is p.0) p.1)

abbrev shaped_by : (m : List (Unit {0})) → RowOf m → arity (shape_of (arity m)) ≡ arity m → Shaped
shaped_by m r e = (shape_of (arity m), subst⁻¹ Row_of-StateDecl e r)

shaped_is : (m : List (Unit {0})) (r : RowOf m) → shaped (arity m, r) ≡ (m, r)
shaped_is m r =
    ap (λ (e : arity (shape_of (arity m)) ≡ arity m). shaped_by m r e) (both_are m)
    ∙ (λ j. (shape_is m j, coe 1 j (i. RowOf (shape_is m i)) r))

-- rows that are one, with their counts, are one with their shapes
reshaped : (m n : List (Unit {0})) (r : RowOf m) (q : RowOf n) → ◌≡◌ {A = AnyRow} (arity m, r) (arity n, q) → ◌≡◌ {A = Shaped} (m, r) (n, q)
reshaped m n r q e = sym (shaped_is m r) ∙ ap shaped e ∙ shaped_is n q

mutual
  pub body_opens : (x y : Body) → same_body x y ≡ true → frame_body x ≡ frame_body y
  body_opens Basic Basic h = refl
  body_opens (One' first m children buses transitions) (One' other n others groups moves) h =
      let a = same first other in
      let b = pointwise same_bus buses groups in
      let c = pointwise same_transition transitions moves in
      let d = same_row children others in
      let rest = second_so a (b && (c && d)) h in
      let last = second_so b (c && d) rest in
      let f = name_same first other (first_so a (b && (c && d)) h) in
      let bs = pointwise_same same_bus bus_same buses groups (first_so b (c && d) rest) in
      let ts = pointwise_opens same_transition open_transition transition_opens transitions moves (first_so c d last) in
      let r = reshaped m n (frame_row children) (frame_row others) (row_opens children others (second_so c d last)) in
      λ i. One' (f i) (r i).0 (r i).1 (bs i) (ts i)
  body_opens (All' m children) (All' n others) h = let r = reshaped m n (frame_row children) (frame_row others) (row_opens children others h) in λ i. All' (r i).0 (r i).1
  body_opens Basic (One' other n others groups moves) h = absurd (true≢false (sym h))
  body_opens Basic (All' n others) h = absurd (true≢false (sym h))
  body_opens (One' first m children buses transitions) Basic h = absurd (true≢false (sym h))
  body_opens (One' first m children buses transitions) (All' n others) h = absurd (true≢false (sym h))
  body_opens (All' m children) Basic h = absurd (true≢false (sym h))
  body_opens (All' m children) (One' other n others groups moves) h = absurd (true≢false (sym h))

  row_opens : {m n : Count} (r : Row_of-StateDecl m) (q : Row_of-StateDecl n) → same_row r q ≡ true → ◌≡◌ {A = AnyRow} (m, frame_row r) (n, frame_row q)
  row_opens end_of-StateDecl end_of-StateDecl h = refl
  row_opens (more_of-StateDecl name size body others) (more_of-StateDecl other many inside more) h =
      let a = same name other in
      let b = same_size size many in
      let c = same_body body inside in
      let here = first_so (a && (b && c)) (same_row others more) h in
      let rest = second_so a (b && c) here in
      let n = name_same name other (first_so a (b && c) here) in
      let z = size_same size many (first_so b c rest) in
      let x = body_opens body inside (second_so b c rest) in
      let r = row_opens others more (second_so (a && (b && c)) (same_row others more) h) in
      λ i. (one_more (r i).0, more_of-StateDecl (n i) (z i) (x i) (r i).1)
  row_opens end_of-StateDecl (more_of-StateDecl other many inside more) h = absurd (true≢false (sym h))
  row_opens (more_of-StateDecl name size body others) end_of-StateDecl h = absurd (true≢false (sym h))

mutual
  body_blind : (x y : Body) → same_body x y ≡ same_body (frame_body x) (frame_body y)
  body_blind Basic Basic = refl
  body_blind (One' first m children buses transitions) (One' other n others groups moves) =
      λ i. same first other && (pointwise same_bus buses groups && (pointwise_blind same_transition open_transition (λ t u. refl) transitions moves i && row_blind children others i))
  body_blind (All' m children) (All' n others) = row_blind children others
  body_blind Basic (One' other n others groups moves) = refl
  body_blind Basic (All' n others) = refl
  body_blind (One' first m children buses transitions) Basic = refl
  body_blind (One' first m children buses transitions) (All' n others) = refl
  body_blind (All' m children) Basic = refl
  body_blind (All' m children) (One' other n others groups moves) = refl

  row_blind : {m n : Count} (r : Row_of-StateDecl m) (q : Row_of-StateDecl n) → same_row r q ≡ same_row (frame_row r) (frame_row q)
  row_blind end_of-StateDecl end_of-StateDecl = refl
  row_blind (more_of-StateDecl name size body others) (more_of-StateDecl other many inside more) =
      λ i. (same name other && (same_size size many && body_blind body inside i)) && row_blind others more i
  row_blind end_of-StateDecl (more_of-StateDecl other many inside more) = refl
  row_blind (more_of-StateDecl name size body others) end_of-StateDecl = refl

mutual
  body_itself : (x : Body) → same_body x x ≡ true
  body_itself Basic = refl
  body_itself (One' first m children buses transitions) =
      let b = pointwise same_bus buses buses in
      let c = pointwise same_transition transitions transitions in
      both (same first first) (b && (c && same_row children children)) (name_itself first)
      (both b (c && same_row children children) (pointwise_itself same_bus bus_itself buses)
      (both c (same_row children children) (pointwise_itself same_transition transition_itself transitions) (row_itself children)))
  body_itself (All' m children) = row_itself children

  row_itself : {m : Count} (r : Row_of-StateDecl m) → same_row r r ≡ true
  row_itself end_of-StateDecl = refl
  row_itself (more_of-StateDecl name size body others) =
      both (same name name && (same_size size size && same_body body body)) (same_row others others)
      (both (same name name) (same_size size size && same_body body body) (name_itself name) (both (same_size size size) (same_body body body) (size_itself size) (body_itself body)))
      (row_itself others)

pub body_from : (x y : Body) → frame_body x ≡ frame_body y → same_body x y ≡ true
body_from x y h = body_blind x y ∙ ap (same_body (frame_body x)) (sym h) ∙ body_itself (frame_body x)

-- Rows as lists of children.

rows_are : (m n : Count) (r : Row_of-StateDecl m) (q : Row_of-StateDecl n) → same_row r q ≡ pointwise same_child (items-the_row-StateDecl m r) (items-the_row-StateDecl n q)
rows_are m n end_of-StateDecl end_of-StateDecl = refl
rows_are m n end_of-StateDecl (more_of-StateDecl other many inside more) = refl
rows_are m n (more_of-StateDecl name size body others) end_of-StateDecl = refl
rows_are m n (more_of-StateDecl name size body others) (more_of-StateDecl other many inside more) =
    ap (λ b. (same name other && (same_size size many && same_body body inside)) && b) (rows_are _ _ others more)

abbrev row_of : Body → (n : Count) × Row_of-StateDecl n
row_of (One' f _ row bs ts) = (_, row)
row_of (All' _ row) = (_, row)
row_of _ = (_, end_of-StateDecl)

pub both_all : (cs ds : List StateDecl) → same_body (All cs) (All ds) ≡ pointwise same_child cs ds
both_all cs ds =
    let r = row_of (All cs) in
    let q = row_of (All ds) in
    rows_are r.0 q.0 r.1 q.1 ∙ (λ i. pointwise same_child (items_hidden-the_row-StateDecl-0 cs i) (items_hidden-the_row-StateDecl-0 ds i))

pub both_one : (f g : Name) (cs ds : List StateDecl) (bs gs : List Bus) (ts us : List Transition) → same_body (One f cs bs ts) (One g ds gs us)
    ≡ (same f g && (pointwise same_bus bs gs && (pointwise same_transition ts us && pointwise same_child cs ds)))
both_one f g cs ds bs gs ts us =
    let r = row_of (One f cs bs ts) in
    let q = row_of (One g ds gs us) in
    ap (λ b. same f g && (pointwise same_bus bs gs && (pointwise same_transition ts us && b)))
    (rows_are r.0 q.0 r.1 q.1 ∙ (λ i. pointwise same_child (items_hidden-the_row-StateDecl-0 cs i) (items_hidden-the_row-StateDecl-0 ds i)))

pub one_passes : (x y : Body) (f g : Name) (cs ds : List StateDecl) (bs gs : List Bus) (ts us : List Transition) → x ≡ One f cs bs ts → y ≡ One g ds gs us
    → same f g ≡ true → pointwise same_bus bs gs ≡ true → pointwise same_transition ts us ≡ true → pointwise same_child cs ds ≡ same_body x y
one_passes x y f g cs ds bs gs ts us e k first buses transitions =
    sym (
    (λ i. same_body (e i) (k i))
    ∙ both_one f g cs ds bs gs ts us
    ∙ (λ i. first i && (buses i && (transitions i && pointwise same_child cs ds)))
    )
