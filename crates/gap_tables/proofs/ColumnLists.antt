-- Columns of a set, part by part and one after another.
use Rattle.std.proofs.Common.{◌≡◌, ◌≤◌, ◌+◌, ◌-◌, ◌∙◌, ℕ, suc, Bool, true, false, ◌&&◌, not, List, [], ◌∷◌, ◌++◌, length, Option, Some, None, refl, sym, subst, true≢false, arith, append_assoc, append-nil, slice_get, IsTrue}
use Rattle.std.specs.Prelude.{MatchOption, is_some}
use Rattle.rsml_syntax.specs.declared.syntax.Spec.{Spec}
use Rattle.rsml_syntax.specs.declared.world.World.{World}
use Rattle.rsml_meaning.specs.Findings.{IsLeast}
use Rattle.rsml_meaning.specs.Worlds.{IsWorld}
use Rattle.guard_encode.specs.declared.reading.ReadParts.{ReadParts}
use Rattle.guard_encode.specs.Encoding.{Encoding, Grows, Keeps, Tells, TellsExactly}
use Rattle.guard_encode.specs.Reading.{IgnoresCell, IgnoresChoice}
use Rattle.guard_encode.proofs.BoundLemmas.{grows_on, keeps_grows}
use Rattle.group_verdicts.proofs.Keeping.{on_new, on_old}
use Rattle.group_verdicts.proofs.Parts.{many_cells, many_choices}
use Rattle.world_columns.specs.declared.column.Span.{Span}
use Rattle.world_columns.specs.declared.column.Column.{Column}
use Rattle.world_columns.specs.Columns.{LiesIn, lies_in}
use Rattle.world_columns.specs.Gaps.{AreGaps, EndsWith, IsColumn, none_left, some_left, with_child, with_span}
use Rattle.world_columns.proofs.Inside.{alone_lies}
use Rattle.world_columns.proofs.Passing.{lying_is_passing}
use Rattle.gap_tables.specs.Widening.{ChildGoesOn, ChildrenFound, ColumnFound, FindsLater, IsBegun, IsNextColumn, IsOfParts, SpanGoesOn, SpansFound, TellsAll, TellsOf, children_alone}
use Rattle.gap_tables.proofs.Growing.{grown_new, grown_old, later_grows, tells_of_grows}
use Rattle.gap_tables.proofs.Questions.{none_so}
use Rattle.gap_tables.proofs.Steps.{of_parts, span_as, widest_as}
use Rattle.gap_tables.proofs.PartAnswers.{later_on, tells_of_on}

-- The parts of a column.

pub children_none : (a : Encoding) (read : ReadParts) (w : World) (others r : ℕ) → IsWorld a.machine.base.spec w → Tells a (λ w. true) r → ChildrenFound a a read w others [] r
children_none a read w others r world told = λ set of is other. (
  record {
    none_comes = none_so a.machine.base.spec read set w (children_alone []) (omega arith) (omega arith) world of (alone_lies a.machine.base.spec set w is);
    child = λ k own x own_at at. absurd (let no : ⊥ = cc in no);
    numbers = λ k own i x cell own_at at. absurd (let no : ⊥ = cc in no);
  },
  record { told = λ v. true; tells = told; same = λ v is. refl },
)

pub children_more : (a b d : Encoding) (read : ReadParts) (w : World) (others : ℕ) (cs : List (Option ℕ)) (component after inside : ℕ) (child : Option ℕ) (r : ℕ) → Keeps a b → length cs ≡ component
    → FindsLater a read w (suc component) 0 after → ChildrenFound a b read w others cs inside → ChildGoesOn b d read w component after others inside child r → ChildrenFound a d read w others (cs ++ child ∷ []) r
children_more a b d read w others cs component after inside child r keeps many later found goes = λ set of is other.
    goes set cs (on_new (λ s. IsOfParts s read set) a b keeps of) many (later_on a b read w (suc component) 0 after keeps later) (tells_of_on a b (λ v. not (set v)) others keeps other) (found set of is other)

-- of an encoder that has gone on
pub children_from : (a b d : Encoding) (read : ReadParts) (w : World) (others : ℕ) (cs : List (Option ℕ)) (r : ℕ) → Keeps a b → ChildrenFound b d read w others cs r → ChildrenFound a d read w others cs r
children_from a b d read w others cs r keeps found = λ set of is other.
    found set (on_new (λ s. IsOfParts s read set) a b keeps of) is (tells_of_on a b (λ v. not (set v)) others keeps other)

pub spans_none : (a : Encoding) (read : ReadParts) (w : World) (others : ℕ) (cs : List (Option ℕ)) (inside : ℕ) → SpansFound a a read w others cs inside [] inside
spans_none a read w others cs inside = λ set of other begun. begun

pub spans_more : (a b d : Encoding) (read : ReadParts) (w : World) (others : ℕ) (cs : List (Option ℕ)) (xs : List Span) (cell after first inside : ℕ) (x : Span) (r : ℕ) → Grows a b → length cs ≡ length w.choices → length xs ≡ cell
    → FindsLater a read w (length cs) (suc cell) after → SpansFound a b read w others cs first xs inside → SpanGoesOn b d read w cell after others inside x r → SpansFound a d read w others cs first (xs ++ x ∷ []) r
spans_more a b d read w others cs xs cell after first inside x r keeps all many later found goes = λ set of other begun.
    goes set cs xs (grown_new (λ s. IsOfParts s read set) a b keeps of) all many (later_grows a b read w (length cs) (suc cell) after keeps later) (tells_of_grows a b (λ v. not (set v)) others keeps other) (found set of other begun)

-- all its parts
pub column_found : (a b d : Encoding) (read : ReadParts) (w : World) (others : ℕ) (cs : List (Option ℕ)) (xs : List Span) (first r : ℕ) → Keeps a b → Grows b d → IsWorld a.machine.base.spec w
    → length cs ≡ length w.choices → length xs ≡ length w.cells → ChildrenFound a b read w others cs first → SpansFound b d read w others cs first xs r → ColumnFound a d read w others (of_parts cs xs) r
column_found a b d read w others cs xs first r ab bd world children spans found then_found = λ set of is other.
    let begun = then_found set (on_new (λ s. IsOfParts s read set) a b ab of) (tells_of_on a b (λ v. not (set v)) others ab other) (found set of is other) in
    let here : IsBegun a.machine.base.spec read set w (of_parts cs xs) = on_old (λ s. IsBegun s read set w (of_parts cs xs)) a b ab (grown_old (λ s. IsBegun s read set w (of_parts cs xs)) b d bd begun.0) in
    let there : IsWorld d.machine.base.spec w = grown_new (λ s. IsWorld s w) b d bd (on_new (λ s. IsWorld s w) a b ab world) in (
      record { children = children; spans = spans; child = here.child; numbers = here.numbers },
      record {
        told = begun.1.told;
        tells = begun.1.tells;
        same = λ v is.
            begun.1.same v is
            ∙ sym (lying_is_passing (of_parts cs xs) v (children ∙ many_choices d.machine.base.spec w there ∙ sym (many_choices d.machine.base.spec v is))
            (spans ∙ many_cells d.machine.base.spec w there ∙ sym (many_cells d.machine.base.spec v is)));
      },
    )

-- of a set that is told, by the parts that are read of it
pub column_from : (a b d : Encoding) (read : ReadParts) (w : World) (set others : ℕ) (c : Column) (r : ℕ) → Keeps a b
    → ((k : ℕ) → slice_get read.choices k ≡ Some false → IgnoresChoice a k set) → ((k : ℕ) → slice_get read.cells k ≡ Some false → IgnoresCell a k set)
    → ((truth : World → Bool) → Tells a truth set → Tells b (λ v. not (truth v)) others) → ColumnFound b d read w others c r
    → (truth : World → Bool) → Tells a truth set → IsTrue (truth w) → IsColumn a.machine.base.spec truth w c × TellsOf d (lies_in c) r
column_from a b d read w set others c r keeps choices cells outside found truth told is =
    let of : IsOfParts a.machine.base.spec read truth = record { choices = λ k not. choices k not truth told; cells = λ k not. cells k not truth told } in
    let both = found truth (on_new (λ s. IsOfParts s read truth) a b keeps of) is (record { told = λ v. not (truth v); tells = outside truth told; same = λ v is. refl }) in
    (on_old (λ s. IsColumn s truth w c) a b keeps both.0, both.1)

-- A column of an equal set.

lies_as : (s : Spec) (first other : World → Bool) (c : Column) → ((v : World) → IsWorld s v → first v ≡ other v) → LiesIn s first c → LiesIn s other c
lies_as s first other c same lies = λ v is inside. sym (same v is) ∙ lies v is inside

pub column_as : (s : Spec) (first other : World → Bool) (w : World) (c : Column) → ((v : World) → IsWorld s v → first v ≡ other v) → IsColumn s first w c → IsColumn s other w c
column_as s first other w c same h = record {
  children = h.children;
  spans = h.spans;
  child = λ k own x own_at at. widest_as (λ y. lies_as s first other (with_child c w k y) same) (λ y. lies_as s other first (with_child c w k y) (λ v is. sym (same v is))) own x (h.child k own x own_at at);
  numbers = λ k own i x cell own_at at. span_as (λ y. lies_as s first other (with_span c w k y) same) (λ y. lies_as s other first (with_span c w k y) (λ v is. sym (same v is))) i.numbers.names i.numbers own x
      (h.numbers k own i x cell own_at at);
}

pub least_as : (s : Spec) (first other : World → Bool) (w : World) → ((v : World) → IsWorld s v → first v ≡ other v) → IsLeast (λ v. IsWorld s v × IsTrue (first v)) w → IsLeast (λ v. IsWorld s v × IsTrue (other v)) w
least_as s first other w same h = record {
  such = (h.such.0, sym (same w h.such.0) ∙ h.such.1);
  least = λ v such. h.least v (such.0, same v such.0 ∙ such.1);
}

-- One after another.

pub none_of : (s : Spec) (truth : World → Bool) → ((v : World) → IsWorld s v → truth v ≡ false) → (w : World) → IsWorld s w → IsTrue (truth w) → ⊥
none_of s truth none w is so = true≢false (sym so ∙ none w is)

-- the worlds of a set that are in none of some columns
abbrev pub left_of : (World → Bool) → List Column → World → Bool
left_of set [] = set
left_of set (c ∷ cs) = left_of (λ v. set v && not (lies_in c v)) cs

pub left_more : (set : World → Bool) (cs : List Column) (c : Column) → left_of set (cs ++ c ∷ []) ≡ (λ v. left_of set cs v && not (lies_in c v))
left_more set [] c = refl
left_more set (d ∷ cs) c = left_more (λ v. set v && not (lies_in d v)) cs c

-- the columns of what is left after some are those that come after them
abbrev pub AreFirst : Spec → (World → Bool) → ℕ → ℕ → List Column → Type 0
AreFirst s set most count cs = (m : ℕ) → m + count ≡ most → (others : List Column) (more : Bool) → AreGaps s (left_of set cs) m others more → AreGaps s set most (cs ++ others) more

pub first_none : (s : Spec) (set : World → Bool) (most : ℕ) → AreFirst s set most 0 []
first_none s set most m all others more h = let e : m ≡ most = omega (arith, all) in subst (λ n. AreGaps s set n others more) e h

pub first_more : (s : Spec) (set : World → Bool) (most count : ℕ) (cs : List Column) (c : Column) → (w : World) → IsLeast (λ v. IsWorld s v × IsTrue (left_of set cs v)) w → IsColumn s (left_of set cs) w c
    → AreFirst s set most count cs → AreFirst s set most (count + 1) (cs ++ c ∷ [])
first_more s set most count cs c w least column before m all others more h =
    subst (λ zs. AreGaps s set most zs more) (sym (append_assoc cs (c ∷ []) others))
    (before (suc m) (omega (arith, all)) (c ∷ others) more (w, least, column, subst (λ rest. AreGaps s rest m others more) (left_more set cs c) h))

pub gaps_end : (s : Spec) (set : World → Bool) (most count : ℕ) (cs : List Column) (more : Bool) (m : ℕ) → m + count ≡ most → EndsWith s (left_of set cs) m more → AreFirst s set most count cs → AreGaps s set most cs more
gaps_end s set most count cs more m all ends first = subst (λ zs. AreGaps s set most zs more) (append-nil cs) (first m all [] more ends)

-- What is found so far of the columns of the worlds in which f is true.
abbrev pub ColumnsSoFar : Encoding → Encoding → ℕ → ℕ → ℕ → List Column → ℕ → Type 0
ColumnsSoFar old new f most count cs rest = (truth : World → Bool) → Tells old truth f → TellsAll new (left_of truth cs) rest × AreFirst old.machine.base.spec truth most count cs

pub so_far_none : (a b : Encoding) (f most rest : ℕ) → ((truth : World → Bool) → Tells a truth f → TellsExactly b truth rest) → ColumnsSoFar a b f most 0 [] rest
so_far_none a b f most rest exact = λ truth told. (record { told = truth; tells = exact truth told; same = λ v is. refl }, first_none a.machine.base.spec truth most)

pub so_far_more : (a b d : Encoding) (f most count : ℕ) (cs : List Column) (rest : ℕ) (c : Column) (left : ℕ) → Grows a b → ColumnsSoFar a b f most count cs rest
    → ((set : World → Bool) → TellsAll b set rest → IsNextColumn b d set (Some (c, left))) → ColumnsSoFar a d f most (count + 1) (cs ++ c ∷ []) left
so_far_more a b d f most count cs rest c left keeps before next = λ truth told.
    let h = before truth told in
    let n = next (left_of truth cs) h.0 in
    let s = a.machine.base.spec in (
      subst (λ set. TellsAll d set left) (sym (left_more truth cs c)) n.1,
      first_more s truth most count cs c n.0.0 (grown_old (λ s. IsLeast (λ v. IsWorld s v × IsTrue (left_of truth cs v)) n.0.0) a b keeps n.0.1)
          (grown_old (λ s. IsColumn s (left_of truth cs) n.0.0 c) a b keeps n.0.2) h.1,
    )

pub columns_none : (a b d : Encoding) (f most count : ℕ) (cs : List Column) (rest : ℕ) → Grows a b → Grows b d → count ≤ most → ColumnsSoFar a b f most count cs rest
    → ((set : World → Bool) → TellsAll b set rest → IsNextColumn b d set None) → (truth : World → Bool) → Tells a truth f → AreGaps d.machine.base.spec truth most cs false
columns_none a b d f most count cs rest ab bd within before next truth told =
    let h = before truth told in
    let none = grown_old (λ s. (w : World) → IsWorld s w → IsTrue (left_of truth cs w) → ⊥) a b ab (next (left_of truth cs) h.0) in
    grown_new (λ s. AreGaps s truth most cs false) b d bd (grown_new (λ s. AreGaps s truth most cs false) a b ab
    (gaps_end a.machine.base.spec truth most count cs false (most - count) (omega (arith, within)) (none_left none) h.1))

pub columns_end : (a b d : Encoding) (f most count : ℕ) (cs : List Column) (rest : ℕ) (more : Bool) → Grows a b → Keeps b d → count ≡ most → ColumnsSoFar a b f most count cs rest
    → ((set : World → Bool) → TellsAll b set rest → EndsWith b.machine.base.spec set 0 more) → (truth : World → Bool) → Tells a truth f → AreGaps d.machine.base.spec truth most cs more
columns_end a b d f most count cs rest more ab bd all before ends truth told =
    let h = before truth told in
    let end = grown_old (λ s. EndsWith s (left_of truth cs) 0 more) a b ab (ends (left_of truth cs) h.0) in
    on_new (λ s. AreGaps s truth most cs more) b d bd (grown_new (λ s. AreGaps s truth most cs more) a b ab
    (gaps_end a.machine.base.spec truth most count cs more 0 (omega (arith, all)) end h.1))

-- The next column.

pub none_next : (a b : Encoding) (set : World → Bool) (r : ℕ) → Keeps a b → (all : TellsAll a set r) → ((w : World) → IsWorld b.machine.base.spec w → all.told w ≡ false) → IsNextColumn a b set None
none_next a b set r keeps all none = λ w is so.
    true≢false (sym so ∙ sym (all.same w is) ∙ none w (on_new (λ s. IsWorld s w) a b keeps is))

pub next_found : (a b e d : Encoding) (set : World → Bool) (r : ℕ) (w : World) (c : Column) (inside left : ℕ) → Keeps a b → Grows b e → Keeps e d → (all : TellsAll a set r)
    → IsLeast (λ v. IsWorld b.machine.base.spec v × IsTrue (all.told v)) w → (column : IsColumn b.machine.base.spec all.told w c × TellsOf e (lies_in c) inside)
    → TellsExactly d (λ v. all.told v && not (column.1.told v)) left → IsNextColumn a d set (Some (c, left))
next_found a b e d set r w c inside left ab be ed all least column told = (
  (
    w,
    least_as s all.told set w all.same (on_old (λ t. IsLeast (λ v. IsWorld t v × IsTrue (all.told v)) w) a b ab least),
    column_as s all.told set w c all.same (on_old (λ t. IsColumn t all.told w c) a b ab column.0),
  ),
  record {
    told = λ v. all.told v && not (column.1.told v);
    tells = told;
    same = λ v is. λ i.
        grown_new (λ t. (v : World) → IsWorld t v → all.told v ≡ set v) b d (grows_on b e d be (keeps_grows e d ed)) (on_new (λ t. (v : World) → IsWorld t v → all.told v ≡ set v) a b ab all.same) v is i
        && not (on_new (λ t. (v : World) → IsWorld t v → column.1.told v ≡ lies_in c v) e d ed column.1.same v is i);
  },
)
  where
    s : Spec
    s = a.machine.base.spec

pub none_left_so : (a b : Encoding) (set : World → Bool) (r : ℕ) → Keeps a b → (all : TellsAll a set r) → ((w : World) → IsWorld b.machine.base.spec w → all.told w ≡ false) → EndsWith a.machine.base.spec set 0 false
none_left_so a b set r keeps all none = none_left (none_next a b set r keeps all none)

pub some_left_so : (a b : Encoding) (set : World → Bool) (r : ℕ) (w : World) → Keeps a b → (all : TellsAll a set r) → IsLeast (λ v. IsWorld b.machine.base.spec v × IsTrue (all.told v)) w → EndsWith a.machine.base.spec set 0 true
some_left_so a b set r w keeps all least =
    let here = least_as a.machine.base.spec all.told set w all.same (on_old (λ t. IsLeast (λ v. IsWorld t v × IsTrue (all.told v)) w) a b keeps least) in
    some_left refl w here.such.0 here.such.1

pub left_so : (a b : Encoding) (set : World → Bool) (r : ℕ) (found : Option World) (more : Bool) → Keeps a b → (all : TellsAll a set r) → more ≡ is_some found
    → MatchOption found ((w : World) → IsWorld b.machine.base.spec w → all.told w ≡ false) (IsLeast (λ v. IsWorld b.machine.base.spec v × IsTrue (all.told v))) → EndsWith a.machine.base.spec set 0 more
left_so a b set r None more keeps all is none = subst (λ (m : Bool). EndsWith a.machine.base.spec set 0 m) (sym is) (none_left_so a b set r keeps all none)
left_so a b set r (Some w) more keeps all is least = subst (λ (m : Bool). EndsWith a.machine.base.spec set 0 m) (sym is) (some_left_so a b set r w keeps all least)
