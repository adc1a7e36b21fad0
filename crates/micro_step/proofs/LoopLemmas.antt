-- One turn of each loop, and what is there for it.
use Rattle.std.proofs.Common.{◌≡◌, ℕ, zero, suc, ◌+◌, ◌<◌, ◌≤◌, ◌==◌, ◌||◌, Bool, true, false, List, [], ◌∷◌, ◌++◌, map, fold, take, drop, length, replicate, get_or, set, Some, None, Option, if◌then◌else◌, slice_get, ℤ, ⊎_elim, refl, sym, ap, ◌∙◌, subst, true≢false, arith}
use Rattle.std.specs.List.{AllZip}
use Rattle.std.specs.Option.{option_map_or}
use Rattle.std.proofs.lemmas.Bool.{cases_eq}
use Rattle.std.specs.Cmp.{nat_eq_equiv}
use Rattle.std.proofs.lemmas.List.{take_more, length-map, length-replicate, get_or-map}
use Rattle.std.proofs.lemmas.List.Folds.{list_any_more}
use Rattle.state_tree.proofs.Kin.{get_index}
use Rattle.std.proofs.lemmas.Option.{get_or_from_slice_get}
use Rattle.rsml_syntax.specs.declared.world.World.{World}
use Rattle.rsml_syntax.specs.declared.syntax.Value.{Value}
use Rattle.rsml_syntax.specs.declared.syntax.Value.TheVariants as values
use Rattle.rsml_syntax.specs.declared.syntax.Answer.{Answer}
use Rattle.rsml_syntax.specs.declared.syntax.Answer.TheVariants as answers
use Rattle.rsml_syntax.specs.limits.Comparisons.{Indices}
use Rattle.rsml_meaning.specs.Words.{Each}
use Rattle.rsml_meaning.specs.Truth.{within}
use Rattle.rsml_meaning.specs.Interfaces.{send_cases, definitions, function_cases}
use Rattle.state_tree.proofs.Lists.{get_within, beside, as_long, zip_push}
use Rattle.state_tree.proofs.Fitting.{from_number}
use Rattle.rsml_ground.specs.StandsFor.{DefinitionIs}
use Rattle.rsml_ground.proofs.DeclaredLemmas.{beside_first}
use Rattle.ground_members.specs.declared.transitions.GroundTransition.{GroundTransition}
use Rattle.ground_members.specs.declared.send_cases.GroundSendCase.{GroundSendCase}
use Rattle.ground_members.specs.declared.send_cases.GroundValue.{GroundValue}
use Rattle.ground_members.specs.declared.send_cases.GroundValue.TheVariants as value
use Rattle.ground_members.specs.declared.send_cases.GroundAnswer.{GroundAnswer}
use Rattle.ground_members.specs.declared.send_cases.GroundAnswer.TheVariants as answer
use Rattle.ground_members.specs.Members.{SendCaseIs, AnswerIs, ValueIs}
use Rattle.elaborate.specs.Machine.{GroundMachine, StandsFor}
use Rattle.elaborate.specs.OnEvents.{places_of}
use Rattle.rsml_ground.specs.Truths.{Grounded}
use Rattle.macros.specs.Known.{Knows}
use Rattle.micro_step.specs.Rising.{among}
use Rattle.micro_step.specs.Places.{passes, places_where}
use Rattle.micro_step.specs.Numbers.{raised_at, value_number, values_of, case_numbers, AreOfCase, HaveRoom, ValueFits, picked}
use Rattle.micro_step.proofs.PlaceLemmas.{among_places}

-- Numbers on an event.

pub on_event : {A : Type 0} (ev : A → ℕ) (n at : ℕ) (xs : List A) → places_of n at (map ev xs) ≡ places_where (λ x. ev x == n) at xs
on_event ev n at [] = refl
on_event ev n at (x ∷ xs) = ap (λ (ks : List ℕ). if ev x == n then at ∷ ks else ks) (on_event ev n (suc at) xs)

pub among_item : (xs : List ℕ) (i k : ℕ) → i < length xs → k ≡ get_or xs i 0 → among xs k ≡ true
among_item [] i k l e = absurd (omega (arith, l))
among_item (x ∷ xs) zero k l e = ap (λ (b : Bool). b || among xs k) (subst (λ n. (n == k) ≡ true) e (nat_eq_equiv.refl k))
among_item (x ∷ xs) (suc i) k l e = by (x == k) (among_item xs i k (omega (arith, l)) e)
  where
    by : (b : Bool) → among xs k ≡ true → (b || among xs k) ≡ true
    by true rest = refl
    by false rest = rest

passing_below : {A : Type 0} (t : A → Bool) (xs : List A) (k : ℕ) → passes t xs k ≡ true → k < length xs
passing_below t xs k h = by (slice_get xs k) refl h
  where
    by : (o : Option _) → slice_get xs k ≡ o → option_map_or t o false ≡ true → k < length xs
    by None e h = absurd (true≢false (sym h))
    by (Some x) e h = get_within xs k x e

-- a number that is listed is one of an item
pub listed_below : {A : Type 0} (t : A → Bool) (xs : List A) (ks : List ℕ) (i k : ℕ) → ks ≡ places_where t 0 xs → i < length ks → k ≡ get_or ks i 0 → k < length xs
listed_below t xs ks i k are l e =
    passing_below t xs k (sym (among_places t xs k) ∙ ap (λ (ns : List ℕ). among ns k) (sym are) ∙ among_item ks i k l e)

each_among : (P : ℕ → Type 0) (ks : List ℕ) → ((k : ℕ) → among ks k ≡ true → P k) → Each P ks
each_among P [] h = tt
each_among P (n ∷ ks) h = (h n (ap (λ (b : Bool). b || among ks n) (nat_eq_equiv.refl n)), each_among P ks (λ k m. h k (later k m)))
  where
    later : (k : ℕ) → among ks k ≡ true → (n == k || among ks k) ≡ true
    later k m = by (n == k)
      where
        by : (b : Bool) → (b || among ks k) ≡ true
        by true = refl
        by false = m

-- numbers of items that pass are numbers of items
pub places_below : {A : Type 0} (t : A → Bool) (xs : List A) (ks : List ℕ) → ks ≡ places_where t 0 xs → Each (λ k. k < length xs) ks
places_below t xs ks are =
    each_among (λ k. k < length xs) ks (λ k m. passing_below t xs k (sym (among_places t xs k) ∙ ap (λ (ns : List ℕ). among ns k) (sym are) ∙ m))

pub each_at : (P : ℕ → Type 0) (ks : List ℕ) (i k : ℕ) → Each P ks → i < length ks → k ≡ get_or ks i 0 → P k
each_at P [] i k e l q = absurd (omega (arith, l))
each_at P (n ∷ ks) zero k e l q = subst P (sym q) e.0
each_at P (n ∷ ks) (suc i) k e l q = each_at P ks i k e.1 (omega (arith, l)) q

-- Raised events.

-- one more of the events of a list
pub listed_more : (ks : List ℕ) (i k q : ℕ) → i < length ks → k ≡ get_or ks i 0 → among (take (i + 1) ks) q ≡ (among (take i ks) q || k == q)
listed_more ks i k q l e = list_any_more (λ n. n == q) ks i 0 l ∙ ap (λ (d : ℕ). among (take i ks) q || d == q) (sym e)

-- one more transition raises its events
pub raised_more : (m : GroundMachine) (ks : List ℕ) (i k q : ℕ) → i < length ks → k ≡ get_or ks i 0
    → raised_at m (take (i + 1) ks) q ≡ (raised_at m (take i ks) q || passes (λ x. among x.raises q) m.transitions k)
raised_more m ks i k q l e =
    let raises = passes (λ x. among x.raises q) m.transitions in
    list_any_more raises ks i 0 l ∙ ap (λ (d : ℕ). raised_at m (take i ks) q || raises d) (sym e)

-- the events of a transition, all of them
pub raised_by_one : (m : GroundMachine) (k q : ℕ) (x : GroundTransition) (ks : List ℕ) (b : Bool) → slice_get m.transitions k ≡ Some x → ks ≡ x.raises → (b || among ks q) ≡ (b || passes (λ y. among y.raises q) m.transitions k)
raised_by_one m k q x ks b at e =
    ap (λ (ns : List ℕ). b || among ns q) e ∙ ap (λ (o : Option GroundTransition). b || option_map_or (λ y. among y.raises q) o false) (sym at)

-- Moves.

-- one more transition
pub entered_more : {B : Type 0} (f : B → ℕ → B) (a : B) (ks : List ℕ) (i k : ℕ) → i < length ks → k ≡ get_or ks i 0 → fold f (f a k) (drop (i + 1) ks) ≡ fold f a (drop i ks)
entered_more f a ks i k l e = ap (λ (n : ℕ). fold f (f a n) (drop (i + 1) ks)) e ∙ ap (fold f a) (sym (from_number ks i l))

-- Values.

value_fits : (m : GroundMachine) (r : Indices) → StandsFor m → (x : Value) (y : GroundValue) → ValueIs m.base.spec r x y → ValueFits m y
value_fits m r stands (values.Sum x) (value.Sum y) is = is.1
value_fits m r stands (values.Sum x) (value.Function k) is = absurd is
value_fits m r stands (values.Function f) (value.Sum y) is = absurd is
value_fits m r stands (values.Function f) (value.Function k) is =
    let l = get_within (definitions m.base.spec) k (function_cases is.0) is.1 in
    let long = as_long (DefinitionIs m.base.phrases m.base.spec) (definitions m.base.spec) m.base.definitions stands.grounded.stand in
    omega (arith, l, long)

values_fit : (m : GroundMachine) (r : Indices) → StandsFor m → (xs : List Value) (ys : List GroundValue) → AllZip (ValueIs m.base.spec r) xs ys → Each (ValueFits m) ys
values_fit m r stands [] [] z = tt
values_fit m r stands [] (y ∷ ys) z = absurd z
values_fit m r stands (x ∷ xs) [] z = absurd z
values_fit m r stands (x ∷ xs) (y ∷ ys) z = (value_fits m r stands x y z.0, values_fit m r stands xs ys z.1)

answer_fits : (m : GroundMachine) (r : Indices) → StandsFor m → (x : Answer) (y : GroundAnswer) → AnswerIs m.base.spec r x y → Each (ValueFits m) (values_of y)
answer_fits m r stands answers.Quiet answer.Quiet is = tt
answer_fits m r stands answers.Quiet (answer.Values ys) is = absurd is
answer_fits m r stands (answers.Values xs) answer.Quiet is = absurd is
answer_fits m r stands (answers.Values xs) (answer.Values ys) is = values_fit m r stands xs ys is

-- what a case names is there
pub case_fits : (m : GroundMachine) (k : ℕ) (x : GroundSendCase) (ys : List GroundValue) → StandsFor m → slice_get m.send_cases k ≡ Some x → x.answer ≡ answer.Values ys → Each (ValueFits m) ys
case_fits m k x ys stands at e =
    let r = beside (SendCaseIs m.base.phrases m.base.spec) (send_cases m.base.spec) m.send_cases k x stands.cases_are at in
    answer_fits m (within r.0.send.index) stands r.0.answer (answer.Values ys) (subst (AnswerIs m.base.spec (within r.0.send.index) r.0.answer) e r.2.answer)

written_next : {A : Type 0} (f : A → ℤ) (xs : List A) (ns : List ℤ) (i : ℕ) (x : A) (n : ℤ) → length ns ≡ length xs → i < length xs → x ≡ get_or xs i x → n ≡ f x
    → take i ns ≡ map f (take i xs) → take (suc i) (set ns i n) ≡ map f (take (suc i) xs)
written_next f [] ns i x n long l e v h = absurd (omega (arith, l))
written_next f (y ∷ xs) [] i x n long l e v h = absurd (omega (arith, long))
written_next f (y ∷ xs) (k ∷ ns) zero x n long l e v h = ap (λ (z : ℤ). z ∷ []) (v ∙ ap f e)
written_next f (y ∷ xs) (k ∷ ns) (suc i) x n long l e v h =
    let here = ap (λ (zs : List ℤ). get_or zs 0 k) h in
    let rest = written_next f xs ns i x n (omega (arith, long)) (omega (arith, l)) e v (ap (drop 1) h) in
    λ t. here t ∷ rest t

-- one more number is written
pub written_more : {A : Type 0} (f : A → ℤ) (xs : List A) (ns : List ℤ) (i : ℕ) (x : A) (n : ℤ) → length ns ≡ length xs → i < length xs → x ≡ get_or xs i x → n ≡ f x
    → take i ns ≡ map f (take i xs) → take (i + 1) (set ns i n) ≡ map f (take (i + 1) xs)
written_more f xs ns i x n long l e v h =
    let same : i + 1 ≡ suc i = omega arith in
    ap (λ (k : ℕ). take k (set ns i n)) same ∙ written_next f xs ns i x n long l e v h ∙ ap (λ (k : ℕ). map f (take k xs)) (sym same)

-- Values of cases.

abbrev pub HasLength : GroundSendCase → List ℤ → Type 0
HasLength x ns = length ns ≡ length (values_of x.answer)

set_there : {A : Type 0} (xs : List A) (k : ℕ) (x y : A) → slice_get xs k ≡ Some y → slice_get (set xs k x) k ≡ Some x
set_there [] k x y h = absurd (let no : ⊥ = cc in no)
set_there (z ∷ xs) zero x y h = refl
set_there (z ∷ xs) (suc k) x y h = set_there xs k x y h

set_elsewhere : {A : Type 0} (xs : List A) (k j : ℕ) (x : A) → (j ≡ k → ⊥) → slice_get (set xs k x) j ≡ slice_get xs j
set_elsewhere [] k j x h = refl
set_elsewhere (z ∷ xs) zero zero x h = absurd (h refl)
set_elsewhere (z ∷ xs) zero (suc j) x h = refl
set_elsewhere (z ∷ xs) (suc k) zero x h = refl
set_elsewhere (z ∷ xs) (suc k) (suc j) x h = set_elsewhere xs k j x (λ e. h (ap suc e))

numbers_there : (m : GroundMachine) (k : ℕ) (x : GroundSendCase) (lists : List (List ℤ)) → HaveRoom m lists → slice_get m.send_cases k ≡ Some x → (ns : List ℤ) × (slice_get lists k ≡ Some ns) × (length ns ≡ length (values_of x.answer))
numbers_there m k x lists room at = beside_first HasLength m.send_cases lists room k x at

room_stays : (cs : List GroundSendCase) (lists : List (List ℤ)) (k : ℕ) (ns : List ℤ) → AllZip HasLength cs lists
    → ((x : GroundSendCase) → slice_get cs k ≡ Some x → length ns ≡ length (values_of x.answer)) → AllZip HasLength cs (set lists k ns)
room_stays [] [] k ns z h = tt
room_stays [] (l ∷ lists) k ns z h = absurd z
room_stays (c ∷ cs) [] k ns z h = absurd z
room_stays (c ∷ cs) (l ∷ lists) zero ns z h = (h c refl, z.1)
room_stays (c ∷ cs) (l ∷ lists) (suc k) ns z h = (z.0, room_stays cs lists k ns z.1 h)

-- a case with its numbers written: the room stays, and other cases keep theirs
pub room_kept : (m : GroundMachine) (w : World) (k : ℕ) (lists new : List (List ℤ)) (ns : List ℤ) → HaveRoom m lists → ((x : GroundSendCase) → slice_get m.send_cases k ≡ Some x → ns ≡ case_numbers m w x) → new ≡ set lists k ns → HaveRoom m new
room_kept m w k lists new ns room h e =
    subst (HaveRoom m) (sym e) (room_stays m.send_cases lists k ns room (λ x at. ap length (h x at) ∙ length-map (values_of x.answer) (value_number m w)))

pub case_kept : (m : GroundMachine) (w : World) (k j : ℕ) (lists new : List (List ℤ)) (ns : List ℤ) → HaveRoom m lists → ((x : GroundSendCase) → slice_get m.send_cases k ≡ Some x → ns ≡ case_numbers m w x) → new ≡ set lists k ns
    → AreOfCase m w lists j → AreOfCase m w new j
case_kept m w k j lists new ns room h e are x at = ⊎_elim
    (λ same.
    let here = subst (λ (i : ℕ). slice_get m.send_cases i ≡ Some x) same at in
    let there = numbers_there m k x lists room here in
    subst (λ (ls : List (List ℤ)). slice_get ls j ≡ Some (case_numbers m w x)) (sym e)
    (subst (λ (i : ℕ). slice_get (set lists k ns) i ≡ Some (case_numbers m w x)) (sym same) (set_there lists k ns there.0 there.1 ∙ ap (λ (z : List ℤ). Some z) (h x here))))
    (λ ne. ap (λ (ls : List (List ℤ)). slice_get ls j) e ∙ set_elsewhere lists k j ns ne ∙ are x at)
    (cases_eq j k)

pub case_written : (m : GroundMachine) (w : World) (k : ℕ) (lists new : List (List ℤ)) (ns : List ℤ) → HaveRoom m lists → ((x : GroundSendCase) → slice_get m.send_cases k ≡ Some x → ns ≡ case_numbers m w x) → new ≡ set lists k ns → AreOfCase m w new k
case_written m w k lists new ns room h e x at =
    let there = numbers_there m k x lists room at in
    ap (λ (ls : List (List ℤ)). slice_get ls k) e ∙ set_there lists k ns there.0 there.1 ∙ ap (λ (z : List ℤ). Some z) (h x at)

each_so : (P Q : ℕ → Type 0) (ks : List ℕ) → ((k : ℕ) → P k → Q k) → Each P ks → Each Q ks
each_so P Q [] h e = tt
each_so P Q (k ∷ ks) h e = (h k e.0, each_so P Q ks h e.1)

each_last : (P : ℕ → Type 0) (ks : List ℕ) (k : ℕ) → Each P ks → P k → Each P (ks ++ k ∷ [])
each_last P [] k e p = (p, tt)
each_last P (n ∷ ks) k e p = (e.0, each_last P ks k e.1 p)

-- one more case is written
pub cases_more : (m : GroundMachine) (w : World) (sent : List ℕ) (i k : ℕ) (lists new : List (List ℤ)) (ns : List ℤ) → i < length sent → k ≡ get_or sent i 0 → HaveRoom m lists
    → ((x : GroundSendCase) → slice_get m.send_cases k ≡ Some x → ns ≡ case_numbers m w x) → new ≡ set lists k ns → Each (AreOfCase m w lists) (take i sent) → Each (AreOfCase m w new) (take (i + 1) sent)
cases_more m w sent i k lists new ns l e room h is each =
    subst (Each (AreOfCase m w new)) (sym (take_more sent i 0 l ∙ ap (λ (d : ℕ). take i sent ++ d ∷ []) (sym e)))
    (each_last (AreOfCase m w new) (take i sent) k
    (each_so (AreOfCase m w lists) (AreOfCase m w new) (take i sent) (λ j are. case_kept m w k j lists new ns room h is are) each)
    (case_written m w k lists new ns room h is))

-- Enabled transitions.

-- What is left of a list.

pub no_rest : (ks : List ℕ) (i : ℕ) → length ks ≤ i → drop i ks ≡ []
no_rest [] zero l = refl
no_rest [] (suc i) l = refl
no_rest (k ∷ ks) zero l = absurd (omega (arith, l))
no_rest (k ∷ ks) (suc i) l = no_rest ks i (omega (arith, l))

-- one more of the transitions in their order
pub picked_more : {B : Type 0} (f : B → ℕ → B) (a : B) (ks ps : List ℕ) (i : ℕ) → i < length ps → fold f (f a (get_or ks (get_or ps i 0) 0)) (picked ks (drop (i + 1) ps)) ≡ fold f a (picked ks (drop i ps))
picked_more f a ks ps i l = ap (λ (qs : List ℕ). fold f a (picked ks qs)) (sym (from_number ps i l))

pub picked_below : (P : ℕ → Type 0) (ks ps : List ℕ) (i : ℕ) → Each P ks → Each (λ p. p < length ks) ps → i < length ps → P (get_or ks (get_or ps i 0) 0)
picked_below P ks ps i e h l = each_at P ks (get_or ps i 0) (get_or ks (get_or ps i 0) 0) e (each_at (λ p. p < length ks) ps i (get_or ps i 0) h l refl) refl

pub value_at : {A : Type 0} (P : A → Type 0) (xs : List A) (i : ℕ) (x : A) → Each P xs → i < length xs → x ≡ get_or xs i x → P x
value_at P [] i x e l q = absurd (omega (arith, l))
value_at P (y ∷ xs) zero x e l q = subst P (sym q) e.0
value_at P (y ∷ xs) (suc i) x e l q = value_at P xs i x e.1 (omega (arith, l)) q

-- Nothing is known.

none_noted : (n k : ℕ) (b : Bool) → slice_get (replicate n None) k ≡ Some (Some b) → ⊥
none_noted zero k b h = cc
none_noted (suc n) zero b h = cc
none_noted (suc n) (suc k) b h = none_noted n k b h

pub forgotten : (g : Grounded) (w : World) (old new : List (Option Bool)) → length old ≡ length g.phrases → new ≡ replicate (length old) None → Knows g w new
forgotten g w old new long e = record {
  count = ap length e ∙ length-replicate (length old) None ∙ long;
  right = λ k b h. absurd (none_noted (length old) k b (sym (ap (λ (ns : List (Option Bool)). slice_get ns k) e) ∙ h));
}

pub as_many : (m : GroundMachine) (lists : List (List ℤ)) → HaveRoom m lists → length lists ≡ length m.send_cases
as_many m lists room = sym (as_long HasLength m.send_cases lists room)

-- Room for one more case.

pub room_more : (cs : List GroundSendCase) (i : ℕ) (x : GroundSendCase) (lists new : List (List ℤ)) (ns : List ℤ) → slice_get cs i ≡ Some x → length ns ≡ length (values_of x.answer)
    → AllZip HasLength (take i cs) lists → new ≡ lists ++ ns ∷ [] → AllZip HasLength (take (i + 1) cs) new
room_more cs i x lists new ns at long room e =
    let front = take_more cs i x (get_within cs i x at) ∙ ap (λ (d : GroundSendCase). take i cs ++ d ∷ []) (get_index cs i x x at) in
    subst (λ (ls : List (List ℤ)). AllZip HasLength (take (i + 1) cs) ls) (sym e)
    (subst (λ (xs : List GroundSendCase). AllZip HasLength xs (lists ++ ns ∷ [])) (sym front) (zip_push HasLength (take i cs) lists x ns room long))

-- Lists that are kept.

pub list_at : {A : Type 0} (m : GroundMachine) (f : A → List ℤ) (xs : List A) (k : ℕ) (x : GroundSendCase) (v : A) → k < length xs → HaveRoom m (map f xs) → slice_get m.send_cases k ≡ Some x → v ≡ get_or xs k v → length (f v) ≡ length (values_of x.answer)
list_at m f xs k x v l room at e =
    let there = numbers_there m k x (map f xs) room at in
    let same = ap f e ∙ sym (get_or-map f xs k v (f v) l) ∙ get_or_from_slice_get (map f xs) k there.0 (f v) there.1 in
    ap length same ∙ there.2
