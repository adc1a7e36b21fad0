-- Choices that wait: what they ask, that more nodes change nothing, and that what is asked gets less.
use Rattle.std.proofs.Common.{◌≡◌, ℕ, zero, suc, ◌+◌, ◌*◌, ◌<◌, ◌≤◌, Bool, true, false, List, [], ◌∷◌, ◌++◌, if◌then◌else◌, length, refl, sym, ap, subst, ◌∙◌, arith, Option, Some, None}
use Rattle.std.specs.List.{sum_by}
use Rattle.std.proofs.lemmas.List.Sums.{sum_by-append}
use Rattle.bdd_core.specs.declared.frame.Frame.{Frame}
use Rattle.bdd_core.specs.Diagram.{Diagram, IsRef, meaning, IsReduced}
use Rattle.bdd_core.specs.Reach.{Reaches}
use Rattle.bdd_core.specs.Reach.Reaches.{here}
use Rattle.bdd_core.specs.Calls.{Keeps, AddsConjunctions}
use Rattle.bdd_core.specs.Steps.{chosen, least_level, IsChoice, IsChildren, IsNode}
use Rattle.bdd_core.specs.Waiting.{question, Path, IsPart, IsHalf, IsOpen, IsNext, AsksChoice, AreHalves, HasAnswer, Leads, fours, weight_by, weight, work}
use Rattle.bdd_core.proofs.CanonicalLemmas.{same_choice}
use Rattle.bdd_core.proofs.StepLemmas.{level-keeps}
use Rattle.bdd_core.proofs.ChoiceLemmas.{chosen-keeps}
use Rattle.bdd_core.proofs.ReachLemmas.{reach_trans, reach_on}
use Rattle.bdd_core.proofs.GrowthLemmas.{adds-choice}

-- a path goes on by one frame, and goes back by one
module _ (Asks : Frame → ℕ × ℕ × ℕ → Type 0) where
  pub path-push : (first : ℕ × ℕ × ℕ) (xs : List Frame) (x : Frame) (last : ℕ × ℕ × ℕ) → Path Asks first xs (question x) → Asks x last → Path Asks first (xs ++ x ∷ []) last
  path-push first [] x last p a = (sym p, (last, a, refl))
  path-push first (y ∷ ys) x last p a = (p.0, (p.1.0, p.1.1, path-push p.1.0 ys x last p.1.2 a))

  pub path-pop : (first : ℕ × ℕ × ℕ) (xs : List Frame) (x : Frame) (last : ℕ × ℕ × ℕ) → Path Asks first (xs ++ x ∷ []) last → Path Asks first xs (question x) × Asks x last
  path-pop first [] x last p = (sym p.0, subst (Asks x) p.1.2 p.1.1)
  path-pop first (y ∷ ys) x last p = let rest = path-pop p.1.0 ys x last p.1.2 in ((p.0, (p.1.0, p.1.1, rest.0)), rest.1)

pub path-map : (One Other : Frame → ℕ × ℕ × ℕ → Type 0) → ((x : Frame) (q : ℕ × ℕ × ℕ) → One x q → Other x q)
    → (first : ℕ × ℕ × ℕ) (xs : List Frame) (last : ℕ × ℕ × ℕ) → Path One first xs last → Path Other first xs last
path-map One Other map first [] last p = p
path-map One Other map first (y ∷ ys) last p = (p.0, (p.1.0, map y p.1.0 p.1.1, path-map One Other map p.1.0 ys last p.1.2))

-- the parts of a choice
by_value : (b : Bool) (t : Bool) (x y : Bool) → t ≡ b → (if t then x else y) ≡ (if b then x else y)
by_value b t x y e = ap (λ t. if t then x else y) e

module _ (d : Diagram) (f g h level fl fh gl gh hl hh : ℕ) (least : level ≡ least_level d f g h)
    (cf : IsChildren d f level fl fh) (cg : IsChildren d g level gl gh) (ch : IsChildren d h level hl hh) where
  pub part-low : IsPart d f g h false (fl, gl, hl)
  part-low = record {
    f_ref = cf.low_ref;
    g_ref = cg.low_ref;
    h_ref = ch.low_ref;
    f_reached = cf.low_reached;
    g_reached = cg.low_reached;
    h_most = ch.low_most;
    level = omega (arith, least, cf.low_level, cg.low_level, ch.low_level);
    means = λ v e. sym (same_choice _ _ _ _ _ _
        (cf.means v ∙ by_value false (v level) (meaning d fh v) (meaning d fl v) (ap v least ∙ e))
        (cg.means v ∙ by_value false (v level) (meaning d gh v) (meaning d gl v) (ap v least ∙ e))
        (ch.means v ∙ by_value false (v level) (meaning d hh v) (meaning d hl v) (ap v least ∙ e)));
  }

  pub part-high : IsPart d f g h true (fh, gh, hh)
  part-high = record {
    f_ref = cf.high_ref;
    g_ref = cg.high_ref;
    h_ref = ch.high_ref;
    f_reached = cf.high_reached;
    g_reached = cg.high_reached;
    h_most = ch.high_most;
    level = omega (arith, least, cf.high_level, cg.high_level, ch.high_level);
    means = λ v e. sym (same_choice _ _ _ _ _ _
        (cf.means v ∙ by_value true (v level) (meaning d fh v) (meaning d fl v) (ap v least ∙ e))
        (cg.means v ∙ by_value true (v level) (meaning d gh v) (meaning d gl v) (ap v least ∙ e))
        (ch.means v ∙ by_value true (v level) (meaning d hh v) (meaning d hl v) (ap v least ∙ e)));
  }

-- the answer of a part
pub half-answer : (d : Diagram) (f g h : ℕ) (value : Bool) (q : ℕ × ℕ × ℕ) (r : ℕ) → IsPart d f g h value q → IsChoice d q.0 q.1 q.2 r → IsHalf d f g h value r
half-answer d f g h value q r p c = record { is_ref = c.is_ref; level = omega (arith, p.level, c.level); means = λ v e. c.means v ∙ p.means v e }

has-answer : (d : Diagram) (x : Frame) (low : Option ℕ) (q : ℕ × ℕ × ℕ) (r : ℕ) → IsNext d x low q → IsChoice d q.0 q.1 q.2 r → AreHalves d x low r
has-answer d x None q r p c = half-answer d x.f x.g x.h false q r p c
has-answer d x (Some low) q r p c = (p.0, half-answer d x.f x.g x.h true q r p.1 c)

-- the choice over the last question has its answer
pub path-answer : (d : Diagram) (x : Frame) (q : ℕ × ℕ × ℕ) (r : ℕ) → AsksChoice d x q → IsChoice d q.0 q.1 q.2 r → HasAnswer d x r
path-answer d x q r a c = record { is_open = a.is_open; halves = has-answer d x x.low q r a.next c }

-- a node over the answers of the parts is the choice
pub choice-join : (c d : Diagram) (f g h level lo hi r : ℕ) → IsRef c f → IsRef c g → IsRef c h → level ≡ least_level c f g h → Keeps c d
    → IsHalf c f g h false lo → IsHalf c f g h true hi → IsNode d level lo hi r → IsChoice d f g h r
choice-join c d f g h level lo hi r pf pg ph least k low high node = record {
  is_ref = node.is_ref;
  means = λ v. node.means v ∙ by v (v level) refl ∙ sym (chosen-keeps c d k f g h v pf pg ph);
  level = omega (arith, node.level_most, least, level-keeps c d k f pf, level-keeps c d k g pg, level-keeps c d k h ph);
}
  where
    by : (v : ℕ → Bool) (b : Bool) → v level ≡ b → (if b then meaning d hi v else meaning d lo v) ≡ chosen c f g h v
    by v true e = k.meanings_stay hi v high.is_ref ∙ high.means v (sym (ap v least) ∙ e)
    by v false e = k.meanings_stay lo v low.is_ref ∙ low.means v (sym (ap v least) ∙ e)

-- more nodes change nothing
module _ (c d : Diagram) (is : IsReduced c) (k : Keeps c d) where
  open-keeps : (x : Frame) → IsOpen c x → IsOpen d x
  open-keeps x o = record { f_ref = omega (arith, o.f_ref, k.longer); g_ref = omega (arith, o.g_ref, k.longer); h_ref = omega (arith, o.h_ref, k.longer); two = o.two }

  least-keeps : (f g h : ℕ) → IsRef c f → IsRef c g → IsRef c h → least_level d f g h ≡ least_level c f g h
  least-keeps f g h pf pg ph = omega (arith, level-keeps c d k f pf, level-keeps c d k g pg, level-keeps c d k h ph)

  half-keeps : (x : Frame) (value : Bool) (r : ℕ) → IsOpen c x → IsHalf c x.f x.g x.h value r → IsHalf d x.f x.g x.h value r
  half-keeps x value r o half = record {
    is_ref = omega (arith, half.is_ref, k.longer);
    level = omega (arith, half.level, least-keeps x.f x.g x.h o.f_ref o.g_ref o.h_ref, level-keeps c d k r half.is_ref);
    means = λ v e. k.meanings_stay r v half.is_ref ∙ half.means v (sym (ap v (least-keeps x.f x.g x.h o.f_ref o.g_ref o.h_ref)) ∙ e)
        ∙ sym (chosen-keeps c d k x.f x.g x.h v o.f_ref o.g_ref o.h_ref);
  }

  part-keeps : (x : Frame) (value : Bool) (q : ℕ × ℕ × ℕ) → IsOpen c x → IsPart c x.f x.g x.h value q → IsPart d x.f x.g x.h value q
  part-keeps x value q o p = record {
    f_ref = omega (arith, p.f_ref, k.longer);
    g_ref = omega (arith, p.g_ref, k.longer);
    h_ref = omega (arith, p.h_ref, k.longer);
    f_reached = reach_on c d k is x.f q.0 o.f_ref p.f_reached;
    g_reached = reach_on c d k is x.g q.1 o.g_ref p.g_reached;
    h_most = p.h_most;
    level = omega (arith, p.level, least-keeps x.f x.g x.h o.f_ref o.g_ref o.h_ref, least-keeps q.0 q.1 q.2 p.f_ref p.g_ref p.h_ref);
    means = λ v e. chosen-keeps c d k q.0 q.1 q.2 v p.f_ref p.g_ref p.h_ref ∙ p.means v (sym (ap v (least-keeps x.f x.g x.h o.f_ref o.g_ref o.h_ref)) ∙ e)
        ∙ sym (chosen-keeps c d k x.f x.g x.h v o.f_ref o.g_ref o.h_ref);
  }

  next-keeps : (x : Frame) (low : Option ℕ) (q : ℕ × ℕ × ℕ) → IsOpen c x → IsNext c x low q → IsNext d x low q
  next-keeps x None q o p = part-keeps x false q o p
  next-keeps x (Some low) q o p = (half-keeps x false low o p.0, part-keeps x true q o p.1)

  asks-keeps : (x : Frame) (q : ℕ × ℕ × ℕ) → AsksChoice c x q → AsksChoice d x q
  asks-keeps x q a = record { is_open = open-keeps x a.is_open; next = next-keeps x x.low q a.is_open a.next }

  pub path-keeps : (first : ℕ × ℕ × ℕ) (xs : List Frame) (last : ℕ × ℕ × ℕ) → Path (AsksChoice c) first xs last → Path (AsksChoice d) first xs last
  path-keeps first xs last p = path-map (AsksChoice c) (AsksChoice d) asks-keeps first xs last p

-- the operands of the last question are reached from those of the first
pub record IsUnder (d : Diagram) (first last : ℕ × ℕ × ℕ) : Type 0 where
  pub f_reached : Reaches d first.0 last.0
  pub g_reached : Reaches d first.1 last.1
  pub h_most : last.2 ≤ first.2

next-under : (d : Diagram) (x : Frame) (low : Option ℕ) (q : ℕ × ℕ × ℕ) → IsNext d x low q → IsUnder d (question x) q
next-under d x None q p = record { f_reached = p.f_reached; g_reached = p.g_reached; h_most = p.h_most }
next-under d x (Some low) q p = record { f_reached = p.1.f_reached; g_reached = p.1.g_reached; h_most = p.1.h_most }

pub path-under : (d : Diagram) (first : ℕ × ℕ × ℕ) (xs : List Frame) (last : ℕ × ℕ × ℕ) → Path (AsksChoice d) first xs last → IsUnder d first last
path-under d first [] last p = subst (IsUnder d first) p (record { f_reached = here first.0; g_reached = here first.1; h_most = omega arith })
path-under d first (y ∷ ys) last p =
    subst (λ q. IsUnder d q last) p.0 (
    let step : IsUnder d (question y) p.1.0 = next-under d y y.low p.1.0 p.1.1.next in
    let rest : IsUnder d p.1.0 last = path-under d p.1.0 ys last p.1.2 in
    record {
      f_reached = reach_trans d y.f p.1.0.0 last.0 step.f_reached rest.f_reached;
      g_reached = reach_trans d y.g p.1.0.1 last.1 step.g_reached rest.g_reached;
      h_most = omega (arith, step.h_most, rest.h_most);
    }
    )

-- what one frame adds is a conjunction of what the first question has
pub path-adds : (a c d : Diagram) (f g h : ℕ) (xs : List Frame) (x : Frame) → IsReduced a → IsRef a f → IsRef a g → Keeps a c → Keeps c d → h ≡ 0
    → Path (AsksChoice c) (f, g, h) xs (question x) → ((k : ℕ) → length c.nodes ≤ k → IsRef d k → IsChoice d x.f x.g x.h k) → AddsConjunctions a c f g → AddsConjunctions a d f g
path-adds a c d f g h xs x is pf pg ac cd none p added before =
    let under : IsUnder c (f, g, h) (question x) = path-under c (f, g, h) xs (question x) p in
    adds-choice a c d f g x.f x.g x.h is pf pg ac cd (omega (arith, none, under.h_most)) under.f_reached under.g_reached added before

-- what is asked gets less
fours-zero : fours 0 ≡ 1
unfolding fours
fours-zero = refl

fours-suc : (n : ℕ) → fours (suc n) ≡ 4 * fours n
unfolding fours
fours-suc n = refl

fours-some : (n : ℕ) → 1 ≤ fours n
fours-some zero = omega (arith, fours-zero)
fours-some (suc n) = omega (arith, fours-suc n, fours-some n)

fours-rises : (m n : ℕ) → m ≤ n → fours m ≤ fours n
fours-rises zero n le = omega (arith, fours-zero, fours-some n)
fours-rises (suc m) zero le = absurd (omega arith)
fours-rises (suc m) (suc n) le = omega (arith, fours-suc m, fours-suc n, fours-rises m n (omega arith))

fours-falls : (m n : ℕ) → m < n → 4 * fours m ≤ fours n
fours-falls m zero less = absurd (omega arith)
fours-falls m (suc n) less = omega (arith, fours-suc n, fours-rises m n (omega arith))

pub work-push : (xs : List Frame) (x : Frame) → work (xs ++ x ∷ []) ≡ work xs + weight x
unfolding work
work-push xs x = sum_by-append weight xs (x ∷ []) ∙ ap (λ n. sum_by weight xs + n) (zero-add (weight x))
  where
    zero-add : (n : ℕ) → 0 + n ≡ n
    zero-add n = omega arith

-- a frame waits for its low child, which is asked next
pub work-down : (xs : List Frame) (f g h f2 g2 h2 : ℕ) → f2 + g2 + h2 < f + g + h
    → work (xs ++ (record { f = f; g = g; h = h; low = None }) ∷ []) + 2 * fours (f2 + g2 + h2) ≤ work xs + 2 * fours (f + g + h)
work-down xs f g h f2 g2 h2 less =
    let more : work (xs ++ (record { f = f; g = g; h = h; low = None }) ∷ []) ≡ work xs + fours (f + g + h) = work-push xs (record { f = f; g = g; h = h; low = None }) in
    omega (arith, more, fours-falls (f2 + g2 + h2) (f + g + h) less)

-- it waits for its high child, which is asked next
pub work-turn : (xs : List Frame) (x : Frame) (low w f2 g2 h2 : ℕ) → x.low ≡ None → f2 + g2 + h2 < x.f + x.g + x.h
    → w ≤ work (xs ++ (record { f = x.f; g = x.g; h = x.h; low = Some low }) ∷ []) + 2 * fours (f2 + g2 + h2) → w < work xs + weight x
work-turn xs x low w f2 g2 h2 none less most =
    let is : weight x ≡ fours (x.f + x.g + x.h) = ap (weight_by (x.f + x.g + x.h)) none in
    let more : work (xs ++ (record { f = x.f; g = x.g; h = x.h; low = Some low }) ∷ []) ≡ work xs + 1 = work-push xs (record { f = x.f; g = x.g; h = x.h; low = Some low }) in
    omega (arith, most, is, more, fours-falls (f2 + g2 + h2) (x.f + x.g + x.h) less, fours-some (f2 + g2 + h2))

-- each frame is some work
weight-some : (n : ℕ) (low : Option ℕ) → 1 ≤ weight_by n low
weight-some n None = fours-some n
weight-some n (Some low) = omega arith

pub work-done : (xs : List Frame) (x : Frame) → work xs < work xs + weight x
work-done xs x = omega (arith, weight-some (x.f + x.g + x.h) x.low)

-- the last frame of all that waits goes
pub work-pop : (all xs : List Frame) (x : Frame) (w : ℕ) → all ≡ xs ++ x ∷ [] → w < work xs + weight x → w < work all
work-pop all xs x w is less =
    let same : work all ≡ work (xs ++ x ∷ []) = ap work is in
    let more : work (xs ++ x ∷ []) ≡ work xs + weight x = work-push xs x in
    omega (arith, less, same, more)

-- more waits after going down, and what it asks is asked by the first question
pub record IsAsked (d : Diagram) (begun : ℕ × ℕ × ℕ) (old : List Frame) (asked : ℕ × ℕ × ℕ) (new : List Frame) : Type 0 where
  pub f_ref : IsRef d asked.0
  pub g_ref : IsRef d asked.1
  pub h_ref : IsRef d asked.2
  pub path : (first : ℕ × ℕ × ℕ) → Path (AsksChoice d) first old begun → Path (AsksChoice d) first new asked
  pub most : work new + 2 * fours (asked.0 + asked.1 + asked.2) ≤ work old + 2 * fours (begun.0 + begun.1 + begun.2)

pub asked-first : (d : Diagram) (begun : ℕ × ℕ × ℕ) (old : List Frame) → IsRef d begun.0 → IsRef d begun.1 → IsRef d begun.2 → IsAsked d begun old begun old
asked-first d begun old pf pg ph = record { f_ref = pf; g_ref = pg; h_ref = ph; path = λ first p. p; most = omega arith }

pub asked-next : (d : Diagram) (begun : ℕ × ℕ × ℕ) (old : List Frame) (f g h : ℕ) (mid new : List Frame) (q : ℕ × ℕ × ℕ) → IsAsked d begun old (f, g, h) mid → 2 ≤ f
    → new ≡ mid ++ (record { f = f; g = g; h = h; low = None }) ∷ [] → IsPart d f g h false q → q.0 + q.1 + q.2 < f + g + h → IsAsked d begun old q new
asked-next d begun old f g h mid new q a two is part less =
    let x : Frame = record { f = f; g = g; h = h; low = None } in
    let before : work mid + 2 * fours (f + g + h) ≤ work old + 2 * fours (begun.0 + begun.1 + begun.2) = a.most in
    let more : work new ≡ work (mid ++ x ∷ []) = ap work is in
    let down : work (mid ++ x ∷ []) + 2 * fours (q.0 + q.1 + q.2) ≤ work mid + 2 * fours (f + g + h) = work-down mid f g h q.0 q.1 q.2 less in
    let asks : AsksChoice d x q = record { is_open = record { f_ref = a.f_ref; g_ref = a.g_ref; h_ref = a.h_ref; two = two }; next = part } in
    record {
      f_ref = part.f_ref;
      g_ref = part.g_ref;
      h_ref = part.h_ref;
      path = λ first p. subst (λ xs. Path (AsksChoice d) first xs q) (sym is) (path-push (AsksChoice d) first mid x q (a.path first p) asks);
      most = omega (arith, before, more, down);
    }

-- an answer to what is asked
pub asked-answer : (d : Diagram) (begun : ℕ × ℕ × ℕ) (old : List Frame) (f g h : ℕ) (new : List Frame) (r : ℕ) → IsAsked d begun old (f, g, h) new → IsChoice d f g h r
    → (first : ℕ × ℕ × ℕ) → Path (AsksChoice d) first old begun → Leads d first new r
asked-answer d begun old f g h new r a c first p = record { last = (f, g, h); path = a.path first p; right = c }

-- the frame behind what waits has its answer
pub leads-back : (d : Diagram) (first : ℕ × ℕ × ℕ) (all xs : List Frame) (x : Frame) (r : ℕ) → all ≡ xs ++ x ∷ [] → Leads d first all r
    → Path (AsksChoice d) first xs (question x) × HasAnswer d x r
leads-back d first all xs x r is l =
    let back = path-pop (AsksChoice d) first xs x l.last (subst (λ ys. Path (AsksChoice d) first ys l.last) is l.path) in
    (back.0, path-answer d x l.last r back.1 l.right)

-- it is answered
pub leads-joined : (c d : Diagram) → IsReduced c → Keeps c d → (x : Frame) (r : ℕ) → IsChoice d x.f x.g x.h r
    → (first : ℕ × ℕ × ℕ) (xs : List Frame) → Path (AsksChoice c) first xs (question x) → Leads d first xs r
leads-joined c d is k x r choice first xs p = record { last = question x; path = path-keeps c d is k first xs (question x) p; right = choice }

-- nothing waits
pub leads-end : (d : Diagram) (f g h r : ℕ) (waiting : List Frame) → waiting ≡ [] → Leads d (f, g, h) waiting r → IsChoice d f g h r
leads-end d f g h r waiting none l =
    let same : (f, g, h) ≡ l.last = subst (λ xs. Path (AsksChoice d) (f, g, h) xs l.last) none l.path in
    subst (λ (q : ℕ × ℕ × ℕ). IsChoice d q.0 q.1 q.2 r) (sym same) l.right

-- the frame waits for its high child, which is asked
pub turn-path : (d : Diagram) (x : Frame) (low : ℕ) (q : ℕ × ℕ × ℕ) → x.low ≡ None → HasAnswer d x low → IsPart d x.f x.g x.h true q
    → (first : ℕ × ℕ × ℕ) (xs new : List Frame) → new ≡ xs ++ (record { f = x.f; g = x.g; h = x.h; low = Some low }) ∷ []
    → Path (AsksChoice d) first xs (question x) → Path (AsksChoice d) first new q
turn-path d x low q none has part first xs new is p =
    let y : Frame = record { f = x.f; g = x.g; h = x.h; low = Some low } in
    let half : IsHalf d x.f x.g x.h false low = subst (λ l. AreHalves d x l low) none has.halves in
    let asks : AsksChoice d y q = record { is_open = record { f_ref = has.is_open.f_ref; g_ref = has.is_open.g_ref; h_ref = has.is_open.h_ref; two = has.is_open.two }; next = (half, part) } in
    subst (λ ys. Path (AsksChoice d) first ys q) (sym is) (path-push (AsksChoice d) first xs y q p asks)
