-- Nodes that wait for their children: what they ask, that more nodes change nothing, and their answers.
use Rattle.std.proofs.Common.{◌≡◌, ℕ, ◌+◌, ◌*◌, ◌<◌, ◌≤◌, Bool, true, List, [], ◌∷◌, ◌++◌, refl, sym, ap, subst, ◌∙◌, arith, Option, Some, None}
use Rattle.bdd_core.specs.declared.frame.Frame.{Frame}
use Rattle.bdd_core.specs.declared.node.Node.{Node}
use Rattle.bdd_core.specs.Diagram.{Diagram, IsRef, node_at, level_of, IsReduced, IsReducedNode}
use Rattle.bdd_core.specs.Reach.Reaches.{here, by_low, by_high}
use Rattle.bdd_core.specs.Calls.{Keeps, is_in}
use Rattle.bdd_core.specs.Steps.{IsChildren, IsNode, IsCut, IsWithout, IsJoined}
use Rattle.bdd_core.specs.Waiting.{question, Path, fours, weight, work}
use Rattle.bdd_core.specs.Children.{IsNextChild, AsksChild, AreAnswers, HasChild, LeadsTo, IsRest, IsAny, IsCutAt, IsApart}
use Rattle.bdd_core.proofs.MeaningLemmas.{meaning-node, reduced_falls}
use Rattle.bdd_core.proofs.StepLemmas.{keeps_refl, level-keeps}
use Rattle.bdd_core.proofs.CutLemmas.{cut-keeps, cut-node}
use Rattle.bdd_core.proofs.ForgetLemmas.{without-keeps, without-true, without-node}
use Rattle.bdd_core.proofs.WaitingLemmas.{path-push, path-pop, path-map, work-down, work-turn}

-- the children of a node stand for it where its own level is false and true
own-children : (d : Diagram) → IsReduced d → (f : ℕ) → IsRef d f → 2 ≤ f → IsChildren d f (level_of d f) (node_at d f).low (node_at d f).high
own-children d is f p two =
    let r : IsReducedNode d f (node_at d f) = is.reduced f two p in
    record {
      low_ref = omega (arith, r.low_before);
      high_ref = omega (arith, r.high_before);
      low_reached = by_low f _ two (here _);
      high_reached = by_high f _ two (here _);
      low_most = omega (arith, r.low_before);
      high_most = omega (arith, r.high_before);
      low_falls = λ _. r.low_before;
      high_falls = λ _. r.high_before;
      low_level = r.low_level;
      high_level = r.high_level;
      means = λ v. meaning-node d (reduced_falls d is) f v two p;
    }

-- what stays right among more nodes
pub record Stays (Open : Diagram → ℕ → Type 0) (Is : Diagram → ℕ → ℕ → Type 0) : Type 0 where
  pub is_open : (c d : Diagram) → Keeps c d → (f : ℕ) → IsRef c f → Open c f → Open d f
  pub answer : (c d : Diagram) → Keeps c d → (f r : ℕ) → IsRef c f → Is c f r → Is d f r

pub rest-stays : (levels : List ℕ) → Stays IsAny (IsRest levels)
rest-stays levels = record { is_open = λ c d k f p o. tt; answer = λ c d k f r p w. without-keeps c d k f levels r p w }

pub cut-stays : (level : ℕ) (value : Bool) → Stays (IsApart level) (IsCutAt level value)
cut-stays level value = record { is_open = λ c d k f p o e. o (sym (level-keeps c d k f p) ∙ e); answer = λ c d k f r p w. cut-keeps c d k f level value r p w }

-- more waits after going down, and what it asks is asked by the first place
pub record IsAskedChild (Open : Diagram → ℕ → Type 0) (Is : Diagram → ℕ → ℕ → Type 0) (d : Diagram) (begun : ℕ) (old : List Frame) (asked : ℕ) (new : List Frame) : Type 0 where
  pub f_ref : IsRef d asked
  pub path : (first : ℕ × ℕ × ℕ) → Path (AsksChild Open Is d) first old (begun, 0, 0) → Path (AsksChild Open Is d) first new (asked, 0, 0)
  pub most : work new + 2 * fours asked ≤ work old + 2 * fours begun

plain : (n : ℕ) → fours (n + 0 + 0) ≡ fours n
plain n = ap fours (omega arith)

module _ (Open : Diagram → ℕ → Type 0) (Is : Diagram → ℕ → ℕ → Type 0) where
  -- more nodes change nothing
  answer-keeps : Stays Open Is → (c d : Diagram) → Keeps c d → (f g r : ℕ) → f ≡ g → IsRef c g → Is c g r → Is d f r
  answer-keeps stays c d k f g r e p w = subst (λ f. Is d f r) (sym e) (stays.answer c d k g r p w)

  next-keeps : Stays Open Is → (c d : Diagram) → IsReduced c → Keeps c d → (f : ℕ) (low : Option ℕ) (child : ℕ) → IsRef c f → 2 ≤ f → IsNextChild Is c f low child → IsNextChild Is d f low child
  next-keeps stays c d is k f None child p two e = ap (λ (t : Node). t.low) (k.nodes_stay f p) ∙ e
  next-keeps stays c d is k f (Some low) child p two e =
      let n : IsReducedNode c f (node_at c f) = is.reduced f two p in
      (answer-keeps stays c d k (node_at d f).low (node_at c f).low low (ap (λ (t : Node). t.low) (k.nodes_stay f p)) (omega (arith, n.low_before)) e.0, ap (λ (t : Node). t.high) (k.nodes_stay f p) ∙ e.1)

  asks-keeps : Stays Open Is → (c d : Diagram) → IsReduced c → Keeps c d → (x : Frame) (q : ℕ × ℕ × ℕ) → AsksChild Open Is c x q → AsksChild Open Is d x q
  asks-keeps stays c d is k x q a = record {
    f_ref = omega (arith, a.f_ref, k.longer);
    two = a.two;
    is_open = stays.is_open c d k x.f a.f_ref a.is_open;
    next = next-keeps stays c d is k x.f x.low q.0 a.f_ref a.two a.next;
  }

  -- an answer to the last place
  pub child-answered : Stays Open Is → (c d : Diagram) → IsReduced c → Keeps c d → (x : Frame) (r : ℕ) → Is d x.f r
      → (first : ℕ × ℕ × ℕ) (xs : List Frame) → Path (AsksChild Open Is c) first xs (question x) → LeadsTo Open Is d first xs r
  child-answered stays c d is k x r w first xs p = record {
    last = question x;
    path = path-map (AsksChild Open Is c) (AsksChild Open Is d) (asks-keeps stays c d is k) first xs (question x) p;
    right = w;
  }

  -- the answer of what a node asks
  has-child : (d : Diagram) (f : ℕ) (low : Option ℕ) (child r : ℕ) → IsNextChild Is d f low child → Is d child r → AreAnswers Is d f low r
  has-child d f None child r e w = subst (λ k. Is d k r) (sym e) w
  has-child d f (Some low) child r e w = (e.0, subst (λ k. Is d k r) (sym e.1) w)

  -- the node behind what waits has its answer
  pub child-back : (d : Diagram) (first : ℕ × ℕ × ℕ) (all xs : List Frame) (x : Frame) (r : ℕ) → all ≡ xs ++ x ∷ [] → LeadsTo Open Is d first all r
      → Path (AsksChild Open Is d) first xs (question x) × HasChild Open Is d x r
  child-back d first all xs x r is l =
      let back = path-pop (AsksChild Open Is d) first xs x l.last (subst (λ ys. Path (AsksChild Open Is d) first ys l.last) is l.path) in (
        back.0,
        record { f_ref = back.1.f_ref; two = back.1.two; is_open = back.1.is_open; answers = has-child d x.f x.low l.last.0 r back.1.next l.right },
      )

  -- the node waits for its high child, which is asked
  pub child-turn : (d : Diagram) (x : Frame) (low child : ℕ) → x.low ≡ None → HasChild Open Is d x low → child ≡ (node_at d x.f).high
      → (first : ℕ × ℕ × ℕ) (xs new : List Frame) → new ≡ xs ++ (record { f = x.f; g = x.g; h = x.h; low = Some low }) ∷ []
      → Path (AsksChild Open Is d) first xs (question x) → Path (AsksChild Open Is d) first new (child, 0, 0)
  child-turn d x low child none has same first xs new e p =
      let y : Frame = record { f = x.f; g = x.g; h = x.h; low = Some low } in
      let left : Is d (node_at d x.f).low low = subst (λ l. AreAnswers Is d x.f l low) none has.answers in
      let asks : AsksChild Open Is d y (child, 0, 0) = record { f_ref = has.f_ref; two = has.two; is_open = has.is_open; next = (left, sym same) } in
      subst (λ ys. Path (AsksChild Open Is d) first ys (child, 0, 0)) (sym e) (path-push (AsksChild Open Is d) first xs y (child, 0, 0) p asks)

  pub child-less : (d : Diagram) → IsReduced d → (xs new : List Frame) (x : Frame) (low child w : ℕ) → x.low ≡ None → HasChild Open Is d x low → child ≡ (node_at d x.f).high
      → new ≡ xs ++ (record { f = x.f; g = x.g; h = x.h; low = Some low }) ∷ [] → w ≤ work new + 2 * fours child → w < work xs + weight x
  child-less d is xs new x low child w none has same e most =
      let y : Frame = record { f = x.f; g = x.g; h = x.h; low = Some low } in
      let n : IsReducedNode d x.f (node_at d x.f) = is.reduced x.f has.two has.f_ref in
      let before : child < x.f = omega (arith, same, n.high_before) in
      let more : work new ≡ work (xs ++ y ∷ []) = ap work e in
      work-turn xs x low w child 0 0 none (omega (arith, before)) (omega (arith, most, more, plain child))

  both : (d : Diagram) (x : Frame) (low high : ℕ) → x.low ≡ Some low → HasChild Open Is d x high → Is d (node_at d x.f).low low × Is d (node_at d x.f).high high
  both d x low high some has = subst (λ l. AreAnswers Is d x.f l high) some has.answers

  pub child-next : (d : Diagram) → IsReduced d → (begun : ℕ) (old : List Frame) (f : ℕ) (mid new : List Frame) (child : ℕ) → IsAskedChild Open Is d begun old f mid → 2 ≤ f → Open d f
      → new ≡ mid ++ (record { f = f; g = 0; h = 0; low = None }) ∷ [] → child ≡ (node_at d f).low → IsAskedChild Open Is d begun old child new
  child-next d is begun old f mid new child a two o e same =
      let x : Frame = record { f = f; g = 0; h = 0; low = None } in
      let n : IsReducedNode d f (node_at d f) = is.reduced f two a.f_ref in
      let before : child < f = omega (arith, same, n.low_before) in
      let asks : AsksChild Open Is d x (child, 0, 0) = record { f_ref = a.f_ref; two = two; is_open = o; next = sym same } in
      let more : work new ≡ work (mid ++ x ∷ []) = ap work e in
      let down : work (mid ++ x ∷ []) + 2 * fours (child + 0 + 0) ≤ work mid + 2 * fours (f + 0 + 0) = work-down mid f 0 0 child 0 0 (omega (arith, before)) in
      record {
        f_ref = omega (arith, before, a.f_ref);
        path = λ first p. subst (λ xs. Path (AsksChild Open Is d) first xs (child, 0, 0)) (sym e) (path-push (AsksChild Open Is d) first mid x (child, 0, 0) (a.path first p) asks);
        most = omega (arith, a.most, more, down, plain child, plain f);
      }

-- nothing but true is left of the low child
pub rest-true : (d : Diagram) → IsReduced d → (levels : List ℕ) (x : Frame) (low top : ℕ) → x.low ≡ None → HasChild IsAny (IsRest levels) d x low → top ≡ level_of d x.f → is_in levels top ≡ true → low ≡ 1
    → IsWithout d x.f levels 1
rest-true d is levels x low top none has at test one =
    let left : IsWithout d (node_at d x.f).low levels low = subst (λ l. AreAnswers (IsRest levels) d x.f l low) none has.answers in
    without-true d d is x.f (level_of d x.f) (node_at d x.f).low (node_at d x.f).high low levels has.f_ref has.two refl (ap (is_in levels) (sym at) ∙ test) (own-children d is x.f has.f_ref has.two)
    (keeps_refl d) left one

-- what is left of a node by what is left of its children
pub rest-joined : (c d : Diagram) → IsReduced c → Keeps c d → (levels : List ℕ) (x : Frame) (low high top r : ℕ) (forgotten : Bool) → x.low ≡ Some low → HasChild IsAny (IsRest levels) c x high → top ≡ level_of c x.f
    → forgotten ≡ is_in levels top → IsJoined d top low high forgotten r → IsWithout d x.f levels r
rest-joined c d is k levels x low high top r forgotten some has at test j =
    let rests = both IsAny (IsRest levels) c x low high some has in
    let kids : IsChildren c x.f top (node_at c x.f).low (node_at c x.f).high =
    subst (λ l. IsChildren c x.f l (node_at c x.f).low (node_at c x.f).high) (sym at) (own-children c is x.f has.f_ref has.two) in
    without-node c c c d is x.f top (node_at c x.f).low (node_at c x.f).high low high r levels forgotten has.f_ref (sym at) test kids
    (keeps_refl c) rests.0 (keeps_refl c) rests.1 k j

-- a node is cut by the cuts of its children
pub cut-joined : (c d : Diagram) → IsReduced c → Keeps c d → (level : ℕ) (value : Bool) (x : Frame) (low high top r : ℕ) → x.low ≡ Some low → HasChild (IsApart level) (IsCutAt level value) c x high → top ≡ level_of c x.f
    → IsNode d top low high r → IsCut d x.f level value r
cut-joined c d is k level value x low high top r some has at node =
    let cuts = both (IsApart level) (IsCutAt level value) c x low high some has in
    let kids : IsChildren c x.f top (node_at c x.f).low (node_at c x.f).high =
    subst (λ l. IsChildren c x.f l (node_at c x.f).low (node_at c x.f).high) (sym at) (own-children c is x.f has.f_ref has.two) in
    cut-node c c c d x.f top level (node_at c x.f).low (node_at c x.f).high low high r value has.f_ref (sym at) (λ e. has.is_open (sym at ∙ e)) kids
    (keeps_refl c) cuts.0 (keeps_refl c) cuts.1 k node
