-- A function without some of its levels: one that has none of them, a node over what is left of its children, and the answers that are kept.
use Rattle.std.proofs.Common.{◌≡◌, ◌↔◌, ℕ, zero, suc, ◌<◌, ◌≤◌, Bool, true, false, ◌||◌, List, [], ◌∷◌, if◌then◌else◌, length, get_or, refl, sym, ap, subst, ◌∙◌, arith, ◌⊎◌, inl, inr, true≢false, eqb}
use Rattle.std.proofs.lemmas.Bool.{eqb-true}
use Rattle.bdd_core.specs.declared.computed.Kept.{Kept}
use Rattle.bdd_core.specs.Diagram.{Diagram, IsRef, level_of, meaning, IsReduced}
use Rattle.bdd_core.specs.Calls.{Keeps, with_value, is_in, AgreeOff, TrueOff, IsForgotten}
use Rattle.bdd_core.specs.Steps.{IsChoice, IsChildren, IsNode, GainsOnly, blank, IsGreatest, IsWithout, IsJoined, AreRight}
use Rattle.bdd_core.proofs.MeaningLemmas.{meaning-false, meaning-true}
use Rattle.bdd_core.proofs.CanonicalLemmas.{meaning-agree, unseen, with_value-same, with_value-apart, same_choice}
use Rattle.bdd_core.proofs.StepLemmas.{keeps_trans, level-keeps}

-- a test that is another one is true exactly where that is
iff-at : (x y : Bool) (P : Type 0) → x ≡ y → ((y ≡ true) ↔ P) → ((x ≡ true) ↔ P)
iff-at x y P e i = (λ t. i.0 (sym e ∙ t), λ p. e ∙ i.1 p)

-- functions that are equal everywhere are true off the levels alike
off-same : (F G : (ℕ → Bool) → Bool) (levels : List ℕ) (v : ℕ → Bool) → ((u : ℕ → Bool) → F u ≡ G u) → TrueOff F levels v → TrueOff G levels v
off-same F G levels v same t = record { other = t.other; agree = t.agree; holds = sym (same t.other) ∙ t.holds }

iff-off : (F G : (ℕ → Bool) → Bool) (levels : List ℕ) (v : ℕ → Bool) (x : Bool) → ((u : ℕ → Bool) → F u ≡ G u) → ((x ≡ true) ↔ TrueOff F levels v) → ((x ≡ true) ↔ TrueOff G levels v)
iff-off F G levels v x same i = (λ t. off-same F G levels v same (i.0 t), λ s. i.1 (off-same G F levels v (λ u. sym (same u)) s))

-- a function that does not see the levels
off-itself : (F : (ℕ → Bool) → Bool) (levels : List ℕ) (v : ℕ → Bool) → ((u : ℕ → Bool) → AgreeOff levels u v → F u ≡ F v) → (F v ≡ true) ↔ TrueOff F levels v
off-itself F levels v same = (λ e. record { other = v; agree = λ k out. refl; holds = e }, λ t. sym (same t.other t.agree) ∙ t.holds)

some_value : (p q : Bool) → (if p then true else q) ≡ true → (p ≡ true) ⊎ (q ≡ true)
some_value true q e = inl refl
some_value false q e = inr e

by_one : (p q : Bool) → p ≡ true → (if p then true else q) ≡ true
by_one true q e = refl
by_one false q e = absurd (true≢false (sym e))

by_other : (p q : Bool) → q ≡ true → (if p then true else q) ≡ true
by_other true q e = refl
by_other false q e = e

-- values with one of the levels changed differ in the same levels
agree_in : (levels : List ℕ) (t : ℕ) (u v : ℕ → Bool) (b : Bool) → is_in levels t ≡ true → AgreeOff levels u v → AgreeOff levels (with_value u t b) v
agree_in levels t u v b is agree k out = with_value-apart u t k b (λ e. true≢false (sym is ∙ ap (is_in levels) (sym e) ∙ out)) ∙ agree k out

module _ (F L H : (ℕ → Bool) → Bool) (t : ℕ) (levels : List ℕ) (split : (v : ℕ → Bool) → F v ≡ (if v t then H v else L v)) where
  at_true : (u : ℕ → Bool) → u t ≡ true → F u ≡ H u
  at_true u e = split u ∙ same_choice _ _ _ _ _ _ e refl refl

  at_false : (u : ℕ → Bool) → u t ≡ false → F u ≡ L u
  at_false u e = split u ∙ same_choice _ _ _ _ _ _ e refl refl

  -- a node whose level is forgotten is true where its low child is
  off-low : is_in levels t ≡ true → ((v : ℕ → Bool) (b : Bool) → L (with_value v t b) ≡ L v) → (v : ℕ → Bool) → TrueOff L levels v → TrueOff F levels v
  off-low is blind_low v s = record {
    other = with_value s.other t false;
    agree = agree_in levels t s.other v false is s.agree;
    holds = at_false (with_value s.other t false) (with_value-same s.other t false) ∙ blind_low s.other false ∙ s.holds;
  }

  -- and where one of them is
  off-in : is_in levels t ≡ true → ((v : ℕ → Bool) (b : Bool) → L (with_value v t b) ≡ L v) → ((v : ℕ → Bool) (b : Bool) → H (with_value v t b) ≡ H v)
      → (v : ℕ → Bool) (p q : Bool) → ((p ≡ true) ↔ TrueOff L levels v) → ((q ≡ true) ↔ TrueOff H levels v) → ((if p then true else q) ≡ true) ↔ TrueOff F levels v
  off-in is blind_low blind_high v p q ip iq = (
    λ e. elim (some_value p q e) [
      | inl ep ↦ off-low is blind_low v (ip.0 ep)
      | inr eq ↦ high (iq.0 eq)
    ],
    λ s. back s (s.other t) refl,
  )
    where
      high : TrueOff H levels v → TrueOff F levels v
      high s = record {
        other = with_value s.other t true;
        agree = agree_in levels t s.other v true is s.agree;
        holds = at_true (with_value s.other t true) (with_value-same s.other t true) ∙ blind_high s.other true ∙ s.holds;
      }

      back : (s : TrueOff F levels v) (b : Bool) → s.other t ≡ b → (if p then true else q) ≡ true
      back s true e = by_other p q (iq.1 (record { other = s.other; agree = s.agree; holds = sym (at_true s.other e) ∙ s.holds }))
      back s false e = by_one p q (ip.1 (record { other = s.other; agree = s.agree; holds = sym (at_false s.other e) ∙ s.holds }))

  -- a node whose level stays
  off-out : is_in levels t ≡ false → (v : ℕ → Bool) (p q : Bool) → ((p ≡ true) ↔ TrueOff L levels v) → ((q ≡ true) ↔ TrueOff H levels v)
      → ((if v t then q else p) ≡ true) ↔ TrueOff F levels v
  off-out out v p q ip iq = by (v t) refl
    where
      by : (b : Bool) → v t ≡ b → ((if v t then q else p) ≡ true) ↔ TrueOff F levels v
      by true e = iff-at (if v t then q else p) q (TrueOff F levels v) (same_choice _ _ _ _ _ _ e refl refl) (
        λ eq. let s : TrueOff H levels v = iq.0 eq in record { other = s.other; agree = s.agree; holds = at_true s.other (s.agree t out ∙ e) ∙ s.holds },
        λ s. iq.1 (record { other = s.other; agree = s.agree; holds = sym (at_true s.other (s.agree t out ∙ e)) ∙ s.holds }),
      )
      by false e = iff-at (if v t then q else p) p (TrueOff F levels v) (same_choice _ _ _ _ _ _ e refl refl) (
        λ ep. let s : TrueOff L levels v = ip.0 ep in record { other = s.other; agree = s.agree; holds = at_false s.other (s.agree t out ∙ e) ∙ s.holds },
        λ s. ip.1 (record { other = s.other; agree = s.agree; holds = sym (at_false s.other (s.agree t out ∙ e)) ∙ s.holds }),
      )

-- the greatest of the levels
pub greatest-most : (levels : List ℕ) (last : ℕ) → ((k : ℕ) → k < length levels → get_or levels k 0 ≤ last) → IsGreatest levels last
greatest-most levels last all = record { most = most levels all }
  where
    or_cases : (a b : Bool) → (a || b) ≡ true → (a ≡ true) ⊎ (b ≡ true)
    or_cases true b e = inl refl
    or_cases false b e = inr e

    most : (levels : List ℕ) → ((k : ℕ) → k < length levels → get_or levels k 0 ≤ last) → (level : ℕ) → is_in levels level ≡ true → level ≤ last
    most [] all level e = absurd (true≢false (sym e))
    most (l ∷ ls) all level e = elim (or_cases (eqb l level) (is_in ls level) e) [
      | inl here ↦ omega (arith, eqb-true l level here, all 0 (omega arith))
      | inr there ↦ most ls (λ k less. all (suc k) (omega (arith, less))) level there
    ]

pub without-keeps : (a b : Diagram) → Keeps a b → (f : ℕ) (levels : List ℕ) (r : ℕ) → IsRef a f → IsWithout a f levels r → IsWithout b f levels r
without-keeps a b k f levels r p w = record {
  is_ref = omega (arith, w.is_ref, k.longer);
  means = λ v. iff-at (meaning b r v) (meaning a r v) (TrueOff (meaning b f) levels v) (k.meanings_stay r v w.is_ref)
      (iff-off (meaning a f) (meaning b f) levels v (meaning a r v) (λ u. sym (k.meanings_stay f u p)) (w.means v));
  level_most = omega (arith, w.level_most, level-keeps a b k f p, level-keeps a b k r w.is_ref);
}

-- a place is its own where it is a constant, or its level is after all of these
pub without-constant : (d : Diagram) (f : ℕ) (levels : List ℕ) → IsRef d f → f < 2 → IsWithout d f levels f
without-constant d zero levels p less = record {
  is_ref = p;
  means = λ v. off-itself (meaning d 0) levels v (λ u agree. meaning-false d u ∙ sym (meaning-false d v));
  level_most = omega arith;
}
without-constant d (suc zero) levels p less = record {
  is_ref = p;
  means = λ v. off-itself (meaning d 1) levels v (λ u agree. meaning-true d u ∙ sym (meaning-true d v));
  level_most = omega arith;
}
without-constant d (suc (suc f)) levels p less = absurd (omega arith)

pub without-after : (d : Diagram) → IsReduced d → (f : ℕ) (levels : List ℕ) (last : ℕ) → IsRef d f → IsGreatest levels last → last < level_of d f → IsWithout d f levels f
without-after d is f levels last p g after = record {
  is_ref = p;
  means = λ v. off-itself (meaning d f) levels v (λ u agree. meaning-agree d is (suc f) f u v (omega arith) p (λ x at. agree x (out x at)));
  level_most = omega arith;
}
  where
    by : (x : ℕ) → level_of d f ≤ x → (b : Bool) → is_in levels x ≡ b → is_in levels x ≡ false
    by x at true e = absurd (omega (arith, g.most x e))
    by x at false e = e

    out : (x : ℕ) → level_of d f ≤ x → is_in levels x ≡ false
    out x at = by x at (is_in levels x) refl

-- a node by what is left of its children
pub without-node : (a b c d : Diagram) → IsReduced a → (f top fl fh lo hi r : ℕ) (levels : List ℕ) (forgotten : Bool) → IsRef a f → level_of a f ≡ top → forgotten ≡ is_in levels top → IsChildren a f top fl fh
    → Keeps a b → IsWithout b fl levels lo → Keeps b c → IsWithout c fh levels hi → Keeps c d → IsJoined d top lo hi forgotten r → IsWithout d f levels r
without-node a b c d is f top fl fh lo hi r levels forgotten pf at test ch ab low bc high cd j =
    let ac : Keeps a c = keeps_trans a b c ab bc in
    let ad : Keeps a d = keeps_trans a c d ac cd in
    let bd : Keeps b d = keeps_trans b c d bc cd in
    let wl : IsWithout d fl levels lo = without-keeps b d bd fl levels lo (omega (arith, ch.low_ref, ab.longer)) low in
    let wh : IsWithout d fh levels hi = without-keeps c d cd fh levels hi (omega (arith, ch.high_ref, ac.longer)) high in
    record {
      is_ref = j.is_ref;
      means = λ v.
          iff-off (meaning a f) (meaning d f) levels v (meaning d r v) (λ u. sym (ad.meanings_stay f u pf))
          (by v (meaning d lo v) (meaning d hi v) (meaning d r v)
          (iff-off (meaning d fl) (meaning a fl) levels v (meaning d lo v) (λ u. ad.meanings_stay fl u ch.low_ref) (wl.means v))
          (iff-off (meaning d fh) (meaning a fh) levels v (meaning d hi v) (λ u. ad.meanings_stay fh u ch.high_ref) (wh.means v))
          forgotten test (j.means v));
      level_most = omega (arith, j.level_most, at, level-keeps a d ad f pf);
    }
  where
    by : (v : ℕ → Bool) (p q x : Bool) → ((p ≡ true) ↔ TrueOff (meaning a fl) levels v) → ((q ≡ true) ↔ TrueOff (meaning a fh) levels v)
        → (t : Bool) → t ≡ is_in levels top → x ≡ (if t then (if p then true else q) else (if v top then q else p)) → (x ≡ true) ↔ TrueOff (meaning a f) levels v
    by v p q x ip iq true e is_x = iff-at x (if p then true else q) (TrueOff (meaning a f) levels v) is_x
        (off-in (meaning a f) (meaning a fl) (meaning a fh) top levels ch.means (sym e)
        (λ u b. unseen a is fl top b u ch.low_ref ch.low_level) (λ u b. unseen a is fh top b u ch.high_ref ch.high_level) v p q ip iq)
    by v p q x ip iq false e is_x = iff-at x (if v top then q else p) (TrueOff (meaning a f) levels v) is_x
        (off-out (meaning a f) (meaning a fl) (meaning a fh) top levels ch.means (sym e) v p q ip iq)

-- a node whose level is forgotten and of whose low child nothing but true is left
pub without-true : (a b : Diagram) → IsReduced a → (f top fl fh low : ℕ) (levels : List ℕ) → IsRef a f → 2 ≤ f → level_of a f ≡ top → is_in levels top ≡ true → IsChildren a f top fl fh
    → Keeps a b → IsWithout b fl levels low → low ≡ 1 → IsWithout b f levels 1
without-true a b is f top fl fh low levels pf two at test ch ab left e =
    let w : IsWithout b fl levels 1 = subst (IsWithout b fl levels) e left in
    let one : IsRef a 1 = omega (arith, pf) in
    record {
      is_ref = w.is_ref;
      means = λ v. (
        λ _. off-same (meaning a f) (meaning b f) levels v (λ u. sym (ab.meanings_stay f u pf))
            (off-low (meaning a f) (meaning a fl) (meaning a fh) top levels ch.means test (λ u b. unseen a is fl top b u ch.low_ref ch.low_level) v
            (off-same (meaning b fl) (meaning a fl) levels v (λ u. ab.meanings_stay fl u ch.low_ref) ((w.means v).0 (meaning-true b v)))),
        λ _. meaning-true b v,
      );
      level_most = omega (arith, level-keeps a b ab f pf, level-keeps a b ab 1 one, is.true_level, (is.reduced f two pf).level_fits);
    }

-- the two ways to join what is left of the children
pub joined-choice : (c d : Diagram) → Keeps c d → (level low high r : ℕ) → IsRef c 1 → IsRef c low → IsRef c high → level < level_of c 1 → level < level_of c low → level < level_of c high
    → IsChoice d low 1 high r → IsJoined d level low high true r
joined-choice c d k level low high r p1 pl ph l1 ll lh x = record {
  is_ref = x.is_ref;
  means = λ v. x.means v ∙ ap (λ b. if meaning d low v then b else meaning d high v) (meaning-true d v);
  level_most = omega (arith, x.level, level-keeps c d k 1 p1, level-keeps c d k low pl, level-keeps c d k high ph);
}

pub joined-node : (d : Diagram) (level low high r : ℕ) → IsNode d level low high r → IsJoined d level low high false r
joined-node d level low high r n = record { is_ref = n.is_ref; means = n.means; level_most = n.level_most }

-- the answers that are kept
pub right-none : (d : Diagram) (levels : List ℕ) → AreRight d levels []
right-none d levels = record { refs = λ x c. absurd (omega (arith, c.1)); right = λ x c. absurd (omega (arith, c.1)) }

pub right-keeps : (a b : Diagram) → Keeps a b → (levels : List ℕ) (answers : List Kept) → AreRight a levels answers → AreRight b levels answers
right-keeps a b k levels answers are = record {
  refs = λ x c. omega (arith, are.refs x c, k.longer);
  right = λ x c. without-keeps a b k x.f levels x.answer (are.refs x c) (are.right x c);
}

pub right-gains : (d : Diagram) (levels : List ℕ) (old new : List Kept) (more : Kept) → AreRight d levels old → GainsOnly old new more → IsRef d more.f → IsWithout d more.f levels more.answer
    → AreRight d levels new
right-gains d levels old new more are gains ref right = record {
  refs = λ x c. elim (gains x c) [ inl before ↦ are.refs x before | inr same ↦ subst (λ (x : Kept). IsRef d x.f) (sym same) ref ];
  right = λ x c. elim (gains x c) [ inl before ↦ are.right x before | inr same ↦ subst (λ (x : Kept). IsWithout d x.f levels x.answer) (sym same) right ];
}

-- after room was made
pub right-room : (d : Diagram) (levels : List ℕ) (old mid : List Kept) → 2 ≤ length d.nodes → AreRight d levels old → GainsOnly old mid blank → AreRight d levels mid
right-room d levels old mid two are room = right-gains d levels old mid blank are room (omega arith) (without-constant d 0 levels (omega arith) (omega arith))

-- and an answer was kept
pub right-kept : (d : Diagram) (levels : List ℕ) (old mid new : List Kept) (f answer : ℕ) → 2 ≤ length d.nodes → AreRight d levels old → GainsOnly old mid blank
    → GainsOnly mid new (record { f = f; g = 0; h = 0; answer = answer }) → IsRef d f → IsWithout d f levels answer → AreRight d levels new
right-kept d levels old mid new f answer two are room gains ref right =
    right-gains d levels mid new (record { f = f; g = 0; h = 0; answer = answer }) (right-room d levels old mid two are room) gains ref right

pub represents-forgotten : (old new : Diagram) → Keeps old new → (f : ℕ) (levels : List ℕ) (r : ℕ) → IsRef old f → IsWithout new f levels r → IsForgotten old new f levels r
represents-forgotten old new k f levels r p w = record {
  is_ref = w.is_ref;
  means = λ v. iff-off (meaning new f) (meaning old f) levels v (meaning new r v) (λ u. k.meanings_stay f u p) (w.means v);
}
