-- The steps of a sweep, and one after another.
use Rattle.std.proofs.Common.{◌≡◌, ◌↔◌, ℕ, ◌<◌, ◌==◌, Bool, true, false, ◌||◌, List, [], ◌∷◌, length, get_or, set, refl, sym, ap, subst, ◌∙◌, inl, inr, true≢false, arith, Option, Result, Ok, Err, IfOk}
use Rattle.std.proofs.lemmas.Bool.{cases_eq}
use Rattle.std.proofs.lemmas.Bool.Decides.{nat_tests}
use Rattle.std.proofs.lemmas.Grind.{get_or-set_at}
use Rattle.std.proofs.lemmas.List.{get_or-set_other, length-set}
use Rattle.bdd_core.specs.Diagram.{Diagram, IsRef, meaning}
use Rattle.bdd_core.specs.Calls.{Keeps, Represents}
use Rattle.bdd_core.specs.Calls as forgot
use Rattle.free_levels.specs.Values.{is_in, AgreeOn, IgnoresAll}
use Rattle.free_levels.specs.Keys.{Keys, AreKeys, IsExact}
use Rattle.free_levels.specs.Stages.{is_left, FewerLeft, IsStage}
use Rattle.free_levels.proofs.ValueLemmas.{ignores-all}
use Rattle.free_levels.proofs.StageLemmas.{stage-refl, stage-trans, stage-skip}
use Rattle.free_levels.proofs.TurnLemmas.{widen-none, fewer-trans}
use Rattle.keyed_levels.specs.Keyed.{KeyedWorlds, AreKeyed, key_at, keys_of}
use Rattle.settled_worlds.specs.Settled.{AreExact, cell_levels}
use Rattle.settled_worlds.specs.Steps.{all_but, is_kept, no_levels, AreReady, AreStruck, IsSwept, IsUnread}
use Rattle.settled_worlds.proofs.PartLemmas.{apart, gone}

pub fewer_refl : (left : List Bool) → FewerLeft left left
fewer_refl left = record { same_length = refl; stays = λ i e. e }

-- nothing done
pub swept_none : (k : KeyedWorlds) (levels : ℕ → Bool) (d : Diagram) (left : List Bool) (f : ℕ) → IsRef d f → IsSwept k levels d d left left f f
swept_none k levels d left f ref = record { is_ref = ref; fewer = fewer_refl left; stage = stage-refl (keys_of k) levels left (meaning d f) }

-- where nothing was forgotten, at most these levels were
pub swept_wider : (k : KeyedWorlds) (levels : ℕ → Bool) (a d : Diagram) (x y : List Bool) (f r : ℕ) → IsSwept k no_levels a d x y f r → IsSwept k levels a d x y f r
swept_wider k levels a d x y f r p = record { is_ref = p.is_ref; fewer = p.fewer; stage = widen-none (keys_of k) levels x y (meaning a f) (meaning d r) p.stage }

-- one step after another
pub swept_trans : (k : KeyedWorlds) (levels : ℕ → Bool) (a b d : Diagram) (x y z : List Bool) (f g h : ℕ) → IsSwept k levels a b x y f g → IsSwept k levels b d y z g h
    → IsSwept k levels a d x z f h
swept_trans k levels a b d x y z f g h p q = record {
  is_ref = q.is_ref;
  fewer = fewer-trans x y z p.fewer q.fewer;
  stage = stage-trans (keys_of k) levels x y z (meaning a f) (meaning b g) (meaning d h) p.stage q.stage;
}

-- what the next step finds
pub ready_on : (a b : Diagram) (k : KeyedWorlds) (e e2 : List (Option ℕ)) (x y : List Bool) → AreReady a k e x → Keeps a b → AreExact b k e2 → FewerLeft x y → AreReady b k e2 y
ready_on a b k e e2 x y ready keeps exact fewer = record {
  keys = ready.keys;
  room = keeps.same_levels ∙ ready.room;
  are_exact = exact;
  many = fewer.same_length ∙ ready.many;
}

-- a key made exact
pub swept_key : (a b d : Diagram) (k : KeyedWorlds) (x y : List Bool) (place level made f r : ℕ) → AreKeys (keys_of k) → length x ≡ length k.keyed → place < length k.keyed → IsRef a f
    → level ≡ (key_at k.keyed place).level → Keeps a b → Represents b ((keys_of k).function place) made → FewerLeft x y → IsRef d r
    → ((all : Keys) → AreKeys all → all.count ≡ length x → IsExact b all place level made → IsStage all (λ level. false) x y (meaning b f) (meaning d r))
    → IsSwept k no_levels a d x y f r
swept_key a b d k x y place level made f r keys many less ref is keeps exact fewer new_ref stage =
    let same : meaning b f ≡ meaning a f = λ i v. keeps.meanings_stay f v ref i in
    let there : IsExact b (keys_of k) place level made = record { fits = less; same_level = sym is; represents = exact } in
    record {
      is_ref = new_ref;
      fewer = fewer;
      stage = subst (λ F. IsStage (keys_of k) no_levels x y F (meaning d r)) same (stage (keys_of k) keys (sym many) there);
    }

-- no key struck off
pub struck_none : (k : KeyedWorlds) (used left : List Bool) → AreStruck k used left left
struck_none k used left = record { fewer = fewer_refl left; stage = λ F ignores. stage-refl (keys_of k) no_levels left F }

pub struck_trans : (k : KeyedWorlds) (used x y z : List Bool) → AreStruck k used x y → AreStruck k used y z → AreStruck k used x z
struck_trans k used x y z p q = record {
  fewer = fewer-trans x y z p.fewer q.fewer;
  stage = λ F ignores. stage-trans (keys_of k) no_levels x y z F F F (p.stage F ignores) (q.stage F ignores);
}

-- a key struck off
pub struck_one : (k : KeyedWorlds) (used left : List Bool) (place : ℕ) → AreKeys (keys_of k) → length left ≡ length k.keyed → place < length k.keyed → is_left left place ≡ true
    → get_or used (key_at k.keyed place).level false ≡ false → AreStruck k used left (set left place false)
struck_one k used left place keys many less there un =
    let within : place < length left = omega (arith, less, many) in
    record {
      fewer = record {
        same_length = length-set left place false;
        stays = λ i e. elim (cases_eq i place) [
          | inl same ↦ get_or-set_at left place i false false same within
          | inr ne ↦ get_or-set_other left place i false false ne ∙ e
        ];
      };
      stage = λ F ignores. stage-skip (keys_of k) no_levels left place F keys less (sym many) there (ignores (key_at k.keyed place).level un);
    }

pub swept_struck : (k : KeyedWorlds) (d : Diagram) (used x y : List Bool) (f : ℕ) → IsRef d f → AreStruck k used x y
    → ((level : ℕ) → get_or used level false ≡ false → forgot.Ignores d f level) → IsSwept k no_levels d d x y f f
swept_struck k d used x y f ref struck ignores = record { is_ref = ref; fewer = struck.fewer; stage = struck.stage (meaning d f) ignores }

turned : (m n : ℕ) → (n == m) ≡ (m == n)
turned m n = grind (arith, nat_tests)

-- two tests of a list
same_in : (levels : List ℕ) (n : ℕ) → is_in levels n ≡ forgot.is_in levels n
same_in [] n = refl
same_in (m ∷ ms) n = ap (λ b. b || is_in ms n) (turned m n) ∙ ap (λ b. (m == n) || b) (same_in ms n)

-- values that differ in forgotten levels alone are the same on kept ones
agree_kept : (levels : List ℕ) (kept a b values : ℕ → Bool) → ((level : ℕ) → is_in levels level ≡ true → kept level ≡ false)
    → ((level : ℕ) → forgot.is_in levels level ≡ false → a level ≡ b level) → AgreeOn kept b values → AgreeOn kept a values
agree_kept levels kept a b values none off on level there = by (is_in levels level) refl
  where
    by : (c : Bool) → is_in levels level ≡ c → a level ≡ values level
    by true e = absurd (true≢false (sym there ∙ none level e))
    by false e = off level (sym (same_in levels level) ∙ e) ∙ on level there

-- levels forgotten that no key which is left depends on
forget : (keys : Keys) (all : ℕ → Bool) (levels : List ℕ) (left : List Bool) (F R : (ℕ → Bool) → Bool) → ((level : ℕ) → is_in levels level ≡ true → all level ≡ true) → ((i : ℕ) → i < keys.count → is_in levels (keys.level i) ≡ false)
    → ((i : ℕ) → i < keys.count → is_left left i ≡ true → IgnoresAll (keys.function i) levels)
    → ((v : ℕ → Bool) → (R v ≡ true) ↔ forgot.TrueOff F levels v) → IsStage keys all left left F R
forget keys all levels left F R within apart unread gone = record {
  same = λ kept are v. (
    λ h. record {
      other = h.other;
      agree = h.agree;
      lawful = h.lawful;
      holds = (gone h.other).1 (record { other = h.other; agree = λ l out. refl; holds = h.holds });
    },
    λ h.
        let t : forgot.TrueOff F levels h.other = (gone h.other).0 h.holds in
        record {
          other = t.other;
          agree = agree_kept levels kept t.other h.other v (λ level e. are.others level (within level e)) t.agree h.agree;
          lawful = λ i il there.
              t.agree (keys.level i) (sym (same_in levels (keys.level i)) ∙ apart i il)
              ∙ h.lawful i il there
              ∙ sym (ignores-all (keys.function i) levels (unread i il there) t.other h.other (λ level out. t.agree level (sym (same_in levels level) ∙ out)));
          holds = t.holds;
        },
  );
}

-- a cell forgotten
pub swept_forget : (k : KeyedWorlds) (kept : Option ℕ) (a b d : Diagram) (x y : List Bool) (cell f g r : ℕ) → AreKeyed k → is_kept kept cell ≡ false
    → IsSwept k no_levels a b x y f g → ((i : ℕ) → i < length k.keyed → is_left y i ≡ true → IsUnread k cell i) → forgot.IsForgotten b d g (cell_levels k cell) r
    → IsSwept k (all_but k kept) a d x y f r
swept_forget k kept a b d x y cell f g r are other swept done forgotten = record {
  is_ref = forgotten.is_ref;
  fewer = swept.fewer;
  stage = stage-trans (keys_of k) (all_but k kept) x y y (meaning a f) (meaning b g) (meaning d r)
      (widen-none (keys_of k) (all_but k kept) x y (meaning a f) (meaning b g) swept.stage)
      (forget (keys_of k) (all_but k kept) (cell_levels k cell) y (meaning b g) (meaning d r) (λ level e. gone k kept cell level other e)
      (λ i less. apart k cell i are less) done forgotten.means);
}

-- a key that is not left, or not read, stays so
pub unread_more : (k : KeyedWorlds) (cell place : ℕ) (x y : List Bool) → FewerLeft x y → ((i : ℕ) → i < place → is_left x i ≡ true → IsUnread k cell i)
    → (i : ℕ) → i < place → is_left y i ≡ true → IsUnread k cell i
unread_more k cell place x y fewer done i less there = done i less (was (is_left x i) refl)
  where
    was : (b : Bool) → is_left x i ≡ b → is_left x i ≡ true
    was true e = e
    was false e = absurd (true≢false (sym there ∙ fewer.stays i e))

-- two facts of an answer give a third
pub both_ok : {X Y : Type 0} (r : Result X Y) (P Q R : X → Type 0) → ((x : X) → P x → Q x → R x) → IfOk r P → IfOk r Q → IfOk r R
both_ok (Ok x) P Q R f p q = f x p q
both_ok (Err e) P Q R f p q = p
