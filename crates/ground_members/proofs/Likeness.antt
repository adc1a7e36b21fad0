-- Transitions that differ in their sources alone.
use Rattle.std.proofs.Common.{◌≡◌, ℕ, ◌+◌, ◌<◌, ◌≤◌, List, [], ◌∷◌, ◌++◌, map, flat_map, length, take, get_or, Some, refl, sym, ap, ◌∙◌, subst, append-nil}
use Rattle.std.specs.List.{AllZip}
use Rattle.std.proofs.lemmas.List.{take_more, take_all}
use Rattle.rsml_syntax.specs.declared.syntax.Spec.{Spec}
use Rattle.rsml_syntax.specs.text.Names.{Name}
use Rattle.rsml_meaning.specs.Words.{Path, Each, at, child_path}
use Rattle.rsml_meaning.specs.Instances.{states, globals_of}
use Rattle.rsml_meaning.specs.Truth.{within}
use Rattle.state_arrays.specs.Places.{path_at}
use Rattle.rsml_ground.specs.declared.definitions.Definition.{Definition}
use Rattle.rsml_ground.specs.declared.phrases.GroundPhrase.{GroundPhrase}
use Rattle.rsml_ground.specs.Grounded.{IsGrounded}
use Rattle.rsml_ground.specs.Numbers.{Keeps}
use Rattle.rsml_ground.specs.Rests.{GuardFits}
use Rattle.rsml_ground.specs.StandsFor.{GuardIs}
use Rattle.ground_members.specs.declared.transitions.GroundTransition.{GroundTransition}
use Rattle.ground_members.specs.declared.written.Written.{Written}
use Rattle.ground_members.specs.Alike.{IsAlike, AddsAlike, AddsAll}
use Rattle.ground_members.specs.Shared.{from_source}
use Rattle.ground_members.specs.Members.{IsComponent, IsState, IsTarget, IsEvent, TransitionIs}
use Rattle.ground_members.specs.Scoped.{HasChild, TransitionIsScoped}
use Rattle.ground_members.specs.Written.{made_of, made_by, all_made_by, IsPlaced}
use Rattle.ground_members.proofs.Adding.{flat_append}
use Rattle.ground_members.proofs.Lists.{zip_to, zip_append}
use Rattle.ground_members.proofs.Staying.{IsSoFar, transition_stays, keeps_both}

-- one from the state of another number is like it
pub alike_from : (s : Spec) (node : ℕ) (other : GroundTransition) (name : Name) (k : ℕ) (x : GroundTransition) → ((path : Path) → path_at (states s) node ≡ Some path → IsState s (child_path path (at name 0)) k)
    → x ≡ from_source k other → IsAlike s node other name x
alike_from s node other name k x h e = subst (IsAlike s node other name) (sym e) (record {
  component = refl;
  source = h;
  target = refl;
  event = refl;
  guard = refl;
  raises = refl;
  ordinal = refl;
})

-- a transition like one that stands for what is written stands for it from its own source
alike_stands : (ps : List GroundPhrase) (s : Spec) (w : Written) (first name : Name) (x y : GroundTransition) → IsPlaced (states s) w.owner → TransitionIs ps s (made_of (globals_of s) w first) x → IsAlike s w.owner.node x name y
    → TransitionIs ps s (made_of (globals_of s) w name) y
alike_stands ps s w first name x y p a h =
    let t = made_of (globals_of s) w first in
    record {
      component = subst (IsComponent s t.component) (sym h.component) a.component;
      source = h.source w.owner.path.now p.node;
      target = subst (IsTarget s t.target) (sym h.target) a.target;
      event = subst (IsEvent s t.event) (sym h.event) a.event;
      guard = subst (GuardIs ps s (within t.this) t.guard) (sym h.guard) a.guard;
      fits = subst (GuardFits (length ps)) (sym h.guard) a.fits;
      raises = subst (AllZip (IsEvent s) t.raises) (sym h.raises) a.raises;
      ordinal = h.ordinal ∙ a.ordinal;
    }

all_stand : (ps : List GroundPhrase) (s : Spec) (w : Written) (first : Name) (x : GroundTransition) (names : List Name) (ys : List GroundTransition) → IsPlaced (states s) w.owner → TransitionIs ps s (made_of (globals_of s) w first) x
    → AllZip (IsAlike s w.owner.node x) names ys → AllZip (TransitionIs ps s) (map (made_of (globals_of s) w) names) ys
all_stand ps s w first x [] [] p a h = tt
all_stand ps s w first x (n ∷ names) (y ∷ ys) p a h = (alike_stands ps s w first n x y p a h.0, all_stand ps s w first x names ys p a h.1)
all_stand ps s w first x [] (y ∷ ys) p a h = elim h [ ]
all_stand ps s w first x (n ∷ names) [] p a h = elim h [ ]

-- one from the first source, and those like it, stand for all that are written as one
pub all_added : (ps : List GroundPhrase) (s : Spec) (w : Written) (first : Name) (names : List Name) (x : GroundTransition) (old new : List GroundTransition) → IsPlaced (states s) w.owner → w.sources.now ≡ first ∷ names
    → TransitionIs ps s (made_of (globals_of s) w first) x → AddsAlike s w.owner.node x names old new → AddsAll ps s (made_by (globals_of s) w) old new
all_added ps s w first names x old new p e a h = record {
  more = x ∷ h.others;
  are = subst (λ ns. AllZip (TransitionIs ps s) (map (made_of (globals_of s) w) ns) (x ∷ h.others)) (sym e) (a, all_stand ps s w first x names h.others p a h.are);
  added = h.added;
}

pub none_of_all : (ps : List GroundPhrase) (s : Spec) (w : Written) (old : List GroundTransition) → length w.sources.now ≡ 0 → AddsAll ps s (made_by (globals_of s) w) old old
none_of_all ps s w old e = record {
  more = [];
  are = subst (λ ns. AllZip (TransitionIs ps s) (map (made_of (globals_of s) w) ns) []) (sym (nothing w.sources.now e)) tt;
  added = sym (append-nil old);
}
  where
    nothing : (ns : List Name) → length ns ≡ 0 → ns ≡ []
    nothing [] h = refl
    nothing (n ∷ ns) h = cc

-- each source is a child
pub sources_there : (s : Spec) (w : Written) (names : List Name) → IsPlaced (states s) w.owner → Each (TransitionIsScoped s) (map (made_of (globals_of s) w) names) → Each (HasChild s w.owner.node) names
sources_there s w [] p h = tt
sources_there s w (n ∷ names) p h = ((w.owner.path.now, p.node, h.0.source), sources_there s w names p h.1)

pub scoped_sources : (s : Spec) (w : Written) (first : Name) (names : List Name) → w.sources.now ≡ first ∷ names → Each (TransitionIsScoped s) (made_by (globals_of s) w)
    → TransitionIsScoped s (made_of (globals_of s) w first) × Each (TransitionIsScoped s) (map (made_of (globals_of s) w) names)
scoped_sources s w first names e h = subst (λ ns. Each (TransitionIsScoped s) (map (made_of (globals_of s) w) ns)) e h

-- The loop over what is written.

pub written_turn : (s : Spec) (ds : List Definition) (ws : List Written) (old ps qs : List GroundPhrase) (i : ℕ) (w : Written) (cs es : List GroundTransition) → IsSoFar TransitionIs s ds old ps (all_made_by (globals_of s) (take i ws)) cs
    → i < length ws → w ≡ get_or ws i w → IsGrounded (record { spec = s; phrases = qs; definitions = ds }) → Keeps ps qs → AddsAll qs s (made_by (globals_of s) w) cs es → IsSoFar TransitionIs s ds old qs (all_made_by (globals_of s) (take (i + 1) ws)) es
written_turn s ds ws old ps qs i w cs es h l is g k a =
    let f = made_by (globals_of s) in
    let next : all_made_by (globals_of s) (take (i + 1) ws) ≡ all_made_by (globals_of s) (take i ws) ++ f w =
    ap (flat_map f) (take_more ws i w l ∙ ap (λ z. take i ws ++ (z ∷ [])) (sym is)) ∙ flat_append f (take i ws) (w ∷ []) ∙ ap (λ zs. flat_map f (take i ws) ++ zs) (append-nil (f w)) in
    record {
      grounded = g;
      keeps = keeps_both old ps qs h.keeps k;
      are = subst (λ ts. AllZip (TransitionIs qs s) ts es) (sym next) (subst (AllZip (TransitionIs qs s) (all_made_by (globals_of s) (take i ws) ++ f w)) (sym a.added)
          (zip_append (TransitionIs qs s) (all_made_by (globals_of s) (take i ws)) (f w) cs a.more (zip_to (TransitionIs ps s) (TransitionIs qs s) (transition_stays ps qs s k) (all_made_by (globals_of s) (take i ws)) cs h.are) a.are));
    }

pub written_ends : (s : Spec) (ds : List Definition) (ws : List Written) (old ps : List GroundPhrase) (i : ℕ) (cs : List GroundTransition) → IsSoFar TransitionIs s ds old ps (all_made_by (globals_of s) (take i ws)) cs → length ws ≤ i
    → AllZip (TransitionIs ps s) (all_made_by (globals_of s) ws) cs
written_ends s ds ws old ps i cs h l = subst (λ zs. AllZip (TransitionIs ps s) (all_made_by (globals_of s) zs) cs) (take_all i ws l) h.are
