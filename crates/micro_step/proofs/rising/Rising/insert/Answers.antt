use Rattle.std.proofs.Common.{◌≡◌, ◌<◌, ◌||◌, ◌==◌, List, ℕ, length, ap, ◌∙◌, sym, subst, slice_get, arith}
use Rattle.std.specs.Vec.{vec_len, vec_capacity}
use Rattle.micro_step.specs.Rising.{IsPlaceFor, Numbers, among}
use Rattle.micro_step.proofs.RisingLemmas.{room_at, kept_at, among_put, among_there}
use Rattle.micro_step.proofs.rising.Rising.insert.Goals as goal

pub place_of-requires : goal.place_of-requires
place_of-requires c = rw (← c.as_slice.ensures.value) at c.self.invariant.rising

pub unwrap-requires : goal.unwrap-requires
unwrap-requires c =
    let v = c.self.inside.items in
    let below : c.args.number < c.self.inside.bound = subst (λ (n : Numbers). c.args.number < n.below) (sym c.self.view_is) c.requires in
    let place = subst (λ (ns : List ℕ). IsPlaceFor ns c.in-Err.place c.args.number) c.as_slice.ensures.value c.in-Err.ensures.new in
    let l : length v.items < vec_capacity v = room_at v.items c.in-Err.place c.args.number c.self.inside.bound (vec_capacity v) c.self.invariant below place in
    let m : vec_len v < vec_capacity v = omega (arith, l) in
    c.insert.ensures.succeeds m

pub invariant_of-self : goal.invariant_of-self
invariant_of-self c =
    let v = c.self.inside.items in
    let below : c.args.number < c.self.inside.bound = subst (λ (n : Numbers). c.args.number < n.below) (sym c.self.view_is) c.requires in
    let place = subst (λ (ns : List ℕ). IsPlaceFor ns c.in-Err.place c.args.number) c.as_slice.ensures.value c.in-Err.ensures.new in
    let put = rw c.unwrap.ensures at c.insert.ensures.items in
    kept_at v.items c.insert.new.self.items c.in-Err.place c.args.number c.self.inside.bound (vec_capacity v) (vec_capacity c.insert.new.self) c.self.invariant below place put c.insert.ensures.capacity

pub returns-in-Err-clause-rising : goal.returns-in-Err-clause-rising
returns-in-Err-clause-rising c = (invariant_of-self c).rising

pub returns-in-Err-clause-among : goal.returns-in-Err-clause-among
returns-in-Err-clause-among c = λ q.
    let v = c.self.inside.items in
    let place = subst (λ (ns : List ℕ). IsPlaceFor ns c.in-Err.place c.args.number) c.as_slice.ensures.value c.in-Err.ensures.new in
    let put = rw c.unwrap.ensures at c.insert.ensures.items in
    ap (λ (ns : List ℕ). among ns q) put
    ∙ among_put v.items c.in-Err.place c.args.number q place.within
    ∙ ap (λ (n : Numbers). among n.items q || c.args.number == q) c.self.view_is

pub returns-in-Ok-clause-among : goal.returns-in-Ok-clause-among
returns-in-Ok-clause-among c = λ q.
    let v = c.self.inside.items in
    let there = among_there v.items c.in-Ok.field-0 c.args.number q (ap (λ (ns : List ℕ). slice_get ns c.in-Ok.field-0) (sym c.as_slice.ensures.value) ∙ c.in-Ok.ensures.there) in
    subst (λ (n : Numbers). among n.items q ≡ (among n.items q || c.args.number == q)) c.self.view_is there
