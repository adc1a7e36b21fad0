use Rattle.std.proofs.Common.{◌<◌, ◌≤◌, ◌||◌, ◌==◌, List, ℕ, length, refl, ap, ◌∙◌, sym, subst, arith}
use Rattle.std.specs.Vec.{vec_capacity}
use Rattle.micro_step.specs.Rising.{AreKept, IsPlaceFor, Numbers, among}
use Rattle.micro_step.proofs.RisingLemmas.{room_at, kept_at, among_put, put_behind}
use Rattle.micro_step.proofs.rising.Rising.put.Goals as goal

pub is_above-requires : goal.is_above-requires
is_above-requires c = rw (← c.as_slice.ensures.value) at c.self.invariant.rising

pub push_reserved-requires : goal.push_reserved-requires
push_reserved-requires c =
    let v = c.self.inside.items in
    let below : c.args.number < c.self.inside.bound = subst (λ (n : Numbers). c.args.number < n.below) (sym c.self.view_is) c.requires in
    let place = subst (λ (ns : List ℕ). IsPlaceFor ns (length ns) c.args.number) c.as_slice.ensures.value (c.if-is_above.ensures refl) in
    let l : length v.items < vec_capacity v = room_at v.items (length v.items) c.args.number c.self.inside.bound (vec_capacity v) c.self.invariant below place in
    omega (arith, l)

pub invariant_of-self : goal.invariant_of-self
invariant_of-self c =
    let v = c.self.inside.items in
    let below : c.args.number < c.self.inside.bound = subst (λ (n : Numbers). c.args.number < n.below) (sym c.self.view_is) c.requires in
    let place = subst (λ (ns : List ℕ). IsPlaceFor ns (length ns) c.args.number) c.as_slice.ensures.value (c.if-is_above.ensures refl) in
    let same : vec_capacity v ≤ vec_capacity c.push_reserved.new.self = omega (arith, c.push_reserved.ensures.capacity) in
    kept_at v.items c.push_reserved.new.self.items (length v.items) c.args.number c.self.inside.bound (vec_capacity v) (vec_capacity c.push_reserved.new.self) c.self.invariant below place
    (c.push_reserved.ensures.items ∙ put_behind v.items c.args.number) same

pub returns-then-is_above-clause-rising : goal.returns-then-is_above-clause-rising
returns-then-is_above-clause-rising c =
    let v = c.self.inside.items in
    let below : c.args.number < c.self.inside.bound = subst (λ (n : Numbers). c.args.number < n.below) (sym c.self.view_is) c.requires in
    let place = subst (λ (ns : List ℕ). IsPlaceFor ns (length ns) c.args.number) c.as_slice.ensures.value (c.if-is_above.ensures refl) in
    let same : vec_capacity v ≤ vec_capacity c.push_reserved.new.self = omega (arith, c.push_reserved.ensures.capacity) in
    let kept : AreKept c.push_reserved.new.self.items c.self.inside.bound (vec_capacity c.push_reserved.new.self) =
    kept_at v.items c.push_reserved.new.self.items (length v.items) c.args.number c.self.inside.bound (vec_capacity v) (vec_capacity c.push_reserved.new.self) c.self.invariant below place
    (c.push_reserved.ensures.items ∙ put_behind v.items c.args.number) same in
    kept.rising

pub returns-then-is_above-clause-among : goal.returns-then-is_above-clause-among
returns-then-is_above-clause-among c = λ q.
    let v = c.self.inside.items in
    ap (λ (ns : List ℕ). among ns q) (c.push_reserved.ensures.items ∙ put_behind v.items c.args.number)
    ∙ among_put v.items (length v.items) c.args.number q (omega arith)
    ∙ ap (λ (n : Numbers). among n.items q || c.args.number == q) c.self.view_is
