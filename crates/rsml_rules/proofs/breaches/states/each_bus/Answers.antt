use Rattle.std.proofs.Common.{◌≡◌, ℕ, suc, ◌+◌, ◌<◌, Bool, List, [], ◌∷◌, ◌++◌, length, map, take, drop, get_or, drop-cons, add-one, append_assoc, Option, sym, ap, ◌∙◌}
use Rattle.std.specs.Prelude.{not, ◌||◌}
use Rattle.std.proofs.lemmas.List.{map_more}
use Rattle.rsml_syntax.specs.declared.syntax.Bus.{Bus}
use Rattle.rsml_syntax.specs.text.Names.{Name, is_in}
use Rattle.rsml_syntax.specs.rules.Breaches.{Breach, breach}
use Rattle.rsml_rules.specs.breaches.Noting.{noted}
use Rattle.rsml_syntax.specs.rules.States.{are_members, buses}
use Rattle.rsml_rules.proofs.Noting.{noted_append}
use Rattle.rsml_rules.proofs.Sources.{in_either}
use Rattle.rsml_rules.proofs.breaches.states.each_bus.Goals as goal
use Rattle.rsml_rules.proofs.breaches.states.each_bus.Goals.{then-has, else-has}

-- A turn of the loop over buses.
bus_turn : (worst next all : Option Breach) (children names after : List Name) (bs : List Bus) (i : ℕ) (b : Bus) (taken : Bool) →
    i < length bs → b ≡ get_or bs i b → after ≡ names ++ (b.name ∷ []) → taken ≡ (is_in b.name children || is_in b.name names) →
    next ≡ noted (noted worst (breach 1 b.name taken)) (breach 11 b.name (not (are_members children b.members))) →
    noted worst (buses children (children ++ names) (drop i bs)) ≡ all →
    noted next (buses children (children ++ after) (drop (i + 1) bs)) ≡ all
bus_turn worst next all children names after bs i b taken h e put again now before =
    let rest : List Name → List Breach = λ (earlier : List Name). buses children earlier (drop (i + 1) bs) in
    let split : drop i bs ≡ b ∷ drop (i + 1) bs = rw (add-one, drop-cons bs i b h) (ap (λ (d : Bus). d ∷ drop (suc i) bs) (sym e)) in
    let own = breach 1 b.name (is_in b.name (children ++ names)) in
    let members = breach 11 b.name (not (are_members children b.members)) in
    ap (λ w. noted w (rest (children ++ after))) now
    ∙ ap (λ (t : Bool). noted (noted (noted worst (breach 1 b.name t)) members) (rest (children ++ after))) (again ∙ sym (in_either b.name children names))
    ∙ ap (λ (earlier : List Name). noted (noted (noted worst own) members) (rest earlier)) (ap (λ (ns : List Name). children ++ ns) put ∙ sym (append_assoc children names (b.name ∷ [])))
    ∙ sym (noted_append (noted worst own) members (rest ((children ++ names) ++ (b.name ∷ []))))
    ∙ sym (noted_append worst own (members ++ rest ((children ++ names) ++ (b.name ∷ []))))
    ∙ ap (λ (ds : List Bus). noted worst (buses children (children ++ names) ds)) (sym split)
    ∙ before

pub loop-bus-preserved : goal.loop-bus-preserved
loop-bus-preserved c =
    let bs = c.args.buses.now in
    let children = c.args.children.now in
    let i = c.loop-bus.bus-index in
    let b = c.bus-item.result in
    let names = c.loop-bus.names in
    let again = c.in_ok-again.again in
    let put : c.add.new.self ≡ names ++ b.name ∷ [] = c.in_ok-again.ensures.put ∙ ap (λ (n : Name). names ++ n ∷ []) c.bytes.ensures in
    let is_child : c.has.result ≡ is_in b.name children = c.has.ensures ∙ ap (λ (n : Name). is_in n children) c.bytes-in-loop-bus.ensures in
    let was_bus : again ≡ is_in b.name names = c.in_ok-again.ensures.again ∙ ap (λ (n : Name). is_in n names) c.bytes.ensures in
    let taken : c.if-has.taken ≡ (c.has.result || again) = elim c.if-has.branch [
      | then-has w ↦ w.taken-is ∙ w.if-has.true ∙ ap (λ (h : Bool). h || again) (sym w.if-has.true)
      | else-has w ↦ w.taken-is ∙ ap (λ (h : Bool). h || again) (sym w.if-has.false)
    ] in
    let noted_first : c.note.new.self ≡ noted c.loop-bus.worst (breach 1 b.name c.if-has.taken) =
    c.note.ensures in
    let right : c.in_ok-right.right ≡ are_members children b.members = c.in_ok-right.ensures ∙ ap (λ (ms : List Name). are_members children ms) c.as_slice.ensures in (
      put ∙ ap (λ (ns : List Name). ns ++ b.name ∷ []) c.loop-bus.invariant.0 ∙ ap (λ (n : Name). map (λ (b : Bus). b.name) (take i bs) ++ n ∷ []) (ap (λ (d : Bus). d.name) c.bus-item.is)
          ∙ sym (map_more (λ (b : Bus). b.name) bs i b c.loop-bus-test.true),
      bus_turn c.loop-bus.worst c.note-in-loop-bus.new.self _ children names c.add.new.self bs i b c.if-has.taken
          c.loop-bus-test.true
          c.bus-item.is
          put
          (taken ∙ (λ j. is_child j || was_bus j))
          (c.note-in-loop-bus.ensures
          ∙ (λ j. noted (noted_first j) (breach 11 b.name (not (right j)))))
          c.loop-bus.invariant.1,
    )
