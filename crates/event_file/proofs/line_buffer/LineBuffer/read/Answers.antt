use Rattle.std.proofs.Common.{◌≡◌, ◌-◌, ◌<◌, ◌+◌, length, drop, ap, ◌∙◌, arith, length-take, length-drop}
use Rattle.event_file.proofs.WindowLemmas.{piece_added}
use Rattle.event_file.proofs.line_buffer.LineBuffer.read.Goals as goal

pub returns-clause-ok : goal.returns-clause-ok
returns-clause-ok g c =
    let b = c.self.inside in
    let h = b.end - b.start in
    let items = c.read_behind.new.bytes.items in
    let n = c.in_ok-n.n in
    let short = rw (← c.self.view_is) at c.requires.room in
    let size : length items ≡ b.bytes.len = omega (arith, c.read_behind.new.bytes.ok.0, c.in_ok-n.ensures.room, c.move_to_front.ensures.room) in
    let some : h < length items = omega (arith, size, short, length-take h (drop b.start b.bytes.items), length-drop b.start b.bytes.items, c.self.invariant, b.bytes.ok.0) in
    let e : h + n - 0 ≡ h + n = omega arith in
    rw e
    (piece_added (g.F.Files.contents c.args.files.now c.args.name.now) c.args.at h n c.args.self.now.held items some
    (omega (arith, size, c.in_ok-n.ensures.bound, c.move_to_front.ensures.room))
    (c.in_ok-n.ensures.front ∙ c.move_to_front.ensures.front ∙ ap (λ w. w.held) c.self.view_is)
    c.in_ok-n.ensures.piece)
