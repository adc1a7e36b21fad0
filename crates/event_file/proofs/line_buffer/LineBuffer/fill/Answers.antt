use Rattle.std.proofs.Common.{◌≡◌, ◌+◌, inl, inr, length, ◌∙◌, arith}
use Rattle.event_file.proofs.WindowLemmas.{more_told, added_length, reach_moves}
use Rattle.event_file.proofs.line_buffer.LineBuffer.fill.Goals as goal

pub reads-preserved : goal.reads-preserved
reads-preserved g c =
    let name = c.args.name.now in
    let old = c.reads.self.held in
    let new = c.read.new.self.held in
    let n = c.in_ok-read-in-Open.field-0 in
    let told = g.F.Files.contents c.reads.files name in
    let free = rw c.held-held.ensures.held at c.in-Open.ensures in
    let kept = c.reads.invariant in
    let read = c.in_ok-read-in-Open.ensures in
    let added = rw c.held-held.ensures.held at read.ok in
    let size : length new ≡ length old + n = added_length told (c.args.at + length old) n old new added in
    let e : c.args.at + length new ≡ c.args.at + length old + n = omega (arith, size) in
    record {
      room = read.room ∙ kept.room;
      kept = inr (elim kept.kept [ inl same ↦ rw same.1 at free | inr other ↦ other ]);
      holds = rw (read.contents name) (more_told told c.args.at n old new c.args.self.now.held kept.holds added);
      reached = λ is. rw e
          (reach_moves (g.F.Files.reach c.reads.files name) (g.F.Files.reach c.read.new.files name) (c.args.at + length old) n c.if-branch-eq0.false
          (kept.reached is) (rw c.held-held.ensures.held at read.reached));
      contents = λ file. read.contents file ∙ kept.contents file;
      count = λ file. omega (arith, read.count file, kept.count file);
      others = λ file other. read.others file other ∙ kept.others file other;
    }
