use Rattle.std.proofs.Common.{◌≡◌, ◌∙◌, arith, length, ◌≤◌, length-append, length-take, take, ◌++◌, ◌+◌}
use Rattle.rsml_io.proofs.Pieces.{longer_front, raised_twice}
use Rattle.rsml_io.proofs.whole.read_all.Goals as goal

pub pieces-preserved : goal.pieces-preserved
pieces-preserved g c =
    let name = c.args.name.now in
    let told = g.F.Files.contents c.args.files.now name in
    let bytes = c.pieces.bytes.items in
    let into = c.read.new.into in
    let n = c.in-Ok.n in
    let kept = c.pieces.invariant in
    let room : n ≤ length into = omega (arith, c.in-Ok.ensures.bound) in
    let at : c.len-at.result ≡ length bytes = omega (arith, c.len-at.ensures, c.pieces.bytes.ok.0) in
    let items : c.extend_from_slice.new.self.items ≡ bytes ++ take n into = c.in_ok-extend_from_slice.ensures.items in
    let len : length (bytes ++ take n into) ≡ length bytes + n = omega (arith, length-append bytes (take n into), length-take n into) in
    let piece = rw (kept.contents name, at) at c.in-Ok.ensures.piece in
    let reached = rw (at, kept.reached) at c.in-Ok.ensures.reached in
    record {
      room = omega arith;
      within = rw items (omega (arith, len));
      front = rw items (longer_front told bytes into n room kept.front piece);
      reached = rw (items, len) (reached ∙ raised_twice (g.F.Files.reach c.args.files.now name) (length bytes) n c.if-n-eq0.false);
      contents = λ file. c.read.ensures.contents file ∙ kept.contents file;
      count = λ file. omega (arith, c.read.ensures.count file, kept.count file);
      others = λ file other. c.read.ensures.others file other ∙ kept.others file other;
    }
