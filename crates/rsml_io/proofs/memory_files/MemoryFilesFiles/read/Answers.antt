use Rattle.std.proofs.Common.{◌≡◌, Some, ap, arith, inr, length, drop, length-take, ◌∙◌, [], refl}
use Rattle.std.specs.Prelude.{min}
use Rattle.rsml_io.specs.Held.{cut_of, uncut, read_once, refused_once}
use Rattle.rsml_io.specs.FilesState.{contents}
use Rattle.rsml_io.proofs.HeldLemmas.{field_kept}
use Rattle.rsml_io.proofs.ReadLemmas.{piece_given}
use Rattle.rsml_io.proofs.memory_files.MemoryFilesFiles.read.Goals as goal

pub returns-in-Some-clause-piece : goal.returns-in-Some-clause-piece
returns-in-Some-clause-piece c =
    let state = c.args.self.now in
    let name = c.args.name.now in
    let into = c.copy_to_front-n.new.into in
    let cut = cut_of state.cuts name in
    let same : length into ≡ length c.args.into.now = c.copy_to_front-n.auto.into in
    let given = rw (← same) at c.in-Some.ensures.given in
    let short = length-take (min (length into) state.most) (drop c.args.at (uncut (contents state name) cut)) in
    piece_given (contents state name) into c.args.at state.most c.next_read.ensures.most cut c.copy_to_front-n.result
    (λ cuts. let none = c.in-Some.ensures.refused.1 (inr (inr cuts)) in cc)
    (omega (arith, short, ap length given, c.copy_to_front-n.ensures.n))
    (c.copy_to_front-n.ensures.front ∙ given)

pub returns-in-Some-clause-contents : goal.returns-in-Some-clause-contents
returns-in-Some-clause-contents c =
    let kept = field_kept (λ file. file.bytes) [] (read_once c.args.at c.copy_to_front-n.result) (λ file. refl) c.args.self.now.files c.count_read.new.self.files c.args.name.now c.count_read.ensures.file in
    λ q. ap Some (kept q)

pub returns-in-None-clause-contents : goal.returns-in-None-clause-contents
returns-in-None-clause-contents c =
    let kept = field_kept (λ file. file.bytes) [] refused_once (λ file. refl) c.args.self.now.files c.count_refusal.new.self.files c.args.name.now c.count_refusal.ensures.refusal.file in
    λ q. ap Some (kept q)
