use Rattle.std.proofs.Common.{◌≡◌, Ok, Some, None, ◌∙◌, sym, ap}
use Rattle.event_file.specs.Reading.{Reading}
use Rattle.event_file.proofs.ToldLemmas.{repeats_told, fault_told, long_told, whole_told, last_told}
use Rattle.event_file.proofs.line_reader.LineReader.next.Goals as goal

pub returns-in-Some-clause-told : goal.returns-in-Some-clause-told
returns-in-Some-clause-told g c =
    let r = c.args.self.now in
    let is : r.settled ≡ Some c.in-Some.answer = sym (ap (λ (r : Reading). r.settled) c.self.view_is) ∙ c.in-Some.is in
    repeats_told (g.F.Files.contents c.args.files.now c.args.name.now) r c.in-Some.answer is c.requires

pub returns-in-Err-clause-told : goal.returns-in-Err-clause-told
returns-in-Err-clause-told g c =
    let old = c.args.self.now in
    let mid = c.fill.new.self in
    let none : old.settled ≡ None = sym (ap (λ (r : Reading). r.settled) c.self.view_is) ∙ c.in_default.is in
    let read = c.in-Err.ensures in
    fault_told old mid none read.same (g.F.Files.contents c.args.files.now c.args.name.now) c.settle.result c.settle.new.self c.requires read.holds
    read.err.0 c.settle.ensures.answer c.settle.ensures.settled

pub returns-in-Whole-clause-told : goal.returns-in-Whole-clause-told
returns-in-Whole-clause-told g c =
    let old = c.args.self.now in
    let mid = c.fill.new.self in
    let none : old.settled ≡ None = sym (ap (λ (r : Reading). r.settled) c.self.view_is) ∙ c.in_default.is in
    let read = c.in-Ok.ensures in
    let front = rw c.in-Whole.is at read.front in
    whole_told old mid none read.same (g.F.Files.contents c.args.files.now c.args.name.now) c.in-Whole.width c.give_whole.result c.give_whole.new.self c.requires read.holds
    front.0 front.1 front.2 c.give_whole.ensures.cut c.give_whole.ensures.line

pub returns-in-Long-clause-told : goal.returns-in-Long-clause-told
returns-in-Long-clause-told g c =
    let old = c.args.self.now in
    let mid = c.fill.new.self in
    let none : old.settled ≡ None = sym (ap (λ (r : Reading). r.settled) c.self.view_is) ∙ c.in_default.is in
    let read = c.in-Ok.ensures in
    let front = rw c.in-Long.is at read.front in
    long_told old mid none read.same (g.F.Files.contents c.args.files.now c.args.name.now) c.find_long.result c.find_long.new.self c.requires read.holds
    front c.find_long.ensures.answer c.find_long.ensures.settled

pub returns-in-Open-clause-told : goal.returns-in-Open-clause-told
returns-in-Open-clause-told g c =
    let old = c.args.self.now in
    let mid = c.fill.new.self in
    let none : old.settled ≡ None = sym (ap (λ (r : Reading). r.settled) c.self.view_is) ∙ c.in_default.is in
    let read = c.in-Ok.ensures in
    let front = rw c.in-Open.is at read.front in
    last_told old mid none read.same (g.F.Files.contents c.args.files.now c.args.name.now) c.give_last.result c.give_last.new.self c.requires read.holds
    (read.end (ap Ok c.in-Open.is)) front.0 front.1 c.give_last.ensures.end c.give_last.ensures.cut c.give_last.ensures.line
