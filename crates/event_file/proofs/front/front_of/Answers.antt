use Rattle.std.proofs.Common.{◌+◌, arith, length-take}
use Rattle.std.proofs.lemmas.List.{take_all}
use Rattle.event_file.proofs.Widths.{found_width, unfound_width, unfound_all}
use Rattle.event_file.proofs.front.front_of.Goals as goal

pub returns-in-Some : goal.returns-in-Some
returns-in-Some c =
    let bytes = c.args.bytes.now in
    let first = rw c.window.ensures at c.in-Some.ensures in
    let found = found_width bytes (c.args.most + 1) c.in-Some.width first first.0.high in
    let room = length-take (c.args.most + 1) bytes in
    (found.0, omega (arith, room, first.0.high), omega (arith, found.1))

pub returns-in-None : goal.returns-in-None
returns-in-None c =
    let none = rw c.window.ensures at c.in-None.ensures in
    omega (arith, unfound_width c.args.bytes.now (c.args.most + 1) (omega (arith, c.if-bytes-most.true)) none)

pub returns-in-None-2 : goal.returns-in-None-2
returns-in-None-2 c =
    let bytes = c.args.bytes.now in
    let none = rw (c.window.ensures, take_all (c.args.most + 1) bytes (omega (arith, c.if-bytes-most.false))) at c.in-None.ensures in
    (unfound_all bytes none, c.if-bytes-most.false)
