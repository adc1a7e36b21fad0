use Rattle.std.proofs.Common.{◌≡◌, ◌<◌, ◌-◌, ◌++◌, length, Some, sym, subst, slice_get, slice_index_or, arith, length-append}
use Rattle.rsml_meaning.specs.Cells.{cells}
use Rattle.rsml_ground.specs.Rests.{RestsOn}
use Rattle.keyed_levels.specs.Keyed.{KeyedWorlds, PhraseFits, phrases_of}
use Rattle.keyed_levels.proofs.Bounds.{comparison_rests, first_phrase, later_phrase}
use Rattle.keyed_levels.proofs.levels.KeyedLevels.phrase.Goals as goal

pub index-requires : goal.index-requires
index-requires c =
    let less : c.args.number < length (c.self.inside.macros.now.phrases ++ c.self.inside.beside.items) =
    subst (λ (k : KeyedWorlds). c.args.number < length (phrases_of k)) (sym c.self.view_is) c.requires in
    omega (arith, less, c.if-number-count.false, c.phrases-count.ensures, length-append c.self.inside.macros.now.phrases c.self.inside.beside.items)

pub returns-then-number-count-clause-is : goal.returns-then-number-count-clause-is
returns-then-number-count-clause-is c =
    subst (λ (k : KeyedWorlds). slice_get (phrases_of k) c.args.number ≡ Some c.phrase.result.now) c.self.view_is
    (first_phrase c.self.inside.macros.now.phrases c.self.inside.beside.items c.args.number c.phrase.result.now c.phrase.ensures.is)

pub returns-else-number-count-clause-is : goal.returns-else-number-count-clause-is
returns-else-number-count-clause-is c =
    let xs = c.self.inside.macros.now.phrases in
    let ys = c.self.inside.beside.items in
    let p = c.index.result.now in
    let less : c.args.number < length (xs ++ ys) = subst (λ (k : KeyedWorlds). c.args.number < length (phrases_of k)) (sym c.self.view_is) c.requires in
    subst (λ (k : KeyedWorlds). slice_get (phrases_of k) c.args.number ≡ Some p) c.self.view_is
    (later_phrase xs ys c.args.number p (omega (arith, c.if-number-count.false, c.phrases-count.ensures)) less
    (subst (λ n. p ≡ slice_index_or ys (c.args.number - n) p) c.phrases-count.ensures c.index.ensures))

pub returns-else-number-count-clause-rests : goal.returns-else-number-count-clause-rests
returns-else-number-count-clause-rests c =
    let xs = c.self.inside.macros.now.phrases in
    let ys = c.self.inside.beside.items in
    let p = c.index.result.now in
    let many = length (cells c.self.inside.macros.now.spec) in
    let less : c.args.number < length (xs ++ ys) = subst (λ (k : KeyedWorlds). c.args.number < length (phrases_of k)) (sym c.self.view_is) c.requires in
    let within : c.args.number - c.phrases-count.result < length ys = omega (arith, less, c.if-number-count.false, c.phrases-count.ensures, length-append xs ys) in
    subst (λ (k : KeyedWorlds). RestsOn k.base.definitions (length (cells k.base.spec)) c.args.number p) c.self.view_is
    (comparison_rests c.self.inside.macros.now.definitions many c.args.number p
    (subst (PhraseFits many) (sym c.index.ensures) (c.self.invariant.fit (c.args.number - c.phrases-count.result) p within)))
