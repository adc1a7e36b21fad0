use Rattle.std.proofs.Common.{length, Some, sym, subst}
use Rattle.rsml_syntax.specs.rules.Globals.{many, up_to}
use Rattle.rsml_ground.specs.declared.phrases.GroundPhrase.TheVariants as phrases
use Rattle.rsml_meaning.specs.Cells.{cells}
use Rattle.rsml_meaning.specs.Instances.{globals_of}
use Rattle.rsml_meaning.specs.Truth.{within, quantified}
use Rattle.rsml_ground.specs.StandsFor.{PhraseIs}
use Rattle.phrase_builder.proofs.Fitting.{numbers_below}
use Rattle.phrase_builder.proofs.Growing.{added, grew_both}
use Rattle.phrase_builder.proofs.Standing.{any_is, every_is}
use Rattle.phrase_builder.proofs.phrases.phrase_number.Goals as goal

pub returns-in_ok-number-in-Any-clause-grew : goal.returns-in_ok-number-in-Any-clause-grew
returns-in_ok-number-in-Any-clause-grew c =
    let s = c.args.site.now.lookup.now in
    let count = length (cells s) in
    let ds = c.args.site.now.definitions.now in
    let old = c.numbers.new.phrases in
    let new = c.add.new.self in
    let grew = c.numbers.ensures.grew in
    let found = c.in_ok-found-in-Any.found in
    let below = numbers_below old s (quantified (within c.args.site.now.this) c.in-Any.variable) c.in-Any.body (up_to (many (globals_of s) (Some c.in-Any.bound))) found c.in_ok-found-in-Any.ensures.are in
    grew_both count ds c.args.phrases.now old new grew (added count ds old new (phrases.Any found) c.in_ok-number-in-Any.ensures.ok grew.rest below)

pub returns-in_ok-number-in-Any-clause-is : goal.returns-in_ok-number-in-Any-clause-is
returns-in_ok-number-in-Any-clause-is c =
    let s = c.args.site.now.lookup.now in
    let count = length (cells s) in
    let ds = c.args.site.now.definitions.now in
    let old = c.numbers.new.phrases in
    let new = c.add.new.self in
    let grew = c.numbers.ensures.grew in
    let found = c.in_ok-found-in-Any.found in
    let r = within c.args.site.now.this in
    let are = c.in_ok-found-in-Any.ensures.are in
    let below = numbers_below old s (quantified r c.in-Any.variable) c.in-Any.body (up_to (many (globals_of s) (Some c.in-Any.bound))) found are in
    let more = added count ds old new (phrases.Any found) c.in_ok-number-in-Any.ensures.ok grew.rest below in
    subst (λ p. PhraseIs new s r p c.in_ok-number-in-Any.number) (sym c.in-Any.is)
    (any_is old new s r c.in-Any.variable c.in-Any.bound c.in-Any.body found c.in_ok-number-in-Any.number more.keeps are c.in_ok-number-in-Any.ensures.number)

pub returns-in_ok-number-in-Every-clause-grew : goal.returns-in_ok-number-in-Every-clause-grew
returns-in_ok-number-in-Every-clause-grew c =
    let s = c.args.site.now.lookup.now in
    let count = length (cells s) in
    let ds = c.args.site.now.definitions.now in
    let old = c.numbers-in-Every.new.phrases in
    let new = c.add-in-Every.new.self in
    let grew = c.numbers-in-Every.ensures.grew in
    let found = c.in_ok-found-in-Every.found in
    let below = numbers_below old s (quantified (within c.args.site.now.this) c.in-Every.variable) c.in-Every.body (up_to (many (globals_of s) (Some c.in-Every.bound))) found c.in_ok-found-in-Every.ensures.are in
    grew_both count ds c.args.phrases.now old new grew (added count ds old new (phrases.Every found) c.in_ok-number-in-Every.ensures.ok grew.rest below)

pub returns-in_ok-number-in-Every-clause-is : goal.returns-in_ok-number-in-Every-clause-is
returns-in_ok-number-in-Every-clause-is c =
    let s = c.args.site.now.lookup.now in
    let count = length (cells s) in
    let ds = c.args.site.now.definitions.now in
    let old = c.numbers-in-Every.new.phrases in
    let new = c.add-in-Every.new.self in
    let grew = c.numbers-in-Every.ensures.grew in
    let found = c.in_ok-found-in-Every.found in
    let r = within c.args.site.now.this in
    let are = c.in_ok-found-in-Every.ensures.are in
    let below = numbers_below old s (quantified r c.in-Every.variable) c.in-Every.body (up_to (many (globals_of s) (Some c.in-Every.bound))) found are in
    let more = added count ds old new (phrases.Every found) c.in_ok-number-in-Every.ensures.ok grew.rest below in
    subst (λ p. PhraseIs new s r p c.in_ok-number-in-Every.number) (sym c.in-Every.is)
    (every_is old new s r c.in-Every.variable c.in-Every.bound c.in-Every.body found c.in_ok-number-in-Every.number more.keeps are c.in_ok-number-in-Every.ensures.number)
