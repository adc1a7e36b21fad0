use Rattle.std.proofs.Common.{map, refl, rules, arith}
use Rattle.std.specs.Prelude.{string_bytes}
use Rattle.rsml.specs.Asked.{asked}
use Rattle.rsml.proofs.RunLemmas.{runs_command, runs_usage}
use Rattle.rsml.proofs.CountLemmas.{are_counted}
use Rattle.rsml.proofs.running.run.Goals as goal

pub returns-in-Some-clause-runs : goal.returns-in-Some-clause-runs
returns-in-Some-clause-runs g c =
    runs_command c.done_is_proved.ensures c.same_texts_behave_alike.ensures _ _ (asked c.in-Some.command) (search rules) c.obey.ensures.obeyed
    (record { others = c.obey.ensures.others; counts = record { reads = c.obey.ensures.count; writes = c.obey.ensures.sink_count } })

pub returns-in-None-clause-runs : goal.returns-in-None-clause-runs
returns-in-None-clause-runs g c =
    runs_usage _ _ (search rules) c.finish.ensures.written
    (record { others = λ file n. refl; counts = record { reads = λ file. omega arith; writes = c.finish.ensures.count } })

pub obey-requires : goal.obey-requires
obey-requires g c = are_counted (map (λ word. string_bytes word) c.args.words.now) (asked c.in-Some.command) (search rules)
