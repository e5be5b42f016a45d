use Rattle.std.proofs.Common.{map, subst}
use Rattle.plain_run.proofs.Given.{if-ok}
use Rattle.plain_run.specs.Held.{common_of}
use Rattle.code_steps.specs.Begins.{TakesFirst, to_run_of}
use Rattle.code_steps.proofs.Beginning.{starts-first, starts-none}
use Rattle.code_steps.proofs.starting.start.Goals as goal

pub returns-in-None : goal.returns-in-None
returns-in-None c =
    let us = map to_run_of c.in_ok-units.units.items in
    let rest = map to_run_of c.take_first.new.units.items in
    starts-none c.args.program.now c.args.words.now c.args.input.now c.args.ticks us rest c.in_ok-units.ensures (subst (λ r. TakesFirst r us rest) c.in-None.is c.take_first.ensures)

pub returns-in_ok-common-in-Some : goal.returns-in_ok-common-in-Some
returns-in_ok-common-in-Some c =
    let us = map to_run_of c.in_ok-units.units.items in
    let rest = map to_run_of c.take_first.new.units.items in
    if-ok _ _ c.begins_with.result
    (λ s h. starts-first c.args.program.now c.args.words.now c.args.input.now c.args.ticks us rest c.in_ok-units.ensures c.in-Some.first (common_of c.in_ok-common-in-Some.common) _ (subst (λ r. TakesFirst r us rest) c.in-Some.is c.take_first.ensures) (c.in_ok-common-in-Some.ensures c.args.words.now c.args.input.now c.in_ok-world-in-Some.ensures) h)
    c.begins_with.ensures
