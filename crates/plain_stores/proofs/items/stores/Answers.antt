use Rattle.std.proofs.Common.{subst}
use Rattle.plain_run.specs.Held.{world_of}
use Rattle.plain_stores.specs.Changes.{IsPrepared}
use Rattle.plain_stores.proofs.Stored.{prepared-done, prepared-past}
use Rattle.plain_stores.proofs.items.stores.Goals as goal

pub returns-in-Passes-clause-row : goal.returns-in-Passes-clause-row
returns-in-Passes-clause-row c =
    let w = world_of c.args.world.now in
    let prepared = subst (IsPrepared c.args.facts.now w c.args.n c.args.place) c.in-Passes.is c.in_ok-prepares.ensures in
    prepared-past c.args.facts.now w c.args.n c.args.place c.args.v.now prepared

pub returns-in_ok-puts-in-Makes-clause-row : goal.returns-in_ok-puts-in-Makes-clause-row
returns-in_ok-puts-in-Makes-clause-row c =
    let w = world_of c.args.world.now in
    let prepared = subst (IsPrepared c.args.facts.now w c.args.n c.args.place) c.in-Makes.is c.in_ok-prepares.ensures in
    prepared-done c.args.facts.now w c.args.n c.args.place c.args.v.now c.in-Makes.making (world_of c.puts.new.world) prepared c.in_ok-puts-in-Makes.ensures
