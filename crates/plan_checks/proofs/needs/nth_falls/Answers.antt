use Rattle.std.proofs.Common.{arith, subst}
use Rattle.worker_pairing.specs.Marks.{members_of}
use Rattle.event_search.specs.Search.{IsSearched}
use Rattle.plan_checks.proofs.Counting.{kinds-within}
use Rattle.plan_checks.proofs.Falling.{nth-lower}
use Rattle.plan_checks.proofs.needs.nth_falls.Goals as goal

pub nth-requires : goal.nth-requires
nth-requires c =
    let within = kinds-within (members_of c.args.f.now) c.args.worker in
    let so = c.requires in
    omega (arith, within, so)

pub returns-in-Some : goal.returns-in-Some
returns-in-Some c =
    nth-lower (members_of c.args.f.now) c.args.ranks.now c.args.worker c.args.which c.args.k c.args.least c.in-Some.found c.rank.result
    (subst (IsSearched (members_of c.args.f.now) c.args.worker c.args.which c.args.k) c.in-Some.is c.nth.ensures) c.rank.ensures
