use Rattle.std.proofs.Common.{◌≤◌, arith, length}
use Rattle.worker_pairing.specs.Faults.{kinds_of}
use Rattle.worker_pairing.specs.Marks.{members_of}
use Rattle.plan_checks.proofs.Counting.{kinds-within}
use Rattle.plan_checks.proofs.Falling.{flush-needs}
use Rattle.plan_checks.proofs.needs.flush_falls.Goals as goal

pub returns : goal.returns
returns c =
    let ms = members_of c.args.f.now in
    let ranks = c.args.ranks.now in
    let v = c.args.to in
    let few : length (kinds_of ms v) ≤ length ranks = (let within = kinds-within ms v in let so = c.requires.long in omega (arith, within, so)) in
    flush-needs ms ranks c.args.asking.worker c.args.asking.number c.args.asking.rank v c.before-sent.result c.before-received.result c.lesser.result c.last_of_falls.result c.requires.rises
    c.before-sent.ensures c.before-received.ensures few c.lesser.ensures c.last_of_falls.ensures
