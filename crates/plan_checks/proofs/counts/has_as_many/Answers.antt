use Rattle.std.proofs.Common.{◌∙◌, sym}
use Rattle.std.proofs.lemmas.Bool.{eq-eqb, eqb-true}
use Rattle.worker_pairing.specs.Marks.{members_of}
use Rattle.plan_checks.proofs.Within.{as-many, not-as-many}
use Rattle.plan_checks.proofs.counts.has_as_many.Goals as goal

pub returns-in-Some : goal.returns-in-Some
returns-in-Some c =
    as-many (members_of c.args.f.now) c.args.many c.worker_count.result c.worker_count.ensures c.in-Some.left _ c.in-Some.ensures (eqb-true c.in-Some.left 0, eq-eqb c.in-Some.left 0)

pub returns-in-None : goal.returns-in-None
returns-in-None c = not-as-many (members_of c.args.f.now) c.args.many c.worker_count.result c.worker_count.ensures (sym c.in-None.is ∙ c.left_behind.ensures)
