use Rattle.std.proofs.Common.{◌≡◌, map, rules}
use Rattle.std.proofs.lemmas.Result.{IfOk-weaker}
use Rattle.check_work.specs.Views.{state_of, unit_of}
use Rattle.check_work.proofs.Noting.{at-hand}
use Rattle.seen_names.specs.Views.{seen_of}
use Rattle.needs_of_assignments.proofs.Putting.{as-assigned, assigned-comes}
use Rattle.needs_of_assignments.proofs.assigned.target.Goals as goal

pub returns : goal.returns
returns c = λ env.
    let all : c.as_slice-variables.result.now ≡ c.in_ok-unit.unit.now.here.variables.items = search rules in
    IfOk-weaker c.held.result _ _
    (λ what h.
    let a = as-assigned (seen_of c.seen_as.result) what h in (
      a.0,
      a.2,
      assigned-comes c.args.names.now c.args.name.now (state_of env c.args.work.now) (map unit_of c.args.work.now.around.items) (unit_of c.in_ok-unit.unit.now)
          (at-hand _ _ _ c.in_ok-unit.ensures) (seen_of c.seen_as.result) c.as_slice-variables.result.now c.seen_as.ensures all a.0 a.1,
    ))
    c.held.ensures
