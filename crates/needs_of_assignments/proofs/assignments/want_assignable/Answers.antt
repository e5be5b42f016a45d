use Rattle.std.proofs.Common.{◌≡◌, Err, Ok, OnOk, length, map, rules, subst, sym}
use Rattle.std.proofs.lemmas.Result.{on_ok_weaker}
use Rattle.checks.specs.Checks.{Comes}
use Rattle.check_words.specs.Stands.{Stands}
use Rattle.check_words.specs.Statements.{is_assignable}
use Rattle.check_work.specs.Views.{state_of, unit_of}
use Rattle.check_work.proofs.Noting.{at-hand, made-comes, made-on}
use Rattle.seen_names.specs.Views.{seen_of}
use Rattle.needs_of_assignments.proofs.Putting.{assignable-comes, found-below}
use Rattle.needs_of_assignments.proofs.assignments.want_assignable.Goals as goal

pub returns-in-Ok-clause-stands : goal.returns-in-Ok-clause-stands
returns-in-Ok-clause-stands c = λ env are h.
    let all : c.as_slice-variables.result.now ≡ c.in_ok-unit.unit.now.here.variables.items = search rules in
    subst (λ r. OnOk r (Stands (state_of env c.want.new.work))) (sym c.lift.ensures)
    (made-on _ c.want.result
    (c.want.ensures.stands env
    (c.in-Ok.ensures.below (length env)
    (found-below c.args.names.now c.args.name.now (state_of env c.args.work.now) (map unit_of c.args.work.now.around.items) (unit_of c.in_ok-unit.unit.now)
    (at-hand _ _ _ c.in_ok-unit.ensures) (seen_of c.seen_as-seen.result) c.as_slice-variables.result.now c.seen_as-seen.ensures all are h))
    h))

pub returns-in-Ok-clause-comes : goal.returns-in-Ok-clause-comes
returns-in-Ok-clause-comes c = λ env.
    let s = state_of env c.args.work.now in
    let all : c.as_slice-variables.result.now ≡ c.in_ok-unit.unit.now.here.variables.items = search rules in
    subst (λ r. Comes (is_assignable c.args.names.now c.args.name.now) s r (state_of env c.want.new.work)) (sym c.lift.ensures)
    (made-comes _ _ _ c.want.result
    (on_ok_weaker c.want.result
    (λ e.
    subst (λ n. Comes (is_assignable c.args.names.now c.args.name.now) s (Ok tt) n) (sym e)
    (assignable-comes c.args.names.now c.args.name.now s (map unit_of c.args.work.now.around.items) (unit_of c.in_ok-unit.unit.now) (at-hand _ _ _ c.in_ok-unit.ensures)
    (seen_of c.seen_as-seen.result) c.as_slice-variables.result.now c.seen_as-seen.ensures all (Ok c.in-Ok.ty) c.in-Ok.ensures.wants))
    (c.want.ensures.put env)))

pub returns-in-Err-clause-comes : goal.returns-in-Err-clause-comes
returns-in-Err-clause-comes c = λ env.
    let all : c.as_slice-variables.result.now ≡ c.in_ok-unit.unit.now.here.variables.items = search rules in
    assignable-comes c.args.names.now c.args.name.now (state_of env c.args.work.now) (map unit_of c.args.work.now.around.items) (unit_of c.in_ok-unit.unit.now)
    (at-hand _ _ _ c.in_ok-unit.ensures) (seen_of c.seen_as-seen.result) c.as_slice-variables.result.now c.seen_as-seen.ensures all (Err c.in-Err.stop) c.in-Err.ensures.wants
