use Rattle.std.proofs.Common.{◌≡◌, Ok, length, map, rules, subst, sym}
use Rattle.checks.specs.Checks.{Comes}
use Rattle.check_words.specs.Statements.{reads_assigned}
use Rattle.check_words.proofs.Coming.{next}
use Rattle.check_work.specs.Views.{state_of, unit_of}
use Rattle.check_work.proofs.Noting.{at-hand}
use Rattle.seen_names.specs.Views.{seen_of}
use Rattle.needs_of_assignments.proofs.Putting.{as-read, assigned-comes, found-below}
use Rattle.needs_of_assignments.proofs.assignments.want_read.Goals as goal

pub returns-clause-stands : goal.returns-clause-stands
returns-clause-stands c = λ env are h.
    let all : c.as_slice-variables.result.now ≡ c.in_ok-unit.unit.now.here.variables.items = search rules in
    c.in_ok-want.ensures.stands env
    (c.in_ok-ty.ensures.below (length env)
    (found-below c.args.names.now c.args.name.now (state_of env c.args.work.now) (map unit_of c.args.work.now.around.items) (unit_of c.in_ok-unit.unit.now)
    (at-hand _ _ _ c.in_ok-unit.ensures) (seen_of c.seen_as.result) c.as_slice-variables.result.now c.seen_as.ensures all are h))
    h

pub returns-clause-comes : goal.returns-clause-comes
returns-clause-comes c = λ env.
    let s = state_of env c.args.work.now in
    let all : c.as_slice-variables.result.now ≡ c.in_ok-unit.unit.now.here.variables.items = search rules in
    let a = as-read (seen_of c.seen_as.result) c.in_ok-ty.ty c.in_ok-ty.ensures.is in
    next _ _ _ _ _ a.0 s
    (assigned-comes c.args.names.now c.args.name.now s (map unit_of c.args.work.now.around.items) (unit_of c.in_ok-unit.unit.now) (at-hand _ _ _ c.in_ok-unit.ensures)
    (seen_of c.seen_as.result) c.as_slice-variables.result.now c.seen_as.ensures all a.0 a.1)
    (subst (λ n. Comes (reads_assigned a.0) s (Ok tt) n) (sym (c.in_ok-want.ensures.put env)) (a.2 s))
