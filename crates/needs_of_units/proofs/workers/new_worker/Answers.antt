use Rattle.std.proofs.Common.{◌∙◌, map}
use Rattle.check_work.specs.Views.{state_of, unit_of}
use Rattle.check_work.proofs.Noting.{at-hand}
use Rattle.needs_of_units.proofs.Working.{taken-is, worker-new, worker-refused}
use Rattle.needs_of_units.proofs.workers.new_worker.Goals as goal

pub returns-in-true : goal.returns-in-true
returns-in-true c = λ env.
    worker-refused (state_of env c.args.work.now) (map unit_of c.args.work.now.around.items) (unit_of c.in_ok-unit.unit.now) (at-hand _ _ _ c.in_ok-unit.ensures) c.args.w.now
    c.args.number c.duplicate.result (taken-is (unit_of c.in_ok-unit.unit.now) c.args.work.now.site.workers.items _ c.args.w.now.name.name c.args.number c.is_taken.result c.as_slice-names.ensures.value c.is_taken.ensures ∙ c.in-true.is) c.duplicate.ensures

pub returns-in-false : goal.returns-in-false
returns-in-false c = λ env.
    worker-new (state_of env c.args.work.now) (map unit_of c.args.work.now.around.items) (unit_of c.in_ok-unit.unit.now) (at-hand _ _ _ c.in_ok-unit.ensures) c.args.w.now
    c.args.number (taken-is (unit_of c.in_ok-unit.unit.now) c.args.work.now.site.workers.items _ c.args.w.now.name.name c.args.number c.is_taken.result c.as_slice-names.ensures.value c.is_taken.ensures ∙ c.in-false.is)
