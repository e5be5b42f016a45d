use Rattle.std.proofs.Common.{◌∙◌, sym}
use Rattle.check_work.specs.Views.{state_of}
use Rattle.check_work.proofs.Seeing.{new-comes, seen-refuses}
use Rattle.check_work.proofs.seen.new_name.Goals as goal

pub returns-in-true : goal.returns-in-true
returns-in-true c = λ env. seen-refuses c.args.w.now (state_of env c.args.work.now) c.duplicate.result (sym (c.is_seen.ensures env) ∙ c.in-true.is) c.duplicate.ensures

pub returns-in-false : goal.returns-in-false
returns-in-false c = λ env. new-comes c.args.w.now (state_of env c.args.work.now) (sym (c.is_seen.ensures env) ∙ c.in-false.is)
