use Rattle.check_words.proofs.Standing.{stands-beside}
use Rattle.check_work.specs.Views.{state_of}
use Rattle.needs_of_operators.proofs.Formed.{compares-come}
use Rattle.needs_of_operators.proofs.operators.compare.Goals as goal

pub returns-clause-stands : goal.returns-clause-stands
returns-clause-stands c = λ env own h. c.form.ensures.stands env own (stands-beside (state_of env c.args.work.now) h _ _ _ _)

pub returns-clause-comes : goal.returns-clause-comes
returns-clause-comes c = λ env own.
    compares-come (state_of env c.args.work.now) (state_of env c.form.new.work) _ c.in_ok-_ints._ints c.in_ok-_ints.ensures c.args.at c.args.op c.form.result (c.form.ensures.comes env own)
