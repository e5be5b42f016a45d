use Rattle.check_words.proofs.Standing.{stands-beside}
use Rattle.check_work.specs.Views.{state_of}
use Rattle.needs_of_operators.proofs.Formed.{adds-come}
use Rattle.needs_of_operators.proofs.operators.add_up.Goals as goal

pub returns-clause-stands : goal.returns-clause-stands
returns-clause-stands c = λ env own h. c.form.ensures.stands env own (stands-beside (state_of env c.args.work.now) h _ _ _ _)

pub returns-clause-comes : goal.returns-clause-comes
returns-clause-comes c = λ env own.
    adds-come (state_of env c.args.work.now) (state_of env c.form.new.work) _ c.in_ok-ints.ints c.in_ok-ints.ensures c.args.at c.operator_of.result c.sort_kind.result c.form.result
    c.operator_of.ensures c.sort_kind.ensures (c.form.ensures.comes env own)
