use Rattle.std.proofs.Common.{arith, ◌≡◌, get_or, subst, []}
use Rattle.type_diagrams.proofs.AskedDiagrams.{then_all, gives_as, one_more_wanted}
use Rattle.empty_arrow.proofs.questions.within_parts.Goals as goal
use Rattle.type_diagrams.specs.Conditions.{condition_of, everything, asks}
use Rattle.type_diagrams.proofs.Asking.{asks_nothing}
use Rattle.type_diagrams.proofs.Keeping.{extends-more}
use Rattle.empty_arrow.specs.Parts.{part_of}

pub returns-in_err-question-clause-extends : goal.returns-in_err-question-clause-extends
returns-in_err-question-clause-extends c = extends-more _ _ _ c.every.ensures.extends

pub loop-atom-init : goal.loop-atom-init
loop-atom-init c = (
  extends-more _ c.args.dia.now c.every.new.self c.every.ensures.extends,
  gives_as c.every.new.self everything (asks [] []) c.in_ok-question.question asks_nothing c.in_ok-question.ensures.condition,
)

pub returns-in_err-question-2-clause-extends : goal.returns-in_err-question-2-clause-extends
returns-in_err-question-2-clause-extends c = then_all _ _ _ _ c.loop-atom.invariant.0 c.within.ensures.extends

pub loop-atom-preserved : goal.loop-atom-preserved
loop-atom-preserved c = (
  then_all _ _ _ _ c.loop-atom.invariant.0 c.within.ensures.extends,
  one_more_wanted (part_of c.args.env.now) c.args.atoms.now c.loop-atom.atom-index (omega arith) (condition_of c.args.env.now c.part.result.now) (subst (λ e. part_of e (get_or c.args.atoms.now c.loop-atom.atom-index 0) ≡ condition_of e c.part.result.now) c.defs-defs.ensures.value c.part.ensures.asks) c.loop-atom.dia c.within.new.dia c.loop-atom.question c.in_ok-question-2.question [] c.loop-atom.invariant.1 c.in_ok-question-2.ensures.made,
)
