use Rattle.std.proofs.Common.{arith, ◌≡◌, get_or, subst, [], ◌∷◌}
use Rattle.type_diagrams.proofs.AskedDiagrams.{then_all, one_more_unwanted}
use Rattle.empty_arrow.proofs.errors.outside_parts.Goals as goal
use Rattle.type_diagrams.specs.Tables.{condition}
use Rattle.type_diagrams.specs.Conditions.{condition_of}
use Rattle.empty_arrow.specs.Parts.{part_of}

pub returns-in_err-question-clause-extends : goal.returns-in_err-question-clause-extends
returns-in_err-question-clause-extends c = then_all _ _ _ _ c.loop-atom.invariant.0 c.outside.ensures.extends

pub loop-atom-preserved : goal.loop-atom-preserved
loop-atom-preserved c = (
  then_all _ _ _ _ c.loop-atom.invariant.0 c.outside.ensures.extends,
  one_more_unwanted (part_of c.args.env.now) c.args.atoms.now c.loop-atom.atom-index (omega arith) (condition_of c.args.env.now c.part.result.now) (subst (λ e. part_of e (get_or c.args.atoms.now c.loop-atom.atom-index 0) ≡ condition_of e c.part.result.now) c.defs-defs.ensures.value c.part.ensures.asks) c.loop-atom.dia c.outside.new.dia c.loop-atom.question c.in_ok-question.question (condition c.args.dia.now c.args.a ∷ []) c.loop-atom.invariant.1 c.in_ok-question.ensures.made,
)
