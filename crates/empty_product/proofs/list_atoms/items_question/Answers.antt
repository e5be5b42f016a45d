use Rattle.std.proofs.Common.{arith, [], get_or, refl}
use Rattle.type_diagrams.specs.Conditions.{everything, asks}
use Rattle.type_diagrams.specs.Members.{item_of}
use Rattle.type_diagrams.proofs.Asking.{asks_nothing}
use Rattle.type_diagrams.proofs.AskedDiagrams.{then_on, then_all, gives_as, and_Gives, one_more_wanted}
use Rattle.type_diagrams.proofs.Keeping.{extends-more}
use Rattle.empty_product.proofs.list_atoms.items_question.Goals as goal

pub returns-in_err-question-clause-extends : goal.returns-in_err-question-clause-extends
returns-in_err-question-clause-extends c = extends-more _ _ _ c.every.ensures.extends

pub loop-atom-init : goal.loop-atom-init
loop-atom-init c = (
  extends-more _ c.args.dia.now c.every.new.self c.every.ensures.extends,
  gives_as c.every.new.self everything (asks [] []) c.in_ok-question.question asks_nothing c.in_ok-question.ensures.condition,
)

pub returns-in_err-asked-clause-extends : goal.returns-in_err-asked-clause-extends
returns-in_err-asked-clause-extends c = then_all _ _ _ _ c.loop-atom.invariant.0 c.item_question.ensures.extends

pub returns-in_err-question-2-clause-extends : goal.returns-in_err-question-2-clause-extends
returns-in_err-question-2-clause-extends c = then_on _ _ _ _ (then_all _ _ _ _ c.loop-atom.invariant.0 c.item_question.ensures.extends) c.inter.ensures.extends

pub loop-atom-preserved : goal.loop-atom-preserved
loop-atom-preserved c =
    let d = item_of c.args.env.now c.args.place (get_or c.args.atoms.now c.loop-atom.atom-index 0) in (
      then_on _ _ _ _ (then_all _ _ _ _ c.loop-atom.invariant.0 c.item_question.ensures.extends) c.inter.ensures.extends,
      one_more_wanted (item_of c.args.env.now c.args.place) c.args.atoms.now c.loop-atom.atom-index (omega arith) d refl c.loop-atom.dia c.inter.new.self c.loop-atom.question c.in_ok-question-2.question [] c.loop-atom.invariant.1
          (and_Gives c.loop-atom.dia c.item_question.new.dia c.inter.new.self d c.loop-atom.question c.in_ok-asked.asked c.in_ok-question-2.question c.loop-atom.invariant.1.diagram c.item_question.ensures.extends.keeps c.in_ok-asked.ensures.made c.in_ok-question-2.ensures.condition),
    )
