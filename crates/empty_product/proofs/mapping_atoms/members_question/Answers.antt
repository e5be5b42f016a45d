use Rattle.std.proofs.Common.{arith, get_or, [], refl}
use Rattle.type_diagrams.proofs.AskedDiagrams.{and_Gives, then_all, then_on, gives_as, one_more_wanted}
use Rattle.empty_product.proofs.mapping_atoms.members_question.Goals as goal
use Rattle.type_diagrams.specs.Conditions.{everything, asks}
use Rattle.type_diagrams.specs.Members.{member_of}
use Rattle.type_diagrams.proofs.Asking.{asks_nothing}
use Rattle.type_diagrams.proofs.Keeping.{extends-more}

pub returns-in_err-question-clause-extends : goal.returns-in_err-question-clause-extends
returns-in_err-question-clause-extends c = extends-more _ _ _ c.every.ensures.extends

pub loop-atom-init : goal.loop-atom-init
loop-atom-init c = (
  extends-more _ c.args.dia.now c.every.new.self c.every.ensures.extends,
  gives_as c.every.new.self everything (asks [] []) c.in_ok-question.question asks_nothing c.in_ok-question.ensures.condition,
)

pub returns-in_err-asked-clause-extends : goal.returns-in_err-asked-clause-extends
returns-in_err-asked-clause-extends c = then_all _ _ _ _ c.loop-atom.invariant.0 c.member_question.ensures.extends

pub returns-in_err-question-2-clause-extends : goal.returns-in_err-question-2-clause-extends
returns-in_err-question-2-clause-extends c = then_on _ _ _ _ (then_all _ _ _ _ c.loop-atom.invariant.0 c.member_question.ensures.extends) c.inter.ensures.extends

pub loop-atom-preserved : goal.loop-atom-preserved
loop-atom-preserved c =
    let env = c.args.env.now in
    let key = c.args.key.now in
    let atoms = c.args.atoms.now in
    let i = c.loop-atom.atom-index in
    let q = c.loop-atom.question in
    let gives = c.loop-atom.invariant.1 in
    let d = member_of env key (get_or atoms i 0) in
    let both = and_Gives c.loop-atom.dia c.member_question.new.dia c.inter.new.self d q c.in_ok-asked.asked c.in_ok-question-2.question gives.diagram c.member_question.ensures.extends.keeps c.in_ok-asked.ensures.made c.in_ok-question-2.ensures.condition in (
      then_on _ _ _ _ (then_all _ _ _ _ c.loop-atom.invariant.0 c.member_question.ensures.extends) c.inter.ensures.extends,
      one_more_wanted (member_of env key) atoms i (omega arith) d refl c.loop-atom.dia c.inter.new.self q c.in_ok-question-2.question [] gives both,
    )
