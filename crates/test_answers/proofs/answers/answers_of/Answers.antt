use Rattle.std.proofs.Common.{Bool, ◌∙◌, List, arith, refl, subst, sym}
use Rattle.type_model.specs.declared.atoms.AtomDef.{AtomDef}
use Rattle.type_model.specs.Calls.{Without}
use Rattle.type_model.specs.Defined.{IsDefined}
use Rattle.code_verifier.specs.Deciding.{DecidesSub}
use Rattle.code_verifier.proofs.Zipping.{zip-more}
use Rattle.test_answers.specs.ValueTypes.{AsksTested}
use Rattle.test_answers.proofs.Answering.{question-stops}
use Rattle.test_answers.proofs.answers.answers_of.Goals as goal

pub is_subtype-requires-clause-left : goal.is_subtype-requires-clause-left
is_subtype-requires-clause-left g c = subst (λ (env : List AtomDef). IsDefined env c.args.s.now) (sym c.loop-t.invariant.0) c.requires.left

pub loop-t-preserved : goal.loop-t-preserved
loop-t-preserved g c = (
  c.is_subtype.ensures.atoms ∙ c.loop-t.invariant.0,
  zip-more (DecidesSub (g.T.Types.atoms c.args.types.now) c.args.s.now) c.args.tested.now c.loop-t.answers.items _ c.loop-t.t-index c.t-item.result c.in_ok-below.below (omega arith) c.t-item.is c.loop-t.invariant.1
      (subst (λ (env : List AtomDef). DecidesSub env c.args.s.now c.t-item.result c.in_ok-below.below) c.loop-t.invariant.0 c.in_ok-below.ensures.answer) c.in_ok-push.ensures.items,
)

pub returns-in_err-below-clause-limit : goal.returns-in_err-below-clause-limit
returns-in_err-below-clause-limit g c =
    question-stops g.T.Types.passes (g.T.Types.atoms c.args.types.now) (g.T.Types.atoms c.loop-t.types) c.loop-t.invariant.0 Bool (List Bool) (AsksTested c.args.s.now c.args.tested.now)
    (Without c.args.s.now c.t-item.result) (c.t-item.result, (c.loop-t.t-index, c.loop-t-test.true, sym c.t-item.is), refl) _ _ c.from_residual.ensures c.in_err-below.ensures.limit
