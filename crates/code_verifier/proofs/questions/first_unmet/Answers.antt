use Rattle.std.proofs.Common.{◌∙◌, All, List, subst, refl, sym}
use Rattle.std.proofs.lemmas.List.{take_all}
use Rattle.std.proofs.lemmas.List.Elements.{All-more}
use Rattle.type_model.specs.declared.answers.Answer.{Answer}
use Rattle.type_model.specs.declared.atoms.AtomDef.{AtomDef}
use Rattle.code_verifier.specs.Asked.{Answers}
use Rattle.code_verifier.specs.KindSets.{AreKnown}
use Rattle.code_verifier.specs.Questions.{IsYes, need_of}
use Rattle.code_verifier.proofs.questions.first_unmet.Goals as goal

pub ask-requires-clause-known : goal.ask-requires-clause-known
ask-requires-clause-known g c = subst (λ (env : List AtomDef). AreKnown env c.args.known.now) (sym c.loop-question.invariant.0) c.requires.known

pub loop-question-preserved : goal.loop-question-preserved
loop-question-preserved g c =
    let q = c.question-item.result in
    let yes = subst (λ (a : Answer). Answers (g.T.Types.atoms c.loop-question.types) (need_of q) a) c.in_default.is c.in_ok-shape.ensures.answers in
    let here = subst (λ (env : List AtomDef). IsYes env q) c.loop-question.invariant.0 yes in (
      c.ask.ensures.atoms ∙ c.loop-question.invariant.0,
      All-more (IsYes (g.T.Types.atoms c.args.types.now)) c.args.questions.now c.loop-question.question-index q c.loop-question-test.true c.loop-question.invariant.1
          (subst (λ x. IsYes (g.T.Types.atoms c.args.types.now) x) c.question-item.is here),
      refl,
    )

pub returns-clause-answered : goal.returns-clause-answered
returns-clause-answered g c =
    subst (λ qs. All (IsYes (g.T.Types.atoms c.args.types.now)) qs) (take_all c.loop-question.question-index c.args.questions.now c.loop-question-test.false) c.loop-question.invariant.1
