use Rattle.std.proofs.Common.{◌∙◌, IfOk, List, inl, inr, refl, subst, sym}
use Rattle.type_model.specs.declared.answers.Answer.{Answer}
use Rattle.type_model.specs.declared.atoms.AtomDef.{AtomDef}
use Rattle.type_model.specs.Defined.{IsDefined}
use Rattle.pair_questions.specs.Fitting.{AreMembers, AsksBeside, AsksFit, AsksNamed, TellsBeside}
use Rattle.pair_questions.proofs.MemberKeys.{no-told, others-answered}
use Rattle.pair_questions.proofs.Stopping.{handed-on, led-on}
use Rattle.pair_questions.proofs.fitting.fits_fields.Goals as goal

pub fits_others-requires-clause-members : goal.fits_others-requires-clause-members
fits_others-requires-clause-members g c = subst (λ (env : List AtomDef). AreMembers env c.args.members) (sym c.fits_named.ensures.atoms) c.requires.members

pub fits_others-requires-clause-value : goal.fits_others-requires-clause-value
fits_others-requires-clause-value g c = subst (λ (env : List AtomDef). IsDefined env c.args.pair.value.now) (sym c.fits_named.ensures.atoms) c.requires.value

pub returns-in_err-shape-clause-limit : goal.returns-in_err-shape-clause-limit
returns-in_err-shape-clause-limit g c =
    let env = g.T.Types.atoms c.args.types.now in
    handed-on g.T.Types.passes Answer Answer (λ e asked. AsksNamed e c.args.members c.args.pair asked) (AsksFit env c.args.members c.args.pair) env env refl (λ asked leads. inl leads) _ _ c.from_residual.ensures c.in_err-shape.ensures.limit

pub returns-in-No-clause-answers : goal.returns-in-No-clause-answers
returns-in-No-clause-answers g c = no-told (g.T.Types.atoms c.args.types.now) c.args.pair c.args.members c.requires.members.0 c.in-No.shape c.in_ok-shape.field-0 c.in-No.is c.in_ok-shape.ensures.told

pub returns-clause-atoms : goal.returns-clause-atoms
returns-clause-atoms g c = c.fits_others.ensures.atoms ∙ c.fits_named.ensures.atoms

pub returns-clause-answers : goal.returns-clause-answers
returns-clause-answers g c =
    let env = g.T.Types.atoms c.args.types.now in
    others-answered env c.args.pair c.args.members c.in_ok-shape.field-0 c.in_default.is c.in_ok-shape.ensures.told c.fits_others.result
    (subst (λ (e : List AtomDef). IfOk c.fits_others.result (TellsBeside e c.args.members c.args.pair)) c.fits_named.ensures.atoms c.fits_others.ensures.told)

pub returns-clause-limit : goal.returns-clause-limit
returns-clause-limit g c =
    let env = g.T.Types.atoms c.args.types.now in
    led-on g.T.Types.passes (λ e asked. AsksBeside e c.args.members c.args.pair asked) (AsksFit env c.args.members c.args.pair) env (g.T.Types.atoms c.fits_named.new.types) c.fits_named.ensures.atoms (λ asked leads. inr leads)
    c.fits_others.result c.fits_others.ensures.limit
