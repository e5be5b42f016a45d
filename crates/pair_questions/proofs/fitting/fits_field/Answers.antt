use Rattle.std.proofs.Common.{refl}
use Rattle.type_model.specs.Calls.{Without}
use Rattle.code_verifier.proofs.Leading.{fault-leads}
use Rattle.pair_questions.specs.Fitting.{AsksField}
use Rattle.pair_questions.proofs.MemberKeys.{field-answered, may-be, never-name}
use Rattle.pair_questions.proofs.fitting.fits_field.Goals as goal

pub returns-in-true-clause-told : goal.returns-in-true-clause-told
returns-in-true-clause-told g c =
    let env = g.T.Types.atoms c.args.types.now in
    let f = c.args.field.now in
    field-answered env c.args.pair f c.as_str-characters.ensures.scalars (may-be env c.args.pair f c.type_has.result c.in-true.is c.type_has.ensures) c.sub.result c.sub.ensures.answer

pub returns-in-true-clause-limit : goal.returns-in-true-clause-limit
returns-in-true-clause-limit g c =
    let env = g.T.Types.atoms c.args.types.now in
    let f = c.args.field.now in
    fault-leads g.T.Types.passes env (AsksField env c.args.pair f) (Without c.args.pair.value.now f.ty.sem) (may-be env c.args.pair f c.type_has.result c.in-true.is c.type_has.ensures, refl) c.sub.result c.sub.ensures.limit

pub returns-in-false-clause-told : goal.returns-in-false-clause-told
returns-in-false-clause-told g c = never-name (g.T.Types.atoms c.args.types.now) c.args.pair c.args.field.now c.type_has.result c.in-false.is c.type_has.ensures
