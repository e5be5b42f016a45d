use Rattle.std.proofs.Common.{◌∙◌, refl, sym}
use Rattle.std.proofs.lemmas.Bool.{false≢true}
use Rattle.type_model.specs.Calls.{Without}
use Rattle.code_verifier.proofs.Leading.{fault-leads}
use Rattle.pair_questions.specs.Fitting.{AsksBeside, other_type}
use Rattle.pair_questions.proofs.MemberKeys.{beside-answered, members-other}
use Rattle.pair_questions.proofs.fitting.fits_others.Goals as goal

pub is_other-requires-clause-other : goal.is_other-requires-clause-other
is_other-requires-clause-other g c = let env = g.T.Types.atoms c.args.types.now in members-other env env refl c.args.members c.requires.members

pub returns-in-true-clause-told : goal.returns-in-true-clause-told
returns-in-true-clause-told g c =
    let env = g.T.Types.atoms c.args.types.now in
    beside-answered env c.args.pair c.args.members ((c.has_beside.ensures env).0 c.in-true.is) c.is_other.result c.is_other.ensures.answer

pub returns-in-true-clause-limit : goal.returns-in-true-clause-limit
returns-in-true-clause-limit g c =
    let env = g.T.Types.atoms c.args.types.now in
    fault-leads g.T.Types.passes env (AsksBeside env c.args.members c.args.pair) (Without c.args.pair.value.now (other_type c.args.members.rest.now))
    ((c.has_beside.ensures env).0 c.in-true.is, refl) c.is_other.result c.is_other.ensures.limit

pub returns-in-false-clause-told : goal.returns-in-false-clause-told
returns-in-false-clause-told g c = λ has. absurd (false≢true (sym c.in-false.is ∙ (c.has_beside.ensures (g.T.Types.atoms c.args.types.now)).1 has))
