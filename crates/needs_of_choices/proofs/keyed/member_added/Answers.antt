use Rattle.std.proofs.Common.{length}
use Rattle.flow_narrowing.specs.Flows.{IfShared}
use Rattle.type_model.specs.Defined.{TyBelow}
use Rattle.check_words.specs.Stands.{PartBelow}
use Rattle.check_words.proofs.Standing.{last-has}
use Rattle.check_work.specs.Views.{constructor_of, state_of}
use Rattle.needs_of_choices.proofs.MembersByKeys.{member-fits}
use Rattle.needs_of_choices.proofs.keyed.member_added.Goals as goal

pub member_fitted-requires-clause-want : goal.member_fitted-requires-clause-want
member_fitted-requires-clause-want g c = last-has (IfShared (TyBelow (length (g.T.Types.atoms c.args.types.now)))) _ _ c.in-Some.ensures.want c.requires.stands.wants

pub member_fitted-requires-clause-part : goal.member_fitted-requires-clause-part
member_fitted-requires-clause-part g c = last-has (PartBelow (length (g.T.Types.atoms c.args.types.now))) _ _ c.in-Some.ensures.part c.requires.stands.found

pub returns-in-Some-clause-comes : goal.returns-in-Some-clause-comes
returns-in-Some-clause-comes g c =
    let s = state_of (g.T.Types.atoms c.args.types.now) c.args.work.now in
    let member = c.in-Some.member in
    member-fits g.T.Types.passes c.args.at s (constructor_of member.constructor.now) member.part.now c.member_fitted.result _ c.in-Some.ensures.constructor c.in-Some.ensures.part member.want.now
    c.in-Some.ensures.want c.member_fitted.ensures.comes
