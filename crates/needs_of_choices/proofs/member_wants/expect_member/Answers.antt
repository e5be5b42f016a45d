use Rattle.std.proofs.Common.{◌∙◌, List, map, subst}
use Rattle.type_model.specs.Defined.{IsClosed}
use Rattle.check_words.specs.Constructors.{IsMemberWant}
use Rattle.check_words.specs.State.{IsLast}
use Rattle.check_work.specs.declared.work.Constructor.{Constructor}
use Rattle.check_work.specs.Views.{constructor_of, state_of}
use Rattle.needs_of_structures.proofs.Wanted.{wanted-stands}
use Rattle.needs_of_choices.proofs.WantedByKeys.{member-want-below, member-wanted}
use Rattle.needs_of_choices.proofs.member_wants.expect_member.Goals as goal

pub returns-clause-stands : goal.returns-clause-stands
returns-clause-stands g c = λ h.
    let env = g.T.Types.atoms c.args.types.now in
    let same = c.defs.ensures.value ∙ c.env.ensures in
    let w = c.in_ok-want.ensures in
    wanted-stands (state_of env c.args.work.now) c.in_ok-want.want _ c.in_ok-push.ensures.items h
    (member-want-below env w.0 c.in_ok-want.want (subst IsClosed c.env.ensures c.defs.ensures.env.closed) (subst (λ e. IsMemberWant e w.0 c.in_ok-want.want) same w.2))

pub returns-clause-comes : goal.returns-clause-comes
returns-clause-comes g c =
    let env = g.T.Types.atoms c.args.types.now in
    let w = c.in_ok-want.ensures in
    member-wanted (state_of env c.args.work.now) c.in_ok-want.want _ c.in_ok-push.ensures.items w.0
    (subst (λ (cs : List Constructor). IsLast (map constructor_of cs) w.0) c.as_slice.ensures.value w.1) (subst (λ e. IsMemberWant e w.0 c.in_ok-want.want) (c.defs.ensures.value ∙ c.env.ensures) w.2)
