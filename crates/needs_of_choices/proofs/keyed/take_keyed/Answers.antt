use Rattle.std.proofs.Common.{length, subst, sym}
use Rattle.type_model.specs.Defined.{TyBelow}
use Rattle.check_words.specs.Constructors.{is_member}
use Rattle.check_words.specs.Words.{Atoms}
use Rattle.check_work.specs.Views.{state_of}
use Rattle.needs_of_structures.proofs.Answering.{kept-same, stands-over}
use Rattle.needs_of_structures.proofs.Fitting.{taken-stands}
use Rattle.needs_of_choices.proofs.MembersByKeys.{member-refused, member-taken}
use Rattle.needs_of_structures.proofs.Made.{lifted-comes, lifted-on}
use Rattle.needs_of_structures.proofs.Opening.{on-then}
use Rattle.needs_of_choices.proofs.keyed.take_keyed.Goals as goal

pub returns-in-Ok-clause-kept : goal.returns-in-Ok-clause-kept
returns-in-Ok-clause-kept g c = kept-same _ _ c.member_added.ensures.atoms

pub returns-in-Err-clause-kept : goal.returns-in-Err-clause-kept
returns-in-Err-clause-kept g c = kept-same _ _ c.member_added.ensures.atoms

pub returns-in-Ok-clause-stands : goal.returns-in-Ok-clause-stands
returns-in-Ok-clause-stands g c =
    let old = g.T.Types.atoms c.args.types.now in
    let env = g.T.Types.atoms c.member_added.new.types in
    lifted-on _ c.take_member.result c.lift.result c.lift.ensures
    (on-then _ _ c.take_member.result
    (λ t. taken-stands (state_of env c.args.work.now) (stands-over (state_of old c.args.work.now) env c.member_added.ensures.atoms c.requires.stands) c.in-Ok.ty
    (subst (λ (n : Atoms). TyBelow (length n) c.in-Ok.ty) (sym c.member_added.ensures.atoms) c.in-Ok.ensures.below) _ t) (c.take_member.ensures env))

pub returns-in-Ok-clause-comes : goal.returns-in-Ok-clause-comes
returns-in-Ok-clause-comes g c =
    let s = state_of (g.T.Types.atoms c.args.types.now) c.args.work.now in
    let env = g.T.Types.atoms c.member_added.new.types in
    lifted-comes (is_member g.T.Types.passes c.args.at) s _ c.take_member.result c.lift.result c.lift.ensures
    (on-then _ _ c.take_member.result (λ t. member-taken g.T.Types.passes c.args.at s env c.in-Ok.ty _ c.in-Ok.ensures.comes t) (c.take_member.ensures env))

pub returns-in-Err-clause-comes : goal.returns-in-Err-clause-comes
returns-in-Err-clause-comes g c =
    member-refused g.T.Types.passes c.args.at (state_of (g.T.Types.atoms c.args.types.now) c.args.work.now) (g.T.Types.atoms c.member_added.new.types) c.in-Err.stop _ c.in-Err.ensures.comes
