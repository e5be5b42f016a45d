use Rattle.std.proofs.Common.{All, length, subst, sym}
use Rattle.check_words.specs.Stands.{PartBelow}
use Rattle.check_words.specs.Words.{UnionOf, sem}
use Rattle.check_work.specs.Views.{state_of}
use Rattle.needs_of_values.specs.Parts.{OfLastTwo}
use Rattle.needs_of_values.proofs.Chosen.{chooses-come, chooses-stand}
use Rattle.needs_of_values.proofs.Pairs.{holds-too, two-of-three}
use Rattle.needs_of_values.proofs.choosing.choose.Goals as goal

pub type_of_choice-requires : goal.type_of_choice-requires
type_of_choice-requires g c =
    let env = g.T.Types.atoms c.args.types.now in
    subst (All (PartBelow (length env))) (sym c.as_slice.ensures.value) (c.in_ok-forget_choice.ensures.stands env c.requires).found

pub returns-clause-stands : goal.returns-clause-stands
returns-clause-stands g c =
    let env = g.T.Types.atoms c.args.types.now in
    let m = c.in_ok-put_conditional.ensures in
    chooses-stand (state_of env c.args.work.now) (state_of env c.forget_choice.new.work) c.args.at m.a m.b m.c m.e _ _ m.made m.after (c.in_ok-forget_choice.ensures.stands env c.requires) c.in_ok-ty.ensures.below

pub returns-clause-comes : goal.returns-clause-comes
returns-clause-comes g c =
    let env = g.T.Types.atoms c.args.types.now in
    let m = c.in_ok-put_conditional.ensures in
    let two = subst (OfLastTwo (λ a b. UnionOf (sem a) (sem b) env c.in_ok-ty.ty.value)) c.as_slice.ensures.value c.in_ok-ty.ensures.is in
    chooses-come (state_of env c.args.work.now) (state_of env c.forget_choice.new.work) c.args.at m.a m.b m.c m.e _ _ m.made m.after (c.in_ok-forget_choice.ensures.comes env) m.last
    (holds-too (λ a b. UnionOf (sem a) (sem b) env c.in_ok-ty.ty.value) _ two.a two.b m.b m.c two.last two.holds (two-of-three _ m.a m.b m.c m.last))
