use Rattle.std.proofs.Common.{subst}
use Rattle.check_kinds.proofs.Over.{over-at}
use Rattle.check_words.specs.Words.{PartOf, whether_some}
use Rattle.type_model.specs.Basic.{InBasic}
use Rattle.check_words.specs.State.{IsLast}
use Rattle.check_work.specs.Views.{state_of}
use Rattle.needs_of_members.proofs.Fronts.{at-last, last-defined}
use Rattle.needs_of_members.proofs.accesses.has_shapes.Goals as goal

pub has_part-requires : goal.has_part-requires
has_part-requires g c = last-defined (state_of (g.T.Types.atoms c.args.types.now) c.args.work.now) _ _ (subst (λ xs. IsLast xs c.in-Some.e.now) c.as_slice.ensures.value c.in-Some.ensures) c.shapes_of.ensures c.requires

pub returns-in-Some-clause-comes : goal.returns-in-Some-clause-comes
returns-in-Some-clause-comes g c = let s = state_of (g.T.Types.atoms c.args.types.now) c.args.work.now in
    at-last s _ _ (subst (λ xs. IsLast xs c.in-Some.e.now) c.as_slice.ensures.value c.in-Some.ensures) c.shapes_of.ensures (λ m. whether_some g.T.Types.passes (PartOf m (λ x. InBasic x c.args.set)) c.args.at) _ _ (over-at _ s _ _ c.has_part.ensures.comes)
