use Rattle.std.proofs.Common.{subst}
use Rattle.check_kinds.proofs.Over.{over-at}
use Rattle.check_words.specs.Words.{OfKind, is_within}
use Rattle.check_words.specs.State.{IsLast}
use Rattle.check_work.specs.Views.{state_of}
use Rattle.needs_of_members.proofs.Fronts.{at-last, last-defined}
use Rattle.needs_of_members.proofs.accesses.require_last.Goals as goal

pub require_kind-requires-clause-defined : goal.require_kind-requires-clause-defined
require_kind-requires-clause-defined g c = last-defined (state_of (g.T.Types.atoms c.args.types.now) c.args.work.now) _ _ (subst (λ xs. IsLast xs c.in-Some.e.now) c.as_slice.ensures.value c.in-Some.ensures) c.shapes_of.ensures c.requires.stands

pub returns-in-Some-clause-comes : goal.returns-in-Some-clause-comes
returns-in-Some-clause-comes g c = let s = state_of (g.T.Types.atoms c.args.types.now) c.args.work.now in
    at-last s _ _ (subst (λ xs. IsLast xs c.in-Some.e.now) c.as_slice.ensures.value c.in-Some.ensures) c.shapes_of.ensures (λ m. is_within g.T.Types.passes (OfKind c.args.kind) m c.args.at) _ _ (over-at _ s _ _ c.require_kind.ensures.comes)
