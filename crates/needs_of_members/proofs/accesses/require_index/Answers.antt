use Rattle.std.proofs.Common.{subst}
use Rattle.checks.specs.Checks.{Comes}
use Rattle.check_words.specs.Words.{is_of}
use Rattle.check_words.proofs.Coming.{given, next}
use Rattle.check_words.specs.State.{IsLast}
use Rattle.check_work.specs.Views.{state_of}
use Rattle.needs_of_members.proofs.accesses.require_index.Goals as goal

pub returns-in-Some-clause-comes : goal.returns-in-Some-clause-comes
returns-in-Some-clause-comes g c = let s = state_of (g.T.Types.atoms c.args.types.now) c.args.work.now in
    next _ _ _ _ _ c.in-Some.access.now s (given _ s _ (subst (λ xs. IsLast xs c.in-Some.access.now) c.as_slice.ensures.value c.in-Some.ensures))
    (subst (λ k. Comes (is_of g.T.Types.passes k c.args.at) s c.require_last.result (state_of (g.T.Types.atoms c.require_last.new.types) c.args.work.now)) c.index_kind.ensures c.require_last.ensures.comes)
