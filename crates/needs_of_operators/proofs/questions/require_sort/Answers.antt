use Rattle.std.proofs.Common.{subst}
use Rattle.check_words.specs.State.{IsLast}
use Rattle.check_work.specs.Views.{state_of}
use Rattle.needs_of_operators.proofs.Asked.{is-sort-comes}
use Rattle.needs_of_operators.proofs.questions.require_sort.Goals as goal

pub returns-in-Some-clause-comes : goal.returns-in-Some-clause-comes
returns-in-Some-clause-comes g c =
    is-sort-comes g.T.Types.passes (state_of (g.T.Types.atoms c.args.types.now) c.args.work.now) c.args.at c.require_of.result c.in-Some.ints.now c.sort_kind.result _
    (subst (λ xs. IsLast xs c.in-Some.ints.now) c.as_slice.ensures.value c.in-Some.ensures) c.sort_kind.ensures c.require_of.ensures.comes
