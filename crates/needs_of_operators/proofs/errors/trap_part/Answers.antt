use Rattle.std.proofs.Common.{length, subst}
use Rattle.check_words.specs.Stands.{PartBelow}
use Rattle.check_words.specs.State.{IsLast}
use Rattle.check_words.proofs.Standing.{last-has}
use Rattle.check_work.specs.Views.{state_of}
use Rattle.needs_of_operators.proofs.CheckedParts.{traps-come, traps-stand}
use Rattle.needs_of_operators.proofs.errors.trap_part.Goals as goal

pub with_errors-requires : goal.with_errors-requires
with_errors-requires g c =
    last-has (PartBelow (length (g.T.Types.atoms c.args.types.now))) c.args.work.now.found.items c.in-Some.part.now (subst (λ xs. IsLast xs c.in-Some.part.now) c.as_slice.ensures.value c.in-Some.ensures) c.requires.found

pub returns-clause-stands : goal.returns-clause-stands
returns-clause-stands g c =
    traps-stand (state_of (g.T.Types.atoms c.args.types.now) c.args.work.now) c.args.at c.in-Some.part.now c.in_ok-ty.ty _ (subst (λ xs. IsLast xs c.in-Some.part.now) c.as_slice.ensures.value c.in-Some.ensures) c.in_ok-put_trap.ensures c.requires c.in_ok-ty.ensures.below

pub returns-clause-comes : goal.returns-clause-comes
returns-clause-comes g c =
    traps-come (state_of (g.T.Types.atoms c.args.types.now) c.args.work.now) c.args.at c.in-Some.part.now c.in_ok-ty.ty _ (subst (λ xs. IsLast xs c.in-Some.part.now) c.as_slice.ensures.value c.in-Some.ensures) c.in_ok-put_trap.ensures c.in_ok-ty.ensures.is
