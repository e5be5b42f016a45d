use Rattle.std.proofs.Common.{length, map, subst}
use Rattle.check_words.specs.Sharing.{SameShared}
use Rattle.check_words.specs.Stands.{PartBelow}
use Rattle.check_words.specs.State.{IsLast}
use Rattle.check_words.proofs.Standing.{last-has}
use Rattle.check_work.specs.Views.{state_of, unit_of}
use Rattle.check_work.proofs.Noting.{at-hand}
use Rattle.needs_of_operators.proofs.CheckedParts.{checked-come, checked-stand}
use Rattle.needs_of_operators.proofs.errors.check_part.Goals as goal

pub without_errors-requires : goal.without_errors-requires
without_errors-requires g c =
    last-has (PartBelow (length (g.T.Types.atoms c.args.types.now))) c.args.work.now.found.items c.in-Some.part.now (subst (λ xs. IsLast xs c.in-Some.part.now) c.as_slice.ensures.value c.in-Some.ensures) c.requires.found

pub returns-clause-stands : goal.returns-clause-stands
returns-clause-stands g c =
    let slot = c.in_ok-own.ensures in
    let around = map unit_of c.args.work.now.around.items in
    checked-stand (state_of (g.T.Types.atoms c.args.types.now) c.args.work.now) around _ (unit_of slot.before) (unit_of slot.after) (at-hand _ _ _ slot.was) (at-hand _ _ _ slot.is) c.in_ok-kept.kept slot.unit
    c.args.panics c.in_ok-own.own c.args.at c.in-Some.part.now c.in_ok-ty.ty _ (subst (λ xs. IsLast xs c.in-Some.part.now) c.as_slice.ensures.value c.in-Some.ensures) (subst (λ t. SameShared t c.in_ok-kept.kept) c.ty.ensures c.in_ok-kept.ensures) slot.number
    c.in_ok-put_check.ensures c.requires c.in_ok-ty.ensures.below

pub returns-clause-comes : goal.returns-clause-comes
returns-clause-comes g c =
    let slot = c.in_ok-own.ensures in
    let around = map unit_of c.args.work.now.around.items in
    checked-come (state_of (g.T.Types.atoms c.args.types.now) c.args.work.now) around _ (unit_of slot.before) (unit_of slot.after) (at-hand _ _ _ slot.was) (at-hand _ _ _ slot.is) c.in_ok-kept.kept slot.unit
    c.args.panics c.in_ok-own.own c.args.at c.in-Some.part.now c.in_ok-ty.ty _ (subst (λ xs. IsLast xs c.in-Some.part.now) c.as_slice.ensures.value c.in-Some.ensures) (subst (λ t. SameShared t c.in_ok-kept.kept) c.ty.ensures c.in_ok-kept.ensures) slot.number
    c.in_ok-put_check.ensures c.in_ok-ty.ensures.is
