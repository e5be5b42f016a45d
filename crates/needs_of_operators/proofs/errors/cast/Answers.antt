use Rattle.std.proofs.Common.{length, subst}
use Rattle.flow_narrowing.specs.Flows.{IfShared}
use Rattle.type_model.specs.Defined.{TyBelow}
use Rattle.check_words.specs.Stands.{PartBelow}
use Rattle.check_words.specs.State.{IsLast}
use Rattle.check_words.proofs.Standing.{last-has}
use Rattle.check_work.specs.Views.{state_of}
use Rattle.needs_of_operators.proofs.CheckedParts.{casts-come, casts-stand}
use Rattle.needs_of_operators.proofs.errors.cast.Goals as goal

pub within-requires-clause-part : goal.within-requires-clause-part
within-requires-clause-part g c =
    last-has (PartBelow (length (g.T.Types.atoms c.args.types.now))) c.args.work.now.found.items c.in-Some.part.now (subst (λ xs. IsLast xs c.in-Some.part.now) c.as_slice.ensures.value c.in-Some.ensures) c.requires.found

pub within-requires-clause-wanted : goal.within-requires-clause-wanted
within-requires-clause-wanted g c =
    last-has (IfShared (TyBelow (length (g.T.Types.atoms c.args.types.now)))) c.args.work.now.wants.items _ (record { kept = c.take_known.new.wants.items; is = c.in_ok-t.ensures }) c.requires.wants

pub returns-clause-stands : goal.returns-clause-stands
returns-clause-stands g c =
    casts-stand (state_of (g.T.Types.atoms c.args.types.now) c.args.work.now) c.take_known.new.wants.items c.args.at c.in-Some.part.now c.in_ok-t.t c.in_ok-ty.ty _ c.in_ok-t.ensures (subst (λ xs. IsLast xs c.in-Some.part.now) c.as_slice.ensures.value c.in-Some.ensures)
    c.in_ok-gather.ensures c.requires c.in_ok-ty.ensures.below

pub returns-clause-comes : goal.returns-clause-comes
returns-clause-comes g c =
    casts-come (state_of (g.T.Types.atoms c.args.types.now) c.args.work.now) c.take_known.new.wants.items c.args.at c.in-Some.part.now c.in_ok-t.t c.in_ok-ty.ty _ c.in_ok-t.ensures (subst (λ xs. IsLast xs c.in-Some.part.now) c.as_slice.ensures.value c.in-Some.ensures)
    c.in_ok-gather.ensures c.in_ok-ty.ensures.is
