use Rattle.std.proofs.Common.{subst}
use Rattle.std.specs.List.{AllZip}
use Rattle.check_words.specs.Sharing.{SameShared}
use Rattle.check_work.specs.Views.{unit_of}
use Rattle.needs_of_functions.proofs.Copying.{copied-unit}
use Rattle.needs_of_functions.proofs.copies.copy_unit.Goals as goal

pub returns : goal.returns
returns c =
    copied-unit (unit_of c.args.unit.now) _ c.in_ok-rest_member.rest_member c.in_ok-gives.gives _ _ c.in_ok-is_bare.ensures.captured c.in_ok-is_bare.ensures.variables
    c.new-captured.ensures.items c.new-variables.ensures.items
    (subst (λ ts. AllZip SameShared ts c.in_ok-slots.slots.items) c.as_slice-types.ensures.value c.in_ok-slots.ensures) c.in_ok-rest_member.ensures c.in_ok-gives.ensures
