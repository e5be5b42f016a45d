use Rattle.std.proofs.Common.{length}
use Rattle.flow_narrowing.specs.Flows.{IfShared}
use Rattle.type_model.specs.Defined.{TyBelow}
use Rattle.check_words.specs.Stands.{PartBelow}
use Rattle.check_words.proofs.Standing.{last-has}
use Rattle.needs_of_values.proofs.Asked.{is-wanted-comes}
use Rattle.needs_of_values.proofs.Sorting.{last-of}
use Rattle.needs_of_values.proofs.wants.require_wanted.Goals as goal

pub fits-requires-clause-want : goal.fits-requires-clause-want
fits-requires-clause-want g c =
    last-has (IfShared (TyBelow (length (g.T.Types.atoms c.args.types.now)))) _ _ (last-of _ _ _ c.as_slice.ensures.value c.in-Some.ensures) c.requires.wants

pub fits-requires-clause-part : goal.fits-requires-clause-part
fits-requires-clause-part g c = last-has (PartBelow (length (g.T.Types.atoms c.args.types.now))) _ _ (last-of _ _ _ c.as_slice-2.ensures.value c.in-Some-part.ensures) c.requires.found

pub returns-in-Some-part-clause-comes : goal.returns-in-Some-part-clause-comes
returns-in-Some-part-clause-comes g c =
    is-wanted-comes g.T.Types.passes _ _ _ c.args.at _ _ (last-of _ _ _ c.as_slice.ensures.value c.in-Some.ensures) (last-of _ _ _ c.as_slice-2.ensures.value c.in-Some-part.ensures) c.fits.ensures.comes
