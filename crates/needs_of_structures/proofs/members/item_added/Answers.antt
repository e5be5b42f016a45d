use Rattle.std.proofs.Common.{length, map}
use Rattle.flow_narrowing.specs.Flows.{IfShared}
use Rattle.type_model.specs.Defined.{TyBelow}
use Rattle.check_kinds.proofs.Over.{over-at}
use Rattle.check_words.specs.Stands.{PartBelow}
use Rattle.check_words.proofs.Standing.{last-has}
use Rattle.check_work.specs.Views.{constructor_of, state_of}
use Rattle.needs_of_structures.specs.Fitting.{fits_so}
use Rattle.needs_of_structures.proofs.Fitting.{item-fits}
use Rattle.needs_of_structures.proofs.members.item_added.Goals as goal

pub fitted-requires-clause-want : goal.fitted-requires-clause-want
fitted-requires-clause-want g c = last-has (IfShared (TyBelow (length (g.T.Types.atoms c.args.types.now)))) _ _ c.in-Some.ensures.want c.requires.stands.wants

pub fitted-requires-clause-part : goal.fitted-requires-clause-part
fitted-requires-clause-part g c = last-has (PartBelow (length (g.T.Types.atoms c.args.types.now))) _ _ c.in-Some.ensures.part c.requires.stands.found

pub returns-in-Some-clause-comes : goal.returns-in-Some-clause-comes
returns-in-Some-clause-comes g c =
    let s = state_of (g.T.Types.atoms c.args.types.now) c.args.work.now in
    let item = c.in-Some.item in
    item-fits g.T.Types.passes c.args.at s (constructor_of item.constructor.now) item.part.now c.fitted.result _ c.in-Some.ensures.constructor c.in-Some.ensures.part item.want.now c.in-Some.ensures.want
    (over-at (fits_so g.T.Types.passes (constructor_of item.constructor.now) item.part.now item.want.now c.args.at) s c.fitted.result _ c.fitted.ensures.comes)
