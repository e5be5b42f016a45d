use Rattle.check_work.specs.Views.{constructor_of, state_of}
use Rattle.check_work.proofs.Noting.{mapped-last}
use Rattle.needs_of_structures.specs.Making.{list_made}
use Rattle.needs_of_structures.proofs.Made.{closed-below, closed-stands, closed-then}
use Rattle.needs_of_structures.proofs.making.make_list.Goals as goal

pub make_list_with-requires-clause-stands : goal.make_list_with-requires-clause-stands
make_list_with-requires-clause-stands g c =
    closed-stands (state_of (g.T.Types.atoms c.args.types.now) c.args.work.now) _ (constructor_of c.in-Ok.c) (mapped-last constructor_of _ _ _ c.in-Ok.ensures) c.requires

pub make_list_with-requires-clause-below : goal.make_list_with-requires-clause-below
make_list_with-requires-clause-below g c =
    closed-below (state_of (g.T.Types.atoms c.args.types.now) c.args.work.now) _ (constructor_of c.in-Ok.c) (mapped-last constructor_of _ _ _ c.in-Ok.ensures) c.requires

pub returns-in-Ok-clause-comes : goal.returns-in-Ok-clause-comes
returns-in-Ok-clause-comes g c =
    closed-then (state_of (g.T.Types.atoms c.args.types.now) c.args.work.now) _ (constructor_of c.in-Ok.c) (mapped-last constructor_of _ _ _ c.in-Ok.ensures)
    (λ d. list_made d c.args.count c.args.at) c.make_list_with.result _ c.make_list_with.ensures.comes
