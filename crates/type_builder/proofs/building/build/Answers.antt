use Rattle.std.proofs.Common.{Err, subst}
use Rattle.checks.specs.Checks.{Comes}
use Rattle.checks.proofs.Steps.{goes_on, ran_out, stops}
use Rattle.type_builder.specs.MainInPlace.{built, built_named, named_in_order, package_named}
use Rattle.type_builder.proofs.Built.{named-so}
use Rattle.type_builder.proofs.InPlace.{in-order, told-in-order}
use Rattle.type_builder.proofs.building.build.Goals as goal

pub build_named-requires : goal.build_named-requires
build_named-requires g c = named-so c.args.«package».now (g.T.Types.atoms c.args.types.now) _ (c.in-Ok.ensures (g.T.Types.atoms c.args.types.now))

pub returns-in-Ok-clause-comes : goal.returns-in-Ok-clause-comes
returns-in-Ok-clause-comes g c =
    let old = g.T.Types.atoms c.args.types.now in
    let pack = c.args.«package».now in
    goes_on (named_in_order g.T.Types.passes pack) (λ u. built_named g.T.Types.passes pack) _ _ _ _ _ (in-order g.T.Types.passes pack old _ (c.in-Ok.ensures old)) c.build_named.ensures.comes

pub returns-in-Err-Fault-clause-comes : goal.returns-in-Err-Fault-clause-comes
returns-in-Err-Fault-clause-comes g c =
    let old = g.T.Types.atoms c.args.types.now in
    let pack = c.args.«package».now in
    stops (named_in_order g.T.Types.passes pack) (λ u. built_named g.T.Types.passes pack) _ _ _ (told-in-order g.T.Types.passes pack old _ c.in-Err-Fault.behind _ (subst (λ s. Comes (package_named pack) old (Err s) old) c.in-Err-Fault.field-0-is (c.in-Err-Fault.ensures old)) c.first_told.ensures.told)

pub returns-in-Err-Memory-clause-comes : goal.returns-in-Err-Memory-clause-comes
returns-in-Err-Memory-clause-comes g c = ran_out (built g.T.Types.passes c.args.«package».now) _ _
