use Rattle.std.proofs.Common.{refl}
use Rattle.checks.proofs.Steps.{goes_on, ran_out, some_is, stops}
use Rattle.checks.specs.Checks.{◌▷◌}
use Rattle.checks.specs.Questions.{is_below}
use Rattle.std.proofs.Common.{Some}
use Rattle.type_builder.specs.MainFunction.{IsErrorOrNil, gives_errors, good_if}
use Rattle.type_builder.proofs.main_function.below_errors.Goals as goal

pub returns-in-Err-clause-comes : goal.returns-in-Err-clause-comes
returns-in-Err-clause-comes g c = ran_out (gives_errors g.T.Types.passes c.args.given.now c.args.at) _ _

pub is_below-requires-clause-right : goal.is_below-requires-clause-right
is_below-requires-clause-right g c = (c.in-Ok.ensures (g.T.Types.atoms c.args.types.now)).0

pub returns-in-Ok-is_below-clause-comes : goal.returns-in-Ok-is_below-clause-comes
returns-in-Ok-is_below-clause-comes g c =
    let old = g.T.Types.atoms c.args.types.now in
    let new = g.T.Types.atoms c.is_below.new.types in
    goes_on _ (λ t. is_below g.T.Types.passes c.args.given.now t (Some c.args.at) ▷ good_if c.args.at) old old new c.in-Ok.errors c.good.result (some_is IsErrorOrNil old old c.in-Ok.errors refl (c.in-Ok.ensures old))
    (goes_on (is_below g.T.Types.passes c.args.given.now c.in-Ok.errors (Some c.args.at)) (good_if c.args.at) old new new c.in-Ok-is_below.fits c.good.result c.in-Ok-is_below.ensures.comes (c.good.ensures new))

pub returns-clause-comes : goal.returns-clause-comes
returns-clause-comes g c =
    let old = g.T.Types.atoms c.args.types.now in
    let new = g.T.Types.atoms c.is_below.new.types in
    goes_on _ (λ t. is_below g.T.Types.passes c.args.given.now t (Some c.args.at) ▷ good_if c.args.at) old old new c.in-Ok.errors _ (some_is IsErrorOrNil old old c.in-Ok.errors refl (c.in-Ok.ensures old))
    (stops (is_below g.T.Types.passes c.args.given.now c.in-Ok.errors (Some c.args.at)) (good_if c.args.at) old new c.in-Err-is_below.stop c.in-Err-is_below.ensures.comes)
