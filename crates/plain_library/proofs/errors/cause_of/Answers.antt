use Rattle.std.proofs.Common.{◌≡◌}
use Rattle.op_model.specs.Library.{cause_value}
use Rattle.op_model.specs.Rows.{gives}
use Rattle.plain_run.specs.Held.{error_of, world_of}
use Rattle.plain_library.proofs.Given.{error-past, error-there}
use Rattle.plain_library.proofs.errors.cause_of.Goals as goal

pub returns-in-None : goal.returns-in-None
returns-in-None c =
    let w = world_of c.args.world.now in
    λ atom own came. error-past w c.args.n (λ e. came ≡ gives w (cause_value e.cause)) c.in-None.ensures

pub returns-in-Some : goal.returns-in-Some
returns-in-Some c =
    let w = world_of c.args.world.now in
    λ atom own. error-there w c.args.n (λ e. gives w (c.cause_value.result) ≡ gives w (cause_value e.cause)) (error_of c.in-Some.e.now) c.in-Some.ensures (λ i. gives w (c.cause_value.ensures i))
