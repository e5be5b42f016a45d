use Rattle.std.proofs.Common.{◌≡◌}
use Rattle.value_model.specs.declared.value.Value.TheVariants.{Str}
use Rattle.op_model.specs.Rows.{gives}
use Rattle.plain_run.specs.Held.{error_of, world_of}
use Rattle.plain_library.proofs.Given.{error-past, error-there}
use Rattle.plain_library.proofs.errors.message_of.Goals as goal

pub returns-in-None : goal.returns-in-None
returns-in-None c =
    let w = world_of c.args.world.now in
    λ atom own came. error-past w c.args.n (λ e. came ≡ gives w (Str e.message)) c.in-None.ensures

pub returns-in-Some : goal.returns-in-Some
returns-in-Some c =
    let w = world_of c.args.world.now in
    λ atom own. error-there w c.args.n (λ e. gives w (Str c.share.result) ≡ gives w (Str e.message)) (error_of c.in-Some.e.now) c.in-Some.ensures (λ i. gives w (Str (c.share.ensures i)))
