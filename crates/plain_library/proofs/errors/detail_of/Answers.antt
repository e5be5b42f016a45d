use Rattle.std.proofs.Common.{◌≡◌, refl}
use Rattle.value_model.specs.declared.value.Value.TheVariants.{Struct}
use Rattle.op_model.specs.Rows.{gives}
use Rattle.plain_run.specs.Held.{error_of, world_of}
use Rattle.plain_library.proofs.Given.{error-past, error-there}
use Rattle.plain_library.proofs.errors.detail_of.Goals as goal

pub returns-in-None : goal.returns-in-None
returns-in-None c =
    let w = world_of c.args.world.now in
    λ atom own came. error-past w c.args.n (λ e. came ≡ gives w (Struct e.detail)) c.in-None.ensures

pub returns-in-Some : goal.returns-in-Some
returns-in-Some c =
    let w = world_of c.args.world.now in
    λ atom own. error-there w c.args.n (λ e. gives w (Struct c.in-Some.e.now.detail) ≡ gives w (Struct e.detail)) (error_of c.in-Some.e.now) c.in-Some.ensures refl
