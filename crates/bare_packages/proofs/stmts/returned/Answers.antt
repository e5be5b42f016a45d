use Rattle.std.proofs.Common.{Some, refl, subst, sym}
use Rattle.bare_packages.specs.Parts.{IsBareResult}
use Rattle.bare_packages.proofs.Bare.{ok-one}
use Rattle.bare_packages.proofs.stmts.returned.Goals as goal

pub returns-in-Some : goal.returns-in-Some
returns-in-Some c =
    ok-one c.boxed.result (λ x. subst (λ z. IsBareResult z (Some c.boxed.new.e)) (sym c.in-Some.is) (c.boxed.new.e, x, refl)) c.boxed.ensures
