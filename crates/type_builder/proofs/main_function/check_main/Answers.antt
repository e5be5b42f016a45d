use Rattle.std.proofs.Common.{◌≡◌, None, Ok, refl, rules, subst, sym}
use Rattle.checks.proofs.Steps.{some_is}
use Rattle.checks.specs.Checks.{Comes}
use Rattle.type_builder.specs.MainFunction.{main_fits_if, main_of}
use Rattle.type_builder.proofs.main_function.check_main.Goals as goal

pub returns-in-None-clause-comes : goal.returns-in-None-clause-comes
returns-in-None-clause-comes g c =
    let old = g.T.Types.atoms c.args.types.now in
    let none : main_of c.args.«package».now ≡ None = search rules in
    subst (λ o. Comes (main_fits_if g.T.Types.passes c.args.names.now c.args.«package».now.main o) old (Ok tt) old) (sym none) (some_is (λ s u. u ≡ tt) old old tt refl refl)
