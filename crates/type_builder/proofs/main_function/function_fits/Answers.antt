use Rattle.std.proofs.Common.{◌≡◌, None, Ok, refl, rules, subst, sym}
use Rattle.checks.proofs.Steps.{some_is}
use Rattle.checks.specs.Checks.{Comes}
use Rattle.type_builder.specs.MainFunction.{gives_errors_if, result_in}
use Rattle.type_builder.proofs.main_function.function_fits.Goals as goal

pub returns-in-None-clause-comes : goal.returns-in-None-clause-comes
returns-in-None-clause-comes g c =
    let old = g.T.Types.atoms c.args.types.now in
    let given = result_in c.args.names.now c.args.home c.args.f.now.name.name in
    let none : given ≡ None = search rules in
    subst (λ o. Comes (gives_errors_if g.T.Types.passes o c.args.f.now.at) old (Ok tt) old) (sym none) (some_is (λ s u. u ≡ tt) old old tt refl refl)
