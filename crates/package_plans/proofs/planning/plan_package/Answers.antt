use Rattle.std.proofs.Common.{◌≡◌, Ok, Err, List, refl, rules, subst}
use Rattle.checks.specs.Checks.{Comes, gives_some}
use Rattle.checks.proofs.Steps.{goes_on, some_is, stops}
use Rattle.typed_tree.specs.declared.event.Plan.{Plan}
use Rattle.package_plans.specs.Planned.{all_give, function_plans}
use Rattle.package_plans.specs.inner.InTurn.{given}
use Rattle.package_plans.specs.declared.planning.PackagePlans.{PackagePlans}
use Rattle.package_plans.proofs.planning.plan_package.Goals as goal

pub returns-in-Ok-clause-comes : goal.returns-in-Ok-clause-comes
returns-in-Ok-clause-comes g c =
    let check = all_give (function_plans g.T.Types.passes) c.args.«package».now.functions.items in
    let plans : PackagePlans = record { functions = c.in-Ok.functions } in
    let old = g.T.Types.atoms c.args.types.now in
    let new = g.T.Types.atoms c.plan_all.new.types in
    let came : c.plan_all.result ≡ Ok c.in-Ok.functions = search rules in
    goes_on check (λ ps. gives_some (λ env t. t.functions.items ≡ ps)) old new new c.in-Ok.functions.items (Ok plans)
    (subst (λ r. Comes check old (given r) new) came
    (subst (λ fs. Comes (all_give (function_plans g.T.Types.passes) fs) old (given c.plan_all.result) new) c.as_slice.ensures.value c.plan_all.ensures.comes))
    (some_is (λ env (t : PackagePlans). t.functions.items ≡ c.in-Ok.functions.items) new new plans refl refl)

pub returns-in-Err-clause-comes : goal.returns-in-Err-clause-comes
returns-in-Err-clause-comes g c =
    let check = all_give (function_plans g.T.Types.passes) c.args.«package».now.functions.items in
    let old = g.T.Types.atoms c.args.types.now in
    let new = g.T.Types.atoms c.plan_all.new.types in
    let came : c.plan_all.result ≡ Err c.in-Err.stop = search rules in
    stops check (λ ps. gives_some (λ env (t : PackagePlans). t.functions.items ≡ ps)) old new c.in-Err.stop
    (subst (λ r. Comes check old (given r) new) came
    (subst (λ fs. Comes (all_give (function_plans g.T.Types.passes) fs) old (given c.plan_all.result) new) c.as_slice.ensures.value c.plan_all.ensures.comes))
