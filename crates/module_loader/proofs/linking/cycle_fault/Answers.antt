use Rattle.std.proofs.Common.{◌∙◌, [], get_or, map, ap, subst}
use Rattle.std.specs.Prelude.{option_map}
use Rattle.package_imports.specs.Cycles.{IsCycleSought}
use Rattle.module_loader.specs.Faults.{cyclic}
use Rattle.module_loader.proofs.linking.cycle_fault.Goals as goal

pub returns-in_ok-refusal-in-Some : goal.returns-in_ok-refusal-in-Some
returns-in_ok-refusal-in-Some c =
    let next = map (λ v. v.items) c.args.next.now in
    let sought = subst (λ found. IsCycleSought next (option_map (λ v. v.items) found)) c.in-Some.is c.in_ok-found.ensures in
    let shown = c.in_ok-shown-in-Some.ensures ∙ ap (map (λ i. get_or c.args.names.now i [])) (c.as_slice.ensures.value ∙ sought.2) in
    (sought.0, sought.1, sought.3, c.in_ok-refusal-in-Some.ensures ∙ ap cyclic shown)

pub returns-in-None : goal.returns-in-None
returns-in-None c =
    let next = map (λ v. v.items) c.args.next.now in
    subst (λ found. IsCycleSought next (option_map (λ v. v.items) found)) c.in-None.is c.in_ok-found.ensures
