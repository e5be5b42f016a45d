use Rattle.std.proofs.Common.{◌∙◌, ◌∷◌, ap, map, subst}
use Rattle.std.specs.Prelude.{option_map}
use Rattle.graphs.specs.Cycles.{IsCycleFound}
use Rattle.package_imports.proofs.cycles.cycle_from.Goals as goal

pub returns-in-Some : goal.returns-in-Some
returns-in-Some c =
    let next = map (λ v. v.items) c.args.next.now in
    let others = c.in-Some.others.items in (
      others,
      c.in_ok-with_first-in-Some.ensures ∙ ap (λ l. c.args.first ∷ l) c.as_slice-in-Some.ensures.value,
      subst (λ found. IsCycleFound next c.args.first (option_map (λ v. v.items) found)) c.in-Some.is c.in_ok-found.ensures,
    )
