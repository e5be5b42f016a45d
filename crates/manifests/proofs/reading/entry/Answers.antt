use Rattle.std.proofs.Common.{◌≡◌, Some, None, option_map, option_and_then, codes, sym, ap, ◌∙◌}
use Rattle.toml.proofs.Views.{table_get}
use Rattle.toml.specs.Data.{get, get_member}
use Rattle.toml.specs.View.{table_view, view}
use Rattle.manifests.proofs.reading.entry.Goals as goal

pub returns-in-Some : goal.returns-in-Some
returns-in-Some c =
    let found = table_get c.get.result (codes "package") c.args.table.now.entries c.get.ensures.value in
    let there : Some (view c.in-Some.package.now) ≡ get_member (codes "package") (table_view c.args.table.now) = sym (ap (option_map (λ v. view v.now)) c.in-Some.is) ∙ found in
    c.get-in-Some.ensures ∙ ap (option_and_then (get c.args.key.now)) there

pub returns-in-None : goal.returns-in-None
returns-in-None c =
    let found = table_get c.get.result (codes "package") c.args.table.now.entries c.get.ensures.value in
    let there : None ≡ get_member (codes "package") (table_view c.args.table.now) = sym (ap (option_map (λ v. view v.now)) c.in-None.is) ∙ found in
    ap (option_and_then (get c.args.key.now)) there
