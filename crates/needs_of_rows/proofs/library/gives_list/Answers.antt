use Rattle.std.specs.Option.{option_copied}
use Rattle.code_needs.specs.Combining.{◌&◌, none, of_list, of_some}
use Rattle.code_needs.specs.RowNeeds.{has_all}
use Rattle.needs_of_rows.specs.inner.ItemsMade.{items_of}
use Rattle.needs_of_rows.proofs.Finding.{found-then}
use Rattle.needs_of_rows.proofs.library.gives_list.Goals as goal

pub returns : goal.returns
returns c =
    found-then (of_list (option_copied c.args.def) (λ fixed rest. none fixed & of_some rest (λ t. items_of c.args.items t.sem))) (has_all (option_copied c.args.given) c.args.own.now) _ _ _ c.list_of.ensures c.has_all.ensures
