use Rattle.std.proofs.Common.{◌∙◌, sym, ap}
use Rattle.std.specs.Option.{option_copied}
use Rattle.needs_of_rows.proofs.Finding.{found-as}
use Rattle.needs_of_places.specs.Sites.{row_at}
use Rattle.needs_of_places.proofs.Native.{a-list}
use Rattle.needs_of_places.proofs.library.library_row.Goals as goal

pub returns-in-true : goal.returns-in-true
returns-in-true c =
    found-as _ _ _ _ (ap (row_at c.args.site c.args.taken.operands.now (option_copied c.args.taken.given)) (sym (a-list c.args.called.atom c.args.called.count c.args.called.call (sym c.makes_list.ensures ∙ c.in-true.is)))) c.listed.ensures
