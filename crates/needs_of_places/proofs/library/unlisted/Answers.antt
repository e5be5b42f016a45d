use Rattle.std.proofs.Common.{◌∙◌, sym, ap}
use Rattle.std.specs.Option.{option_copied}
use Rattle.needs_of_rows.proofs.Finding.{found-as}
use Rattle.needs_of_places.specs.Sites.{row_at}
use Rattle.needs_of_places.proofs.Native.{no-atom, some-atom}
use Rattle.needs_of_places.proofs.library.unlisted.Goals as goal

pub returns-in-true : goal.returns-in-true
returns-in-true c =
    found-as _ _ _ _ (ap (row_at c.args.site c.args.taken.operands.now (option_copied c.args.taken.given)) (sym (no-atom c.args.called.atom c.args.called.count c.args.called.call c.requires.listless (sym c.is_zero.ensures ∙ c.in-true.is)))) c.listless.ensures

pub returns-in-false : goal.returns-in-false
returns-in-false c =
    found-as _ _ _ _ (ap (row_at c.args.site c.args.taken.operands.now (option_copied c.args.taken.given)) (sym (some-atom c.args.called.atom c.args.called.count c.args.called.call c.requires.listless (sym c.is_zero.ensures ∙ c.in-false.is)))) c.refuse.ensures
