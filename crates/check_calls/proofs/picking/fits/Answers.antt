use Rattle.std.proofs.Common.{◌∙◌, sym}
use Rattle.check_words.specs.Library.{row_of}
use Rattle.check_calls.proofs.PickedMethods.{any-receiver}
use Rattle.check_calls.proofs.picking.fits.Goals as goal

pub returns-in-None-clause-comes : goal.returns-in-None-clause-comes
returns-in-None-clause-comes g c = λ e is.
    any-receiver g.T.Types.passes c.args.at (row_of c.args.call).receiver e (g.T.Types.atoms c.args.types.now) (sym c.receiver.ensures ∙ c.in-None.is)
