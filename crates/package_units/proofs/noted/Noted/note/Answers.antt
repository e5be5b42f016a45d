use Rattle.std.proofs.Common.{◌≡◌, Some, arith, length, refl}
use Rattle.std.specs.Prelude.{slice_get}
use Rattle.std.proofs.lemmas.Option.{slice_get_read}
use Rattle.package_units.proofs.Meeting.{noted-none, noted-some}
use Rattle.package_units.proofs.noted.Noted.note.Goals as goal

pub returns-in-None : goal.returns-in-None
returns-in-None c =
    let xs = c.args.self.now.units.items in
    let at : slice_get xs c.args.met.unit.now.number ≡ Some c.index.result.now = slice_get_read xs (length xs) c.args.met.unit.now.number c.index.result.now refl (grind (arith, c.if-number-len.false, c.len.ensures)) c.index.ensures in
    noted-none xs c.args.self.now.fits c.args.met c.index.result.now at c.in-None.is

pub returns-in-Some : goal.returns-in-Some
returns-in-Some c =
    let xs = c.args.self.now.units.items in
    let at : slice_get xs c.args.met.unit.now.number ≡ Some c.index.result.now = slice_get_read xs (length xs) c.args.met.unit.now.number c.index.result.now refl (grind (arith, c.if-number-len.false, c.len.ensures)) c.index.ensures in
    noted-some xs c.args.self.now.fits c.args.met c.index.result.now at (λ e. absurd (let bad : ⊥ = cc in bad))
