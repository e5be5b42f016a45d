use Rattle.std.proofs.Common.{◌≡◌, ◌∙◌, ◌<◌, Some, ap, arith, length, refl}
use Rattle.std.specs.Prelude.{slice_get}
use Rattle.std.proofs.lemmas.Option.{slice_get_read}
use Rattle.unit_crews.proofs.Noting.{notes-one}
use Rattle.unit_crews.proofs.crews.Crews.note.Goals as goal

pub returns-in-None : goal.returns-in-None
returns-in-None c =
    let xs = c.args.self.now.counts.items in
    let lt : c.args.number < length xs = grind (arith, c.if-n-len.false, c.len.ensures) in
    let at : slice_get xs c.args.number ≡ Some c.index.result.now = slice_get_read xs (length xs) c.args.number c.index.result.now refl lt c.index.ensures in
    notes-one xs c.args.number c.args.count lt (at ∙ ap Some c.in-None.is)
