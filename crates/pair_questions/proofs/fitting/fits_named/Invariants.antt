use Rattle.std.proofs.Common.{◌≡◌, All, take}
use Rattle.pair_questions.specs.Fitting.{FitsField}
use Rattle.pair_questions.proofs.fitting.fits_named.Given as goal

abbrev pub invariant-loop-field : goal.invariant-loop-field
invariant-loop-field g l = (g.T.Types.atoms l.types ≡ g.T.Types.atoms l.fn.types) × All (FitsField (g.T.Types.atoms l.fn.types) l.pair) (take l.field-index l.members.fields.now)
