use Rattle.std.proofs.Common.{take}
use Rattle.lower_expr.specs.Drafts.{making_of}
use Rattle.lower_package.proofs.UnitsTurning.{Laid}
use Rattle.lower_package.proofs.packages.lay_all.Given as goal

abbrev pub invariant-loop-u : goal.invariant-loop-u
invariant-loop-u l = Laid (take l.u-index l.us) (making_of l.fn.draft) (making_of l.draft) l.laid.items
