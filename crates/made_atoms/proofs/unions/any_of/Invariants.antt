use Rattle.std.proofs.Common.{◌≡◌, length, take}
use Rattle.type_model.specs.Defined.{TyBelow}
use Rattle.made_atoms.specs.Defs.{AnyOf}
use Rattle.made_atoms.proofs.unions.any_of.Given as goal

abbrev pub invariant-loop-t : goal.invariant-loop-t
invariant-loop-t g l =
    (g.T.Types.atoms l.types ≡ g.T.Types.atoms l.initial.types) × TyBelow (length (g.T.Types.atoms l.initial.types)) l.union
    × AnyOf (take l.t-index l.all) (g.T.Types.atoms l.initial.types) l.union
