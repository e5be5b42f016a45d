use Rattle.std.proofs.Common.{List, All, take}
use Rattle.type_model.specs.declared.atoms.AtomDef.{AtomDef}
use Rattle.type_diagrams.specs.Tables.{condition}
use Rattle.type_diagrams.specs.Turns.{IsSound}
use Rattle.type_diagrams.specs.Whole.{Extends}
use Rattle.empty_product.specs.Further.{AreSplit, rest_askings_of}
use Rattle.empty_product.proofs.further.further_parts.Given as goal

abbrev pub invariant-loop-demand : goal.invariant-loop-demand
invariant-loop-demand g l =
    Extends 0 l.fn.dia l.dia
    × ((env : List AtomDef) → All (IsSound env l.fn.dia) (g.M.Member.kept l.context.m.now) → AreSplit env l.dia (g.M.Member.kept l.context.m.now) (condition l.fn.dia l.rest) (rest_askings_of l.fn.dia (take l.demand-index l.demands)) l.parts.items l.staying.items)
