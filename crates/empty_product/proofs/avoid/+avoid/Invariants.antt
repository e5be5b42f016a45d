use Rattle.std.proofs.Common.{List, All, length}
use Rattle.type_model.specs.declared.atoms.AtomDef.{AtomDef}
use Rattle.type_diagrams.specs.Turns.{IsSound}
use Rattle.type_diagrams.specs.Whole.{Extends}
use Rattle.empty_product.specs.Products.{all_askings, askings_of, places_of}
use Rattle.empty_product.proofs.Avoidance.{NoneIn}
use Rattle.empty_product.proofs.avoid.+avoid.Given as goal

abbrev pub decreases-avoid : goal.decreases-avoid
decreases-avoid g l = length l.unwanted.now

abbrev pub invariant-loop-step : goal.invariant-loop-step
invariant-loop-step g l =
    Extends 0 l.fn.dia l.dia
    × ((env : List AtomDef) → All (IsSound env l.fn.dia) (g.M.Member.kept l.context.m.now) → NoneIn env l.dia (g.M.Member.kept l.context.m.now) (places_of l.fn.dia l.slots) (askings_of l.fn.dia l.first) (all_askings l.fn.dia l.rest) l.step)
