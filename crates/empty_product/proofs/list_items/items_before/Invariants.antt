use Rattle.std.proofs.Common.{ℕ, ◌-◌, ◌<◌, ◌^◌, length}
use Rattle.type_diagrams.specs.declared.projection.Projection.TheVariants.{Parts}
use Rattle.type_diagrams.specs.Conditions.{Condition, nothing}
use Rattle.type_diagrams.specs.Whole.{Extends}
use Rattle.empty_product.specs.Items.{IsLooking, TellsListsBefore}
use Rattle.empty_product.specs.Lists.{AreAsked, IsSameFrom}
use Rattle.empty_product.proofs.list_items.items_before.Given as goal

abbrev pub invariant-loop-place : goal.invariant-loop-place
invariant-loop-place g l =
    Extends (length l.context.env.now) l.fn.dia l.dia × IsLooking l.context.env.now l.dia l.found
    × ((base : ℕ → Condition) → AreAsked l.fn.dia base l.bases → IsSameFrom (length l.bases - 1) base → TellsListsBefore l.context.env.now base l.dia (g.M.Member.kept l.context.m.now) l.literals.wanted.now l.literals.unwanted.now (λ n. n < 2 ^ 63) l.place nothing (Parts l.found))
