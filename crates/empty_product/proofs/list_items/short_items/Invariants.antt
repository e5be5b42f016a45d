use Rattle.std.proofs.Common.{ℕ, ◌<◌, length}
use Rattle.type_diagrams.specs.declared.projection.Projection.TheVariants.{Parts}
use Rattle.type_diagrams.specs.Conditions.{Condition}
use Rattle.type_diagrams.specs.Tables.{condition}
use Rattle.type_diagrams.specs.Whole.{Extends}
use Rattle.empty_product.specs.Items.{IsLooking, TellsListsAt}
use Rattle.empty_product.specs.Lists.{AreAsked}
use Rattle.empty_product.proofs.list_items.short_items.Given as goal

abbrev pub invariant-loop-length : goal.invariant-loop-length
invariant-loop-length g l =
    Extends (length l.context.env.now) l.fn.dia l.dia × IsLooking l.context.env.now l.dia l.all
    × ((base : ℕ → Condition) → AreAsked l.fn.dia base l.bases → TellsListsAt l.context.env.now base l.dia (g.M.Member.kept l.context.m.now) l.literals.wanted.now l.literals.unwanted.now (λ n. n < l.length) l.place (condition l.fn.dia l.found) (Parts l.all))
