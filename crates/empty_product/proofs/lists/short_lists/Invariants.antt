use Rattle.std.proofs.Common.{ℕ, ◌<◌, length}
use Rattle.type_diagrams.specs.Conditions.{Condition}
use Rattle.type_diagrams.specs.Whole.{Extends}
use Rattle.empty_product.specs.declared.avoid.Filling.TheVariants.{Empty}
use Rattle.empty_product.specs.Lists.{AreAsked, TellsLists}
use Rattle.empty_product.proofs.lists.short_lists.Given as goal

abbrev pub invariant-loop-length : goal.invariant-loop-length
invariant-loop-length g l =
    Extends (length l.context.env.now) l.fn.dia l.dia
    × ((base : ℕ → Condition) → AreAsked l.fn.dia base l.bases → TellsLists l.context.env.now base l.dia (g.M.Member.kept l.context.m.now) l.literals.wanted.now l.literals.unwanted.now (λ n. n < l.length) Empty)
