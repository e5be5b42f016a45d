use Rattle.std.proofs.Common.{◌-◌, length, arith}
use Rattle.type_diagrams.specs.Conditions.{nothing}
use Rattle.type_diagrams.specs.Tables.{condition}
use Rattle.type_diagrams.proofs.Reaching.{nothing-Looks, one-Looks}
use Rattle.type_diagrams.proofs.Shapes.{IfOk-map}
use Rattle.empty_product.proofs.ItemIndexes.{before-more, index-TellsIndex, past-TellsIndex, same-more}
use Rattle.empty_product.proofs.list_items.items_at_index.Goals as goal

pub returns-then-index-ge-NO_INDEX-clause-tells : goal.returns-then-index-ge-NO_INDEX-clause-tells
returns-then-index-ge-NO_INDEX-clause-tells g c = λ base asked same.
    past-TellsIndex c.args.context.now.env.now base c.args.dia.now (g.M.Member.kept c.args.context.now.m.now) c.args.literals.now.wanted.now c.args.literals.now.unwanted.now c.args.index c.args.never (omega arith) c.requires.never

pub items_at-requires-clause-wanted_before : goal.items_at-requires-clause-wanted_before
items_at-requires-clause-wanted_before g c = before-more c.args.context.now.env.now (length c.args.bases.now - 2) (length c.args.bases.now - 1) (omega arith) c.args.literals.now.wanted.now c.requires.wanted_before

pub items_at-requires-clause-unwanted_before : goal.items_at-requires-clause-unwanted_before
items_at-requires-clause-unwanted_before g c = before-more c.args.context.now.env.now (length c.args.bases.now - 2) (length c.args.bases.now - 1) (omega arith) c.args.literals.now.unwanted.now c.requires.unwanted_before

pub items_at-requires-clause-found : goal.items_at-requires-clause-found
items_at-requires-clause-found g c =
    let never = c.requires.never in
    record { diagram = never.diagram; looks = one-Looks c.args.context.now.env.now nothing (condition c.args.dia.now c.args.never) never.condition (nothing-Looks c.args.context.now.env.now) }

pub returns-clause-tells : goal.returns-clause-tells
returns-clause-tells g c =
    let env = c.args.context.now.env.now in
    let kept = g.M.Member.kept c.args.context.now.m.now in
    let new = c.items_at.new.dia in
    let n = length c.args.bases.now - 2 in
    let index = c.args.index in
    IfOk-map _ _ (λ p tells base asked same.
    index-TellsIndex env base n same c.args.literals.now.wanted.now c.args.literals.now.unwanted.now c.requires.wanted_before c.requires.unwanted_before new kept index c.min-place.result (condition c.args.dia.now c.args.never) (omega arith)
    (λ lt. omega (arith, lt, c.min-place.ensures)) (λ le. omega (arith, le, c.min-place.ensures)) c.requires.never.condition p
    (tells base asked (same-more n (length c.args.bases.now - 1) base (omega arith) same)))
    c.items_at.result c.items_at.ensures.tells
