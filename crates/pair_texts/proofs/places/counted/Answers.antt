use Rattle.std.proofs.Common.{refl, sym, arith}
use Rattle.pair_texts.proofs.Standing.{column-fits, column-later, column-same, is-boundary, line-fits, line-there, stands-behind}
use Rattle.pair_texts.proofs.places.counted.Goals as goal

pub range-between-requires-clause-start_boundary : goal.range-between-requires-clause-start_boundary
range-between-requires-clause-start_boundary c =
    λ _. is-boundary c.args.text.now c.utf8.text c.args.from c.requires.stands c.args.at c.requires.front c.requires.boundary

pub overflow_add-result : goal.overflow_add-result
overflow_add-result c =
    let there = line-there c.args.text.now c.utf8.text c.args.from c.requires.stands c.args.at c.requires.front c.requires.boundary c.range-between.result.now c.range-between.ensures.value _ _ c.line_column-line.ensures.line c.line_column-line.ensures.column in
    let fits = line-fits c.args.text.now c.utf8.text c.args.from c.requires.stands c.args.at c.requires.front c.requires.boundary in
    omega (arith, there, fits, c.requires.small)

pub overflow_add-result-then-line-eq1 : goal.overflow_add-result-then-line-eq1
overflow_add-result-then-line-eq1 c =
    let there = column-same c.args.text.now c.utf8.text c.args.from c.requires.stands c.args.at c.requires.front c.requires.boundary c.range-between.result.now c.range-between.ensures.value _ _ c.line_column-line.ensures.line c.line_column-line.ensures.column c.if-line-eq1.true in
    let fits = column-fits c.args.text.now c.utf8.text c.args.from c.requires.stands c.args.at c.requires.front c.requires.boundary in
    omega (arith, there, fits, c.requires.small)

pub returns-then-line-eq1-clause-stands : goal.returns-then-line-eq1-clause-stands
returns-then-line-eq1-clause-stands c =
    let line = line-there c.args.text.now c.utf8.text c.args.from c.requires.stands c.args.at c.requires.front c.requires.boundary c.range-between.result.now c.range-between.ensures.value _ _ c.line_column-line.ensures.line c.line_column-line.ensures.column in
    let column = column-same c.args.text.now c.utf8.text c.args.from c.requires.stands c.args.at c.requires.front c.requires.boundary c.range-between.result.now c.range-between.ensures.value _ _ c.line_column-line.ensures.line c.line_column-line.ensures.column c.if-line-eq1.true in
    stands-behind c.args.text.now c.utf8.text c.args.from c.requires.stands c.args.at c.requires.front c.requires.boundary _ refl c.requires.small (sym line) (sym column)

pub returns-else-line-eq1-clause-stands : goal.returns-else-line-eq1-clause-stands
returns-else-line-eq1-clause-stands c =
    let line = line-there c.args.text.now c.utf8.text c.args.from c.requires.stands c.args.at c.requires.front c.requires.boundary c.range-between.result.now c.range-between.ensures.value _ _ c.line_column-line.ensures.line c.line_column-line.ensures.column in
    let column = column-later c.args.text.now c.utf8.text c.args.from c.requires.stands c.args.at c.requires.front c.requires.boundary c.range-between.result.now c.range-between.ensures.value _ _ c.line_column-line.ensures.line c.line_column-line.ensures.column c.if-line-eq1.false in
    stands-behind c.args.text.now c.utf8.text c.args.from c.requires.stands c.args.at c.requires.front c.requires.boundary _ refl c.requires.small (sym line) (sym column)
