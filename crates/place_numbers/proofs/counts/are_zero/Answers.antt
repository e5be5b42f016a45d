use Rattle.std.proofs.Common.{◌∙◌, sym}
use Rattle.std.proofs.lemmas.Bool.{false≢true}
use Rattle.place_numbers.proofs.Counted.{as-many, of-zeros, zeros}
use Rattle.place_numbers.proofs.counts.are_zero.Goals as goal

pub returns-then-are_so_many : goal.returns-then-are_so_many
returns-then-are_so_many c = (
  (λ t. zeros c.args.ns.now c.args.count (c.are_so_many.ensures.0 c.if-are_so_many.true) (c.all_zero.ensures.0 t)),
  (λ e. c.all_zero.ensures.1 (of-zeros c.args.ns.now c.args.count e)),
)

pub returns-else-are_so_many : goal.returns-else-are_so_many
returns-else-are_so_many c = (
  (λ t. absurd (false≢true (sym c.if-are_so_many.false ∙ t))),
  (λ e. absurd (false≢true (sym c.if-are_so_many.false ∙ c.are_so_many.ensures.1 (as-many c.args.ns.now c.args.count e)))),
)
