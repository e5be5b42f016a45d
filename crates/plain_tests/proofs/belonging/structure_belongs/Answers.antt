use Rattle.std.proofs.Common.{◌∙◌, sym}
use Rattle.plain_tests.proofs.Telling.{frozen_told}
use Rattle.plain_tests.proofs.belonging.structure_belongs.Goals as goal

pub returns-in_ok-by_shape-in-None : goal.returns-in_ok-by_shape-in-None
returns-in_ok-by_shape-in-None c =
    frozen_told c.args.facts.now c.args.heap.now c.args.n c.args.t.now c.in_ok-by_shape-in-None.field-0 (sym c.mutable_at.ensures ∙ c.in-None.is) c.in_ok-by_shape-in-None.ensures
