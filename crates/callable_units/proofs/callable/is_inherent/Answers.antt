use Rattle.std.proofs.Common.{◌∙◌, Bool, List, ap, false, get_or, length}
use Rattle.stack_code.specs.Tables.{IsInherent}
use Rattle.callable_units.proofs.Called.{few-inherent, marked-all}
use Rattle.callable_units.proofs.callable.is_inherent.Goals as goal

pub returns : goal.returns
returns c = λ code are few.
    marked-all (length code.atoms) (IsInherent code) c.args.tables.now.inherent.items are.inherent (few-inherent code few) c.args.atom c.is_marked.result (c.is_marked.ensures ∙ ap (λ (l : List Bool). get_or l c.args.atom false) c.as_slice.ensures.value)
