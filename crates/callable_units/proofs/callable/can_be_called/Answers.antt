use Rattle.std.proofs.Common.{◌∙◌, sym}
use Rattle.std.proofs.lemmas.Option.{slice_get_within}
use Rattle.std.proofs.lemmas.Bool.{false≢true}
use Rattle.callable_units.proofs.Called.{unit-so}
use Rattle.callable_units.proofs.callable.can_be_called.Goals as goal

pub returns-then-is_own_inherent : goal.returns-then-is_own_inherent
returns-then-is_own_inherent c = λ code are few there.
    let lt = slice_get_within code.units c.args.number c.args.unit.now there in
    unit-so code c.args.unit.now c.args.number c.is_free.result there
    ((λ t. ((c.is_own_inherent.ensures code are few).0 c.if-is_own_inherent.true, (c.is_free.ensures code are lt).0 t)), (λ h. (c.is_free.ensures code are lt).1 h.1))

pub returns-else-is_own_inherent : goal.returns-else-is_own_inherent
returns-else-is_own_inherent c = λ code are few there.
    unit-so code c.args.unit.now c.args.number c.is_own_inherent.result there
    ((λ t. absurd (false≢true (sym c.if-is_own_inherent.false ∙ t))), (λ h. absurd (false≢true (sym c.if-is_own_inherent.false ∙ (c.is_own_inherent.ensures code are few).1 h.0))))
