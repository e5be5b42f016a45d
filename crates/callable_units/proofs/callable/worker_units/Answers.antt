use Rattle.std.proofs.Common.{◌∙◌, ℕ, List, false, ap, length, subst}
use Rattle.std.specs.Prelude.{replicate}
use Rattle.stack_code.specs.declared.code.Unit.{Unit as CodeUnit}
use Rattle.stack_code.specs.Places.{IsWorkerUnit}
use Rattle.callable_units.specs.inner.Marks.{IsNamedBy, Marks}
use Rattle.callable_units.proofs.Marking.{told-of}
use Rattle.callable_units.proofs.callable.worker_units.Goals as goal

pub returns : goal.returns
returns c =
    told-of (length c.args.code.now.units) (IsWorkerUnit c.args.code.now) (IsNamedBy c.args.code.now.units) _ _ (c.in_ok-marks.ensures ∙ ap (λ (n : ℕ). replicate n false) c.unit_count.ensures)
    (subst (λ (l : List CodeUnit). Marks (IsNamedBy l) c.in_ok-marks.marks.items c.mark_crews.new.marks.items) c.as_slice.ensures c.mark_crews.ensures) (λ n. ((λ h. h), (λ h. h)))
