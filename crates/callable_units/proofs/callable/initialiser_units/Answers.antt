use Rattle.std.proofs.Common.{◌∙◌, ℕ, false, ap, length}
use Rattle.std.specs.Prelude.{replicate}
use Rattle.stack_code.specs.Tables.{IsInitialiser}
use Rattle.callable_units.specs.inner.Marks.{IsAmong}
use Rattle.callable_units.proofs.Marking.{among, told-of}
use Rattle.callable_units.proofs.callable.initialiser_units.Goals as goal

pub returns : goal.returns
returns c =
    told-of (length c.args.code.now.units) (IsInitialiser c.args.code.now) (IsAmong c.as_slice.result.now) _ _ (c.in_ok-marks.ensures ∙ ap (λ (n : ℕ). replicate n false) c.unit_count.ensures) c.mark_all.ensures (among c.args.code.now.initialisers _ c.as_slice.ensures)
