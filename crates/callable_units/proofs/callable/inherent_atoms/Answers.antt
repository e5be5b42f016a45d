use Rattle.std.proofs.Common.{◌∙◌, ℕ, false, ap, length}
use Rattle.std.specs.Prelude.{replicate}
use Rattle.stack_code.specs.Tables.{IsInherent}
use Rattle.callable_units.specs.inner.Marks.{IsAmong}
use Rattle.callable_units.proofs.Marking.{among, told-of}
use Rattle.callable_units.proofs.callable.inherent_atoms.Goals as goal

pub returns : goal.returns
returns c =
    told-of (length c.args.code.now.atoms) (IsInherent c.args.code.now) (IsAmong c.as_slice.result.now) _ _ (c.in_ok-marks.ensures ∙ ap (λ (n : ℕ). replicate n false) c.atom_count.ensures) c.mark_all.ensures (among c.args.code.now.inherent _ c.as_slice.ensures)
