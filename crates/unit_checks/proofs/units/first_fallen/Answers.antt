use Rattle.std.proofs.Common.{◌-◌, ◌≤◌, length, List, subst, sym}
use Rattle.stack_code.specs.declared.instr.Instr.{Instr}
use Rattle.code_numbers.specs.Traps.{AreTrapRows}
use Rattle.unit_checks.proofs.units.first_fallen.Goals as goal

pub trap_rows-requires-clause-from : goal.trap_rows-requires-clause-from
trap_rows-requires-clause-from g c = c.requires.places.0

pub trap_rows-requires-clause-inside : goal.trap_rows-requires-clause-inside
trap_rows-requires-clause-inside g c = subst (λ (is : List Instr). c.args.site.unit.now.end ≤ length is) (sym c.as_slice-instrs.ensures) c.requires.places.1

pub fallen_by-requires-clause-rows : goal.fallen_by-requires-clause-rows
fallen_by-requires-clause-rows g c =
    let site = c.args.site in
    subst (AreTrapRows site.code.now site.unit.now.first (site.unit.now.end - site.unit.now.first)) (sym c.as_slice.ensures.value) (c.in_ok-rows.ensures site.code.now (sym c.as_slice-instrs.ensures))
