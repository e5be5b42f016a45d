use Rattle.std.proofs.Common.{refl}
use Rattle.needs_of_places.specs.Sites.{station_of}
use Rattle.place_numbers.proofs.Whole.{branch-as, by-command, by-done}
use Rattle.stack_code.specs.Commands.{CloseTrap, GoTo, GoToIfNot, OpenTrap}
use Rattle.place_numbers.proofs.places.instr_passes.Goals as goal

pub returns-in-Jump : goal.returns-in-Jump
returns-in-Jump c = let site = c.args.site in by-command site.code.now site.unit.now (station_of site) c.args.place c.args.instr.now _ (GoTo _) c.jump_passes.result c.in-Jump.is refl c.jump_passes.ensures

pub returns-in-JumpIfNot : goal.returns-in-JumpIfNot
returns-in-JumpIfNot c =
    let site = c.args.site in
    by-command site.code.now site.unit.now (station_of site) c.args.place c.args.instr.now _ (GoToIfNot _) c.branch_passes.result c.in-JumpIfNot.is refl
    (branch-as site.code.now site.unit.now (station_of site) c.args.place _ c.branch_passes.result c.branch_passes.ensures)

pub returns-in-Trap : goal.returns-in-Trap
returns-in-Trap c = let site = c.args.site in by-command site.code.now site.unit.now (station_of site) c.args.place c.args.instr.now _ (OpenTrap _) c.trap_passes.result c.in-Trap.is refl c.trap_passes.ensures

pub returns-in-Untrap : goal.returns-in-Untrap
returns-in-Untrap c = let site = c.args.site in by-command site.code.now site.unit.now (station_of site) c.args.place c.args.instr.now _ CloseTrap c.end_passes.result c.in-Untrap.is refl c.end_passes.ensures

pub returns-in_default : goal.returns-in_default
returns-in_default c =
    let site = c.args.site in
    let d = c.in_default in
    by-done site.code.now site.unit.now (station_of site) c.args.place c.args.instr.now d.not-Jump d.not-JumpIfNot d.not-Trap d.not-Untrap c.does_pass.result c.does_pass.ensures
