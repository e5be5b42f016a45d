use Rattle.std.proofs.Common.{◌∙◌, ap, option_copied, sym}
use Rattle.place_numbers.proofs.Carried.{no-tick, tick-at}
use Rattle.place_numbers.proofs.reach.is_tick_at.Goals as goal

pub returns-in-Some : goal.returns-in-Some
returns-in-Some c = tick-at c.args.code.now c.in-Some.instr.now _ c.is_tick.result (sym c.instr_at.ensures ∙ ap option_copied c.in-Some.is) c.is_tick.ensures

pub returns-in-None : goal.returns-in-None
returns-in-None c = no-tick c.args.code.now _ (sym c.instr_at.ensures ∙ ap option_copied c.in-None.is)
