use Rattle.std.proofs.Common.{◌∙◌, Option, ap, option_copied, sym}
use Rattle.stack_code.specs.declared.instr.Instr.{Instr}
use Rattle.stack_code.specs.Commands.{command_in}
use Rattle.stack_code.specs.Flow.{tally_landing}
use Rattle.place_numbers.specs.declared.changes.Change.{Change}
use Rattle.place_numbers.specs.inner.Changing.{changed, thrown}
use Rattle.place_numbers.proofs.Carried.{lands-is, same-tally}
use Rattle.place_numbers.proofs.changes.change_landing.Goals as goal

pub returns-in-Some : goal.returns-in-Some
returns-in-Some c = λ code tally.
    ap (λ (q : Option Instr). tally_landing (command_in code q) tally) (ap option_copied c.in-Some.is) ∙ lands-is tally code c.in-Some.instr.now
    ∙ sym (ap (λ (x : Change). changed 0 x tally) (c.carried.ensures ∙ ap thrown c.change_of.ensures))

pub returns-in-None : goal.returns-in-None
returns-in-None c = λ code tally. ap (λ (q : Option Instr). tally_landing (command_in code q) tally) (ap option_copied c.in-None.is) ∙ sym (same-tally 0 tally)
