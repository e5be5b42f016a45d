use Rattle.std.proofs.Common.{◌∙◌, Option, ap, sym}
use Rattle.stack_code.specs.declared.instr.Instr.{Instr}
use Rattle.stack_code.specs.Commands.{command_in}
use Rattle.stack_code.specs.Flow.{tally_landing}
use Rattle.stack_code.specs.Places.{tally_at}
use Rattle.place_numbers.specs.inner.Changing.{changed}
use Rattle.place_numbers.proofs.thrown.lands_with.Goals as goal

pub returns : goal.returns
returns c =
    let code = c.args.site.code.now in
    let p = c.args.place in
    let known = c.counts_at-known.ensures in
    let same = ap (changed 0 c.change_landing-change.result) c.counts_at-before.ensures ∙ sym (c.change_landing-change.ensures code (tally_at code p)) ∙ ap (λ (q : Option Instr). tally_landing (command_in code q) (tally_at code p)) c.instr_at.ensures in
    ((λ t. sym same ∙ sym (c.has_changed.ensures.0 t) ∙ known), (λ e. c.has_changed.ensures.1 (known ∙ sym e ∙ sym same)))
