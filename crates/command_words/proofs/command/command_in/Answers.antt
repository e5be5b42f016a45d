use Rattle.std.proofs.Common.{◌∙◌, sym}
use Rattle.std.proofs.lemmas.Bool.{false≢true}
use Rattle.command_words.proofs.Asking.{asks-fit, command-made}
use Rattle.command_words.proofs.command.command_in.Goals as goal

pub returns-then-not-are_fit-clause-command : goal.returns-then-not-are_fit-clause-command
returns-then-not-are_fit-clause-command c = λ request h.
    false≢true (sym c.if-not-are_fit.true ∙ c.are_fit.ensures.1 (asks-fit c.args.parts.now c.in-Some.dir.now c.in-Some.words.now request
    (sym c.as_slice.ensures.value ∙ c.in-Some.ensures.cases.0) h))

pub returns-clause-command : goal.returns-clause-command
returns-clause-command c =
    command-made c.args.parts.now c.in-Some.dir.now c.in-Some.words.now c.command_at.result (sym c.as_slice.ensures.value ∙ c.in-Some.ensures.cases.0)
    (c.are_fit.ensures.0 c.if-not-are_fit.false) c.command_at.ensures.dir c.command_at.ensures.asked
