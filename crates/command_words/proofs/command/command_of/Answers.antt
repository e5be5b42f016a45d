use Rattle.std.proofs.Common.{map, string_bytes, subst}
use Rattle.command_words.specs.inner.Reading.{AreParts}
use Rattle.command_words.proofs.Asking.{command-said}
use Rattle.command_words.proofs.command.command_of.Goals as goal

pub returns-in-Some-clause-command : goal.returns-in-Some-clause-command
returns-in-Some-clause-command c =
    let bytes = map string_bytes c.args.words.now in
    command-said c.args.words.now c.in-Some.parts c.command_in.result
    (subst (λ o. AreParts bytes o) c.in-Some.is c.in_ok-parts.ensures) c.command_in.ensures.command
