use Rattle.std.proofs.Common.{ap, sym, ◌∙◌}
use Rattle.std.specs.Prelude.{option_map}
use Rattle.code_steps.specs.States.{call_of}
use Rattle.code_steps.proofs.lasts.enters_last.Goals as goal

pub returns-in-None : goal.returns-in-None
returns-in-None c = sym c.in_ok-begin_last.ensures ∙ ap (option_map call_of) c.in-None.is
