use Rattle.std.proofs.Common.{◌∙◌, ap}
use Rattle.descriptors.specs.Steps.{scope_of}
use Rattle.needs_of_functions.proofs.described.numbers.Goals as goal

pub returns : goal.returns
returns c = ap (λ m. scope_of m c.in_ok-file.file) c.in_ok-home.ensures ∙ ap (λ f. scope_of c.args.scope.«module» f) c.in_ok-file.ensures
