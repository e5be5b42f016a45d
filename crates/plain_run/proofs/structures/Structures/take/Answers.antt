use Rattle.std.proofs.Common.{◌∙◌, ap}
use Rattle.std.specs.Prelude.{slice_set}
use Rattle.std.proofs.lemmas.List.{set-set}
use Rattle.plain_run.proofs.structures.Structures.take.Goals as goal

pub returns-clause-others : goal.returns-clause-others
returns-clause-others c = λ s. set-set c.self.inside.items.items c.args.n c.replace-taken.new.dest s ∙ ap (λ xs. slice_set xs c.args.n s) c.self.view_is
