use Rattle.descriptors.proofs.Walks.{TypesSoFar}
use Rattle.type_builder.specs.Meanings.{param_descriptor}
use Rattle.type_builder.proofs.meanings.params.Given as goal

abbrev pub invariant-loop-p : goal.invariant-loop-p
invariant-loop-p l = TypesSoFar l.names l.scope param_descriptor l.params l.p-index l.out.items l.fn.draft l.draft
