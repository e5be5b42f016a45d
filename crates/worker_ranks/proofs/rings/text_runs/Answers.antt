use Rattle.std.proofs.Common.{◌≡◌, ◌∙◌, ap, map, subst}
use Rattle.std.specs.Prelude.{IfOk}
use Rattle.worker_ranks.specs.inner.Turned.{groups_held, laid}
use Rattle.worker_ranks.specs.inner.Vertices.{vertex_held}
use Rattle.worker_ranks.proofs.rings.text_runs.Goals as goal

pub returns-clause-laid : goal.returns-clause-laid
returns-clause-laid c = subst (λ vs. IfOk c.runs.result (λ runs. laid (groups_held runs.items) ≡ vs)) (ap (map vertex_held) c.deref.ensures.value ∙ c.in_ok-vertices.ensures) c.runs.ensures.laid
