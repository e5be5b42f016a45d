use Rattle.std.proofs.Common.{◌∙◌, ap, map, subst, sym}
use Rattle.std.specs.Prelude.{IfOk}
use Rattle.worker_ranks.specs.inner.Vertices.{IsCyclic, IsFirstOnCycle}
use Rattle.worker_ranks.proofs.rings.first_of.Goals as goal

pub first_in-requires : goal.first_in-requires
first_in-requires c = subst IsCyclic (sym (ap (map (λ v. v.items)) c.deref.ensures.value ∙ c.in_ok-next.ensures)) c.requires.cyclic

pub returns : goal.returns
returns c = subst (λ next. IfOk c.first_in.result (IsFirstOnCycle next)) (ap (map (λ v. v.items)) c.deref.ensures.value ∙ c.in_ok-next.ensures) c.first_in.ensures
