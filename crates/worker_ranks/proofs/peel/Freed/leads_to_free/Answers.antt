use Rattle.std.proofs.Common.{◌∙◌, false, get_or}
use Rattle.std.specs.List.{list_all}
use Rattle.worker_ranks.proofs.peel.Freed.leads_to_free.Goals as goal

pub returns : goal.returns
returns c = c.are_marked.ensures ∙ (λ i. list_all (λ t. get_or (c.deref.ensures.value i) t false) (c.followers.ensures i))
