use Rattle.std.proofs.Common.{◌∙◌, ap, false, get_or}
use Rattle.worker_ranks.proofs.peel.Freed.is_free.Goals as goal

pub returns : goal.returns
returns c = c.is_marked.ensures ∙ ap (λ marks. get_or marks c.args.number false) c.deref.ensures.value
