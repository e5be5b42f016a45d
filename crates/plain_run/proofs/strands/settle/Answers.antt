use Rattle.std.proofs.Common.{◌++◌, ◌∙◌, ap, map}
use Rattle.plain_run.specs.Held.{common_of, strand_of}
use Rattle.plain_run.specs.Strands.{all_woken, woken_among}
use Rattle.plain_run.proofs.Given.{on-ok}
use Rattle.plain_run.proofs.Listed.{settled-so}
use Rattle.plain_run.proofs.strands.settle.Goals as goal

pub returns : goal.returns
returns c = on-ok _ _ c.add_all.result (λ h. settled-so c.args.common.now c.blocked.result.now c.list_woken.new.woken.items c.wake.new.strands c.blocked.ensures (c.in_ok-list_woken.ensures ∙ ap (λ xs. xs ++ woken_among (common_of c.args.common.now) c.blocked.result.now) c.new-woken.ensures.items) (c.in_ok-wake.ensures ∙ ap (λ ns. all_woken ns (map strand_of c.args.common.now.strands)) c.as_slice.ensures.value) c.add_all.new.numbers.items (h ∙ ap (λ ns. c.args.common.now.ready.items ++ ns) c.as_slice-2.ensures.value)) c.add_all.ensures
