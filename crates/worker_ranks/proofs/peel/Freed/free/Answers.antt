use Rattle.std.proofs.Common.{◌∙◌, map, subst, sym}
use Rattle.worker_ranks.specs.inner.Free.{AreFree}
use Rattle.worker_ranks.proofs.NotOnCycle.{free-more}
use Rattle.worker_ranks.proofs.peel.Freed.free.Goals as goal

pub returns-then-is_free : goal.returns-then-is_free
returns-then-is_free c = λ all frees are. are

pub returns-then-not-leads_to_free : goal.returns-then-not-leads_to_free
returns-then-not-leads_to_free c = λ all frees are. are

pub returns : goal.returns
returns c = λ all frees are.
    subst (AreFree all) (sym c.mark.ensures)
    (free-more all (map (λ v. v.items) c.args.steps.now) frees c.args.self.now.marks.items c.args.number (sym c.leads_to_free.ensures ∙ c.if-not-leads_to_free.false) are)
