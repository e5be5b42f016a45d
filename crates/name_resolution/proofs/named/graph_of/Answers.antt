use Rattle.std.proofs.Common.{◌∙◌, ℕ, ap, subst, sym, map}
use Rattle.graphs.specs.Cycles.{IsOnCycle}
use Rattle.graphs.specs.Distances.{IsReversed}
use Rattle.graphs.specs.Ordering.{IsInside}
use Rattle.name_resolution.proofs.Inside.{parts-inside}
use Rattle.name_resolution.proofs.named.graph_of.Goals as goal

pub has_no_cycle-requires : goal.has_no_cycle-requires
has_no_cycle-requires c = subst IsInside (sym (ap (map (λ v. v.items)) c.deref-2.ensures.value ∙ c.in_ok-parts.ensures)) (parts-inside c.args.outlines.now)

pub returns : goal.returns
returns c = record {
  table = c.in_ok-table.ensures;
  parts_are = c.in_ok-parts.ensures;
  reversed = subst (λ next. IsReversed next (map (λ v. v.items) c.in_ok-back.back.items)) (ap (map (λ v. v.items)) c.deref.ensures.value ∙ c.in_ok-parts.ensures) c.in_ok-back.ensures;
  acyclic = λ known. subst (λ next. (i : ℕ) → ¬ IsOnCycle next i) (ap (map (λ v. v.items)) c.deref-2.ensures.value ∙ c.in_ok-parts.ensures) (c.in_ok-acyclic.ensures known);
}
