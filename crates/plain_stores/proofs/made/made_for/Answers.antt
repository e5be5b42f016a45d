use Rattle.std.proofs.Common.{◌≡◌, ◌∙◌, ◌+◌, ◌-◌, ◌++◌, [], None, Some, ap, subst, sym, arith}
use Rattle.std.specs.Prelude.{flat_map}
use Rattle.std.specs.List.{sum_by}
use Rattle.op_model.specs.Levels.{all_of, levels}
use Rattle.op_model.specs.Limits.{most_cells}
use Rattle.plain_run.specs.Came.{IsLeft}
use Rattle.plain_stores.specs.Changes.{filler_cells, kids}
use Rattle.plain_stores.proofs.Levels.{level-left, level-on, level-past, levels-end}
use Rattle.plain_stores.proofs.made.made_for.Goals as goal

pub loop-level-init : goal.loop-level-init
loop-level-init c =
    let facts = c.args.facts.now in
    let e : c.args.depth - 0 ≡ c.args.depth = omega arith in
    let none : IsLeft most_cells (sum_by (filler_cells facts) []) (Some most_cells) = omega arith in (
      (λ i. c.new-made.ensures.items i ++ levels all_of (kids facts) c.args.roots.items (e i)),
      subst (λ l. IsLeft most_cells (sum_by (filler_cells facts) l) (Some most_cells)) (sym c.new-made.ensures.items) none,
    )

pub returns-in-None : goal.returns-in-None
returns-in-None c =
    let facts = c.args.facts.now in
    let made = c.loop-level.made.items in
    let level = c.loop-level.level.items in
    let cells = filler_cells facts in
    let told = c.less_all.ensures most_cells (sum_by cells made) c.loop-level.invariant.1 in
    let none = subst (λ l. IsLeft most_cells (sum_by cells made + sum_by cells l) None) c.as_slice.ensures.value (subst (IsLeft most_cells (sum_by cells made + sum_by cells c.as_slice.result.now)) c.in-None.is told) in
    level-past facts made level (levels all_of (kids facts) c.args.roots.items c.args.depth) c.args.depth c.loop-level._level c.loop-level-test.true c.loop-level.invariant.0 none

pub loop-level-preserved : goal.loop-level-preserved
loop-level-preserved c =
    let facts = c.args.facts.now in
    let made = c.loop-level.made.items in
    let level = c.loop-level.level.items in
    let cells = filler_cells facts in
    let told = c.less_all.ensures most_cells (sum_by cells made) c.loop-level.invariant.1 in
    let left = subst (λ l. IsLeft most_cells (sum_by cells made + sum_by cells l) (Some c.in-Some.left)) c.as_slice.ensures.value (subst (IsLeft most_cells (sum_by cells made + sum_by cells c.as_slice.result.now)) c.in-Some.is told) in
    let all = levels all_of (kids facts) c.args.roots.items c.args.depth in
    let next = c.in_ok-kids.ensures ∙ ap (flat_map (kids facts)) c.as_slice-in-loop-level.ensures.value in (
      level-on facts made level all c.args.depth c.loop-level._level c.loop-level-test.true c.loop-level.invariant.0 c.append.new.self.items c.in_ok-kids.kids.items c.in_ok-append.ensures.items next,
      level-left facts made level all c.args.depth c.loop-level._level c.loop-level-test.true c.loop-level.invariant.0 c.append.new.self.items c.in-Some.left c.in_ok-append.ensures.items left,
    )

pub returns : goal.returns
returns c =
    let facts = c.args.facts.now in
    let all = levels all_of (kids facts) c.args.roots.items c.args.depth in
    let same : c.loop-level.made.items ≡ all = sym (levels-end (kids facts) c.loop-level.made.items c.loop-level.level.items c.args.depth c.loop-level._level c.loop-level-test.false) ∙ c.loop-level.invariant.0 in
    (same, subst (λ l. IsLeft most_cells (sum_by (filler_cells facts) l) (Some c.loop-level.room)) same c.loop-level.invariant.1)
