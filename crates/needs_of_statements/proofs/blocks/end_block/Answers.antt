use Rattle.std.proofs.Common.{◌≡◌, ◌∙◌, ap, map, rules, subst, sym}
use Rattle.check_words.specs.State.{IsLast, outside}
use Rattle.check_words.proofs.Blocks.{ends-block-comes}
use Rattle.check_words.proofs.Entering.{outside-stands}
use Rattle.check_work.specs.Views.{block_of, flow_of, state_of, unit_of}
use Rattle.check_work.proofs.Noting.{at-hand}
use Rattle.needs_of_statements.proofs.blocks.end_block.Goals as goal

pub returns-clause-stands : goal.returns-clause-stands
returns-clause-stands c = λ env h.
    outside-stands (state_of env c.args.work.now) h (map unit_of c.args.work.now.around.items) (unit_of c.in_ok-unit.unit) (at-hand _ _ _ c.in_ok-unit.ensures) _ _ c.end_block.ensures

pub returns-clause-comes : goal.returns-clause-comes
returns-clause-comes c = λ env.
    let b = c.in_ok-scope_at.ensures in
    let all : c.as_slice.result.now ≡ c.args.work.now.blocks.items = search rules in
    ends-block-comes (state_of env c.args.work.now) (map unit_of c.args.work.now.around.items) (unit_of c.in_ok-unit.unit) (at-hand _ _ _ c.in_ok-unit.ensures) b.0 _
    (subst (λ bs. IsLast (map block_of bs) b.0) all b.1) (c.end_block.ensures ∙ ap (λ scope. outside scope (flow_of c.in_ok-unit.unit.here)) (sym b.2))
