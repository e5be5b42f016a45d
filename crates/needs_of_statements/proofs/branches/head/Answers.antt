use Rattle.std.proofs.Common.{◌∙◌, ap, length, map}
use Rattle.tree_places.specs.Assigned.{assigned_in_block}
use Rattle.typed_tree.specs.Listed.{members}
use Rattle.check_words.specs.Branches.{at_head}
use Rattle.check_words.proofs.Entering.{unit-stands}
use Rattle.check_work.specs.Views.{flow_of, state_of, unit_of}
use Rattle.check_work.proofs.Noting.{at-hand}
use Rattle.needs_of_statements.proofs.Answering.{change-stands, known-comes}
use Rattle.needs_of_statements.proofs.Branching.{head-below}
use Rattle.needs_of_statements.proofs.branches.head.Goals as goal

pub returns-clause-stands : goal.returns-clause-stands
returns-clause-stands c = λ env h.
    let s = state_of env c.args.work.now in
    let around = map unit_of c.args.work.now.around.items in
    let at = at-hand _ _ _ c.in_ok-unit.ensures in
    change-stands s around (unit_of c.in_ok-unit.unit) at (at_head (members (assigned_in_block c.args.body.now))) _ (c.widen.ensures ∙ ap (λ ws. at_head ws (flow_of c.in_ok-unit.unit.here)) (c.as_slice.ensures ∙ c.in_ok-names.ensures)) h
    (head-below (length env) (members (assigned_in_block c.args.body.now)) (flow_of c.in_ok-unit.unit.here) (unit-stands s h around (unit_of c.in_ok-unit.unit) at).flow)

pub returns-clause-comes : goal.returns-clause-comes
returns-clause-comes c = λ env.
    known-comes (state_of env c.args.work.now) (map unit_of c.args.work.now.around.items) (unit_of c.in_ok-unit.unit) (at-hand _ _ _ c.in_ok-unit.ensures) (at_head (members (assigned_in_block c.args.body.now))) _
    (c.widen.ensures ∙ ap (λ ws. at_head ws (flow_of c.in_ok-unit.unit.here)) (c.as_slice.ensures ∙ c.in_ok-names.ensures))
