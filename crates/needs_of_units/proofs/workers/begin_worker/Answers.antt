use Rattle.checks.specs.Checks.{Comes}
use Rattle.checks.proofs.Steps.{stops}
use Rattle.tree_places.specs.UsedInStmts.{used_in_block}
use Rattle.typed_tree.specs.Listed.{members}
use Rattle.check_words.specs.State.{State}
use Rattle.check_words.specs.Units.{begins_worker, is_worker_new}
use Rattle.check_words.proofs.Coming.{next}
use Rattle.check_work.specs.Views.{state_of}
use Rattle.needs_of_units.proofs.Answering.{handed-on, made-behind, made-so}
use Rattle.needs_of_units.proofs.workers.begin_worker.Goals as goal

pub returns-in_err-new_worker-clause-comes : goal.returns-in_err-new_worker-clause-comes
returns-in_err-new_worker-clause-comes c = λ env. let s : State = state_of env c.args.work.now in
    handed-on (λ r. Comes (begins_worker c.args.w.now c.args.number (members (used_in_block c.args.w.now.body))) s r s) _ _ c.from_residual.ensures
    (stops (is_worker_new c.args.w.now c.args.number) _ s s _ (c.in_err-new_worker.ensures env))

pub returns-in_err-gives-clause-comes : goal.returns-in_err-gives-clause-comes
returns-in_err-gives-clause-comes c = λ env. let s : State = state_of env c.args.work.now in
    handed-on (λ r. Comes (begins_worker c.args.w.now c.args.number (members (used_in_block c.args.w.now.body))) s r s) _ _ c.from_residual-in_err-gives.ensures
    (next (is_worker_new c.args.w.now c.args.number) _ s _ _ tt s (c.in_ok-new_worker.ensures env) (stops _ _ s s _ (c.in_err-gives.ensures.gives env)))

pub returns-clause-stands : goal.returns-clause-stands
returns-clause-stands c = λ env h. made-behind _ _ _ c.lift.ensures (c.open_worker.ensures.stands env (c.in_ok-gives.ensures.below env h) h)

pub returns-clause-comes : goal.returns-clause-comes
returns-clause-comes c = λ env. let s : State = state_of env c.args.work.now in
    let known = c.in_ok-gives.ensures.gives env in
    next (is_worker_new c.args.w.now c.args.number) _ s _ _ tt s (c.in_ok-new_worker.ensures env)
    (next _ _ s _ _ known.0 s known.2 (made-so _ _ _ _ _ c.lift.ensures (c.open_worker.ensures.comes env known.0 known.1)))
