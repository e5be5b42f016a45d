use Rattle.std.proofs.Common.{Ok, OnOk, length, subst}
use Rattle.checks.specs.Checks.{Comes}
use Rattle.descriptors.specs.Described.{IsCopy}
use Rattle.descriptors.proofs.Yielding.{copy-below}
use Rattle.typed_tree.specs.declared.form.StrictForm.TheVariants as form
use Rattle.check_words.specs.Words.{makes_strict}
use Rattle.check_work.specs.Views.{state_of}
use Rattle.needs_of_made_calls.proofs.Giving.{so-then-on}
use Rattle.needs_of_made_calls.proofs.made.make_function.Goals as goal

pub returns-clause-stands : goal.returns-clause-stands
returns-clause-stands c = λ env below h. c.make_strict.ensures.stands env (copy-below (length env) c.args.f.now.result c.in_ok-ty.ty c.in_ok-ty.ensures below.2) h

pub returns-clause-comes : goal.returns-clause-comes
returns-clause-comes c = λ env.
    let s = state_of env c.args.work.now in
    let new = state_of env c.make_strict.new.work in
    subst (λ x. OnOk c.make_strict.result (Comes (makes_strict c.args.count (form.Call x) (λ e. IsCopy c.args.f.now.result) c.args.at) s (Ok tt) new)) c.in_ok-callee.ensures
    (so-then-on c.args.count (form.Call c.in_ok-callee.callee) c.args.at (λ e. IsCopy c.args.f.now.result) c.in_ok-ty.ty s new c.in_ok-ty.ensures c.make_strict.result (c.make_strict.ensures.comes env))
