use Rattle.std.proofs.Common.{Err, arith, drop, false, rules, subst, sym, true, ◌≡◌, ◌∙◌}
use Rattle.type_model.specs.declared.basic.BasicSet.TheVariants.{Readonly}
use Rattle.type_model.specs.declared.basic.SemType.{Basic}
use Rattle.typed_tree.specs.SharedTypes.{sem_of}
use Rattle.isolation_check.specs.inner.Judging.{Judged}
use Rattle.isolation_check.specs.Walk.{are_readonly, has_to_be}
use Rattle.std.specs.Prelude.{Ok}
use Rattle.isolation_check.proofs.Judges.{next-broken, next-kept, next-stopped, none-left}
use Rattle.isolation_check.proofs.judging.are_readonly.Goals as goal

pub returns-in_err-is_readonly-clause-judged : goal.returns-in_err-is_readonly-clause-judged
returns-in_err-is_readonly-clause-judged g c = λ names.
    let passed : c.from_residual.result ≡ Err c.in_err-is_readonly.field-0.0 = search rules in
    c.loop-c.invariant.1 names c.from_residual.result
    (subst (λ r. Judged (are_readonly g.T.Types.passes (drop c.loop-c.c-index c.args.captured.now) names c.args.at) names c.args.at (g.T.Types.atoms c.args.types.now) r) (sym passed) (next-stopped g.T.Types.passes names c.args.at (g.T.Types.atoms c.args.types.now) c.args.captured.now c.loop-c.c-index c.c-item.result (grind (arith, c.loop-c-test.true)) c.c-item.is
    (g.T.Types.atoms c.loop-c.types) c.loop-c.invariant.0 c.in_err-is_readonly.field-0.0 (c.in_err-is_readonly.ensures.judged names)))

pub returns-then-not-branch-clause-judged : goal.returns-then-not-branch-clause-judged
returns-then-not-branch-clause-judged g c = λ names.
    let broken : Judged (has_to_be g.T.Types.passes (sem_of c.c-item.result.ty) (Basic Readonly) names c.args.at) names c.args.at (g.T.Types.atoms c.loop-c.types) (Ok false) =
    subst (λ b. Judged (has_to_be g.T.Types.passes (sem_of c.c-item.result.ty) (Basic Readonly) names c.args.at) names c.args.at (g.T.Types.atoms c.loop-c.types) (Ok b)) c.if-not-branch.true (c.in_ok-is_readonly.ensures.judged names) in
    c.loop-c.invariant.1 names (Ok false)
    (next-broken g.T.Types.passes names c.args.at (g.T.Types.atoms c.args.types.now) c.args.captured.now c.loop-c.c-index c.c-item.result (grind (arith, c.loop-c-test.true)) c.c-item.is
    (g.T.Types.atoms c.loop-c.types) c.loop-c.invariant.0 broken)

pub loop-c-preserved : goal.loop-c-preserved
loop-c-preserved g c = (
  c.in_ok-is_readonly.ensures.atoms ∙ c.loop-c.invariant.0,
  λ names r rest.
      let kept : Judged (has_to_be g.T.Types.passes (sem_of c.c-item.result.ty) (Basic Readonly) names c.args.at) names c.args.at (g.T.Types.atoms c.loop-c.types) (Ok true) =
      subst (λ b. Judged (has_to_be g.T.Types.passes (sem_of c.c-item.result.ty) (Basic Readonly) names c.args.at) names c.args.at (g.T.Types.atoms c.loop-c.types) (Ok b)) c.if-not-branch.false (c.in_ok-is_readonly.ensures.judged names) in
      c.loop-c.invariant.1 names r
      (next-kept g.T.Types.passes names c.args.at (g.T.Types.atoms c.args.types.now) c.args.captured.now c.loop-c.c-index c.c-item.result (grind (arith, c.loop-c-test.true)) c.c-item.is
      (g.T.Types.atoms c.loop-c.types) c.loop-c.invariant.0 kept r rest),
)

pub returns-clause-judged : goal.returns-clause-judged
returns-clause-judged g c = λ names.
    c.loop-c.invariant.1 names (Ok true) (none-left g.T.Types.passes names c.args.at (g.T.Types.atoms c.args.types.now) c.args.captured.now c.loop-c.c-index (grind (arith, c.loop-c-test.false)))
