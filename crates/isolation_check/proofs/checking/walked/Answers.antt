use Rattle.std.proofs.Common.{ap, length, map, rules, subst, sym, ◌≡◌, ◌∙◌, ◌∷◌, []}
use Rattle.std.specs.Prelude.{All, Err, None, false, replicate}
use Rattle.std.proofs.lemmas.List.{length-map}
use Rattle.bal_base.specs.declared.stop.Stop.TheVariants.{Memory}
use Rattle.checks.specs.Checks.{Comes}
use Rattle.isolation_check.specs.inner.Opened.{open_of}
use Rattle.isolation_check.specs.inner.Views.{parts_of}
use Rattle.isolation_check.specs.Isolated.{own_parts}
use Rattle.isolation_check.specs.Parts.{function_parts}
use Rattle.isolation_check.specs.Typed.{PartBelow}
use Rattle.isolation_check.specs.Walk.{body, isolated}
use Rattle.isolation_check.proofs.Whole.{below-all, comes-isolated, first-left}
use Rattle.isolation_check.proofs.checking.walked.Goals as goal

pub returns-in_err-first-clause-comes : goal.returns-in_err-first-clause-comes
unfolding Comes
returns-in_err-first-clause-comes g c =
    let passed : c.from_residual.result ≡ Err Memory = search rules in
    subst (λ r. Comes (isolated g.T.Types.passes c.args.own.now c.args.«package».now) (g.T.Types.atoms c.args.types.now) r (g.T.Types.atoms c.args.types.now)) (sym passed) tt

pub run-requires-clause-bodies : goal.run-requires-clause-bodies
run-requires-clause-bodies g c =
    let same : map (λ v. parts_of v.items) c.deref.result.now ≡ map (λ f. own_parts (function_parts f)) c.args.«package».now.functions.items =
    ap (map (λ v. parts_of v.items)) c.deref.ensures.value ∙ c.requires.bodies in
    record {
      parts = same;
      below = below-all (length (g.T.Types.atoms c.args.types.now)) c.deref.result.now c.args.«package».now.functions.items same c.requires.typed.functions;
      variables = c.requires.typed.variables;
    }

pub run-requires-clause-stack : goal.run-requires-clause-stack
run-requires-clause-stack g c =
    let n = length (g.T.Types.atoms c.args.types.now) in
    c.in_ok-first.ensures.below n (subst (λ ps. All (PartBelow n) ps) (sym c.requires.promises) c.requires.typed.promised)

pub run-requires-clause-steps : goal.run-requires-clause-steps
run-requires-clause-steps g c =
    first-left c.in_ok-first.field-0.entered.items (length c.args.all.now.bodies.items) (length c.in_ok-first.field-0.stack.items) c.in_ok-first.ensures.entered
    (sym (length-map c.in_ok-first.field-0.stack.items open_of) ∙ ap length c.in_ok-first.ensures.stack)

pub returns-clause-comes : goal.returns-clause-comes
returns-clause-comes g c =
    let long : length c.args.all.now.bodies.items ≡ length c.args.«package».now.functions.items =
    sym (length-map c.args.all.now.bodies.items (λ v. parts_of v.items)) ∙ ap length c.requires.bodies ∙ length-map c.args.«package».now.functions.items (λ f. own_parts (function_parts f)) in
    comes-isolated g.T.Types.passes (record { own = c.args.own; «package» = c.args.«package»; parts = c.deref.result }) (g.T.Types.atoms c.args.types.now) _ _ _
    (c.in_ok-first.ensures.stack ∙ ap (λ ps. body None ps ∷ []) c.requires.promises)
    (c.in_ok-first.ensures.entered ∙ ap (λ n. replicate n false) long) c.run.ensures.atoms c.run.result c.run.ensures.ends
