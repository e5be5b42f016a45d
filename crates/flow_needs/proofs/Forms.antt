-- Constructs that evaluate all their operands say nothing of variables, whatever their operations are.
use Rattle.std.proofs.Common.{◌≡◌, inl, inr, ℕ, Bool, true, false, List, [], ◌∷◌, Option, None, Some, refl, sym, subst, ap, ◌∙◌}
use denote.Hole.Carrier.{roll}
use Rattle.bal_base.specs.declared.place.Place.{Place}
use Rattle.type_model.specs.declared.atoms.AtomDef.{AtomDef}
use Rattle.operations.specs.declared.operation.Constant.{Constant}
use Rattle.operations.specs.declared.operation.Constant.TheVariants as constant
use Rattle.operations.specs.declared.operation.Operation.TheVariants.{Const}
use Rattle.typed_tree.specs.declared.expr.TypedExpr.{TypedExpr, out-TypedExpr, roll-TypedExpr, roll-out-TypedExpr}
use Rattle.typed_tree.specs.declared.expr.TypedExpr.TheOpen as layer
use Rattle.typed_tree.specs.declared.form.Callee.{Callee}
use Rattle.typed_tree.specs.declared.form.Callee.TheVariants as callee
use Rattle.typed_tree.specs.declared.form.Operator.{Operator}
use Rattle.typed_tree.specs.declared.form.Operator.TheVariants as operator
use Rattle.typed_tree.specs.declared.form.Read.{Read}
use Rattle.typed_tree.specs.declared.form.Read.TheVariants as read
use Rattle.typed_tree.specs.declared.form.StrictForm.{StrictForm}
use Rattle.typed_tree.specs.declared.form.StrictForm.TheVariants as form
use Rattle.typed_tree.specs.SharedTypes.{Shared}
use Rattle.typed_tree.specs.Views.{IsImplied}
use Rattle.held_operations.specs.Constructs.{call_operations, operations_of, operator_operations, read_operations, start_operations, wait_operations}
use Rattle.eval_model.specs.Walk.{ExprOver}
use Rattle.tree_promises.specs.Flows.{Around, DoesFlow, flow_ways}
use Rattle.tree_promises.specs.Known.{Below, Flow, FlowBelow, Point, plain, told}
use Rattle.tree_promises.specs.MadeFlows.{KeepsFlow, LeavesFlow, OpKeeps, OpsKeep}
use Rattle.tree_promises.proofs.Order.{below-then, flow-itself}

module _ (env : List AtomDef) (around : Around) where
  -- ---- what is left is more than is asked

  pub told-plain : (f y n : Flow) (base : Option Flow) → FlowBelow env y f → FlowBelow env n f → Below env (told y n (plain f base)) (plain f base)
  told-plain f y n base a b = record { flow = flow-itself env f; on_true = a; on_false = b; of = inl refl; twin = inl refl; base = refl }

  -- what holds on both ways of a condition
  pub keeps-both : (base : Option Flow) (e : TypedExpr) (f y n : Flow) → LeavesFlow env around base e f f y n → FlowBelow env y f → FlowBelow env n f
      → KeepsFlow env around base e f
  keeps-both base e f y n leaves a b p q c d =
      leaves p q c (below-then env (told y n (plain f base)) (plain f base) q (told-plain f y n base a b) d)

  module _ (base : Option Flow) (f : Flow) where
    -- whatever the last operand said
    said : (p q : Point) → Below env p (plain f base) → Below env (plain f base) q → Below env (plain p.flow p.base) q
    said p q c d =
        below-then env (plain p.flow p.base) (plain f base) q (record { flow = c.flow; on_true = c.flow; on_false = c.flow; of = inl refl; twin = inl refl; base = c.base }) d

    -- what an operand said of itself is turned round
    turned : (p q : Point) → Below env p (plain f base) → Below env (plain f base) q → Below env (told p.on_false p.on_true p) q
    turned p q c d = record {
      flow = (let x = below-then env p (plain f base) q c d in x.flow);
      on_true = (let x = below-then env (plain p.on_false p.base) (plain f base) q (record { flow = c.on_false; on_true = c.on_false; on_false = c.on_false; of = inl refl; twin = inl refl; base = c.base }) d in x.on_true);
      on_false = (let x = below-then env (plain p.on_true p.base) (plain f base) q (record { flow = c.on_true; on_true = c.on_true; on_false = c.on_true; of = inl refl; twin = inl refl; base = c.base }) d in x.on_false);
      of = (let x = below-then env (plain p.flow p.base) (plain f base) q (record { flow = c.flow; on_true = c.flow; on_false = c.flow; of = inl refl; twin = inl refl; base = c.base }) d in x.of);
      twin = (let x = below-then env p (plain f base) q c d in x.twin);
      base = (let x = below-then env p (plain f base) q c d in x.base);
    }

    given : (b : Bool) → OpKeeps env around base f (Const (constant.Bool b))
    given true p q c d =
        below-then env (told p.flow None (plain p.flow p.base)) (plain f base) q (record { flow = c.flow; on_true = c.flow; on_false = tt; of = inl refl; twin = inl refl; base = c.base }) d
    given false p q c d =
        below-then env (told None p.flow (plain p.flow p.base)) (plain f base) q (record { flow = c.flow; on_true = tt; on_false = c.flow; of = inl refl; twin = inl refl; base = c.base }) d

    constant-keeps : (c : Constant) → OpKeeps env around base f (Const c)
    constant-keeps constant.Nil = said
    constant-keeps (constant.Bool b) = given b
    constant-keeps (constant.Int i) = said
    constant-keeps (constant.Str t) = said

    operator-keeps : (op : Operator) → OpsKeep env around base (operator_operations op) f
    operator-keeps operator.Negate = (said, tt)
    operator-keeps operator.Not = (turned, tt)
    operator-keeps operator.Multiply = (said, tt)
    operator-keeps operator.Divide = (said, tt)
    operator-keeps operator.Remainder = (said, tt)
    operator-keeps operator.Add = (said, tt)
    operator-keeps operator.Concat = (said, tt)
    operator-keeps operator.Subtract = (said, tt)
    operator-keeps operator.Less = (said, tt)
    operator-keeps operator.LessEqual = (said, tt)
    operator-keeps operator.Greater = (said, (turned, tt))
    operator-keeps operator.GreaterEqual = (said, (turned, tt))
    operator-keeps operator.Equal = (said, tt)
    operator-keeps operator.NotEqual = (said, (turned, tt))
    operator-keeps operator.Same = (said, tt)
    operator-keeps operator.NotSame = (said, (turned, tt))

    read-keeps : (how : Read) → OpsKeep env around base (read_operations how) f
    read-keeps read.Item = (said, tt)
    read-keeps read.Key = (said, tt)
    read-keeps read.Char = (said, tt)
    read-keeps (read.Field name) = (said, tt)
    read-keeps (read.OptionalField name) = (said, tt)

    call-keeps : (c : Callee) (count : ℕ) → OpsKeep env around base (call_operations c count) f
    call-keeps (callee.Unit unit fixed None) count = (said, tt)
    call-keeps (callee.Unit unit fixed (Some atom)) count = (said, (said, tt))
    call-keeps callee.Value count = (said, tt)

    start-keeps : (c : Callee) (count : ℕ) → OpsKeep env around base (start_operations c count) f
    start-keeps (callee.Unit unit fixed None) count = (said, tt)
    start-keeps (callee.Unit unit fixed (Some atom)) count = (said, (said, tt))
    start-keeps callee.Value count = (said, tt)

    wait-keeps : (names : List (Option ℕ)) → OpsKeep env around base (wait_operations names) f
    wait-keeps [] = (said, tt)
    wait-keeps (Some worker ∷ []) = (said, tt)
    wait-keeps (None ∷ []) = (said, tt)
    wait-keeps (Some worker ∷ other ∷ names) = (said, tt)
    wait-keeps (None ∷ other ∷ names) = (said, tt)

    pub form-keeps : (s : StrictForm) (count : ℕ) → OpsKeep env around base (operations_of s count) f
    form-keeps (form.Literal c) count = (constant-keeps c, tt)
    form-keeps (form.Constant c) count = (constant-keeps c, tt)
    form-keeps (form.Variable m) count = (said, tt)
    form-keeps (form.FunctionName unit) count = (said, tt)
    form-keeps (form.Operator op) count = operator-keeps op
    form-keeps (form.Is t) count = ((λ p q c d. inr (said p q c d)), tt)
    form-keeps (form.Cast t) count = (said, tt)
    form-keeps (form.List atom immutable) count = (said, tt)
    form-keeps (form.Mapping atom immutable) count = (said, tt)
    form-keeps form.Error count = (said, tt)
    form-keeps (form.Read how) count = read-keeps how
    form-keeps (form.Call called) count = call-keeps called count
    form-keeps (form.Library call atom None) count = (said, tt)
    form-keeps (form.Library call atom (Some t)) count = (said, (said, tt))
    form-keeps (form.Start started) count = start-keeps started count
    form-keeps (form.Send None) count = tt
    form-keeps (form.Send (Some w)) count = (said, (said, tt))
    form-keeps (form.SyncSend None) count = tt
    form-keeps (form.SyncSend (Some w)) count = (said, (said, (said, tt)))
    form-keeps (form.Receive None) count = tt
    form-keeps (form.Receive (Some w)) count = (said, (said, tt))
    form-keeps (form.Flush None) count = tt
    form-keeps (form.Flush (Some w)) count = (said, (said, tt))
    form-keeps (form.WaitAny names) count = (said, wait-keeps names)
    form-keeps (form.WaitAll atom names) count = (said, (said, tt))

    -- what stands where the text has nothing
    implied-over : (e : TypedExpr) (c : Constant) (t : Shared) (at : Place) (p q : Point) → out-TypedExpr e ≡ layer.Implied c t at → DoesFlow env around (Const c) p q
        → ExprOver (flow_ways env around) e p q
    unfolding roll-TypedExpr roll
    implied-over e c t at p q is does =
        subst (λ (x : TypedExpr). ExprOver (flow_ways env around) x p q) (ap roll-TypedExpr (sym is) ∙ roll-out-TypedExpr e) does

    pub implied-keeps : (c : Constant) (t : Shared) (at : Place) (e : TypedExpr) → IsImplied c t at e → KeepsFlow env around base e f
    implied-keeps c t at e is p q a b = implied-over e c t at p q is (constant-keeps c p q a b)
