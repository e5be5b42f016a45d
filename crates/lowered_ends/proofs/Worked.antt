-- The worked cases.
use Rattle.std.proofs.Common.{◌≢◌, ℕ, zero, suc, false, [], ◌∷◌, None, Some, refl, inl, inr, arith}
use Rattle.std.specs.Prelude.{Contains}
use Rattle.operations.specs.declared.operation.Constant.TheVariants as constant
use Rattle.operations.specs.declared.operation.Operation.TheVariants as op
use Rattle.typed_tree.specs.declared.form.Callee.TheVariants as callee
use Rattle.lowered_ends.specs.Cases.{CallsStartNothing, DefaultIsNotAwaited, EndsStartNothing, StartsAreSeen, WaitsAreForNamed}
use Rattle.lowered_ends.specs.Starting.{StartsNone}

none-among : (w : ℕ) → Contains [] w → w ≢ 0
none-among w (k, lt, same) = absurd (omega (arith, lt))

one-among : (v w : ℕ) → Contains (suc v ∷ []) w → w ≢ 0
one-among v w (zero, lt, same) is = omega (arith, same, is)
one-among v w (suc k, lt, same) is = omega (arith, lt)

list-none : (atom count : ℕ) → StartsNone (op.MakeList atom false count)
list-none atom count (inl (unit, n, e)) = let q : ⊥ = cc in q
list-none atom count (inr (n, e)) = let q : ⊥ = cc in q

call-none : (unit count : ℕ) → StartsNone (op.Call unit count)
call-none unit count (inl (u, n, e)) = let q : ⊥ = cc in q
call-none unit count (inr (n, e)) = let q : ⊥ = cc in q

value-none : (count : ℕ) → StartsNone (op.CallValue count)
value-none count (inl (u, n, e)) = let q : ⊥ = cc in q
value-none count (inr (n, e)) = let q : ⊥ = cc in q

nil-none : StartsNone (op.Const constant.Nil)
nil-none (inl (u, n, e)) = let q : ⊥ = cc in q
nil-none (inr (n, e)) = let q : ⊥ = cc in q

return-none : StartsNone op.Return
return-none (inl (u, n, e)) = let q : ⊥ = cc in q
return-none (inr (n, e)) = let q : ⊥ = cc in q

pub starts-are-seen : StartsAreSeen
starts-are-seen (callee.Unit unit fixed None) count (m, none, rest) = none (inl (unit, _, refl))
starts-are-seen (callee.Unit unit fixed (Some atom)) count (m, list, (n, none, rest)) = none (inl (unit, _, refl))
starts-are-seen callee.Value count (m, none, rest) = none (inr (_, refl))

pub calls-start-nothing : CallsStartNothing
calls-start-nothing (callee.Unit unit fixed None) count = (tt, call-none unit _, tt)
calls-start-nothing (callee.Unit unit fixed (Some atom)) count = (tt, list-none atom _, (tt, call-none unit _, tt))
calls-start-nothing callee.Value count = (tt, value-none _, tt)

pub ends-start-nothing : EndsStartNothing
ends-start-nothing = (tt, tt, tt, nil-none, (tt, tt, tt, return-none, (refl, tt)))

pub waits-are-for-named : WaitsAreForNamed
waits-are-for-named = ((λ w. (tt, none-among, (tt, one-among w, tt))), (tt, none-among, (tt, none-among, tt)))

pub default-is-not-awaited : DefaultIsNotAwaited
default-is-not-awaited (m, tick, (n, named, rest)) = named 0 (0, omega arith, refl) refl
