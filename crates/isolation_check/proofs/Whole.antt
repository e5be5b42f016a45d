-- The whole walk, as the check that it is.
use Rattle.std.proofs.Common.{◌≡◌, ◌∙◌, ◌≤◌, ◌+◌, ◌*◌, ℕ, zero, suc, List, [], ◌∷◌, None, false, length, map, refl, sym, subst, ap, arith}
use Rattle.std.specs.Prelude.{All, Bool, IfOk, Result, Ok, Err, replicate}
use Rattle.std.specs.Global.{Vec}
use Rattle.std.proofs.lemmas.List.{length-replicate}
use Rattle.std.proofs.lemmas.List.Elements.{All-cons, All-head, All-map, All-nil, All-tail}
use Rattle.typed_tree.specs.declared.unit.TypedFunction.{TypedFunction}
use Rattle.isolation_check.specs.declared.parts.HeldPart.{HeldPart}
use Rattle.isolation_check.specs.inner.Views.{parts_of}
use Rattle.isolation_check.specs.Parts.{function_parts}
use Rattle.isolation_check.specs.Typed.{OwnBelow, PartBelow}
use Rattle.bal_base.specs.declared.fault.Fault.{Fault}
use Rattle.bal_base.specs.declared.fault.FaultCode.TheVariants.{NotIsolated}
use Rattle.bal_base.specs.declared.stop.Stop.{Stop}
use Rattle.bal_base.specs.declared.stop.Stop.TheVariants.{Memory, Fault as OwnFault}
use Rattle.bal_base.specs.Stops.{IfFault}
use Rattle.type_model.specs.declared.answers.TypeLimit.{TypeLimit}
use Rattle.type_model.specs.declared.atoms.AtomDef.{AtomDef}
use Rattle.type_model.specs.Calls.{Asked}
use Rattle.typed_tree.specs.declared.package.TypedPackage.{TypedPackage}
use Rattle.checks.specs.Checks.{Comes, Gives, Refuses}
use Rattle.descriptors.specs.declared.names.OwnTypes.{OwnTypes}
use Rattle.isolation_check.specs.declared.walk.Bodies.{Bodies}
use Rattle.isolation_check.specs.inner.Opened.{Ends, left, unentered}
use Rattle.isolation_check.specs.Isolated.{IsIsolated, own_parts, promises}
use Rattle.isolation_check.specs.Walk.{Open, body, isolated}
use Rattle.isolation_check.proofs.Sound.{is-isolated, is-not-isolated}

none-entered : (n : ℕ) → unentered (replicate n false) ≡ n
none-entered zero = refl
none-entered (suc n) = ap suc (none-entered n)

-- as many steps as the loop makes
pub first-left : (entered : List Bool) (n m : ℕ) → entered ≡ replicate n false → m ≡ 1 → left entered m ≤ 2 * length entered + 1
first-left entered n m is one =
    let all : unentered entered ≡ n = ap unentered is ∙ none-entered n in
    let long : length entered ≡ n = ap length is ∙ length-replicate n false in
    by (unentered entered) (length entered) m (all ∙ sym long) one
  where
    by : (a b k : ℕ) → a ≡ b → k ≡ 1 → 2 * a + k ≤ 2 * b + 1
    by a b k e f = omega (arith, e, f)

-- ---- what is asked of names atoms that are there

from-map : {X Y : Type 0} (P : Y → Type 0) (f : X → Y) (xs : List X) → All P (map f xs) → All (λ x. P (f x)) xs
from-map P f [] all = All-nil (λ x. P (f x))
from-map P f (x ∷ xs) all = All-cons (λ y. P (f y)) x xs (All-head P (f x) (map f xs) all) (from-map P f xs (All-tail P (f x) (map f xs) all))

pub below-all : (n : ℕ) (vs : List (Vec HeldPart)) (fs : List TypedFunction) → map (λ v. parts_of v.items) vs ≡ map (λ f. own_parts (function_parts f)) fs → All (OwnBelow n) fs
    → All (λ v. All (PartBelow n) (parts_of v.items)) vs
below-all n vs fs same all =
    from-map (All (PartBelow n)) (λ v. parts_of v.items) vs (subst (All (All (PartBelow n))) (sym same) (All-map (All (PartBelow n)) (λ f. own_parts (function_parts f)) fs all))

module _ (passes : List AtomDef → Asked → TypeLimit → Type 0) (b : Bodies) (env new : List AtomDef) where
  pub comes-isolated : (opens : List Open) (entered : List Bool) → opens ≡ body None (promises b.«package».now) ∷ [] → entered ≡ replicate (length b.«package».now.functions.items) false → new ≡ env
      → (r : Result (Unit {0}) (Stop Fault)) → Ends passes b env opens entered r → Comes (isolated passes b.own.now b.«package».now) env r new
  unfolding Comes isolated
  comes-isolated opens entered is none same (Ok u) w = (subst (λ e. Ends passes b env (body None (promises b.«package».now) ∷ []) e (Ok u)) none (subst (λ o. Ends passes b env o entered (Ok u)) is w), same)
  comes-isolated opens entered is none same (Err (OwnFault f)) w =
      (subst (λ e. Ends passes b env (body None (promises b.«package».now) ∷ []) e (Err (OwnFault f))) none (subst (λ o. Ends passes b env o entered (Err (OwnFault f))) is w), same)
  comes-isolated opens entered is none same (Err Memory) w = tt

module _ (passes : List AtomDef → Asked → TypeLimit → Type 0) (own : OwnTypes) (p : TypedPackage) (env new : List AtomDef) where
  pub right-then : (r : Result (Unit {0}) (Stop Fault)) → Comes (isolated passes own p) env r new → IfOk r (λ u. IsIsolated p own env)
  unfolding Comes isolated
  right-then (Ok u) h = is-isolated passes own p env (Gives u) h.0 refl
  right-then (Err s) h = tt

  pub wrong-then : (r : Result (Unit {0}) (Stop Fault)) → Comes (isolated passes own p) env r new → IfFault r (λ f. f.code ≡ NotIsolated → ¬ IsIsolated p own env)
  unfolding Comes isolated
  wrong-then (Ok u) h = tt
  wrong-then (Err Memory) h = tt
  wrong-then (Err (OwnFault f)) h = λ code. is-not-isolated passes own p env (Refuses f) h.0 f refl code
