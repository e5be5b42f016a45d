-- Anonymous functions that become values, as answers of calls, and that what stands still stands.
use Rattle.std.proofs.Common.{◌≡◌, ◌+◌, ◌<◌, ◌++◌, ◌∙◌, ℕ, Bool, List, [], ◌∷◌, length, Option, Some, None, Result, Ok, Err, rules, ap, refl, subst, sym}
use Rattle.bal_base.specs.declared.fault.Fault.{Fault}
use Rattle.bal_base.specs.declared.place.Place.{Place}
use Rattle.bal_base.specs.declared.stop.Stop.{Stop}
use Rattle.checks.specs.Checks.{Comes}
use Rattle.checks.specs.Questions.{adds}
use Rattle.checks.proofs.Steps.{stops}
use Rattle.descriptors.specs.Described.{plain}
use Rattle.descriptors.proofs.Yielding.{plain-below}
use Rattle.type_model.specs.declared.basic.SemType.{Atom}
use Rattle.type_model.specs.Defined.{TyBelow}
use Rattle.typed_tree.specs.declared.expr.AnonymousFunction.{AnonymousFunction}
use Rattle.typed_tree.specs.declared.expr.TypedExpr.{TypedExpr}
use Rattle.typed_tree.specs.Exprs.{type_of}
use Rattle.typed_tree.specs.SharedTypes.{Shared}
use Rattle.typed_tree.specs.Views.{IsFunctionOf}
use Rattle.typed_tree.proofs.ExprLayers.{expr_layers}
use Rattle.check_words.specs.Calls.{AreOwnAtoms, closes_unit, makes_anonymous}
use Rattle.check_words.specs.Stands.{SharedBelow, Stands}
use Rattle.check_words.specs.State.{AreLast, State, UnitAtWork, all_but}
use Rattle.check_words.specs.Words.{Atoms}
use Rattle.check_words.proofs.Coming.{asked, became-this, made, next}
use Rattle.check_work.proofs.Making.{made-stands}
use Rattle.needs_of_functions.specs.Anonymous.{function_of, makes_function}

function-type : (f : AnonymousFunction) (value : TypedExpr) (t : Shared) (at : Place) (e : TypedExpr) → IsFunctionOf f value t at e → type_of e ≡ t
function-type f value t at e (b, v, is, same, own) = search (rules, expr_layers)

module _ (s : State) (value e : TypedExpr) (fs es : List TypedExpr) (last : AreLast s.found 1 (value ∷ [])) (front : fs ≡ all_but 1 s.found) (more : es ≡ fs ++ e ∷ []) (f : AnonymousFunction) (t : Shared)
    (at : Place) (is : IsFunctionOf f value t at e) where
  all-in : es ≡ all_but 1 s.found ++ e ∷ []
  all-in = more ∙ ap (λ xs. xs ++ e ∷ []) front

  pub function-put : (isolated : Bool) (u : UnitAtWork) (first : ℕ) → f ≡ function_of isolated u first → t.value ≡ plain (Atom (first + 1))
      → Comes (makes_function isolated u first at) s (Ok tt) (record s { found = es; ways = None })
  function-put isolated u first same own =
      made 1 _ s (record s { found = es; ways = None }) (value ∷ []) e last (value, refl, t, own, subst (λ (g : AnonymousFunction). IsFunctionOf g value t at e) same is)
      (ap (λ (xs : List TypedExpr). record s { found = xs; ways = None }) all-in)

  pub function-stands : Stands s → SharedBelow (length s.atoms) t → Stands (record s { found = es; ways = None })
  function-stands h below = made-stands s h 1 e t es (function-type f value t at e is) below all-in

pub atom-below : (n atom first : ℕ) (t : Shared) → t.value ≡ plain (Atom atom) → atom ≡ first + 1 → first + 1 < n → SharedBelow n t
atom-below n atom first t is same lt = subst (TyBelow n) (sym is) (plain-below n (Atom atom) (subst (λ k. k < n) (sym same) lt))

-- ---- the whole

pub less-wants : (s : State) (ws : List (Option Shared)) → ws ≡ all_but 1 s.wants → record s { wants = ws } ≡ record s { wants = all_but 1 s.wants }
less-wants s ws e = ap (λ (xs : List (Option Shared)). record s { wants = xs }) e

module _ (isolated : Bool) (at : Place) (s s1 s2 : State) (u : UnitAtWork) (less : s1 ≡ record s { wants = all_but 1 s.wants }) (closed : Comes closes_unit s1 (Ok u) s2) (env : Atoms) where
  pub anonymous-made : (first : ℕ) (r : Result (Unit {0}) (Stop Fault)) (new : State) → Comes (adds (AreOwnAtoms isolated u) (Some at)) s2.atoms (Ok first) env
      → Comes (makes_function isolated u first at) (record s2 { atoms = env }) r new → Comes (makes_anonymous isolated at) s r new
  anonymous-made first r new h put =
      next _ _ _ _ _ tt s1 (became-this _ s s1 less)
      (next _ _ _ _ _ u s2 closed (next _ _ _ _ _ first (record s2 { atoms = env }) (asked _ s2 env (Ok first) h) put))

  pub anonymous-stops : (stop : Stop Fault) → Comes (adds (AreOwnAtoms isolated u) (Some at)) s2.atoms (Err stop) env → Comes (makes_anonymous isolated at) s (Err stop) (record s2 { atoms = env })
  anonymous-stops stop h =
      next _ _ _ _ _ tt s1 (became-this _ s s1 less)
      (next _ _ _ _ _ u s2 closed (stops _ _ s2 (record s2 { atoms = env }) stop (asked _ s2 env (Err stop) h)))
