-- Counters and items of loops, as answers of calls.
use Rattle.std.proofs.Common.{◌≡◌, ◌++◌, Bool, true, List, [], ◌∷◌, length, All, Option, Some, Result, Ok, Err, refl, sym, subst}
use Rattle.bal_base.specs.declared.fault.Fault.{Fault}
use Rattle.bal_base.specs.declared.place.Place.{Place}
use Rattle.bal_base.specs.declared.stop.Stop.{Stop}
use Rattle.checks.specs.Checks.{Comes}
use Rattle.checks.specs.Questions.{below}
use Rattle.checks.proofs.Steps.{stops}
use Rattle.descriptors.specs.Described.{plain}
use Rattle.flow_narrowing.specs.Flows.{IfShared}
use Rattle.type_model.specs.declared.answers.TypeLimit.{TypeLimit}
use Rattle.type_model.specs.declared.atoms.AtomDef.{AtomDef}
use Rattle.type_model.specs.declared.basic.SemType.{SemType}
use Rattle.type_model.specs.declared.basic.Ty.{Ty}
use Rattle.type_model.specs.Calls.{Asked}
use Rattle.type_model.specs.Defined.{TyBelow}
use Rattle.typed_tree.specs.declared.expr.TypedExpr.{TypedExpr}
use Rattle.typed_tree.specs.SharedTypes.{Shared, sem_of}
use Rattle.expr_needs.specs.declared.kind.Kind.TheVariants as kind
use Rattle.check_words.specs.Branches.{is_counter, is_item_of_loop, item_type_at, wants_counter, widens_item}
use Rattle.check_words.specs.Stands.{SharedBelow, Stands}
use Rattle.check_words.specs.State.{IsLast, State}
use Rattle.check_words.specs.Values.{widened}
use Rattle.check_words.specs.Words.{Atoms, OfKind, sem}
use Rattle.check_words.proofs.Coming.{asked, given, next}
use Rattle.check_words.proofs.Flowing.{want-put}
use Rattle.check_words.proofs.Standing.{also-has, stands-wants}

-- ---- what is wanted

module _ (s : State) (t : Shared) (ws : List (Option Shared)) (more : ws ≡ s.wants ++ Some t ∷ []) where
  pub wanted-stands : SharedBelow (length s.atoms) t → Stands s → Stands (record s { wants = ws })
  wanted-stands below h =
      stands-wants s h ws
      (subst (All (IfShared (TyBelow (length s.atoms)))) (sym more) (also-has (IfShared (TyBelow (length s.atoms))) s.wants (Some t) h.wants below))

  pub wants-counter-comes : OfKind kind.Integer s.atoms t.value → Comes wants_counter s (Ok tt) (record s { wants = ws })
  wants-counter-comes of = next _ _ _ _ _ t s (given _ s t of) (want-put s (Some t) (Some t) ws refl more)

-- ---- questions

module _ (passes : List AtomDef → Asked → TypeLimit → Type 0) (at : Place) (s : State) where
  pub is-counter-comes : (t : Shared) (int : Ty) (r : Result (Unit {0}) (Stop Fault)) (env : Atoms) → IsLast s.wants (Some t) → OfKind kind.Integer s.atoms int
      → Comes (below passes int.sem (sem_of t) (Some at)) s.atoms r env → Comes (is_counter passes at) s r (record s { atoms = env })
  is-counter-comes t int r env last of h = next _ _ _ _ _ t s (given _ s t last) (next _ _ _ _ _ int s (given _ s int of) (asked _ s env r h))

  pub is-item-comes : (m : SemType) (t : Shared) (r : Result (Unit {0}) (Stop Fault)) (mid env : Atoms) → Comes (item_type_at passes at) s (Ok m) (record s { atoms = mid })
      → IsLast s.wants (Some t) → Comes (below passes m (sem_of t) (Some at)) mid r env → Comes (is_item_of_loop passes at) s r (record s { atoms = env })
  is-item-comes m t r mid env found last h = let old : State = record s { atoms = mid } in
      next _ _ _ _ _ m old found (next _ _ _ _ _ t old (given _ old t last) (asked _ old env r h))

  pub widens-item-comes : (m : SemType) (t u : Shared) (ws : List (Option Shared)) (mid env : Atoms) → Comes (item_type_at passes at) s (Ok m) (record s { atoms = mid })
      → t.value ≡ plain m → Comes (widened passes t at) (record s { atoms = mid }) (Ok u) (record s { atoms = env }) → ws ≡ s.wants ++ Some u ∷ []
      → Comes (widens_item passes at) s (Ok tt) (record s { atoms = env; wants = ws })
  widens-item-comes m t u ws mid env found is wide more = let old : State = record s { atoms = mid } in
      next _ _ _ _ _ m old found
      (next _ _ _ _ _ t old (given _ old t is) (next _ _ _ _ _ u (record s { atoms = env }) wide (want-put (record s { atoms = env }) (Some u) (Some u) ws refl more)))

  pub widens-item-stops : (m : SemType) (t : Shared) (mid env : Atoms) (stop : Stop Fault) → Comes (item_type_at passes at) s (Ok m) (record s { atoms = mid }) → t.value ≡ plain m
      → Comes (widened passes t at) (record s { atoms = mid }) (Err stop) (record s { atoms = env }) → Comes (widens_item passes at) s (Err stop) (record s { atoms = env })
  widens-item-stops m t mid env stop found is wide = let old : State = record s { atoms = mid } in
      next _ _ _ _ _ m old found (next _ _ _ _ _ t old (given _ old t is) (stops _ _ _ _ _ wide))
