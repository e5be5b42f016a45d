-- What a name is called as, and methods.
use Rattle.std.proofs.Common.{◌≡◌, ◌++◌, ℕ, Bool, true, false, List, [], ◌∷◌, None, Some, Result, Ok, Err, subst}
use Rattle.bal_base.specs.declared.fault.Fault.{Fault}
use Rattle.bal_base.specs.declared.place.Place.{Place}
use Rattle.bal_base.specs.declared.stop.Stop.{Stop}
use Rattle.bal_tree.specs.declared.name.QualifiedName.{QualifiedName}
use Rattle.bal_tree.specs.declared.name.Word.{Word}
use Rattle.checks.specs.Checks.{Comes}
use Rattle.checks.proofs.Steps.{stops}
use Rattle.descriptors.specs.declared.names.Meaning.{Meaning}
use Rattle.descriptors.specs.declared.names.Meaning.TheVariants as meaning
use Rattle.descriptors.specs.declared.names.Names.{Names}
use Rattle.expr_needs.specs.declared.kind.Kind.TheVariants as kind
use Rattle.type_model.specs.declared.answers.TypeLimit.{TypeLimit}
use Rattle.type_model.specs.declared.atoms.AtomDef.{AtomDef}
use Rattle.type_model.specs.Calls.{Asked}
use Rattle.typed_tree.specs.declared.expr.TypedExpr.{TypedExpr}
use Rattle.typed_tree.specs.Exprs.{type_of}
use Rattle.typed_tree.specs.SharedTypes.{Shared}
use Rattle.check_words.specs.Calls.{calls, calls_function, calls_library, calls_meaning, calls_method, calls_named, calls_seen, calls_seen_value}
use Rattle.check_calls.specs.Picking.{picks_methods}
use Rattle.check_words.specs.Library.{LibraryRow}
use Rattle.check_words.specs.Seen.{Seen, SeenConstant, SeenLibrary, SeenMeaning, SeenNothing, SeenVariable, SeenWorker, seen_as}
use Rattle.check_words.specs.Sharing.{SameShared}
use Rattle.check_words.specs.State.{IsLast, OfValue, State, UnitAtWork}
use Rattle.check_words.specs.Values.{gives_seen}
use Rattle.check_words.specs.Words.{OfKind, is_of, is_within, sem}
use Rattle.check_words.proofs.Coming.{given, handed, next}
use Rattle.seen_names.specs.Given.{Puts, with_part}
use Rattle.seen_names.proofs.SeenAtoms.{looks-up}
use Rattle.needs_of_calls.specs.Callables.{ComesOf, IsCallable, IsLibrary, IsMeant, IsValued, calls_part}
use Rattle.needs_of_calls.specs.declared.named.Callable.{Callable}
use Rattle.needs_of_calls.specs.declared.named.Callable.TheVariants as callable

module _ (passes : List AtomDef → Asked → TypeLimit → Type 0) where
  -- ---- by name

  module _ (count : ℕ) (name at : Place) (s : State) where
    module _ (r : Result (Unit {0}) (Stop Fault)) (new : State) where
      valued-so : (seen : Seen) (what : Callable) → IsValued seen name (Ok what) → ComesOf passes what count name at s r new → Comes (calls_seen_value passes seen name) s r new
      unfolding Puts
      valued-so seen (callable.Value e) h k = next (gives_seen seen name) _ s new r tt (with_part s (Ok e)) (h s) k
      valued-so seen (callable.Function f) h k = absurd h
      valued-so seen (callable.Library call) h k = absurd h

      library-so : (started : Bool) (row : LibraryRow) (what : Callable) → IsLibrary started row name (Ok what) → ComesOf passes what count name at s r new
          → Comes (calls_seen passes started (SeenLibrary row) count name at) s r new
      library-so false row (callable.Library call) h k = subst (λ x. Comes (calls_library x None count at) s r new) h k
      library-so false row (callable.Function f) h k = absurd h
      library-so false row (callable.Value e) h k = absurd h
      library-so true row what h k = absurd h

      meant-so : (m : Meaning) (what : Callable) → IsMeant m name (Ok what) → ComesOf passes what count name at s r new → Comes (calls_meaning passes m count name at) s r new
      meant-so (meaning.Function f) (callable.Function g) h k = subst (λ x. Comes (calls_function x count at) s r new) h k
      meant-so (meaning.Function f) (callable.Library call) h k = absurd h
      meant-so (meaning.Function f) (callable.Value e) h k = absurd h
      meant-so (meaning.TypeName t) what h k = absurd h
      meant-so (meaning.Constant t) what h k = valued-so (SeenMeaning (meaning.Constant t)) what h k
      meant-so (meaning.Variable number final t) what h k = valued-so (SeenMeaning (meaning.Variable number final t)) what h k

      seen-so : (started : Bool) (seen : Seen) (what : Callable) → IsCallable started seen name (Ok what) → ComesOf passes what count name at s r new
          → Comes (calls_seen passes started seen count name at) s r new
      seen-so started (SeenVariable v) what h k = valued-so (SeenVariable v) what h k
      seen-so started (SeenWorker w) what h k = absurd h
      seen-so started (SeenConstant c) what h k = valued-so (SeenConstant c) what h k
      seen-so started (SeenLibrary row) what h k = library-so started row what h k
      seen-so started (SeenMeaning m) what h k = meant-so m what h k
      seen-so started (SeenNothing code) what h k = absurd h

    module _ (stop : Stop Fault) where
      valued-stops : (seen : Seen) → IsValued seen name (Err stop) → Comes (calls_seen_value passes seen name) s (Err stop) s
      unfolding Puts
      valued-stops seen h = stops (gives_seen seen name) _ s s stop (h s)

      library-stops : (started : Bool) (row : LibraryRow) → IsLibrary started row name (Err stop) → Comes (calls_seen passes started (SeenLibrary row) count name at) s (Err stop) s
      unfolding Puts
      library-stops true row h = h s
      library-stops false row h = absurd h

      meant-stops : (m : Meaning) → IsMeant m name (Err stop) → Comes (calls_meaning passes m count name at) s (Err stop) s
      unfolding Puts
      meant-stops (meaning.Function f) h = absurd h
      meant-stops (meaning.TypeName t) h = h s
      meant-stops (meaning.Constant t) h = valued-stops (SeenMeaning (meaning.Constant t)) h
      meant-stops (meaning.Variable number final t) h = valued-stops (SeenMeaning (meaning.Variable number final t)) h

      seen-stops : (started : Bool) (seen : Seen) → IsCallable started seen name (Err stop) → Comes (calls_seen passes started seen count name at) s (Err stop) s
      unfolding Puts
      seen-stops started (SeenVariable v) h = valued-stops (SeenVariable v) h
      seen-stops started (SeenWorker w) h = h s
      seen-stops started (SeenConstant c) h = valued-stops (SeenConstant c) h
      seen-stops started (SeenLibrary row) h = library-stops started row h
      seen-stops started (SeenMeaning m) h = meant-stops m h
      seen-stops started (SeenNothing code) h = h s

  module _ (names : Names) (started : Bool) (q : QualifiedName) (count : ℕ) (at : Place) (s : State) (kept : List UnitAtWork) (u : UnitAtWork) (is : s.units ≡ kept ++ u ∷ [])
      (seen : Seen) (so : seen ≡ seen_as names s.site u.flow.variables q) where
    named-by : (r : Result (Unit {0}) (Stop Fault)) (new : State) → Comes (calls_seen passes started seen count q.at at) s r new → Comes (calls_named passes names started q count at) s r new
    named-by r new h =
        next _ _ _ _ _ (seen_as names s.site u.flow.variables q) s (looks-up names q s kept u is) (subst (λ x. Comes (calls_seen passes started x count q.at at) s r new) so h)

    pub named-comes : (r : Result (Unit {0}) (Stop Fault)) (new : State) (what : Callable) → IsCallable started seen q.at (Ok what) → ComesOf passes what count q.at at s r new
        → Comes (calls_named passes names started q count at) s r new
    named-comes r new what h k = named-by r new (seen-so count q.at at s r new started seen what h k)

    pub named-stops : (stop : Stop Fault) → IsCallable started seen q.at (Err stop) → Comes (calls_named passes names started q count at) s (Err stop) s
    named-stops stop h = named-by (Err stop) s (seen-stops count q.at at s stop started seen h)

  -- ---- the last part

  module _ (at : Place) (s : State) (e : TypedExpr) (last : IsLast s.found e) where
    pub part-called : (mid new : State) (r : Result (Unit {0}) (Stop Fault)) → Comes (is_within passes (OfKind kind.AnyFunction) (sem e) at) s (Ok tt) mid → Comes (calls OfValue) mid r new
        → Comes (calls_part passes at) s r new
    part-called mid new r h k = next (is_of passes kind.AnyFunction at) _ s new r tt mid (next _ _ _ _ _ e s (given _ s e last) h) k

    pub part-refused : (new : State) (stop : Stop Fault) → Comes (is_within passes (OfKind kind.AnyFunction) (sem e) at) s (Err stop) new → Comes (calls_part passes at) s (Err stop) new
    part-refused new stop h = stops (is_of passes kind.AnyFunction at) _ s new stop (next _ _ _ _ _ e s (given _ s e last) h)

    pub method-comes : (w : Word) (count : ℕ) (row : LibraryRow) (t : Shared) (mid new : State) (r : Result (Unit {0}) (Stop Fault)) → Comes (picks_methods passes w.name e at) s (Ok row) mid
        → SameShared (type_of e) t → Comes (calls_library row (Some t) count at) mid r new → Comes (calls_method passes w count at) s r new
    unfolding picks_methods
    method-comes w count row t mid new r h same k =
        next _ _ _ _ _ e s (given _ s e last) (next _ _ _ _ _ row mid h (next _ _ _ _ _ t mid (handed SameShared mid (type_of e) t same) k))

    pub method-stops : (w : Word) (count : ℕ) (new : State) (stop : Stop Fault) → Comes (picks_methods passes w.name e at) s (Err stop) new → Comes (calls_method passes w count at) s (Err stop) new
    unfolding picks_methods
    method-stops w count new stop h = next _ _ _ _ _ e s (given _ s e last) (stops _ _ s new stop h)
