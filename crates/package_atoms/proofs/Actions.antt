-- The needs of waits and messages keep what was found.
use Rattle.std.proofs.Common.{ℕ, Bool, true, false, List, Option, None, Some, Result, Ok, Err}
use Rattle.bal_base.specs.declared.fault.Fault.{Fault}
use Rattle.bal_base.specs.declared.place.Place.{Place}
use Rattle.bal_tree.specs.declared.action.Peer.{Peer}
use Rattle.bal_tree.specs.declared.name.QualifiedName.{QualifiedName}
use Rattle.descriptors.specs.declared.names.Names.{Names}
use Rattle.type_model.specs.declared.answers.TypeLimit.{TypeLimit}
use Rattle.type_model.specs.declared.atoms.AtomDef.{AtomDef}
use Rattle.type_model.specs.Calls.{Asked}
use Rattle.typed_tree.specs.declared.event.SeenEvent.{SeenEvent}
use Rattle.typed_tree.specs.declared.expr.TypedExpr.{TypedExpr}
use Rattle.typed_tree.specs.declared.form.StrictForm.{StrictForm}
use Rattle.typed_tree.specs.SharedTypes.{Shared}
use Rattle.expr_needs.specs.declared.expected.Expected.{Expected}
use Rattle.expr_needs.specs.declared.expected.Expected.TheVariants as expected
use Rattle.expr_needs.specs.declared.kind.Kind.TheVariants as kind
use Rattle.check_words.specs.Actions.{awaits, awaits_by, flushes, known_result, makes_message, message_to, peer_of, receives, receives_as, result_of, sends, sends_and_waits, takes_wants, waits_for_all, waits_for_any}
use Rattle.isolation_check.proofs.Held.{FormHeld}
use Rattle.package_atoms.proofs.Keeping.{Any, Core, Keeps, asked, behind, chosen, none-chosen, refused}
use Rattle.package_atoms.proofs.Questions.{adds-grows, member-grows}
use Rattle.package_atoms.proofs.Values.{named-kept}
use Rattle.package_atoms.proofs.Words.{Stays, constructor-closed, is-of, made-strict, made-typed, no-more, wanting, wanting-some}

module _ (I : Core → Type 0) (so : Type 0) where
  result-seen : (r : Option (Result Shared Fault)) → Keeps I so (known_result r) Any I
  result-seen (Some (Ok t)) = chosen _ _ _
  result-seen (Some (Err fault)) = refused _ _ _ _ _
  result-seen None = none-chosen _ _ _ _

  pub result-known : (w : ℕ) → Keeps I so (result_of w) Any I
  result-known w = behind (chosen _ _ _) (λ site. result-seen _)

  peer-known : (peer : Peer) → Keeps I so (peer_of peer) Any I
  peer-known peer = behind (chosen _ _ _) (λ site. behind (chosen _ _ _) (λ u. chosen _ _ _))

module _ (n : ℕ) where
  wants-taken : (so : Type 0) (count : ℕ) → Stays n so (takes_wants count)
  wants-taken so count = behind (chosen _ _ _) (λ ws. behind (chosen _ _ _) (λ ts. behind (no-more n _ count) (λ u. chosen _ _ _)))

  pub any-awaited : (so : Type 0) (qs : List QualifiedName) (at : Place) → Stays n so (waits_for_any qs at)
  any-awaited so qs at = behind (chosen _ _ _) (λ site. behind (wants-taken _ _) (λ ts. made-strict n _ _ _ _ _ (λ es w. tt)))

  pub all-awaited : (so : Type 0) (qs : List QualifiedName) (at : Place) → Stays n so (waits_for_all qs at)
  all-awaited so qs at =
      behind (chosen _ _ _) (λ site. behind (constructor-closed _ _) (λ c. behind (wants-taken _ _) (λ ts. behind (asked _ _ _ (adds-grows _ _)) (λ atom. made-strict n _ _ _ _ _ (λ es w. tt)))))

  received-as : (so : Type 0) (w : Option Shared) (peer : Peer) (at : Place) → Stays n so (receives_as w peer at)
  received-as so None peer at = refused _ _ _ _ _
  received-as so (Some t) peer at = behind (peer-known _ _ peer) (λ p. made-typed n _ _ _ t _ (λ es w. tt))

  pub receives-kept : (so : Type 0) (e : Expected) (peer : Peer) (at : Place) → Stays n so (receives e peer at)
  receives-kept so expected.Nothing peer at = received-as _ None peer at
  receives-kept so expected.Immutable peer at = received-as _ None peer at
  receives-kept so expected.Wanted peer at = behind (chosen _ _ _) (λ w. received-as _ w peer at)

  -- a message or a flush, which does nothing that isolation looks at
  message-made : (so : Type 0) (fails : Bool) (count : ℕ) (form : StrictForm) (peer : ℕ) (at : Place) → ((es : List TypedExpr) → FormHeld n form es at)
      → Stays n so (makes_message fails count form peer at)
  message-made so false count form peer at q = made-strict n _ _ _ _ _ q
  message-made so true count form peer at q = behind (result-known _ _ peer) (λ t. made-strict n _ _ _ _ _ q)

  message-sent : (so : Type 0) (fails_by : ℕ → ℕ → List SeenEvent → Bool) (count : ℕ) (form : StrictForm) (peer : Option ℕ) (at : Place)
      → ((es : List TypedExpr) → FormHeld n form es at) → Stays n so (message_to fails_by count form peer at)
  message-sent so fails_by count form None at q = made-strict n _ _ _ _ _ q
  message-sent so fails_by count form (Some peer) at q = behind (chosen _ _ _) (λ site. behind (chosen _ _ _) (λ u. message-made _ _ count form peer at q))

  pub sends-kept : (so : Type 0) (peer : Peer) (at : Place) → Stays n so (sends peer at)
  sends-kept so peer at = behind (peer-known _ _ _) (λ p. made-strict n _ _ _ _ _ (λ es w. tt))

  pub sends-and-waits-kept : (so : Type 0) (peer : Peer) (at : Place) → Stays n so (sends_and_waits peer at)
  sends-and-waits-kept so peer at = behind (peer-known _ _ _) (λ p. message-sent _ _ 1 _ p at (λ es w. tt))

  pub flushes-kept : (so : Type 0) (peer : Peer) (at : Place) → Stays n so (flushes peer at)
  flushes-kept so peer at = behind (peer-known _ _ _) (λ p. message-sent _ _ 0 _ p at (λ es w. tt))

  awaited-by : (so : Type 0) (passes : List AtomDef → Asked → TypeLimit → Type 0) (names : Names) (q : QualifiedName) (w : Option ℕ) → Stays n so (awaits_by passes names q w)
  awaited-by so passes names q (Some w) = behind (result-known _ _ w) (λ t. wanting n _ (Some t))
  awaited-by so passes names q None = behind (named-kept n _ names q) (λ u. behind (is-of _ _ kind.AnyFuture q.at passes) (λ v. behind (chosen _ _ _) (λ e. behind (asked _ _ _ (member-grows _ _ _ _)) (λ m. wanting-some n _ _))))

  pub awaits-kept : (so : Type 0) (passes : List AtomDef → Asked → TypeLimit → Type 0) (names : Names) (q : QualifiedName) → Stays n so (awaits passes names q)
  awaits-kept so passes names q = behind (chosen _ _ _) (λ site. awaited-by _ passes names q _)
