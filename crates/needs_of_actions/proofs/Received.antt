-- Receives: what is wanted is the type.
use Rattle.std.proofs.Common.{◌≡◌, true, false, Option, Some, None, Result}
use Rattle.bal_base.specs.declared.fault.Fault.{Fault}
use Rattle.bal_base.specs.declared.place.Place.{Place}
use Rattle.bal_base.specs.declared.stop.Stop.{Stop}
use Rattle.bal_tree.specs.declared.action.Peer.{Peer}
use Rattle.checks.specs.Checks.{Comes}
use Rattle.flow_narrowing.specs.Flows.{AreSame}
use Rattle.typed_tree.specs.SharedTypes.{Shared}
use Rattle.check_words.specs.Actions.{receives, receives_as}
use Rattle.check_words.specs.Sharing.{SameShared}
use Rattle.expr_needs.specs.declared.expected.Expected.{Expected}
use Rattle.expr_needs.specs.declared.expected.Expected.TheVariants as expected
use Rattle.check_words.specs.State.{State}
use Rattle.needs_of_actions.specs.LastWant.{is_stated}

module _ (s new : State) (r : Result (Unit {0}) (Stop Fault)) (peer : Peer) (at : Place) where
  pub received-as : (w : Option Shared) (t : Shared) → AreSame w (Some t) → ((u : Shared) → SameShared u t → Comes (receives_as (Some u) peer at) s r new)
      → Comes (receives_as w peer at) s r new
  received-as (Some u) t same h = h u same
  received-as None t same h = absurd same

  pub received-none : (w : Option Shared) → AreSame w None → Comes (receives_as None peer at) s r new → Comes (receives_as w peer at) s r new
  received-none None same h = h
  received-none (Some u) same h = absurd same

  pub received-stated : (e : Expected) → is_stated e ≡ true → Comes (receives expected.Wanted peer at) s r new → Comes (receives e peer at) s r new
  received-stated expected.Wanted is h = h
  received-stated expected.Nothing is h = absurd (cc)
  received-stated expected.Immutable is h = absurd (cc)

  pub received-unstated : (e : Expected) → is_stated e ≡ false → Comes (receives_as None peer at) s r new → Comes (receives e peer at) s r new
  received-unstated expected.Wanted is h = absurd (cc)
  received-unstated expected.Nothing is h = h
  received-unstated expected.Immutable is h = h
