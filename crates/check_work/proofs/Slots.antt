-- Slots of the unit at hand, by their numbers.
use Rattle.std.proofs.Common.{◌≡◌, ◌++◌, ℕ, List, [], ◌∷◌, length, Ok, sym, subst}
use Rattle.checks.specs.Checks.{Comes}
use Rattle.typed_tree.specs.SharedTypes.{Shared}
use Rattle.check_words.specs.Sharing.{SameShared}
use Rattle.check_words.specs.State.{State, UnitAtWork}
use Rattle.check_words.specs.Words.{new_slot}
use Rattle.check_words.proofs.Flowing.{slot-made}

pub slot-numbered : (s : State) (kept : List UnitAtWork) (u : UnitAtWork) → s.units ≡ kept ++ u ∷ [] → (t x : Shared) (n : ℕ) → n ≡ length u.slots → SameShared t x → (new : State)
    → new ≡ record s { units = kept ++ record u { slots = u.slots ++ x ∷ [] } ∷ [] } → Comes (new_slot t) s (Ok n) new
slot-numbered s kept u is t x n e same new after = subst (λ m. Comes (new_slot t) s (Ok m) new) (sym e) (slot-made s kept u is t x same new after)
