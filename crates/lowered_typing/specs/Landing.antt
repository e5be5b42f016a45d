-- Where the jumps and traps of lowered code lead.
use Rattle.std.specs.Prelude.{◌≡◌, ℕ, List, [], ◌∷◌, Some, length, ⊤}
use Rattle.typed_tree.specs.Units.{UnitBody}
use Rattle.stack_code.specs.declared.code.Code.{Code}
use Rattle.stack_code.specs.declared.code.Unit.{Unit as CodeUnit}
use Rattle.stack_code.specs.Commands.{Command, Do, GoTo, GoToIfNot, OpenTrap, CloseTrap, command_at}
use Rattle.stack_code.specs.Flow.{IsInTrap, LandsAt}
use Rattle.stack_code.specs.Places.{IsIn, Station, traps_at}
use Rattle.lower_model.specs.Laying.{Agrees}
use Rattle.lower_model.specs.Making.{Making, place_of, unit_made, units_made, unmade}

module _ (code : Code) (u : CodeUnit) where
  -- a jump and a trap lead forward or to a tick, in the reach of the same traps; a trap that is closed is open
  abbrev pub CommandLands : Station → ℕ → Command → Type 0
  CommandLands station p (Do op) = ⊤
  CommandLands station p (GoTo to) = LandsAt code u station p to
  CommandLands station p (GoToIfNot to) = LandsAt code u station p to
  CommandLands station p (OpenTrap to) = LandsAt code u station p to
  CommandLands station p CloseTrap = IsInTrap code u station p

  pub record LandsWell : Type 0 where
    pub places : (station : Station) (p : ℕ) (c : Command) → IsIn u p → command_at code p ≡ Some c → CommandLands station p c
    -- behind the last place each trap that was opened is closed
    pub closed : traps_at code u u.end ≡ Some []

-- so does each of these units, where it has what is made for it behind this
abbrev pub AllLandWell : Code → List UnitBody → Making → Type 0
AllLandWell code [] m = ⊤
AllLandWell code (b ∷ bs) m =
    ((u : CodeUnit) → u.first ≡ length m.steps → u.end ≡ length (unit_made b m).steps → LandsWell code u) × AllLandWell code bs (unit_made b m)

-- whatever the trees are
abbrev pub UnitsLandWell : Type 0
UnitsLandWell =
    (code : Code) (bodies : List UnitBody) → Agrees code (place_of (units_made bodies unmade)) (units_made bodies unmade) → AllLandWell code bodies unmade
