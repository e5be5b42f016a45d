-- What anonymous functions are, as typed parts.
use Rattle.std.specs.Prelude.{◌≡◌, ◌+◌, Bool, List, IsSomeAnd, length, map, slice_get}
use Rattle.bal_base.specs.declared.place.Place.{Place}
use Rattle.descriptors.specs.declared.names.Names.{Names}
use Rattle.operations.specs.Rows.{AreBelow, Signature, Surroundings}
use Rattle.type_model.specs.declared.answers.TypeLimit.{TypeLimit}
use Rattle.type_model.specs.declared.atoms.AtomDef.{AtomDef}
use Rattle.type_model.specs.Calls.{Asked}
use Rattle.typed_tree.specs.SharedTypes.{sem_of}
use Rattle.expr_needs.specs.Needs.{MakesAnonymous}
use Rattle.check_words.specs.State.{IsLast, State, UnitAtWork}
use Rattle.tree_promises.specs.Made.{AllCapturedTyped}
use Rattle.typed_needs.specs.Pieces.{IsBefore, IsMet, MakesTyped}

-- the place has the unit that ends: it takes what is captured, and its arrow is the second of the atoms that come now
pub record IsOwnUnit (env : List AtomDef) (u : UnitAtWork) (s : State) (own : Signature) : Type 0 where
  pub captured : AreBelow env (map (λ c. sem_of c.ty) u.captured) own.captured
  pub arrow : own.arrow ≡ length s.atoms + 1

-- The variables that it captures are slots of the unit around it. Of its value nothing is asked here: it stands in a unit of its own.
abbrev pub AnonymousIsTyped : (List AtomDef → Asked → TypeLimit → Type 0) → Names → List AtomDef → Surroundings → Type 0
AnonymousIsTyped passes names env place =
    (isolated : Bool) (at : Place) (old new : State) (u : UnitAtWork) → IsBefore env new → IsMet passes names env (MakesAnonymous isolated at) old new → IsLast old.units u
    → AllCapturedTyped env place u.captured → IsSomeAnd (slice_get place.units u.number) (IsOwnUnit env u old) → MakesTyped passes names env place 1 old new

abbrev pub AnonymousAreTyped : (List AtomDef → Asked → TypeLimit → Type 0) → Type 0
AnonymousAreTyped passes = (names : Names) (env : List AtomDef) (place : Surroundings) → AnonymousIsTyped passes names env place
