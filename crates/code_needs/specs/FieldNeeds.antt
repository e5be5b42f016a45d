-- The needs of a code's fields beside instructions and maps, and all that is tested of them beside.
use Rattle.std.specs.Prelude.{◌≡◌, ◌≢◌, ◌⊎◌, ◌<◌, ◌++◌, ◌+◌, ◌^◌, ◌==◌, ℕ, List, [], ◌∷◌, Option, Some, None, IsSomeAnd, All, length, map, option_to_list, slice_get, take}
use Rattle.type_model.specs.declared.atoms.AtomDef.{AtomDef}
use Rattle.type_model.specs.declared.atoms.AtomDef.TheVariants.{List as ListAtom, Mapping as MappingAtom, Arrow, Error as ErrorAtom, Future as FutureAtom}
use Rattle.type_model.specs.declared.basic.SemType.{SemType, Basic, Atom, Or', And', Not'}
use Rattle.type_model.specs.declared.basic.Ty.{Ty}
use Rattle.stack_code.specs.declared.code.Code.{Code}
use Rattle.stack_code.specs.declared.code.Spawn.{Spawn}
use Rattle.stack_code.specs.declared.code.Unit.{Unit as CodeUnit}
use Rattle.stack_code.specs.Places.{IsWorkerUnit}
use Rattle.stack_code.specs.Tables.{EachUnit, FollowFrom, HasFillers, HasTestedMembers, HasTypes, IsConstant, IsInherent, IsInitialiser, IsWorkerWell, UnitAt, single_params}
use Rattle.code_needs.specs.Combining.{AreMet, Needs, ◌&◌, absent, each, each_zip, need, none, nothing, of_list, of_some, test}
use Rattle.code_needs.specs.declared.kind.Kind.TheVariants.{NilsOrErrors, Strings}
use Rattle.code_needs.specs.Needs.{Below, Has, Within}
use Rattle.code_needs.specs.PlaceNeeds.{same_each}
use Rattle.code_needs.specs.RowNeeds.{within}
use Rattle.code_needs.specs.Stacks.{last_of}

abbrev pub same : SemType → SemType → Needs
same s t = need (Below s t) & need (Below t s)

-- the type is an atom alone
abbrev pub of_atom : SemType → (ℕ → Needs) → Needs
of_atom (Atom n) f = f n
of_atom (Basic b) f = None
of_atom (Or' _ s _ t) f = None
of_atom (And' _ s _ t) f = None
of_atom (Not' _ t) f = None

module _ (code : Code) where
  -- ---- units

  -- the first slots are the parameters and then what is captured
  abbrev pub slot_needs : CodeUnit → Needs
  slot_needs u = same_each (take (length u.params + length u.captured) u.slots) (u.params ++ u.captured)

  -- the rest parameter is the last one, and has the lists of its atom
  abbrev pub rest_needs : CodeUnit → Option ℕ → Needs
  rest_needs u (Some atom) = of_list (slice_get code.atoms atom) (λ fixed rest. none fixed) & of_some (last_of u.params) (λ t. same (Atom atom) t)
  rest_needs u None = nothing

  -- what a worker captures is below its type
  abbrev pub captures_needs : CodeUnit → Spawn → Needs
  captures_needs u w =
      of_some (slice_get code.units w.unit) (λ x. each_zip (λ slot t. of_some (slice_get u.slots slot) (λ s. need (Below s t))) w.slots x.captured)

  abbrev pub unit_needs : CodeUnit → Needs
  unit_needs u = slot_needs u & rest_needs u u.rest & each (captures_needs u) u.workers

  -- ---- own atoms

  abbrev pub items_needs : Option ℕ → Option Ty → Needs
  items_needs (Some atom) rest =
      of_list (slice_get code.atoms atom) (λ fixed items. of_some items (λ t. of_some rest (λ s. same s.sem t.sem)))
  items_needs None rest = absent rest

  abbrev pub argument_needs : CodeUnit → SemType → Needs
  argument_needs u args =
      of_atom args (λ lists. of_list (slice_get code.atoms lists) (λ fixed rest. same_each (map (λ t. t.sem) fixed) (single_params code u) & items_needs u.rest rest))

  abbrev pub arrow_needs : CodeUnit → AtomDef → Needs
  arrow_needs u (Arrow args outcome alone) = argument_needs u args & same outcome u.result
  arrow_needs u (ListAtom fixed rest) = None
  arrow_needs u (MappingAtom fields rest) = None
  arrow_needs u (ErrorAtom detail) = None
  arrow_needs u (FutureAtom outcome) = None

  abbrev pub future_needs : CodeUnit → AtomDef → Needs
  future_needs u (FutureAtom outcome) = same outcome u.result
  future_needs u (ListAtom fixed rest) = None
  future_needs u (MappingAtom fields rest) = None
  future_needs u (Arrow args outcome alone) = None
  future_needs u (ErrorAtom detail) = None

  abbrev pub own_needs : CodeUnit → Needs
  own_needs u = of_some (slice_get code.atoms u.arrow) (arrow_needs u) & of_some (slice_get code.atoms u.future) (future_needs u)

  -- ---- initialisers and main

  abbrev pub initialiser_needs : CodeUnit → Needs
  initialiser_needs u = none u.params & none u.captured & within u.result NilsOrErrors

  -- strings, and nothing else
  abbrev pub strings_needs : List Ty → Option Ty → Needs
  strings_needs fixed rest = of_some rest (λ t. need (Within t.sem Strings) & need (Has t.sem Strings))

  abbrev pub main_params : CodeUnit → List SemType → Needs
  main_params u [] = test (code.words == 0)
  main_params u (t ∷ []) = of_some u.rest (λ a. test (a == code.words)) & of_list (slice_get code.atoms code.words) strings_needs
  main_params u (t ∷ s ∷ more) = None

  abbrev pub main_needs : CodeUnit → Needs
  main_needs u = none u.captured & within u.result NilsOrErrors & main_params u u.params

  -- ---- all fields

  pub record FieldsPass : Type 0 where
    pub types : HasTypes code
    pub constants : All (IsConstant code) code.constants
    pub places : FollowFrom code 0 code.units (length code.instrs)
    pub maps : length code.maps ≡ length code.instrs
    pub stacks : All (λ m. length m.stack < 2 ^ 63) code.maps
    pub units : EachUnit code (λ n u. AreMet code.atoms (unit_needs u))
    pub rests : EachUnit code (λ n u. All (IsInherent code) (option_to_list u.rest))
    pub without : EachUnit code (λ n u. (IsWorkerUnit code n ⊎ IsInitialiser code n) → (u.arrow ≡ 0) × (u.future ≡ 0))
    pub own : EachUnit code (λ n u. (¬ (IsWorkerUnit code n)) → (¬ (IsInitialiser code n)) → AreMet code.atoms (own_needs u))
    pub workers : EachUnit code (λ n u. IsWorkerUnit code n → IsWorkerWell code n u)
    pub initialisers : All (λ n. UnitAt code n (λ u. (code.start ≢ n) × AreMet code.atoms (initialiser_needs u))) code.initialisers
    pub main : UnitAt code code.start (λ u. AreMet code.atoms (main_needs u))
    pub inherent : All (λ a. IsSomeAnd (slice_get code.atoms a) (λ d. HasFillers code d × HasTestedMembers code d)) code.inherent
