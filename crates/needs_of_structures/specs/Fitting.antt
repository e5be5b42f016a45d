-- What is asked of a member, step by step.
use Rattle.std.specs.Prelude.{◌≡◌, ℕ, List, Option, Some}
use Rattle.bal_base.specs.declared.place.Place.{Place}
use Rattle.checks.specs.Checks.{Check, ◌▷◌}
use Rattle.descriptors.specs.Described.{IsCopy}
use Rattle.operations.specs.Structures.{IsListAtom}
use Rattle.type_model.specs.declared.answers.TypeLimit.{TypeLimit}
use Rattle.type_model.specs.declared.atoms.AtomDef.{AtomDef}
use Rattle.type_model.specs.declared.atoms.AtomDef.TheVariants.{List as ListAtom, Mapping as MappingAtom, Arrow, Error as ErrorAtom, Future as FutureAtom}
use Rattle.type_model.specs.declared.basic.Ty.{Ty}
use Rattle.type_model.specs.Calls.{Asked}
use Rattle.type_model.specs.Places.{item_type}
use Rattle.typed_tree.specs.declared.expr.TypedExpr.{TypedExpr}
use Rattle.typed_tree.specs.Exprs.{type_of}
use Rattle.typed_tree.specs.SharedTypes.{Shared}
use Rattle.check_words.specs.Constructors.{added_type, is_frozen, may_stand, with_member}
use Rattle.check_words.specs.State.{ConstructorAtWork, State, all_but}
use Rattle.check_words.specs.Words.{Atoms, below_if, last_constructor, last_part, last_want, some_over}
use Rattle.needs_of_structures.specs.Changed.{IsChanged}

-- the type at a place of these lists
abbrev pub IsItemIn : AtomDef → ℕ → Ty → Type 0
IsItemIn (ListAtom fixed rest) place t = item_type fixed rest place ≡ Some t
IsItemIn (MappingAtom fields rest) place t = ⊥
IsItemIn (Arrow args outcome alone) place t = ⊥
IsItemIn (ErrorAtom detail) place t = ⊥
IsItemIn (FutureAtom outcome) place t = ⊥

-- the same of an atom
abbrev pub IsItemOf : Atoms → ℕ → ℕ → Ty → Type 0
IsItemOf env atom place t = IsListAtom env atom (λ fixed rest. item_type fixed rest place ≡ Some t)

-- ---- members

-- a copy of the type that is given
abbrev pub copied : Check State Shared → Check State Ty
copied given = given ▷ λ t. some_over (λ env u. IsCopy t.value u)

-- a member more, of this type, of which nothing is expected any more
pub record IsTaken (t : Ty) (old new : State) : Type 0 where
  pub changed : IsChanged (with_member t) old.constructors new.constructors
  pub after : new ≡ record old { constructors = new.constructors; wants = all_but 1 old.wants }

module _ (passes : List AtomDef → Asked → TypeLimit → Type 0) where
  -- the type that the member adds
  abbrev pub added_copy : Option ℕ → TypedExpr → Place → Check State Ty
  added_copy choice e at = copied (added_type passes choice e at)

  abbrev pub stands_so : ConstructorAtWork → TypedExpr → Place → Check State Ty
  stands_so c e at = may_stand passes c e at ▷ λ u. added_copy c.choice e at

  abbrev pub fits_so : ConstructorAtWork → TypedExpr → Option Shared → Place → Check State Ty
  fits_so c e w at = below_if passes w e at ▷ λ u. stands_so c e at

  abbrev pub fits_item : Place → Check State Ty
  fits_item at = last_constructor ▷ λ c. last_part ▷ λ e. last_want ▷ λ w. fits_so c e w at

  -- the type that the detail adds
  abbrev pub frozen_so : TypedExpr → Place → Check State Ty
  frozen_so e at = is_frozen passes e at ▷ λ u. some_over (λ env t. IsCopy (type_of e).value t)

  abbrev pub fits_detail : Place → Check State Ty
  fits_detail at = last_constructor ▷ λ c. last_part ▷ λ e. frozen_so e at
