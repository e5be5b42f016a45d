-- What a constructor chooses, before it is open: the atom, if there is one, and whether its value is immutable.
use Rattle.std.specs.Prelude.{◌++◌, ℕ, Bool, true, false, List, [], ◌∷◌, Option, Some, None, Result, Ok, Err, ◌≡◌, ⊤}
use Rattle.bal_base.specs.declared.fault.Fault.{Fault}
use Rattle.bal_base.specs.declared.place.Place.{Place}
use Rattle.bal_base.specs.declared.stop.Stop.{Stop}
use Rattle.checks.specs.Checks.{Check, gives, ◌▷◌}
use Rattle.type_model.specs.declared.answers.TypeLimit.{TypeLimit}
use Rattle.type_model.specs.declared.atoms.AtomDef.{AtomDef}
use Rattle.type_model.specs.declared.basic.Choice.{Choice}
use Rattle.type_model.specs.declared.basic.Ty.{Ty}
use Rattle.type_model.specs.Calls.{Asked}
use Rattle.typed_tree.specs.SharedTypes.{Shared}
use Rattle.expr_needs.specs.declared.expected.Expected.{Expected}
use Rattle.check_words.specs.Constructors.{IsReadonlyType, first_fit}
use Rattle.check_words.specs.State.{State}
use Rattle.check_words.specs.Words.{Atoms, last_want, whether_within}
use Rattle.expr_needs.specs.declared.expected.Expected.TheVariants as expected

abbrev pub Chosen : Type 0
Chosen = Option ℕ × Bool

-- the choice, as the atom and whether the value is immutable
abbrev pub IsFromFirst : Result Choice (Stop Fault) → Result Chosen (Stop Fault) → Type 0
IsFromFirst (Ok c) r = r ≡ Ok (Some c.atom, c.immutable)
IsFromFirst (Err stop) r = r ≡ Err stop

-- there is one
abbrev pub HasSome : List Choice → Type 0
HasSome [] = ⊥
HasSome (c ∷ cs) = ⊤

module _ (passes : List AtomDef → Asked → TypeLimit → Type 0) where
  -- of a type without choices
  abbrev pub unchosen : Ty → Place → Check State Chosen
  unchosen t at = whether_within passes IsReadonlyType t.sem at ▷ λ b. gives (None, b)

  -- of all choices of what is expected, and of those of the constructor's kind
  module _ (own : Ty → List Choice) (Fits : Atoms → Choice → Type 0) where
    abbrev pub chosen_by : List Choice → Ty → Place → Check State Chosen
    chosen_by [] t at = unchosen t at
    chosen_by (c ∷ cs) t at = first_fit Fits (own t) at ▷ λ d. gives (Some d.atom, d.immutable)

    abbrev pub chosen_for : Option Shared → Place → Check State Chosen
    chosen_for None at = gives (None, false)
    chosen_for (Some t) at = chosen_by (t.value.lists ++ t.value.maps) t.value at

    abbrev pub chosen : Expected → Place → Check State Chosen
    chosen expected.Nothing at = gives (None, false)
    chosen expected.Immutable at = gives (None, true)
    chosen expected.Wanted at = last_want ▷ λ w. chosen_for w at
