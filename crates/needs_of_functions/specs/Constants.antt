-- Descriptors as types, and constants of such a type, over atoms alone.
use Rattle.std.specs.Prelude.{◌≡◌, List, Some}
use Rattle.bal_tree.specs.declared.name.ConstValue.{ConstValue}
use Rattle.bal_tree.specs.declared.types.TypeTree.{TypeTree}
use Rattle.checks.specs.Checks.{Check, gives_some, ◌▷◌}
use Rattle.checks.specs.Questions.{below}
use Rattle.descriptors.specs.declared.names.Names.{Names}
use Rattle.descriptors.specs.declared.names.Scope.{Scope}
use Rattle.descriptors.specs.Described.{described_whole}
use Rattle.descriptors.specs.Descriptors.{descriptor_of}
use Rattle.type_model.specs.declared.answers.TypeLimit.{TypeLimit}
use Rattle.type_model.specs.declared.atoms.AtomDef.{AtomDef}
use Rattle.type_model.specs.Calls.{Asked}
use Rattle.typed_tree.specs.SharedTypes.{Shared, sem_of}
use Rattle.check_words.specs.Branches.{place_of_value, value_constant}
use Rattle.check_words.specs.State.{State}
use Rattle.check_words.specs.Values.{SingleOf}
use Rattle.check_words.specs.Words.{Step, asking, some_over}

-- the type of the descriptor that stands there
abbrev pub described_as : Names → Scope → TypeTree → Check State Shared
described_as names scope tree = asking (described_whole names scope (descriptor_of tree)) ▷ λ t. gives_some (λ s u. u.value ≡ t)

module _ (passes : List AtomDef → Asked → TypeLimit → Type 0) where
  -- the value is below the type
  abbrev pub value_fits : ConstValue → Shared → Step
  value_fits value t =
      some_over (SingleOf (value_constant value)) ▷ λ v. asking (below passes v.sem (sem_of t) (Some (place_of_value value)))
