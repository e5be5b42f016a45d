-- The law of positions for functions: where the needs of a function are met, nothing is open but what was open before it.
use Rattle.std.specs.Prelude.{◌≡◌, List}
use Rattle.bal_tree.specs.declared.def.FunctionDef.{FunctionDef}
use Rattle.checks.specs.Checks.{Gives}
use Rattle.descriptors.specs.declared.names.Names.{Names}
use Rattle.needs.specs.Needs.{all_met}
use Rattle.type_model.specs.declared.answers.TypeLimit.{TypeLimit}
use Rattle.type_model.specs.declared.atoms.AtomDef.{AtomDef}
use Rattle.type_model.specs.Calls.{Asked}
use Rattle.stmt_needs.specs.PackageTable.{function_needs}
use Rattle.check_words.specs.Meets.{meets}
use Rattle.check_words.specs.State.{State}

-- All that was found, is wanted or is open is what it was, and so is the file at hand.
pub record IsAllSame (old new : State) : Type 0 where
  pub found : new.found ≡ old.found
  pub wants : new.wants ≡ old.wants
  pub sorts : new.sorts ≡ old.sorts
  pub accesses : new.accesses ≡ old.accesses
  pub constructors : new.constructors ≡ old.constructors
  pub calls : new.calls ≡ old.calls
  pub choices : new.choices ≡ old.choices
  pub matches : new.matches ≡ old.matches
  pub blocks : new.blocks ≡ old.blocks
  pub units : new.units ≡ old.units
  pub scope : new.site.scope ≡ old.site.scope
  pub initialiser : new.initialiser ≡ old.initialiser

abbrev pub FunctionsEndWhole : (List AtomDef → Asked → TypeLimit → Type 0) → Type 0
FunctionsEndWhole passes =
    (names : Names) (d : FunctionDef) (old new : State) → all_met (meets passes names) (function_needs d) old (Gives tt) new → IsAllSame old new
