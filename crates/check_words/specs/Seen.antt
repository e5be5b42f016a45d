-- What a name stands for where a value may stand: a variable that is seen there, a worker of the function, what a module defines, or
-- what the library has.
use Rattle.std.specs.Prelude.{◌≡◌, ℕ, suc, List, [], ◌∷◌, Option, Some, None, Result, Ok, Err, pos, negsuc, codes, find, if◌then◌else◌}
use Rattle.bal_base.specs.Limits.{greatest_int}
use Rattle.bal_base.specs.declared.fault.FaultCode.{FaultCode}
use Rattle.bal_base.specs.declared.fault.FaultCode.TheVariants.{Unknown}
use Rattle.bal_base.specs.declared.text.Name.{Name}
use Rattle.bal_tree.specs.declared.name.Prefix.{Prefix}
use Rattle.bal_tree.specs.declared.name.Prefix.TheVariants.{Word as WordPrefix, Int as IntPrefix}
use Rattle.bal_tree.specs.declared.name.QualifiedName.{QualifiedName}
use Rattle.checks.specs.Checks.{Check, gives_some, ◌▷◌}
use Rattle.descriptors.specs.declared.names.Meaning.{Meaning}
use Rattle.descriptors.specs.declared.names.Names.{Names}
use Rattle.descriptors.specs.declared.names.Source.{Source}
use Rattle.descriptors.specs.declared.names.Source.TheVariants.{Library, Module}
use Rattle.descriptors.specs.Naming.{meaning_named, source_named}
use Rattle.operations.specs.declared.operation.Constant.{Constant}
use Rattle.operations.specs.declared.operation.Constant.TheVariants.{Int as IntConstant}
use Rattle.type_model.specs.Places.{is_same_text}
use Rattle.check_words.specs.Library.{LibraryRow, functions_of_int, functions_of_io, is_named}
use Rattle.flow_narrowing.specs.declared.flow.Variable.{Variable}
use Rattle.check_words.specs.State.{Site, State, find_variable}
use Rattle.check_words.specs.Words.{unit_now}

pub data Seen : Type 0 where
  SeenVariable : Variable → Seen
  SeenWorker : ℕ → Seen
  -- a constant of the library, and a function of it
  SeenConstant : Constant → Seen
  SeenLibrary : LibraryRow → Seen
  -- what a module defines
  SeenMeaning : Meaning → Seen
  SeenNothing : FaultCode → Seen

-- ---- workers

-- the number of the first worker with the name, where that of the first of these is n; the default worker is 0
abbrev pub worker_from : ℕ → List Name → Name → Option ℕ
worker_from n [] name = None
worker_from n (w ∷ ws) name = if is_same_text w name then Some n else worker_from (suc n) ws name

abbrev pub worker_behind : List Name → Option Prefix → Name → Option ℕ
worker_behind workers None name = worker_from 1 workers name
worker_behind workers (Some prefix) name = None

-- the worker that the name stands for
abbrev pub worker_named : List Name → QualifiedName → Option ℕ
worker_named workers q = worker_behind workers q.prefix q.word.name

-- ---- the library

abbrev pub constant_of_int : Name → Option Constant
constant_of_int name =
    if is_same_text name (codes "MAX_VALUE") then Some (IntConstant (pos greatest_int))
    else if is_same_text name (codes "MIN_VALUE") then Some (IntConstant (negsuc greatest_int)) else None

abbrev pub in_library : Option LibraryRow → Seen
in_library (Some r) = SeenLibrary r
in_library None = SeenNothing Unknown

abbrev pub or_function : Name → Option Constant → Seen
or_function name (Some c) = SeenConstant c
or_function name None = in_library (find (is_named name) functions_of_int)

-- ---- all names

abbrev pub as_seen : Result Meaning FaultCode → Seen
as_seen (Ok m) = SeenMeaning m
as_seen (Err code) = SeenNothing code

module _ (names : Names) (site : Site) where
  abbrev pub in_modules : QualifiedName → Seen
  in_modules q = as_seen (meaning_named names site.scope q)

  abbrev pub worker_or : QualifiedName → Option ℕ → Seen
  worker_or q (Some w) = SeenWorker w
  worker_or q None = in_modules q

  -- a variable that is seen hides what a module defines
  abbrev pub variable_or : QualifiedName → Option Variable → Seen
  variable_or q (Some v) = SeenVariable v
  variable_or q None = worker_or q (worker_named site.workers q)

  abbrev pub from_source : QualifiedName → Option Source → Seen
  from_source q (Some Library) = in_library (find (is_named q.word.name) functions_of_io)
  from_source q (Some (Module m)) = in_modules q
  from_source q None = in_modules q

  abbrev pub seen_behind : List Variable → QualifiedName → Option Prefix → Seen
  seen_behind vs q None = variable_or q (find_variable vs q.word.name)
  seen_behind vs q (Some (IntPrefix at)) = or_function q.word.name (constant_of_int q.word.name)
  seen_behind vs q (Some (WordPrefix w)) = from_source q (source_named names site.scope w.name)

  -- what the name stands for, where these variables are seen
  abbrev pub seen_as : List Variable → QualifiedName → Seen
  seen_as vs q = seen_behind vs q q.prefix

module _ (names : Names) where
  abbrev pub looks_up : QualifiedName → Check State Seen
  looks_up q = unit_now ▷ λ u. gives_some (λ s seen. seen ≡ seen_as names s.site u.flow.variables q)

-- the variable of the unit that the name stands for
abbrev pub variable_behind : List Variable → QualifiedName → Option Prefix → Option Variable
variable_behind vs q None = find_variable vs q.word.name
variable_behind vs q (Some prefix) = None

abbrev pub variable_named : List Variable → QualifiedName → Option Variable
variable_named vs q = variable_behind vs q q.prefix
