-- Two runs of needs come to the same: between any two needs their states are twins.
use Rattle.std.specs.Prelude.{◌≡◌, List, ⊤, Result, Ok, Err}
use Rattle.std.specs.List.{AllZip}
use Rattle.bal_base.specs.declared.fault.Fault.{Fault}
use Rattle.bal_base.specs.declared.stop.Stop.{Stop}
use Rattle.bal_base.specs.declared.stop.Stop.TheVariants.{Memory, Fault as OwnFault}
use Rattle.checks.specs.Agreement.{Agree, Corresponds}
use Rattle.checks.specs.Checks.{Gives, Outcome, Refuses}
use Rattle.descriptors.specs.declared.names.Names.{Names}
use Rattle.needs.specs.Agreement.{NeedAgrees}
use Rattle.type_model.specs.declared.answers.TypeLimit.{TypeLimit}
use Rattle.type_model.specs.declared.atoms.AtomDef.{AtomDef}
use Rattle.type_model.specs.declared.basic.Ty.{Ty}
use Rattle.type_model.specs.Calls.{Asked}
use Rattle.typed_tree.specs.declared.package.TypedPackage.{TypedPackage}
use Rattle.expr_needs.specs.Needs.{Need}
use Rattle.check_words.specs.Meets.{meets}
use Rattle.check_words.specs.State.{State}
use Rattle.package_checks.specs.Checked.{IsAtWork, standing}
use Rattle.check_answers.specs.Pieces.{SamePieces, function_pieces, initialiser_pieces, variable_pieces}
use Rattle.check_answers.specs.TwinStates.{StateTwins}
use Rattle.check_answers.specs.TwinTypes.{SettledTwins, TwinAtoms, TwinTypes}

-- ---- states between two needs

-- the atoms are twins, and so is all else over them
pub record TwinsOver (s t : State) : Type 0 where
  pub atoms : TwinAtoms s.atoms t.atoms
  pub states : StateTwins (SettledTwins s.atoms t.atoms) (TwinTypes s.atoms t.atoms) s t

-- and in both what is at hand names only atoms that are there, and so do atoms and what names stand for
pub record Twins (names : Names) (s t : State) : Type 0 where
  pub over : TwinsOver s t
  pub first : IsAtWork names s
  pub second : IsAtWork names t

-- from twins two runs of the need come to the same
abbrev pub Agrees : (List AtomDef → Asked → TypeLimit → Type 0) → Names → Need → Type 0
Agrees passes names need = NeedAgrees (Twins names) (standing names (meets passes names)) need

-- ---- packages

-- typed packages that are the same, but for types; `D`: which correspond
pub record SamePackage (D : Ty → Ty → Type 0) (t u : TypedPackage) : Type 0 where
  pub functions : AllZip (λ f g. SamePieces D (function_pieces f) (function_pieces g)) t.functions.items u.functions.items
  pub variables : AllZip (λ v w. SamePieces D (variable_pieces v) (variable_pieces w)) t.variables.items u.variables.items
  pub initialisers : AllZip (λ i j. SamePieces D (initialiser_pieces i) (initialiser_pieces j)) t.initialisers.items u.initialisers.items
  pub start : u.start ≡ t.start
  pub words : u.words ≡ t.words
  pub units : u.units ≡ t.units

-- the same, with types that are twins over the atoms of each run, which are twins too
abbrev pub PackageTwins : Corresponds (List AtomDef) TypedPackage TypedPackage
PackageTwins m t n u = TwinAtoms m n × SamePackage (SettledTwins m n) t u

-- what a call over a package answered, with the atoms behind it, agrees with this outcome; nothing is said of want of memory
abbrev pub AgreesWith : Outcome TypedPackage → List AtomDef → Result TypedPackage (Stop Fault) → List AtomDef → Type 0
AgreesWith o m (Ok t) n = Agree PackageTwins m o n (Gives t)
AgreesWith o m (Err (OwnFault f)) n = Agree PackageTwins m o n (Refuses f)
AgreesWith o m (Err Memory) n = ⊤
