-- What it means that a package is checked: all that it needs is met, one need behind another, and the typed package is what was found then.
use Rattle.std.specs.Prelude.{◌≡◌, ⊤, ℕ, List, [], ◌∷◌, codes, map, sum, Option, Some, None}
use Rattle.bal_tree.specs.declared.package.Package.{Package}
use Rattle.checks.specs.Checks.{Check, Gives, Outcome, Refuses}
use Rattle.descriptors.specs.declared.names.Names.{Names}
use Rattle.descriptors.specs.declared.names.Signature.{Signature}
use Rattle.descriptors.specs.Naming.{entry_in}
use Rattle.descriptors.specs.Steps.{AreNames}
use Rattle.name_resolution.specs.Definitions.{definitions_of, functions_in}
use Rattle.needs.specs.Needs.{all_met}
use Rattle.type_model.specs.declared.answers.TypeLimit.{TypeLimit}
use Rattle.type_model.specs.declared.atoms.AtomDef.{AtomDef}
use Rattle.type_model.specs.declared.basic.Ty.{Ty}
use Rattle.type_model.specs.Calls.{Asked}
use Rattle.type_model.specs.Defined.{IsEnv}
use Rattle.typed_tree.specs.declared.package.TypedPackage.{TypedPackage}
use Rattle.expr_needs.specs.Needs.{Need}
use Rattle.stmt_needs.specs.PackageTable.{package_needs}
use Rattle.check_words.specs.Meets.{meets}
use Rattle.check_words.specs.Stands.{Stands}
use Rattle.check_words.specs.State.{State}
use Rattle.check_words.specs.Units.{signature_in}
use Rattle.check_words.specs.Words.{Step}

-- ---- how it begins

-- functions have the first numbers of units
abbrev pub functions_of : Package → ℕ
functions_of p = sum (map (λ d. functions_in d.def) (definitions_of p))

-- nothing is open, and nothing is found
abbrev pub at_first : List AtomDef → Package → State
at_first env p =
    record {
      atoms = env;
      site = record { scope = record { «module» = 0; file = None }; workers = []; results = []; events = [] };
      found = [];
      ways = None;
      wants = [];
      sorts = [];
      accesses = [];
      constructors = [];
      calls = [];
      choices = [];
      matches = [];
      blocks = [];
      units = [];
      initialiser = None;
      done = record { next_unit = functions_of p; functions = []; workers = []; variables = []; initialisers = [] };
    }

-- ---- how it goes on

-- what holds between any two needs: each type that is at hand names atoms that are there, and so do the atoms, and so does what names stand for
pub record IsAtWork (names : Names) (s : State) : Type 0 where
  pub env : IsEnv s.atoms
  pub stands : Stands s
  pub named : AreNames s.atoms names

-- where it held before it holds behind
abbrev pub StaysAtWork : Names → State → Outcome (Unit {0}) → State → Type 0
StaysAtWork names old (Gives u) new = IsAtWork names old → IsAtWork names new
StaysAtWork names old (Refuses f) new = ⊤

-- needs that mean the same, and keep this
abbrev pub standing : Names → (Need → Step) → Need → Step
standing names meets need old o new = meets need old o new × StaysAtWork names old o new

-- ---- how it ends

-- the list atom of main's arguments, or 0 where it has no parameter
abbrev pub words_of : Signature → ℕ
words_of f = by f.rest
  where
    by : Option Ty → ℕ
    by None = 0
    by (Some t) = f.lists

-- The unit that is called first, and the list atom of its arguments. Both are 0 where the main module has no function of this name: such a
-- package starts nothing, and is checked all the same.
abbrev pub IsStart : List Signature → ℕ → ℕ → Type 0
IsStart [] start words = (start ≡ 0) × (words ≡ 0)
IsStart (f ∷ more) start words = (start ≡ f.unit) × (words ≡ words_of f)

pub record IsTyped (names : Names) (p : Package) (s : State) (t : TypedPackage) : Type 0 where
  pub functions : t.functions.items ≡ s.done.functions
  pub variables : t.variables.items ≡ s.done.variables
  pub initialisers : t.initialisers.items ≡ s.done.initialisers
  pub begins : IsStart (signature_in (entry_in names (codes "main") p.main)) t.start t.words
  pub units : t.units ≡ s.done.next_unit

-- `passes`: which questions about types pass a limit; `names`: what the names of the package stand for
module _ (passes : List AtomDef → Asked → TypeLimit → Type 0) (names : Names) (p : Package) where
  unfoldable pub checked_package : Check (List AtomDef) TypedPackage
  checked_package old (Gives t) new =
      (s : State) × all_met (standing names (meets passes names)) (package_needs p) (at_first old p) (Gives tt) s × IsTyped names p s t × (new ≡ s.atoms)
  checked_package old (Refuses f) new =
      (s : State) × all_met (standing names (meets passes names)) (package_needs p) (at_first old p) (Refuses f) s × (new ≡ s.atoms)
