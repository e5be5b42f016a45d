-- What a question between two words comes to in a package.
use Rattle.std.specs.Prelude.{◌≡◌, ⊤, ℕ, List, Result, Ok, Err, String, length, sum_by}
use Rattle.std.specs.Global.{Global}
use Rattle.bal_base.specs.declared.fault.Fault.{Fault}
use Rattle.bal_base.specs.declared.fault.Refusal.{Refusal}
use Rattle.bal_base.specs.declared.stop.Memory.{Memory as NoMemory}
use Rattle.bal_base.specs.declared.stop.Stop.{Stop}
use Rattle.bal_base.specs.declared.stop.Stop.TheVariants.{Memory, Fault as OwnFault}
use Rattle.bal_tree.specs.declared.package.Module.{Module}
use Rattle.bal_tree.specs.declared.package.Package.{Package}
use Rattle.checks.specs.Checks.{Check, Gives, Refuses, ◌▷◌}
use Rattle.descriptors.specs.Described.{Atoms}
use Rattle.text_forms.specs.Forms.{written}
use Rattle.type_builder.specs.MainInPlace.{built}
use Rattle.type_model.specs.declared.answers.Answer.{Answer}
use Rattle.type_model.specs.declared.answers.TypeLimit.{TypeLimit}
use Rattle.type_model.specs.declared.atoms.AtomDef.{AtomDef}
use Rattle.type_model.specs.Calls.{Asked}
use Rattle.type_questions.specs.Answers.{answer_text}
use Rattle.type_questions.specs.Asked.{asked}
use Rattle.type_questions.specs.Refusals.{refusal_of}

-- ---- the files of the package

-- how many files these modules have
abbrev pub files_in : List Module → ℕ
files_in modules = sum_by (λ (m : Module). length m.files) modules

-- how many there are; the words have the next two numbers
abbrev pub file_count : Package → ℕ
file_count whole = files_in whole.modules

-- ---- the question: `passes` says which questions pass a limit

module _ (passes : List AtomDef → Asked → TypeLimit → Type 0) where
  -- the definitions of the package, then the words and the question, in the default module
  abbrev pub asked_of : Package → List ℕ → List ℕ → Check Atoms Answer
  asked_of whole s t = built passes whole ▷ λ names. asked passes names whole.main (file_count whole) s t

  module _ (env : Atoms) (whole : Package) (s t : List ℕ) where
    -- over these atoms the question comes to this answer
    abbrev pub HasAnswer : Answer → Type 0
    HasAnswer answer = (new : Atoms) × asked_of whole s t env (Gives answer) new

    -- it comes to a fault, and this is its refusal
    abbrev pub IsRefusedWith : Refusal → Type 0
    IsRefusedWith r = (fault : Fault) × (new : Atoms) × asked_of whole s t env (Refuses fault) new × (r ≡ refusal_of whole.modules (file_count whole) s t fault)

    -- an answer as it is told, or a refusal; nothing is said of want of memory
    abbrev pub AnswersFor : Result (String Global) (Stop Refusal) → Type 0
    AnswersFor (Ok text) = (answer : Answer) × HasAnswer answer × (written text ≡ answer_text answer)
    AnswersFor (Err (OwnFault r)) = IsRefusedWith r
    AnswersFor (Err Memory) = ⊤

-- ---- the steps

-- the text, if there was memory for it
abbrev pub IsToldAs : Result (String Global) NoMemory → Result (String Global) (Stop Refusal) → Type 0
IsToldAs (Ok text) result = result ≡ Ok text
IsToldAs (Err m) result = result ≡ Err Memory

-- the stop by a refusal, if there was memory for it
abbrev pub IsRefusedAs : Result Refusal NoMemory → Stop Refusal → Type 0
IsRefusedAs (Ok refusal) stop = stop ≡ OwnFault refusal
IsRefusedAs (Err m) stop = stop ≡ Memory
