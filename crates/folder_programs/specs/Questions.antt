-- The question whether one type is below another: what the folder has for it, and what comes of it.
use Rattle.std.specs.Prelude.{◌≡◌, ◌⊎◌, ⊤, ℕ, List, [], Option, Some, Result, Ok, Err, String, encode_utf8_all}
use Rattle.std.specs.Global.{Global}
use Rattle.bal_base.specs.declared.fault.Refusal.{Refusal}
use Rattle.bal_base.specs.declared.shape.Shape.{Shape}
use Rattle.bal_base.specs.declared.stop.Stop.{Stop}
use Rattle.bal_base.specs.declared.stop.Stop.TheVariants.{Memory, Fault}
use Rattle.bal_io.specs.Content.{Told, Appends, AppendsFront}
use Rattle.module_loader.specs.Packages.{PackageOf}
use Rattle.folder_programs.specs.declared.packages.AnswerFault.{AnswerFault}
use Rattle.folder_programs.specs.declared.packages.AnswerFault.TheVariants.{Folder, Source}
use Rattle.status_texts.specs.Outside.{Files}
use Rattle.folder_programs.specs.Packages.{HasNoPackage, IsPackageOf}
use Rattle.bal_tree.specs.declared.package.Package.{Package}
use Rattle.package_questions.specs.PackageAnswers.{HasAnswer, IsRefusedWith}
use Rattle.text_forms.specs.Forms.{written}
use Rattle.type_diagrams.specs.Reach.{Passes}
use Rattle.type_model.specs.declared.answers.Answer.{Answer}
use Rattle.type_model.specs.declared.answers.Answer.TheVariants.{Yes, No}
use Rattle.type_questions.specs.Answers.{answer_text}

-- the bytes of an answer, with the line end
abbrev pub answer_bytes : Answer → List ℕ
answer_bytes answer = encode_utf8_all (answer_text answer)

-- ---- the folder, as far as it tells its files

module _ (folder : Option Files) (s t : List ℕ) where
  -- its files make a package, in which the question comes to this answer
  abbrev pub IsAnswerOf : Answer → Type 0
  IsAnswerOf answer = (whole : Package) × IsPackageOf folder whole × HasAnswer Passes [] whole s t answer

  -- there is none to which it comes
  abbrev pub HasNoAnswerOf : Type 0
  HasNoAnswerOf = (answer : Answer) → IsAnswerOf answer → ⊥

  -- they make one, in which a definition or a word has a fault, or the question is too large
  abbrev pub IsRefusedInPackage : Refusal → Type 0
  IsRefusedInPackage r = (whole : Package) × IsPackageOf folder whole × IsRefusedWith Passes [] whole s t r

  -- it is refused so: they make no package, or it is refused in one
  abbrev pub IsQuestionRefused : Refusal → Type 0
  IsQuestionRefused r = HasNoPackage folder r ⊎ IsRefusedInPackage r

  abbrev pub Answers : Result (String Global) (Stop AnswerFault) → Type 0
  Answers (Ok text) = (answer : Answer) × IsAnswerOf answer × (written text ≡ answer_text answer)
  Answers (Err Memory) = ⊤
  Answers (Err (Fault Folder)) = ⊤
  Answers (Err (Fault (Source r))) = IsQuestionRefused r

  -- ---- what is written

  -- the answer is yes, and was written
  abbrev pub SaidYes : Option (List ℕ) → Option (List ℕ) → Type 0
  SaidYes before after = IsAnswerOf Yes × Told (Appends (answer_bytes Yes)) before after

  -- the answer is a shape that is in the first type and not in the second, and it was written
  abbrev pub SaidNo : Option (List ℕ) → Option (List ℕ) → Type 0
  SaidNo before after = (x : Shape) × IsAnswerOf (No x) × Told (Appends (answer_bytes (No x))) before after

  -- some first part of an answer was written, or nothing
  abbrev pub SaidFront : Option (List ℕ) → Option (List ℕ) → Type 0
  SaidFront before after =
      (after ≡ before) ⊎ ((answer : Answer) × IsAnswerOf answer × Told (AppendsFront (answer_bytes answer)) before after)

  -- the folder tells its files, which make a package, and whatever they make, nothing is refused in it
  pub record IsNeverRefused : Type 0 where
    pub all : Files
    pub told : folder ≡ Some all
    pub made : (whole : Package) × PackageOf all whole
    pub never : (whole : Package) → PackageOf all whole → (r : Refusal) → IsRefusedWith Passes [] whole s t r → ⊥

-- ---- the steps

-- the answer for a folder by that for its package
abbrev pub IsLoaded : Result (String Global) (Stop Refusal) → Result (String Global) (Stop AnswerFault) → Type 0
IsLoaded (Ok text) result = result ≡ Ok text
IsLoaded (Err Memory) result = result ≡ Err Memory
IsLoaded (Err (Fault refusal)) result = result ≡ Err (Fault (Source refusal))
