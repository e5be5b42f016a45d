-- What answering a question says of the folder whose files make the package.
use Rattle.std.proofs.Common.{◌≡◌, ℕ, List, [], Option, sym, subst, inr}
use Rattle.std.specs.Prelude.{Result, Ok, Err, String}
use Rattle.std.specs.Global.{Global}
use Rattle.bal_base.specs.declared.fault.Refusal.{Refusal}
use Rattle.bal_base.specs.declared.stop.Stop.{Stop}
use Rattle.bal_base.specs.declared.stop.Stop.TheVariants.{Memory, Fault}
use Rattle.bal_tree.specs.declared.package.Package.{Package}
use Rattle.package_questions.specs.PackageAnswers.{AnswersFor}
use Rattle.type_diagrams.specs.Reach.{Passes}
use Rattle.folder_programs.specs.declared.packages.AnswerFault.{AnswerFault}
use Rattle.status_texts.specs.Outside.{Files}
use Rattle.folder_programs.specs.Packages.{CountsFolderFaults, IsPackageOf}
use Rattle.folder_programs.specs.Questions.{Answers, IsLoaded}

pub loaded-answers : (folder : Option Files) (whole : Package) (s t : List ℕ) (a : Result (String Global) (Stop Refusal)) (r : Result (String Global) (Stop AnswerFault))
    → IsPackageOf folder whole → AnswersFor Passes [] whole s t a → IsLoaded a r → Answers folder s t r
loaded-answers folder whole s t (Ok text) r is (answer, so, told) e = subst (Answers folder s t) (sym e) (answer, (whole, is, so), told)
loaded-answers folder whole s t (Err (Fault q)) r is h e = subst (Answers folder s t) (sym e) (inr (whole, is, h))
loaded-answers folder whole s t (Err Memory) r is h e = subst (Answers folder s t) (sym e) tt

pub loaded-counts : (old new : ℕ) (a : Result (String Global) (Stop Refusal)) (r : Result (String Global) (Stop AnswerFault)) → new ≡ old → IsLoaded a r
    → CountsFolderFaults old new r
loaded-counts old new (Ok text) r same e = subst (CountsFolderFaults old new) (sym e) same
loaded-counts old new (Err (Fault q)) r same e = subst (CountsFolderFaults old new) (sym e) same
loaded-counts old new (Err Memory) r same e = subst (CountsFolderFaults old new) (sym e) same
