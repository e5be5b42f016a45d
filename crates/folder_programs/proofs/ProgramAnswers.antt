-- What compiling says of a package, and of the folder whose files make it.
use Rattle.std.proofs.Common.{◌≡◌, ℕ, [], Option, Some, refl, sym, ap, subst, inl, inr, ⊎_elim}
use Rattle.std.specs.Prelude.{IfOk, Result, Ok, Err}
use Rattle.bal_base.specs.declared.fault.Fault.{Fault as FaultOf}
use Rattle.bal_base.specs.declared.fault.Refusal.{Refusal}
use Rattle.bal_base.specs.declared.stop.Memory.{Memory as NoMemory}
use Rattle.bal_base.specs.declared.stop.Stop.{Stop}
use Rattle.bal_base.specs.declared.stop.Stop.TheVariants.{Memory, Fault}
use Rattle.bal_tree.specs.declared.package.Package.{Package}
use Rattle.checks.specs.Checks.{Comes, Gives, Refuses}
use Rattle.compile_front.specs.Front.{front_of}
use Rattle.compile_front.specs.declared.accepting.Accepted.{Accepted}
use Rattle.descriptors.specs.Described.{Atoms}
use Rattle.lower_package.specs.Limits.{PassesNodes}
use Rattle.type_diagrams.specs.Reach.{Passes}
use Rattle.typed_tree.specs.declared.package.TypedPackage.{TypedPackage}
use Rattle.folder_programs.specs.declared.compiling.CompileFault.{CompileFault}
use Rattle.folder_programs.specs.declared.compiling.Ready.{Ready}
use Rattle.folder_programs.specs.declared.compiling.Refusing.{Refusing}
use Rattle.folder_programs.specs.Compiling.{ComesOfPackage, CountsCompileFaults, IsLargeStop, IsOfSource, IsStopBare, IsStopRefused, IsStopShown}
use Rattle.status_texts.specs.Outside.{Files}
use Rattle.folder_programs.specs.Packages.{IsPackageOf, source_modules}
use Rattle.folder_programs.specs.Programs.{Compiled, large_program}
use Rattle.folder_programs.specs.Refusals.{refusal_in}

-- ---- what the front answers, over no atoms

pub front-gives : (whole : Package) (env new : Atoms) (accepted : Accepted) → env ≡ [] → Comes (front_of Passes whole) env (Ok accepted) new → front_of Passes whole [] (Gives accepted) new
unfolding Comes
front-gives whole env new accepted e h = subst (λ atoms. front_of Passes whole atoms (Gives accepted) new) e h

pub front-refuses : (whole : Package) (env new : Atoms) (fault : FaultOf) → env ≡ [] → Comes (front_of Passes whole) env (Err (Fault fault)) new → front_of Passes whole [] (Refuses fault) new
unfolding Comes
front-refuses whole env new fault e h = subst (λ atoms. front_of Passes whole atoms (Refuses fault) new) e h

-- ---- what comes of a package

pub stops-shown : (whole : Package) (fault : FaultOf) (r : Result Refusal NoMemory) (stop : Stop Refusing) → IfOk r (λ x. x ≡ refusal_in whole.modules fault) → IsStopShown r whole stop → IsStopRefused whole (Fault fault) stop
stops-shown whole fault (Ok x) stop is e = inr (record { refusal = x; source = Some whole }, e, is, refl)
stops-shown whole fault (Err m) stop is e = inl e

pub front-stops : (whole : Package) (env new : Atoms) (stop : Stop FaultOf) (told : Stop Refusing) → env ≡ [] → Comes (front_of Passes whole) env (Err stop) new → IsStopRefused whole stop told → ComesOfPackage whole (Err told)
front-stops whole env new Memory told e h is = subst (λ q. ComesOfPackage whole (Err q)) (sym is) tt
front-stops whole env new (Fault fault) told e h is =
    ⊎_elim
    (λ k. subst (λ q. ComesOfPackage whole (Err q)) (sym k) tt)
    (λ k. subst (λ q. ComesOfPackage whole (Err q)) (sym k.1) (inl (record { fault = fault; has = (new, front-refuses whole env new fault e h); is = k.2; shows = ap source_modules k.3 })))
    is

-- of a package that the front accepts, and whose nodes are too many
pub large-refused : (whole : Package) (accepted : Accepted) (new : Atoms) (stop : Stop Refusing) → front_of Passes whole [] (Gives accepted) new → IsLargeStop accepted.«package» stop → ComesOfPackage whole (Err stop)
large-refused whole accepted new Memory gives is = tt
large-refused whole accepted new (Fault x) gives (passes, is, none) =
    inr (record { accepted = accepted; atoms = new; gives = gives; passes = passes; is = is; shows = ap source_modules none })

-- the stop of such trees, of which nothing is shown
pub large-stop : (p : TypedPackage) (r : Result Refusal NoMemory) (stop : Stop Refusing) → PassesNodes p → IfOk r (λ x. x ≡ large_program p) → IsStopBare r stop → IsLargeStop p stop
large-stop p (Ok x) stop passes is e = subst (IsLargeStop p) (sym e) (passes, is, refl)
large-stop p (Err m) stop passes is e = subst (IsLargeStop p) (sym e) tt

-- ---- the folder whose files make the package

pub of-package : (folder : Option Files) (whole : Package) (a : Result Ready (Stop Refusing)) (r : Result Ready (Stop CompileFault)) → IsPackageOf folder whole → ComesOfPackage whole a → IsOfSource a r → Compiled folder r
of-package folder whole (Ok ready) r is so e = subst (Compiled folder) (sym e) (whole, is, so)
of-package folder whole (Err (Fault x)) r is so e = subst (Compiled folder) (sym e) (inr (whole, is, so))
of-package folder whole (Err Memory) r is so e = subst (Compiled folder) (sym e) tt

pub source-counts : (old new : ℕ) (a : Result Ready (Stop Refusing)) (r : Result Ready (Stop CompileFault)) → new ≡ old → IsOfSource a r → CountsCompileFaults old new r
source-counts old new (Ok ready) r same e = subst (CountsCompileFaults old new) (sym e) same
source-counts old new (Err (Fault x)) r same e = subst (CountsCompileFaults old new) (sym e) same
source-counts old new (Err Memory) r same e = subst (CountsCompileFaults old new) (sym e) same
