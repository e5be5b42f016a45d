-- What is so of a folder whose program is compiled, whatever is done with that.
use Rattle.std.proofs.Common.{◌≡◌, ◌⊎◌, ◌<◌, List, Option, Some, false, refl, sym, ap, subst, ◌∙◌, inl, inr, ⊎_elim, arith}
use Rattle.std.specs.Prelude.{⊤, IfNone, IsSome}
use Rattle.bal_base.specs.declared.fault.Refusal.{Refusal}
use Rattle.bal_io.specs.Faults.{Rises}
use Rattle.bal_tree.specs.declared.package.Module.{Module}
use Rattle.bal_tree.specs.declared.package.Package.{Package}
use Rattle.bal_tree.specs.declared.package.SourceFile.{SourceFile}
use Rattle.compile_front.specs.Mains.{has_main}
use Rattle.descriptors.specs.Described.{Atoms}
use Rattle.module_loader.specs.Faults.{IsRefusedFor}
use Rattle.folder_programs.specs.declared.compiling.Built.{Built}
use Rattle.status_texts.specs.declared.status.Run.{Run}
use Rattle.status_texts.specs.declared.status.Status.{Status}
use Rattle.status_texts.specs.declared.status.Status.TheVariants.{Refused, FolderFault}
use Rattle.bal_run.specs.Due.{BadFolder, FolderFails, FolderRefused, NoMemoryToBuild, NothingRan, WasBuilt}
use Rattle.status_texts.specs.Outside.{Files, Outside, SinkTells}
use Rattle.bal_run.specs.OfBuilds.{BuildIsTold, HasNoProgram, HasRefusalOf, IfBuilt, IsNeverRefused, IsOfProgram, LacksMain, OfBuilt, RefusedSoon}
use Rattle.folder_programs.specs.Packages.{HasNoPackage, IsMade, IsPackageOf, IsUnmade}
use Rattle.folder_programs.specs.Programs.{IsProgramRefused, IsRefusalOf}
use Rattle.folder_programs.specs.Refusals.{no_main, refusal_in}
use Rattle.status_texts.specs.Report.{ComesTo, ComesToRefusal, Reports}
use Rattle.folder_programs.proofs.MainFacts.{fault-lacks, front-lacks}
use Rattle.status_texts.proofs.ReportFacts.{come-or-fail, come-or-memory, comes-from}

module _ (before after : Outside) (run : Run) where
  -- ---- what was built

  pub of-built : (P : Atoms → Built → Type 0) (w : WasBuilt before after run) → P w.atoms w.built → OfBuilt before.folder.files run.built P
  of-built P w h = subst (λ o. OfBuilt before.folder.files o P) (sym w.kept) (w.built, w.atoms, refl, w.compiled, h)

  pub if-built : (P : Atoms → Built → Type 0) (w : WasBuilt before after run) → P w.atoms w.built → IfBuilt before.folder.files run.built P
  if-built P w h = subst (λ o. IfBuilt before.folder.files o P) (sym w.kept) (w.built, w.atoms, refl, w.compiled, h)

  pub if-nothing : (P : Atoms → Built → Type 0) → NothingRan before after run → IfBuilt before.folder.files run.built P
  if-nothing P n = subst (λ o. IfBuilt before.folder.files o P) (sym n.built) tt

  pub some-built : WasBuilt before after run → IsSome run.built
  some-built w = subst (λ o. IsSome o) (sym w.kept) refl

-- `stage`: the folder came to no program, or to one
module _ (before after : Outside) (run : Run) (modules : List Module) (due : Status) (stage : BadFolder before after run modules due ⊎ WasBuilt before after run) (diag told : SinkTells) (r : Reports modules due run.status diag told) where
  abbrev folder : Option Files
  folder = before.folder.files

  by-build :
      {P : Type 0} →
      (FolderFails before.folder after.folder due → P) →
      (FolderRefused before.folder after.folder modules due → P) →
      (NoMemoryToBuild before.folder after.folder due → P) →
      (WasBuilt before after run → P) →
      P
  by-build f g h k = ⊎_elim (λ b. ⊎_elim f (λ q. ⊎_elim g h q) b.cause) k stage

  kept : IsOfProgram folder run.built
  kept = ⊎_elim (λ b. if-nothing before after run (λ atoms built. ⊤) b.nothing) (λ w. if-built before after run (λ atoms built. ⊤) w tt) stage

  unbuilt : IfNone run.built (NothingRan before after run)
  unbuilt =
      ⊎_elim
      (λ b. subst (λ o. IfNone o (NothingRan before after run)) (sym b.nothing.built) b.nothing)
      (λ w. subst (λ o. IfNone o (NothingRan before after run)) (sym w.kept) tt)
      stage

  -- ---- the folder

  folder-due : before.folder.faults < after.folder.faults → ComesTo FolderFault run.status
  folder-due up =
      comes-from modules due run.status diag told r FolderFault
      (by-build (λ f. f.0) (λ f. absurd (let same = f.3 in omega arith)) (λ f. absurd (let same = f.1 in omega arith)) (λ w. absurd (let same = w.folder in omega arith)))

  -- ---- refusals

  -- where one refusal alone may come, and nothing is accepted, it comes, unless the folder failed or memory ran out
  refused-so : (x : Refusal) → ((y : Refusal) (ms : List Module) → IsRefusalOf folder y ms → y ≡ x) → HasNoProgram folder → ComesToRefusal x run.status
  refused-so x one none =
      come-or-fail modules due run.status diag told r (Refused x)
      (by-build (λ f. inr (inl f.0)) (λ f. inl (f.1 ∙ ap Refused (one f.0 modules f.2))) (λ f. inr (inr f.0)) (λ w. absurd (none w.built w.atoms w.compiled)))

  front-due : HasNoProgram folder → ((x : Refusal) × HasRefusalOf folder x × ComesTo (Refused x) run.status) ⊎ ComesTo FolderFault run.status
  front-due none =
      by-build
      (λ f. inr (comes-from modules due run.status diag told r FolderFault f.0))
      (λ f. inl (f.0, (modules, f.2), comes-from modules due run.status diag told r (Refused f.0) f.1))
      (λ f. inr (come-or-memory modules due run.status diag told r FolderFault (inr f.0)))
      (λ w. absurd (none w.built w.atoms w.compiled))

  -- ---- the files are these

  module _ (all : Files) (told-all : folder ≡ Some all) where
    its-made : (whole : Package) → IsPackageOf folder whole → IsMade all whole
    its-made whole h = subst (λ f. IsPackageOf f whole) told-all h

    its-unmade : (y : Refusal) → HasNoPackage folder y → IsUnmade all y
    its-unmade y h = subst (λ f. HasNoPackage f y) told-all h

    files-due : (x : Refusal) (read : List SourceFile) → IsRefusedFor all x read → ComesToRefusal x run.status
    files-due x read h =
        refused-so x
        (λ y ms q. ⊎_elim (λ a. sym ((its-unmade y a.0).only x read h)) (λ u. absurd ((its-made u.0 u.1).sound x read h)) q)
        (λ b atoms q. (its-made q.0 q.1).sound x read h)

    no-main-due : LacksMain all → ComesToRefusal no_main run.status
    no-main-due (some, lacks) =
        refused-so no_main
        (λ y ms q. ⊎_elim (λ a. absurd ((its-unmade y a.0).none some.0 some.1)) (λ u. lacks-it u.0 (lacks u.0 (its-made u.0 u.1).is) y ms u.2) q)
        (λ b atoms q. front-lacks q.0 (lacks q.0 (its-made q.0 q.1).is) atoms q.2.accepted q.2.gives)
      where
        lacks-it : (whole : Package) → has_main whole ≡ false → (y : Refusal) (ms : List Module) → IsProgramRefused whole y ms → y ≡ no_main
        lacks-it whole none y ms (inl a) = a.is ∙ ap (refusal_in whole.modules) (fault-lacks whole none a.has.0 a.fault a.has.1)
        lacks-it whole none y ms (inr a) = absurd (front-lacks whole none a.atoms a.accepted a.gives)

  built-due : IsNeverRefused folder → IsSome run.built ⊎ ComesTo FolderFault run.status
  built-due n =
      by-build
      (λ f. inr (comes-from modules due run.status diag told r FolderFault f.0))
      (λ f. absurd (never f.0 modules f.2))
      (λ f. inr (come-or-memory modules due run.status diag told r FolderFault (inr f.0)))
      (λ w. inl (some-built before after run w))
    where
      never : (y : Refusal) (ms : List Module) → IsRefusalOf folder y ms → ⊥
      never y ms (inl a) = (its-unmade n.all n.told y a.0).none n.made.0 n.made.1
      never y ms (inr u) = n.never u.0 (its-made n.all n.told u.0 u.1).is y ms u.2

  -- where a fault of the folder and a refusal are told by what was due
  pub build-told :
      (Late : Refusal → Type 0) →
      (run.status ≡ FolderFault → Rises before.folder.faults after.folder.faults × NothingRan before after run) →
      ((x : Refusal) → run.status ≡ Refused x → RefusedSoon before after run x ⊎ Late x) →
      BuildIsTold Late before after run
  build-told Late fails refused =
      record {
        folder_fault = fails;
        folder_due = folder-due;
        refused = refused;
        files_due = λ all x read e h. files-due all e x read h;
        no_main_due = no-main-due;
        front_due = front-due;
        kept = kept;
        built_due = built-due;
        unbuilt = unbuilt;
      }
