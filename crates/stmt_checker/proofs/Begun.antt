-- What stands before the first need.
use Rattle.std.specs.Prelude.{◌≡◌, All, List, [], None}
use Rattle.std.proofs.Common.{arith, subst, sym}
use Rattle.bal_tree.specs.declared.package.Package.{Package}
use Rattle.descriptors.specs.Steps.{AreNames}
use Rattle.descriptors.specs.declared.names.Names.{Names}
use Rattle.needs.specs.Needs.{Going}
use Rattle.type_model.specs.declared.atoms.AtomDef.{AtomDef}
use Rattle.check_words.specs.Stands.{Stands}
use Rattle.check_words.specs.State.{State}
use Rattle.check_work.specs.Views.{going}
use Rattle.check_work.specs.declared.work.Work.{Work}
use Rattle.package_checks.specs.Checked.{at_first}
use Rattle.all_needs.specs.Named.{stands_over}
use Rattle.all_needs.proofs.Named.{it-stands}

none : {X : Type 0} (P : X → Type 0) → All P []
none P k d lt = absurd (omega (arith, lt))

-- nothing is open, so nothing names atoms
first-stands : (env : List AtomDef) (p : Package) → Stands (at_first env p)
first-stands env p =
    record {
      site = none _;
      found = none _;
      ways = tt;
      wants = none _;
      constructors = none _;
      calls = none _;
      choices = none _;
      matches = none _;
      units = none _;
      initialiser = tt;
    }

pub first-holds : (env : List AtomDef) (p : Package) (names : Names) (w : Work) → AreNames env names → going env w ≡ (at_first env p, None) → stands_over env names w
first-holds env p names w known first =
    it-stands env names w (λ stop. (known, subst (λ (g : Going State). Stands g.0) (sym first) (first-stands env p)))
