-- Names as values, in calls and in waits: two runs of each need come to the same.
use Rattle.std.proofs.Common.{List}
use Rattle.descriptors.specs.declared.names.Names.{Names}
use Rattle.type_model.specs.declared.answers.TypeLimit.{TypeLimit}
use Rattle.type_model.specs.declared.atoms.AtomDef.{AtomDef}
use Rattle.type_model.specs.Calls.{Asked}
use Rattle.expr_needs.specs.Needs.{GivesNamed, CallsNamed, Awaits}
use Rattle.check_answers.specs.Laws.{NamesAgree}
use Rattle.check_answers.proofs.Agreeing.{agrees-behind}
use Rattle.check_answers.proofs.Named.{awaits-leads, calls-named-leads, named-leads}

module _ (passes : List AtomDef → Asked → TypeLimit → Type 0) (names : Names) where
  pub names-agree : NamesAgree passes names
  names-agree =
      record {
        gives_named = λ q. agrees-behind passes names (GivesNamed q) (λ m n twins. named-leads m n twins names q);
        calls_named = λ started q count at. agrees-behind passes names (CallsNamed started q count at) (λ m n twins. calls-named-leads m n twins passes names started q count at);
        awaits = λ q. agrees-behind passes names (Awaits q) (λ m n twins. awaits-leads m n twins passes names q);
      }
