-- Lists, mappings and errors that are made, anonymous functions, calls, calls that are started, waits for several, and what takes the rest of arguments, with their atoms: two runs of each need come to the same.
use Rattle.std.proofs.Common.{List}
use Rattle.descriptors.specs.declared.names.Names.{Names}
use Rattle.type_model.specs.declared.answers.TypeLimit.{TypeLimit}
use Rattle.type_model.specs.declared.atoms.AtomDef.{AtomDef}
use Rattle.type_model.specs.Calls.{Asked}
use Rattle.expr_needs.specs.Needs.{MakesList, MakesError, WaitsForAll, HasRest, MakesCall, MakesMapping, MakesAnonymous, Starts}
use Rattle.check_answers.specs.Laws.{MadeAtomsAgree}
use Rattle.check_answers.proofs.Agreeing.{agrees-grown}
use Rattle.check_answers.proofs.Anonymous.{anonymous-leads}
use Rattle.check_answers.proofs.CallsMade.{makes-call-leads}
use Rattle.check_answers.proofs.Made.{error-leads, list-leads}
use Rattle.check_answers.proofs.NewAtoms.{has-rest-leads, waits-all-leads}
use Rattle.check_answers.proofs.MadeMappings.{mapping-leads}
use Rattle.check_answers.proofs.Starts.{starts-leads}

module _ (passes : List AtomDef → Asked → TypeLimit → Type 0) (names : Names) where
  pub made-atoms-agree : MadeAtomsAgree passes names
  made-atoms-agree =
      record {
        makes_list = λ count at. agrees-grown passes names (MakesList count at) (λ m n first second twins. list-leads m n first second twins count at);
        makes_error = λ count at. agrees-grown passes names (MakesError count at) (λ m n first second twins. error-leads m n first second twins count at);
        waits_for_all = λ qs at. agrees-grown passes names (WaitsForAll qs at) (λ m n first second twins. waits-all-leads m n first second twins qs at);
        has_rest = λ w. agrees-grown passes names (HasRest w) (λ m n first second twins. has-rest-leads m n first second twins w);
        makes_call = λ at. agrees-grown passes names (MakesCall at) (λ m n first second twins. makes-call-leads passes m n first second twins at);
        makes_mapping = λ count at. agrees-grown passes names (MakesMapping count at) (λ m n first second twins. mapping-leads m n first second twins count at);
        makes_anonymous = λ isolated at. agrees-grown passes names (MakesAnonymous isolated at) (λ m n first second twins. anonymous-leads m n first second twins isolated at);
        starts = λ here at. agrees-grown passes names (Starts here at) (λ m n first second twins. starts-leads passes m n first second twins here at);
      }
