-- Messages, and waits for one of several workers: two runs of each need come to the same.
use Rattle.std.proofs.Common.{List}
use Rattle.descriptors.specs.declared.names.Names.{Names}
use Rattle.type_model.specs.declared.answers.TypeLimit.{TypeLimit}
use Rattle.type_model.specs.declared.atoms.AtomDef.{AtomDef}
use Rattle.type_model.specs.Calls.{Asked}
use Rattle.expr_needs.specs.Needs.{WaitsForAny, Receives, Sends, SendsAndWaits, Flushes}
use Rattle.check_answers.specs.Laws.{ActionsAgree}
use Rattle.check_answers.proofs.Agreeing.{agrees-behind}
use Rattle.check_answers.proofs.Actions.{flushes-leads, receives-leads, sends-and-waits-leads, sends-leads, waits-any-leads}

module _ (passes : List AtomDef → Asked → TypeLimit → Type 0) (names : Names) where
  pub actions-agree : ActionsAgree passes names
  actions-agree =
      record {
        waits_for_any = λ qs at. agrees-behind passes names (WaitsForAny qs at) (λ m n twins. waits-any-leads m n qs at);
        receives = λ e peer at. agrees-behind passes names (Receives e peer at) (λ m n twins. receives-leads m n e peer at);
        sends = λ peer at. agrees-behind passes names (Sends peer at) (λ m n twins. sends-leads m n peer at);
        sends_and_waits = λ peer at. agrees-behind passes names (SendsAndWaits peer at) (λ m n twins. sends-and-waits-leads m n peer at);
        flushes = λ peer at. agrees-behind passes names (Flushes peer at) (λ m n twins. flushes-leads m n peer at);
      }
