-- Whole runs of expressions, from what is so of the trees.
use Rattle.std.proofs.Common.{List}
use Rattle.type_model.specs.declared.answers.TypeLimit.{TypeLimit}
use Rattle.type_model.specs.declared.atoms.AtomDef.{AtomDef}
use Rattle.type_model.specs.Calls.{Asked}
use Rattle.check_laws.specs.Laws.{KeptPositions}
use Rattle.tree_promises.specs.Laws.{MadeExprsKeepFlows}
use Rattle.typed_needs.specs.WholeRuns.{RunsGoOn}
use Rattle.calm_needs.specs.Calm.{AllNeedsAreCalm}
use Rattle.calm_needs.specs.Staying.{AllWaysStayOn}
use Rattle.flow_needs.specs.Runs.{AllRunsKeepFlow}
use Rattle.flow_needs.proofs.Actions.{rhs-flow}
use Rattle.flow_needs.proofs.Trees.{AllKnown, call-known, expr-known, postfix-known, primary-known}

pub all-runs-keep-flow : (passes : List AtomDef → Asked → TypeLimit → Type 0) → KeptPositions passes → RunsGoOn passes → AllNeedsAreCalm passes → AllWaysStayOn passes → MadeExprsKeepFlows
    → AllRunsKeepFlow passes
all-runs-keep-flow passes positions goes calm stay flows names env =
    let l : AllKnown passes names env =
    record { positions = positions names; goes = goes names; calm = calm names; stay = stay names; flows = flows } in
    record {
      expr = λ x. (expr-known passes names env l x).claim;
      postfix = λ x. (postfix-known passes names env l x).claim;
      primary = λ x. (primary-known passes names env l x).claim;
      call = λ x. (call-known passes names env l x).made.claim;
      rhs = rhs-flow passes names env l;
    }
