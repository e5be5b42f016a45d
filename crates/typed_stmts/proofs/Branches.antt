-- Blocks, branches, loops and matches, all together.
use Rattle.std.proofs.Common.{Bool, List}
use Rattle.descriptors.specs.declared.names.Names.{Names}
use Rattle.operations.specs.Rows.{Surroundings}
use Rattle.tree_promises.specs.Laws.{MadeLoopsAreTyped, MadeStatementsAreTyped}
use Rattle.type_model.specs.Calls.{Asked}
use Rattle.type_model.specs.declared.answers.TypeLimit.{TypeLimit}
use Rattle.type_model.specs.declared.atoms.AtomDef.{AtomDef}
use Rattle.typed_stmts.proofs.Branching.{block-begins, block-typed, branch-typed, loop-typed}
use Rattle.typed_stmts.proofs.Items.{counter-fits, counter-wanted, item-fits, item-wanted}
use Rattle.typed_stmts.proofs.Looping.{count-typed, item-declared, walk-typed}
use Rattle.typed_stmts.proofs.Matching.{clause-typed, match-begins, match-typed}
use Rattle.typed_stmts.specs.Branched.{BranchesAreTyped}

module _ (made : MadeStatementsAreTyped) (loops : MadeLoopsAreTyped) (passes : List AtomDef → Asked → TypeLimit → Type 0) (names : Names) (env : List AtomDef) (place : Surroundings) (inside : Bool) where
  pub branches-are-typed : BranchesAreTyped passes names env place inside
  branches-are-typed =
      record {
        begins = block-begins made passes names env place inside;
        blocks = block-typed made passes names env place inside;
        branches = branch-typed made passes names env place inside;
        loops = loop-typed made passes names env place inside;
        items = item-fits passes names env place;
        items_wanted = item-wanted passes names env place;
        counters = counter-fits passes names env place;
        counters_wanted = counter-wanted passes names env place;
        declared = item-declared passes names env place;
        walks = walk-typed passes names env place loops inside;
        counts = count-typed passes names env place loops inside;
        match_begins = match-begins passes made names env place inside;
        clauses = clause-typed passes made names env place inside;
        matches = match-typed passes made names env place inside;
      }
