-- What is known of variables behind values and blocks.
use Rattle.std.proofs.Common.{List, [], false, subst}
use Rattle.calm_needs.proofs.Flows.{variables-themselves, zip-came}
use Rattle.calm_needs.specs.Calm.{AllNeedsAreCalm, SameKnown}
use Rattle.check_laws.specs.StmtLaws.{KeptStmtPositions}
use Rattle.check_words.specs.Sharing.{SameFlow}
use Rattle.check_words.specs.State.{State, UnitAtWork}
use Rattle.kept_flows.proofs.Hands.{hand-is}
use Rattle.kept_flows.proofs.Keeping.{KeepsFresh}
use Rattle.kept_flows.proofs.Stmts.{block-facts, else-known, none-known}
use Rattle.kept_flows.proofs.Values.{expr-fresh, postfix-fresh, rhs-fresh}
use Rattle.kept_flows.specs.Flows.{AllBlocksSeeTheSame, AllValuesKeepFlows}
use Rattle.stmt_needs.specs.StmtTable.{in_block}
use Rattle.type_model.specs.Calls.{Asked}
use Rattle.type_model.specs.declared.answers.TypeLimit.{TypeLimit}
use Rattle.type_model.specs.declared.atoms.AtomDef.{AtomDef}
use Rattle.typed_bodies.specs.Claims.{SameAtHand}
use Rattle.typed_needs.proofs.Placed.{last-same}
use Rattle.typed_needs.specs.WholeRuns.{RunsGoOn}

at-hand-same : (old new : State) → KeepsFresh old new → SameAtHand old new
at-hand-same old new k u v before behind =
    let (w, last, same) = zip-came SameKnown old.units new.units v k.flows behind in
    subst (λ (x : UnitAtWork). SameFlow x.flow v.flow) (last-same old.units w u last before) same

pub values-keep-flows : (passes : List AtomDef → Asked → TypeLimit → Type 0) → AllNeedsAreCalm passes → AllValuesKeepFlows passes
values-keep-flows passes calm names =
    record {
      expr = λ x e old new run. at-hand-same old new (expr-fresh passes names [] (calm names) x e old new run);
      postfix = λ x e old new run. at-hand-same old new (postfix-fresh passes names [] (calm names) x e old new run);
      rhs = λ x e old new run. at-hand-same old new (rhs-fresh passes names [] (calm names) x e old new run);
    }

pub blocks-see-the-same : (passes : List AtomDef → Asked → TypeLimit → Type 0) → AllNeedsAreCalm passes → KeptStmtPositions passes → RunsGoOn passes → AllBlocksSeeTheSame passes
blocks-see-the-same passes calm positions goes names =
    record {
      block = λ x w old new unit run u v before behind.
          (block-facts passes names [] (calm names) (positions names) (goes names) x).sees w old new unit run u.flow.variables
          (hand-is u.flow.variables old u before (variables-themselves u.flow.variables)) v behind;
      else = λ x w old new unit run u v before behind.
          (else-known passes names [] (calm names) (positions names) (goes names) x).sees w old new unit run u.flow.variables
          (hand-is u.flow.variables old u before (variables-themselves u.flow.variables)) v behind;
      none = λ old new unit run u v before behind.
          (none-known passes names [] (calm names) (positions names) (goes names)).sees (in_block false) old new unit run u.flow.variables
          (hand-is u.flow.variables old u before (variables-themselves u.flow.variables)) v behind;
    }
