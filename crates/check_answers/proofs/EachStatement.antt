-- Statements, but for assignments with an operator, branches and loops: two runs of each need come to the same.
use Rattle.std.proofs.Common.{List}
use Rattle.descriptors.specs.declared.names.Names.{Names}
use Rattle.type_model.specs.declared.answers.TypeLimit.{TypeLimit}
use Rattle.type_model.specs.declared.atoms.AtomDef.{AtomDef}
use Rattle.type_model.specs.Calls.{Asked}
use Rattle.expr_needs.specs.Needs.{Declares, IsAssignable, Assigns, ReadsName, Stores, IsIgnorable, Performs, Stops, Returns, ReturnsNil, Breaks, Continues, BeginsBlock, EndsBlock, MakesBlock}
use Rattle.check_answers.specs.Laws.{StatementsAgree}
use Rattle.check_answers.proofs.Agreeing.{agrees-before, agrees-behind}
use Rattle.check_answers.proofs.Statements.{assignable-leads, assigns-leads, begins-block-leads, breaks-leads, continues-leads, declares-leads, ends-block-leads, ignorable-leads, makes-block-leads, performs-leads, reads-name-leads, returns-leads, returns-nil-leads, stops-leads, stores-leads}

module _ (passes : List AtomDef → Asked → TypeLimit → Type 0) (names : Names) where
  pub statements-agree : StatementsAgree passes names
  statements-agree =
      record {
        declares = λ name final assigned at. agrees-before passes names (Declares name final assigned at) (λ m n twins. declares-leads m n name final assigned at);
        is_assignable = λ q. agrees-behind passes names (IsAssignable q) (λ m n twins. assignable-leads m n twins names q);
        assigns = λ q at. agrees-before passes names (Assigns q at) (λ m n twins. assigns-leads m n names q at);
        reads_name = λ q. agrees-behind passes names (ReadsName q) (λ m n twins. reads-name-leads m n twins names q);
        stores = λ at. agrees-before passes names (Stores at) (λ m n twins. stores-leads m n at);
        is_ignorable = λ at. agrees-before passes names (IsIgnorable at) (λ m n twins. ignorable-leads m n passes at);
        performs = λ form count at. agrees-before passes names (Performs form count at) (λ m n twins. performs-leads m n form count at);
        stops = agrees-before passes names Stops (λ m n twins. stops-leads m n);
        returns = λ at. agrees-before passes names (Returns at) (λ m n twins. returns-leads m n at);
        returns_nil = λ at. agrees-before passes names (ReturnsNil at) (λ m n twins. returns-nil-leads m n passes at);
        breaks = λ at. agrees-before passes names (Breaks at) (λ m n twins. breaks-leads m n at);
        continues = λ at. agrees-before passes names (Continues at) (λ m n twins. continues-leads m n at);
        begins_block = agrees-before passes names BeginsBlock (λ m n twins. begins-block-leads m n);
        ends_block = agrees-before passes names EndsBlock (λ m n twins. ends-block-leads m n);
        makes_block = λ at. agrees-before passes names (MakesBlock at) (λ m n twins. makes-block-leads m n at);
      }
