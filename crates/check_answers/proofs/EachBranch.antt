-- Branches and loops: two runs of each need come to the same.
use Rattle.std.proofs.Common.{List}
use Rattle.descriptors.specs.declared.names.Names.{Names}
use Rattle.type_model.specs.declared.answers.TypeLimit.{TypeLimit}
use Rattle.type_model.specs.declared.atoms.AtomDef.{AtomDef}
use Rattle.type_model.specs.Calls.{Asked}
use Rattle.expr_needs.specs.Needs.{MakesIf, Heads, OpensLoop, MakesWhile, IsItemOfLoop, WidensItem, IsCounter, WantsCounter, HasItem, MakesForeach, MakesRange}
use Rattle.check_answers.specs.Laws.{BranchesAgree}
use Rattle.check_answers.proofs.Agreeing.{agrees-before, agrees-behind, agrees-these}
use Rattle.check_answers.proofs.Branches.{foreach-leads, has-item-leads, heads-leads, if-leads, is-counter-leads, is-item-leads, opens-loop-leads, range-leads, wants-counter-leads, while-leads, widens-item-leads}

module _ (passes : List AtomDef → Asked → TypeLimit → Type 0) (names : Names) where
  pub branches-agree : BranchesAgree passes names
  branches-agree =
      record {
        makes_if = λ at. agrees-these passes names (MakesIf at) (λ s t p twins. if-leads s.atoms t.atoms at s t p);
        heads = λ assigned. agrees-before passes names (Heads assigned) (λ m n twins. heads-leads m n assigned);
        opens_loop = agrees-before passes names OpensLoop (λ m n twins. opens-loop-leads m n);
        makes_while = λ leaves at. agrees-before passes names (MakesWhile leaves at) (λ m n twins. while-leads m n leaves at);
        is_item_of_loop = λ at. agrees-before passes names (IsItemOfLoop at) (λ m n twins. is-item-leads m n passes at);
        widens_item = λ at. agrees-behind passes names (WidensItem at) (λ m n twins. widens-item-leads m n passes at);
        is_counter = λ at. agrees-before passes names (IsCounter at) (λ m n twins. is-counter-leads m n passes at);
        wants_counter = agrees-behind passes names WantsCounter (λ m n twins. wants-counter-leads m n);
        has_item = λ name assigned. agrees-before passes names (HasItem name assigned) (λ m n twins. has-item-leads m n name assigned);
        makes_foreach = λ at. agrees-behind passes names (MakesForeach at) (λ m n twins. foreach-leads m n at);
        makes_range = λ op at. agrees-behind passes names (MakesRange op at) (λ m n twins. range-leads m n op at);
      }
