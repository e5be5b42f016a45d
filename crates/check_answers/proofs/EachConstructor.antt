-- Constructors, but for those that make atoms: two runs of each need come to the same.
use Rattle.std.proofs.Common.{List}
use Rattle.descriptors.specs.declared.names.Names.{Names}
use Rattle.type_model.specs.declared.answers.TypeLimit.{TypeLimit}
use Rattle.type_model.specs.declared.atoms.AtomDef.{AtomDef}
use Rattle.type_model.specs.Calls.{Asked}
use Rattle.expr_needs.specs.Needs.{ChoosesList, ChoosesMapping, BeginsKeys, GivesKey, TakesKey, ComputesKey, ExpectsItem, ExpectsMember, IsItem, IsDetail, LacksCause, IsMember}
use Rattle.check_answers.specs.Laws.{ConstructorsAgree}
use Rattle.check_answers.proofs.Agreeing.{agrees-before, agrees-behind}
use Rattle.check_answers.proofs.Constructors.{begins-keys-leads, chooses-list-leads, chooses-mapping-leads, computes-key-leads, detail-leads, expects-item-leads, expects-member-leads, gives-key-leads, item-leads, lacks-cause-leads, takes-key-leads}
use Rattle.check_answers.proofs.MemberKeys.{member-leads}

module _ (passes : List AtomDef → Asked → TypeLimit → Type 0) (names : Names) where
  pub constructors-agree : ConstructorsAgree passes names
  constructors-agree =
      record {
        chooses_list = λ e items at. agrees-before passes names (ChoosesList e items at) (λ m n twins. chooses-list-leads m n twins passes e items at);
        chooses_mapping = λ e ms at. agrees-before passes names (ChoosesMapping e ms at) (λ m n twins. chooses-mapping-leads m n twins passes e ms at);
        begins_keys = agrees-before passes names BeginsKeys (λ m n twins. begins-keys-leads m n twins);
        gives_key = λ text at. agrees-behind passes names (GivesKey text at) (λ m n twins. gives-key-leads m n twins text at);
        takes_key = λ text at. agrees-before passes names (TakesKey text at) (λ m n twins. takes-key-leads m n twins text at);
        computes_key = agrees-before passes names ComputesKey (λ m n twins. computes-key-leads m n twins);
        expects_item = agrees-behind passes names ExpectsItem (λ m n twins. expects-item-leads m n twins);
        expects_member = agrees-behind passes names ExpectsMember (λ m n twins. expects-member-leads m n twins);
        is_item = λ at. agrees-behind passes names (IsItem at) (λ m n twins. item-leads m n twins passes at);
        is_detail = λ at. agrees-behind passes names (IsDetail at) (λ m n twins. detail-leads m n twins passes at);
        lacks_cause = λ at. agrees-behind passes names (LacksCause at) (λ m n twins. lacks-cause-leads m n twins at);
        is_member = λ at. agrees-behind passes names (IsMember at) (λ m n twins. member-leads passes m n twins at);
      }
