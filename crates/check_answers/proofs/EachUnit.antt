-- Files, modules, their variables, functions that end, parameters and workers: two runs of each need come to the same.
use Rattle.std.proofs.Common.{List}
use Rattle.descriptors.specs.declared.names.Names.{Names}
use Rattle.type_model.specs.declared.answers.TypeLimit.{TypeLimit}
use Rattle.type_model.specs.declared.atoms.AtomDef.{AtomDef}
use Rattle.type_model.specs.Calls.{Asked}
use Rattle.expr_needs.specs.Needs.{EntersFile, NamesParameter, EndsFunction, EndsValueFunction, BeginsWorker, EndsWorker, EndsModule, BeginsInitial, EndsInitial, BeginsFunction, IsConstant}
use Rattle.check_answers.specs.Laws.{UnitsAgree}
use Rattle.check_answers.proofs.Agreeing.{agrees-before, agrees-behind, agrees-named, agrees-within}
use Rattle.check_answers.proofs.Initials.{begins-initial-leads, ends-initial-leads}
use Rattle.check_answers.proofs.Units.{begins-worker-leads, ends-worker-leads, file-leads, function-leads, module-leads, names-parameter-leads, value-function-leads}
use Rattle.check_answers.proofs.Begins.{begins-function-alike, constant-fits-leads}

module _ (passes : List AtomDef → Asked → TypeLimit → Type 0) (names : Names) where
  pub units-agree : UnitsAgree passes names
  units-agree =
      record {
        enters_file = λ k file. agrees-before passes names (EntersFile k file) (λ m n twins. file-leads m n k file);
        names_parameter = λ w assigned. agrees-before passes names (NamesParameter w assigned) (λ m n twins. names-parameter-leads m n w assigned);
        ends_function = λ d close. agrees-before passes names (EndsFunction d close) (λ m n twins. function-leads m n passes d close);
        ends_value_function = λ d. agrees-before passes names (EndsValueFunction d) (λ m n twins. value-function-leads m n passes d);
        begins_worker = λ w number used. agrees-before passes names (BeginsWorker w number used) (λ m n twins. begins-worker-leads m n w number used);
        ends_worker = λ w close. agrees-before passes names (EndsWorker w close) (λ m n twins. ends-worker-leads m n passes w close);
        ends_module = λ k. agrees-before passes names (EndsModule k) (λ m n twins. module-leads m n k);
        begins_initial = λ d kept. agrees-behind passes names (BeginsInitial d kept) (λ m n twins. begins-initial-leads m n twins names d kept);
        ends_initial = λ d kept. agrees-before passes names (EndsInitial d kept) (λ m n twins. ends-initial-leads m n twins names d kept);
        begins_function = λ def. agrees-within passes names (BeginsFunction def) (λ m n first second twins one two. begins-function-alike names m n first second twins one two def);
        is_constant = λ def. agrees-named passes names (IsConstant def) (λ m n first second twins one two. constant-fits-leads names m n first second twins one two passes def.ty def);
      }
