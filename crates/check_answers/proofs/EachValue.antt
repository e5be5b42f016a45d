-- Literals, operators, conditions, and what is wanted: two runs of each need come to the same.
use Rattle.std.proofs.Common.{List, true}
use Rattle.descriptors.specs.declared.names.Names.{Names}
use Rattle.type_model.specs.declared.answers.TypeLimit.{TypeLimit}
use Rattle.type_model.specs.declared.atoms.AtomDef.{AtomDef}
use Rattle.type_model.specs.Calls.{Asked}
use Rattle.expr_needs.specs.Needs.{Fails, IsOf, IsWanted, Widens, WantsResult, WantsErrorToo, DropsWant, GivesLiteral, Forms, Decides, IsSort, Adds, Compares, Splits, Switches, Turns, Conjoins, Disjoins, Chooses, FillsNil, Tests, Casts, Checks, ChecksPanicking, Traps, Encloses, Describes}
use Rattle.check_answers.specs.Laws.{ValuesAgree}
use Rattle.check_answers.proofs.Agreeing.{agrees-before, agrees-behind, agrees-named}
use Rattle.check_answers.proofs.Leading.{Any2, leads-fails}
use Rattle.check_answers.proofs.Questions.{Before, Behind, is-of-leads, is-wanted-leads}
use Rattle.check_answers.proofs.Tests.{checks-leads, tests-leads}
use Rattle.check_answers.proofs.Values.{adds-leads, casts-leads, checked-leads, chooses-leads, compares-leads, conjoins-leads, decides-leads, disjoins-leads, drops-want-leads, encloses-leads, fills-nil-leads, forms-leads, is-sort-leads, literal-leads, splits-leads, switches-leads, traps-leads, turns-leads, wants-error-leads, wants-result-leads, widens-leads}
use Rattle.check_answers.proofs.Describing.{describes-leads}

module _ (passes : List AtomDef → Asked → TypeLimit → Type 0) (names : Names) where
  pub values-agree : ValuesAgree passes names
  values-agree =
      record {
        fails = λ code at. agrees-behind passes names (Fails code at) (λ m n twins. leads-fails (Before m n) (Behind m n) Any2 code at);
        is_of = λ kind at. agrees-before passes names (IsOf kind at) (λ m n twins. is-of-leads m n passes kind at);
        is_wanted = λ at. agrees-before passes names (IsWanted at) (λ m n twins. is-wanted-leads m n passes at);
        widens = λ at. agrees-behind passes names (Widens at) (λ m n twins. widens-leads m n passes at);
        wants_result = agrees-behind passes names WantsResult (λ m n twins. wants-result-leads m n);
        wants_error_too = agrees-behind passes names WantsErrorToo (λ m n twins. wants-error-leads m n);
        drops_want = agrees-before passes names DropsWant (λ m n twins. drops-want-leads m n);
        gives_literal = λ l. agrees-behind passes names (GivesLiteral l) (λ m n twins. literal-leads m n l);
        forms = λ op count kind at. agrees-behind passes names (Forms op count kind at) (λ m n twins. forms-leads m n op count kind at);
        decides = λ at. agrees-before passes names (Decides at) (λ m n twins. decides-leads m n passes at);
        is_sort = λ at. agrees-before passes names (IsSort at) (λ m n twins. is-sort-leads m n passes at);
        adds = λ at. agrees-behind passes names (Adds at) (λ m n twins. adds-leads m n at);
        compares = λ op at. agrees-behind passes names (Compares op at) (λ m n twins. compares-leads m n op at);
        splits = λ way. agrees-before passes names (Splits way) (λ m n twins. splits-leads m n way);
        switches = agrees-before passes names Switches (λ m n twins. switches-leads m n);
        turns = λ at. agrees-behind passes names (Turns at) (λ m n twins. turns-leads m n at);
        conjoins = λ at. agrees-behind passes names (Conjoins at) (λ m n twins. conjoins-leads m n at);
        disjoins = λ at. agrees-behind passes names (Disjoins at) (λ m n twins. disjoins-leads m n at);
        chooses = λ at. agrees-behind passes names (Chooses at) (λ m n twins. chooses-leads m n at);
        fills_nil = λ at. agrees-behind passes names (FillsNil at) (λ m n twins. fills-nil-leads m n at);
        tests = λ name at. agrees-behind passes names (Tests name at) (λ m n twins. tests-leads passes m n name at);
        casts = λ at. agrees-behind passes names (Casts at) (λ m n twins. casts-leads m n at);
        checks = λ at. agrees-behind passes names (Checks at) (λ m n twins. checks-leads passes m n at);
        checks_panicking = λ at. agrees-behind passes names (ChecksPanicking at) (λ m n twins. checked-leads m n true at);
        traps = λ at. agrees-behind passes names (Traps at) (λ m n twins. traps-leads m n at);
        encloses = λ at. agrees-behind passes names (Encloses at) (λ m n twins. encloses-leads m n at);
        describes = λ tree. agrees-named passes names (Describes tree) (λ m n first second twins one two. describes-leads names m n first second twins one two tree);
      }
