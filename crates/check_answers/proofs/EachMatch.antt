-- Matches: two runs of each need come to the same.
use Rattle.std.proofs.Common.{List}
use Rattle.descriptors.specs.declared.names.Names.{Names}
use Rattle.type_model.specs.declared.answers.TypeLimit.{TypeLimit}
use Rattle.type_model.specs.declared.atoms.AtomDef.{AtomDef}
use Rattle.type_model.specs.Calls.{Asked}
use Rattle.expr_needs.specs.Needs.{BeginsMatch, HasPattern, BeginsClause, EndsClause, MakesMatch}
use Rattle.check_answers.specs.Laws.{MatchesAgree}
use Rattle.check_answers.proofs.Agreeing.{agrees-before, agrees-behind, agrees-these}
use Rattle.check_answers.proofs.MatchEnds.{makes-match-leads}
use Rattle.check_answers.proofs.Matches.{begins-clause-leads, begins-match-leads, ends-clause-leads, has-pattern-leads}

module _ (passes : List AtomDef → Asked → TypeLimit → Type 0) (names : Names) where
  pub matches-agree : MatchesAgree passes names
  matches-agree =
      record {
        begins_match = λ name at. agrees-before passes names (BeginsMatch name at) (λ m n twins. begins-match-leads m n twins name at);
        has_pattern = λ p. agrees-before passes names (HasPattern p) (λ m n twins. has-pattern-leads m n twins names p);
        begins_clause = λ any. agrees-behind passes names (BeginsClause any) (λ m n twins. begins-clause-leads m n twins passes any);
        ends_clause = λ at. agrees-before passes names (EndsClause at) (λ m n twins. ends-clause-leads m n twins at);
        makes_match = λ any at. agrees-these passes names (MakesMatch any at) (λ s t p twins. makes-match-leads s.atoms t.atoms twins passes s t p any at);
      }
