-- Matches in which a wildcard is the last pattern of its clause: no test stands behind it that nothing leads to.
use Rattle.std.specs.Prelude.{◌≡◌, List, [], ◌∷◌, None, ⊤}
use Rattle.typed_tree.specs.declared.stmt.TypedPattern.{TypedPattern}
use Rattle.typed_tree.specs.declared.stmt.TypedStmt.{TypedStmt, Set, Perform, Update, If', While', Foreach', Match', Return, Block' as BlockStmt, Break, Continue, Row_of-TypedStmt, end_of-TypedStmt, more_of-TypedStmt, Row_of-TypedClause, end_of-TypedClause, more_of-TypedClause}
use Rattle.typed_tree.specs.declared.unit.TypedBody.TheVariants.{Block as BlockBody, Expr as ValueBody}
use Rattle.typed_tree.specs.Units.{UnitBody, OfFunction, OfWorker, OfAnonymous, OfInitialiser}

abbrev pub EndWithWildcards : List TypedPattern → Type 0
EndWithWildcards [] = ⊤
EndWithWildcards (t ∷ ts) = (t.value ≡ None → ts ≡ []) × EndWithWildcards ts

abbrev mutual
  pub MatchesPlainly : TypedStmt → Type 0
  MatchesPlainly (Set slot value at) = ⊤
  MatchesPlainly (Perform form operands at) = ⊤
  MatchesPlainly (Update t op value at) = ⊤
  MatchesPlainly (If' condition shape first shape' second at) = AllMatchPlainly first × AllMatchPlainly second
  MatchesPlainly (While' condition shape body at) = AllMatchPlainly body
  MatchesPlainly (Foreach' slot source shape body at) = AllMatchPlainly body
  MatchesPlainly (Match' own subject shape clauses at) = ClausesMatchPlainly clauses
  MatchesPlainly (Return value at) = ⊤
  MatchesPlainly (BlockStmt shape stmts at) = AllMatchPlainly stmts
  MatchesPlainly (Break at) = ⊤
  MatchesPlainly (Continue at) = ⊤

  pub AllMatchPlainly : {n : _} → Row_of-TypedStmt n → Type 0
  AllMatchPlainly end_of-TypedStmt = ⊤
  AllMatchPlainly (more_of-TypedStmt s rest) = MatchesPlainly s × AllMatchPlainly rest

  pub ClausesMatchPlainly : {n : _} → Row_of-TypedClause n → Type 0
  ClausesMatchPlainly end_of-TypedClause = ⊤
  ClausesMatchPlainly (more_of-TypedClause patterns shape stmts at rest) = EndWithWildcards patterns.items × AllMatchPlainly stmts × ClausesMatchPlainly rest

abbrev pub ListMatchesPlainly : List TypedStmt → Type 0
ListMatchesPlainly [] = ⊤
ListMatchesPlainly (s ∷ ss) = MatchesPlainly s × ListMatchesPlainly ss

abbrev pub BodyMatchesPlainly : UnitBody → Type 0
BodyMatchesPlainly (OfFunction (BlockBody initial workers rest ends close)) = ListMatchesPlainly initial.items × ListMatchesPlainly rest.items
BodyMatchesPlainly (OfFunction (ValueBody value)) = ⊤
BodyMatchesPlainly (OfWorker stmts ends) = ListMatchesPlainly stmts
BodyMatchesPlainly (OfAnonymous value) = ⊤
BodyMatchesPlainly (OfInitialiser values) = ⊤
