-- One more statement, or one more clause, of those that come one after another.
use Rattle.std.proofs.Common.{◌≡◌, ◌∙◌, ℕ, ◌+◌, ◌<◌, ◌++◌, List, [], ◌∷◌, length, map, take, get_or, refl, sym, ap}
use Rattle.std.proofs.lemmas.List.{take_more}
use Rattle.std.specs.Prelude.{Option}
use Rattle.typed_tree.specs.declared.stmt.TypedClause.{TypedClause}
use Rattle.typed_tree.specs.declared.stmt.TypedStmt.{TypedStmt}
use Rattle.eval_model.specs.Ways.{Turns}
use Rattle.lower_model.specs.Making.{Making, clause_made, clauses_in_turn, stmt_made, stmts_in_turn}

stmts-append : (loop : Option (Turns ℕ)) (xs : List TypedStmt) (x : TypedStmt) (m : Making) → stmts_in_turn (map stmt_made (xs ++ x ∷ [])) loop m ≡ stmt_made x loop (stmts_in_turn (map stmt_made xs) loop m)
stmts-append loop [] x m = refl
stmts-append loop (y ∷ xs) x m = stmts-append loop xs x (stmt_made y loop m)

pub stmts-more : (loop : Option (Turns ℕ)) (xs : List TypedStmt) (i : ℕ) (x : TypedStmt) (before mid new : Making) → i < length xs → x ≡ get_or xs i x → mid ≡ stmts_in_turn (map stmt_made (take i xs)) loop before → new ≡ stmt_made x loop mid → new ≡ stmts_in_turn (map stmt_made (take (i + 1) xs)) loop before
stmts-more loop xs i x before mid new lt is here next =
    next ∙ ap (stmt_made x loop) here ∙ sym (ap (λ l. stmts_in_turn (map stmt_made l) loop before) (take_more xs i x lt ∙ ap (λ y. take i xs ++ y ∷ []) (sym is)) ∙ stmts-append loop (take i xs) x before)

clauses-append : (own end : ℕ) (loop : Option (Turns ℕ)) (xs : List TypedClause) (x : TypedClause) (m : Making) → clauses_in_turn (map clause_made (xs ++ x ∷ [])) own end loop m ≡ clause_made x own end loop (clauses_in_turn (map clause_made xs) own end loop m)
clauses-append own end loop [] x m = refl
clauses-append own end loop (y ∷ xs) x m = clauses-append own end loop xs x (clause_made y own end loop m)

pub clauses-more : (own end : ℕ) (loop : Option (Turns ℕ)) (xs : List TypedClause) (i : ℕ) (x : TypedClause) (before mid new : Making) → i < length xs → x ≡ get_or xs i x → mid ≡ clauses_in_turn (map clause_made (take i xs)) own end loop before → new ≡ clause_made x own end loop mid → new ≡ clauses_in_turn (map clause_made (take (i + 1) xs)) own end loop before
clauses-more own end loop xs i x before mid new lt is here next =
    next ∙ ap (clause_made x own end loop) here ∙ sym (ap (λ l. clauses_in_turn (map clause_made l) own end loop before) (take_more xs i x lt ∙ ap (λ y. take i xs ++ y ∷ []) (sym is)) ∙ clauses-append own end loop (take i xs) x before)
