-- What all needs of a statement, of a block or of a clause come to: one typed statement more, one typed block more, a typed clause more.
use Rattle.std.specs.Prelude.{⊤, All, Bool, List, [], length, ◌++◌, ◌∷◌, ◌≡◌}
use Rattle.bal_tree.specs.declared.action.Rhs.{Rhs}
use Rattle.std.specs.List.{AllZip}
use Rattle.check_laws.specs.Laws.{IsReady}
use Rattle.check_laws.specs.StmtLaws.{HasBlock, HasUnit, IsOneBlockMore, IsOneStmtMore}
use Rattle.check_words.specs.Sharing.{SameFlow}
use Rattle.check_words.specs.State.{BlockAtWork, IsLast, MatchAtWork, State, UnitAtWork}
use Rattle.descriptors.specs.declared.names.Names.{Names}
use Rattle.expr_needs.specs.ExprTable.{Reading}
use Rattle.expr_needs.specs.Needs.{Need}
use Rattle.expr_needs.specs.declared.expected.Expected.{Expected}
use Rattle.flow_narrowing.specs.Flows.{IsSameVariable}
use Rattle.operations.specs.Rows.{Surroundings}
use Rattle.stmt_needs.specs.StmtTable.{StmtReading, Within}
use Rattle.tree_promises.specs.MadeStmts.{AreTypedClauses, AreTypedStmts, IsTypedStmt}
use Rattle.type_model.specs.Calls.{Asked}
use Rattle.type_model.specs.declared.answers.TypeLimit.{TypeLimit}
use Rattle.type_model.specs.declared.atoms.AtomDef.{AtomDef}
use Rattle.typed_bodies.specs.Units.{units_of_clauses, units_of_stmts}
use Rattle.typed_exprs.specs.Lines.{Leaves, Run}
use Rattle.typed_needs.specs.Between.{FlowIsStored, IsKept, IsSoFar, IsTypedUnit, IsUnitAt}
use Rattle.typed_needs.specs.Going.{GoesOn}
use Rattle.typed_needs.specs.TypedRuns.{ComesToTyped, NamesWorkers}
use Rattle.typed_needs.specs.Waits.{AreResults}
use Rattle.typed_stmts.specs.Adding.{AddsStmt}
use Rattle.typed_tree.specs.Listed.{Listed}
use Rattle.typed_tree.specs.declared.stmt.TypedClause.{TypedClause}
use Rattle.typed_tree.specs.declared.stmt.TypedStmt.{TypedStmt}

-- ---- from state to state

-- atoms and slots come, and no unit does; and what is known of the function stays
pub record StaysIn (old new : State) : Type 0 where
  pub goes : GoesOn old new
  pub many : length new.units ≡ length old.units
  pub site : new.site ≡ old.site

-- What a state has by now is the first part of what there is at the end: also the units in the statements of its blocks, and in the clauses of its matches.
pub record IsOnTheWay (env : List AtomDef) (place : Surroundings) (s : State) : Type 0 where
  pub parts : IsSoFar env place s
  pub blocks : All (λ (b : BlockAtWork). All (IsUnitAt place) (units_of_stmts b.stmts)) s.blocks
  pub matches : All (λ (m : MatchAtWork). All (IsUnitAt place) (units_of_clauses m.clauses)) s.matches

-- what is known of variables at hand is the same, by other handles maybe
abbrev pub SameAtHand : State → State → Type 0
SameAtHand old new = (u v : UnitAtWork) → IsLast old.units u → IsLast new.units v → SameFlow u.flow v.flow

-- of variables at hand other types may be known
abbrev pub SameButNarrowed : State → State → Type 0
SameButNarrowed old new = (u v : UnitAtWork) → IsLast old.units u → IsLast new.units v → AllZip IsSameVariable u.flow.variables v.flow.variables

-- Where these actions may be done: each worker that they name is another worker of the function, and what its workers give is what the place has.
pub record CanAct (env : List AtomDef) (place : Surroundings) (actions : List Rhs) (s : State) : Type 0 where
  pub peers : All (λ r. NamesWorkers r s) actions
  pub results : AreResults env place s.site.results

-- what is known before a match, and behind its clauses, is of variables in slots of their declared types
pub record MatchIsKept (place : Surroundings) (m : MatchAtWork) : Type 0 where
  pub before : FlowIsStored place m.before
  pub ends : All (FlowIsStored place) m.ends

-- some clauses more in the match at hand; `around`: the matches around it
pub record HasMoreClauses (around : List MatchAtWork) (was : MatchAtWork) (old new : State) : Type 0 where
  pub stays : StaysIn old new
  pub found : new.found ≡ old.found
  pub blocks : new.blocks ≡ old.blocks
  pub now : MatchAtWork
  pub more : List TypedClause
  pub matches : new.matches ≡ around ++ now ∷ []
  pub clauses : now.clauses ≡ was.clauses ++ more

module _ (env : List AtomDef) (place : Surroundings) (inside : Bool) where
  -- a statement is typed, and the functions in it are typed in units of their own
  pub record IsDone (s : TypedStmt) : Type 0 where
    pub typed : IsTypedStmt env place inside s
    pub units : All (IsTypedUnit env place) (units_of_stmts (s ∷ []))

  pub record AreDone (ss : List TypedStmt) : Type 0 where
    pub typed : AreTypedStmts env place inside ss
    pub units : All (IsTypedUnit env place) (units_of_stmts ss)

  -- one statement more in the block at hand, and what is kept is kept
  pub record ComesToStmt (old new : State) : Type 0 where
    pub adds : AddsStmt IsDone [] old new
    pub kept : IsKept place new

  -- one block more
  pub record ComesToBlock (old new : State) : Type 0 where
    pub block : BlockAtWork
    pub blocks : new.blocks ≡ old.blocks ++ block ∷ []
    pub done : AreDone block.stmts
    pub kept : IsKept place new

  -- of clauses the same
  pub record AreDoneClauses (cs : List TypedClause) : Type 0 where
    pub typed : AreTypedClauses env place inside cs
    pub units : All (IsTypedUnit env place) (units_of_clauses cs)

  -- the match at hand has some clauses more, and all are done
  pub record ComesToClauses (around : List MatchAtWork) (new : State) : Type 0 where
    pub now : MatchAtWork
    pub matches : new.matches ≡ around ++ now ∷ []
    pub known : MatchIsKept place now
    pub done : AreDoneClauses now.clauses
    pub kept : IsKept place new

-- ---- readings

-- `Can`: what a state has to have so that a part may be done there, as that the workers that its actions name are others of the function
module _ (passes : List AtomDef → Asked → TypeLimit → Type 0) (names : Names) (env : List AtomDef) (place : Surroundings) (Can : State → Type 0) where
  -- what is known of the reading of a value
  pub record KnowsValue (a : Reading) : Type 0 where
    pub claim : (e : Expected) (old new : State) → Can old → IsReady e old → Run passes names env (a.needs e) old new → IsKept place old → IsSoFar env place new
        → ComesToTyped env place old new
    pub leaves : Leaves passes names env a.needs
    -- behind it the same is known of variables as before it
    pub flow : (e : Expected) (old new : State) → IsReady e old → Run passes names env (a.needs e) old new → SameAtHand old new

  -- from a state with a block at hand a statement's needs come to one done statement more
  abbrev pub StmtClaim : (Within → Listed Need) → Type 0
  StmtClaim needs =
      (w : Within) (old new : State) → Can old → HasBlock old → IsOneStmtMore old new → Run passes names env (needs w) old new → IsKept place old → IsOnTheWay env place new
      → ComesToStmt env place w.loop old new

  abbrev pub BlockClaim : (Within → Listed Need) → Type 0
  BlockClaim needs =
      (w : Within) (old new : State) → Can old → HasUnit old → IsOneBlockMore old new → Run passes names env (needs w) old new → IsKept place old → IsOnTheWay env place new
      → ComesToBlock env place w.loop old new

  -- what is known of the reading of a block
  pub record KnowsBlock (needs : Within → Listed Need) : Type 0 where
    pub claim : BlockClaim needs
    pub more : (w : Within) (old new : State) → HasUnit old → Run passes names env (needs w) old new → IsOneBlockMore old new
    pub goes : (w : Within) (old new : State) → HasUnit old → Run passes names env (needs w) old new → GoesOn old new
    -- behind it those variables are seen that were before it
    pub sees : (w : Within) (old new : State) → HasUnit old → Run passes names env (needs w) old new → SameButNarrowed old new

  -- and of a statement
  pub record KnowsStmt (needs : Within → Listed Need) : Type 0 where
    pub claim : StmtClaim needs
    pub more : (w : Within) (old new : State) → HasBlock old → Run passes names env (needs w) old new → IsOneStmtMore old new
    pub goes : (w : Within) (old new : State) → HasBlock old → Run passes names env (needs w) old new → GoesOn old new

  abbrev pub AllKnown : List StmtReading → Type 0
  AllKnown [] = ⊤
  AllKnown (s ∷ ss) = KnowsStmt s.needs × AllKnown ss

  -- and of clauses
  pub record KnowsClauses (needs : Within → Listed Need) : Type 0 where
    pub claim : (w : Within) (around : List MatchAtWork) (was : MatchAtWork) (old new : State) → Can old → HasUnit old → old.matches ≡ around ++ was ∷ []
        → Run passes names env (needs w) old new → IsKept place old → MatchIsKept place was → AreDoneClauses env place w.loop was.clauses → IsOnTheWay env place new
        → ComesToClauses env place w.loop around new
    pub more : (w : Within) (around : List MatchAtWork) (was : MatchAtWork) (old new : State) → HasUnit old → old.matches ≡ around ++ was ∷ []
        → Run passes names env (needs w) old new → HasMoreClauses around was old new

  abbrev pub AllClausesKnown : List StmtReading → Type 0
  AllClausesKnown [] = ⊤
  AllClausesKnown (c ∷ cs) = KnowsClauses c.needs × AllClausesKnown cs
