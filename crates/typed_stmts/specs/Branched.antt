-- Blocks, branches, loops and matches, as typed statements.
use Rattle.std.specs.Prelude.{Bool, List, Option, Some, [], true, ◌++◌, ◌∷◌, ◌≡◌}
use Rattle.bal_base.specs.Valid.{IsValid}
use Rattle.bal_base.specs.declared.place.Place.{Place}
use Rattle.bal_base.specs.declared.shape.Shape.{Shape}
use Rattle.bal_base.specs.declared.text.Name.{Name}
use Rattle.bal_tree.specs.declared.name.QualifiedName.{QualifiedName}
use Rattle.bal_tree.specs.declared.stmt.RangeOp.{RangeOp}
use Rattle.check_words.specs.State.{AreLast, BlockAtWork, IsLast, MatchAtWork, State, UnitAtWork, all_but, replaced}
use Rattle.descriptors.specs.declared.names.Names.{Names}
use Rattle.expr_needs.specs.Needs.{BeginsBlock, BeginsMatch, EndsClause, HasItem, IsCounter, IsItemOfLoop, MakesBlock, MakesForeach, MakesIf, MakesMatch, MakesRange, MakesWhile, WantsCounter, WidensItem}
use Rattle.expr_needs.specs.declared.kind.Kind.TheVariants as kind
use Rattle.flow_narrowing.specs.declared.flow.Variable.{Variable}
use Rattle.operations.specs.Kinds.{IsBoolean, IsInteger}
use Rattle.operations.specs.Rows.{Surroundings}
use Rattle.tree_promises.specs.Made.{Booleans, sem}
use Rattle.tree_promises.specs.MadeStmts.{AreTypedClauses}
use Rattle.tree_promises.specs.Types.{IsTypedExpr}
use Rattle.type_model.specs.Calls.{Asked}
use Rattle.type_model.specs.Inclusion.{HasExactly}
use Rattle.type_model.specs.Membership.{In}
use Rattle.type_model.specs.Parts.{StandsAt}
use Rattle.type_model.specs.declared.answers.Keys.TheVariants.{AnyIndex}
use Rattle.type_model.specs.declared.answers.TypeLimit.{TypeLimit}
use Rattle.type_model.specs.declared.atoms.AtomDef.{AtomDef}
use Rattle.type_model.specs.declared.basic.SemType.{SemType}
use Rattle.typed_needs.specs.Asked.{IsOfIt}
use Rattle.typed_needs.specs.Pieces.{IsBefore, IsMet}
use Rattle.typed_needs.specs.Placing.{IsPlaced, IsStored}
use Rattle.typed_stmts.specs.Adding.{AddsTyped, IsTypedBlock}
use Rattle.typed_tree.specs.SharedTypes.{Shared, sem_of}
use Rattle.typed_tree.specs.declared.expr.TypedExpr.{TypedExpr}

module _ (passes : List AtomDef → Asked → TypeLimit → Type 0) (names : Names) (env : List AtomDef) (place : Surroundings) where
  -- no statement stands in it yet
  abbrev pub BlockBegins : Type 0
  BlockBegins =
      (old new : State) → IsMet passes names env BeginsBlock old new
      → (b : BlockAtWork) × (new.blocks ≡ old.blocks ++ b ∷ []) × (b.stmts ≡ [])

  -- ---- what loops go through

  -- all members of the list are of the type
  abbrev pub HasItems : TypedExpr → SemType → Type 0
  HasItems list t = (x : Shape) → IsValid x → StandsAt env (sem list) AnyIndex x → In env x t

  abbrev pub HasInts : SemType → Type 0
  HasInts t = (x : Shape) → IsValid x → IsInteger x → In env x t

  abbrev pub ItemFits : Type 0
  ItemFits =
      (at : Place) (old new : State) (list : TypedExpr) (t : Shared) → IsBefore env old → IsMet passes names env (IsItemOfLoop at) old new → IsLast old.found list
      → IsLast old.wants (Some t) → HasItems list (sem_of t) × (new ≡ old)

  abbrev pub ItemIsWanted : Type 0
  ItemIsWanted =
      (at : Place) (old new : State) (list : TypedExpr) → IsBefore env old → IsBefore env new → IsMet passes names env (WidensItem at) old new → IsLast old.found list
      → (w : Shared) × (new ≡ record old { wants = old.wants ++ Some w ∷ [] }) × HasItems list (sem_of w)

  abbrev pub CounterFits : Type 0
  CounterFits =
      (at : Place) (old new : State) (t : Shared) → IsBefore env old → IsMet passes names env (IsCounter at) old new → IsLast old.wants (Some t)
      → HasInts (sem_of t) × (new ≡ old)

  abbrev pub CounterIsWanted : Type 0
  CounterIsWanted =
      (old new : State) → IsBefore env new → IsMet passes names env WantsCounter old new
      → (w : Shared) × (new ≡ record old { wants = old.wants ++ Some w ∷ [] }) × HasInts (sem_of w)

  -- the last variable that is seen, which is that of the loop behind its body
  abbrev pub SeesLast : State → Variable → Type 0
  SeesLast s v = (u : UnitAtWork) × IsLast s.units u × IsLast u.flow.variables v

  abbrev pub ItemIsDeclared : Type 0
  ItemIsDeclared =
      (name : Name) (assigned : Bool) (old new : State) (t : Shared) → IsMet passes names env (HasItem name assigned) old new → IsLast old.wants (Some t)
      → IsPlaced place new → (v : Variable) × SeesLast new v × IsStored place v × (v.declared.value ≡ t.value)

  module _ (inside : Bool) where
    abbrev pub BlockIsTyped : Type 0
    BlockIsTyped =
        (at : Place) (old new : State) (b : BlockAtWork) → IsMet passes names env (MakesBlock at) old new → IsLast old.blocks b → IsTypedBlock env place inside b
        → AddsTyped env place inside (b ∷ []) old new

    abbrev pub BranchIsTyped : Type 0
    BranchIsTyped =
        (at : Place) (old new : State) (c : TypedExpr) (a b : BlockAtWork) → IsMet passes names env (MakesIf at) old new → IsLast old.found c → IsTypedExpr env place c
        → Booleans env (sem c) → AreLast old.blocks 2 (a ∷ b ∷ []) → IsTypedBlock env place inside a → IsTypedBlock env place inside b
        → AddsTyped env place inside (a ∷ b ∷ []) old new

    abbrev pub LoopIsTyped : Type 0
    LoopIsTyped =
        (leaves : Bool) (at : Place) (old new : State) (c : TypedExpr) (b : BlockAtWork) → IsMet passes names env (MakesWhile leaves at) old new → IsLast old.found c
        → IsTypedExpr env place c → Booleans env (sem c) → IsLast old.blocks b → IsTypedBlock env place true b → AddsTyped env place inside (b ∷ []) old new

    -- `truth`: a type of the booleans
    abbrev pub WalkIsTyped : Type 0
    WalkIsTyped =
        (at : Place) (old new : State) (list : TypedExpr) (b : BlockAtWork) (v : Variable) (truth : SemType) → IsBefore env new → HasExactly env truth IsBoolean
        → IsMet passes names env (MakesForeach at) old new → IsLast old.found list → IsTypedExpr env place list → IsOfIt passes names env kind.AnyList list
        → SeesLast old v → IsStored place v → HasItems list (sem_of v.declared) → IsLast old.blocks b → IsTypedBlock env place true b → IsPlaced place new
        → AddsTyped env place inside (b ∷ []) old new

    abbrev pub CountIsTyped : Type 0
    CountIsTyped =
        (op : RangeOp) (at : Place) (old new : State) (from to : TypedExpr) (b : BlockAtWork) (v : Variable) → IsBefore env new
        → IsMet passes names env (MakesRange op at) old new → AreLast old.found 2 (from ∷ to ∷ []) → IsTypedExpr env place from → IsTypedExpr env place to
        → IsOfIt passes names env kind.Integer from → IsOfIt passes names env kind.Integer to → SeesLast old v → IsStored place v → HasInts (sem_of v.declared)
        → IsLast old.blocks b → IsTypedBlock env place true b → IsPlaced place new → AddsTyped env place inside (b ∷ []) old new

    -- ---- matches

    abbrev pub MatchBegins : Type 0
    MatchBegins =
        (name : Option QualifiedName) (at : Place) (old new : State) → IsMet passes names env (BeginsMatch name at) old new
        → (m : MatchAtWork) × (new.matches ≡ old.matches ++ m ∷ []) × (m.clauses ≡ [])

    -- a clause more
    abbrev pub ClauseIsTyped : Type 0
    ClauseIsTyped =
        (at : Place) (old new : State) (m : MatchAtWork) (b : BlockAtWork) → IsMet passes names env (EndsClause at) old new → IsLast old.matches m → IsLast old.blocks b
        → AreTypedClauses env place inside m.clauses → IsTypedBlock env place inside b
        → (n : MatchAtWork) × (new.matches ≡ replaced old.matches n) × (new.blocks ≡ all_but 1 old.blocks) × AreTypedClauses env place inside n.clauses

    abbrev pub MatchIsTyped : Type 0
    MatchIsTyped =
        (any : Bool) (at : Place) (old new : State) (e : TypedExpr) (m : MatchAtWork) (truth : SemType) → HasExactly env truth IsBoolean
        → IsMet passes names env (MakesMatch any at) old new → IsLast old.found e → IsTypedExpr env place e → IsLast old.matches m
        → AreTypedClauses env place inside m.clauses → IsPlaced place new → AddsTyped env place inside [] old new

    pub record BranchesAreTyped : Type 0 where
      pub begins : BlockBegins
      pub blocks : BlockIsTyped
      pub branches : BranchIsTyped
      pub loops : LoopIsTyped
      pub items : ItemFits
      pub items_wanted : ItemIsWanted
      pub counters : CounterFits
      pub counters_wanted : CounterIsWanted
      pub declared : ItemIsDeclared
      pub walks : WalkIsTyped
      pub counts : CountIsTyped
      pub match_begins : MatchBegins
      pub clauses : ClauseIsTyped
      pub matches : MatchIsTyped

abbrev pub AllBranchesAreTyped : (List AtomDef → Asked → TypeLimit → Type 0) → Type 0
AllBranchesAreTyped passes = (names : Names) (env : List AtomDef) (place : Surroundings) (inside : Bool) → BranchesAreTyped passes names env place inside
