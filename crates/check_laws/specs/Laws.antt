-- The law of positions: where the needs of an expression or of an action are met, there is one part more at the end of those that were
-- found, and what else was open is open as it was. So the parts that a line of the table speaks of by their order are those of its own
-- operands, and each need of it finds what it takes.
use Rattle.std.specs.Prelude.{◌≡◌, ◌≤◌, ◌<◌, ◌++◌, ℕ, List, [], ◌∷◌, length}
use Rattle.bal_tree.specs.declared.action.Rhs.{Rhs}
use Rattle.bal_tree.specs.declared.expr.Call.{Call}
use Rattle.bal_tree.specs.declared.expr.Expr.{Expr}
use Rattle.bal_tree.specs.declared.expr.Postfix.{Postfix}
use Rattle.bal_tree.specs.declared.expr.Primary.{Primary}
use Rattle.checks.specs.Checks.{Gives}
use Rattle.descriptors.specs.declared.names.Names.{Names}
use Rattle.needs.specs.Laws.{AreMet}
use Rattle.needs.specs.Needs.{all_met}
use Rattle.type_model.specs.declared.answers.TypeLimit.{TypeLimit}
use Rattle.type_model.specs.declared.atoms.AtomDef.{AtomDef}
use Rattle.type_model.specs.Calls.{Asked}
use Rattle.typed_tree.specs.declared.expr.TypedExpr.{TypedExpr}
use Rattle.typed_tree.specs.Listed.{Listed, members}
use Rattle.expr_needs.specs.ActionTable.{read_rhs}
use Rattle.expr_needs.specs.declared.expected.Expected.{Expected}
use Rattle.expr_needs.specs.declared.expected.Expected.TheVariants as expected
use Rattle.expr_needs.specs.ExprTable.{read_expr, read_postfix, read_primary, read_call}
use Rattle.expr_needs.specs.Needs.{Need}
use Rattle.check_words.specs.Meets.{meets}
use Rattle.check_words.specs.State.{State}
use Rattle.check_words.specs.Words.{Step}
use Rattle.check_laws.specs.Effects.{AddsStmt, Beyond, Effect, Moves, Never, SeesWant, effect}
use Rattle.check_laws.specs.Heights.{Heights, ◌⊕◌, with_stmt}
use Rattle.check_laws.specs.Positions.{Above, OnUnits}

-- What is wanted, what is open and what is known of the function is what it was; of the unit at hand other things may be known.
pub record IsElseSame (old new : State) : Type 0 where
  pub wants : new.wants ≡ old.wants
  pub sorts : new.sorts ≡ old.sorts
  pub accesses : new.accesses ≡ old.accesses
  pub constructors : new.constructors ≡ old.constructors
  pub calls : new.calls ≡ old.calls
  pub choices : new.choices ≡ old.choices
  pub matches : new.matches ≡ old.matches
  pub units : OnUnits old.units 0 new.units
  pub site : new.site ≡ old.site
  pub initialiser : new.initialiser ≡ old.initialiser

-- one part more
pub record IsOneMore (old new : State) : Type 0 where
  pub part : TypedExpr
  pub found : new.found ≡ old.found ++ part ∷ []
  pub blocks : new.blocks ≡ old.blocks
  pub same : IsElseSame old new

-- a type is wanted, where that counts
abbrev pub IsWantedBy : Expected → ℕ → Type 0
IsWantedBy expected.Nothing many = Unit {0}
IsWantedBy expected.Immutable many = Unit {0}
IsWantedBy expected.Wanted many = 1 ≤ many

-- there is a unit at hand
pub record IsReady (e : Expected) (s : State) : Type 0 where
  pub unit : 1 ≤ length s.units
  pub wants : IsWantedBy e (length s.wants)

-- on what was there stands what a need with this effect takes
abbrev pub Finds : Effect → State → State → Type 0
Finds Never old s = Unit {0}
Finds (Moves takes leaves) old s = (h : Heights) × Above old (h ⊕ takes) s
Finds (SeesWant leaves) old s = 1 ≤ length s.wants
Finds (AddsStmt takes) old s = (h : Heights) × Above old (h ⊕ takes) s × (takes.blocks < length s.blocks)
Finds Beyond old s = ⊥

-- the check leads from where so many stand on a state to where so many do
abbrev pub LeadsFrom : State → Step → Heights → Heights → Type 0
LeadsFrom s m h k = (old new : State) → Above s h old → m old (Gives tt) new → Above s k new

-- a check does what the effect says
abbrev pub DoesAs : State → Step → Effect → Type 0
DoesAs s m Never = (old new : State) → m old (Gives tt) new → ⊥
DoesAs s m (Moves takes leaves) = (h : Heights) → LeadsFrom s m (h ⊕ takes) (h ⊕ leaves)
DoesAs s m (SeesWant leaves) = (h : Heights) → LeadsFrom s m h (h ⊕ leaves)
DoesAs s m (AddsStmt takes) = (h : Heights) → LeadsFrom s m (h ⊕ takes) (with_stmt h)
DoesAs s m Beyond = Unit {0}

-- `passes`: which questions about types pass a limit; `names`: what the names of the package stand for
module _ (passes : List AtomDef → Asked → TypeLimit → Type 0) (names : Names) where
  -- Where they begin in a state that is ready, the needs come to this. And where all needs before one are met, this one finds on what
  -- was there at the start what it takes.
  pub record KeepsPositions (IsReadyFor : State → Type 0) (ComesTo : State → State → Type 0) (needs : Listed Need) : Type 0 where
    pub comes : (old new : State) → IsReadyFor old → all_met (meets passes names) needs old (Gives tt) new → ComesTo old new
    pub finds : (before behind : List Need) (need : Need) (old s : State) → IsReadyFor old → members needs ≡ before ++ need ∷ behind
        → AreMet (meets passes names) before old s → Finds (effect old.site.workers need) old s

  -- the law, for what stands where an expression stands
  pub record PositionsAreKept : Type 0 where
    pub expr : (x : Expr) (e : Expected) → KeepsPositions (IsReady e) IsOneMore ((read_expr x).needs e)
    pub postfix : (x : Postfix) (e : Expected) → KeepsPositions (IsReady e) IsOneMore ((read_postfix x).needs e)
    pub primary : (x : Primary) (e : Expected) → KeepsPositions (IsReady e) IsOneMore ((read_primary x).needs e)
    pub call : (x : Call) (e : Expected) → KeepsPositions (IsReady e) IsOneMore ((read_call x).needs e)
    pub rhs : (x : Rhs) (e : Expected) → KeepsPositions (IsReady e) IsOneMore ((read_rhs x).needs e)

-- each need that is met does what its effect says
abbrev pub EffectsAreKept : (List AtomDef → Asked → TypeLimit → Type 0) → Type 0
EffectsAreKept passes = (names : Names) (s : State) (need : Need) → DoesAs s (meets passes names need) (effect s.site.workers need)

abbrev pub KeptPositions : (List AtomDef → Asked → TypeLimit → Type 0) → Type 0
KeptPositions passes = (names : Names) → PositionsAreKept passes names
