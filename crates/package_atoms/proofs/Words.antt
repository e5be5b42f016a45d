-- What is kept of what was found, and the words of checks that keep it.
use Rattle.std.proofs.Common.{◌≤◌, ℕ, List, [], ◌∷◌, All, IfSome, Option, None, Some, arith, length, refl, sym, subst, ap}
use Rattle.std.specs.List.{AllZip}
use Rattle.std.proofs.lemmas.List.Elements.{All-cons, All-head, All-tail}
use Rattle.bal_base.specs.declared.place.Place.{Place}
use Rattle.checks.specs.Checks.{Check, Gives}
use Rattle.needs.specs.Needs.{does}
use Rattle.type_model.specs.declared.answers.TypeLimit.{TypeLimit}
use Rattle.type_model.specs.declared.atoms.AtomDef.{AtomDef}
use Rattle.type_model.specs.declared.basic.SemType.{SemType}
use Rattle.type_model.specs.declared.basic.Ty.{Ty}
use Rattle.type_model.specs.Calls.{Asked}
use Rattle.type_model.specs.Defined.{TyBelow}
use Rattle.typed_tree.specs.declared.expr.TypedExpr.{TypedExpr}
use Rattle.typed_tree.specs.declared.form.StrictForm.{StrictForm}
use Rattle.typed_tree.specs.declared.package.ModuleVariable.{ModuleVariable}
use Rattle.typed_tree.specs.declared.unit.Captured.{Captured}
use Rattle.typed_tree.specs.SharedTypes.{Shared}
use Rattle.expr_needs.specs.declared.kind.Kind.{Kind}
use Rattle.flow_narrowing.specs.declared.flow.Flow.{Flow}
use Rattle.flow_narrowing.specs.Flows.{IfShared}
use Rattle.check_words.specs.Sharing.{SameCaptured, SameUnit}
use Rattle.check_words.specs.Stands.{FlowBelow, PartBelow}
use Rattle.check_words.specs.State.{BlockAtWork, CallAtWork, ChoiceAtWork, ConstructorAtWork, Done, InitialiserAtWork, MatchAtWork, State, UnitAtWork, Ways}
use Rattle.check_words.specs.Words.{Atoms, below_if, changes_flow, closes_call, closes_choice, closes_constructor, flow_now, is_of, is_wanted, is_within, last_part, last_two, makes, makes_strict, makes_typed, new_slot, opens_call, opens_choice, opens_constructor, sets_call, sets_constructor, sets_flow, sets_unit, sets_ways, takes, unit_now, wants, wants_no_more, wants_some, ways_now, whether_some, whether_within}
use Rattle.check_words.proofs.Standing.{also-has, last-has, last-have, others-have}
use Rattle.isolation_check.proofs.Held.{ClauseHeld, ExprHeld, FormHeld, FunctionHeld, InitialHeld, InitialiserHeld, StmtHeld, WorkerHeld, strict-held}
use Rattle.package_atoms.proofs.Keeping.{Any, Core, Keeps, asked, becoming, behind, chosen, chosen-as, core, elsewhere, given, handled, knowing}
use Rattle.package_atoms.proofs.Questions.{below-grows, has-some-grows, is-below-grows}

-- `n`: how many atoms there are at the end
module _ (n : ℕ) where
  abbrev pub CapturedHeld : Captured → Type 0
  CapturedHeld c = TyBelow n c.ty.value

  abbrev pub UnitHeld : UnitAtWork → Type 0
  UnitHeld u = All CapturedHeld u.captured

  abbrev pub BlockHeld : BlockAtWork → Type 0
  BlockHeld b = All (StmtHeld n) b.stmts

  abbrev pub MatchHeld : MatchAtWork → Type 0
  MatchHeld m = All (ClauseHeld n) m.clauses

  abbrev pub AtWorkHeld : InitialiserAtWork → Type 0
  AtWorkHeld i = UnitHeld i.unit × All (InitialHeld n) i.values

  abbrev pub VariableHeld : ModuleVariable → Type 0
  VariableHeld v = TyBelow n v.ty.value

  -- functions, workers, variables and initialisers
  abbrev pub DoneHeld : Done → Type 0
  DoneHeld d = All (FunctionHeld n) d.functions × All (WorkerHeld n) d.workers × All VariableHeld d.variables × All (InitialiserHeld n) d.initialisers

  -- parts, blocks, matches, units, the initialiser, and what is done
  unfoldable pub Held : Core → Type 0
  Held k =
      All (ExprHeld n) k.found × All BlockHeld k.blocks × All MatchHeld k.matches × All UnitHeld k.units × IfSome k.initialiser AtWorkHeld × DoneHeld k.done

  -- the types that are at hand
  pub record AtHand (k : Core) : Type 0 where
    pub found : All (PartBelow n) k.found
    pub wants : All (IfShared (TyBelow n)) k.wants
    pub flows : All (λ u. FlowBelow n u.flow) k.units

  -- both
  abbrev pub Standing : Core → Type 0
  Standing k = Held k × AtHand k

  pub standing-held : (k : Core) → Standing k → Held k
  standing-held k h = h.0

  captured-same : (cs ds : List Captured) → AllZip SameCaptured cs ds → All CapturedHeld cs → All CapturedHeld ds
  captured-same [] [] s h = h
  captured-same (c ∷ cs) (d ∷ ds) s h =
      All-cons CapturedHeld d ds (subst (TyBelow n) (sym s.0.ty) (All-head CapturedHeld c cs h)) (captured-same cs ds s.1 (All-tail CapturedHeld c cs h))
  captured-same [] (d ∷ ds) s h = absurd s
  captured-same (c ∷ cs) [] s h = absurd s

  pub unit-same : (u v : UnitAtWork) → SameUnit u v → UnitHeld u → UnitHeld v
  unit-same u v s h = captured-same u.captured v.captured s.captured h

  pub both-held : (a b : TypedExpr) → All (ExprHeld n) (a ∷ b ∷ []) → ExprHeld n a × ExprHeld n b
  both-held a b h = (All-head (ExprHeld n) a (b ∷ []) h, All-head (ExprHeld n) b [] (All-tail (ExprHeld n) a (b ∷ []) h))

-- what holds is kept, where this is so
abbrev pub Stays : {A : Type 0} → ℕ → Type 0 → Check State A → Type 0
Stays n so m = Keeps (Held n) so m Any (Held n)

-- ---- parts

module _ (n : ℕ) where
  pub last-held : (so : Type 0) → Keeps (Held n) so last_part (ExprHeld n) (Held n)
  unfolding Held
  last-held so = chosen-as (Held n) _ _ (ExprHeld n) (λ old e l c h. last-has (ExprHeld n) old.found e l h.0)

  pub two-held : (so : Type 0) → Keeps (Held n) so last_two (λ p. ExprHeld n p.0 × ExprHeld n p.1) (Held n)
  unfolding Held
  two-held so = chosen-as (Held n) _ _ (λ p. ExprHeld n p.0 × ExprHeld n p.1) (λ old p l c h. both-held n p.0 p.1 (last-have (ExprHeld n) 2 old.found (p.0 ∷ p.1 ∷ []) l h.0))

  pub taken : (so : Type 0) (count : ℕ) → Keeps (Held n) so (takes count) (All (ExprHeld n)) (Held n)
  unfolding Held
  taken so count =
      knowing (chosen-as (Held n) _ _ (All (ExprHeld n)) (λ old parts l c h. last-have (ExprHeld n) count old.found parts l h.0)) (λ parts.
      behind (becoming (Held n) _ (Held n) _ (λ old. refl) (λ old c h. (others-have (ExprHeld n) count old.found h.0, h.1, h.2, h.3, h.4, h.5)))
      (λ u. given _ _ parts (All (ExprHeld n)) (λ c. c.1)))

  made-run : (so : Type 0) (count : ℕ) (P : Atoms → List TypedExpr → TypedExpr → Type 0)
      → ((env : Atoms) (parts : List TypedExpr) (e : TypedExpr) → P env parts e → so → All (ExprHeld n) parts → ExprHeld n e)
      → (old new : State) (u : Unit {0}) → makes count P old (Gives u) new
      → (length old.atoms ≤ length new.atoms) × (so → Held n (core old) → Held n (core new) × Unit {0})
  unfolding does Held
  made-run so count P f old new u (parts, last, e, x, is) = (
    omega (arith, ap (λ (s : State). length s.atoms) is),
    λ c h. (
      subst (Held n) (sym (ap core is)) (
        also-has (ExprHeld n) _ e (others-have (ExprHeld n) count old.found h.0)
            (f old.atoms parts e x c (last-have (ExprHeld n) count old.found parts last h.0)),
        h.1,
        h.2,
        h.3,
        h.4,
        h.5,
      ),
      tt,
    ),
  )

  pub made : (so : Type 0) (count : ℕ) (P : Atoms → List TypedExpr → TypedExpr → Type 0)
      → ((env : Atoms) (parts : List TypedExpr) (e : TypedExpr) → P env parts e → so → All (ExprHeld n) parts → ExprHeld n e)
      → Keeps (Held n) so (makes count P) Any (Held n)
  made so count P f = record { run = made-run so count P f }

  pub made-strict : (so : Type 0) (count : ℕ) (form : StrictForm) (P : Atoms → Ty → Type 0) (at : Place)
      → ((es : List TypedExpr) → FormHeld n form es at) → Keeps (Held n) so (makes_strict count form P at) Any (Held n)
  made-strict so count form P at q = made _ _ _ (λ env parts e x c all. strict-held n form parts x.0 at e x.2 (q parts) all)

  pub made-typed : (so : Type 0) (count : ℕ) (form : StrictForm) (t : Shared) (at : Place)
      → ((es : List TypedExpr) → FormHeld n form es at) → Keeps (Held n) so (makes_typed count form t at) Any (Held n)
  made-typed so count form t at q = made _ _ _ (λ env parts e x c all. strict-held n form parts x.0 at e x.2 (q parts) all)

  -- ---- what is wanted

  pub wanting : (so : Type 0) (w : Option Shared) → Keeps (Held n) so (wants w) Any (Held n)
  unfolding Held
  wanting so w = behind (handled _ _ _ _ Any (λ x s c. tt)) (λ x. becoming (Held n) _ (Held n) _ (λ old. refl) (λ old c h. h))

  pub wanting-some : (so : Type 0) (P : Atoms → Ty → Type 0) → Keeps (Held n) so (wants_some P) Any (Held n)
  wanting-some so P = behind (chosen _ _ _) (λ t. wanting _ (Some t))

  pub no-more : (so : Type 0) (count : ℕ) → Keeps (Held n) so (wants_no_more count) Any (Held n)
  unfolding Held
  no-more so count = becoming (Held n) _ (Held n) _ (λ old. refl) (λ old c h. h)

  -- ---- units

  pub unit-held : (so : Type 0) → Keeps (Held n) so unit_now (UnitHeld n) (Held n)
  unfolding Held
  unit-held so = chosen-as (Held n) _ _ (UnitHeld n) (λ old u l c h. last-has (UnitHeld n) old.units u l h.3)

  pub unit-set : (so : Type 0) (u : UnitAtWork) → (so → UnitHeld n u) → Keeps (Held n) so (sets_unit u) Any (Held n)
  unfolding Held
  unit-set so u f =
      knowing (handled _ _ _ _ (UnitHeld n) (λ v s c. unit-same n u v s (f c))) (λ v.
      becoming (Held n) _ (Held n) _ (λ old. refl) (λ old c h. (h.0, h.1, h.2, also-has (UnitHeld n) _ v (others-have (UnitHeld n) 1 old.units h.3) c.1, h.4, h.5)))

  pub flow-set : (so : Type 0) (f : Flow) → Keeps (Held n) so (sets_flow f) Any (Held n)
  flow-set so f = behind (knowing (unit-held _) (λ u. unit-set _ (record u { flow = f }) (λ c. c.1))) (λ u. elsewhere _ _ _ (λ old. refl) (λ old. refl))

  pub flow-changed : (so : Type 0) (change : Flow → Flow) → Keeps (Held n) so (changes_flow change) Any (Held n)
  flow-changed so change = behind (behind (chosen _ _ _) (λ u. chosen _ _ _)) (λ f. flow-set _ (change f))

  pub slot-added : (so : Type 0) (t : Shared) → Keeps (Held n) so (new_slot t) Any (Held n)
  slot-added so t = knowing (unit-held _) (λ u. behind (unit-set _ _ (λ c. c.1)) (λ v. chosen _ _ _))

-- ---- words that change nothing of account

module _ (I : Core → Type 0) (so : Type 0) where
  pub flow-seen : Keeps I so flow_now Any I
  flow-seen = behind (chosen _ _ _) (λ u. chosen _ _ _)

  pub ways-seen : Keeps I so ways_now Any I
  ways-seen = behind flow-seen (λ f. chosen _ _ _)

  pub ways-set : (w : Option Ways) → Keeps I so (sets_ways w) Any I
  ways-set w = behind (handled _ _ _ _ Any (λ x s c. tt)) (λ x. elsewhere _ _ _ (λ old. refl) (λ old. refl))

  pub choice-opened : (c : ChoiceAtWork) → Keeps I so (opens_choice c) Any I
  choice-opened c = behind (handled _ _ _ _ Any (λ x s c. tt)) (λ x. elsewhere _ _ _ (λ old. refl) (λ old. refl))

  pub choice-closed : Keeps I so closes_choice Any I
  choice-closed = behind (chosen _ _ _) (λ c. behind (elsewhere _ _ _ (λ old. refl) (λ old. refl)) (λ u. chosen _ _ _))

  pub constructor-opened : (c : ConstructorAtWork) → Keeps I so (opens_constructor c) Any I
  constructor-opened c = elsewhere _ _ _ (λ old. refl) (λ old. refl)

  pub constructor-set : (c : ConstructorAtWork) → Keeps I so (sets_constructor c) Any I
  constructor-set c = elsewhere _ _ _ (λ old. refl) (λ old. refl)

  pub constructor-closed : Keeps I so closes_constructor Any I
  constructor-closed = behind (chosen _ _ _) (λ c. behind (elsewhere _ _ _ (λ old. refl) (λ old. refl)) (λ u. chosen _ _ _))

  pub call-opened : (c : CallAtWork) → Keeps I so (opens_call c) Any I
  call-opened c = elsewhere _ _ _ (λ old. refl) (λ old. refl)

  pub call-set : (c : CallAtWork) → Keeps I so (sets_call c) Any I
  call-set c = elsewhere _ _ _ (λ old. refl) (λ old. refl)

  pub call-closed : Keeps I so closes_call Any I
  call-closed = behind (chosen _ _ _) (λ c. behind (elsewhere _ _ _ (λ old. refl) (λ old. refl)) (λ u. chosen _ _ _))

  -- ---- questions

  pub is-within : (P : Atoms → Ty → Type 0) (s : SemType) (at : Place) (passes : List AtomDef → Asked → TypeLimit → Type 0) → Keeps I so (is_within passes P s at) Any I
  is-within P s at passes = behind (chosen _ _ _) (λ t. asked _ _ _ (below-grows _ _ _ _))

  pub whether-within : (P : Atoms → Ty → Type 0) (s : SemType) (at : Place) (passes : List AtomDef → Asked → TypeLimit → Type 0) → Keeps I so (whether_within passes P s at) Any I
  whether-within P s at passes = behind (chosen _ _ _) (λ t. asked _ _ _ (is-below-grows _ _ _ _))

  pub whether-some : (P : Atoms → Ty → Type 0) (at : Place) (passes : List AtomDef → Asked → TypeLimit → Type 0) → Keeps I so (whether_some passes P at) Any I
  whether-some P at passes = behind (chosen _ _ _) (λ t. asked _ _ _ (has-some-grows _ _ _))

  pub is-of : (kind : Kind) (at : Place) (passes : List AtomDef → Asked → TypeLimit → Type 0) → Keeps I so (is_of passes kind at) Any I
  is-of kind at passes = behind (chosen _ _ _) (λ e. is-within _ _ _ passes)

  pub below-if : (e : TypedExpr) (at : Place) (passes : List AtomDef → Asked → TypeLimit → Type 0) (w : Option Shared) → Keeps I so (below_if passes w e at) Any I
  below-if e at passes None = chosen _ _ _
  below-if e at passes (Some t) = asked _ _ _ (below-grows _ _ _ _)

  pub is-wanted : (at : Place) (passes : List AtomDef → Asked → TypeLimit → Type 0) → Keeps I so (is_wanted passes at) Any I
  is-wanted at passes = behind (chosen _ _ _) (λ w. behind (chosen _ _ _) (λ e. below-if _ _ passes w))
