-- The words of which it is put together what it means that needs are met: small checks of a state, one behind another.
use Rattle.std.specs.Prelude.{◌≡◌, ◌⊎◌, ◌++◌, ℕ, Bool, true, false, List, [], ◌∷◌, length, Option, Some, None}
use Rattle.bal_base.specs.declared.fault.FaultCode.{FaultCode}
use Rattle.bal_base.specs.declared.fault.Kept.TheVariants.{Nothing as ShowsNothing}
use Rattle.bal_base.specs.declared.place.Place.{Place}
use Rattle.bal_base.specs.declared.shape.Shape.{Shape}
use Rattle.checks.specs.Checks.{Check, Gives, Refuses, gives, gives_some, refuses, ◌▷◌}
use Rattle.checks.specs.Questions.{below, has_some, is_below, IsFault}
use Rattle.descriptors.specs.Described.{IsPlain}
use Rattle.needs.specs.Needs.{asks, does}
use Rattle.type_model.specs.declared.answers.TypeLimit.{TypeLimit}
use Rattle.type_model.specs.declared.atoms.AtomDef.{AtomDef}
use Rattle.type_model.specs.declared.basic.SemType.{SemType}
use Rattle.type_model.specs.declared.basic.Ty.{Ty}
use Rattle.type_model.specs.Calls.{Asked}
use Rattle.type_model.specs.Membership.{In}
use Rattle.typed_tree.specs.declared.expr.TypedExpr.{TypedExpr}
use Rattle.typed_tree.specs.declared.form.StrictForm.{StrictForm}
use Rattle.typed_tree.specs.Exprs.{type_of}
use Rattle.typed_tree.specs.SharedTypes.{Shared, sem_of}
use Rattle.typed_tree.specs.Views.{IsStrict}
use Rattle.expr_needs.specs.declared.kind.Kind.{Kind}
use Rattle.check_words.specs.Kinds.{IsOfKind, IsWrittenSo, is_simple}
use Rattle.flow_narrowing.specs.declared.flow.Flow.{Flow}
use Rattle.flow_narrowing.specs.Flows.{AreSame}
use Rattle.check_words.specs.Sharing.{SameChoice, SameOption, SameShared, SameUnit, SameWays}
use Rattle.check_words.specs.State.{AreLast, CallAtWork, ChoiceAtWork, ConstructorAtWork, IsLast, State, UnitAtWork, Ways, all_but, replaced, ways_or_same}

abbrev pub Atoms : Type 0
Atoms = List AtomDef

-- a check of a state that gives nothing
abbrev pub Step : Type 1
Step = Check State (Unit {0})

abbrev pub done : Step
done = gives tt

abbrev pub fails : {A : Type 0} → FaultCode → Place → Check State A
fails code at = refuses (λ s f. IsFault code (Some at) ShowsNothing f)

abbrev pub unless : Bool → FaultCode → Place → Step
unless true code at = done
unless false code at = fails code at

-- the state becomes this
abbrev pub becomes : (State → State) → Step
becomes change = does (λ old new. new ≡ change old)

-- the same thing, which may have its types by other handles
unfoldable pub by_handles : {A : Type 0} → (A → A → Type 0) → A → Check State A
by_handles Same a old (Gives b) new = Same a b × (new ≡ old)
by_handles Same a old (Refuses f) new = ⊥

-- a question over the atoms, which changes nothing else
abbrev pub asking : {A : Type 0} → Check Atoms A → Check State A
asking question = asks (λ s. s.atoms) (λ env s. record s { atoms = env }) question

-- something of which this holds over the atoms
abbrev pub some_over : {A : Type 0} → (Atoms → A → Type 0) → Check State A
some_over P = gives_some (λ s a. P s.atoms a)

-- ---- parts

abbrev pub last_part : Check State TypedExpr
last_part = gives_some (λ s e. IsLast s.found e)

-- the last two parts, and so many
abbrev pub last_two : Check State (TypedExpr × TypedExpr)
last_two = gives_some (λ s p. AreLast s.found 2 (p.0 ∷ p.1 ∷ []))

abbrev pub last_parts : ℕ → Check State (List TypedExpr)
last_parts count = gives_some (λ s parts. AreLast s.found count parts)

abbrev pub sem : TypedExpr → SemType
sem e = sem_of (type_of e)

-- so many of the last parts go, and another one comes in their place, which says nothing of variables
abbrev pub makes : ℕ → (Atoms → List TypedExpr → TypedExpr → Type 0) → Step
makes count P = does (λ old new.
    (parts : List TypedExpr) × AreLast old.found count parts × (e : TypedExpr) × P old.atoms parts e
    × (new ≡ record old { found = all_but count old.found ++ e ∷ []; ways = None }))

-- the same where the construct evaluates them from left to right, and has a type of which this holds
abbrev pub makes_strict : ℕ → StrictForm → (Atoms → Ty → Type 0) → Place → Step
makes_strict count form P at = makes count (λ env parts e. (t : Shared) × P env t.value × IsStrict form parts t at e)

-- the same with this type
abbrev pub makes_typed : ℕ → StrictForm → Shared → Place → Step
makes_typed count form t at = makes count (λ env parts e. (u : Shared) × SameShared t u × IsStrict form parts u at e)

-- so many of the last parts are taken away
abbrev pub takes : ℕ → Check State (List TypedExpr)
takes count = last_parts count ▷ λ parts. becomes (λ s. record s { found = all_but count s.found; ways = None }) ▷ λ u. gives parts

-- there are so many parts
abbrev pub One : List TypedExpr → (TypedExpr → Type 0) → Type 0
One parts P = (a : TypedExpr) × (parts ≡ a ∷ []) × P a

abbrev pub Two : List TypedExpr → (TypedExpr → TypedExpr → Type 0) → Type 0
Two parts P = (a b : TypedExpr) × (parts ≡ a ∷ b ∷ []) × P a b

abbrev pub Three : List TypedExpr → (TypedExpr → TypedExpr → TypedExpr → Type 0) → Type 0
Three parts P = (a b c : TypedExpr) × (parts ≡ a ∷ b ∷ c ∷ []) × P a b c

-- ---- what is wanted

abbrev pub last_want : Check State (Option Shared)
last_want = gives_some (λ s w. IsLast s.wants w)

-- the type that is wanted last
abbrev pub wanted : Check State Shared
wanted = gives_some (λ s t. IsLast s.wants (Some t))

abbrev pub last_wants : ℕ → Check State (List (Option Shared))
last_wants count = gives_some (λ s ws. AreLast s.wants count ws)

abbrev pub wants : Option Shared → Step
wants w = by_handles AreSame w ▷ λ x. becomes (λ s. record s { wants = s.wants ++ x ∷ [] })

-- a type of which this holds is wanted
abbrev pub wants_some : (Atoms → Ty → Type 0) → Step
wants_some P = some_over (λ env (t : Shared). P env t.value) ▷ λ t. wants (Some t)

abbrev pub wants_no_more : ℕ → Step
wants_no_more count = becomes (λ s. record s { wants = all_but count s.wants })

-- ---- the unit at hand, and what is known there

abbrev pub unit_now : Check State UnitAtWork
unit_now = gives_some (λ s u. IsLast s.units u)

abbrev pub sets_unit : UnitAtWork → Step
sets_unit u = by_handles SameUnit u ▷ λ v. becomes (λ s. record s { units = replaced s.units v })

abbrev pub flow_now : Check State Flow
flow_now = unit_now ▷ λ u. gives u.flow

abbrev pub sets_flow : Flow → Step
sets_flow f = (unit_now ▷ λ u. sets_unit (record u { flow = f })) ▷ λ u. becomes (λ s. record s { ways = None })

abbrev pub changes_flow : (Flow → Flow) → Step
changes_flow change = flow_now ▷ λ f. sets_flow (change f)

-- a slot more, of this declared type
abbrev pub new_slot : Shared → Check State ℕ
new_slot t = unit_now ▷ λ u. sets_unit (record u { slots = u.slots ++ t ∷ [] }) ▷ λ v. gives (length u.slots)

-- where the last part holds, and where it doesn't: the same unless it is a condition
abbrev pub ways_now : Check State Ways
ways_now = flow_now ▷ λ f. gives_some (λ s w. w ≡ ways_or_same s.ways f)

abbrev pub sets_ways : Option Ways → Step
sets_ways w = by_handles (SameOption SameWays) w ▷ λ x. becomes (λ s. record s { ways = x })

-- ---- what is open

abbrev pub opens_choice : ChoiceAtWork → Step
opens_choice c = by_handles SameChoice c ▷ λ d. becomes (λ s. record s { choices = s.choices ++ d ∷ [] })

abbrev pub last_choice : Check State ChoiceAtWork
last_choice = gives_some (λ s c. IsLast s.choices c)

abbrev pub closes_choice : Check State ChoiceAtWork
closes_choice = last_choice ▷ λ c. becomes (λ s. record s { choices = all_but 1 s.choices }) ▷ λ u. gives c

abbrev pub opens_constructor : ConstructorAtWork → Step
opens_constructor c = becomes (λ s. record s { constructors = s.constructors ++ c ∷ [] })

abbrev pub last_constructor : Check State ConstructorAtWork
last_constructor = gives_some (λ s c. IsLast s.constructors c)

abbrev pub sets_constructor : ConstructorAtWork → Step
sets_constructor c = becomes (λ s. record s { constructors = replaced s.constructors c })

abbrev pub closes_constructor : Check State ConstructorAtWork
closes_constructor = last_constructor ▷ λ c. becomes (λ s. record s { constructors = all_but 1 s.constructors }) ▷ λ u. gives c

abbrev pub opens_call : CallAtWork → Step
opens_call c = becomes (λ s. record s { calls = s.calls ++ c ∷ [] })

abbrev pub last_call : Check State CallAtWork
last_call = gives_some (λ s c. IsLast s.calls c)

abbrev pub sets_call : CallAtWork → Step
sets_call c = becomes (λ s. record s { calls = replaced s.calls c })

abbrev pub closes_call : Check State CallAtWork
closes_call = last_call ▷ λ c. becomes (λ s. record s { calls = all_but 1 s.calls }) ▷ λ u. gives c

-- ---- types

-- exactly the shapes of the kind, without choices
abbrev pub OfKind : Kind → Atoms → Ty → Type 0
OfKind kind env t = IsPlain (IsOfKind kind) env t × IsWrittenSo (is_simple kind) t.sem

-- the shapes of the one or of the other; those of a type of which this holds too; and those of which it doesn't hold
abbrev pub EitherOf : SemType → (Shape → Type 0) → Atoms → Ty → Type 0
EitherOf s P env = IsPlain (λ x. In env x s ⊎ P x) env

abbrev pub PartOf : SemType → (Shape → Type 0) → Atoms → Ty → Type 0
PartOf s P env = IsPlain (λ x. In env x s × P x) env

abbrev pub UnionOf : SemType → SemType → Atoms → Ty → Type 0
UnionOf s t env = IsPlain (λ x. In env x s ⊎ In env x t) env

abbrev pub SharedOf : SemType → SemType → Atoms → Ty → Type 0
SharedOf s t env = IsPlain (λ x. In env x s × In env x t) env

-- `passes`: which questions pass a limit
module _ (passes : List AtomDef → Asked → TypeLimit → Type 0) where
  -- a type is below one of which this holds, and whether it is
  abbrev pub is_within : (Atoms → Ty → Type 0) → SemType → Place → Step
  is_within P s at = some_over P ▷ λ t. asking (below passes s t.sem (Some at))

  abbrev pub whether_within : (Atoms → Ty → Type 0) → SemType → Place → Check State Bool
  whether_within P s at = some_over P ▷ λ t. asking (is_below passes s t.sem (Some at))

  -- whether a type of which this holds has a shape
  abbrev pub whether_some : (Atoms → Ty → Type 0) → Place → Check State Bool
  whether_some P at = some_over P ▷ λ t. asking (has_some passes t.sem (Some at))

  -- the last part is of the kind
  abbrev pub is_of : Kind → Place → Step
  is_of kind at = last_part ▷ λ e. is_within (OfKind kind) (sem e) at

  abbrev pub below_if : Option Shared → TypedExpr → Place → Step
  below_if None e at = done
  below_if (Some t) e at = asking (below passes (sem e) (sem_of t) (Some at))

  abbrev pub is_wanted : Place → Step
  is_wanted at = last_want ▷ λ w. last_part ▷ λ e. below_if w e at
