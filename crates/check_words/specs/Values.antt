-- What it means that the needs of names, literals, operators and conditions are met (Ballerina specification, section 6).
use Rattle.std.specs.Prelude.{◌≡◌, ◌⊎◌, ◌↔◌, ◌&&◌, ◌++◌, ℕ, Bool, true, false, not, List, [], ◌∷◌, Option, Some, None, is_some}
use Rattle.bal_base.specs.declared.fault.FaultCode.TheVariants.{Captured, NameAsValue, Unknown}
use Rattle.bal_base.specs.declared.place.Place.{Place}
use Rattle.bal_base.specs.declared.text.Name.{Name}
use Rattle.bal_base.specs.declared.shape.Shape.{Shape}
use Rattle.bal_tree.specs.declared.name.Literal.{Literal}
use Rattle.bal_tree.specs.declared.name.Literal.TheVariants as literal
use Rattle.bal_tree.specs.declared.name.QualifiedName.{QualifiedName}
use Rattle.bal_tree.specs.declared.types.TypeTree.{TypeTree}
use Rattle.checks.specs.Checks.{Check, either, gives, gives_some, ◌▷◌}
use Rattle.checks.specs.Questions.{below}
use Rattle.descriptors.specs.declared.names.Meaning.{Meaning}
use Rattle.descriptors.specs.declared.names.Meaning.TheVariants as meaning
use Rattle.descriptors.specs.declared.names.Names.{Names}
use Rattle.descriptors.specs.Described.{IsCopy, IsPlain, described_whole, plain}
use Rattle.descriptors.specs.Descriptors.{descriptor_of}
use Rattle.operations.specs.declared.operation.Constant.{Constant}
use Rattle.operations.specs.declared.operation.Constant.TheVariants as constant
use Rattle.operations.specs.Kinds.{IsError, IsNil}
use Rattle.operations.specs.Rows.{shape_of}
use Rattle.tree_places.specs.ExprPlaces.{place_of_literal}
use Rattle.type_model.specs.declared.answers.TypeLimit.{TypeLimit}
use Rattle.type_model.specs.declared.atoms.AtomDef.{AtomDef}
use Rattle.type_model.specs.declared.basic.SemType.{SemType, Atom}
use Rattle.type_model.specs.declared.basic.Ty.{Ty}
use Rattle.type_model.specs.Calls.{Asked}
use Rattle.type_model.specs.Membership.{In}
use Rattle.typed_tree.specs.declared.form.Operator.{Operator}
use Rattle.typed_tree.specs.declared.form.Operator.TheVariants as operator
use Rattle.typed_tree.specs.declared.form.StrictForm.TheVariants as form
use Rattle.typed_tree.specs.Exprs.{type_of}
use Rattle.typed_tree.specs.SharedTypes.{Shared, sem_of}
use Rattle.typed_tree.specs.Views.{IsAnd, IsCheck, IsConditional, IsElvis, IsLocal, IsOr, IsParens, IsStrict, IsTrap}
use Rattle.expr_needs.specs.declared.kind.Kind.{Kind}
use Rattle.expr_needs.specs.declared.kind.Kind.TheVariants as kind
use Rattle.check_words.specs.Joins.{narrows_to, joins_two}
use Rattle.check_words.specs.Seen.{Seen, SeenVariable, SeenWorker, SeenConstant, SeenLibrary, SeenMeaning, SeenNothing, looks_up, variable_named}
use Rattle.flow_narrowing.specs.declared.flow.Flow.{Flow}
use Rattle.flow_narrowing.specs.declared.flow.Variable.{Variable}
use Rattle.check_words.specs.Sharing.{SameShared}
use Rattle.check_words.specs.State.{IsLast, State, Ways, all_but, shared_now, with_type}
use Rattle.check_words.specs.Words.{Atoms, EitherOf, OfKind, One, PartOf, SharedOf, Step, Three, Two, UnionOf, asking, becomes, closes_choice, done, fails, flow_now, is_of, is_within, last_part, last_two, makes, makes_strict, new_slot, opens_choice, sem, sets_flow, sets_ways, some_over, unit_now, unless, wanted, wants, wants_no_more, wants_some, ways_now, whether_within}

-- ---- literals

abbrev pub constant_of : Literal → Constant
constant_of (literal.Int value at) = constant.Int value
constant_of (literal.Str text at) = constant.Str text
constant_of (literal.True at) = constant.Bool true
constant_of (literal.False at) = constant.Bool false
constant_of (literal.Nil at) = constant.Nil

-- the type has this value alone
abbrev pub SingleOf : Constant → Atoms → Ty → Type 0
SingleOf c env = IsPlain (λ x. x ≡ shape_of c) env

abbrev pub gives_literal : Literal → Step
gives_literal l = makes_strict 0 (form.Literal (constant_of l)) (SingleOf (constant_of l)) (place_of_literal l)

-- ---- names

-- a captured variable may be used unless it is assigned behind its declaration
abbrev pub uses : Variable → Place → Step
uses v at = unless (not (v.captured && v.assigned)) Captured at

abbrev pub gives_variable : Variable → Place → Step
gives_variable v at = uses v at ▷ λ u. makes 0 (λ env parts e. (t : Shared) × SameShared (shared_now v) t × IsLocal v.slot (is_some v.narrowed) t at e)

abbrev pub gives_constant : Constant → Place → Step
gives_constant c at = makes_strict 0 (form.Constant c) (SingleOf c) at

-- the constant whose type is this one: its value is in the type, and nothing else is
abbrev pub constant_in : Ty → Check State Constant
constant_in t = some_over (λ env c. (x : Shape) → In env x t.sem ↔ (x ≡ shape_of c))

abbrev pub gives_meaning : Meaning → Place → Step
gives_meaning (meaning.TypeName t) at = fails Unknown at
gives_meaning (meaning.Constant t) at = constant_in t ▷ λ c. makes_strict 0 (form.Constant c) (λ env. IsCopy t) at
gives_meaning (meaning.Variable number final t) at = makes_strict 0 (form.Variable number) (λ env. IsCopy t) at
gives_meaning (meaning.Function f) at = makes_strict 0 (form.FunctionName f.unit) (λ env t. t ≡ plain (Atom f.arrow)) at

abbrev pub gives_seen : Seen → Place → Step
gives_seen (SeenVariable v) at = gives_variable v at
gives_seen (SeenWorker w) at = fails NameAsValue at
gives_seen (SeenConstant c) at = gives_constant c at
gives_seen (SeenLibrary call) at = fails Unknown at
gives_seen (SeenMeaning m) at = gives_meaning m at
gives_seen (SeenNothing code) at = fails code at

-- ---- operators

abbrev pub forms : Operator → ℕ → Kind → Place → Step
forms op count kind at = makes_strict count (form.Operator op) (OfKind kind) at

-- the kind that an operator works on: ints, or strings
abbrev pub sort_kind : Bool → Kind
sort_kind true = kind.Integer
sort_kind false = kind.Text

abbrev pub last_sort : Check State Bool
last_sort = gives_some (λ s ints. IsLast s.sorts ints)

abbrev pub sorts : Bool → Step
sorts ints = becomes (λ s. record s { sorts = s.sorts ++ ints ∷ [] })

abbrev pub takes_sort : Check State Bool
takes_sort = last_sort ▷ λ ints. becomes (λ s. record s { sorts = all_but 1 s.sorts }) ▷ λ u. gives ints

abbrev pub operator_of : Bool → Operator
operator_of true = operator.Add
operator_of false = operator.Concat

abbrev pub adds_up : Place → Step
adds_up at = takes_sort ▷ λ ints. forms (operator_of ints) 2 (sort_kind ints) at

abbrev pub compares : Operator → Place → Step
compares op at = takes_sort ▷ λ ints. forms op 2 kind.Truth at

-- ---- conditions

abbrev pub way_of : Bool → Ways → Flow
way_of true w = w.yes
way_of false w = w.no

-- One way of the last part is entered. What stands behind the whole construct has the flow before it.
abbrev pub splits : Bool → Step
splits way =
    flow_now ▷ λ f. ways_now ▷ λ w.
    opens_choice (record { before = f; other = way_of (not way) w; first = f }) ▷ λ u. sets_flow (way_of way w)

-- the other way is entered
abbrev pub switches : Step
switches =
    flow_now ▷ λ f. closes_choice ▷ λ c. opens_choice (record c { first = f }) ▷ λ u. sets_flow c.other

abbrev pub turns : Place → Step
turns at =
    ways_now ▷ λ w. forms operator.Not 1 kind.Truth at ▷ λ u. sets_ways (Some (record { yes = w.no; no = w.yes }))

-- a && b: where both hold, and where the first doesn't or the first does and the second doesn't
abbrev pub conjoins : Place → Step
conjoins at =
    ways_now ▷ λ w. closes_choice ▷ λ c. joins_two c.other w.no ▷ λ no. sets_flow c.before ▷ λ u.
    makes 2 (λ env parts e. Two parts (λ a b. (t : Shared) × OfKind kind.Truth env t.value × IsAnd a b t at e)) ▷ λ v.
    sets_ways (Some (record { yes = w.yes; no = no }))

-- a || b: where the first holds or doesn't and the second does, and where neither holds
abbrev pub disjoins : Place → Step
disjoins at =
    ways_now ▷ λ w. closes_choice ▷ λ c. joins_two c.other w.yes ▷ λ yes. sets_flow c.before ▷ λ u.
    makes 2 (λ env parts e. Two parts (λ a b. (t : Shared) × OfKind kind.Truth env t.value × IsOr a b t at e)) ▷ λ v.
    sets_ways (Some (record { yes = yes; no = w.no }))

abbrev pub chooses : Place → Step
chooses at =
    closes_choice ▷ λ c. sets_flow c.before ▷ λ u.
    makes 3 (λ env parts e. Three parts (λ c a b. (t : Shared) × UnionOf (sem a) (sem b) env t.value × IsConditional c a b t at e))

-- a ?: b keeps the value of a
abbrev pub fills_nil : Place → Step
fills_nil at =
    last_two ▷ λ p. new_slot (type_of p.0) ▷ λ own.
    makes 2 (λ env parts e. Two parts (λ a b. (t : Shared)
    × IsPlain (λ x. (In env x (sem a) × ¬ IsNil x) ⊎ In env x (sem b)) env t.value × IsElvis own a b t at e))

-- parentheses change nothing
abbrev pub encloses : Place → Step
encloses at =
    gives_some (λ s w. w ≡ s.ways) ▷ λ w.
    makes 1 (λ env parts e. One parts (λ a. (t : Shared) × SameShared (type_of a) t × IsParens a t at e)) ▷ λ u. sets_ways w

-- ---- errors

abbrev pub checked : Bool → Place → Step
checked panics at =
    last_part ▷ λ a. new_slot (type_of a) ▷ λ own.
    makes 1 (λ env parts e. One parts (λ b. (t : Shared) × PartOf (sem b) (λ x. ¬ IsError x) env t.value × IsCheck panics own b t at e))

abbrev pub traps : Place → Step
traps at = makes 1 (λ env parts e. One parts (λ a. (t : Shared) × EitherOf (sem a) IsError env t.value × IsTrap a t at e))

-- ---- what is wanted

abbrev pub drops_want : Step
drops_want = wants_no_more 1

-- this or an error is wanted, where something is
abbrev pub wants_beside_error : Option Shared → Step
wants_beside_error None = wants None
wants_beside_error (Some t) = wants_some (EitherOf (sem_of t) IsError)

abbrev pub wants_error_too : Step
wants_error_too = gives_some (λ s w. IsLast s.wants w) ▷ λ w. wants_beside_error w

abbrev pub wants_result : Step
wants_result = unit_now ▷ λ u. wants (Some u.result)

abbrev pub casts : Place → Step
casts at =
    wanted ▷ λ t. drops_want ▷ λ u.
    makes 1 (λ env parts e. One parts (λ a. (r : Shared) × SharedOf (sem a) (sem_of t) env r.value × IsStrict (form.Cast t) parts r at e))

-- `passes`: which questions pass a limit
module _ (passes : List AtomDef → Asked → TypeLimit → Type 0) where
  -- int where the last part is below it, and else string, which it then has to be below
  abbrev pub decided : Bool → SemType → Place → Step
  decided true e at = done
  decided false e at = is_within passes (OfKind kind.Text) e at

  abbrev pub decides : Place → Step
  decides at =
      last_part ▷ λ e. whether_within passes (OfKind kind.Integer) (sem e) at ▷ λ ints.
      decided ints (sem e) at ▷ λ u. sorts ints

  abbrev pub is_of_sort : Place → Step
  is_of_sort at = last_sort ▷ λ ints. is_of passes (sort_kind ints) at

  -- ---- tests

  -- the variable has one type where the test holds, and another where it doesn't
  abbrev pub narrowed_by : Name → Variable → Shared → Place → Check State (Option Ways)
  narrowed_by name v t at =
      flow_now ▷ λ f. narrows_to passes (shared_now v) t at ▷ λ types.
      gives (Some (record { yes = with_type name (Some types.0) f; no = with_type name (Some types.1) f }))

  abbrev pub ways_if : QualifiedName → Option Variable → Shared → Place → Check State (Option Ways)
  ways_if q None t at = gives None
  ways_if q (Some v) t at = narrowed_by q.word.name v t at

  abbrev pub ways_of_test : Option QualifiedName → Shared → Place → Check State (Option Ways)
  ways_of_test None t at = gives None
  ways_of_test (Some q) t at = flow_now ▷ λ f. ways_if q (variable_named f.variables q) t at

  abbrev pub tests : Option QualifiedName → Place → Step
  tests name at =
      wanted ▷ λ t. drops_want ▷ λ u. ways_of_test name t at ▷ λ w.
      makes_strict 1 (form.Is t) (OfKind kind.Truth) at ▷ λ v. sets_ways w

  -- `check`: the errors of the last part have to be below the result of the unit
  abbrev pub checks : Place → Step
  checks at =
      last_part ▷ λ a. unit_now ▷ λ u. some_over (PartOf (sem a) IsError) ▷ λ errors.
      asking (below passes errors.sem (sem_of u.result) (Some at)) ▷ λ v. checked false at

  -- ---- widening

  -- a type below int, string or boolean is widened to that type
  abbrev pub widens_to : List Kind → Shared → Place → Check State Shared
  widens_to [] t at = gives t
  widens_to (k ∷ kinds) t at = whether_within passes (OfKind k) (sem_of t) at ▷ λ b. either b (some_over (λ env (u : Shared). OfKind k env u.value)) (widens_to kinds t at)

  abbrev pub widened : Shared → Place → Check State Shared
  widened = widens_to (kind.Integer ∷ kind.Text ∷ kind.Truth ∷ [])

  abbrev pub widens : Place → Step
  widens at = last_part ▷ λ e. widened (type_of e) at ▷ λ t. wants (Some t)

module _ (names : Names) where
  abbrev pub gives_named : QualifiedName → Step
  gives_named q = looks_up names q ▷ λ seen. gives_seen seen q.at

  abbrev pub describes : TypeTree → Step
  describes tree =
      gives_some (λ s scope. scope ≡ s.site.scope) ▷ λ scope. asking (described_whole names scope (descriptor_of tree)) ▷ λ t.
      wants_some (λ env u. u ≡ t)
