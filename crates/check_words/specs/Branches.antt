-- What it means that the needs of branches, loops and matches are met (Ballerina specification, "If-else statement", "While statement",
-- "Foreach statement", "Match statement").
use Rattle.std.specs.Prelude.{◌≡◌, ◌&&◌, ◌++◌, ℕ, Bool, true, false, List, [], ◌∷◌, Any, fold, option_map, Option, Some, None}
use Rattle.bal_base.specs.declared.fault.FaultCode.TheVariants.{NameAsValue, Unknown}
use Rattle.bal_base.specs.declared.place.Place.{Place}
use Rattle.bal_base.specs.declared.text.Name.{Name}
use Rattle.std.specs.Int.{int_wrapping_neg, w64}
use Rattle.bal_tree.specs.declared.name.ConstValue.{ConstValue}
use Rattle.bal_tree.specs.declared.name.ConstValue.TheVariants as value
use Rattle.bal_tree.specs.declared.name.QualifiedName.{QualifiedName}
use Rattle.bal_tree.specs.declared.name.Word.{Word}
use Rattle.bal_tree.specs.declared.stmt.Pattern.{Pattern}
use Rattle.bal_tree.specs.declared.stmt.Pattern.TheVariants as pattern
use Rattle.bal_tree.specs.declared.stmt.RangeOp.{RangeOp}
use Rattle.bal_tree.specs.declared.stmt.RangeOp.TheVariants.{Through, Below}
use Rattle.checks.specs.Checks.{Check, gives, gives_some, ◌▷◌}
use Rattle.checks.specs.Questions.{below, has_some}
use Rattle.descriptors.specs.declared.names.Meaning.{Meaning}
use Rattle.descriptors.specs.declared.names.Meaning.TheVariants as meaning
use Rattle.descriptors.specs.declared.names.Names.{Names}
use Rattle.descriptors.specs.Described.{IsPlain, plain}
use Rattle.operations.specs.declared.operation.Constant.{Constant}
use Rattle.operations.specs.declared.operation.Constant.TheVariants as constant
use Rattle.operations.specs.Rows.{shape_of}
use Rattle.tree_places.specs.ExprPlaces.{place_of_literal}
use Rattle.type_model.specs.declared.answers.Keys.TheVariants.{AnyIndex}
use Rattle.type_model.specs.declared.answers.TypeLimit.{TypeLimit}
use Rattle.type_model.specs.declared.atoms.AtomDef.{AtomDef}
use Rattle.type_model.specs.declared.basic.SemType.{SemType}
use Rattle.type_model.specs.declared.basic.Ty.{Ty}
use Rattle.type_model.specs.Calls.{Asked}
use Rattle.typed_tree.specs.declared.stmt.RangeEnd.{RangeEnd}
use Rattle.typed_tree.specs.declared.stmt.RangeEnd.TheVariants.{Included, Excluded}
use Rattle.typed_tree.specs.declared.stmt.TypedPattern.{TypedPattern}
use Rattle.typed_tree.specs.Exprs.{type_of}
use Rattle.typed_tree.specs.SharedTypes.{Shared, sem_of}
use Rattle.expr_needs.specs.declared.kind.Kind.{Kind}
use Rattle.expr_needs.specs.declared.kind.Kind.TheVariants as kind
use Rattle.check_words.specs.Joins.{joins_two, joins_from, narrows_to}
use Rattle.check_words.specs.Members.{member_at}
use Rattle.check_words.specs.Seen.{Seen, SeenVariable, SeenWorker, SeenConstant, SeenLibrary, SeenMeaning, SeenNothing, looks_up, variable_named}
use Rattle.flow_narrowing.specs.declared.flow.Flow.{Flow}
use Rattle.flow_narrowing.specs.declared.flow.Variable.{Variable}
use Rattle.check_words.specs.Sharing.{SameMatch}
use Rattle.check_words.specs.State.{IsLast, MatchAtWork, State, all_but, replaced, stopped, with_type, with_variable}
use Rattle.check_words.specs.Statements.{adds_stmt, closes_block, local_variable, takes_part, takes_want}
use Rattle.check_words.specs.StmtViews.{IsClause, IsForeach, IsIf, IsListSource, IsMatch, IsRangeSource, IsWhile}
use Rattle.check_words.specs.Values.{constant_in, constant_of, widened}
use Rattle.check_words.specs.Words.{Atoms, OfKind, Step, asking, becomes, by_handles, changes_flow, closes_choice, fails, flow_now, last_part, last_two, new_slot, opens_choice, sem, sets_flow, some_over, takes, wanted, wants, wants_some}

-- ---- branches

-- the first way has come to where the choice says, and the second one to the flow at hand
abbrev pub makes_if : Place → Step
makes_if at =
    flow_now ▷ λ f. closes_choice ▷ λ c. joins_two c.first f ▷ λ g. sets_flow g ▷ λ u.
    closes_block ▷ λ second. closes_block ▷ λ first. takes_part ▷ λ condition.
    adds_stmt (IsIf condition first.stmts second.stmts at)

-- ---- loops

-- at the head of a loop what its body assigns has its declared type
abbrev pub at_head : List Word → Flow → Flow
at_head words f = fold (λ g w. with_type w.name None g) f words

abbrev pub heads : List Word → Step
heads words = changes_flow (at_head words)

-- the flow at the head is remembered
abbrev pub opens_loop : Step
opens_loop = flow_now ▷ λ f. opens_choice (record { before = f; other = f; first = f })

-- behind the loop the flow is that of its head
abbrev pub behind : Bool → Flow → Flow
behind leaves f = record { variables = f.variables; reached = f.reached && leaves }

abbrev pub makes_while : Bool → Place → Step
makes_while leaves at =
    closes_choice ▷ λ c. sets_flow (behind leaves c.before) ▷ λ u. closes_block ▷ λ body. takes_part ▷ λ condition.
    adds_stmt (IsWhile condition body.stmts at)

abbrev pub has_item : Name → Bool → Step
has_item name assigned =
    takes_want ▷ λ t. new_slot t ▷ λ slot. changes_flow (with_variable (local_variable name slot t true assigned))

-- the variable of the loop is the last one behind its body
abbrev pub item_variable : Check State Variable
item_variable = flow_now ▷ λ f. gives_some (λ s v. IsLast f.variables v)

-- a slot of this kind, which a construct keeps something in
abbrev pub kind_slot : Kind → Check State ℕ
kind_slot k = some_over (λ env (t : Shared). OfKind k env t.value) ▷ λ t. new_slot t

-- the list and the index are kept
abbrev pub makes_foreach : Place → Step
makes_foreach at =
    item_variable ▷ λ v. closes_choice ▷ λ c. sets_flow c.before ▷ λ u. closes_block ▷ λ body. takes_part ▷ λ list.
    new_slot (type_of list) ▷ λ own. kind_slot kind.Integer ▷ λ index. gives_some (λ s over. IsListSource own list over) ▷ λ over.
    adds_stmt (IsForeach v.slot over body.stmts at)

abbrev pub range_end : RangeOp → RangeEnd
range_end Through = Included
range_end Below = Excluded

-- the next one, the last one and whether one is left are kept
abbrev pub makes_range : RangeOp → Place → Step
makes_range op at =
    item_variable ▷ λ v. closes_choice ▷ λ c. sets_flow c.before ▷ λ u. closes_block ▷ λ body. last_two ▷ λ p. takes 2 ▷ λ parts.
    kind_slot kind.Integer ▷ λ own. kind_slot kind.Integer ▷ λ last. kind_slot kind.Truth ▷ λ left.
    gives_some (λ s over. IsRangeSource own (range_end op) p.0 p.1 over) ▷ λ over. adds_stmt (IsForeach v.slot over body.stmts at)

abbrev pub wants_counter : Step
wants_counter = wants_some (OfKind kind.Integer)

-- ---- matches

abbrev pub last_match : Check State MatchAtWork
last_match = gives_some (λ s m. IsLast s.matches m)

abbrev pub sets_match : MatchAtWork → Step
sets_match m = by_handles SameMatch m ▷ λ n. becomes (λ s. record s { matches = replaced s.matches n })

abbrev pub closes_match : Check State MatchAtWork
closes_match = last_match ▷ λ m. becomes (λ s. record s { matches = all_but 1 s.matches }) ▷ λ u. gives m

abbrev pub variable_of_name : List Variable → Option QualifiedName → Option Variable
variable_of_name vs None = None
variable_of_name vs (Some q) = variable_named vs q

abbrev pub opens_match : MatchAtWork → Step
opens_match m = by_handles SameMatch m ▷ λ n. becomes (λ s. record s { matches = s.matches ++ n ∷ []; ways = None })

abbrev pub begins_match : Option QualifiedName → Place → Step
begins_match name at =
    last_part ▷ λ e. flow_now ▷ λ f.
    opens_match (record {
      at = at;
      on = option_map (λ v. v.name) (variable_of_name f.variables name);
      before = f;
      left = type_of e;
      patterns = [];
      clauses = [];
      ends = [];
    })

-- the variable of the match has this type in the flow before it
abbrev pub matched_as : Option Name → Shared → Flow → Flow
matched_as None t f = f
matched_as (Some name) t f = with_type name (Some t) f

abbrev pub value_constant : ConstValue → Constant
value_constant (value.Literal l) = constant_of l
value_constant (value.Negative n at) = constant.Int (int_wrapping_neg w64 n)

abbrev pub adds_pattern : Option Constant → Place → Step
adds_pattern c at = last_match ▷ λ m. sets_match (record m { patterns = m.patterns ++ record { value = c; at = at } ∷ [] })

-- a name in a pattern stands for a constant
abbrev pub meaning_pattern : Meaning → Place → Step
meaning_pattern (meaning.Constant t) at = constant_in t ▷ λ c. adds_pattern (Some c) at
meaning_pattern (meaning.TypeName t) at = fails Unknown at
meaning_pattern (meaning.Variable number final t) at = fails Unknown at
meaning_pattern (meaning.Function f) at = fails Unknown at

abbrev pub seen_pattern : Seen → Place → Step
seen_pattern (SeenVariable v) at = fails Unknown at
seen_pattern (SeenWorker w) at = fails NameAsValue at
seen_pattern (SeenConstant c) at = adds_pattern (Some c) at
seen_pattern (SeenLibrary r) at = fails Unknown at
seen_pattern (SeenMeaning m) at = meaning_pattern m at
seen_pattern (SeenNothing code) at = fails code at

abbrev pub place_of_value : ConstValue → Place
place_of_value (value.Literal l) = place_of_literal l
place_of_value (value.Negative n at) = at

module _ (names : Names) where
  abbrev pub has_pattern : Pattern → Step
  has_pattern (pattern.Any at) = adds_pattern None at
  has_pattern (pattern.Value v) = adds_pattern (Some (value_constant v)) (place_of_value v)
  has_pattern (pattern.Name q) = looks_up names q ▷ λ seen. seen_pattern seen q.at

-- the values of the patterns
abbrev pub IsOneOf : List TypedPattern → Atoms → Ty → Type 0
IsOneOf patterns env = IsPlain (λ x. Any (λ p. (c : Constant) × (p.value ≡ Some c) × (x ≡ shape_of c)) patterns) env

-- the clause ends; it waits for the end of the match
abbrev pub ends_clause : Place → Step
ends_clause at =
    flow_now ▷ λ f. closes_block ▷ λ b. last_match ▷ λ m. gives_some (λ s c. IsClause m.patterns b.stmts at c) ▷ λ c.
    sets_match (record m { patterns = []; clauses = m.clauses ++ c ∷ []; ends = m.ends ++ f ∷ [] })

-- a way more on which no clause is taken
abbrev pub with_no_clause : Bool → MatchAtWork → List Flow
with_no_clause true m = m.ends ++ matched_as m.on m.left m.before ∷ []
with_no_clause false m = m.ends

-- what is known behind the ways of a match, where this was known before it: no way goes on where there is none
abbrev pub joins_all : Flow → List Flow → Check State Flow
joins_all before [] = gives (stopped before)
joins_all before (f ∷ fs) = joins_from f fs

module _ (passes : List AtomDef → Asked → TypeLimit → Type 0) where
  -- ---- what a loop goes through

  abbrev pub item_type_at : Place → Check State SemType
  item_type_at at = last_part ▷ λ e. member_at passes (sem e) AnyIndex at

  abbrev pub is_item_of_loop : Place → Step
  is_item_of_loop at = item_type_at at ▷ λ m. wanted ▷ λ t. asking (below passes m (sem_of t) (Some at))

  abbrev pub widens_item : Place → Step
  widens_item at =
      item_type_at at ▷ λ m. some_over (λ env (t : Shared). t.value ≡ plain m) ▷ λ t. widened passes t at ▷ λ u. wants (Some u)

  abbrev pub is_counter : Place → Step
  is_counter at = wanted ▷ λ t. some_over (OfKind kind.Integer) ▷ λ int. asking (below passes int.sem (sem_of t) (Some at))

  -- ---- clauses

  -- a clause with `_` takes all that is left; another one what its patterns are, which is then left no more
  abbrev pub begins_clause : Bool → Step
  begins_clause true = last_match ▷ λ m. sets_flow (matched_as m.on m.left m.before)
  begins_clause false =
      last_match ▷ λ m. some_over (λ env (t : Shared). IsOneOf m.patterns env t.value) ▷ λ t. narrows_to passes m.left t m.at ▷ λ types.
      sets_match (record m { left = types.1 }) ▷ λ u. sets_flow (matched_as m.on types.0 m.before)

  -- whether some value is taken by no clause
  abbrev pub some_is_left : Bool → Shared → Place → Check State Bool
  some_is_left true t at = gives false
  some_is_left false t at = asking (has_some passes (sem_of t) (Some at))

  -- the value is kept
  abbrev pub makes_match : Bool → Place → Step
  makes_match any at =
      closes_match ▷ λ m. some_is_left any m.left m.at ▷ λ left. joins_all m.before (with_no_clause left m) ▷ λ f. sets_flow f ▷ λ u.
      takes_part ▷ λ subject. new_slot (type_of subject) ▷ λ own. adds_stmt (IsMatch own subject m.clauses at)
