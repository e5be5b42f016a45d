-- Each expression comes to a typed part, by induction on trees.
use Rattle.std.proofs.Common.{◌≡◌, true, false, List, [], ◌∷◌, map, All, None, Some, sym, subst}
use Rattle.std.specs.Prelude.{IfSome, ⊤}
use Rattle.std.proofs.lemmas.List.Elements.{All-cons, All-nil}
use Rattle.bal_base.specs.declared.place.Place.{Place}
use Rattle.bal_tree.specs.declared.expr.BinaryOp.{BinaryOp}
use Rattle.bal_tree.specs.declared.expr.BinaryOp.TheVariants as op
use Rattle.bal_tree.specs.declared.expr.Call.TheOpen as layer
use Rattle.bal_tree.specs.declared.expr.Call.{Call, Call-F, roll-Call, map-Call, fold-roll-Call, ind-Call}
use Rattle.bal_tree.specs.declared.expr.Expr.{Expr, Expr-F, roll-Expr, map-Expr, fold-roll-Expr, ind-Expr}
use Rattle.bal_tree.specs.declared.expr.Key.{Key, Key-F, roll-Key, map-Key, fold-roll-Key}
use Rattle.bal_tree.specs.declared.expr.Postfix.{Postfix, Postfix-F, roll-Postfix, map-Postfix, fold-roll-Postfix, ind-Postfix}
use Rattle.bal_tree.specs.declared.expr.Primary.{Primary, Primary-F, roll-Primary, map-Primary, fold-roll-Primary, ind-Primary}
use Rattle.bal_tree.specs.declared.expr.Detail.{Detail, Detail-F, roll-Detail, map-Detail, fold-roll-Detail}
use Rattle.bal_tree.specs.declared.expr.Member.{Member, Member-F, roll-Member, map-Member, fold-roll-Member}
use Rattle.bal_tree.specs.ExprLayers.{CallOf, ExprOf, KeyOf, PostfixOf, PrimaryOf, DetailOf, MemberOf}
use Rattle.checks.specs.Checks.{Gives, ◌▷◌}
use Rattle.descriptors.specs.declared.names.Names.{Names}
use Rattle.needs.specs.Needs.{all_met}
use Rattle.type_model.specs.declared.answers.TypeLimit.{TypeLimit}
use Rattle.type_model.specs.declared.atoms.AtomDef.{AtomDef}
use Rattle.type_model.specs.declared.basic.SemType.{SemType}
use Rattle.type_model.specs.Calls.{Asked}
use Rattle.typed_tree.specs.Listed.{Listed, nothing, one, ◌&◌}
use Rattle.expr_needs.specs.ExprTable.{Reading, binary_needs, call_step, expr_step, key_step, postfix_step, primary_step, read_call, read_detail, read_expr, read_key, read_member, read_postfix, read_primary, reading}
use Rattle.expr_needs.specs.Needs.{Need, Starts}
use Rattle.expr_needs.specs.Operators.{family_of}
use Rattle.check_words.specs.Meets.{meets}
use Rattle.check_words.specs.State.{State}
use Rattle.check_laws.specs.Laws.{IsOneMore, IsReady, KeepsPositions, PositionsAreKept}
use Rattle.typed_needs.specs.WholeRuns.{AllRunsGoOn}
use Rattle.typed_exprs.specs.Actions.{ActionsAreTyped}
use Rattle.typed_exprs.specs.Calls.{CallsAreTyped}
use Rattle.typed_exprs.specs.Conditions.{ConditionsAreTyped}
use Rattle.typed_exprs.specs.Constructors.{ConstructorsAreTyped, KnowsDetail, KnowsKey, KnowsMember}
use Rattle.typed_exprs.specs.Elements.{AllElementsAreTyped}
use Rattle.typed_exprs.specs.Lines.{Claim, Knows, Leaves, LinesAreTyped, Run}
use Rattle.typed_exprs.specs.Prefixes.{PrefixesAreTyped}
use Rattle.typed_exprs.proofs.Steps.{more-path}
use Rattle.typed_functions.specs.Functions.{FunctionIsTyped}
use Rattle.typed_trees.proofs.Leaving.{expr-leaves, postfix-leaves, rolled-expr}

-- all that the lines say, of one package and the atoms at its end
pub record AllLines (passes : List AtomDef → Asked → TypeLimit → Type 0) (names : Names) (env : List AtomDef) : Type 0 where
  pub positions : PositionsAreKept passes names
  pub goes : AllRunsGoOn passes names
  pub truth : SemType
  pub lines : LinesAreTyped passes names env truth
  pub prefixes : PrefixesAreTyped passes names env
  pub elements : AllElementsAreTyped passes
  pub conditions : ConditionsAreTyped passes names env
  pub constructors : ConstructorsAreTyped passes names env
  pub calls : CallsAreTyped passes names env
  pub actions : ActionsAreTyped passes names env
  pub functions : FunctionIsTyped passes names env

module _ (passes : List AtomDef → Asked → TypeLimit → Type 0) (names : Names) (env : List AtomDef) (l : AllLines passes names env) where
  abbrev LeavesOf : Reading → Type 0
  LeavesOf a = Leaves passes names env (λ e. a.needs e)

  expr-leaves-so : (x : Expr) → LeavesOf (read_expr x)
  expr-leaves-so x = expr-leaves passes names env l.positions l.goes x

  postfix-leaves-so : (x : Postfix) → LeavesOf (read_postfix x)
  postfix-leaves-so x = postfix-leaves passes names env l.positions l.goes x

  abbrev ClaimOf : Reading → Type 0
  ClaimOf a = Claim passes names env (λ e. a.needs e)

  abbrev Known : Reading → Type 0
  Known = Knows passes names env

  -- a call as it is made, and as it is started
  pub record CallClaim (a : Reading) : Type 0 where
    pub made : ClaimOf a
    pub started : (here behind : Place) → Claim passes names env (λ e. a.starts & one (Starts here behind))

  -- ---- one layer of a reading, of whose parts it is known

  abbrev GoodExpr : ExprOf Reading → Type 0
  GoodExpr (layer.Postfix a) = ClaimOf a
  GoodExpr (layer.Prefix o a at) = Known a.value
  GoodExpr (layer.Cast type a at) = Known a.value
  GoodExpr (layer.Binary a o b at) = Known a.value × Known b.value
  GoodExpr (layer.TypeTest a type at) = Known a.value
  GoodExpr (layer.Conditional c a b at) = Known c.value × Known a.value × Known b.value
  GoodExpr (layer.Trap a at) = Known a.value
  GoodExpr (layer.«Expr::Function» isolated ps result v at) = Known v.value

  binary : (o : BinaryOp) (a b : Reading) (at : Place) → Known a → Known b → Claim passes names env (λ e. binary_needs (family_of o) a b at e)
  binary op.And a b at ka kb = l.conditions.both true a b at ka kb
  binary op.Or a b at ka kb = l.conditions.both false a b at ka kb
  binary op.Multiply a b at ka kb = l.lines.binary op.Multiply tt a b at ka kb
  binary op.Divide a b at ka kb = l.lines.binary op.Divide tt a b at ka kb
  binary op.Remainder a b at ka kb = l.lines.binary op.Remainder tt a b at ka kb
  binary op.Subtract a b at ka kb = l.lines.binary op.Subtract tt a b at ka kb
  binary op.Add a b at ka kb = l.lines.binary op.Add tt a b at ka kb
  binary op.Less a b at ka kb = l.lines.binary op.Less tt a b at ka kb
  binary op.LessEqual a b at ka kb = l.lines.binary op.LessEqual tt a b at ka kb
  binary op.Greater a b at ka kb = l.lines.binary op.Greater tt a b at ka kb
  binary op.GreaterEqual a b at ka kb = l.lines.binary op.GreaterEqual tt a b at ka kb
  binary op.Equal a b at ka kb = l.lines.binary op.Equal tt a b at ka kb
  binary op.NotEqual a b at ka kb = l.lines.binary op.NotEqual tt a b at ka kb
  binary op.Same a b at ka kb = l.lines.binary op.Same tt a b at ka kb
  binary op.NotSame a b at ka kb = l.lines.binary op.NotSame tt a b at ka kb
  binary op.Elvis a b at ka kb = l.lines.binary op.Elvis tt a b at ka kb

  expr-of : (z : ExprOf Reading) → GoodExpr z → ClaimOf (expr_step z)
  expr-of (layer.Postfix a) k = k
  expr-of (layer.Prefix o a at) k = l.prefixes.prefixes o a.value at k
  expr-of (layer.Cast type a at) k = l.prefixes.casts type.value a.value at k
  expr-of (layer.Binary a o b at) k = binary o a.value b.value at k.0 k.1
  expr-of (layer.TypeTest a type at) k = l.prefixes.tests type.value a.value a.value.name at k
  expr-of (layer.Conditional c a b at) k = l.conditions.conditional c.value a.value b.value at k.0 k.1 k.2
  expr-of (layer.Trap a at) k = l.lines.trapped a.value at k
  expr-of (layer.«Expr::Function» isolated ps result v at) k = l.functions isolated ps result.value v.value at k

  abbrev GoodPostfix : PostfixOf Reading → Type 0
  GoodPostfix (layer.Primary a) = ClaimOf a
  GoodPostfix (layer.Call a) = ClaimOf a
  GoodPostfix (layer.Field a field at) = Known a.value
  GoodPostfix (layer.OptionalField a field at) = Known a.value
  GoodPostfix (layer.Index a i at) = Known a.value × Known i.value

  postfix-of : (z : PostfixOf Reading) → GoodPostfix z → ClaimOf (postfix_step z)
  postfix-of (layer.Primary a) k = k
  postfix-of (layer.Call a) k = k
  postfix-of (layer.Field a field at) k = l.lines.field a.value field at k
  postfix-of (layer.OptionalField a field at) k = l.lines.optional a.value field at k
  postfix-of (layer.Index a i at) k = l.elements names env true a.value i.value at k.0 k.1

  abbrev GoodCall : CallOf Reading → Type 0
  GoodCall (layer.«Call::Function» f args at) = Known f.value × All Known args.items
  GoodCall (layer.Method a m args at) = Known a.value × All Known args.items

  call-of : (z : CallOf Reading) → GoodCall z → CallClaim (call_step z)
  call-of (layer.«Call::Function» f args at) k =
      record { made = l.calls.function f.value args.items at k.0 k.1; started = λ here behind. l.calls.started f.value args.items at here behind k.0 k.1 }
  call-of (layer.Method a m args at) k =
      record { made = l.calls.method a.value m args.items at k.0 k.1; started = λ here behind. l.calls.no_method a.value m here behind }

  abbrev GoodKey : KeyOf Reading → Type 0
  GoodKey (layer.Word w) = ⊤
  GoodKey (layer.Str text at) = ⊤
  GoodKey (layer.Computed a at) = Known a.value

  key-of : (z : KeyOf Reading) → GoodKey z → KnowsKey passes names env (key_step z)
  key-of (layer.Word w) k = l.constructors.word w
  key-of (layer.Str text at) k = l.constructors.text text at
  key-of (layer.Computed a at) k = l.constructors.computed a at k

  abbrev GoodPrimary : PrimaryOf Reading → Type 0
  GoodPrimary (layer.Literal x) = ⊤
  GoodPrimary (layer.Name q) = ⊤
  GoodPrimary (layer.Parens a at) = Known a.value
  GoodPrimary (layer.List items at) = All Known items.items
  GoodPrimary (layer.Mapping ms at) = All (KnowsMember passes names env) ms.items
  GoodPrimary (layer.Error m c ds at) = Known m.value × IfSome c (λ x. Known x.value) × All (KnowsDetail passes names env) ds.items

  primary-of : (z : PrimaryOf Reading) → GoodPrimary z → ClaimOf (primary_step z)
  primary-of (layer.Literal x) k = l.lines.literal x
  primary-of (layer.Name q) k = l.lines.name q
  primary-of (layer.Parens a at) k = l.lines.enclosed a.value at k
  primary-of (layer.List items at) k = l.constructors.list items.items at k
  primary-of (layer.Mapping ms at) k = l.constructors.mapping ms.items at k
  primary-of (layer.Error m c ds at) k = l.constructors.error m.value c ds.items at k.0 k.1 k.2

  -- ---- the claims

  abbrev ClaimCall : Call → Type 0
  ClaimCall e = CallClaim (read_call e)

  abbrev ACall : Type 0
  ACall = (e : Call) × ClaimCall e

  abbrev ClaimExpr : Expr → Type 0
  ClaimExpr e = ClaimOf (read_expr e)

  abbrev AnExpr : Type 0
  AnExpr = (e : Expr) × ClaimExpr e

  abbrev ClaimKey : Key → Type 0
  ClaimKey e = KnowsKey passes names env (read_key e)

  abbrev AKey : Type 0
  AKey = (e : Key) × ClaimKey e

  abbrev ClaimPostfix : Postfix → Type 0
  ClaimPostfix e = ClaimOf (read_postfix e)

  abbrev APostfix : Type 0
  APostfix = (e : Postfix) × ClaimPostfix e

  abbrev ClaimPrimary : Primary → Type 0
  ClaimPrimary e = ClaimOf (read_primary e)

  abbrev APrimary : Type 0
  APrimary = (e : Primary) × ClaimPrimary e

  abbrev ClaimDetail : Detail → Type 0
  ClaimDetail e = KnowsDetail passes names env (read_detail e)

  abbrev ADetail : Type 0
  ADetail = (e : Detail) × ClaimDetail e

  abbrev ClaimMember : Member → Type 0
  ClaimMember e = KnowsMember passes names env (read_member e)

  abbrev AMember : Type 0
  AMember = (e : Member) × ClaimMember e

  known-expr : (e : AnExpr) → Known (read_expr e.0)
  known-expr e = record { claim = e.1; leaves = expr-leaves-so e.0 }

  known-postfix : (e : APostfix) → Known (read_postfix e.0)
  known-postfix e = record { claim = e.1; leaves = postfix-leaves-so e.0 }

  known-exprs : (es : List AnExpr) → All Known (map read_expr (map (λ e. e.0) es))
  known-exprs [] = All-nil _
  known-exprs (e ∷ es) = All-cons Known (read_expr e.0) (map read_expr (map (λ e. e.0) es)) (known-expr e) (known-exprs es)

  known-members : (ms : List AMember) → All (KnowsMember passes names env) (map read_member (map (λ m. m.0) ms))
  known-members [] = All-nil _
  known-members (m ∷ ms) = All-cons (KnowsMember passes names env) (read_member m.0) (map read_member (map (λ m. m.0) ms)) m.1 (known-members ms)

  known-details : (ds : List ADetail) → All (KnowsDetail passes names env) (map read_detail (map (λ d. d.0) ds))
  known-details [] = All-nil _
  known-details (d ∷ ds) = All-cons (KnowsDetail passes names env) (read_detail d.0) (map read_detail (map (λ d. d.0) ds)) d.1 (known-details ds)

  abbrev firsts_of_call : Call-F ACall AnExpr AKey APostfix APrimary ADetail AMember → Call-F Call Expr Key Postfix Primary Detail Member
  firsts_of_call = map-Call ACall AnExpr AKey APostfix APrimary ADetail AMember Call Expr Key Postfix Primary Detail Member (λ e. e.0) (λ e. e.0) (λ e. e.0) (λ e. e.0) (λ e. e.0) (λ e. e.0) (λ e. e.0)

  abbrev parts_of_call : Call-F Call Expr Key Postfix Primary Detail Member → CallOf Reading
  parts_of_call = map-Call Call Expr Key Postfix Primary Detail Member Reading Reading Reading Reading Reading Reading Reading read_call read_expr read_key read_postfix read_primary read_detail read_member

  rolled-call : (x : Call-F Call Expr Key Postfix Primary Detail Member) → read_call (roll-Call x) ≡ reading.call (parts_of_call x)
  rolled-call x = fold-roll-Call Reading Reading Reading Reading Reading Reading Reading reading.call reading.expr reading.key reading.postfix reading.primary reading.detail reading.member x

  abbrev firsts_of_expr : Expr-F ACall AnExpr AKey APostfix APrimary ADetail AMember → Expr-F Call Expr Key Postfix Primary Detail Member
  firsts_of_expr = map-Expr ACall AnExpr AKey APostfix APrimary ADetail AMember Call Expr Key Postfix Primary Detail Member (λ e. e.0) (λ e. e.0) (λ e. e.0) (λ e. e.0) (λ e. e.0) (λ e. e.0) (λ e. e.0)

  abbrev parts_of_expr : Expr-F Call Expr Key Postfix Primary Detail Member → ExprOf Reading
  parts_of_expr = map-Expr Call Expr Key Postfix Primary Detail Member Reading Reading Reading Reading Reading Reading Reading read_call read_expr read_key read_postfix read_primary read_detail read_member

  abbrev firsts_of_key : Key-F ACall AnExpr AKey APostfix APrimary ADetail AMember → Key-F Call Expr Key Postfix Primary Detail Member
  firsts_of_key = map-Key ACall AnExpr AKey APostfix APrimary ADetail AMember Call Expr Key Postfix Primary Detail Member (λ e. e.0) (λ e. e.0) (λ e. e.0) (λ e. e.0) (λ e. e.0) (λ e. e.0) (λ e. e.0)

  abbrev parts_of_key : Key-F Call Expr Key Postfix Primary Detail Member → KeyOf Reading
  parts_of_key = map-Key Call Expr Key Postfix Primary Detail Member Reading Reading Reading Reading Reading Reading Reading read_call read_expr read_key read_postfix read_primary read_detail read_member

  rolled-key : (x : Key-F Call Expr Key Postfix Primary Detail Member) → read_key (roll-Key x) ≡ reading.key (parts_of_key x)
  rolled-key x = fold-roll-Key Reading Reading Reading Reading Reading Reading Reading reading.call reading.expr reading.key reading.postfix reading.primary reading.detail reading.member x

  abbrev firsts_of_postfix : Postfix-F ACall AnExpr AKey APostfix APrimary ADetail AMember → Postfix-F Call Expr Key Postfix Primary Detail Member
  firsts_of_postfix = map-Postfix ACall AnExpr AKey APostfix APrimary ADetail AMember Call Expr Key Postfix Primary Detail Member (λ e. e.0) (λ e. e.0) (λ e. e.0) (λ e. e.0) (λ e. e.0) (λ e. e.0) (λ e. e.0)

  abbrev parts_of_postfix : Postfix-F Call Expr Key Postfix Primary Detail Member → PostfixOf Reading
  parts_of_postfix = map-Postfix Call Expr Key Postfix Primary Detail Member Reading Reading Reading Reading Reading Reading Reading read_call read_expr read_key read_postfix read_primary read_detail read_member

  rolled-postfix : (x : Postfix-F Call Expr Key Postfix Primary Detail Member) → read_postfix (roll-Postfix x) ≡ reading.postfix (parts_of_postfix x)
  rolled-postfix x = fold-roll-Postfix Reading Reading Reading Reading Reading Reading Reading reading.call reading.expr reading.key reading.postfix reading.primary reading.detail reading.member x

  abbrev firsts_of_primary : Primary-F ACall AnExpr AKey APostfix APrimary ADetail AMember → Primary-F Call Expr Key Postfix Primary Detail Member
  firsts_of_primary = map-Primary ACall AnExpr AKey APostfix APrimary ADetail AMember Call Expr Key Postfix Primary Detail Member (λ e. e.0) (λ e. e.0) (λ e. e.0) (λ e. e.0) (λ e. e.0) (λ e. e.0) (λ e. e.0)

  abbrev parts_of_primary : Primary-F Call Expr Key Postfix Primary Detail Member → PrimaryOf Reading
  parts_of_primary = map-Primary Call Expr Key Postfix Primary Detail Member Reading Reading Reading Reading Reading Reading Reading read_call read_expr read_key read_postfix read_primary read_detail read_member

  rolled-primary : (x : Primary-F Call Expr Key Postfix Primary Detail Member) → read_primary (roll-Primary x) ≡ reading.primary (parts_of_primary x)
  rolled-primary x = fold-roll-Primary Reading Reading Reading Reading Reading Reading Reading reading.call reading.expr reading.key reading.postfix reading.primary reading.detail reading.member x

  abbrev firsts_of_detail : Detail-F ACall AnExpr AKey APostfix APrimary ADetail AMember → Detail-F Call Expr Key Postfix Primary Detail Member
  firsts_of_detail = map-Detail ACall AnExpr AKey APostfix APrimary ADetail AMember Call Expr Key Postfix Primary Detail Member (λ e. e.0) (λ e. e.0) (λ e. e.0) (λ e. e.0) (λ e. e.0) (λ e. e.0) (λ e. e.0)

  abbrev parts_of_detail : Detail-F Call Expr Key Postfix Primary Detail Member → DetailOf Reading
  parts_of_detail = map-Detail Call Expr Key Postfix Primary Detail Member Reading Reading Reading Reading Reading Reading Reading read_call read_expr read_key read_postfix read_primary read_detail read_member

  rolled-detail : (x : Detail-F Call Expr Key Postfix Primary Detail Member) → read_detail (roll-Detail x) ≡ reading.detail (parts_of_detail x)
  rolled-detail x = fold-roll-Detail Reading Reading Reading Reading Reading Reading Reading reading.call reading.expr reading.key reading.postfix reading.primary reading.detail reading.member x

  abbrev firsts_of_member : Member-F ACall AnExpr AKey APostfix APrimary ADetail AMember → Member-F Call Expr Key Postfix Primary Detail Member
  firsts_of_member = map-Member ACall AnExpr AKey APostfix APrimary ADetail AMember Call Expr Key Postfix Primary Detail Member (λ e. e.0) (λ e. e.0) (λ e. e.0) (λ e. e.0) (λ e. e.0) (λ e. e.0) (λ e. e.0)

  abbrev parts_of_member : Member-F Call Expr Key Postfix Primary Detail Member → MemberOf Reading
  parts_of_member = map-Member Call Expr Key Postfix Primary Detail Member Reading Reading Reading Reading Reading Reading Reading read_call read_expr read_key read_postfix read_primary read_detail read_member

  rolled-member : (x : Member-F Call Expr Key Postfix Primary Detail Member) → read_member (roll-Member x) ≡ reading.member (parts_of_member x)
  rolled-member x = fold-roll-Member Reading Reading Reading Reading Reading Reading Reading reading.call reading.expr reading.key reading.postfix reading.primary reading.detail reading.member x

  -- ---- one layer of a tree

  good-expr : (y : Expr-F ACall AnExpr AKey APostfix APrimary ADetail AMember) → GoodExpr (parts_of_expr (firsts_of_expr y))
  good-expr (layer.Postfix a) = a.1
  good-expr (layer.Prefix o a at) = known-expr a.value
  good-expr (layer.Cast type a at) = known-expr a.value
  good-expr (layer.Binary a o b at) = (known-expr a.value, known-expr b.value)
  good-expr (layer.TypeTest a type at) = known-expr a.value
  good-expr (layer.Conditional c a b at) = (known-expr c.value, known-expr a.value, known-expr b.value)
  good-expr (layer.Trap a at) = known-expr a.value
  good-expr (layer.«Expr::Function» isolated ps result v at) = known-expr v.value

  good-postfix : (y : Postfix-F ACall AnExpr AKey APostfix APrimary ADetail AMember) → GoodPostfix (parts_of_postfix (firsts_of_postfix y))
  good-postfix (layer.Primary a) = a.1
  good-postfix (layer.Call a) = a.1.made
  good-postfix (layer.Field a field at) = known-postfix a.value
  good-postfix (layer.OptionalField a field at) = known-postfix a.value
  good-postfix (layer.Index a i at) = (known-postfix a.value, known-expr i.value)

  good-call : (y : Call-F ACall AnExpr AKey APostfix APrimary ADetail AMember) → GoodCall (parts_of_call (firsts_of_call y))
  good-call (layer.«Call::Function» f args at) = (known-postfix f.value, known-exprs args.items)
  good-call (layer.Method a m args at) = (known-postfix a.value, known-exprs args.items)

  good-key : (y : Key-F ACall AnExpr AKey APostfix APrimary ADetail AMember) → GoodKey (parts_of_key (firsts_of_key y))
  good-key (layer.Word w) = tt
  good-key (layer.Str text at) = tt
  good-key (layer.Computed a at) = known-expr a.value

  good-primary : (y : Primary-F ACall AnExpr AKey APostfix APrimary ADetail AMember) → GoodPrimary (parts_of_primary (firsts_of_primary y))
  good-primary (layer.Literal x) = tt
  good-primary (layer.Name q) = tt
  good-primary (layer.Parens a at) = known-expr a.value
  good-primary (layer.List items at) = known-exprs items.items
  good-primary (layer.Mapping ms at) = known-members ms.items
  good-primary (layer.Error m None ds at) = (known-expr m.value, tt, known-details ds.items)
  good-primary (layer.Error m (Some c) ds at) = (known-expr m.value, known-expr c.value, known-details ds.items)

  -- ---- the whole

  call-step : (x : Call-F Call Expr Key Postfix Primary Detail Member) (y : Call-F ACall AnExpr AKey APostfix APrimary ADetail AMember) → firsts_of_call y ≡ x → ClaimCall (roll-Call x)
  call-step x y is =
      subst (λ z. ClaimCall (roll-Call z)) is (subst (CallClaim) (sym (rolled-call (firsts_of_call y)))
      (call-of (parts_of_call (firsts_of_call y)) (good-call y)))

  expr-step : (x : Expr-F Call Expr Key Postfix Primary Detail Member) (y : Expr-F ACall AnExpr AKey APostfix APrimary ADetail AMember) → firsts_of_expr y ≡ x → ClaimExpr (roll-Expr x)
  expr-step x y is =
      subst (λ z. ClaimExpr (roll-Expr z)) is (subst (ClaimOf) (sym (rolled-expr (firsts_of_expr y)))
      (expr-of (parts_of_expr (firsts_of_expr y)) (good-expr y)))

  key-step : (x : Key-F Call Expr Key Postfix Primary Detail Member) (y : Key-F ACall AnExpr AKey APostfix APrimary ADetail AMember) → firsts_of_key y ≡ x → ClaimKey (roll-Key x)
  key-step x y is =
      subst (λ z. ClaimKey (roll-Key z)) is (subst (KnowsKey passes names env) (sym (rolled-key (firsts_of_key y)))
      (key-of (parts_of_key (firsts_of_key y)) (good-key y)))

  postfix-step : (x : Postfix-F Call Expr Key Postfix Primary Detail Member) (y : Postfix-F ACall AnExpr AKey APostfix APrimary ADetail AMember) → firsts_of_postfix y ≡ x → ClaimPostfix (roll-Postfix x)
  postfix-step x y is =
      subst (λ z. ClaimPostfix (roll-Postfix z)) is (subst (ClaimOf) (sym (rolled-postfix (firsts_of_postfix y)))
      (postfix-of (parts_of_postfix (firsts_of_postfix y)) (good-postfix y)))

  primary-step : (x : Primary-F Call Expr Key Postfix Primary Detail Member) (y : Primary-F ACall AnExpr AKey APostfix APrimary ADetail AMember) → firsts_of_primary y ≡ x → ClaimPrimary (roll-Primary x)
  primary-step x y is =
      subst (λ z. ClaimPrimary (roll-Primary z)) is (subst (ClaimOf) (sym (rolled-primary (firsts_of_primary y)))
      (primary-of (parts_of_primary (firsts_of_primary y)) (good-primary y)))

  detail-step : (x : Detail-F Call Expr Key Postfix Primary Detail Member) (y : Detail-F ACall AnExpr AKey APostfix APrimary ADetail AMember) → firsts_of_detail y ≡ x → ClaimDetail (roll-Detail x)
  detail-step x y is =
      subst (λ z. ClaimDetail (roll-Detail z)) is (subst (KnowsDetail passes names env) (sym (rolled-detail (firsts_of_detail y)))
      (l.constructors.detail (parts_of_detail (firsts_of_detail y)) (known-expr y.value.value)))

  member-step : (x : Member-F Call Expr Key Postfix Primary Detail Member) (y : Member-F ACall AnExpr AKey APostfix APrimary ADetail AMember) → firsts_of_member y ≡ x → ClaimMember (roll-Member x)
  member-step x y is =
      subst (λ z. ClaimMember (roll-Member z)) is (subst (KnowsMember passes names env) (sym (rolled-member (firsts_of_member y)))
      (l.constructors.member (parts_of_member (firsts_of_member y)) y.key.1 (known-expr y.value.value)))

  pub expr-typed : (e : Expr) → ClaimExpr e
  expr-typed = ind-Expr ClaimCall ClaimExpr ClaimKey ClaimPostfix ClaimPrimary ClaimDetail ClaimMember call-step expr-step key-step postfix-step primary-step detail-step member-step

  pub postfix-typed : (e : Postfix) → ClaimPostfix e
  postfix-typed = ind-Postfix ClaimCall ClaimExpr ClaimKey ClaimPostfix ClaimPrimary ClaimDetail ClaimMember call-step expr-step key-step postfix-step primary-step detail-step member-step

  pub primary-typed : (e : Primary) → ClaimPrimary e
  primary-typed = ind-Primary ClaimCall ClaimExpr ClaimKey ClaimPostfix ClaimPrimary ClaimDetail ClaimMember call-step expr-step key-step postfix-step primary-step detail-step member-step

  pub call-typed : (e : Call) → ClaimCall e
  call-typed = ind-Call ClaimCall ClaimExpr ClaimKey ClaimPostfix ClaimPrimary ClaimDetail ClaimMember call-step expr-step key-step postfix-step primary-step detail-step member-step
