-- Each expression comes to a part that keeps the flow, by induction on trees.
use Rattle.std.proofs.Common.{◌≡◌, true, false, List, [], ◌∷◌, map, All, None, Some, refl, sym, subst}
use Rattle.std.specs.Prelude.{IfSome, ⊤}
use Rattle.std.proofs.lemmas.List.Elements.{All-cons, All-nil}
use Rattle.bal_base.specs.declared.place.Place.{Place}
use Rattle.bal_tree.specs.declared.expr.BinaryOp.{BinaryOp}
use Rattle.bal_tree.specs.declared.expr.BinaryOp.TheVariants as op
use Rattle.bal_tree.specs.declared.expr.Call.TheOpen as layer
use Rattle.bal_tree.specs.declared.expr.Call.{Call, Call-F, roll-Call, map-Call, fold-roll-Call, ind-Call}
use Rattle.bal_tree.specs.declared.expr.Expr.{Expr, Expr-F, roll-Expr, map-Expr, fold-roll-Expr, ind-Expr}
use Rattle.bal_tree.specs.declared.expr.Key.{Key, Key-F, roll-Key, map-Key, fold-roll-Key}
use Rattle.bal_tree.specs.declared.expr.Postfix.{Postfix, Postfix-F, roll-Postfix, map-Postfix, fold-roll-Postfix, ind-Postfix}
use Rattle.bal_tree.specs.declared.expr.Primary.{Primary, Primary-F, roll-Primary, map-Primary, fold-roll-Primary, ind-Primary}
use Rattle.bal_tree.specs.declared.expr.Detail.{Detail, Detail-F, roll-Detail, map-Detail, fold-roll-Detail}
use Rattle.bal_tree.specs.declared.expr.Member.{Member, Member-F, roll-Member, map-Member, fold-roll-Member}
use Rattle.bal_tree.specs.ExprLayers.{CallOf, DetailOf, ExprOf, KeyOf, MemberOf, PostfixOf, PrimaryOf}
use Rattle.checks.specs.Checks.{Gives, ◌▷◌}
use Rattle.descriptors.specs.declared.names.Names.{Names}
use Rattle.needs.specs.Needs.{all_met}
use Rattle.type_model.specs.declared.answers.TypeLimit.{TypeLimit}
use Rattle.type_model.specs.declared.atoms.AtomDef.{AtomDef}
use Rattle.type_model.specs.Calls.{Asked}
use Rattle.typed_tree.specs.Listed.{Listed, nothing, one, ◌&◌}
use Rattle.expr_needs.specs.declared.expected.Expected.{Expected}
use Rattle.expr_needs.specs.ExprTable.{Reading, binary_needs, call_step, detail_step, expr_step, key_step, member_step, postfix_step, primary_step, read_call, read_detail, read_expr, read_key, read_member, read_postfix, read_primary, reading}
use Rattle.expr_needs.specs.Needs.{Need, GivesNamed, Starts}
use Rattle.expr_needs.specs.Operators.{family_of}
use Rattle.check_words.specs.Meets.{meets}
use Rattle.check_words.specs.State.{State}
use Rattle.check_laws.specs.Laws.{IsOneMore, IsReady, KeepsPositions, PositionsAreKept}
use Rattle.tree_promises.specs.Laws.{MadeExprsKeepFlows}
use Rattle.typed_needs.specs.WholeRuns.{AllRunsGoOn}
use Rattle.calm_needs.specs.Calm.{NeedsAreCalm}
use Rattle.calm_needs.specs.Staying.{WaysStayOn}
use Rattle.typed_exprs.specs.Lines.{Leaves, Run}
use Rattle.typed_exprs.proofs.Steps.{more-path}
use Rattle.flow_needs.specs.Runs.{KnowsFlow}
use Rattle.flow_needs.proofs.Anonymous.{anonymous-line}
use Rattle.flow_needs.proofs.Lines.{both as both-ways, conditional, enclosed, filled, name, prefixed, tested, trapped}
use Rattle.flow_needs.proofs.MemberLines.{GrowsFreely, computed, detail, error, function, keyed, mapping, member, no-method, started}
use Rattle.flow_needs.proofs.Stepping.{FlowLine}
use Rattle.flow_needs.proofs.StrictLines.{binary, cast, element, field, list, literal, method, optional}

-- all that is known of one package and the atoms at its end
pub record AllKnown (passes : List AtomDef → Asked → TypeLimit → Type 0) (names : Names) (env : List AtomDef) : Type 0 where
  pub positions : PositionsAreKept passes names
  pub goes : AllRunsGoOn passes names
  pub calm : NeedsAreCalm passes names
  pub stay : WaysStayOn passes names
  pub flows : MadeExprsKeepFlows

module _ (passes : List AtomDef → Asked → TypeLimit → Type 0) (names : Names) (env : List AtomDef) (l : AllKnown passes names env) where
  -- ---- what is left behind

  -- that each state stands is more than that all needs are met
  pub only-met : (needs : Listed Need) (old new : State) → Run passes names env needs old new → all_met (meets passes names) needs old (Gives tt) new
  unfolding ◌▷◌
  only-met nothing old new run = run
  only-met (one need) old new run = run.0
  only-met (p & q) old new (u, mid, a, b) = (u, mid, only-met p old mid a, only-met q mid new b)

  abbrev LeavesOf : Reading → Type 0
  LeavesOf r = Leaves passes names env r.needs

  expr-leaves : (x : Expr) → LeavesOf (read_expr x)
  expr-leaves x e old new ready run =
      let met = only-met ((read_expr x).needs e) old new run in
      let positions : KeepsPositions passes names (IsReady e) IsOneMore ((read_expr x).needs e) = l.positions.expr x e in
      let more : IsOneMore old new = positions.comes old new ready met in
      record { more = more; path = more-path old new (l.goes.expr x e old new ready met) more }

  -- ---- one layer of a reading, of whose parts it is known

  abbrev Known : Reading → Type 0
  Known = KnowsFlow passes names env

  abbrev Says : (Expected → Listed Need) → Type 0
  Says = FlowLine passes names env

  abbrev Grows : Reading → Type 0
  Grows = GrowsFreely passes names env l.calm l.flows

  -- what a line says of its reading, whose name is that of a name alone
  record LineOf (r : Reading) : Type 0 where
    pub line : Says r.needs
    pub named : IfSome r.name (λ q. r.needs ≡ (λ e. one (GivesNamed q)))

  known-of : (r : Reading) → LeavesOf r → LineOf r → Known r
  known-of r leaves h = record { claim = h.line leaves; leaves = leaves; named = h.named }

  line-known : (r : Reading) → Known r → LineOf r
  line-known r k = record { line = λ leaves. k.claim; named = k.named }

  abbrev GoodExpr : ExprOf Reading → Type 0
  GoodExpr (layer.Postfix a) = Known a
  GoodExpr (layer.Prefix o a at) = Known a.value
  GoodExpr (layer.Cast type a at) = Known a.value
  GoodExpr (layer.Binary a o b at) = Known a.value × Known b.value
  GoodExpr (layer.TypeTest a type at) = Known a.value
  GoodExpr (layer.Conditional c a b at) = Known c.value × Known a.value × Known b.value
  GoodExpr (layer.Trap a at) = Known a.value
  GoodExpr (layer.«Expr::Function» isolated ps result v at) = Known v.value

  pairs : (o : BinaryOp) (a b : Reading) (at : Place) → Known a → Known b → Says (λ e. binary_needs (family_of o) a b at e)
  pairs op.And a b at ka kb = both-ways passes names env l.calm l.stay l.flows true a b at ka kb
  pairs op.Or a b at ka kb = both-ways passes names env l.calm l.stay l.flows false a b at ka kb
  pairs op.Elvis a b at ka kb = filled passes names env l.calm l.stay l.flows a b at ka kb
  pairs op.Multiply a b at ka kb = binary passes names env l.calm l.flows (family_of op.Multiply) tt a b at ka kb
  pairs op.Divide a b at ka kb = binary passes names env l.calm l.flows (family_of op.Divide) tt a b at ka kb
  pairs op.Remainder a b at ka kb = binary passes names env l.calm l.flows (family_of op.Remainder) tt a b at ka kb
  pairs op.Subtract a b at ka kb = binary passes names env l.calm l.flows (family_of op.Subtract) tt a b at ka kb
  pairs op.Add a b at ka kb = binary passes names env l.calm l.flows (family_of op.Add) tt a b at ka kb
  pairs op.Less a b at ka kb = binary passes names env l.calm l.flows (family_of op.Less) tt a b at ka kb
  pairs op.LessEqual a b at ka kb = binary passes names env l.calm l.flows (family_of op.LessEqual) tt a b at ka kb
  pairs op.Greater a b at ka kb = binary passes names env l.calm l.flows (family_of op.Greater) tt a b at ka kb
  pairs op.GreaterEqual a b at ka kb = binary passes names env l.calm l.flows (family_of op.GreaterEqual) tt a b at ka kb
  pairs op.Equal a b at ka kb = binary passes names env l.calm l.flows (family_of op.Equal) tt a b at ka kb
  pairs op.NotEqual a b at ka kb = binary passes names env l.calm l.flows (family_of op.NotEqual) tt a b at ka kb
  pairs op.Same a b at ka kb = binary passes names env l.calm l.flows (family_of op.Same) tt a b at ka kb
  pairs op.NotSame a b at ka kb = binary passes names env l.calm l.flows (family_of op.NotSame) tt a b at ka kb

  expr-of : (z : ExprOf Reading) → GoodExpr z → LineOf (expr_step z)
  expr-of (layer.Postfix a) k = line-known a k
  expr-of (layer.Prefix o a at) k = record { line = prefixed passes names env l.calm l.stay l.flows o a.value at k; named = tt }
  expr-of (layer.Cast type a at) k = record { line = cast passes names env l.calm l.flows type.value a.value at k; named = tt }
  expr-of (layer.Binary a o b at) k = record { line = pairs o a.value b.value at k.0 k.1; named = tt }
  expr-of (layer.TypeTest a type at) k = record { line = tested passes names env l.calm l.stay l.flows type.value a.value at k; named = tt }
  expr-of (layer.Conditional c a b at) k = record { line = conditional passes names env l.calm l.stay l.flows c.value a.value b.value at k.0 k.1 k.2; named = tt }
  expr-of (layer.Trap a at) k = record { line = trapped passes names env l.calm l.stay l.flows a.value at k; named = tt }
  expr-of (layer.«Expr::Function» isolated ps result v at) k = record { line = anonymous-line passes names env l.flows isolated ps result.value v.value at k; named = tt }

  abbrev GoodPostfix : PostfixOf Reading → Type 0
  GoodPostfix (layer.Primary a) = Known a
  GoodPostfix (layer.Call a) = Known a
  GoodPostfix (layer.Field a field at) = Known a.value
  GoodPostfix (layer.OptionalField a field at) = Known a.value
  GoodPostfix (layer.Index a i at) = Known a.value × Known i.value

  postfix-of : (z : PostfixOf Reading) → GoodPostfix z → LineOf (postfix_step z)
  postfix-of (layer.Primary a) k = line-known a k
  postfix-of (layer.Call a) k = line-known a k
  postfix-of (layer.Field a w at) k = record { line = field passes names env l.calm l.flows a.value w at k; named = tt }
  postfix-of (layer.OptionalField a w at) k = record { line = optional passes names env l.calm l.flows a.value w at k; named = tt }
  postfix-of (layer.Index a i at) k = record { line = element passes names env l.calm l.flows a.value i.value at k.0 k.1; named = tt }

  abbrev GoodCall : CallOf Reading → Type 0
  GoodCall (layer.«Call::Function» f args at) = Known f.value × All Known args.items
  GoodCall (layer.Method a m args at) = Known a.value × All Known args.items

  -- a call as it is made, and as it is started
  pub record CallFlow (r : Reading) : Type 0 where
    pub made : Known r
    pub started : (here behind : Place) → Says (λ e. r.starts & one (Starts here behind))

  call-of : (z : CallOf Reading) → GoodCall z → LineOf (call_step z)
  call-of (layer.«Call::Function» f args at) k = record { line = function passes names env l.calm l.flows f.value args.items at k.0 k.1; named = tt }
  call-of (layer.Method a m args at) k = record { line = method passes names env l.calm l.flows a.value m args.items at k.0 k.1; named = tt }

  starts-of : (z : CallOf Reading) → GoodCall z → (here behind : Place) → Says (λ e. (call_step z).starts & one (Starts here behind))
  starts-of (layer.«Call::Function» f args at) k here behind = started passes names env l.calm l.flows f.value args.items at here behind k.0 k.1
  starts-of (layer.Method a m args at) k here behind = no-method passes names env l.calm l.flows a.value m here behind

  abbrev GoodKey : KeyOf Reading → Type 0
  GoodKey (layer.Word w) = ⊤
  GoodKey (layer.Str text at) = ⊤
  GoodKey (layer.Computed a at) = Known a.value

  key-of : (z : KeyOf Reading) → GoodKey z → Grows (key_step z)
  key-of (layer.Word w) k place around live slots = keyed passes names env l.calm l.flows place around live slots w.name w.at
  key-of (layer.Str text at) k place around live slots = keyed passes names env l.calm l.flows place around live slots text at
  key-of (layer.Computed a at) k place around live slots = computed passes names env l.calm l.flows place around live slots a.value k

  abbrev GoodPrimary : PrimaryOf Reading → Type 0
  GoodPrimary (layer.Literal x) = ⊤
  GoodPrimary (layer.Name q) = ⊤
  GoodPrimary (layer.Parens a at) = Known a.value
  GoodPrimary (layer.List items at) = All Known items.items
  GoodPrimary (layer.Mapping ms at) = All Grows ms.items
  GoodPrimary (layer.Error m c ds at) = Known m.value × IfSome c (λ x. Known x.value) × All Grows ds.items

  primary-of : (z : PrimaryOf Reading) → GoodPrimary z → LineOf (primary_step z)
  primary-of (layer.Literal x) k = record { line = literal passes names env l.calm l.flows x; named = tt }
  primary-of (layer.Name q) k = record { line = name passes names env l.calm l.stay l.flows q; named = refl }
  primary-of (layer.Parens a at) k = record { line = enclosed passes names env l.calm l.stay l.flows a.value at k; named = tt }
  primary-of (layer.List items at) k = record { line = list passes names env l.calm l.flows items.items at k; named = tt }
  primary-of (layer.Mapping ms at) k = record { line = mapping passes names env l.calm l.flows ms.items at k; named = tt }
  primary-of (layer.Error m c ds at) k = record { line = error passes names env l.calm l.flows m.value c ds.items at k.0 k.1 k.2; named = tt }

  -- ---- the claims

  abbrev ClaimCall : Call → Type 0
  ClaimCall e = CallFlow (read_call e)

  abbrev ACall : Type 0
  ACall = (e : Call) × ClaimCall e

  abbrev ClaimExpr : Expr → Type 0
  ClaimExpr e = Known (read_expr e)

  abbrev AnExpr : Type 0
  AnExpr = (e : Expr) × ClaimExpr e

  abbrev ClaimKey : Key → Type 0
  ClaimKey e = Grows (read_key e)

  abbrev AKey : Type 0
  AKey = (e : Key) × ClaimKey e

  abbrev ClaimPostfix : Postfix → Type 0
  ClaimPostfix e = Known (read_postfix e)

  abbrev APostfix : Type 0
  APostfix = (e : Postfix) × ClaimPostfix e

  abbrev ClaimPrimary : Primary → Type 0
  ClaimPrimary e = Known (read_primary e)

  abbrev APrimary : Type 0
  APrimary = (e : Primary) × ClaimPrimary e

  abbrev ClaimDetail : Detail → Type 0
  ClaimDetail e = Grows (read_detail e)

  abbrev ADetail : Type 0
  ADetail = (e : Detail) × ClaimDetail e

  abbrev ClaimMember : Member → Type 0
  ClaimMember e = Grows (read_member e)

  abbrev AMember : Type 0
  AMember = (e : Member) × ClaimMember e

  known-exprs : (es : List AnExpr) → All Known (map read_expr (map (λ e. e.0) es))
  known-exprs [] = All-nil _
  known-exprs (e ∷ es) = All-cons Known (read_expr e.0) (map read_expr (map (λ e. e.0) es)) e.1 (known-exprs es)

  known-members : (ms : List AMember) → All Grows (map read_member (map (λ m. m.0) ms))
  known-members [] = All-nil _
  known-members (m ∷ ms) = All-cons Grows (read_member m.0) (map read_member (map (λ m. m.0) ms)) m.1 (known-members ms)

  known-details : (ds : List ADetail) → All Grows (map read_detail (map (λ d. d.0) ds))
  known-details [] = All-nil _
  known-details (d ∷ ds) = All-cons Grows (read_detail d.0) (map read_detail (map (λ d. d.0) ds)) d.1 (known-details ds)

  abbrev firsts_of_call : Call-F ACall AnExpr AKey APostfix APrimary ADetail AMember → Call-F Call Expr Key Postfix Primary Detail Member
  firsts_of_call = map-Call ACall AnExpr AKey APostfix APrimary ADetail AMember Call Expr Key Postfix Primary Detail Member (λ e. e.0) (λ e. e.0) (λ e. e.0) (λ e. e.0) (λ e. e.0) (λ e. e.0) (λ e. e.0)

  abbrev parts_of_call : Call-F Call Expr Key Postfix Primary Detail Member → CallOf Reading
  parts_of_call = map-Call Call Expr Key Postfix Primary Detail Member Reading Reading Reading Reading Reading Reading Reading read_call read_expr read_key read_postfix read_primary read_detail read_member

  rolled-call : (x : Call-F Call Expr Key Postfix Primary Detail Member) → read_call (roll-Call x) ≡ reading.call (parts_of_call x)
  rolled-call x = fold-roll-Call Reading Reading Reading Reading Reading Reading Reading reading.call reading.expr reading.key reading.postfix reading.primary reading.detail reading.member x

  abbrev firsts_of_expr : Expr-F ACall AnExpr AKey APostfix APrimary ADetail AMember → Expr-F Call Expr Key Postfix Primary Detail Member
  firsts_of_expr = map-Expr ACall AnExpr AKey APostfix APrimary ADetail AMember Call Expr Key Postfix Primary Detail Member (λ e. e.0) (λ e. e.0) (λ e. e.0) (λ e. e.0) (λ e. e.0) (λ e. e.0) (λ e. e.0)

  abbrev parts_of_expr : Expr-F Call Expr Key Postfix Primary Detail Member → ExprOf Reading
  parts_of_expr = map-Expr Call Expr Key Postfix Primary Detail Member Reading Reading Reading Reading Reading Reading Reading read_call read_expr read_key read_postfix read_primary read_detail read_member

  rolled-expr : (x : Expr-F Call Expr Key Postfix Primary Detail Member) → read_expr (roll-Expr x) ≡ reading.expr (parts_of_expr x)
  rolled-expr x = fold-roll-Expr Reading Reading Reading Reading Reading Reading Reading reading.call reading.expr reading.key reading.postfix reading.primary reading.detail reading.member x

  abbrev firsts_of_key : Key-F ACall AnExpr AKey APostfix APrimary ADetail AMember → Key-F Call Expr Key Postfix Primary Detail Member
  firsts_of_key = map-Key ACall AnExpr AKey APostfix APrimary ADetail AMember Call Expr Key Postfix Primary Detail Member (λ e. e.0) (λ e. e.0) (λ e. e.0) (λ e. e.0) (λ e. e.0) (λ e. e.0) (λ e. e.0)

  abbrev parts_of_key : Key-F Call Expr Key Postfix Primary Detail Member → KeyOf Reading
  parts_of_key = map-Key Call Expr Key Postfix Primary Detail Member Reading Reading Reading Reading Reading Reading Reading read_call read_expr read_key read_postfix read_primary read_detail read_member

  rolled-key : (x : Key-F Call Expr Key Postfix Primary Detail Member) → read_key (roll-Key x) ≡ reading.key (parts_of_key x)
  rolled-key x = fold-roll-Key Reading Reading Reading Reading Reading Reading Reading reading.call reading.expr reading.key reading.postfix reading.primary reading.detail reading.member x

  abbrev firsts_of_postfix : Postfix-F ACall AnExpr AKey APostfix APrimary ADetail AMember → Postfix-F Call Expr Key Postfix Primary Detail Member
  firsts_of_postfix = map-Postfix ACall AnExpr AKey APostfix APrimary ADetail AMember Call Expr Key Postfix Primary Detail Member (λ e. e.0) (λ e. e.0) (λ e. e.0) (λ e. e.0) (λ e. e.0) (λ e. e.0) (λ e. e.0)

  abbrev parts_of_postfix : Postfix-F Call Expr Key Postfix Primary Detail Member → PostfixOf Reading
  parts_of_postfix = map-Postfix Call Expr Key Postfix Primary Detail Member Reading Reading Reading Reading Reading Reading Reading read_call read_expr read_key read_postfix read_primary read_detail read_member

  rolled-postfix : (x : Postfix-F Call Expr Key Postfix Primary Detail Member) → read_postfix (roll-Postfix x) ≡ reading.postfix (parts_of_postfix x)
  rolled-postfix x = fold-roll-Postfix Reading Reading Reading Reading Reading Reading Reading reading.call reading.expr reading.key reading.postfix reading.primary reading.detail reading.member x

  abbrev firsts_of_primary : Primary-F ACall AnExpr AKey APostfix APrimary ADetail AMember → Primary-F Call Expr Key Postfix Primary Detail Member
  firsts_of_primary = map-Primary ACall AnExpr AKey APostfix APrimary ADetail AMember Call Expr Key Postfix Primary Detail Member (λ e. e.0) (λ e. e.0) (λ e. e.0) (λ e. e.0) (λ e. e.0) (λ e. e.0) (λ e. e.0)

  abbrev parts_of_primary : Primary-F Call Expr Key Postfix Primary Detail Member → PrimaryOf Reading
  parts_of_primary = map-Primary Call Expr Key Postfix Primary Detail Member Reading Reading Reading Reading Reading Reading Reading read_call read_expr read_key read_postfix read_primary read_detail read_member

  rolled-primary : (x : Primary-F Call Expr Key Postfix Primary Detail Member) → read_primary (roll-Primary x) ≡ reading.primary (parts_of_primary x)
  rolled-primary x = fold-roll-Primary Reading Reading Reading Reading Reading Reading Reading reading.call reading.expr reading.key reading.postfix reading.primary reading.detail reading.member x

  abbrev firsts_of_detail : Detail-F ACall AnExpr AKey APostfix APrimary ADetail AMember → Detail-F Call Expr Key Postfix Primary Detail Member
  firsts_of_detail = map-Detail ACall AnExpr AKey APostfix APrimary ADetail AMember Call Expr Key Postfix Primary Detail Member (λ e. e.0) (λ e. e.0) (λ e. e.0) (λ e. e.0) (λ e. e.0) (λ e. e.0) (λ e. e.0)

  abbrev parts_of_detail : Detail-F Call Expr Key Postfix Primary Detail Member → DetailOf Reading
  parts_of_detail = map-Detail Call Expr Key Postfix Primary Detail Member Reading Reading Reading Reading Reading Reading Reading read_call read_expr read_key read_postfix read_primary read_detail read_member

  rolled-detail : (x : Detail-F Call Expr Key Postfix Primary Detail Member) → read_detail (roll-Detail x) ≡ reading.detail (parts_of_detail x)
  rolled-detail x = fold-roll-Detail Reading Reading Reading Reading Reading Reading Reading reading.call reading.expr reading.key reading.postfix reading.primary reading.detail reading.member x

  abbrev firsts_of_member : Member-F ACall AnExpr AKey APostfix APrimary ADetail AMember → Member-F Call Expr Key Postfix Primary Detail Member
  firsts_of_member = map-Member ACall AnExpr AKey APostfix APrimary ADetail AMember Call Expr Key Postfix Primary Detail Member (λ e. e.0) (λ e. e.0) (λ e. e.0) (λ e. e.0) (λ e. e.0) (λ e. e.0) (λ e. e.0)

  abbrev parts_of_member : Member-F Call Expr Key Postfix Primary Detail Member → MemberOf Reading
  parts_of_member = map-Member Call Expr Key Postfix Primary Detail Member Reading Reading Reading Reading Reading Reading Reading read_call read_expr read_key read_postfix read_primary read_detail read_member

  rolled-member : (x : Member-F Call Expr Key Postfix Primary Detail Member) → read_member (roll-Member x) ≡ reading.member (parts_of_member x)
  rolled-member x = fold-roll-Member Reading Reading Reading Reading Reading Reading Reading reading.call reading.expr reading.key reading.postfix reading.primary reading.detail reading.member x

  -- ---- one layer of a tree

  good-expr : (y : Expr-F ACall AnExpr AKey APostfix APrimary ADetail AMember) → GoodExpr (parts_of_expr (firsts_of_expr y))
  good-expr (layer.Postfix a) = a.1
  good-expr (layer.Prefix o a at) = a.value.1
  good-expr (layer.Cast type a at) = a.value.1
  good-expr (layer.Binary a o b at) = (a.value.1, b.value.1)
  good-expr (layer.TypeTest a type at) = a.value.1
  good-expr (layer.Conditional c a b at) = (c.value.1, a.value.1, b.value.1)
  good-expr (layer.Trap a at) = a.value.1
  good-expr (layer.«Expr::Function» isolated ps result v at) = v.value.1

  good-postfix : (y : Postfix-F ACall AnExpr AKey APostfix APrimary ADetail AMember) → GoodPostfix (parts_of_postfix (firsts_of_postfix y))
  good-postfix (layer.Primary a) = a.1
  good-postfix (layer.Call a) = a.1.made
  good-postfix (layer.Field a field at) = a.value.1
  good-postfix (layer.OptionalField a field at) = a.value.1
  good-postfix (layer.Index a i at) = (a.value.1, i.value.1)

  good-call : (y : Call-F ACall AnExpr AKey APostfix APrimary ADetail AMember) → GoodCall (parts_of_call (firsts_of_call y))
  good-call (layer.«Call::Function» f args at) = (f.value.1, known-exprs args.items)
  good-call (layer.Method a m args at) = (a.value.1, known-exprs args.items)

  good-key : (y : Key-F ACall AnExpr AKey APostfix APrimary ADetail AMember) → GoodKey (parts_of_key (firsts_of_key y))
  good-key (layer.Word w) = tt
  good-key (layer.Str text at) = tt
  good-key (layer.Computed a at) = a.value.1

  good-primary : (y : Primary-F ACall AnExpr AKey APostfix APrimary ADetail AMember) → GoodPrimary (parts_of_primary (firsts_of_primary y))
  good-primary (layer.Literal x) = tt
  good-primary (layer.Name q) = tt
  good-primary (layer.Parens a at) = a.value.1
  good-primary (layer.List items at) = known-exprs items.items
  good-primary (layer.Mapping ms at) = known-members ms.items
  good-primary (layer.Error m None ds at) = (m.value.1, tt, known-details ds.items)
  good-primary (layer.Error m (Some c) ds at) = (m.value.1, c.value.1, known-details ds.items)

  detail-of : (y : Detail-F ACall AnExpr AKey APostfix APrimary ADetail AMember) → Grows (detail_step (parts_of_detail (firsts_of_detail y)))
  detail-of y place around live slots =
      let d = parts_of_detail (firsts_of_detail y) in detail passes names env l.calm l.flows place around live slots d.name.name d.name.at d.value.value y.value.value.1

  member-of : (y : Member-F ACall AnExpr AKey APostfix APrimary ADetail AMember) → Grows (member_step (parts_of_member (firsts_of_member y)))
  member-of y place around live slots =
      let m = parts_of_member (firsts_of_member y) in
      member passes names env l.calm l.flows place around live slots m.key m.value.value (let g : Grows (read_key y.key.0) = y.key.1 in g place around live slots) y.value.value.1

  -- ---- what is left behind, from the layers of expressions

  postfix-leaves : (x : Postfix) → LeavesOf (read_postfix x)
  postfix-leaves x = subst LeavesOf (rolled-expr (layer.Postfix x)) (expr-leaves (roll-Expr (layer.Postfix x)))

  primary-leaves : (x : Primary) → LeavesOf (read_primary x)
  primary-leaves x = subst LeavesOf (rolled-postfix (layer.Primary x)) (postfix-leaves (roll-Postfix (layer.Primary x)))

  call-leaves : (x : Call) → LeavesOf (read_call x)
  call-leaves x = subst LeavesOf (rolled-postfix (layer.Call x)) (postfix-leaves (roll-Postfix (layer.Call x)))

  -- a line of the layer, with what it leaves
  rolled-known : (r s : Reading) → r ≡ s → LeavesOf r → LineOf s → Known r
  rolled-known r s is leaves h = subst Known (sym is) (known-of s (subst LeavesOf is leaves) h)

  -- ---- the whole

  call-step : (x : Call-F Call Expr Key Postfix Primary Detail Member) (y : Call-F ACall AnExpr AKey APostfix APrimary ADetail AMember) → firsts_of_call y ≡ x → ClaimCall (roll-Call x)
  call-step x y is =
      subst (λ z. ClaimCall (roll-Call z)) is
      (let at-y = firsts_of_call y in
      let parts = parts_of_call at-y in
      record {
        made = rolled-known (read_call (roll-Call at-y)) (call_step parts) (rolled-call at-y) (call-leaves (roll-Call at-y)) (call-of parts (good-call y));
        started = λ here behind. subst (λ (r : Reading). Says (λ e. r.starts & one (Starts here behind))) (sym (rolled-call at-y)) (starts-of parts (good-call y) here behind);
      })

  expr-step : (x : Expr-F Call Expr Key Postfix Primary Detail Member) (y : Expr-F ACall AnExpr AKey APostfix APrimary ADetail AMember) → firsts_of_expr y ≡ x → ClaimExpr (roll-Expr x)
  expr-step x y is =
      subst (λ z. ClaimExpr (roll-Expr z)) is
      (let at-y = firsts_of_expr y in
      rolled-known (read_expr (roll-Expr at-y)) (expr_step (parts_of_expr at-y)) (rolled-expr at-y) (expr-leaves (roll-Expr at-y)) (expr-of (parts_of_expr at-y) (good-expr y)))

  key-step : (x : Key-F Call Expr Key Postfix Primary Detail Member) (y : Key-F ACall AnExpr AKey APostfix APrimary ADetail AMember) → firsts_of_key y ≡ x → ClaimKey (roll-Key x)
  key-step x y is =
      subst (λ z. ClaimKey (roll-Key z)) is (subst Grows (sym (rolled-key (firsts_of_key y))) (key-of (parts_of_key (firsts_of_key y)) (good-key y)))

  postfix-step : (x : Postfix-F Call Expr Key Postfix Primary Detail Member) (y : Postfix-F ACall AnExpr AKey APostfix APrimary ADetail AMember) → firsts_of_postfix y ≡ x
      → ClaimPostfix (roll-Postfix x)
  postfix-step x y is =
      subst (λ z. ClaimPostfix (roll-Postfix z)) is
      (let at-y = firsts_of_postfix y in
      rolled-known (read_postfix (roll-Postfix at-y)) (postfix_step (parts_of_postfix at-y)) (rolled-postfix at-y) (postfix-leaves (roll-Postfix at-y))
      (postfix-of (parts_of_postfix at-y) (good-postfix y)))

  primary-step : (x : Primary-F Call Expr Key Postfix Primary Detail Member) (y : Primary-F ACall AnExpr AKey APostfix APrimary ADetail AMember) → firsts_of_primary y ≡ x
      → ClaimPrimary (roll-Primary x)
  primary-step x y is =
      subst (λ z. ClaimPrimary (roll-Primary z)) is
      (let at-y = firsts_of_primary y in
      rolled-known (read_primary (roll-Primary at-y)) (primary_step (parts_of_primary at-y)) (rolled-primary at-y) (primary-leaves (roll-Primary at-y))
      (primary-of (parts_of_primary at-y) (good-primary y)))

  detail-step : (x : Detail-F Call Expr Key Postfix Primary Detail Member) (y : Detail-F ACall AnExpr AKey APostfix APrimary ADetail AMember) → firsts_of_detail y ≡ x → ClaimDetail (roll-Detail x)
  detail-step x y is =
      subst (λ z. ClaimDetail (roll-Detail z)) is (subst Grows (sym (rolled-detail (firsts_of_detail y))) (detail-of y))

  member-step : (x : Member-F Call Expr Key Postfix Primary Detail Member) (y : Member-F ACall AnExpr AKey APostfix APrimary ADetail AMember) → firsts_of_member y ≡ x → ClaimMember (roll-Member x)
  member-step x y is =
      subst (λ z. ClaimMember (roll-Member z)) is (subst Grows (sym (rolled-member (firsts_of_member y))) (member-of y))

  pub expr-known : (e : Expr) → ClaimExpr e
  expr-known = ind-Expr ClaimCall ClaimExpr ClaimKey ClaimPostfix ClaimPrimary ClaimDetail ClaimMember call-step expr-step key-step postfix-step primary-step detail-step member-step

  pub postfix-known : (e : Postfix) → ClaimPostfix e
  postfix-known = ind-Postfix ClaimCall ClaimExpr ClaimKey ClaimPostfix ClaimPrimary ClaimDetail ClaimMember call-step expr-step key-step postfix-step primary-step detail-step member-step

  pub primary-known : (e : Primary) → ClaimPrimary e
  primary-known = ind-Primary ClaimCall ClaimExpr ClaimKey ClaimPostfix ClaimPrimary ClaimDetail ClaimMember call-step expr-step key-step postfix-step primary-step detail-step member-step

  pub call-known : (e : Call) → ClaimCall e
  call-known = ind-Call ClaimCall ClaimExpr ClaimKey ClaimPostfix ClaimPrimary ClaimDetail ClaimMember call-step expr-step key-step postfix-step primary-step detail-step member-step
