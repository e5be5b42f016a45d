-- No need of an expression or of an action ends anything, by induction on trees.
use Rattle.std.proofs.Common.{Bool, List, None, Option, Some, [], false, map, subst, sym, true, ℕ, ◌∷◌, ◌≡◌}
use Rattle.std.specs.Prelude.{⊤}
use Rattle.bal_base.specs.declared.place.Place.{Place}
use Rattle.bal_tree.specs.ExprLayers.{CallOf, DetailOf, ExprOf, KeyOf, MemberOf, PostfixOf, PrimaryOf}
use Rattle.bal_tree.specs.declared.action.Action.{Action, Flush, Prefix', Receive, Send, Start, SyncSend, WaitAll, WaitAny}
use Rattle.bal_tree.specs.declared.action.ActionOp.TheVariants.{Check, CheckPanic, Trap}
use Rattle.bal_tree.specs.declared.action.Rhs.TheVariants.{Action as ActionRhs, Expr as ExprRhs}
use Rattle.bal_tree.specs.declared.action.Rhs.{Rhs}
use Rattle.bal_tree.specs.declared.expr.Call.TheOpen as layer
use Rattle.bal_tree.specs.declared.expr.Call.{Call, Call-F, fold-roll-Call, ind-Call, map-Call, roll-Call}
use Rattle.bal_tree.specs.declared.expr.Detail.{Detail, Detail-F, fold-roll-Detail, map-Detail, roll-Detail}
use Rattle.bal_tree.specs.declared.expr.Expr.{Expr, Expr-F, fold-roll-Expr, ind-Expr, map-Expr, roll-Expr}
use Rattle.bal_tree.specs.declared.expr.Key.{Key, Key-F, fold-roll-Key, map-Key, roll-Key}
use Rattle.bal_tree.specs.declared.expr.Member.{Member, Member-F, fold-roll-Member, map-Member, roll-Member}
use Rattle.bal_tree.specs.declared.expr.Postfix.{Postfix, Postfix-F, fold-roll-Postfix, ind-Postfix, map-Postfix, roll-Postfix}
use Rattle.bal_tree.specs.declared.expr.PrefixOp.TheVariants as prefix
use Rattle.bal_tree.specs.declared.expr.PrefixOp.{PrefixOp}
use Rattle.bal_tree.specs.declared.expr.Primary.{Primary, Primary-F, fold-roll-Primary, ind-Primary, map-Primary, roll-Primary}
use Rattle.bal_tree.specs.declared.name.QualifiedName.{QualifiedName}
use Rattle.bal_tree.specs.declared.params.Param.{Param}
use Rattle.expr_needs.specs.ActionTable.{action_needs, await_member_needs, await_needs, checked_needs, read_rhs}
use Rattle.expr_needs.specs.ExprTable.{Reading, argument_needs, binary_needs, callee_needs, freely, item_needs, parameter_needs, read_call, read_detail, read_expr, read_key, read_member, read_postfix, read_primary, reading, rest_needs}
use Rattle.expr_needs.specs.Needs.{Need}
use Rattle.expr_needs.specs.Operators.{family_of, left_needs, made_of, prefix_needs, right_needs}
use Rattle.expr_needs.specs.declared.expected.Expected.TheVariants.{Immutable, Nothing, Wanted}
use Rattle.expr_needs.specs.declared.expected.Expected.{Expected}
use Rattle.expr_needs.specs.declared.operators.Family.TheVariants.{Arithmetic, Condition, Elvis, Equality, Identity, Order, Sum}
use Rattle.expr_needs.specs.declared.operators.Family.{Family}
use Rattle.kept_done.specs.Done.{EndsNone}
use Rattle.needs.specs.Needs.{in_turn, in_turn_from}
use Rattle.typed_tree.specs.Listed.{Listed, if_there, nothing, one, ◌&◌}

-- ---- what is listed

abbrev pub Free : Listed Need → Type 0
Free nothing = ⊤
Free (one n) = EndsNone n
Free (p & q) = Free p × Free q

pub free-turn : {X : Type 0} (f : X → Listed Need) → ((x : X) → Free (f x)) → (xs : List X) (start : Listed Need) → Free start → Free (in_turn_from start f xs)
free-turn f each [] start begun = begun
free-turn f each (x ∷ xs) start begun = free-turn f each xs (start & f x) (begun, each x)

-- `read` are things of which the claim is known
pub free-turn-of : {X Y : Type 0} {C : X → Type 0} (read : X → Y) (f : Y → Listed Need) → ((x : X) → C x → Free (f (read x))) → (xs : List ((x : X) × C x)) (start : Listed Need)
    → Free start → Free (in_turn_from start f (map read (map (λ x. x.0) xs)))
free-turn-of read f each [] start begun = begun
free-turn-of read f each (x ∷ xs) start begun = free-turn-of read f each xs (start & f (read x.0)) (begun, each x.0 x.1)

-- of what is read of an expression, be it started or not
abbrev pub FreeIn : Reading → Type 0
FreeIn a = ((e : Expected) → Free (a.needs e)) × Free a.starts

-- ---- operators, calls and parameters

left-free : (f : Family) (at : Place) → Free (left_needs f at)
left-free (Arithmetic o) at = tt
left-free Sum at = (tt, tt)
left-free (Order o) at = (tt, tt)
left-free (Equality o) at = tt
left-free (Identity o) at = tt
left-free (Condition holds) at = (tt, tt)
left-free Elvis at = tt

right-free : (f : Family) (at : Place) → Free (right_needs f at)
right-free (Arithmetic o) at = tt
right-free Sum at = tt
right-free (Order o) at = tt
right-free (Equality o) at = tt
right-free (Identity o) at = tt
right-free (Condition holds) at = tt
right-free Elvis at = tt

made-free : (f : Family) (at : Place) → EndsNone (made_of f at)
made-free (Arithmetic o) at = tt
made-free Sum at = tt
made-free (Order o) at = tt
made-free (Equality o) at = tt
made-free (Identity o) at = tt
made-free (Condition true) at = tt
made-free (Condition false) at = tt
made-free Elvis at = tt

binary-free : (f : Family) (a b : Reading) (at : Place) (e : Expected) → FreeIn a → FreeIn b → Free (binary_needs f a b at e)
binary-free f a b at e c d = ((c.0 _, left-free f a.at), ((d.0 _, right-free f b.at), made-free f at))

prefix-free : (o : PrefixOp) (a at : Place) → Free (prefix_needs o a at)
prefix-free prefix.Negate a at = (tt, tt)
prefix-free prefix.Not a at = (tt, tt)
prefix-free prefix.Check a at = tt
prefix-free prefix.CheckPanic a at = tt

callee-free : (started : Bool) (name : Option QualifiedName) (f : Reading) (count : ℕ) (at : Place) → FreeIn f → Free (callee_needs started name f count at)
callee-free started (Some q) f count at c = tt
callee-free started None f count at c = ((c.0 _, tt), tt)

rest-free : (p : Option Param) → Free (if_there rest_needs p)
rest-free None = tt
rest-free (Some p) = (tt, tt)

-- ---- what is claimed

abbrev ClaimCall : Call → Type 0
ClaimCall e = FreeIn (read_call e)

abbrev ACall : Type 0
ACall = (e : Call) × ClaimCall e

abbrev ClaimExpr : Expr → Type 0
ClaimExpr e = FreeIn (read_expr e)

abbrev AnExpr : Type 0
AnExpr = (e : Expr) × ClaimExpr e

abbrev ClaimKey : Key → Type 0
ClaimKey e = FreeIn (read_key e)

abbrev AKey : Type 0
AKey = (e : Key) × ClaimKey e

abbrev ClaimPostfix : Postfix → Type 0
ClaimPostfix e = FreeIn (read_postfix e)

abbrev APostfix : Type 0
APostfix = (e : Postfix) × ClaimPostfix e

abbrev ClaimPrimary : Primary → Type 0
ClaimPrimary e = FreeIn (read_primary e)

abbrev APrimary : Type 0
APrimary = (e : Primary) × ClaimPrimary e

abbrev ClaimDetail : Detail → Type 0
ClaimDetail e = FreeIn (read_detail e)

abbrev ADetail : Type 0
ADetail = (e : Detail) × ClaimDetail e

abbrev ClaimMember : Member → Type 0
ClaimMember e = FreeIn (read_member e)

abbrev AMember : Type 0
AMember = (e : Member) × ClaimMember e

abbrev firsts_of_call : Call-F ACall AnExpr AKey APostfix APrimary ADetail AMember → Call-F Call Expr Key Postfix Primary Detail Member
firsts_of_call = map-Call ACall AnExpr AKey APostfix APrimary ADetail AMember Call Expr Key Postfix Primary Detail Member (λ e. e.0) (λ e. e.0) (λ e. e.0) (λ e. e.0) (λ e. e.0) (λ e. e.0) (λ e. e.0)

abbrev parts_of_call : Call-F Call Expr Key Postfix Primary Detail Member → CallOf Reading
parts_of_call = map-Call Call Expr Key Postfix Primary Detail Member Reading Reading Reading Reading Reading Reading Reading read_call read_expr read_key read_postfix read_primary read_detail read_member

rolled-call : (x : Call-F Call Expr Key Postfix Primary Detail Member) → read_call (roll-Call x) ≡ reading.call (parts_of_call x)
rolled-call x = fold-roll-Call Reading Reading Reading Reading Reading Reading Reading reading.call reading.expr reading.key reading.postfix reading.primary reading.detail reading.member x

abbrev LayerCall : Call-F ACall AnExpr AKey APostfix APrimary ADetail AMember → Type 0
LayerCall y = FreeIn (reading.call (parts_of_call (firsts_of_call y)))

abbrev firsts_of_expr : Expr-F ACall AnExpr AKey APostfix APrimary ADetail AMember → Expr-F Call Expr Key Postfix Primary Detail Member
firsts_of_expr = map-Expr ACall AnExpr AKey APostfix APrimary ADetail AMember Call Expr Key Postfix Primary Detail Member (λ e. e.0) (λ e. e.0) (λ e. e.0) (λ e. e.0) (λ e. e.0) (λ e. e.0) (λ e. e.0)

abbrev parts_of_expr : Expr-F Call Expr Key Postfix Primary Detail Member → ExprOf Reading
parts_of_expr = map-Expr Call Expr Key Postfix Primary Detail Member Reading Reading Reading Reading Reading Reading Reading read_call read_expr read_key read_postfix read_primary read_detail read_member

rolled-expr : (x : Expr-F Call Expr Key Postfix Primary Detail Member) → read_expr (roll-Expr x) ≡ reading.expr (parts_of_expr x)
rolled-expr x = fold-roll-Expr Reading Reading Reading Reading Reading Reading Reading reading.call reading.expr reading.key reading.postfix reading.primary reading.detail reading.member x

abbrev LayerExpr : Expr-F ACall AnExpr AKey APostfix APrimary ADetail AMember → Type 0
LayerExpr y = FreeIn (reading.expr (parts_of_expr (firsts_of_expr y)))

abbrev firsts_of_key : Key-F ACall AnExpr AKey APostfix APrimary ADetail AMember → Key-F Call Expr Key Postfix Primary Detail Member
firsts_of_key = map-Key ACall AnExpr AKey APostfix APrimary ADetail AMember Call Expr Key Postfix Primary Detail Member (λ e. e.0) (λ e. e.0) (λ e. e.0) (λ e. e.0) (λ e. e.0) (λ e. e.0) (λ e. e.0)

abbrev parts_of_key : Key-F Call Expr Key Postfix Primary Detail Member → KeyOf Reading
parts_of_key = map-Key Call Expr Key Postfix Primary Detail Member Reading Reading Reading Reading Reading Reading Reading read_call read_expr read_key read_postfix read_primary read_detail read_member

rolled-key : (x : Key-F Call Expr Key Postfix Primary Detail Member) → read_key (roll-Key x) ≡ reading.key (parts_of_key x)
rolled-key x = fold-roll-Key Reading Reading Reading Reading Reading Reading Reading reading.call reading.expr reading.key reading.postfix reading.primary reading.detail reading.member x

abbrev LayerKey : Key-F ACall AnExpr AKey APostfix APrimary ADetail AMember → Type 0
LayerKey y = FreeIn (reading.key (parts_of_key (firsts_of_key y)))

abbrev firsts_of_postfix : Postfix-F ACall AnExpr AKey APostfix APrimary ADetail AMember → Postfix-F Call Expr Key Postfix Primary Detail Member
firsts_of_postfix = map-Postfix ACall AnExpr AKey APostfix APrimary ADetail AMember Call Expr Key Postfix Primary Detail Member (λ e. e.0) (λ e. e.0) (λ e. e.0) (λ e. e.0) (λ e. e.0) (λ e. e.0) (λ e. e.0)

abbrev parts_of_postfix : Postfix-F Call Expr Key Postfix Primary Detail Member → PostfixOf Reading
parts_of_postfix = map-Postfix Call Expr Key Postfix Primary Detail Member Reading Reading Reading Reading Reading Reading Reading read_call read_expr read_key read_postfix read_primary read_detail read_member

rolled-postfix : (x : Postfix-F Call Expr Key Postfix Primary Detail Member) → read_postfix (roll-Postfix x) ≡ reading.postfix (parts_of_postfix x)
rolled-postfix x = fold-roll-Postfix Reading Reading Reading Reading Reading Reading Reading reading.call reading.expr reading.key reading.postfix reading.primary reading.detail reading.member x

abbrev LayerPostfix : Postfix-F ACall AnExpr AKey APostfix APrimary ADetail AMember → Type 0
LayerPostfix y = FreeIn (reading.postfix (parts_of_postfix (firsts_of_postfix y)))

abbrev firsts_of_primary : Primary-F ACall AnExpr AKey APostfix APrimary ADetail AMember → Primary-F Call Expr Key Postfix Primary Detail Member
firsts_of_primary = map-Primary ACall AnExpr AKey APostfix APrimary ADetail AMember Call Expr Key Postfix Primary Detail Member (λ e. e.0) (λ e. e.0) (λ e. e.0) (λ e. e.0) (λ e. e.0) (λ e. e.0) (λ e. e.0)

abbrev parts_of_primary : Primary-F Call Expr Key Postfix Primary Detail Member → PrimaryOf Reading
parts_of_primary = map-Primary Call Expr Key Postfix Primary Detail Member Reading Reading Reading Reading Reading Reading Reading read_call read_expr read_key read_postfix read_primary read_detail read_member

rolled-primary : (x : Primary-F Call Expr Key Postfix Primary Detail Member) → read_primary (roll-Primary x) ≡ reading.primary (parts_of_primary x)
rolled-primary x = fold-roll-Primary Reading Reading Reading Reading Reading Reading Reading reading.call reading.expr reading.key reading.postfix reading.primary reading.detail reading.member x

abbrev LayerPrimary : Primary-F ACall AnExpr AKey APostfix APrimary ADetail AMember → Type 0
LayerPrimary y = FreeIn (reading.primary (parts_of_primary (firsts_of_primary y)))

abbrev firsts_of_detail : Detail-F ACall AnExpr AKey APostfix APrimary ADetail AMember → Detail-F Call Expr Key Postfix Primary Detail Member
firsts_of_detail = map-Detail ACall AnExpr AKey APostfix APrimary ADetail AMember Call Expr Key Postfix Primary Detail Member (λ e. e.0) (λ e. e.0) (λ e. e.0) (λ e. e.0) (λ e. e.0) (λ e. e.0) (λ e. e.0)

abbrev parts_of_detail : Detail-F Call Expr Key Postfix Primary Detail Member → DetailOf Reading
parts_of_detail = map-Detail Call Expr Key Postfix Primary Detail Member Reading Reading Reading Reading Reading Reading Reading read_call read_expr read_key read_postfix read_primary read_detail read_member

rolled-detail : (x : Detail-F Call Expr Key Postfix Primary Detail Member) → read_detail (roll-Detail x) ≡ reading.detail (parts_of_detail x)
rolled-detail x = fold-roll-Detail Reading Reading Reading Reading Reading Reading Reading reading.call reading.expr reading.key reading.postfix reading.primary reading.detail reading.member x

abbrev LayerDetail : Detail-F ACall AnExpr AKey APostfix APrimary ADetail AMember → Type 0
LayerDetail y = FreeIn (reading.detail (parts_of_detail (firsts_of_detail y)))

abbrev firsts_of_member : Member-F ACall AnExpr AKey APostfix APrimary ADetail AMember → Member-F Call Expr Key Postfix Primary Detail Member
firsts_of_member = map-Member ACall AnExpr AKey APostfix APrimary ADetail AMember Call Expr Key Postfix Primary Detail Member (λ e. e.0) (λ e. e.0) (λ e. e.0) (λ e. e.0) (λ e. e.0) (λ e. e.0) (λ e. e.0)

abbrev parts_of_member : Member-F Call Expr Key Postfix Primary Detail Member → MemberOf Reading
parts_of_member = map-Member Call Expr Key Postfix Primary Detail Member Reading Reading Reading Reading Reading Reading Reading read_call read_expr read_key read_postfix read_primary read_detail read_member

rolled-member : (x : Member-F Call Expr Key Postfix Primary Detail Member) → read_member (roll-Member x) ≡ reading.member (parts_of_member x)
rolled-member x = fold-roll-Member Reading Reading Reading Reading Reading Reading Reading reading.call reading.expr reading.key reading.postfix reading.primary reading.detail reading.member x

abbrev LayerMember : Member-F ACall AnExpr AKey APostfix APrimary ADetail AMember → Type 0
LayerMember y = FreeIn (reading.member (parts_of_member (firsts_of_member y)))

-- ---- one layer of a tree, of whose parts it is known

expr-layer : (y : Expr-F ACall AnExpr AKey APostfix APrimary ADetail AMember) → LayerExpr y
expr-layer (layer.Postfix e) = e.1
expr-layer (layer.Prefix op a at) = (λ e. (a.value.1.0 _, prefix-free op _ at), tt)
expr-layer (layer.Cast t a at) = (λ e. (tt, (a.value.1.0 _, tt)), tt)
expr-layer (layer.Binary a op b at) = (λ e. binary-free (family_of op) (read_expr a.value.0) (read_expr b.value.0) at e a.value.1 b.value.1, tt)
expr-layer (layer.TypeTest a t at) = (λ e. (a.value.1.0 _, (tt, tt)), tt)
expr-layer (layer.Conditional c a b at) = (λ e. (((c.value.1.0 _, tt), tt), ((a.value.1.0 _, tt), (b.value.1.0 _, tt))), tt)
expr-layer (layer.Trap a at) = (λ e. (a.value.1.0 _, tt), tt)
expr-layer (layer.«Expr::Function» isolated ps result v at) =
    (λ e. ((tt, ((free-turn parameter_needs (λ p. (tt, tt)) ps.params.items nothing tt, rest-free ps.rest), tt)), ((tt, (v.value.1.0 _, tt)), tt)), tt)

postfix-layer : (y : Postfix-F ACall AnExpr AKey APostfix APrimary ADetail AMember) → LayerPostfix y
postfix-layer (layer.Primary e) = e.1
postfix-layer (layer.Call e) = e.1
postfix-layer (layer.Field a field at) = (λ e. ((a.value.1.0 _, tt), tt), tt)
postfix-layer (layer.OptionalField a field at) = (λ e. ((a.value.1.0 _, tt), tt), tt)
postfix-layer (layer.Index a i at) = (λ e. (((a.value.1.0 _, tt), (i.value.1.0 _, tt)), tt), tt)

arguments-free : (at : Place) (xs : List AnExpr) → Free (in_turn (argument_needs at) (map read_expr (map (λ x. x.0) xs)))
arguments-free at xs = free-turn-of read_expr (argument_needs at) (λ x c. (tt, (c.0 _, tt))) xs nothing tt

call-layer : (y : Call-F ACall AnExpr AKey APostfix APrimary ADetail AMember) → LayerCall y
call-layer (layer.«Call::Function» f args at) = (
  λ e. ((callee-free false (read_postfix f.value.0).name (read_postfix f.value.0) _ at f.value.1, arguments-free at args.items), tt),
  (callee-free true (read_postfix f.value.0).name (read_postfix f.value.0) _ at f.value.1, arguments-free at args.items),
)
call-layer (layer.Method b m args at) = (λ e. (((b.value.1.0 _, tt), arguments-free at args.items), tt), (b.value.1.0 _, tt))

key-layer : (y : Key-F ACall AnExpr AKey APostfix APrimary ADetail AMember) → LayerKey y
key-layer (layer.Word w) = (λ e. tt, tt)
key-layer (layer.Str text at) = (λ e. tt, tt)
key-layer (layer.Computed a at) = (λ e. ((a.value.1.0 _, tt), tt), tt)

member-layer : (y : Member-F ACall AnExpr AKey APostfix APrimary ADetail AMember) → LayerMember y
member-layer y = (λ e. (y.key.1.0 _, (tt, (y.value.value.1.0 _, tt))), tt)

detail-layer : (y : Detail-F ACall AnExpr AKey APostfix APrimary ADetail AMember) → LayerDetail y
detail-layer y = (λ e. (tt, (y.value.value.1.0 _, tt)), tt)

primary-layer : (y : Primary-F ACall AnExpr AKey APostfix APrimary ADetail AMember) → LayerPrimary y
primary-layer (layer.Literal l) = (λ e. tt, tt)
primary-layer (layer.Name q) = (λ e. tt, tt)
primary-layer (layer.Parens a at) = (λ e. (a.value.1.0 e, tt), tt)
primary-layer (layer.List xs at) = (λ e. ((tt, free-turn-of read_expr item_needs (λ x c. (tt, (c.0 _, tt))) xs.items nothing tt), tt), tt)
primary-layer (layer.Mapping ms at) = (λ e. ((tt, free-turn-of read_member freely (λ x c. c.0 _) ms.items nothing tt), tt), tt)
primary-layer (layer.Error m None ds at) =
    (λ e. (((m.value.1.0 _, tt), tt), ((tt, free-turn-of read_detail freely (λ x c. c.0 _) ds.items nothing tt), tt)), tt)
primary-layer (layer.Error m (Some c) ds at) =
    (λ e. (((m.value.1.0 _, tt), (c.value.1.0 _, tt)), ((tt, free-turn-of read_detail freely (λ x c. c.0 _) ds.items nothing tt), tt)), tt)

-- ---- the whole

call-step : (x : Call-F Call Expr Key Postfix Primary Detail Member) (y : Call-F ACall AnExpr AKey APostfix APrimary ADetail AMember) → firsts_of_call y ≡ x → ClaimCall (roll-Call x)
call-step x y is = subst (λ z. ClaimCall (roll-Call z)) is (subst FreeIn (sym (rolled-call (firsts_of_call y))) (call-layer y))

expr-step : (x : Expr-F Call Expr Key Postfix Primary Detail Member) (y : Expr-F ACall AnExpr AKey APostfix APrimary ADetail AMember) → firsts_of_expr y ≡ x → ClaimExpr (roll-Expr x)
expr-step x y is = subst (λ z. ClaimExpr (roll-Expr z)) is (subst FreeIn (sym (rolled-expr (firsts_of_expr y))) (expr-layer y))

key-step : (x : Key-F Call Expr Key Postfix Primary Detail Member) (y : Key-F ACall AnExpr AKey APostfix APrimary ADetail AMember) → firsts_of_key y ≡ x → ClaimKey (roll-Key x)
key-step x y is = subst (λ z. ClaimKey (roll-Key z)) is (subst FreeIn (sym (rolled-key (firsts_of_key y))) (key-layer y))

postfix-step : (x : Postfix-F Call Expr Key Postfix Primary Detail Member) (y : Postfix-F ACall AnExpr AKey APostfix APrimary ADetail AMember) → firsts_of_postfix y ≡ x → ClaimPostfix (roll-Postfix x)
postfix-step x y is = subst (λ z. ClaimPostfix (roll-Postfix z)) is (subst FreeIn (sym (rolled-postfix (firsts_of_postfix y))) (postfix-layer y))

primary-step : (x : Primary-F Call Expr Key Postfix Primary Detail Member) (y : Primary-F ACall AnExpr AKey APostfix APrimary ADetail AMember) → firsts_of_primary y ≡ x → ClaimPrimary (roll-Primary x)
primary-step x y is = subst (λ z. ClaimPrimary (roll-Primary z)) is (subst FreeIn (sym (rolled-primary (firsts_of_primary y))) (primary-layer y))

detail-step : (x : Detail-F Call Expr Key Postfix Primary Detail Member) (y : Detail-F ACall AnExpr AKey APostfix APrimary ADetail AMember) → firsts_of_detail y ≡ x → ClaimDetail (roll-Detail x)
detail-step x y is = subst (λ z. ClaimDetail (roll-Detail z)) is (subst FreeIn (sym (rolled-detail (firsts_of_detail y))) (detail-layer y))

member-step : (x : Member-F Call Expr Key Postfix Primary Detail Member) (y : Member-F ACall AnExpr AKey APostfix APrimary ADetail AMember) → firsts_of_member y ≡ x → ClaimMember (roll-Member x)
member-step x y is = subst (λ z. ClaimMember (roll-Member z)) is (subst FreeIn (sym (rolled-member (firsts_of_member y))) (member-layer y))

pub expr-free : (e : Expr) → ClaimExpr e
expr-free = ind-Expr ClaimCall ClaimExpr ClaimKey ClaimPostfix ClaimPrimary ClaimDetail ClaimMember call-step expr-step key-step postfix-step primary-step detail-step member-step

pub postfix-free : (e : Postfix) → ClaimPostfix e
postfix-free = ind-Postfix ClaimCall ClaimExpr ClaimKey ClaimPostfix ClaimPrimary ClaimDetail ClaimMember call-step expr-step key-step postfix-step primary-step detail-step member-step

pub primary-free : (e : Primary) → ClaimPrimary e
primary-free = ind-Primary ClaimCall ClaimExpr ClaimKey ClaimPostfix ClaimPrimary ClaimDetail ClaimMember call-step expr-step key-step postfix-step primary-step detail-step member-step

pub call-free : (e : Call) → ClaimCall e
call-free = ind-Call ClaimCall ClaimExpr ClaimKey ClaimPostfix ClaimPrimary ClaimDetail ClaimMember call-step expr-step key-step postfix-step primary-step detail-step member-step

-- ---- actions

checked-free : (needs : Expected → Listed Need) → ((e : Expected) → Free (needs e)) → (e : Expected) (at : Place) → Free (checked_needs needs e at)
checked-free needs c Wanted at = ((tt, (c Wanted, tt)), tt)
checked-free needs c Nothing at = (c Nothing, tt)
checked-free needs c Immutable at = (c Nothing, tt)

pub action-free : (a : Action) (e : Expected) → Free (action_needs a e)
action-free (Prefix' Check _ a at) e = checked-free (action_needs a) (action-free a) e at
action-free (Prefix' CheckPanic _ a at) e = (action-free a Nothing, tt)
action-free (Prefix' Trap _ a at) e = (action-free a Nothing, tt)
action-free (Start call at) e = ((call-free call).1, tt)
action-free (WaitAny qs at) e = (free-turn await_needs (λ q. tt) qs.items nothing tt, tt)
action-free (WaitAll ms at) e = (tt, (free-turn await_member_needs (λ m. (tt, tt)) ms.items nothing tt, tt))
action-free (Flush peer at) e = tt
action-free (Receive peer at) e = tt
action-free (Send value peer at) e = (((expr-free value.value).0 _, tt), tt)
action-free (SyncSend value peer at) e = (((expr-free value.value).0 _, tt), tt)

pub rhs-free : (r : Rhs) (e : Expected) → Free ((read_rhs r).needs e)
rhs-free (ExprRhs x) e = (expr-free x.value).0 e
rhs-free (ActionRhs a) e = action-free a.value e
