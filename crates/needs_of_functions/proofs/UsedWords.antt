-- The names that readings of expressions tell are those that `tree_places` gathers.
use Rattle.std.proofs.Common.{◌≡◌, List, [], ◌∷◌, map, Option, Some, None, refl, sym, ap, ◌∙◌, subst}
use Rattle.std.specs.Global.{Box}
use Rattle.bal_tree.specs.declared.name.Word.{Word}
use Rattle.bal_tree.specs.declared.expr.Call.TheOpen as layer
use Rattle.bal_tree.specs.declared.expr.Call.{Call, Call-F, roll-Call, map-Call, fold-roll-Call}
use Rattle.bal_tree.specs.declared.expr.Expr.{Expr, Expr-F, roll-Expr, map-Expr, fold-roll-Expr, ind-Expr}
use Rattle.bal_tree.specs.declared.expr.Key.{Key, Key-F, roll-Key, map-Key, fold-roll-Key}
use Rattle.bal_tree.specs.declared.expr.Postfix.{Postfix, Postfix-F, roll-Postfix, map-Postfix, fold-roll-Postfix}
use Rattle.bal_tree.specs.declared.expr.Primary.{Primary, Primary-F, roll-Primary, map-Primary, fold-roll-Primary}
use Rattle.bal_tree.specs.declared.expr.Detail.{Detail, Detail-F, roll-Detail, map-Detail, fold-roll-Detail}
use Rattle.bal_tree.specs.declared.expr.Member.{Member, Member-F, roll-Member, map-Member, fold-roll-Member}
use Rattle.bal_tree.specs.ExprLayers.{CallOf, ExprOf, KeyOf, PostfixOf, PrimaryOf, DetailOf, MemberOf, ExprSteps, of_call, of_expr, of_key, of_postfix, of_primary, of_detail, of_member}
use Rattle.tree_places.specs.UsedInExprs.{used_in_expr, using_names}
use Rattle.typed_tree.specs.Listed.{Listed, nothing, ◌&◌, joined}
use Rattle.expr_needs.specs.ExprTable.{Reading, read_expr, reading, used_in_all}

-- ---- a fold over a tree that is put together of its parts

module _ {A : Type 0} (s : ExprSteps A) where
  abbrev parts_of_call : Call-F Call Expr Key Postfix Primary Detail Member → CallOf A
  parts_of_call = map-Call Call Expr Key Postfix Primary Detail Member A A A A A A A (of_call s) (of_expr s) (of_key s) (of_postfix s) (of_primary s) (of_detail s) (of_member s)

  abbrev parts_of_expr : Expr-F Call Expr Key Postfix Primary Detail Member → ExprOf A
  parts_of_expr = map-Expr Call Expr Key Postfix Primary Detail Member A A A A A A A (of_call s) (of_expr s) (of_key s) (of_postfix s) (of_primary s) (of_detail s) (of_member s)

  abbrev parts_of_key : Key-F Call Expr Key Postfix Primary Detail Member → KeyOf A
  parts_of_key = map-Key Call Expr Key Postfix Primary Detail Member A A A A A A A (of_call s) (of_expr s) (of_key s) (of_postfix s) (of_primary s) (of_detail s) (of_member s)

  abbrev parts_of_postfix : Postfix-F Call Expr Key Postfix Primary Detail Member → PostfixOf A
  parts_of_postfix = map-Postfix Call Expr Key Postfix Primary Detail Member A A A A A A A (of_call s) (of_expr s) (of_key s) (of_postfix s) (of_primary s) (of_detail s) (of_member s)

  abbrev parts_of_primary : Primary-F Call Expr Key Postfix Primary Detail Member → PrimaryOf A
  parts_of_primary = map-Primary Call Expr Key Postfix Primary Detail Member A A A A A A A (of_call s) (of_expr s) (of_key s) (of_postfix s) (of_primary s) (of_detail s) (of_member s)

  abbrev parts_of_detail : Detail-F Call Expr Key Postfix Primary Detail Member → DetailOf A
  parts_of_detail = map-Detail Call Expr Key Postfix Primary Detail Member A A A A A A A (of_call s) (of_expr s) (of_key s) (of_postfix s) (of_primary s) (of_detail s) (of_member s)

  abbrev parts_of_member : Member-F Call Expr Key Postfix Primary Detail Member → MemberOf A
  parts_of_member = map-Member Call Expr Key Postfix Primary Detail Member A A A A A A A (of_call s) (of_expr s) (of_key s) (of_postfix s) (of_primary s) (of_detail s) (of_member s)

-- ---- what is claimed, and a tree of which it is known

abbrev ClaimCall : Call → Type 0
ClaimCall t = (of_call reading t).used ≡ of_call using_names t

abbrev ACall : Type 0
ACall = (t : Call) × ClaimCall t

abbrev ClaimExpr : Expr → Type 0
ClaimExpr t = (of_expr reading t).used ≡ of_expr using_names t

abbrev AExpr : Type 0
AExpr = (t : Expr) × ClaimExpr t

abbrev ClaimKey : Key → Type 0
ClaimKey t = (of_key reading t).used ≡ of_key using_names t

abbrev AKey : Type 0
AKey = (t : Key) × ClaimKey t

abbrev ClaimPostfix : Postfix → Type 0
ClaimPostfix t = (of_postfix reading t).used ≡ of_postfix using_names t

abbrev APostfix : Type 0
APostfix = (t : Postfix) × ClaimPostfix t

abbrev ClaimPrimary : Primary → Type 0
ClaimPrimary t = (of_primary reading t).used ≡ of_primary using_names t

abbrev APrimary : Type 0
APrimary = (t : Primary) × ClaimPrimary t

abbrev ClaimDetail : Detail → Type 0
ClaimDetail t = (of_detail reading t).used ≡ of_detail using_names t

abbrev ADetail : Type 0
ADetail = (t : Detail) × ClaimDetail t

abbrev ClaimMember : Member → Type 0
ClaimMember t = (of_member reading t).used ≡ of_member using_names t

abbrev AMember : Type 0
AMember = (t : Member) × ClaimMember t

-- ---- lists of such trees, and two of them

lists-same : {X : Type 0} (read : X → Reading) (used : X → Listed Word) (xs : List ((x : X) × ((read x).used ≡ used x)))
    → used_in_all (map read (map (λ e. e.0) xs)) ≡ joined (map used (map (λ e. e.0) xs))
lists-same read used [] = refl
lists-same read used (x ∷ xs) = ap (λ p. p & used_in_all (map read (map (λ e. e.0) xs))) x.1 ∙ ap (λ q. used x.0 & q) (lists-same read used xs)

both-same : (p p2 q q2 : Listed Word) → p ≡ p2 → q ≡ q2 → (p & q) ≡ (p2 & q2)
both-same p p2 q q2 e f = ap (λ x. x & q) e ∙ ap (λ y. p2 & y) f

-- ---- a layer, of whose parts it is known

abbrev firsts_of_call : Call-F ACall AExpr AKey APostfix APrimary ADetail AMember → Call-F Call Expr Key Postfix Primary Detail Member
firsts_of_call = map-Call ACall AExpr AKey APostfix APrimary ADetail AMember Call Expr Key Postfix Primary Detail Member (λ e. e.0) (λ e. e.0) (λ e. e.0) (λ e. e.0) (λ e. e.0) (λ e. e.0) (λ e. e.0)

abbrev SameCall : Call-F Call Expr Key Postfix Primary Detail Member → Type 0
SameCall x = (reading.call (parts_of_call reading x)).used ≡ using_names.call (parts_of_call using_names x)

abbrev firsts_of_expr : Expr-F ACall AExpr AKey APostfix APrimary ADetail AMember → Expr-F Call Expr Key Postfix Primary Detail Member
firsts_of_expr = map-Expr ACall AExpr AKey APostfix APrimary ADetail AMember Call Expr Key Postfix Primary Detail Member (λ e. e.0) (λ e. e.0) (λ e. e.0) (λ e. e.0) (λ e. e.0) (λ e. e.0) (λ e. e.0)

abbrev SameExpr : Expr-F Call Expr Key Postfix Primary Detail Member → Type 0
SameExpr x = (reading.expr (parts_of_expr reading x)).used ≡ using_names.expr (parts_of_expr using_names x)

abbrev firsts_of_key : Key-F ACall AExpr AKey APostfix APrimary ADetail AMember → Key-F Call Expr Key Postfix Primary Detail Member
firsts_of_key = map-Key ACall AExpr AKey APostfix APrimary ADetail AMember Call Expr Key Postfix Primary Detail Member (λ e. e.0) (λ e. e.0) (λ e. e.0) (λ e. e.0) (λ e. e.0) (λ e. e.0) (λ e. e.0)

abbrev SameKey : Key-F Call Expr Key Postfix Primary Detail Member → Type 0
SameKey x = (reading.key (parts_of_key reading x)).used ≡ using_names.key (parts_of_key using_names x)

abbrev firsts_of_postfix : Postfix-F ACall AExpr AKey APostfix APrimary ADetail AMember → Postfix-F Call Expr Key Postfix Primary Detail Member
firsts_of_postfix = map-Postfix ACall AExpr AKey APostfix APrimary ADetail AMember Call Expr Key Postfix Primary Detail Member (λ e. e.0) (λ e. e.0) (λ e. e.0) (λ e. e.0) (λ e. e.0) (λ e. e.0) (λ e. e.0)

abbrev SamePostfix : Postfix-F Call Expr Key Postfix Primary Detail Member → Type 0
SamePostfix x = (reading.postfix (parts_of_postfix reading x)).used ≡ using_names.postfix (parts_of_postfix using_names x)

abbrev firsts_of_primary : Primary-F ACall AExpr AKey APostfix APrimary ADetail AMember → Primary-F Call Expr Key Postfix Primary Detail Member
firsts_of_primary = map-Primary ACall AExpr AKey APostfix APrimary ADetail AMember Call Expr Key Postfix Primary Detail Member (λ e. e.0) (λ e. e.0) (λ e. e.0) (λ e. e.0) (λ e. e.0) (λ e. e.0) (λ e. e.0)

abbrev SamePrimary : Primary-F Call Expr Key Postfix Primary Detail Member → Type 0
SamePrimary x = (reading.primary (parts_of_primary reading x)).used ≡ using_names.primary (parts_of_primary using_names x)

abbrev firsts_of_detail : Detail-F ACall AExpr AKey APostfix APrimary ADetail AMember → Detail-F Call Expr Key Postfix Primary Detail Member
firsts_of_detail = map-Detail ACall AExpr AKey APostfix APrimary ADetail AMember Call Expr Key Postfix Primary Detail Member (λ e. e.0) (λ e. e.0) (λ e. e.0) (λ e. e.0) (λ e. e.0) (λ e. e.0) (λ e. e.0)

abbrev SameDetail : Detail-F Call Expr Key Postfix Primary Detail Member → Type 0
SameDetail x = (reading.detail (parts_of_detail reading x)).used ≡ using_names.detail (parts_of_detail using_names x)

abbrev firsts_of_member : Member-F ACall AExpr AKey APostfix APrimary ADetail AMember → Member-F Call Expr Key Postfix Primary Detail Member
firsts_of_member = map-Member ACall AExpr AKey APostfix APrimary ADetail AMember Call Expr Key Postfix Primary Detail Member (λ e. e.0) (λ e. e.0) (λ e. e.0) (λ e. e.0) (λ e. e.0) (λ e. e.0) (λ e. e.0)

abbrev SameMember : Member-F Call Expr Key Postfix Primary Detail Member → Type 0
SameMember x = (reading.member (parts_of_member reading x)).used ≡ using_names.member (parts_of_member using_names x)

call-layer : (y : Call-F ACall AExpr AKey APostfix APrimary ADetail AMember) → SameCall (firsts_of_call y)
call-layer (layer.«Call::Function» callee args at) = both-same _ _ _ _ callee.value.1 (lists-same (of_expr reading) (of_expr using_names) args.items)
call-layer (layer.Method receiver m args at) = both-same _ _ _ _ receiver.value.1 (lists-same (of_expr reading) (of_expr using_names) args.items)

expr-layer : (y : Expr-F ACall AExpr AKey APostfix APrimary ADetail AMember) → SameExpr (firsts_of_expr y)
expr-layer (layer.Postfix e) = e.1
expr-layer (layer.Prefix o a at) = a.value.1
expr-layer (layer.Cast type a at) = a.value.1
expr-layer (layer.Binary a o b at) = both-same _ _ _ _ a.value.1 b.value.1
expr-layer (layer.TypeTest a type at) = a.value.1
expr-layer (layer.Conditional c a b at) = both-same _ _ _ _ c.value.1 (both-same _ _ _ _ a.value.1 b.value.1)
expr-layer (layer.Trap a at) = a.value.1
expr-layer (layer.«Expr::Function» isolated ps result v at) = v.value.1

key-layer : (y : Key-F ACall AExpr AKey APostfix APrimary ADetail AMember) → SameKey (firsts_of_key y)
key-layer (layer.Word w) = refl
key-layer (layer.Str text at) = refl
key-layer (layer.Computed a at) = a.value.1

postfix-layer : (y : Postfix-F ACall AExpr AKey APostfix APrimary ADetail AMember) → SamePostfix (firsts_of_postfix y)
postfix-layer (layer.Primary e) = e.1
postfix-layer (layer.Call e) = e.1
postfix-layer (layer.Field a field at) = a.value.1
postfix-layer (layer.OptionalField a field at) = a.value.1
postfix-layer (layer.Index a i at) = both-same _ _ _ _ a.value.1 i.value.1

primary-layer : (y : Primary-F ACall AExpr AKey APostfix APrimary ADetail AMember) → SamePrimary (firsts_of_primary y)
primary-layer (layer.Literal l) = refl
primary-layer (layer.Name q) = refl
primary-layer (layer.Parens a at) = a.value.1
primary-layer (layer.List items at) = lists-same (of_expr reading) (of_expr using_names) items.items
primary-layer (layer.Mapping ms at) = lists-same (of_member reading) (of_member using_names) ms.items
primary-layer (layer.Error m c ds at) = by c
  where
    by : (o : Option (Box AExpr)) → SamePrimary (firsts_of_primary (layer.Error m o ds at))
    by None = both-same _ _ _ _ m.value.1 (both-same _ _ _ _ refl (lists-same (of_detail reading) (of_detail using_names) ds.items))
    by (Some e) = both-same _ _ _ _ m.value.1 (both-same _ _ _ _ e.value.1 (lists-same (of_detail reading) (of_detail using_names) ds.items))

detail-layer : (y : Detail-F ACall AExpr AKey APostfix APrimary ADetail AMember) → SameDetail (firsts_of_detail y)
detail-layer d = d.value.value.1

member-layer : (y : Member-F ACall AExpr AKey APostfix APrimary ADetail AMember) → SameMember (firsts_of_member y)
member-layer m = both-same _ _ _ _ m.key.1 m.value.value.1

-- ---- the whole

told : (r r2 : Reading) (p p2 : Listed Word) → r ≡ r2 → p ≡ p2 → r2.used ≡ p2 → r.used ≡ p
told r r2 p p2 x y h = ap (λ k. k.used) x ∙ h ∙ sym y

call-step : (x : Call-F Call Expr Key Postfix Primary Detail Member) (y : Call-F ACall AExpr AKey APostfix APrimary ADetail AMember) → firsts_of_call y ≡ x → ClaimCall (roll-Call x)
call-step x y is = told _ _ _ _ (rolled reading) (rolled using_names) (subst SameCall is (call-layer y))
  where
    rolled : {A : Type 0} (s : ExprSteps A) → of_call s (roll-Call x) ≡ s.call (parts_of_call s x)
    rolled s = fold-roll-Call _ _ _ _ _ _ _ s.call s.expr s.key s.postfix s.primary s.detail s.member x

expr-step : (x : Expr-F Call Expr Key Postfix Primary Detail Member) (y : Expr-F ACall AExpr AKey APostfix APrimary ADetail AMember) → firsts_of_expr y ≡ x → ClaimExpr (roll-Expr x)
expr-step x y is = told _ _ _ _ (rolled reading) (rolled using_names) (subst SameExpr is (expr-layer y))
  where
    rolled : {A : Type 0} (s : ExprSteps A) → of_expr s (roll-Expr x) ≡ s.expr (parts_of_expr s x)
    rolled s = fold-roll-Expr _ _ _ _ _ _ _ s.call s.expr s.key s.postfix s.primary s.detail s.member x

key-step : (x : Key-F Call Expr Key Postfix Primary Detail Member) (y : Key-F ACall AExpr AKey APostfix APrimary ADetail AMember) → firsts_of_key y ≡ x → ClaimKey (roll-Key x)
key-step x y is = told _ _ _ _ (rolled reading) (rolled using_names) (subst SameKey is (key-layer y))
  where
    rolled : {A : Type 0} (s : ExprSteps A) → of_key s (roll-Key x) ≡ s.key (parts_of_key s x)
    rolled s = fold-roll-Key _ _ _ _ _ _ _ s.call s.expr s.key s.postfix s.primary s.detail s.member x

postfix-step : (x : Postfix-F Call Expr Key Postfix Primary Detail Member) (y : Postfix-F ACall AExpr AKey APostfix APrimary ADetail AMember) → firsts_of_postfix y ≡ x → ClaimPostfix (roll-Postfix x)
postfix-step x y is = told _ _ _ _ (rolled reading) (rolled using_names) (subst SamePostfix is (postfix-layer y))
  where
    rolled : {A : Type 0} (s : ExprSteps A) → of_postfix s (roll-Postfix x) ≡ s.postfix (parts_of_postfix s x)
    rolled s = fold-roll-Postfix _ _ _ _ _ _ _ s.call s.expr s.key s.postfix s.primary s.detail s.member x

primary-step : (x : Primary-F Call Expr Key Postfix Primary Detail Member) (y : Primary-F ACall AExpr AKey APostfix APrimary ADetail AMember) → firsts_of_primary y ≡ x → ClaimPrimary (roll-Primary x)
primary-step x y is = told _ _ _ _ (rolled reading) (rolled using_names) (subst SamePrimary is (primary-layer y))
  where
    rolled : {A : Type 0} (s : ExprSteps A) → of_primary s (roll-Primary x) ≡ s.primary (parts_of_primary s x)
    rolled s = fold-roll-Primary _ _ _ _ _ _ _ s.call s.expr s.key s.postfix s.primary s.detail s.member x

detail-step : (x : Detail-F Call Expr Key Postfix Primary Detail Member) (y : Detail-F ACall AExpr AKey APostfix APrimary ADetail AMember) → firsts_of_detail y ≡ x → ClaimDetail (roll-Detail x)
detail-step x y is = told _ _ _ _ (rolled reading) (rolled using_names) (subst SameDetail is (detail-layer y))
  where
    rolled : {A : Type 0} (s : ExprSteps A) → of_detail s (roll-Detail x) ≡ s.detail (parts_of_detail s x)
    rolled s = fold-roll-Detail _ _ _ _ _ _ _ s.call s.expr s.key s.postfix s.primary s.detail s.member x

member-step : (x : Member-F Call Expr Key Postfix Primary Detail Member) (y : Member-F ACall AExpr AKey APostfix APrimary ADetail AMember) → firsts_of_member y ≡ x → ClaimMember (roll-Member x)
member-step x y is = told _ _ _ _ (rolled reading) (rolled using_names) (subst SameMember is (member-layer y))
  where
    rolled : {A : Type 0} (s : ExprSteps A) → of_member s (roll-Member x) ≡ s.member (parts_of_member s x)
    rolled s = fold-roll-Member _ _ _ _ _ _ _ s.call s.expr s.key s.postfix s.primary s.detail s.member x

pub used-same : (e : Expr) → (read_expr e).used ≡ used_in_expr e
used-same = ind-Expr ClaimCall ClaimExpr ClaimKey ClaimPostfix ClaimPrimary ClaimDetail ClaimMember call-step expr-step key-step postfix-step primary-step detail-step member-step
