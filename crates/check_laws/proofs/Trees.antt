-- Each expression leaves one part, by induction on trees.
use Rattle.std.proofs.Common.{◌≡◌, ◌+◌, ◌*◌, ℕ, suc, true, false, List, length, map, None, Some, arith, refl, sym, subst, ap, ◌∙◌}
use Rattle.std.proofs.lemmas.List.{length-map}
use Rattle.bal_base.specs.declared.place.Place.{Place}
use Rattle.bal_base.specs.declared.text.Name.{Name}
use Rattle.bal_tree.specs.declared.expr.Call.TheOpen as layer
use Rattle.bal_tree.specs.declared.expr.Call.{Call, Call-F, roll-Call, map-Call, fold-roll-Call, ind-Call}
use Rattle.bal_tree.specs.declared.expr.Expr.{Expr, Expr-F, roll-Expr, map-Expr, fold-roll-Expr, ind-Expr}
use Rattle.bal_tree.specs.declared.expr.Key.{Key, Key-F, roll-Key, map-Key, fold-roll-Key}
use Rattle.bal_tree.specs.declared.expr.Postfix.{Postfix, Postfix-F, roll-Postfix, map-Postfix, fold-roll-Postfix, ind-Postfix}
use Rattle.bal_tree.specs.declared.expr.Primary.{Primary, Primary-F, roll-Primary, map-Primary, fold-roll-Primary, ind-Primary}
use Rattle.bal_tree.specs.declared.expr.Detail.{Detail, Detail-F, roll-Detail, map-Detail, fold-roll-Detail}
use Rattle.bal_tree.specs.declared.expr.Member.{Member, Member-F, roll-Member, map-Member, fold-roll-Member}
use Rattle.bal_tree.specs.ExprLayers.{CallOf, ExprOf, KeyOf, PostfixOf, PrimaryOf, DetailOf, MemberOf}
use Rattle.needs.specs.Needs.{in_turn}
use Rattle.typed_tree.specs.Listed.{Listed, nothing}
use Rattle.expr_needs.specs.declared.expected.Expected.{Expected}
use Rattle.expr_needs.specs.declared.expected.Expected.TheVariants as expected
use Rattle.expr_needs.specs.declared.kind.Kind.TheVariants as kind
use Rattle.expr_needs.specs.ExprTable.{Reading, argument_needs, details_needs, freely, item_needs, read_call, read_detail, read_expr, read_key, read_member, read_postfix, read_primary, reading}
use Rattle.expr_needs.specs.Needs.{Need}
use Rattle.expr_needs.specs.Operators.{family_of}
use Rattle.check_laws.specs.Effects.{gives_by}
use Rattle.check_laws.specs.Heights.{Heights, ◌⊕◌, parts, wants, accesses, constructors, calls}
use Rattle.check_laws.specs.Laws.{IsWantedBy}
use Rattle.check_laws.proofs.Leading.{Base, Leads, Turns, in-turn-more}
use Rattle.check_laws.proofs.Lines.{One, OneKey, OnePair, Started, anonymous, argument, binary, callee, conditional, element, item, of-any, of-kind, prefixed}
use Rattle.check_laws.proofs.Stacks.{plus-is}

module _ (workers : List Name) (base : Base) where
  abbrev Lead : Heights → Listed Need → Heights → Type 0
  Lead = Leads workers base

  abbrev One' : Reading → Type 0
  One' = One workers base

  abbrev OneKey' : Reading → Type 0
  OneKey' = OneKey workers base

  abbrev OnePair' : Reading → Type 0
  OnePair' = OnePair workers base

  -- a call as it is made, and as it is started
  abbrev OneCall : Reading → Type 0
  OneCall a = One workers base a × Started workers base a

  abbrev ClaimCall : Call → Type 0
  ClaimCall e = OneCall (read_call e)

  abbrev ACall : Type 0
  ACall = (e : Call) × ClaimCall e

  abbrev ClaimExpr : Expr → Type 0
  ClaimExpr e = One' (read_expr e)

  abbrev AnExpr : Type 0
  AnExpr = (e : Expr) × ClaimExpr e

  abbrev ClaimKey : Key → Type 0
  ClaimKey e = OneKey' (read_key e)

  abbrev AKey : Type 0
  AKey = (e : Key) × ClaimKey e

  abbrev ClaimPostfix : Postfix → Type 0
  ClaimPostfix e = One' (read_postfix e)

  abbrev APostfix : Type 0
  APostfix = (e : Postfix) × ClaimPostfix e

  abbrev ClaimPrimary : Primary → Type 0
  ClaimPrimary e = One' (read_primary e)

  abbrev APrimary : Type 0
  APrimary = (e : Primary) × ClaimPrimary e

  abbrev ClaimDetail : Detail → Type 0
  ClaimDetail e = OnePair' (read_detail e)

  abbrev ADetail : Type 0
  ADetail = (e : Detail) × ClaimDetail e

  abbrev ClaimMember : Member → Type 0
  ClaimMember e = OnePair' (read_member e)

  abbrev AMember : Type 0
  AMember = (e : Member) × ClaimMember e

  abbrev firsts_of_call : Call-F ACall AnExpr AKey APostfix APrimary ADetail AMember → Call-F Call Expr Key Postfix Primary Detail Member
  firsts_of_call = map-Call ACall AnExpr AKey APostfix APrimary ADetail AMember Call Expr Key Postfix Primary Detail Member (λ e. e.0) (λ e. e.0) (λ e. e.0) (λ e. e.0) (λ e. e.0) (λ e. e.0) (λ e. e.0)

  abbrev parts_of_call : Call-F Call Expr Key Postfix Primary Detail Member → CallOf Reading
  parts_of_call = map-Call Call Expr Key Postfix Primary Detail Member Reading Reading Reading Reading Reading Reading Reading read_call read_expr read_key read_postfix read_primary read_detail read_member

  rolled-call : (x : Call-F Call Expr Key Postfix Primary Detail Member) → read_call (roll-Call x) ≡ reading.call (parts_of_call x)
  rolled-call x = fold-roll-Call Reading Reading Reading Reading Reading Reading Reading reading.call reading.expr reading.key reading.postfix reading.primary reading.detail reading.member x

  abbrev LayerCall : Call-F ACall AnExpr AKey APostfix APrimary ADetail AMember → Type 0
  LayerCall y = OneCall (reading.call (parts_of_call (firsts_of_call y)))

  abbrev firsts_of_expr : Expr-F ACall AnExpr AKey APostfix APrimary ADetail AMember → Expr-F Call Expr Key Postfix Primary Detail Member
  firsts_of_expr = map-Expr ACall AnExpr AKey APostfix APrimary ADetail AMember Call Expr Key Postfix Primary Detail Member (λ e. e.0) (λ e. e.0) (λ e. e.0) (λ e. e.0) (λ e. e.0) (λ e. e.0) (λ e. e.0)

  abbrev parts_of_expr : Expr-F Call Expr Key Postfix Primary Detail Member → ExprOf Reading
  parts_of_expr = map-Expr Call Expr Key Postfix Primary Detail Member Reading Reading Reading Reading Reading Reading Reading read_call read_expr read_key read_postfix read_primary read_detail read_member

  rolled-expr : (x : Expr-F Call Expr Key Postfix Primary Detail Member) → read_expr (roll-Expr x) ≡ reading.expr (parts_of_expr x)
  rolled-expr x = fold-roll-Expr Reading Reading Reading Reading Reading Reading Reading reading.call reading.expr reading.key reading.postfix reading.primary reading.detail reading.member x

  abbrev LayerExpr : Expr-F ACall AnExpr AKey APostfix APrimary ADetail AMember → Type 0
  LayerExpr y = One' (reading.expr (parts_of_expr (firsts_of_expr y)))

  abbrev firsts_of_key : Key-F ACall AnExpr AKey APostfix APrimary ADetail AMember → Key-F Call Expr Key Postfix Primary Detail Member
  firsts_of_key = map-Key ACall AnExpr AKey APostfix APrimary ADetail AMember Call Expr Key Postfix Primary Detail Member (λ e. e.0) (λ e. e.0) (λ e. e.0) (λ e. e.0) (λ e. e.0) (λ e. e.0) (λ e. e.0)

  abbrev parts_of_key : Key-F Call Expr Key Postfix Primary Detail Member → KeyOf Reading
  parts_of_key = map-Key Call Expr Key Postfix Primary Detail Member Reading Reading Reading Reading Reading Reading Reading read_call read_expr read_key read_postfix read_primary read_detail read_member

  rolled-key : (x : Key-F Call Expr Key Postfix Primary Detail Member) → read_key (roll-Key x) ≡ reading.key (parts_of_key x)
  rolled-key x = fold-roll-Key Reading Reading Reading Reading Reading Reading Reading reading.call reading.expr reading.key reading.postfix reading.primary reading.detail reading.member x

  abbrev LayerKey : Key-F ACall AnExpr AKey APostfix APrimary ADetail AMember → Type 0
  LayerKey y = OneKey' (reading.key (parts_of_key (firsts_of_key y)))

  abbrev firsts_of_postfix : Postfix-F ACall AnExpr AKey APostfix APrimary ADetail AMember → Postfix-F Call Expr Key Postfix Primary Detail Member
  firsts_of_postfix = map-Postfix ACall AnExpr AKey APostfix APrimary ADetail AMember Call Expr Key Postfix Primary Detail Member (λ e. e.0) (λ e. e.0) (λ e. e.0) (λ e. e.0) (λ e. e.0) (λ e. e.0) (λ e. e.0)

  abbrev parts_of_postfix : Postfix-F Call Expr Key Postfix Primary Detail Member → PostfixOf Reading
  parts_of_postfix = map-Postfix Call Expr Key Postfix Primary Detail Member Reading Reading Reading Reading Reading Reading Reading read_call read_expr read_key read_postfix read_primary read_detail read_member

  rolled-postfix : (x : Postfix-F Call Expr Key Postfix Primary Detail Member) → read_postfix (roll-Postfix x) ≡ reading.postfix (parts_of_postfix x)
  rolled-postfix x = fold-roll-Postfix Reading Reading Reading Reading Reading Reading Reading reading.call reading.expr reading.key reading.postfix reading.primary reading.detail reading.member x

  abbrev LayerPostfix : Postfix-F ACall AnExpr AKey APostfix APrimary ADetail AMember → Type 0
  LayerPostfix y = One' (reading.postfix (parts_of_postfix (firsts_of_postfix y)))

  abbrev firsts_of_primary : Primary-F ACall AnExpr AKey APostfix APrimary ADetail AMember → Primary-F Call Expr Key Postfix Primary Detail Member
  firsts_of_primary = map-Primary ACall AnExpr AKey APostfix APrimary ADetail AMember Call Expr Key Postfix Primary Detail Member (λ e. e.0) (λ e. e.0) (λ e. e.0) (λ e. e.0) (λ e. e.0) (λ e. e.0) (λ e. e.0)

  abbrev parts_of_primary : Primary-F Call Expr Key Postfix Primary Detail Member → PrimaryOf Reading
  parts_of_primary = map-Primary Call Expr Key Postfix Primary Detail Member Reading Reading Reading Reading Reading Reading Reading read_call read_expr read_key read_postfix read_primary read_detail read_member

  rolled-primary : (x : Primary-F Call Expr Key Postfix Primary Detail Member) → read_primary (roll-Primary x) ≡ reading.primary (parts_of_primary x)
  rolled-primary x = fold-roll-Primary Reading Reading Reading Reading Reading Reading Reading reading.call reading.expr reading.key reading.postfix reading.primary reading.detail reading.member x

  abbrev LayerPrimary : Primary-F ACall AnExpr AKey APostfix APrimary ADetail AMember → Type 0
  LayerPrimary y = One' (reading.primary (parts_of_primary (firsts_of_primary y)))

  abbrev firsts_of_detail : Detail-F ACall AnExpr AKey APostfix APrimary ADetail AMember → Detail-F Call Expr Key Postfix Primary Detail Member
  firsts_of_detail = map-Detail ACall AnExpr AKey APostfix APrimary ADetail AMember Call Expr Key Postfix Primary Detail Member (λ e. e.0) (λ e. e.0) (λ e. e.0) (λ e. e.0) (λ e. e.0) (λ e. e.0) (λ e. e.0)

  abbrev parts_of_detail : Detail-F Call Expr Key Postfix Primary Detail Member → DetailOf Reading
  parts_of_detail = map-Detail Call Expr Key Postfix Primary Detail Member Reading Reading Reading Reading Reading Reading Reading read_call read_expr read_key read_postfix read_primary read_detail read_member

  rolled-detail : (x : Detail-F Call Expr Key Postfix Primary Detail Member) → read_detail (roll-Detail x) ≡ reading.detail (parts_of_detail x)
  rolled-detail x = fold-roll-Detail Reading Reading Reading Reading Reading Reading Reading reading.call reading.expr reading.key reading.postfix reading.primary reading.detail reading.member x

  abbrev LayerDetail : Detail-F ACall AnExpr AKey APostfix APrimary ADetail AMember → Type 0
  LayerDetail y = OnePair' (reading.detail (parts_of_detail (firsts_of_detail y)))

  abbrev firsts_of_member : Member-F ACall AnExpr AKey APostfix APrimary ADetail AMember → Member-F Call Expr Key Postfix Primary Detail Member
  firsts_of_member = map-Member ACall AnExpr AKey APostfix APrimary ADetail AMember Call Expr Key Postfix Primary Detail Member (λ e. e.0) (λ e. e.0) (λ e. e.0) (λ e. e.0) (λ e. e.0) (λ e. e.0) (λ e. e.0)

  abbrev parts_of_member : Member-F Call Expr Key Postfix Primary Detail Member → MemberOf Reading
  parts_of_member = map-Member Call Expr Key Postfix Primary Detail Member Reading Reading Reading Reading Reading Reading Reading read_call read_expr read_key read_postfix read_primary read_detail read_member

  rolled-member : (x : Member-F Call Expr Key Postfix Primary Detail Member) → read_member (roll-Member x) ≡ reading.member (parts_of_member x)
  rolled-member x = fold-roll-Member Reading Reading Reading Reading Reading Reading Reading reading.call reading.expr reading.key reading.postfix reading.primary reading.detail reading.member x

  abbrev LayerMember : Member-F ACall AnExpr AKey APostfix APrimary ADetail AMember → Type 0
  LayerMember y = OnePair' (reading.member (parts_of_member (firsts_of_member y)))

  -- ---- lists

  as-many : {X : Type 0} {C : X → Type 0} (read : X → Reading) (xs : List ((x : X) × C x)) → length (map read (map (λ x. x.0) xs)) ≡ length xs
  as-many read xs = length-map (map (λ x. x.0) xs) read ∙ length-map xs (λ x. x.0)

  arguments : (at : Place) (xs : List AnExpr) (h : Heights)
      → Lead (h ⊕ calls 1) (in_turn (argument_needs at) (map read_expr (map (λ x. x.0) xs))) (h ⊕ calls 1)
  arguments at xs h =
      in-turn-more workers base read_expr (argument_needs at) (λ i. h ⊕ calls 1) (λ i x c. argument workers base at (read_expr x) c h) xs 0 (h ⊕ calls 1) nothing refl

  -- so many parts where a constructor is open
  abbrev Open : Heights → ℕ → Heights
  Open h n = h ⊕ (parts n ⊕ constructors 1)

  items : (xs : List AnExpr) (h : Heights)
      → Lead (h ⊕ constructors 1) (in_turn item_needs (map read_expr (map (λ x. x.0) xs))) (Open h (length (map read_expr (map (λ x. x.0) xs))))
  items xs h =
      subst (λ n. Lead (h ⊕ constructors 1) (in_turn item_needs (map read_expr (map (λ x. x.0) xs))) (Open h n)) (let many = as-many read_expr xs in omega arith)
      (in-turn-more workers base read_expr item_needs (Open h) (λ i x c. item workers base (read_expr x) c (h ⊕ parts i)) xs 0 (h ⊕ constructors 1) nothing refl)

  -- pairs of keys and values
  abbrev Paired : Heights → ℕ → Heights
  Paired h i = record (h ⊕ constructors 1) { parts = h.parts + 2 * i }

  pairs : {X : Type 0} {C : X → Type 0} (read : X → Reading) → ((x : X) → C x → OnePair' (read x)) → (xs : List ((x : X) × C x)) (h : Heights)
      → Lead (h ⊕ constructors 1) (in_turn freely (map read (map (λ x. x.0) xs))) (Open h (2 * length (map read (map (λ x. x.0) xs))))
  pairs read pair xs h =
      subst (λ n. Lead (h ⊕ constructors 1) (in_turn freely (map read (map (λ x. x.0) xs))) (record (h ⊕ constructors 1) { parts = n }))
      (let many = as-many read xs in let all = plus-is h.parts (2 * length (map read (map (λ x. x.0) xs))) in omega arith)
      (in-turn-more workers base read freely (Paired h) (λ i x c. next i (read x) (pair x c)) xs 0 (h ⊕ constructors 1) nothing
      (ap (λ n. record (h ⊕ constructors 1) { parts = n }) (omega arith)))
    where
      next : (i : ℕ) (a : Reading) → OnePair' a → Lead (Paired h i) (freely a) (Paired h (suc i))
      next i a c =
          subst (λ n. Lead (Paired h i) (freely a) (record (h ⊕ constructors 1) { parts = n })) (omega arith)
          (c expected.Nothing (record h { parts = h.parts + 2 * i }))

  -- ---- one layer of a tree, of whose parts it is known

  expr-layer : (y : Expr-F ACall AnExpr AKey APostfix APrimary ADetail AMember) → LayerExpr y
  expr-layer (layer.Postfix e) = e.1
  expr-layer (layer.Prefix op a at) = λ e h w. prefixed workers base op (read_expr a.value.0) at a.value.1 h
  expr-layer (layer.Cast t a at) = λ e h w.
      let k : Heights = h ⊕ wants 1 in
      (k, (h, refl, refl), (k ⊕ parts 1, of-any workers base (read_expr a.value.0) a.value.1 k, (h, refl, refl)))
  expr-layer (layer.Binary a op b at) = binary workers base (family_of op) (read_expr a.value.0) (read_expr b.value.0) at a.value.1 b.value.1
  expr-layer (layer.TypeTest a t at) = λ e h w.
      let k : Heights = h ⊕ parts 1 in
      (k, of-any workers base (read_expr a.value.0) a.value.1 h, (k ⊕ wants 1, (k, refl, refl), (h, refl, refl)))
  expr-layer (layer.Conditional c a b at) = λ e h w. conditional workers base (read_expr c.value.0) (read_expr a.value.0) (read_expr b.value.0) at c.value.1 a.value.1 b.value.1 h
  expr-layer (layer.Trap a at) = λ e h w. (h ⊕ parts 1, of-any workers base (read_expr a.value.0) a.value.1 h, (h, refl, refl))
  expr-layer (layer.«Expr::Function» isolated ps result v at) = λ e h w. anonymous workers base isolated ps result.value (read_expr v.value.0) at v.value.1 h

  postfix-layer : (y : Postfix-F ACall AnExpr AKey APostfix APrimary ADetail AMember) → LayerPostfix y
  postfix-layer (layer.Primary e) = e.1
  postfix-layer (layer.Call e) = e.1.0
  postfix-layer (layer.Field a field at) = λ e h w. (h ⊕ parts 1, of-kind workers base kind.AnyMapping (read_postfix a.value.0) a.value.1 h, (h, refl, refl))
  postfix-layer (layer.OptionalField a field at) = λ e h w. (h ⊕ parts 1, of-kind workers base kind.MappingOrNil (read_postfix a.value.0) a.value.1 h, (h, refl, refl))
  postfix-layer (layer.Index a i at) = λ e h w. (h ⊕ (parts 2 ⊕ accesses 1), element workers base true (read_postfix a.value.0) (read_expr i.value.0) a.value.1 i.value.1 h, (h, refl, refl))

  call-layer : (y : Call-F ACall AnExpr AKey APostfix APrimary ADetail AMember) → LayerCall y
  call-layer (layer.«Call::Function» f args at) = (
    λ e h w. (h ⊕ calls 1, (h ⊕ calls 1, callee workers base (read_postfix f.value.0).name (read_postfix f.value.0) f.value.1 false _ at h, arguments at args.items h), (h, refl, refl)),
    λ h. (h ⊕ calls 1, callee workers base (read_postfix f.value.0).name (read_postfix f.value.0) f.value.1 true _ at h, arguments at args.items h),
  )
  call-layer (layer.Method b m args at) = (
    λ e h w. (h ⊕ calls 1, (h ⊕ calls 1, (h ⊕ parts 1, of-any workers base (read_postfix b.value.0) b.value.1 h, (h, refl, refl)), arguments at args.items h), (h, refl, refl)),
    λ h. (h ⊕ parts 1, of-any workers base (read_postfix b.value.0) b.value.1 h, tt),
  )

  key-layer : (y : Key-F ACall AnExpr AKey APostfix APrimary ADetail AMember) → LayerKey y
  key-layer (layer.Word w) = λ e h. (h, refl, refl)
  key-layer (layer.Str text at) = λ e h. (h, refl, refl)
  key-layer (layer.Computed a at) = λ e h. (Open h 1, of-kind workers base kind.Text (read_expr a.value.0) a.value.1 (h ⊕ constructors 1), (h, refl, refl))

  member-layer : (y : Member-F ACall AnExpr AKey APostfix APrimary ADetail AMember) → LayerMember y
  member-layer y = λ e h.
      let k : Heights = Open h 1 ⊕ wants 1 in
      (Open h 1, y.key.1 _ h, (k, (h, refl, refl), (k ⊕ parts 1, y.value.value.1 expected.Wanted k (omega arith), (h, refl, refl))))

  detail-layer : (y : Detail-F ACall AnExpr AKey APostfix APrimary ADetail AMember) → LayerDetail y
  detail-layer y = λ e h. (Open h 1, (h, refl, refl), (Open h 2, of-any workers base (read_expr y.value.value.0) y.value.value.1 (Open h 1), (h, refl, refl)))

  -- what a constructor begins with, where the type that is wanted counts
  begun : (e : Expected) (h : Heights) → IsWantedBy e (base.wants + h.wants) → Turns workers base (gives_by e (constructors 1)) h (h ⊕ constructors 1)
  begun expected.Nothing h w = (h, refl, refl)
  begun expected.Immutable h w = (h, refl, refl)
  begun expected.Wanted h w = (w, refl)

  details : (ds : List ADetail) (at : Place) (h : Heights) → Lead (h ⊕ parts 2) (details_needs (map read_detail (map (λ x. x.0) ds)) at) (h ⊕ parts 1)
  details ds at h =
      let k : Heights = h ⊕ parts 2 in let n : ℕ = 2 * length (map read_detail (map (λ x. x.0) ds)) in (
        Open k n,
        (k ⊕ constructors 1, (k, refl, refl), pairs read_detail (λ x c. c) ds k),
        (h, ap (λ m. record (h ⊕ constructors 1) { parts = m }) (let one = plus-is (h.parts) n in let two = plus-is (suc (suc h.parts)) n in let all = plus-is h.parts (2 + n) in omega arith), refl),
      )

  primary-layer : (y : Primary-F ACall AnExpr AKey APostfix APrimary ADetail AMember) → LayerPrimary y
  primary-layer (layer.Literal l) = λ e h w. (h, refl, refl)
  primary-layer (layer.Name q) = λ e h w. (h, refl, refl)
  primary-layer (layer.Parens a at) = λ e h w. (h ⊕ parts 1, a.value.1 e h w, (h, refl, refl))
  primary-layer (layer.List xs at) = λ e h w.
      (Open h (length (map read_expr (map (λ x. x.0) xs.items))), (h ⊕ constructors 1, begun e h w, items xs.items h), (h, refl, refl))
  primary-layer (layer.Mapping ms at) = λ e h w.
      (Open h (2 * length (map read_member (map (λ x. x.0) ms.items))), (h ⊕ constructors 1, begun e h w, pairs read_member (λ x c. c) ms.items h), (h, refl, refl))
  primary-layer (layer.Error m None ds at) = λ e h w.
      (h ⊕ parts 2, (h ⊕ parts 1, of-kind workers base kind.Text (read_expr m.value.0) m.value.1 h, (h ⊕ parts 1, refl, refl)), details ds.items at h)
  primary-layer (layer.Error m (Some c) ds at) = λ e h w.
      (h ⊕ parts 2, (h ⊕ parts 1, of-kind workers base kind.Text (read_expr m.value.0) m.value.1 h, of-kind workers base kind.ErrorOrNil (read_expr c.value.0) c.value.1 (h ⊕ parts 1)), details ds.items at h)

  -- ---- the whole

  call-step : (x : Call-F Call Expr Key Postfix Primary Detail Member) (y : Call-F ACall AnExpr AKey APostfix APrimary ADetail AMember) → firsts_of_call y ≡ x → ClaimCall (roll-Call x)
  call-step x y is = subst (λ z. ClaimCall (roll-Call z)) is (subst OneCall (sym (rolled-call (firsts_of_call y))) (call-layer y))

  expr-step : (x : Expr-F Call Expr Key Postfix Primary Detail Member) (y : Expr-F ACall AnExpr AKey APostfix APrimary ADetail AMember) → firsts_of_expr y ≡ x → ClaimExpr (roll-Expr x)
  expr-step x y is = subst (λ z. ClaimExpr (roll-Expr z)) is (subst One' (sym (rolled-expr (firsts_of_expr y))) (expr-layer y))

  key-step : (x : Key-F Call Expr Key Postfix Primary Detail Member) (y : Key-F ACall AnExpr AKey APostfix APrimary ADetail AMember) → firsts_of_key y ≡ x → ClaimKey (roll-Key x)
  key-step x y is = subst (λ z. ClaimKey (roll-Key z)) is (subst OneKey' (sym (rolled-key (firsts_of_key y))) (key-layer y))

  postfix-step : (x : Postfix-F Call Expr Key Postfix Primary Detail Member) (y : Postfix-F ACall AnExpr AKey APostfix APrimary ADetail AMember) → firsts_of_postfix y ≡ x → ClaimPostfix (roll-Postfix x)
  postfix-step x y is = subst (λ z. ClaimPostfix (roll-Postfix z)) is (subst One' (sym (rolled-postfix (firsts_of_postfix y))) (postfix-layer y))

  primary-step : (x : Primary-F Call Expr Key Postfix Primary Detail Member) (y : Primary-F ACall AnExpr AKey APostfix APrimary ADetail AMember) → firsts_of_primary y ≡ x → ClaimPrimary (roll-Primary x)
  primary-step x y is = subst (λ z. ClaimPrimary (roll-Primary z)) is (subst One' (sym (rolled-primary (firsts_of_primary y))) (primary-layer y))

  detail-step : (x : Detail-F Call Expr Key Postfix Primary Detail Member) (y : Detail-F ACall AnExpr AKey APostfix APrimary ADetail AMember) → firsts_of_detail y ≡ x → ClaimDetail (roll-Detail x)
  detail-step x y is = subst (λ z. ClaimDetail (roll-Detail z)) is (subst OnePair' (sym (rolled-detail (firsts_of_detail y))) (detail-layer y))

  member-step : (x : Member-F Call Expr Key Postfix Primary Detail Member) (y : Member-F ACall AnExpr AKey APostfix APrimary ADetail AMember) → firsts_of_member y ≡ x → ClaimMember (roll-Member x)
  member-step x y is = subst (λ z. ClaimMember (roll-Member z)) is (subst OnePair' (sym (rolled-member (firsts_of_member y))) (member-layer y))

  pub expr-one : (e : Expr) → ClaimExpr e
  expr-one = ind-Expr ClaimCall ClaimExpr ClaimKey ClaimPostfix ClaimPrimary ClaimDetail ClaimMember call-step expr-step key-step postfix-step primary-step detail-step member-step

  pub postfix-one : (e : Postfix) → ClaimPostfix e
  postfix-one = ind-Postfix ClaimCall ClaimExpr ClaimKey ClaimPostfix ClaimPrimary ClaimDetail ClaimMember call-step expr-step key-step postfix-step primary-step detail-step member-step

  pub primary-one : (e : Primary) → ClaimPrimary e
  primary-one = ind-Primary ClaimCall ClaimExpr ClaimKey ClaimPostfix ClaimPrimary ClaimDetail ClaimMember call-step expr-step key-step postfix-step primary-step detail-step member-step

  pub call-one : (e : Call) → ClaimCall e
  call-one = ind-Call ClaimCall ClaimExpr ClaimKey ClaimPostfix ClaimPrimary ClaimDetail ClaimMember call-step expr-step key-step postfix-step primary-step detail-step member-step
