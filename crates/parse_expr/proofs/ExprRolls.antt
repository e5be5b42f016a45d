-- A fold over an expression that is put together from its parts.
use Rattle.std.proofs.Common.{◌≡◌}
use Rattle.bal_tree.specs.declared.expr.Call.{Call, Call-F, roll-Call, map-Call, fold-roll-Call}
use Rattle.bal_tree.specs.declared.expr.Expr.{Expr, Expr-F, roll-Expr, map-Expr, fold-roll-Expr}
use Rattle.bal_tree.specs.declared.expr.Key.{Key, Key-F, roll-Key, map-Key, fold-roll-Key}
use Rattle.bal_tree.specs.declared.expr.Postfix.{Postfix, Postfix-F, roll-Postfix, map-Postfix, fold-roll-Postfix}
use Rattle.bal_tree.specs.declared.expr.Primary.{Primary, Primary-F, roll-Primary, map-Primary, fold-roll-Primary}
use Rattle.bal_tree.specs.declared.expr.Detail.{Detail, Detail-F, roll-Detail, map-Detail, fold-roll-Detail}
use Rattle.bal_tree.specs.declared.expr.Member.{Member, Member-F, roll-Member, map-Member, fold-roll-Member}
use Rattle.bal_tree.specs.ExprLayers.{CallOf, ExprOf, KeyOf, PostfixOf, PrimaryOf, DetailOf, MemberOf, ExprSteps, of_call, of_expr, of_key, of_postfix, of_primary, of_detail, of_member}

module _ {A : Type 0} (s : ExprSteps A) where
  abbrev pub parts_of_call : Call-F Call Expr Key Postfix Primary Detail Member → CallOf A
  parts_of_call = map-Call Call Expr Key Postfix Primary Detail Member A A A A A A A (of_call s) (of_expr s) (of_key s) (of_postfix s) (of_primary s) (of_detail s) (of_member s)

  pub rolled-call : (x : Call-F Call Expr Key Postfix Primary Detail Member) → of_call s (roll-Call x) ≡ s.call (parts_of_call x)
  rolled-call x = fold-roll-Call A A A A A A A s.call s.expr s.key s.postfix s.primary s.detail s.member x

  abbrev pub parts_of_expr : Expr-F Call Expr Key Postfix Primary Detail Member → ExprOf A
  parts_of_expr = map-Expr Call Expr Key Postfix Primary Detail Member A A A A A A A (of_call s) (of_expr s) (of_key s) (of_postfix s) (of_primary s) (of_detail s) (of_member s)

  pub rolled-expr : (x : Expr-F Call Expr Key Postfix Primary Detail Member) → of_expr s (roll-Expr x) ≡ s.expr (parts_of_expr x)
  rolled-expr x = fold-roll-Expr A A A A A A A s.call s.expr s.key s.postfix s.primary s.detail s.member x

  abbrev pub parts_of_key : Key-F Call Expr Key Postfix Primary Detail Member → KeyOf A
  parts_of_key = map-Key Call Expr Key Postfix Primary Detail Member A A A A A A A (of_call s) (of_expr s) (of_key s) (of_postfix s) (of_primary s) (of_detail s) (of_member s)

  pub rolled-key : (x : Key-F Call Expr Key Postfix Primary Detail Member) → of_key s (roll-Key x) ≡ s.key (parts_of_key x)
  rolled-key x = fold-roll-Key A A A A A A A s.call s.expr s.key s.postfix s.primary s.detail s.member x

  abbrev pub parts_of_postfix : Postfix-F Call Expr Key Postfix Primary Detail Member → PostfixOf A
  parts_of_postfix = map-Postfix Call Expr Key Postfix Primary Detail Member A A A A A A A (of_call s) (of_expr s) (of_key s) (of_postfix s) (of_primary s) (of_detail s) (of_member s)

  pub rolled-postfix : (x : Postfix-F Call Expr Key Postfix Primary Detail Member) → of_postfix s (roll-Postfix x) ≡ s.postfix (parts_of_postfix x)
  rolled-postfix x = fold-roll-Postfix A A A A A A A s.call s.expr s.key s.postfix s.primary s.detail s.member x

  abbrev pub parts_of_primary : Primary-F Call Expr Key Postfix Primary Detail Member → PrimaryOf A
  parts_of_primary = map-Primary Call Expr Key Postfix Primary Detail Member A A A A A A A (of_call s) (of_expr s) (of_key s) (of_postfix s) (of_primary s) (of_detail s) (of_member s)

  pub rolled-primary : (x : Primary-F Call Expr Key Postfix Primary Detail Member) → of_primary s (roll-Primary x) ≡ s.primary (parts_of_primary x)
  rolled-primary x = fold-roll-Primary A A A A A A A s.call s.expr s.key s.postfix s.primary s.detail s.member x

  abbrev pub parts_of_detail : Detail-F Call Expr Key Postfix Primary Detail Member → DetailOf A
  parts_of_detail = map-Detail Call Expr Key Postfix Primary Detail Member A A A A A A A (of_call s) (of_expr s) (of_key s) (of_postfix s) (of_primary s) (of_detail s) (of_member s)

  pub rolled-detail : (x : Detail-F Call Expr Key Postfix Primary Detail Member) → of_detail s (roll-Detail x) ≡ s.detail (parts_of_detail x)
  rolled-detail x = fold-roll-Detail A A A A A A A s.call s.expr s.key s.postfix s.primary s.detail s.member x

  abbrev pub parts_of_member : Member-F Call Expr Key Postfix Primary Detail Member → MemberOf A
  parts_of_member = map-Member Call Expr Key Postfix Primary Detail Member A A A A A A A (of_call s) (of_expr s) (of_key s) (of_postfix s) (of_primary s) (of_detail s) (of_member s)

  pub rolled-member : (x : Member-F Call Expr Key Postfix Primary Detail Member) → of_member s (roll-Member x) ≡ s.member (parts_of_member x)
  rolled-member x = fold-roll-Member A A A A A A A s.call s.expr s.key s.postfix s.primary s.detail s.member x
