-- The worked cases hold.
use Rattle.std.proofs.Common.{◌≡◌, ◌∙◌, ℕ, pos, [], ◌∷◌, refl, sym, subst, ap, arith}
use Rattle.operations.specs.declared.operation.Constant.TheVariants.{Int}
use Rattle.operations.specs.declared.operation.Operation.TheVariants.{Const, Return as ReturnOp, Tick}
use Rattle.typed_tree.specs.declared.expr.TypedExpr.{Implied, Trap, Trap', fold_out-TypedExpr, out-TypedExpr}
use denote.Hole.Carrier
use Rattle.eval_model.specs.Walk.{ExprOver}
use Rattle.lower_model.specs.Cases.{OwnReachIsRefused, TrapIsMade, TrapStands, trapping}
use Rattle.lower_model.specs.Lowered.{Comes, by, code_ways, here, same, spot}
use Rattle.lower_model.specs.Making.{Making, expr_made, expr_step, guards, unmade}

pub trap-made : TrapIsMade
unfolding out-TypedExpr Carrier.out
trap-made seven type at is =
    ap (λ f. f unmade) (fold_out-TypedExpr (Making → Making) expr_step (Trap' (record { ptr = seven.ptr; alloc = seven.alloc; value = tt }) seven.value type at))
    ∙ ap (λ e. guards (expr_made e) unmade) is
    ∙ ap (λ f. guards f unmade) (fold_out-TypedExpr (Making → Making) expr_step (Implied (Int (pos 7)) type at))

-- ---- a trap in code

pub trap-stands : TrapStands
trap-stands seven type at is = (
  spot 0 [],
  spot 1 [],
  (here, refl),
  ((Tick, refl, same), refl),
  (
    spot 1 [],
    spot 6 [],
    (here, refl),
    (
      spot 2 (5 ∷ []),
      spot 3 (5 ∷ []),
      (5, (refl, refl), (refl, refl, by refl here, by refl here), refl),
      subst (λ e. ExprOver (code_ways (trapping 5)) e (spot 2 (5 ∷ [])) (spot 3 (5 ∷ []))) (sym is) ((Const (Int (pos 7)), refl, same), refl),
    ),
    (spot 6 [], spot 7 [], (here, refl), ((ReturnOp, refl, same), refl), (refl, refl)),
  ),
)

-- from the operand's place nothing but the operand comes
no-way : (q : ℕ) → Comes (trapping 2) 2 q → q ≡ 2
no-way q here = refl
no-way q (by h c) = absurd (let bad : ⊥ = cc in bad)

pub own-reach : OwnReachIsRefused
own-reach seven type at is stands = refused (stands [])
  where
    refused : ExprOver (code_ways (trapping 2)) (Trap seven type at) (spot 1 []) (spot 6 []) → ⊥
    refused (a, b, (landing, (h, opened), (closes, trap, leaves, lands), kept), x) =
        let there : landing ≡ 2 = cc in
        let bad : 6 ≡ 2 = no-way 6 (subst (λ l. Comes (trapping 2) l 6) there lands) in
        omega (arith, bad)
