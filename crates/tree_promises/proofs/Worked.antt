-- The worked cases.
use Rattle.std.proofs.Common.{◌≡◌, ◌++◌, ⊎_elim, inl, inr, ℕ, List, [], ◌∷◌, Option, Some, None, length, arith, refl, sym, subst}
use Rattle.std.specs.Prelude.{option_to_list}
use Rattle.bal_base.specs.declared.shape.Shape.{Shape, Nil as NilShape}
use Rattle.type_model.specs.declared.atoms.AtomDef.{AtomDef}
use Rattle.type_model.specs.declared.basic.BasicSet.TheVariants.{StringAll}
use Rattle.type_model.specs.declared.basic.SemType.{SemType, Basic}
use Rattle.type_model.specs.Membership.{In}
use Rattle.operations.specs.declared.operation.Constant.TheVariants as constant
use Rattle.operations.specs.declared.operation.Operation.TheVariants.{Const, Return}
use Rattle.operations.specs.Rows.{AreBelow, IsWithin, One, ResultHas}
use Rattle.eval_model.specs.Tasks.{Choose, Do, Kept}
use Rattle.eval_model.specs.TaskWalk.{BranchOver, TaskOver, TasksOver}
use Rattle.eval_model.specs.Walk.{ExprOver}
use Rattle.tree_promises.specs.Cases.{BreaksStandInLoops, CallsHaveTheirArguments, NarrowedIsKnown, NilIsNoText, NilIsReturned, ReachedEndsAreSaid, TestsNarrow, TestsOfCopiesNarrow, TextsAreTexts, UnsetIsNotRead, one_slot, two_slots}
use Rattle.tree_promises.specs.Flows.{LeavesFalse, LeavesTrue, Narrows, flow_ways}
use Rattle.tree_promises.specs.Known.{Flow, FlowBelow, Point, SlotBelow, loaded, plain, stored, told, way}
use Rattle.tree_promises.specs.Types.{DoesTypes, Stack, type_ways}
use Rattle.tree_promises.proofs.Order.{below-itself, types-itself, types-then}

-- ---- types of operands

pub texts-are-texts : TextsAreTexts
texts-are-texts env value text t at is =
    let m : Stack = Basic StringAll ∷ [] in (
      m,
      subst (λ e. ExprOver (type_ways env (one_slot (Basic StringAll))) e [] m) (sym is) (record {
        below = [];
        operands = [];
        result = Some (Basic StringAll);
        are = refl;
        row = (refl, λ x valid e. subst (λ (y : Shape). In env y (Basic StringAll)) (sym e) tt);
        behind = λ goes. types-itself env m;
      }),
      record { below = []; operands = m; result = None; are = refl; row = ((λ x is. is.1), refl); behind = λ goes. tt },
    )

last-below : (env : List AtomDef) (xs ys : Stack) (s t : SemType) → AreBelow env (xs ++ s ∷ []) (ys ++ t ∷ []) → IsWithin env (λ x. In env x t) s
last-below env [] [] s t f = f.0
last-below env (x ∷ xs) (y ∷ ys) s t f = last-below env xs ys s t f.1
last-below env [] (y ∷ []) s t f = absurd f.1
last-below env [] (y ∷ z ∷ ys) s t f = absurd f.1
last-below env (x ∷ []) [] s t f = absurd f.1
last-below env (x ∷ z ∷ xs) [] s t f = absurd f.1

module _ (env : List AtomDef) where
  -- where nil is the last operand, no row takes a text there
  nil-given : (below : Stack) (result : Option SemType) (q : Stack) → ResultHas env result (λ x. x ≡ NilShape) → AreBelow env (below ++ option_to_list result) q
      → (left operands : Stack) → q ≡ left ++ operands → One operands (λ v. IsWithin env (λ x. In env x (Basic StringAll)) v) → ⊥
  nil-given below (Some r) q has under left (v ∷ []) is within =
      let last = last-below env below left r v (subst (λ z. AreBelow env (below ++ r ∷ []) z) is under) in
      within NilShape (tt, last NilShape (tt, has NilShape tt refl))
  nil-given below None q has under left operands is within = absurd has
  nil-given below (Some r) q has under left [] is within = absurd within
  nil-given below (Some r) q has under left (v ∷ w ∷ vs) is within = absurd within

pub nil-is-no-text : NilIsNoText
nil-is-no-text env value t at is q (m, e, s) =
    let given : DoesTypes env (one_slot (Basic StringAll)) (Const constant.Nil) [] m =
    subst (λ e. ExprOver (type_ways env (one_slot (Basic StringAll))) e [] m) is e in
    nil-given env given.below given.result m given.row.1 (given.behind (λ ends. ends)) s.below s.operands s.are s.row.0

two-for-one : (env : List AtomDef) (t : SemType) (operands : Stack) → length operands ≡ 2 → AreBelow env operands (t ∷ []) → ⊥
two-for-one env t [] many f = f
two-for-one env t (a ∷ []) many f = omega (arith, many)
two-for-one env t (a ∷ b ∷ rest) many f = f.1

pub calls-have-their-arguments : CallsHaveTheirArguments
calls-have-their-arguments env t p q d = two-for-one env t d.operands d.row.0 d.row.1.0

pub nil-is-returned : NilIsReturned
nil-is-returned env place is (m, q, c, given, (n, r, d, s, more)) =
    let within = subst (λ z. One s.operands (λ v. IsWithin env (λ x. In env x z) v)) is s.row.0 in
    nil-given env given.below given.result n given.row.1 (types-then env _ _ _ (given.behind (λ ends. ends)) d) s.below s.operands s.are within

-- ---- loops

pub breaks-stand-in-loops : BreaksStandInLoops
breaks-stand-in-loops env place around at = ((λ p q b. b.0), (λ p q b. b.0))

-- ---- what is known of slots

pub narrowed-is-known : NarrowedIsKnown
narrowed-is-known env around ks slot t at q h = h.0

pub unset-is-not-read : UnsetIsNotRead
unset-is-not-read env around t at q (has, h) = ⊎_elim (λ none. ⊎_elim (λ bad. bad) (λ bad. bad) none) (λ (s, is, some). let bad : ⊥ = cc in bad) has

module _ (env : List AtomDef) (s : SemType) where
  abbrev of_two : Option SemType → Option SemType → Flow
  of_two k j = Some (k ∷ j ∷ [])

  -- nothing is known
  abbrev nothing : Point
  nothing = plain (of_two None None) None

  forgotten : (k : Option SemType) → SlotBelow env k None
  forgotten (Some t) = tt
  forgotten None = tt

  -- a way that is taken, where the first slot is of the type
  abbrev taken : SemType → Option SemType → Option (ℕ × ℕ) → Point
  taken t j twin = way (of_two (Some t) j) (record { flow = None; on_true = None; on_false = None; of = None; twin = twin; base = None })

  -- behind a load of the first slot nothing has to be known
  reads : (t : SemType) (j : Option SemType) (twin : Option (ℕ × ℕ)) → BranchOver (flow_ways env (two_slots s)) (Kept 0 t []) None (taken t j twin) nothing
  reads t j twin =
      let p : Point = taken t j twin in
      let flow : FlowBelow env (of_two (Some t) j) (of_two None None) = inr (tt, (forgotten j, tt)) in (
        p,
        nothing,
        below-itself env p,
        (
          loaded 0 p,
          (inr (t, refl, λ x valid is. is), (inr (t, refl, tt), below-itself env (loaded 0 p))),
          record { flow = flow; on_true = flow; on_false = flow; of = inl refl; twin = inl refl; base = refl },
        ),
        below-itself env nothing,
      )

  -- and then it is returned
  returns : TasksOver (flow_ways env (two_slots s)) (Do Return ∷ []) nothing None
  returns = (nothing, plain None None, below-itself env nothing, below-itself env (plain None None), (refl, tt))

  abbrev begun : Point
  begun = plain (of_two (Some s) None) None

  abbrev first_loaded : Point
  first_loaded = loaded 0 begun

  -- the value is kept in the second slot, and loaded from there
  abbrev kept : Point
  kept = stored 1 s first_loaded

  abbrev second_loaded : Point
  second_loaded = loaded 1 kept

  module _ (t r e : SemType) (truly : LeavesTrue env s t r) (falsely : LeavesFalse env s t e) where
    abbrev first_told : Point
    first_told = told (of_two (Some r) None) (of_two (Some e) None) first_loaded

    abbrev both_told : Point
    both_told = told (of_two (Some r) (Some r)) (of_two (Some e) (Some e)) second_loaded

    first-narrows : Narrows env t first_loaded first_told
    first-narrows =
        record {
          slot = 0;
          known = Some s ∷ None ∷ [];
          from = s;
          holds = r;
          fails = e;
          of = refl;
          flow = refl;
          has = refl;
          on_true = truly;
          on_false = falsely;
          behind = below-itself env first_told;
        }

    both-narrow : Narrows env t second_loaded both_told
    both-narrow =
        record {
          slot = 1;
          known = Some s ∷ Some s ∷ [];
          from = s;
          holds = r;
          fails = e;
          of = refl;
          flow = refl;
          has = refl;
          on_true = truly;
          on_false = falsely;
          behind = below-itself env both_told;
        }

    chosen : (j k : Option SemType) (twin : Option (ℕ × ℕ)) (flow : Flow) (p : Point)
        → p ≡ record { flow = flow; on_true = of_two (Some r) j; on_false = of_two (Some e) k; of = None; twin = twin; base = None }
        → TaskOver (flow_ways env (two_slots s)) (Choose (Kept 0 r []) (Kept 0 e [])) None p nothing
    chosen j k twin flow p is =
        let x : Point = taken r j twin in
        let y : Point = taken e k twin in
        subst (λ z. TaskOver (flow_ways env (two_slots s)) (Choose (Kept 0 r []) (Kept 0 e [])) None z nothing) (sym is)
        (x, y, below-itself env x, reads r j twin, below-itself env y, reads e k twin)

pub tests-narrow : TestsNarrow
tests-narrow env s t r e truly falsely =
    let p = begun env s in let l = first_loaded env s in let m = first_told env s t r e truly falsely in (
      p,
      l,
      below-itself env p,
      (inr (s, refl, tt), below-itself env l),
      (
        l,
        m,
        below-itself env l,
        inl (first-narrows env s t r e truly falsely),
        (m, nothing env s, below-itself env m, chosen env s t r e truly falsely None None None m.flow m refl, returns env s),
      ),
    )

pub tests-of-copies-narrow : TestsOfCopiesNarrow
tests-of-copies-narrow env s t r e truly falsely =
    let p = begun env s in let l = first_loaded env s in let k = kept env s in let c = second_loaded env s in let m = both_told env s t r e truly falsely in (
      p,
      l,
      below-itself env p,
      (inr (s, refl, tt), below-itself env l),
      (
        l,
        k,
        below-itself env l,
        (tt, s, refl, below-itself env k),
        (
          k,
          c,
          below-itself env k,
          (inr (s, refl, tt), below-itself env c),
          (
            c,
            m,
            below-itself env c,
            inl (both-narrow env s t r e truly falsely),
            (m, nothing env s, below-itself env m, chosen env s t r e truly falsely (Some r) (Some e) (Some (1, 0)) m.flow m refl, returns env s),
          ),
        ),
      ),
    )

-- ---- the ends of bodies

pub reached-ends-are-said : ReachedEndsAreSaid
reached-ends-are-said env around s (none, ends) = ⊎_elim (λ here. ⊎_elim (λ e. e) (λ bad. absurd bad) here) (λ bad. absurd bad) ends
