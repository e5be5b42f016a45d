-- Anonymous functions that are made: two runs of the need agree.
use Rattle.std.proofs.Common.{◌≡◌, ◌++◌, ◌+◌, ℕ, Bool, List, [], ◌∷◌, take, Option, Some, None, refl, sym, subst, ap}
use Rattle.std.specs.List.{AllZip}
use Rattle.bal_base.specs.declared.place.Place.{Place}
use Rattle.checks.specs.Agreement.{AreTwins}
use Rattle.descriptors.specs.Described.{plain}
use Rattle.type_model.specs.declared.atoms.AtomDef.{AtomDef}
use Rattle.type_model.specs.declared.atoms.AtomDef.TheVariants.{List as ListAtom}
use Rattle.type_model.specs.declared.basic.SemType.{Atom, SemType}
use Rattle.type_model.specs.declared.basic.Ty.{Ty}
use Rattle.type_model.specs.Defined.{IsClosed}
use Rattle.type_model.specs.SameType.{IsSameType}
use Rattle.typed_tree.specs.declared.expr.TypedExpr.{TypedExpr}
use Rattle.typed_tree.specs.SharedTypes.{Shared, sem_of}
use Rattle.typed_tree.specs.Views.{IsFunctionOf}
use Rattle.check_words.specs.Calls.{AreOwnAtoms, IsRestOf, fixed_types, makes_anonymous, typed_unit}
use Rattle.check_words.specs.Sharing.{SameOption}
use Rattle.check_words.specs.State.{UnitAtWork}
use Rattle.check_words.specs.Words.{Atoms}
use Rattle.check_answers.specs.Answers.{TwinsOver}
use Rattle.check_answers.specs.Pieces as say
use Rattle.check_answers.specs.Pieces.{SamePieces, captured_pieces}
use Rattle.check_answers.specs.TwinStates.{PartTwins, SharedTwins, UnitTwins}
use Rattle.check_answers.specs.TwinTypes.{TwinAtoms, TwinDefs, TwinTypes}
use Rattle.check_answers.proofs.Adding.{Grown, adds-leads, grown-ends}
use Rattle.check_answers.proofs.Calls.{closes-unit-leads}
use Rattle.check_answers.proofs.Growing.{settled-later}
use Rattle.check_answers.proofs.Leading.{Any2, Leads, Pairs, leads-then}
use Rattle.check_answers.proofs.Made.{first-twins, group, same-atom}
use Rattle.check_answers.proofs.Mapping.{unit-map}
use Rattle.check_answers.proofs.Meanings.{copies-twin, sem-copies}
use Rattle.check_answers.proofs.MemberReads.{plain-twins}
use Rattle.check_answers.proofs.NewAtoms.{copies-zip}
use Rattle.check_answers.proofs.Questions.{Before, D, Equal, W, settled-twins}
use Rattle.check_answers.proofs.SameTrees.{joined-same, parts-same, whole-same}
use Rattle.check_answers.proofs.Units.{units-written}
use Rattle.check_answers.proofs.Words.{makes-leads, no-more-leads}
use Rattle.check_answers.proofs.Writing.{function-type, function-written}
use Rattle.check_answers.proofs.Zips.{zip-but, zip-take}

module _ (m n : Atoms) (first : IsClosed m) (second : IsClosed n) (twins : TwinAtoms m n) where
  abbrev B : Pairs
  B = Before m n

  abbrev E : Ty → Ty → Type 0
  E = D m n

  -- ---- the types of the arguments

  slots-taken : (us vs : List Shared) (k l : ℕ) → l ≡ k → AllZip (SharedTwins E E) us vs → AllZip (SharedTwins E E) (take k us) (take l vs)
  slots-taken us vs k l e h = subst (λ i. AllZip (SharedTwins E E) (take k us) (take i vs)) (sym e) (zip-take (SharedTwins E E) k us vs h)

  -- with this rest parameter
  abbrev with : Option ℕ → UnitAtWork → UnitAtWork
  with r u = record u { rest = r }

  fixed-by : (u v : UnitAtWork) (a b : Option ℕ) → b ≡ a → UnitTwins E E u v → AllZip (SharedTwins E E) (fixed_types (with a u)) (fixed_types (with b v))
  fixed-by u v None None e h = slots-taken u.slots v.slots u.params v.params h.params h.slots
  fixed-by u v (Some a) (Some b) e h = zip-but (SharedTwins E E) 1 _ _ (slots-taken u.slots v.slots u.params v.params h.params h.slots)
  fixed-by u v None (Some b) e h = absurd (cc)
  fixed-by u v (Some a) None e h = absurd (cc)

  fixed-same : (u v : UnitAtWork) → UnitTwins E E u v → AllZip (SharedTwins E E) (fixed_types u) (fixed_types v)
  fixed-same u v h = fixed-by u v u.rest v.rest h.rest h

  rest-same : (d e : Atoms) (o p : Option Shared) (r s : Option Ty) → SameOption (SharedTwins E E) o p → IsRestOf o r → IsRestOf p s
      → SameOption (TwinTypes (m ++ d) (n ++ e)) r s
  rest-same d e None None None None h x y = tt
  rest-same d e (Some t) (Some u) (Some r) (Some s) h x y =
      let k = settled-later m n d e first second t.value u.value h in copies-twin (m ++ d) (n ++ e) t.value u.value r s k.twins x y
  rest-same d e None (Some u) r s h x y = absurd h
  rest-same d e (Some t) None r s h x y = absurd h
  rest-same d e None None (Some r) s h x y = absurd x
  rest-same d e None None None (Some s) h x y = absurd y
  rest-same d e (Some t) (Some u) None s h x y = absurd x
  rest-same d e (Some t) (Some u) (Some r) None h x y = absurd y

  -- ---- its atoms

  result-same : (d e : Atoms) (t u : Shared) (r s : SemType) → SharedTwins E E t u → IsSameType (sem_of t) r → IsSameType (sem_of u) s → AreTwins (m ++ d) r (n ++ e) s
  result-same d e t u r s h x y =
      let k = settled-later m n d e first second t.value u.value h in sem-copies (m ++ d) (n ++ e) (sem_of t) (sem_of u) r s k.twins.shapes x y

  own-same : (isolated : Bool) (u v : UnitAtWork) (d e : List AtomDef) → UnitTwins E E u v → AreOwnAtoms isolated u m d → AreOwnAtoms isolated v n e
      → AllZip (TwinDefs (m ++ d) (n ++ e)) d e
  own-same isolated u v d e h (f1, r1, a1, b1, p1, q1, x1, y1, is) (f2, r2, a2, b2, p2, q2, x2, y2, it) =
      let args : TwinDefs (m ++ d) (n ++ e) (ListAtom f1 r1) (ListAtom f2 r2) =
      (copies-zip m n first second twins d e (fixed_types u) (fixed_types v) f1 f2 (fixed-same u v h) p1 p2, rest-same d e u.rest_member v.rest_member r1 r2 h.rest_member q1 q2) in
      group m n first second twins d e _ _ is it (
        args,
        (
          (first-twins m n first second twins d e _ _ _ _ is it args, result-same d e u.result v.result a1 a2 h.result x1 x2, refl),
          (result-same d e u.result v.result b1 b2 h.result y1 y2, tt),
        ),
      )

  -- ---- the function

  abbrev MadeSo : Bool → Place → UnitAtWork → ℕ → Atoms → List TypedExpr → TypedExpr → Type 0
  MadeSo isolated at u a env parts e =
      (value : TypedExpr) × (parts ≡ value ∷ []) × (t : Shared) × (t.value ≡ plain (Atom (a + 1)))
      × IsFunctionOf (record { isolated = isolated; unit = typed_unit u (a + 1) (a + 2); args = a; captured = u.captured }) value t at e

  module _ (M N : Atoms) (z : TwinAtoms M N) (isolated : Bool) (at : Place) (u v : UnitAtWork) (a b : ℕ) (e : b ≡ a) (h : UnitTwins (D M N) (D M N) u v) where
    made-same : (es fs : List TypedExpr) (x y : TypedExpr) → AllZip (PartTwins (D M N) (D M N)) es fs → MadeSo isolated at u a M es x → MadeSo isolated at v b N fs y
        → PartTwins (D M N) (W M N) x y
    made-same es fs x y all (c, p, t, q, is) (d, r, w, s, it) =
        let one : AllZip (PartTwins (D M N) (D M N)) (c ∷ []) (d ∷ []) =
        subst (λ l. AllZip (PartTwins (D M N) (D M N)) l (d ∷ [])) p (subst (AllZip (PartTwins (D M N) (D M N)) es) r all) in
        parts-same (D M N) (W M N) x y t w _ _ (function-type _ c t at x is) (function-type _ d w at y it) (function-written _ c t at x is) (function-written _ d w at y it)
        (plain-twins M N (Atom (a + 1)) (Atom (b + 1)) t.value w.value (same-atom M N z (a + 1) (b + 1) (ap (λ k. k + 1) e)) q s) (
          ap (λ k. say.IsFunction isolated k at) e,
          (
            (units-written M N u v (a + 1) (b + 1) (a + 2) (b + 2) (ap (λ k. k + 1) e) (ap (λ k. k + 2) e) h, joined-same (D M N) captured_pieces u.captured v.captured h.captured),
            whole-same (D M N) c d one.0,
          ),
        )

  pub anonymous-leads : (isolated : Bool) (at : Place) → Leads B TwinsOver Any2 (makes_anonymous isolated at) (makes_anonymous isolated at)
  anonymous-leads isolated at =
      leads-then B B TwinsOver Any2 Any2 _ _ _ _ (no-more-leads m n E E 1)
      (λ a1 a2 a3. leads-then B B TwinsOver (UnitTwins E E) Any2 _ _ _ _ (closes-unit-leads m n)
      (λ u v h. leads-then B (Grown m n) TwinsOver Equal Any2 _ _ _ _
      (adds-leads m n first second twins (AreOwnAtoms isolated u) (AreOwnAtoms isolated v) (Some at) (λ d e x y. own-same isolated u v d e h x y))
      (λ a b e. grown-ends m n Any2 _ _ (λ more others z.
      let M = m ++ more in let N = n ++ others in
      makes-leads M N (D M N) (D M N) (W M N) (settled-twins M N) 1 (MadeSo isolated at u a) (MadeSo isolated at v b)
      (λ es fs x y all p q. made-same M N z isolated at u v a b e
      (unit-map E E (D M N) (D M N) (settled-later m n more others first second) (settled-later m n more others first second) u v h) es fs x y all p q)))))
