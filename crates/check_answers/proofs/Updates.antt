-- Assignments with an operator: two runs of each need agree.
use Rattle.std.proofs.Common.{◌≡◌, ℕ, Bool, true, List, [], ◌∷◌, None, Some, is_some, refl, sym, subst, ap, ◌∙◌}
use Rattle.std.specs.List.{AllZip}
use Rattle.bal_base.specs.declared.place.Place.{Place}
use Rattle.bal_tree.specs.declared.name.QualifiedName.{QualifiedName}
use Rattle.bal_tree.specs.declared.name.Word.{Word}
use Rattle.bal_tree.specs.declared.stmt.AssignOp.{AssignOp}
use Rattle.bal_tree.specs.declared.stmt.AssignOp.TheVariants.{Add, Divide, Multiply, Set, Subtract}
use Rattle.descriptors.specs.declared.names.Names.{Names}
use Rattle.type_model.specs.declared.answers.TypeLimit.{TypeLimit}
use Rattle.type_model.specs.declared.atoms.AtomDef.{AtomDef}
use Rattle.type_model.specs.declared.basic.Ty.{Ty}
use Rattle.type_model.specs.Calls.{Asked}
use Rattle.typed_tree.specs.declared.expr.TypedExpr.{TypedExpr}
use Rattle.typed_tree.specs.declared.form.Operator.{Operator}
use Rattle.typed_tree.specs.declared.form.Read.{Read}
use Rattle.typed_tree.specs.declared.form.Read.TheVariants as read
use Rattle.typed_tree.specs.declared.stmt.TypedStmt.{TypedStmt}
use Rattle.typed_tree.specs.declared.stmt.UpdateTarget.{UpdateTarget}
use Rattle.typed_tree.specs.declared.stmt.UpdateTarget.TheVariants as target
use Rattle.typed_tree.specs.Exprs.{type_of}
use Rattle.typed_tree.specs.Listed.{◌&◌}
use Rattle.typed_tree.specs.SharedTypes.{Shared, sem_of}
use Rattle.expr_needs.specs.declared.kind.Kind.TheVariants as kind
use Rattle.check_words.specs.Members.{read_of}
use Rattle.check_words.specs.Statements.{Assigned, AssignsModule, AssignsVariable, is_operand, keeps_two, operand_kind, operand_sort, result_fits, takes_operator, update_operator, updates, updates_assigned, updates_element, updates_field, updates_member, updates_name}
use Rattle.check_words.specs.StmtViews.{IsMemberTarget, IsUpdate}
use Rattle.check_words.specs.Values.{operator_of, sort_kind}
use Rattle.check_words.specs.Words.{Atoms, OfKind, wants_some}
use Rattle.check_answers.specs.Pieces as say
use Rattle.check_answers.specs.Pieces.{SamePieces, expr_pieces, of_type, says, target_pieces}
use Rattle.check_answers.specs.TwinStates.{PartTwins, SharedTwins, StmtTwins}
use Rattle.check_answers.proofs.Leading.{Any2, Leads, Pairs, leads-done, leads-either, leads-gives, leads-some, leads-then}
use Rattle.check_answers.proofs.Meanings.{kinds-twin}
use Rattle.check_answers.proofs.MemberReads.{takes-access-leads}
use Rattle.check_answers.proofs.Narrowing.{flow-retyped-at}
use Rattle.check_answers.proofs.Questions.{Before, Behind, D, Equal, before-atoms, below-leads, of-kind-leads, whether-kind-leads}
use Rattle.check_answers.proofs.SameTrees.{whole-same}
use Rattle.check_answers.proofs.Seeing.{narrowed-both}
use Rattle.check_answers.proofs.Statements.{AssignedTwins, adds-stmt-leads, assigned-leads, pieces-equal, takes-part-leads, takes-want-leads}
use Rattle.check_answers.proofs.StmtWriting.{update-written}
use Rattle.check_answers.proofs.Values.{sorts-leads, takes-sort-leads, wants-some-weak}
use Rattle.check_answers.proofs.Words.{changes-flow-leads, new-slot-leads, takes-leads, wanted-leads}

module _ (m n : Atoms) where
  abbrev B : Pairs
  B = Before m n

  abbrev A : Pairs
  A = Behind m n

  abbrev E : Ty → Ty → Type 0
  E = D m n

  abbrev PartsD : TypedExpr → TypedExpr → Type 0
  PartsD = PartTwins E E

  -- ---- operators

  same-op : (p q r : Operator) → q ≡ p → r ≡ p → r ≡ q
  same-op p q r e f = f ∙ sym e

  operator-same : (assign : AssignOp) (b c : Bool) (p q : Operator) → c ≡ b → update_operator assign b p → update_operator assign c q → q ≡ p
  operator-same Set b c p q e x y = absurd x
  operator-same Add b c p q e x y = y ∙ ap operator_of e ∙ sym x
  operator-same Subtract b c p q e x y = y ∙ sym x
  operator-same Multiply b c p q e x y = y ∙ sym x
  operator-same Divide b c p q e x y = y ∙ sym x

  operator-leads : (assign : AssignOp) → Leads B B Equal (takes_operator assign) (takes_operator assign)
  operator-leads assign =
      leads-then B B B Equal Equal _ _ _ _ (takes-sort-leads m n)
      (λ b c e. leads-some B Equal _ _ (λ s t p q h x y. operator-same assign b c p q e x y))

  -- ---- what is updated

  update-same : (o p : UpdateTarget) (f g : Operator) (e d : TypedExpr) (at : Place) (s t : TypedStmt) → SamePieces E (target_pieces o) (target_pieces p) → g ≡ f
      → PartsD e d → IsUpdate o f e at s → IsUpdate p g d at t → StmtTwins E s t
  update-same o p f g e d at s t h i k x y =
      pieces-equal E _ _ _ _ (update-written o f e at s x) (update-written p g d at t y) (ap (λ j. say.IsUpdate j at) i, (h, whole-same E e d k))

  updates-leads : (P Q : UpdateTarget → Type 0) (f g : Operator) (e d : TypedExpr) (at : Place)
      → ((o p : UpdateTarget) → P o → Q p → SamePieces E (target_pieces o) (target_pieces p)) → g ≡ f → PartsD e d
      → Leads B B Any2 (updates P f e at) (updates Q g d at)
  updates-leads P Q f g e d at h i k =
      leads-then B B B (λ o p. SamePieces E (target_pieces o) (target_pieces p)) Any2 _ _ _ _ (leads-some B _ _ _ (λ s t o p j x y. h o p x y))
      (λ o p j. adds-stmt-leads m n E _ _ (λ s t x y. update-same o p f g e d at s t j i k x y))

  local-target : (k l : ℕ) (b c : Bool) (t u : Shared) (o p : UpdateTarget) → l ≡ k → c ≡ b → SharedTwins E E t u → o ≡ target.Local k b t → p ≡ target.Local l c u
      → SamePieces E (target_pieces o) (target_pieces p)
  local-target k l b c t u o p e f h x y =
      pieces-equal E _ _ _ _ (ap target_pieces x) (ap target_pieces y) (ap (λ j. say.ToLocal j c) e ∙ ap (say.ToLocal k) f, h)

  variable-target : (k l : ℕ) (o p : UpdateTarget) → l ≡ k → o ≡ target.Variable k → p ≡ target.Variable l → SamePieces E (target_pieces o) (target_pieces p)
  variable-target k l o p e x y = pieces-equal E _ _ _ _ (ap target_pieces x) (ap target_pieces y) (ap say.ToVariable e)

  member-target : (k l : ℕ) (r q : Read) (a b c d : TypedExpr) (t u : Shared) (o p : UpdateTarget) → l ≡ k → q ≡ r → PartsD a c → PartsD b d → SharedTwins E E t u
      → IsMemberTarget k r a b t o → IsMemberTarget l q c d u p → SamePieces E (target_pieces o) (target_pieces p)
  member-target k l r q a b c d t u o p e f h i j (v, w, x, y, z) (v2, w2, x2, y2, z2) =
      pieces-equal E (says (say.ToMember k r) & expr_pieces a & expr_pieces b & of_type t) (says (say.ToMember l q) & expr_pieces c & expr_pieces d & of_type u)
      (target_pieces o) (target_pieces p)
      (ap target_pieces x ∙ ap (λ g. says (say.ToMember k r) & expr_pieces g & expr_pieces w.value & of_type t) y
      ∙ ap (λ g. says (say.ToMember k r) & expr_pieces a & expr_pieces g & of_type t) z)
      (ap target_pieces x2 ∙ ap (λ g. says (say.ToMember l q) & expr_pieces g & expr_pieces w2.value & of_type u) y2
      ∙ ap (λ g. says (say.ToMember l q) & expr_pieces c & expr_pieces g & of_type u) z2)
      (ap (λ g. say.ToMember g q) e ∙ ap (say.ToMember k) f, (whole-same E a c h, (whole-same E b d i, j)))

  assigned-leads-to : (a b : Assigned) (t u : Shared) (f g : Operator) (e d : TypedExpr) (at : Place) → AssignedTwins m n a b → SharedTwins E E t u → g ≡ f → PartsD e d
      → Leads B B Any2 (updates_assigned a t f e at) (updates_assigned b u g d at)
  assigned-leads-to (AssignsVariable v) (AssignsVariable w) t u f g e d at h i j k =
      leads-then B B B Any2 Any2 _ _ _ _ (changes-flow-leads m n E E _ _ (λ p q r. flow-retyped-at E E v.name w.name None None p q h.name r tt))
      (λ x y z. updates-leads _ _ f g e d at
      (λ o p x y. local-target v.slot w.slot (is_some v.narrowed) (is_some w.narrowed) t u o p h.slot (narrowed-both E E v.narrowed w.narrowed h.narrowed) i x y) j k)
  assigned-leads-to (AssignsModule k1 t1) (AssignsModule k2 t2) t u f g e d at h i j k =
      updates-leads _ _ f g e d at (λ o p x y. variable-target k1 k2 o p h.0 x y) j k
  assigned-leads-to (AssignsVariable v) (AssignsModule k2 t2) t u f g e d at h i j k = absurd h
  assigned-leads-to (AssignsModule k1 t1) (AssignsVariable w) t u f g e d at h i j k = absurd h

  two-leads : (a b c d : TypedExpr) → PartsD a c → PartsD b d → Leads B B Equal (keeps_two a b) (keeps_two c d)
  two-leads a b c d h k =
      leads-then B B B Equal Equal _ _ _ _ (new-slot-leads m n E E (type_of a) (type_of c) h.ty)
      (λ x y e. leads-then B B B Equal Equal _ _ _ _ (new-slot-leads m n E E (type_of b) (type_of d) k.ty) (λ v w f. leads-gives B Equal x y e))

  abbrev Triple : Type 0
  Triple = TypedExpr × TypedExpr × TypedExpr

  abbrev TripleTwins : Triple → Triple → Type 0
  TripleTwins p q = PartsD p.0 q.0 × PartsD p.1 q.1 × PartsD p.2 q.2

  three-of : (es fs : List TypedExpr) (p q : Triple) → AllZip PartsD es fs → es ≡ p.0 ∷ p.1 ∷ p.2 ∷ [] → fs ≡ q.0 ∷ q.1 ∷ q.2 ∷ [] → TripleTwins p q
  three-of es fs p q h x y =
      let k : AllZip PartsD (p.0 ∷ p.1 ∷ p.2 ∷ []) (q.0 ∷ q.1 ∷ q.2 ∷ []) =
      subst (λ l. AllZip PartsD l (q.0 ∷ q.1 ∷ q.2 ∷ [])) x (subst (AllZip PartsD es) y h) in
      (k.0, k.1.0, k.1.1.0)

  member-leads : (r q : Read) (t u : Shared) (f g : Operator) (es fs : List TypedExpr) (at : Place) → q ≡ r → SharedTwins E E t u → g ≡ f → AllZip PartsD es fs
      → Leads B B Any2 (updates_member r t f es at) (updates_member q u g fs at)
  member-leads r q t u f g es fs at i h j k =
      leads-then B B B TripleTwins Any2 _ _ _ _ (leads-some B _ _ _ (λ a b p o w x y. three-of es fs p o k x y))
      (λ p o z. leads-then B B B Equal Any2 _ _ _ _ (two-leads p.0 p.1 o.0 o.1 z.0 z.1)
      (λ x y e. updates-leads _ _ f g p.2 o.2 at (λ v w a b. member-target x y r q p.0 p.1 o.0 o.1 t u v w e i z.0 z.1 h a b) j z.2))

  module _ (passes : List AtomDef → Asked → TypeLimit → Type 0) where
    operand-sort-leads : (assign : AssignOp) (t u : Shared) (at : Place) → SharedTwins E E t u
        → Leads B B Equal (operand_sort passes assign t at) (operand_sort passes assign u at)
    operand-sort-leads Set t u at h = leads-gives B Equal true true refl
    operand-sort-leads Add t u at h =
        leads-then B B B Equal Equal _ _ _ _ (whether-kind-leads passes m n B (before-atoms m n) kind.Integer (sem_of t) (sem_of u) at h.twins.shapes)
        (λ b c e. leads-then B B B Any2 Equal _ _ _ _
        (leads-either B B Any2 b c _ _ _ _ e (leads-done B) (of-kind-leads passes m n B (before-atoms m n) kind.Text (sem_of t) (sem_of u) at h.twins.shapes))
        (λ x y z. leads-gives B Equal b c e))
    operand-sort-leads Subtract t u at h = leads-gives B Equal true true refl
    operand-sort-leads Multiply t u at h = leads-gives B Equal true true refl
    operand-sort-leads Divide t u at h = leads-gives B Equal true true refl

    sort-wanted : (b c : Bool) → c ≡ b → Leads B A Any2 (wants_some (OfKind (sort_kind b))) (wants_some (OfKind (sort_kind c)))
    sort-wanted b c e =
        subst (λ k. Leads B A Any2 (wants_some (OfKind (sort_kind b))) (wants_some (OfKind (sort_kind k)))) (sym e)
        (wants-some-weak m n (OfKind (sort_kind b)) (OfKind (sort_kind b)) (kinds-twin m n (sort_kind b)))

    pub operand-leads : (assign : AssignOp) (at : Place) → Leads B A Any2 (is_operand passes assign at) (is_operand passes assign at)
    operand-leads assign at =
        leads-then B B A _ Any2 _ _ _ _ (wanted-leads m n E E)
        (λ t u h. leads-then B B A Any2 Any2 _ _ _ _
        (of-kind-leads passes m n B (before-atoms m n) (operand_kind passes assign) (sem_of t) (sem_of u) at h.twins.shapes)
        (λ x y z. leads-then B B A Equal Any2 _ _ _ _ (operand-sort-leads assign t u at h)
        (λ b c e. leads-then B B A Any2 Any2 _ _ _ _ (sorts-leads m n b c e) (λ v w k. sort-wanted b c e))))

    fits-leads : (at : Place) → Leads B B (SharedTwins E E) (result_fits passes at) (result_fits passes at)
    fits-leads at =
        leads-then B B B _ (SharedTwins E E) _ _ _ _ (takes-want-leads m n)
        (λ r s h. leads-then B B B _ (SharedTwins E E) _ _ _ _ (takes-want-leads m n)
        (λ t u k. leads-then B B B _ (SharedTwins E E) _ _ _ _ (takes-want-leads m n)
        (λ v w i. leads-then B B B Any2 (SharedTwins E E) _ _ _ _
        (below-leads passes m n B (before-atoms m n) (sem_of r) (sem_of v) (sem_of s) (sem_of w) (Some at) h.twins.shapes i.twins.shapes)
        (λ x y z. leads-gives B _ t u k))))

    pub updates-element-leads : (assign : AssignOp) (at : Place) → Leads B B Any2 (updates_element passes assign at) (updates_element passes assign at)
    updates-element-leads assign at =
        leads-then B B B _ Any2 _ _ _ _ (fits-leads at)
        (λ t u h. leads-then B B B Equal Any2 _ _ _ _ (operator-leads assign)
        (λ f g e. leads-then B B B Equal Any2 _ _ _ _ (takes-access-leads m n)
        (λ a b i. leads-then B B B _ Any2 _ _ _ _ (takes-leads m n E E 3)
        (λ es fs k. member-leads (read_of a) (read_of b) t u f g es fs at (ap read_of i) h e k))))

    pub updates-field-leads : (w : Word) (assign : AssignOp) (at : Place) → Leads B B Any2 (updates_field passes w assign at) (updates_field passes w assign at)
    updates-field-leads w assign at =
        leads-then B B B _ Any2 _ _ _ _ (fits-leads at)
        (λ t u h. leads-then B B B Equal Any2 _ _ _ _ (operator-leads assign)
        (λ f g e. leads-then B B B Equal Any2 _ _ _ _ (takes-access-leads m n)
        (λ a b i. leads-then B B B _ Any2 _ _ _ _ (takes-leads m n E E 3)
        (λ es fs k. member-leads (read.Field w.name) (read.Field w.name) t u f g es fs at refl h e k))))

    pub updates-name-leads : (names : Names) (q : QualifiedName) (assign : AssignOp) (at : Place)
        → Leads B B Any2 (updates_name passes names q assign at) (updates_name passes names q assign at)
    updates-name-leads names q assign at =
        leads-then B B B _ Any2 _ _ _ _ (fits-leads at)
        (λ t u h. leads-then B B B Equal Any2 _ _ _ _ (operator-leads assign)
        (λ f g e. leads-then B B B PartsD Any2 _ _ _ _ (takes-part-leads m n)
        (λ v w k. leads-then B B B (AssignedTwins m n) Any2 _ _ _ _ (assigned-leads m n names q)
        (λ a b i. assigned-leads-to a b t u f g v w at i h e k))))
