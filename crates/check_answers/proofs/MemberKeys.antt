-- Members of mappings: two runs of the need agree.
use Rattle.std.proofs.Common.{◌≡◌, ◌⊎◌, ℕ, Bool, true, false, List, [], ◌∷◌, Option, None, Some, inl, inr, sym, subst, ◌∙◌}
use Rattle.std.specs.List.{AllZip}
use Rattle.bal_base.specs.declared.place.Place.{Place}
use Rattle.bal_base.specs.declared.shape.Shape.{Str}
use Rattle.bal_base.specs.declared.text.Text.{Text}
use Rattle.checks.specs.Agreement.{Alike, AreTwins, BothKeep}
use Rattle.checks.specs.Checks.{Gives, Refuses}
use Rattle.operations.specs.Structures.{IsMappingAtom}
use Rattle.type_model.specs.declared.answers.TypeLimit.{TypeLimit}
use Rattle.type_model.specs.declared.atoms.AtomDef.{AtomDef}
use Rattle.type_model.specs.declared.atoms.FieldDef.{FieldDef}
use Rattle.type_model.specs.declared.basic.SemType.{SemType}
use Rattle.type_model.specs.Calls.{Asked}
use Rattle.type_model.specs.Inclusion.{IsShapeOf}
use Rattle.typed_tree.specs.declared.expr.TypedExpr.{TypedExpr}
use Rattle.check_words.specs.Constructors.{IsLastKey, fits_field, fits_fields, fits_keys, is_below_copy, is_member, names_field}
use Rattle.check_words.specs.State.{ConstructorAtWork}
use Rattle.check_words.specs.Words.{Atoms, asking, sem}
use Rattle.check_answers.specs.TwinStates.{ConstructorTwins, PartTwins}
use Rattle.check_answers.specs.TwinTypes.{TwinAtoms, TwinFields}
use Rattle.check_answers.proofs.Atoms.{with-mappings}
use Rattle.check_answers.proofs.Constructors.{adds-member-leads, may-stand-leads}
use Rattle.check_answers.proofs.Leading.{Any2, Leads, Pairs, leads-asking, leads-done, leads-either, leads-over, leads-some, leads-then}
use Rattle.check_answers.proofs.Meanings.{sem-copies}
use Rattle.check_answers.proofs.Questions.{Before, Behind, D, Equal, W, before-atoms, below-if-leads, below-leads}
use Rattle.check_answers.proofs.Words.{constructor-leads, no-more-leads, part-leads, two-leads, want-leads}
use Rattle.check_answers.proofs.Zips.{last-same}

module _ (passes : List AtomDef → Asked → TypeLimit → Type 0) (m n : Atoms) (twins : TwinAtoms m n) where
  abbrev B : Pairs
  B = Before m n

  abbrev A : Pairs
  A = Behind m n

  abbrev PartsD : TypedExpr → TypedExpr → Type 0
  PartsD = PartTwins (D m n) (D m n)

  -- whether a key may be the name
  names-same : (name : Text) (s u : SemType) (b c : Bool) → AreTwins m s n u → ((b ≡ true) × IsShapeOf m s (Str name)) ⊎ ((b ≡ false) × (¬ IsShapeOf m s (Str name)))
      → ((c ≡ true) × IsShapeOf n u (Str name)) ⊎ ((c ≡ false) × (¬ IsShapeOf n u (Str name))) → c ≡ b
  names-same name s u b c h (inl x) (inl y) = y.0 ∙ sym x.0
  names-same name s u b c h (inr x) (inr y) = y.0 ∙ sym x.0
  names-same name s u b c h (inl x) (inr y) = absurd (y.1 (x.1.0, (h (Str name) x.1.0).0 x.1.1))
  names-same name s u b c h (inr x) (inl y) = absurd (x.1 (y.1.0, (h (Str name) y.1.0).1 y.1.1))

  names-alike : (name : Text) (s u : SemType) → AreTwins m s n u → Alike (BothKeep m n Equal) m n (names_field passes name s) (names_field passes name u)
  unfolding names_field
  names-alike name s u h (Gives b) (Gives c) m2 n2 x y = (names-same name s u b c h x.0 y.0, x.1, y.1)
  names-alike name s u h (Gives b) (Refuses g) m2 n2 x y = absurd y
  names-alike name s u h (Refuses f) o m2 n2 x y = absurd x

  named-leads : (name other : Text) (s u : SemType) → other ≡ name → AreTwins m s n u
      → Leads B B Equal (asking (names_field passes name s)) (asking (names_field passes other u))
  named-leads name other s u e h =
      subst (λ k. Leads B B Equal (asking (names_field passes name s)) (asking (names_field passes k u))) (sym e)
      (leads-asking m n B Equal _ _ (before-atoms m n) (names-alike name s u h))

  copy-leads : (e f : TypedExpr) (s u : SemType) (at : Place) → PartsD e f → AreTwins m s n u → Leads B B Any2 (is_below_copy passes e s at) (is_below_copy passes f u at)
  copy-leads e f s u at h k =
      leads-then B B B (λ a b. AreTwins m a n b) Any2 _ _ _ _
      (leads-over m n B (λ a b. AreTwins m a n b) _ _ (before-atoms m n) (λ a b x y. sem-copies m n s u a b k x y))
      (λ a b i. below-leads passes m n B (before-atoms m n) (sem e) a (sem f) b (Some at) h.ty.twins.shapes i)

  field-leads : (s u : SemType) (e f : TypedExpr) (at : Place) (a b : FieldDef) → AreTwins m s n u → PartsD e f → TwinFields m n a b
      → Leads B B Any2 (fits_field passes s e at a) (fits_field passes u f at b)
  field-leads s u e f at a b h k i =
      leads-then B B B Equal Any2 _ _ _ _ (named-leads a.name b.name s u i.name h)
      (λ x y j. leads-either B B Any2 x y _ _ _ _ j (copy-leads e f a.ty.sem b.ty.sem at k i.ty.shapes) (leads-done B))

  fields-leads : (s u : SemType) (e f : TypedExpr) (at : Place) (fs gs : List FieldDef) → AreTwins m s n u → PartsD e f
      → AllZip (TwinFields m n) fs gs → Leads B B Any2 (fits_fields passes s e at fs) (fits_fields passes u f at gs)
  fields-leads s u e f at [] [] h k z = leads-done B
  fields-leads s u e f at (a ∷ fs) (b ∷ gs) h k z =
      leads-then B B B Any2 Any2 _ _ _ _ (field-leads s u e f at a b h k z.0)
      (λ x y i. fields-leads s u e f at fs gs h k z.1)
  fields-leads s u e f at [] (b ∷ gs) h k z = absurd z
  fields-leads s u e f at (a ∷ fs) [] h k z = absurd z

  abbrev Fields : List FieldDef → List FieldDef → Type 0
  Fields fs gs = AllZip (TwinFields m n) fs gs

  of-atom : (a : ℕ) (fs gs : List FieldDef) → IsMappingAtom m a (λ hs rest. fs ≡ hs) → IsMappingAtom n a (λ hs rest. gs ≡ hs) → Fields fs gs
  of-atom a fs gs x y =
      with-mappings m n twins a (λ hs rest. fs ≡ hs) (λ hs rest. gs ≡ hs) x y
      (λ hs is rest more z r p q. subst (λ k. AllZip (TwinFields m n) k gs) (sym p) (subst (AllZip (TwinFields m n) hs) (sym q) z))

  keys-leads : (c d : Option ℕ) (k l : Option Text) (at : Place) → d ≡ c → l ≡ k → Leads B B Any2 (fits_keys passes c k at) (fits_keys passes d l at)
  keys-leads None None k l at e f = leads-done B
  keys-leads (Some a) (Some b) (Some k) (Some l) at e f = leads-done B
  keys-leads (Some a) (Some b) None None at e f =
      let i : b ≡ a = cc in
      subst (λ o. Leads B B Any2 (fits_keys passes (Some a) None at) (fits_keys passes (Some o) None at)) (sym i)
      (leads-then B B B _ Any2 _ _ _ _ (two-leads m n (D m n) (D m n))
      (λ p q h. leads-then B B B Fields Any2 _ _ _ _ (leads-over m n B Fields _ _ (before-atoms m n) (λ fs gs x y. of-atom a fs gs x y))
      (λ fs gs j. fields-leads (sem p.0) (sem q.0) p.1 q.1 at fs gs h.0.ty.twins.shapes h.1 j)))
  keys-leads None (Some b) k l at e f = absurd (cc)
  keys-leads (Some a) None k l at e f = absurd (cc)
  keys-leads (Some a) (Some b) (Some k) None at e f = absurd (cc)
  keys-leads (Some a) (Some b) None (Some l) at e f = absurd (cc)

  key-same : (c d : ConstructorAtWork) (k l : Option Text) → ConstructorTwins (D m n) (D m n) c d → IsLastKey c k → IsLastKey d l → l ≡ k
  key-same c d k l h p q = last-same c.keys d.keys k l h.keys (record { kept = p.before; is = p.is }) (record { kept = q.before; is = q.is })

  pub member-leads : (at : Place) → Leads B A Any2 (is_member passes at) (is_member passes at)
  member-leads at =
      leads-then B B A _ Any2 _ _ _ _ (constructor-leads m n (D m n) (D m n))
      (λ c d h. leads-then B B A PartsD Any2 _ _ _ _ (part-leads m n (D m n) (D m n))
      (λ e f k. leads-then B B A _ Any2 _ _ _ _ (want-leads m n (D m n) (D m n))
      (λ w x i. leads-then B B A Any2 Any2 _ _ _ _ (below-if-leads m n passes w x e f at i k)
      (λ a b j. leads-then B B A Any2 Any2 _ _ _ _
      (leads-then B B B Equal Any2 _ _ _ _ (leads-some B Equal _ _ (λ s t y z p q r. key-same c d y z h q r)) (λ y z p. keys-leads c.choice d.choice y z at h.choice p))
      (λ o p q. leads-then B B A Any2 Any2 _ _ _ _ (may-stand-leads m n twins passes c d e f at h k)
      (λ r s l. leads-then B A A Any2 Any2 _ _ _ _ (adds-member-leads m n twins passes c d e f at h k) (λ u v g. no-more-leads m n (D m n) (W m n) 1)))))))
