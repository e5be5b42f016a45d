-- Reads and stores of members: two runs of each need agree.
use Rattle.std.proofs.Common.{◌≡◌, ◌++◌, Bool, true, false, List, [], ◌∷◌, Some, refl, sym, subst, ap}
use Rattle.bal_base.specs.declared.fault.FaultCode.TheVariants.{NoField}
use Rattle.bal_base.specs.declared.place.Place.{Place}
use Rattle.bal_base.specs.declared.shape.Shape.{Shape}
use Rattle.bal_base.specs.declared.text.Text.{Text}
use Rattle.bal_tree.specs.declared.name.Word.{Word}
use Rattle.checks.specs.Agreement.{AreTwins}
use Rattle.checks.specs.Checks.{Check}
use Rattle.descriptors.specs.Described.{plain}
use Rattle.operations.specs.Kinds.{IsList, IsNil, IsString}
use Rattle.type_model.specs.declared.answers.Keys.{Keys}
use Rattle.type_model.specs.declared.answers.Keys.TheVariants.{Field}
use Rattle.type_model.specs.declared.answers.TypeLimit.{TypeLimit}
use Rattle.type_model.specs.declared.atoms.AtomDef.{AtomDef}
use Rattle.type_model.specs.declared.basic.SemType.{SemType}
use Rattle.type_model.specs.declared.basic.Ty.{Ty}
use Rattle.type_model.specs.Calls.{Asked}
use Rattle.typed_tree.specs.declared.expr.TypedExpr.{TypedExpr}
use Rattle.typed_tree.specs.declared.form.Read.TheVariants as read
use Rattle.typed_tree.specs.declared.form.StrictForm.TheVariants as form
use Rattle.typed_tree.specs.Exprs.{type_of}
use Rattle.typed_tree.specs.SharedTypes.{Shared}
use Rattle.expr_needs.specs.declared.kind.Kind.TheVariants as kind
use Rattle.check_words.specs.declared.access.Access.{Access}
use Rattle.check_words.specs.declared.access.Access.TheVariants.{Char, Item, Key}
use Rattle.check_words.specs.Members.{IsStored, accesses, container_kind, expects_stored, gives_key, has_field, has_part, index_kind, is_accessed, is_accessed_as, is_index, is_structure, last_access, member_at, names_members, reads_accessed, reads_element, reads_optional, reads_stored, some_member_at, stored_type, takes_access}
use Rattle.check_words.specs.State.{State, all_but}
use Rattle.check_words.specs.Words.{Atoms, asking, is_of, sem}
use Rattle.check_answers.specs.TwinStates.{PartTwins}
use Rattle.check_answers.specs.TwinTypes.{TwinAtoms}
use Rattle.check_answers.proofs.Leading.{Any2, Leads, Pairs, leads-asking, leads-becomes, leads-either, leads-gives, leads-over, leads-some, leads-then, leads-unless}
use Rattle.check_answers.proofs.Meanings.{either-twin, kinds-twin, part-twin, same-twin}
use Rattle.check_answers.proofs.Naming.{names-alike}
use Rattle.check_answers.proofs.Questions.{Before, Behind, D, Equal, W, before-atoms, has-some-leads, is-of-leads, kind-strict-leads, member-leads, settled-twins, some-leads, strict-leads}
use Rattle.check_answers.proofs.SameTrees.{parts-same}
use Rattle.check_answers.proofs.Setting.{with-accesses}
use Rattle.check_answers.proofs.Storing.{stored-twin}
use Rattle.check_answers.proofs.Values.{wants-some-weak}
use Rattle.check_answers.proofs.Words.{makes-leads, part-leads, two-leads}
use Rattle.check_answers.proofs.Writing.{implied-type, implied-written}
use Rattle.check_answers.proofs.Zips.{last-same}

module _ (m n : Atoms) where
  abbrev B : Pairs
  B = Before m n

  abbrev A : Pairs
  A = Behind m n

  -- types without choices with the same shapes
  pub plain-twins : (s u : SemType) (a b : Ty) → AreTwins m s n u → a ≡ plain s → b ≡ plain u → W m n a b
  plain-twins s u a b h x y =
      subst (λ k. W m n k b) (sym x) (subst (W m n (plain s)) (sym y) (record { shapes = h; lists = refl; maps = refl }))

  -- ---- which members

  access-leads : Leads B B Equal last_access last_access
  access-leads = leads-some B Equal _ _ (λ s t a b p x y. last-same s.accesses t.accesses a b p.states.accesses x y)

  pub accesses-leads : (a : Access) → Leads B B Any2 (accesses a) (accesses a)
  accesses-leads a =
      leads-becomes B B _ _ (λ s t p. record {
        first = p.first;
        second = p.second;
        states = with-accesses (D m n) (D m n) s t p.states _ _ (ap (λ xs. xs ++ a ∷ []) p.states.accesses);
      })

  pub takes-access-leads : Leads B B Equal takes_access takes_access
  takes-access-leads =
      leads-then B B B _ _ _ _ _ _ access-leads
      (λ a b e. leads-then B B B Any2 _ _ _ _ _
      (leads-becomes B B _ _ (λ s t p. record {
        first = p.first;
        second = p.second;
        states = with-accesses (D m n) (D m n) s t p.states _ _ (ap (all_but 1) p.states.accesses);
      }))
      (λ x y k. leads-gives B _ a b e))

  -- what goes by an access that is the same in both
  pub by-access : {X Y : Type 0} (F G : Pairs) (Q : X → Y → Type 0) (P : Access → Check State X) (R : Access → Check State Y) (a b : Access) → b ≡ a
      → ((a : Access) → Leads F G Q (P a) (R a)) → Leads F G Q (P a) (R b)
  by-access F G Q P R a b e f s t p o q x y h k = f a s t p o q x y h (subst (λ i. R i t q y) e k)

  pub key-leads : (text : Text) (at : Place) → Leads B A Any2 (gives_key text at) (gives_key text at)
  key-leads text at =
      makes-leads m n (D m n) (D m n) (W m n) (settled-twins m n) 0 _ _
      (λ es fs e f h (t, k, is) (u, l, it). parts-same (D m n) (W m n) e f t u _ _ (implied-type _ t at e is) (implied-type _ u at f it)
      (implied-written _ t at e is) (implied-written _ u at f it) (same-twin m n _ t.value u.value k l) refl)

  accesses-behind : (a : Access) → Leads A A Any2 (accesses a) (accesses a)
  accesses-behind a =
      leads-becomes A A _ _ (λ s t p. record {
        first = p.first;
        second = p.second;
        states = with-accesses (D m n) (W m n) s t p.states _ _ (ap (λ xs. xs ++ a ∷ []) p.states.accesses);
      })

  pub has-field-leads : (w : Word) → Leads B A Any2 (has_field w) (has_field w)
  has-field-leads w = leads-then B A A Any2 Any2 _ _ _ _ (key-leads w.name w.at) (λ x y k. accesses-behind Key)

  module _ (passes : List AtomDef → Asked → TypeLimit → Type 0) where
    as-leads : (a : Access) (at : Place) → Leads B B Any2 (is_accessed_as passes a at) (is_accessed_as passes a at)
    as-leads a at = leads-then B B B Any2 Any2 _ _ _ _ (is-of-leads m n passes (container_kind a) at) (λ x y k. accesses-leads a)

    has-part-leads : (P : Shape → Type 0) (at : Place) → Leads B B Equal (has_part passes P at) (has_part passes P at)
    has-part-leads P at =
        leads-then B B B _ Equal _ _ _ _ (part-leads m n (D m n) (D m n))
        (λ e f h. some-leads passes m n B (before-atoms m n) _ _ at (λ t u x y. part-twin m n (sem e) (sem f) P t u h.ty.twins.shapes x y))

    structure-leads : (at : Place) → Leads B B Any2 (is_structure passes at) (is_structure passes at)
    structure-leads at =
        leads-then B B B Equal Any2 _ _ _ _ (has-part-leads IsList at) (λ b c e. leads-either B B Any2 b c _ _ _ _ e (as-leads Item at) (as-leads Key at))

    pub accessed-leads : (texts : Bool) (at : Place) → Leads B B Any2 (is_accessed passes texts at) (is_accessed passes texts at)
    accessed-leads true at =
        leads-then B B B Equal Any2 _ _ _ _ (has-part-leads IsString at) (λ b c e. leads-either B B Any2 b c _ _ _ _ e (as-leads Char at) (structure-leads at))
    accessed-leads false at = structure-leads at

    pub index-leads : (at : Place) → Leads B B Any2 (is_index passes at) (is_index passes at)
    index-leads at =
        leads-then B B B Equal Any2 _ _ _ _ access-leads
        (λ a b e. by-access B B Any2 (λ a. is_of passes (index_kind a) at) (λ a. is_of passes (index_kind a) at) a b e (λ a. is-of-leads m n passes (index_kind a) at))

    -- ---- members

    pub names-leads : (a : Access) (s u : SemType) (at : Place) → AreTwins m s n u → Leads B B Equal (asking (names_members passes a s at)) (asking (names_members passes a u at))
    names-leads a s u at h = leads-asking m n B Equal _ _ (before-atoms m n) (names-alike m n s u h passes a at)

    abbrev TwinSems : SemType → SemType → Type 0
    TwinSems a b = AreTwins m a n b

    pub member-at-leads : (s u : SemType) (j k : Keys) (at : Place) → k ≡ j → TwinSems s u → Leads B B TwinSems (member_at passes s j at) (member_at passes u k at)
    member-at-leads s u j k at e h i l p o q x y f g =
        member-leads passes m n B (before-atoms m n) s u j (Some at) h i l p o q x y f (subst (λ v. member_at passes u v at l q y) e g)

    pub some-member-leads : (s u : SemType) (j k : Keys) (at : Place) → k ≡ j → TwinSems s u
        → Leads B B TwinSems (some_member_at passes s j at) (some_member_at passes u k at)
    some-member-leads s u j k at e h =
        leads-then B B B TwinSems TwinSems _ _ _ _ (member-at-leads s u j k at e h)
        (λ a b i. leads-then B B B Equal TwinSems _ _ _ _ (has-some-leads passes m n B (before-atoms m n) a b (Some at) i)
        (λ b1 b2 o. leads-then B B B Any2 TwinSems _ _ _ _ (leads-unless B b1 b2 NoField at o) (λ x y z. leads-gives B TwinSems a b i)))

    pub element-leads : (a : Access) (at : Place) → Leads B A Any2 (reads_element passes a at) (reads_element passes a at)
    element-leads Char at = kind-strict-leads m n 2 (form.Read read.Char) (form.Read read.Char) kind.Text at refl
    element-leads Item at =
        leads-then B B A _ Any2 _ _ _ _ (two-leads m n (D m n) (D m n))
        (λ p q h. leads-then B B A Equal Any2 _ _ _ _ (names-leads Item (sem p.1) (sem q.1) at h.1.ty.twins.shapes)
        (λ j k e. leads-then B B A TwinSems Any2 _ _ _ _ (some-member-leads (sem p.0) (sem q.0) j k at e h.0.ty.twins.shapes)
        (λ a b i. strict-leads m n 2 (form.Read read.Item) (form.Read read.Item) _ _ at refl (λ t u x y. plain-twins a b t u i x y))))
    element-leads Key at =
        leads-then B B A _ Any2 _ _ _ _ (two-leads m n (D m n) (D m n))
        (λ p q h. leads-then B B A Equal Any2 _ _ _ _ (names-leads Key (sem p.1) (sem q.1) at h.1.ty.twins.shapes)
        (λ j k e. leads-then B B A TwinSems Any2 _ _ _ _ (member-at-leads (sem p.0) (sem q.0) j k at e h.0.ty.twins.shapes)
        (λ a b i. strict-leads m n 2 (form.Read read.Key) (form.Read read.Key) _ _ at refl (λ t u x y. either-twin m n a b IsNil t u i x y))))

    pub reads-leads : (at : Place) → Leads B A Any2 (reads_accessed passes at) (reads_accessed passes at)
    reads-leads at =
        leads-then B B A Equal Any2 _ _ _ _ takes-access-leads
        (λ a b e. by-access B A Any2 (λ a. reads_element passes a at) (λ a. reads_element passes a at) a b e (λ a. element-leads a at))

    pub optional-leads : (w : Word) (at : Place) → Leads B A Any2 (reads_optional passes w at) (reads_optional passes w at)
    optional-leads w at =
        leads-then B B A _ Any2 _ _ _ _ (part-leads m n (D m n) (D m n))
        (λ e f h. leads-then B B A TwinSems Any2 _ _ _ _ (some-member-leads (sem e) (sem f) (Field w.name) (Field w.name) at refl h.ty.twins.shapes)
        (λ a b i. strict-leads m n 1 _ _ _ _ at refl (λ t u x y. either-twin m n a b IsNil t u i x y)))

    -- ---- stores

    pub expects-stored-leads : (at : Place) → TwinAtoms m n → Leads B A Any2 (expects_stored passes at) (expects_stored passes at)
    expects-stored-leads at twins =
        leads-then B B A _ Any2 _ _ _ _ (two-leads m n (D m n) (D m n))
        (λ p q h. leads-then B B A Equal Any2 _ _ _ _ access-leads
        (λ a b e. leads-then B B A Equal Any2 _ _ _ _
        (by-access B B Equal (λ a. asking (names_members passes a (sem p.1) at)) (λ a. asking (names_members passes a (sem q.1) at)) a b e
        (λ a. names-leads a (sem p.1) (sem q.1) at h.1.ty.twins.shapes))
        (λ j k i. leads-then B B A TwinSems Any2 _ _ _ _ (some-member-leads (sem p.0) (sem q.0) j k at i h.0.ty.twins.shapes)
        (λ c d o. wants-some-weak m n _ _ (λ s t x y. stored-at p q j k c d s t i h.0 o x y)))))
      where
        stored-at : (p q : TypedExpr × TypedExpr) (j k : Keys) (c d : SemType) (s t : Ty) → k ≡ j → PartTwins (D m n) (D m n) p.0 q.0 → TwinSems c d
            → IsStored (type_of p.0).value j c m s → IsStored (type_of q.0).value k d n t → W m n s t
        stored-at p q j k c d s t i h o x y =
            stored-twin m n (type_of p.0).value (type_of q.0).value j c d s t twins h.ty.twins o x (subst (λ v. IsStored (type_of q.0).value v d n t) i y)

    abbrev WeakShared : Shared → Shared → Type 0
    WeakShared t u = W m n t.value u.value

    stored-type-leads : (a : Access) (s u s2 u2 : SemType) (at : Place) → TwinSems s s2 → TwinSems u u2
        → Leads B B WeakShared (stored_type passes a s u at) (stored_type passes a s2 u2 at)
    stored-type-leads Char s u s2 u2 at h k = leads-over m n B WeakShared _ _ (before-atoms m n) (λ t v x y. kinds-twin m n kind.Text t.value v.value x y)
    stored-type-leads Item s u s2 u2 at h k =
        leads-then B B B Equal WeakShared _ _ _ _ (names-leads Item u u2 at k)
        (λ i j e. leads-then B B B TwinSems WeakShared _ _ _ _ (member-at-leads s s2 i j at e h)
        (λ a b o. leads-over m n B WeakShared _ _ (before-atoms m n) (λ t v x y. plain-twins a b t.value v.value o x y)))
    stored-type-leads Key s u s2 u2 at h k =
        leads-then B B B Equal WeakShared _ _ _ _ (names-leads Key u u2 at k)
        (λ i j e. leads-then B B B TwinSems WeakShared _ _ _ _ (member-at-leads s s2 i j at e h)
        (λ a b o. leads-over m n B WeakShared _ _ (before-atoms m n) (λ t v x y. either-twin m n a b IsNil t.value v.value o x y)))

    both-equal : (t v : Shared) (a b : Ty) → WeakShared t v → a ≡ t.value → b ≡ v.value → W m n a b
    both-equal t v a b h x y = subst (λ k. W m n k b) (sym x) (subst (W m n t.value) (sym y) h)

    pub reads-stored-leads : (at : Place) → Leads B A Any2 (reads_stored passes at) (reads_stored passes at)
    reads-stored-leads at =
        leads-then B B A _ Any2 _ _ _ _ (two-leads m n (D m n) (D m n))
        (λ p q h. leads-then B B A Equal Any2 _ _ _ _ access-leads
        (λ a b e. leads-then B B A WeakShared Any2 _ _ _ _
        (by-access B B WeakShared (λ a. stored_type passes a (sem p.0) (sem p.1) at) (λ a. stored_type passes a (sem q.0) (sem q.1) at) a b e
        (λ a. stored-type-leads a (sem p.0) (sem p.1) (sem q.0) (sem q.1) at h.0.ty.twins.shapes h.1.ty.twins.shapes))
        (λ t v i. wants-some-weak m n _ _ (λ c d x y. both-equal t v c d i x y))))
