-- What is made of a type that was found is what needs say of all such types.
use Rattle.std.proofs.Common.{◌≡◌, ℕ, List, [], ◌∷◌, All, Some, Result, Ok, Err, ⊎_elim, length, sym, subst}
use Rattle.std.proofs.lemmas.List.Elements.{All-head, All-tail}
use Rattle.bal_base.specs.declared.fault.Fault.{Fault}
use Rattle.bal_base.specs.declared.place.Place.{Place}
use Rattle.bal_base.specs.declared.stop.Stop.{Stop}
use Rattle.bal_base.specs.declared.stop.Stop.TheVariants.{Memory, Fault as OwnFault}
use Rattle.bal_base.specs.declared.text.Text.{Text}
use Rattle.bal_tree.specs.declared.name.Word.{Word}
use Rattle.checks.specs.Checks.{Check, Comes, Gives, gives_some, ◌▷◌}
use Rattle.descriptors.specs.Described.{plain}
use Rattle.needs.specs.Needs.{does}
use Rattle.operations.specs.Kinds.{IsNil}
use Rattle.type_model.specs.declared.answers.Keys.TheVariants.{Field}
use Rattle.type_model.specs.declared.answers.TypeLimit.{TypeLimit}
use Rattle.type_model.specs.declared.atoms.AtomDef.{AtomDef}
use Rattle.type_model.specs.declared.basic.SemType.{SemType}
use Rattle.type_model.specs.declared.basic.Ty.{Ty}
use Rattle.type_model.specs.Calls.{Asked}
use Rattle.type_model.specs.Defined.{IsDefined}
use Rattle.typed_tree.specs.declared.expr.TypedExpr.{TypedExpr}
use Rattle.typed_tree.specs.declared.form.Read.TheVariants as read
use Rattle.typed_tree.specs.declared.form.StrictForm.{StrictForm}
use Rattle.typed_tree.specs.declared.form.StrictForm.TheVariants as form
use Rattle.typed_tree.specs.Exprs.{type_of}
use Rattle.typed_tree.specs.SharedTypes.{Shared}
use Rattle.expr_needs.specs.declared.kind.Kind.TheVariants as kind
use Rattle.check_words.specs.declared.access.Access.{Access}
use Rattle.check_words.specs.declared.access.Access.TheVariants.{Char, Item, Key}
use Rattle.check_words.specs.Members.{IsStored, expects_stored, field_type, member_at, names_members, read_of, reads_element, reads_field, reads_optional, reads_stored, reads_stored_field, some_member_at, stored_type}
use Rattle.check_words.specs.Stands.{PartBelow, Stands}
use Rattle.check_words.specs.State.{IsLast, State}
use Rattle.check_words.specs.Words.{Atoms, EitherOf, OfKind, asking, last_part, makes_strict, sem, some_over, wants, wants_some}
use Rattle.check_words.proofs.Coming.{given, next}
use Rattle.check_words.proofs.Regrouping.{regroup-all, regroup-three, under}
use Rattle.check_words.proofs.Standing.{last-has, last-have}
use Rattle.needs_of_members.specs.Fronts.{AreSides, field_read, gives_plain, optional_read, read_type, stored_by}

-- ---- a type of which this holds

-- the expression has just this type
abbrev pub makes_of : ℕ → StrictForm → Place → Shared → Check State (Unit {0})
makes_of count form at t = makes_strict count form (λ env u. u ≡ t.value) at

module _ (count : ℕ) (form : StrictForm) (at : Place) (new : State) where
  pub made-over : (P : Atoms → Ty → Type 0) (s : State) (r : Result (Unit {0}) (Stop Fault))
      → Comes (some_over (λ env (t : Shared). P env t.value) ▷ makes_of count form at) s r new → Comes (makes_strict count form P at) s r new
  unfolding Comes ◌▷◌ gives_some does
  made-over P s (Ok u) h = let made = h.3 in
      subst (λ m. makes_strict count form P at m (Gives u) new) h.2.1
      (made.0, made.1, made.2, (made.3.0, subst (λ ty. P h.1.atoms ty) (sym made.3.1) (subst (λ m. P m.atoms h.0.value) (sym h.2.1) h.2.0), made.3.2), made.4)
  made-over P s (Err (OwnFault f)) h = ⊎_elim (λ x. absurd x) (λ y. absurd y.3) h
  made-over P s (Err Memory) h = tt

  module _ (B : Check State SemType) (P : SemType → Atoms → Ty → Type 0) where
    pub two-made : (s : State) (r : Result (Unit {0}) (Stop Fault))
        → Comes ((B ▷ λ m. some_over (λ env (t : Shared). P m env t.value)) ▷ makes_of count form at) s r new
        → Comes (B ▷ λ m. makes_strict count form (P m) at) s r new
    two-made s r h =
        under B (λ m. some_over (λ env (t : Shared). P m env t.value) ▷ makes_of count form at) (λ m. makes_strict count form (P m) at) s new r
        (regroup-all B (λ m. some_over (λ env (t : Shared). P m env t.value)) (makes_of count form at) s new r h) (λ m z k. made-over (P m) z r k)

  module _ {X : Type 0} (A : Check State X) (B : X → Check State SemType) (P : SemType → Atoms → Ty → Type 0) where
    pub three-made : (s : State) (r : Result (Unit {0}) (Stop Fault))
        → Comes ((A ▷ λ x. B x ▷ λ m. some_over (λ env (t : Shared). P m env t.value)) ▷ makes_of count form at) s r new
        → Comes (A ▷ λ x. B x ▷ λ m. makes_strict count form (P m) at) s r new
    three-made s r h =
        under A (λ x. (B x ▷ λ m. some_over (λ env (t : Shared). P m env t.value)) ▷ makes_of count form at) (λ x. B x ▷ λ m. makes_strict count form (P m) at) s new r
        (regroup-all A (λ x. B x ▷ λ m. some_over (λ env (t : Shared). P m env t.value)) (makes_of count form at) s new r h) (λ x z k. two-made (B x) P z r k)

-- ---- the last two parts

module _ (s : State) (container : Ty) (key : SemType) (sides : AreSides s.found container key) where
  sides-below : Stands s → All (PartBelow (length s.atoms)) (sides.first ∷ sides.second ∷ [])
  sides-below h = last-have (PartBelow (length s.atoms)) 2 s.found (sides.first ∷ sides.second ∷ []) sides.last h.found

  pub container-below : Stands s → IsDefined s.atoms container.sem
  container-below h =
      subst (λ t. IsDefined s.atoms t.sem) (sym sides.container_is) (All-head (PartBelow (length s.atoms)) sides.first (sides.second ∷ []) (sides-below h)).0

  pub key-below : Stands s → IsDefined s.atoms key
  key-below h =
      subst (IsDefined s.atoms) (sym sides.key_is)
      (All-head (PartBelow (length s.atoms)) sides.second [] (All-tail (PartBelow (length s.atoms)) sides.first (sides.second ∷ []) (sides-below h))).0

  -- ---- needs, by their fronts

  module _ (passes : List AtomDef → Asked → TypeLimit → Type 0) (at : Place) (r : Result (Unit {0}) (Stop Fault)) (new : State) where
    abbrev reads : Access → SemType → SemType → Type 0
    reads a c k = Comes (read_type passes a c k at ▷ makes_of 2 (form.Read (read_of a)) at) s r new

    element-of : (a : Access) → reads a (sem sides.first) (sem sides.second) → Comes (reads_element passes a at) s r new
    element-of Char h = made-over 2 (form.Read read.Char) at new (OfKind kind.Text) s r h
    element-of Item h =
        next _ _ _ _ _ (sides.first, sides.second) s (given _ s (sides.first, sides.second) sides.last)
        (three-made 2 (form.Read read.Item) at new (asking (names_members passes Item (sem sides.second) at)) (λ keys. some_member_at passes (sem sides.first) keys at)
        (λ m env t. t ≡ plain m) s r h)
    element-of Key h =
        next _ _ _ _ _ (sides.first, sides.second) s (given _ s (sides.first, sides.second) sides.last)
        (three-made 2 (form.Read read.Key) at new (asking (names_members passes Key (sem sides.second) at)) (λ keys. member_at passes (sem sides.first) keys at)
        (λ m. EitherOf m IsNil) s r h)

    pub element-read : (a : Access) → reads a container.sem key → Comes (reads_element passes a at) s r new
    element-read a h = element-of a (subst (λ k. reads a (sem sides.first) k) sides.key_is (subst (λ c. reads a c.sem key) sides.container_is h))

    abbrev expects : Access → Ty → SemType → Type 0
    expects a c k = Comes (stored_by passes a c k at ▷ λ t. wants (Some t)) s r new

    pub stored-expected : (a : Access) → IsLast s.accesses a → expects a container key → Comes (expects_stored passes at) s r new
    stored-expected a last h =
        next _ _ _ _ _ (sides.first, sides.second) s (given _ s (sides.first, sides.second) sides.last)
        (next _ _ _ _ _ a s (given _ s a last)
        (regroup-three (asking (names_members passes a (sem sides.second) at)) (λ keys. some_member_at passes (sem sides.first) keys at)
        (λ keys m. some_over (λ env (t : Shared). IsStored (type_of sides.first).value keys m env t.value)) (λ t. wants (Some t)) s new r
        (subst (λ k. expects a (type_of sides.first).value k) sides.key_is (subst (λ c. expects a c key) sides.container_is h))))

    abbrev before : Access → SemType → SemType → Type 0
    before a c k = Comes (stored_type passes a c k at ▷ λ t. wants_some (λ env u. u ≡ t.value)) s r new

    pub stored-read : (a : Access) → IsLast s.accesses a → before a container.sem key → Comes (reads_stored passes at) s r new
    stored-read a last h =
        next _ _ _ _ _ (sides.first, sides.second) s (given _ s (sides.first, sides.second) sides.last)
        (next _ _ _ _ _ a s (given _ s a last)
        (subst (λ k. before a (sem sides.first) k) sides.key_is (subst (λ c. before a c.sem key) sides.container_is h)))

    abbrev field_before : Word → SemType → Type 0
    field_before w c = Comes (field_read passes w.name c at ▷ λ t. wants (Some t)) s r new

    pub stored-field-read : (w : Word) → field_before w container.sem → Comes (reads_stored_field passes w at) s r new
    stored-field-read w h =
        next _ _ _ _ _ (sides.first, sides.second) s (given _ s (sides.first, sides.second) sides.last)
        (regroup-all (field_type passes w.name (sem sides.first) at) gives_plain (λ t. wants (Some t)) s new r
        (subst (λ c. field_before w c.sem) sides.container_is h))

-- ---- the last part

module _ (s : State) (e : TypedExpr) (m : SemType) (last : IsLast s.found e) (is : m ≡ sem e) where
  pub last-defined : Stands s → IsDefined s.atoms m
  last-defined h = subst (IsDefined s.atoms) (sym is) (last-has (PartBelow (length s.atoms)) s.found e last h.found).0

  pub at-last : {B : Type 0} (n : SemType → Check State B) (r : Result B (Stop Fault)) (new : State) → Comes (n m) s r new → Comes (last_part ▷ λ p. n (sem p)) s r new
  at-last n r new h = next _ _ _ _ _ e s (given _ s e last) (subst (λ t. Comes (n t) s r new) is h)

  module _ (passes : List AtomDef → Asked → TypeLimit → Type 0) (w : Word) (at : Place) (r : Result (Unit {0}) (Stop Fault)) (new : State) where
    pub field-read : Comes (field_read passes w.name m at ▷ makes_of 1 (form.Read (read.Field w.name)) at) s r new → Comes (reads_field passes w at) s r new
    field-read h =
        at-last (λ t. field_type passes w.name t at ▷ λ u. makes_strict 1 (form.Read (read.Field w.name)) (λ env v. v ≡ plain u) at) r new
        (two-made 1 (form.Read (read.Field w.name)) at new (field_type passes w.name m at) (λ u env v. v ≡ plain u) s r h)

    pub optional-read : Comes (optional_read passes m (Field w.name) at ▷ makes_of 1 (form.Read (read.OptionalField w.name)) at) s r new
        → Comes (reads_optional passes w at) s r new
    optional-read h =
        at-last (λ t. some_member_at passes t (Field w.name) at ▷ λ u. makes_strict 1 (form.Read (read.OptionalField w.name)) (EitherOf u IsNil) at) r new
        (two-made 1 (form.Read (read.OptionalField w.name)) at new (some_member_at passes m (Field w.name) at) (λ u. EitherOf u IsNil) s r h)
