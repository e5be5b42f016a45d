-- Keys that are computed: field by field.
use Rattle.std.proofs.Common.{◌≡◌, ◌<◌, ◌≤◌, ◌+◌, ◌∙◌, ℕ, zero, suc, true, false, List, [], ◌∷◌, length, drop, Option, Some, None, Result, Ok, Err, IfSome, inl, inr, slice_get, add-one, arith, refl, sym, subst, ap}
use Rattle.std.proofs.lemmas.List.{drop_all}
use Rattle.bal_base.specs.declared.fault.Fault.{Fault}
use Rattle.bal_base.specs.declared.place.Place.{Place}
use Rattle.bal_base.specs.declared.shape.Shape.{Str}
use Rattle.bal_base.specs.declared.stop.Stop.{Stop}
use Rattle.bal_base.specs.declared.text.Text.{Text}
use Rattle.checks.specs.Checks.{Comes, either}
use Rattle.checks.specs.Questions.{below}
use Rattle.type_model.specs.declared.answers.TypeLimit.{TypeLimit}
use Rattle.type_model.specs.declared.atoms.AtomDef.{AtomDef}
use Rattle.type_model.specs.declared.atoms.AtomDef.TheVariants.{List as ListAtom, Mapping as MappingAtom, Arrow, Error as ErrorAtom, Future as FutureAtom}
use Rattle.type_model.specs.declared.atoms.FieldDef.{FieldDef}
use Rattle.type_model.specs.declared.basic.SemType.{SemType}
use Rattle.type_model.specs.declared.basic.Ty.{Ty}
use Rattle.type_model.specs.Calls.{Asked}
use Rattle.type_model.specs.Defined.{DefBelow, IsClosed, NamesBelow, TyBelow}
use Rattle.type_model.proofs.SameTypes.{NamesBelow-same}
use Rattle.type_model.specs.Inclusion.{IsShapeOf}
use Rattle.type_model.specs.SameType.{IsSameType}
use Rattle.typed_tree.specs.declared.expr.TypedExpr.{TypedExpr}
use Rattle.typed_tree.specs.Exprs.{type_of}
use Rattle.check_kinds.specs.Over.{ComesOver}
use Rattle.check_kinds.proofs.Over.{over-asks, over-on, over-some, over-stops}
use Rattle.check_words.specs.Constructors.{fits_field, fits_fields, is_below_copy, names_field}
use Rattle.check_words.specs.Words.{Atoms, asking, done, sem, some_over}
use Rattle.needs_of_choices.specs.ByKeys.{HasCount, IsAsked, IsCountOf, IsFieldAt, IsFieldIn, IsFieldsOf, all_fields_fit}
use Rattle.made_atoms.proofs.Groups.{all-at}
use Rattle.needs_of_choices.proofs.WantedByKeys.{mapping-case}

drop-next : {A : Type 0} (xs : List A) (i : ℕ) (x : A) → slice_get xs i ≡ Some x → drop i xs ≡ x ∷ drop (suc i) xs
drop-next [] i x e = absurd (cc)
drop-next (y ∷ ys) zero x e = let same : y ≡ x = cc in ap (λ z. z ∷ ys) same
drop-next (y ∷ ys) (suc i) x e = drop-next ys i x e

drop-at : {A : Type 0} (xs : List A) (i : ℕ) (x : A) → slice_get xs i ≡ Some x → drop i xs ≡ x ∷ drop (i + 1) xs
drop-at xs i x e = rw add-one (drop-next xs i x e)

-- ---- the fields of an atom

module _ (env : Atoms) (atom : ℕ) where
  pub count-there : (def : AtomDef) (n : ℕ) → slice_get env atom ≡ Some def → HasCount def n → IsCountOf env atom n
  count-there (MappingAtom fields rest) n e h = rw e h
  count-there (ListAtom fixed rest) n e h = absurd h
  count-there (Arrow args outcome alone) n e h = absurd h
  count-there (ErrorAtom detail) n e h = absurd h
  count-there (FutureAtom outcome) n e h = absurd h

  pub field-there : (def : AtomDef) (place : ℕ) (f : FieldDef) → slice_get env atom ≡ Some def → IsFieldIn def place f → IsFieldAt env atom place f
  field-there (MappingAtom fields rest) place f e h = rw e h
  field-there (ListAtom fixed rest) place f e h = absurd h
  field-there (Arrow args outcome alone) place f e h = absurd h
  field-there (ErrorAtom detail) place f e h = absurd h
  field-there (FutureAtom outcome) place f e h = absurd h

  pub field-below : (place : ℕ) (f : FieldDef) → IsClosed env → IsFieldAt env atom place f → TyBelow (length env) f.ty
  field-below place f closed h =
      mapping-case env atom (λ fields rest. slice_get fields place ≡ Some f) _ h
      (λ fields rest is at_place. let d = all-at (DefBelow (length env)) env atom (MappingAtom fields rest) is closed in all-at (λ g. TyBelow (length env) g.ty) fields place f at_place d.0)

  pub field-of : (fields : List FieldDef) (place : ℕ) (f : FieldDef) → IsFieldsOf env atom fields → slice_get fields place ≡ Some f → IsFieldAt env atom place f
  field-of fields place f h e =
      mapping-case env atom (λ fs rest. fields ≡ fs) _ h (λ fs rest is same. let k : slice_get fs place ≡ Some f = subst (λ xs. slice_get xs place ≡ Some f) same e in rw is k)

  pub same-field : (place : ℕ) (f g : FieldDef) → IsFieldAt env atom place f → IsFieldAt env atom place g → f ≡ g
  same-field place f g h k =
      mapping-case env atom (λ fields rest. slice_get fields place ≡ Some f) _ h
      (λ fields rest is e. let d : slice_get fields place ≡ Some g = rw is at k in let both : Some f ≡ Some g = sym e ∙ d in cc)

  pub fields-there : (n : ℕ) → IsCountOf env atom n → (fields : List FieldDef) × IsFieldsOf env atom fields × (n ≡ length fields)
  fields-there n h = mapping-case env atom (λ fields rest. n ≡ length fields) _ h (λ fields rest is e. (fields, rw is refl, e))

-- ---- one field

module _ (passes : List AtomDef → Asked → TypeLimit → Type 0) (key : SemType) (e : TypedExpr) (at : Place) where
  named : (env : Atoms) (name : Text) → IsShapeOf env key (Str name) → Comes (names_field passes name key) env (Ok true) env
  unfolding Comes names_field
  named env name h = (inl (refl, h), refl)

  not-named : (env : Atoms) (name : Text) → ¬ IsShapeOf env key (Str name) → Comes (names_field passes name key) env (Ok false) env
  unfolding Comes names_field
  not-named env name h = (inr (refl, h), refl)

  module _ (f : FieldDef) (env : Atoms) where
    pub unasked : ¬ IsShapeOf env key (Str f.name) → ComesOver (fits_field passes key e at f) env (Ok tt) env
    unasked never =
        over-on (asking (names_field passes f.name key)) (λ b. either b (is_below_copy passes e f.ty.sem at) done) env env env false (Ok tt)
        (over-asks (names_field passes f.name key) env env (Ok false) (not-named env f.name never)) (over-some (λ o u. u ≡ tt) env tt refl)

    pub asked-copy : (t : SemType) (v : Ty) (new : Atoms) (r : Result (Unit {0}) (Stop Fault)) → v ≡ (type_of e).value → IsShapeOf env key (Str f.name) → IsSameType f.ty.sem t
        → Comes (below passes v.sem t (Some at)) env r new → ComesOver (fits_field passes key e at f) env r new
    asked-copy t v new r is has same h =
        over-on (asking (names_field passes f.name key)) (λ b. either b (is_below_copy passes e f.ty.sem at) done) env env new true r
        (over-asks (names_field passes f.name key) env env (Ok true) (named env f.name has))
        (over-on (some_over (λ o s. IsSameType f.ty.sem s)) (λ s. asking (below passes (sem e) s (Some at))) env env new t r (over-some (λ o s. IsSameType f.ty.sem s) env t same)
        (over-asks (below passes (sem e) t (Some at)) env new r (subst (λ (y : Ty). Comes (below passes y.sem t (Some at)) env r new) is h)))

  -- ---- one field after another

  module _ (fields : List FieldDef) (old : Atoms) where
    -- what comes of asking for these fields comes of asking for all
    abbrev pub LeadsOn : List FieldDef → Type 0
    LeadsOn fs = (r : Result (Unit {0}) (Stop Fault)) → ComesOver (fits_fields passes key e at fs) old r old → ComesOver (fits_fields passes key e at fields) old r old

    abbrev pub AreLeft : ℕ → Type 0
    AreLeft i = LeadsOn (drop i fields)

    module _ (i : ℕ) (f : FieldDef) (at_place : slice_get fields i ≡ Some f) (left : AreLeft i) (mid new : Atoms) (before : mid ≡ old) (after : new ≡ mid) where
      here : (r : Result (Unit {0}) (Stop Fault)) → ComesOver (fits_field passes key e at f) mid r new → ComesOver (fits_field passes key e at f) old r old
      here r h =
          subst (λ n. ComesOver (fits_field passes key e at f) old r n) (after ∙ before) (subst (λ n. ComesOver (fits_field passes key e at f) n r new) before h)

      -- with the field before those that are left
      behind : LeadsOn (f ∷ drop (i + 1) fields)
      behind = subst LeadsOn (drop-at fields i f at_place) left

      pub next-left : ComesOver (fits_field passes key e at f) mid (Ok tt) new → AreLeft (i + 1)
      next-left h = λ r rest.
          behind r (over-on (fits_field passes key e at f) (λ u. fits_fields passes key e at (drop (i + 1) fields)) old old old tt r (here (Ok tt) h) rest)

      pub field-stops : (stop : Stop Fault) → ComesOver (fits_field passes key e at f) mid (Err stop) new → ComesOver (fits_fields passes key e at fields) old (Err stop) new
      field-stops stop h =
          subst (λ n. ComesOver (fits_fields passes key e at fields) old (Err stop) n) (sym (after ∙ before))
          (behind (Err stop) (over-stops (fits_field passes key e at f) (λ u. fits_fields passes key e at (drop (i + 1) fields)) old old stop (here (Err stop) h)))

    pub all-left : AreLeft 0
    all-left r h = h

    pub none-left : (i : ℕ) (new : Atoms) → length fields ≤ i → new ≡ old → AreLeft i → ComesOver (fits_fields passes key e at fields) old (Ok tt) new
    none-left i new le is h =
        subst (λ n. ComesOver (fits_fields passes key e at fields) old (Ok tt) n) (sym is)
        (subst LeadsOn (drop_all i fields le) h (Ok tt) (over-some (λ o u. u ≡ tt) old tt refl))

-- the field at a place
pub field-here : (fields : List FieldDef) (i : ℕ) → i < length fields → (f : FieldDef) × (slice_get fields i ≡ Some f)
field-here [] i lt = absurd (omega (arith, lt))
field-here (f ∷ fields) zero lt = (f, refl)
field-here (f ∷ fields) (suc i) lt = field-here fields i (omega (arith, lt))

-- all fields of the atom, where the keys were asked about
pub all-asked : (passes : List AtomDef → Asked → TypeLimit → Type 0) (k e : TypedExpr) (atom : ℕ) (at : Place) (old new : Atoms) (r : Result (Unit {0}) (Stop Fault)) (fields : List FieldDef)
    → IsFieldsOf old atom fields → ComesOver (fits_fields passes (sem k) e at fields) old r new → ComesOver (all_fields_fit passes k e atom at) old r new
all-asked passes k e atom at old new r fields h rest =
    over-on (some_over (λ env fs. IsFieldsOf env atom fs)) (λ fs. fits_fields passes (sem k) e at fs) old old new fields r (over-some (λ env fs. IsFieldsOf env atom fs) old fields h) rest

-- what was asked of the field at a place, over the definitions as they were handed over
pub at-field : (env defs : Atoms) → defs ≡ env → (atom place : ℕ) (f : FieldDef) → IsFieldAt env atom place f → (k key : SemType) → k ≡ key → (o : Option SemType)
    → ((g : FieldDef) × IsFieldAt defs atom place g × IsAsked defs k g o) → IsAsked env key f o
at-field env defs e atom place f h k key is o (g, there, asked) =
    let here : IsFieldAt env atom place g = subst (λ (d : Atoms). IsFieldAt d atom place g) e there in
    subst (λ (x : FieldDef). IsAsked env key x o) (sym (same-field env atom place f g h here))
    (subst (λ (d : Atoms). IsAsked d key g o) e (subst (λ (x : SemType). IsAsked defs x g o) is asked))

asked-defined : (env defs : Atoms) → defs ≡ env → IsClosed defs → (k : SemType) (atom place : ℕ) (f : FieldDef) → IsFieldAt defs atom place f → (t : SemType) → IsAsked defs k f (Some t)
    → NamesBelow (length env) t
asked-defined env defs e closed k atom place f h t asked =
    subst (λ (d : Atoms). NamesBelow (length d) t) e (NamesBelow-same (length defs) f.ty.sem t asked.1 (field-below defs atom place f closed h).0)

pub asked-below : (env defs : Atoms) → defs ≡ env → IsClosed defs → (k : SemType) (atom place : ℕ) (o : Option SemType)
    → ((g : FieldDef) × IsFieldAt defs atom place g × IsAsked defs k g o) → IfSome o (NamesBelow (length env))
asked-below env defs e closed k atom place None a = tt
asked-below env defs e closed k atom place (Some t) (g, there, asked) = asked-defined env defs e closed k atom place g there t asked
