-- Mappings that are made: two runs of the need agree.
use Rattle.std.proofs.Common.{◌≡◌, ◌↔◌, ◌*◌, ◌++◌, ℕ, zero, suc, Bool, true, false, List, [], ◌∷◌, Any, Some, None, length, arith, refl, sym, subst, ap, ◌∙◌}
use Rattle.std.specs.List.{AllZip}
use Rattle.bal_base.specs.declared.place.Place.{Place}
use Rattle.bal_base.specs.declared.shape.Shape.{Shape}
use Rattle.bal_base.specs.Valid.{IsValid}
use Rattle.descriptors.specs.Described.{IsPlain}
use Rattle.type_model.specs.declared.atoms.AtomDef.{AtomDef}
use Rattle.type_model.specs.declared.atoms.AtomDef.TheVariants.{Mapping as MappingAtom}
use Rattle.type_model.specs.declared.basic.Ty.{Ty}
use Rattle.type_model.specs.Defined.{IsClosed, TyBelow}
use Rattle.type_model.specs.Membership.{In}
use Rattle.typed_tree.specs.declared.form.StrictForm.TheVariants as form
use Rattle.check_words.specs.Constructors.{IsOfMembers, all_known, fields_with, makes_mapping}
use Rattle.check_words.specs.State.{ConstructorAtWork}
use Rattle.check_words.specs.Words.{Atoms}
use Rattle.check_answers.specs.Answers.{TwinsOver}
use Rattle.check_answers.specs.Pieces.{DoesForm}
use Rattle.check_answers.specs.TwinStates.{ConstructorTwins}
use Rattle.check_answers.specs.TwinTypes.{TwinAtoms, TwinDefs}
use Rattle.check_answers.proofs.Growing.{settled-later}
use Rattle.check_answers.proofs.Leading.{Any2, Leads, Pairs, leads-then}
use Rattle.check_answers.proofs.Made.{chosen-or-added, fields-equal, group, made-leads, types-later}
use Rattle.check_answers.proofs.Meanings.{plain-twin}
use Rattle.check_answers.proofs.Questions.{Before, D}
use Rattle.check_answers.proofs.Words.{closes-constructor-leads}

-- where all keys are known the atom is that of a closed record, and else that of mappings of any of the types
said : (c : ConstructorAtWork) (env defs : Atoms) → all_known c.keys ≡ true → IsOfMembers c env defs → defs ≡ MappingAtom (fields_with c.keys c.types) None ∷ []
said c env defs e h = rw e at h

said-any : (c : ConstructorAtWork) (env defs : Atoms) → all_known c.keys ≡ false → IsOfMembers c env defs
    → (t : Ty) × IsPlain (λ x. Any (λ u. In env x u.sem) c.types) env t × TyBelow (length env) t × (defs ≡ MappingAtom [] (Some t) ∷ [])
said-any c env defs e h = rw e at h

-- what holds of some member of the one list holds of some of the other
any-forth : {A : Type 0} (P Q : A → Type 0) (R : A → A → Type 0) (xs ys : List A) → AllZip R xs ys → ((x y : A) → R x y → P x → Q y) → Any P xs → Any Q ys
any-forth P Q R [] [] h f a = absurd (let lt = a.2 in omega (arith, lt))
any-forth P Q R (x ∷ xs) (y ∷ ys) h f (zero, z, lt, is, p) = (0, y, omega arith, refl, f x y h.0 (subst P (sym is) p))
any-forth P Q R (x ∷ xs) (y ∷ ys) h f (suc k, z, lt, is, p) =
    let r = any-forth P Q R xs ys h.1 f (k, z, omega (arith, lt), is, p) in let below = r.2 in (suc r.0, r.1, omega (arith, below), r.3, r.4)
any-forth P Q R [] (y ∷ ys) h f a = absurd h
any-forth P Q R (x ∷ xs) [] h f a = absurd h

any-back : {A : Type 0} (P Q : A → Type 0) (R : A → A → Type 0) (xs ys : List A) → AllZip R xs ys → ((x y : A) → R x y → Q y → P x) → Any Q ys → Any P xs
any-back P Q R [] [] h f a = absurd (let lt = a.2 in omega (arith, lt))
any-back P Q R (x ∷ xs) (y ∷ ys) h f (zero, z, lt, is, p) = (0, x, omega arith, refl, f x y h.0 (subst Q (sym is) p))
any-back P Q R (x ∷ xs) (y ∷ ys) h f (suc k, z, lt, is, p) =
    let r = any-back P Q R xs ys h.1 f (k, z, omega (arith, lt), is, p) in let below = r.2 in (suc r.0, r.1, omega (arith, below), r.3, r.4)
any-back P Q R [] (y ∷ ys) h f a = absurd h
any-back P Q R (x ∷ xs) [] h f a = absurd h

module _ (m n : Atoms) (first : IsClosed m) (second : IsClosed n) (twins : TwinAtoms m n) where
  abbrev B : Pairs
  B = Before m n

  abbrev E : Ty → Ty → Type 0
  E = D m n

  mapping-form : (a b : ℕ) (i j : Bool) → b ≡ a → j ≡ i → DoesForm (form.Mapping b j) ≡ DoesForm (form.Mapping a i)
  mapping-form a b i j e f = ap (λ k. DoesForm (form.Mapping k j)) e ∙ ap (λ k. DoesForm (form.Mapping a k)) f

  -- the shapes of any of the types
  any-alike : (ts us : List Ty) (x : Shape) → IsValid x → AllZip E ts us → Any (λ t. In m x t.sem) ts ↔ Any (λ u. In n x u.sem) us
  any-alike ts us x valid h = (
    any-forth (λ t. In m x t.sem) (λ u. In n x u.sem) E ts us h (λ t u k i. let same = k.twins.shapes in (same x valid).0 i),
    any-back (λ t. In m x t.sem) (λ u. In n x u.sem) E ts us h (λ t u k i. let same = k.twins.shapes in (same x valid).1 i),
  )

  any-settled : (ts us : List Ty) (t u : Ty) → AllZip E ts us → IsPlain (λ x. Any (λ u. In m x u.sem) ts) m t → TyBelow (length m) t
      → IsPlain (λ x. Any (λ u. In n x u.sem) us) n u → TyBelow (length n) u → E t u
  any-settled ts us t u h p below q over =
      record { twins = plain-twin m n _ _ t u (λ x valid. any-alike ts us x valid h) p q; first = below; second = over }

  members-same : (c d : ConstructorAtWork) (ds es : List AtomDef) → ConstructorTwins E E c d → IsOfMembers c m ds → IsOfMembers d n es
      → AllZip (TwinDefs (m ++ ds) (n ++ es)) ds es
  members-same c d ds es h x y = by (all_known c.keys) refl
    where
      by : (b : Bool) → all_known c.keys ≡ b → AllZip (TwinDefs (m ++ ds) (n ++ es)) ds es
      by true e =
          group m n first second twins ds es _ _ (said c m ds e x) (said d n es (ap all_known h.keys ∙ e) y)
          ((fields-equal m n first second twins ds es c.keys d.keys c.types d.types h.keys (types-later m n first second twins ds es c.types d.types h.types), tt), tt)
      by false e =
          let (t, p, below, i) = said-any c m ds e x in
          let (u, q, over, j) = said-any d n es (ap all_known h.keys ∙ e) y in
          let k = settled-later m n ds es first second t u (any-settled c.types d.types t u h.types p below q over) in
          group m n first second twins ds es _ _ i j ((tt, k.twins), tt)

  pub mapping-leads : (count : ℕ) (at : Place) → Leads B TwinsOver Any2 (makes_mapping count at) (makes_mapping count at)
  mapping-leads count at =
      leads-then B B TwinsOver (ConstructorTwins E E) Any2 _ _ _ _ (closes-constructor-leads m n E E)
      (λ c d h. chosen-or-added m n first second twins c.choice d.choice (IsOfMembers c) (IsOfMembers d) at _ _ h.choice
      (λ none ds es x y. members-same c d ds es h x y)
      (λ k l t a b e. made-leads k l t a b c.immutable d.immutable e h.immutable (2 * count) (form.Mapping a c.immutable) (form.Mapping b d.immutable) at
      (mapping-form a b c.immutable d.immutable e h.immutable)))
