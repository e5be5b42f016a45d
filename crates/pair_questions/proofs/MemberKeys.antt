-- A pair and the members of a mapping, field by field and beside the fields.
use Rattle.std.proofs.Common.{◌≡◌, ◌≢◌, ◌<◌, ◌+◌, ◌⊎◌, ◌∙◌, ℕ, zero, suc, Bool, true, false, List, [], ◌∷◌, Option, Some, None, All, Any, Contains, IfSome, IsSomeAnd, Result, Ok, Err, IfOk, if◌then◌else◌, inl, inr, ap, arith, get_or, length, refl, subst, sym, take}
use Rattle.std.proofs.lemmas.Bool.{false≢true}
use Rattle.std.proofs.lemmas.List.Elements.{All-cons, All-head, All-more, All-nil, All-tail}
use Rattle.std.specs.Prelude.{AllPairs}
use Rattle.std.specs.Cmp.Lexicographic.{bytes_decides}
use Rattle.bal_base.specs.declared.shape.Shape.{Shape, Str}
use Rattle.bal_base.specs.declared.text.Text.{Text}
use Rattle.bal_base.specs.Valid.{IsText}
use Rattle.operations.specs.Structures.{MemberFits}
use Rattle.type_model.specs.declared.answers.Answer.{Answer}
use Rattle.type_model.specs.declared.answers.Answer.TheVariants.{Yes, No}
use Rattle.type_model.specs.declared.atoms.AtomDef.{AtomDef}
use Rattle.type_model.specs.declared.atoms.FieldDef.{FieldDef}
use Rattle.type_model.specs.declared.basic.BasicSet.TheVariants.{Never}
use Rattle.type_model.specs.declared.basic.Ty.{Ty}
use Rattle.type_model.specs.Basic.{InBasic}
use Rattle.type_model.specs.Defined.{IsDefined}
use Rattle.type_model.specs.Inclusion.{AnswersSub}
use Rattle.type_model.specs.Membership.{In}
use Rattle.type_model.specs.Places.{is_same_text, key_type}
use Rattle.code_needs.specs.Needs.{FitsFields}
use Rattle.code_verifier.specs.Asked.{Answers, IsUnfit}
use Rattle.pair_questions.specs.declared.members.Members.{Members}
use Rattle.pair_questions.specs.declared.pair.Pair.{Pair}
use Rattle.pair_questions.specs.Fitting.{AreMembers, FitsBeside, FitsField, HasBeside, IsUnfitField, TellsBeside, TellsField, TellsNamed, other_type}
use Rattle.pair_questions.specs.inner.Strings.{type_has}
use Rattle.pair_questions.specs.Pairs.{pair_of}
use Rattle.pair_questions.proofs.KeyTexts.{other-text, type-so}

-- ---- types of keys

-- that of the first field of the name, or the rest's
abbrev HasFieldAt : List FieldDef → Option Ty → Text → Type 0
HasFieldAt fields rest key = (f : FieldDef) × Contains fields f × (f.name ≡ key) × (key_type fields rest key ≡ Some f.ty)

abbrev IsBesideFields : List FieldDef → Option Ty → Text → Type 0
IsBesideFields fields rest key = All (λ f. f.name ≢ key) fields × (key_type fields rest key ≡ rest)

same-text : (s x : Text) → s ≡ x → is_same_text s x ≡ true
same-text s x e = (bytes_decides s x).1 e

at-first : (f : FieldDef) (fields : List FieldDef) (rest : Option Ty) (key : Text) → is_same_text f.name key ≡ true → key_type (f ∷ fields) rest key ≡ Some f.ty
at-first f fields rest key e = ap (λ (b : Bool). if b then Some f.ty else key_type fields rest key) e

at-later : (f : FieldDef) (fields : List FieldDef) (rest : Option Ty) (key : Text) → is_same_text f.name key ≡ false → key_type (f ∷ fields) rest key ≡ key_type fields rest key
at-later f fields rest key e = ap (λ (b : Bool). if b then Some f.ty else key_type fields rest key) e

at-key : (fields : List FieldDef) (rest : Option Ty) (key : Text) → HasFieldAt fields rest key ⊎ IsBesideFields fields rest key
at-key [] rest key = inr (All-nil (λ f. f.name ≢ key), refl)
at-key (f ∷ fields) rest key = by (is_same_text f.name key) refl (bytes_decides f.name key) (at-key fields rest key)
  where
    behind : is_same_text f.name key ≡ false → HasFieldAt fields rest key → HasFieldAt (f ∷ fields) rest key
    behind e (g, (i, lt, is), name, ty) = (g, (suc i, omega (arith, lt), is), name, at-later f fields rest key e ∙ ty)

    by : (b : Bool) → is_same_text f.name key ≡ b → ((is_same_text f.name key ≡ true → f.name ≡ key) × (f.name ≡ key → is_same_text f.name key ≡ true))
        → HasFieldAt fields rest key ⊎ IsBesideFields fields rest key → HasFieldAt (f ∷ fields) rest key ⊎ IsBesideFields (f ∷ fields) rest key
    by true e d more = inl (f, (zero, omega arith, refl), d.0 e, at-first f fields rest key e)
    by false e d (inl h) = inl (behind e h)
    by false e d (inr (apart, is)) = inr (All-cons (λ g. g.name ≢ key) f fields (λ same. false≢true (sym e ∙ d.1 same)) apart, at-later f fields rest key e ∙ is)

beside-type : (fields : List FieldDef) (rest : Option Ty) (key : Text) → All (λ f. f.name ≢ key) fields → key_type fields rest key ≡ rest
beside-type [] rest key h = refl
beside-type (f ∷ fields) rest key h =
    at-later f fields rest key (other-text f.name key (All-head (λ g. g.name ≢ key) f fields h)) ∙ beside-type fields rest key (All-tail (λ g. g.name ≢ key) f fields h)

-- where names are distinct each field gives the type at its name
abbrev AreDistinct : List FieldDef → Type 0
AreDistinct fields = AllPairs (λ f g. f.name ≢ g.name) fields

tail-distinct : (f : FieldDef) (fields : List FieldDef) → AreDistinct (f ∷ fields) → AreDistinct fields
tail-distinct f fields h i j d lt within = h (suc i) (suc j) d (omega (arith, lt)) (omega (arith, within))

own-type : (fields : List FieldDef) (rest : Option Ty) (f : FieldDef) → AreDistinct fields → (i : ℕ) → i < length fields → get_or fields i f ≡ f → key_type fields rest f.name ≡ Some f.ty
own-type [] rest f h i lt is = absurd (omega (arith, lt))
own-type (g ∷ fields) rest f h zero lt is = at-first g fields rest f.name (same-text g.name f.name (ap (λ (x : FieldDef). x.name) is)) ∙ ap (λ (x : FieldDef). Some x.ty) is
own-type (g ∷ fields) rest f h (suc i) lt is =
    let apart : g.name ≢ f.name = subst (λ (x : FieldDef). g.name ≢ x.name) is (h zero (suc i) f (omega arith) lt) in
    at-later g fields rest f.name (other-text g.name f.name apart) ∙ own-type fields rest f (tail-distinct g fields h) i (omega (arith, lt)) is

-- ---- one field, and other keys

module _ (env : List AtomDef) (pair : Pair) where
  abbrev Has : Text → Bool
  Has key = type_has pair.key.now (Some key)

  pub may-be : (f : FieldDef) (b : Bool) → b ≡ true → b ≡ Has f.name → In env (Str f.name) pair.key.now
  may-be f b e is = (type-so env f.name pair.key.now).0 (sym is ∙ e)

  -- the key is another one
  pub never-name : (f : FieldDef) (b : Bool) → b ≡ false → b ≡ Has f.name → FitsField env pair f
  never-name f b e is i = absurd (false≢true (sym e ∙ is ∙ (type-so env f.name pair.key.now).1 i))

  field-told : (f : FieldDef) → IsText f.name → In env (Str f.name) pair.key.now → (a : Answer) → AnswersSub env pair.value.now f.ty.sem a → TellsField env pair f a
  field-told f text i Yes sub = λ _ x s. sub x s.0 s.1
  field-told f text i (No x) h = ((text, i), h)

  pub field-answered : (f : FieldDef) → IsText f.name → In env (Str f.name) pair.key.now → {E : Type 0} (r : Result Answer E) → IfOk r (AnswersSub env pair.value.now f.ty.sem) → IfOk r (TellsField env pair f)
  field-answered f text i (Ok a) h = field-told f text i a h
  field-answered f text i (Err e) h = tt

  module _ (members : Members) where
    beside-told : HasBeside env pair.key.now members.fields.now → (a : Answer) → AnswersSub env pair.value.now (other_type members.rest.now) a → TellsBeside env members pair a
    beside-told has Yes sub = λ _ x s. sub x s.0 s.1
    beside-told has (No x) h = (has, h)

    pub beside-answered : HasBeside env pair.key.now members.fields.now → {E : Type 0} (r : Result Answer E) → IfOk r (AnswersSub env pair.value.now (other_type members.rest.now)) → IfOk r (TellsBeside env members pair)
    beside-answered has (Ok a) h = beside-told has a h
    beside-answered has (Err e) h = tt

    -- ---- all keys

    never-in : (x : Shape) → ¬ (InBasic x Never)
    never-in x h = h

    in-rest : (rest : Option Ty) (x : Shape) → In env x (other_type rest) → IsSomeAnd rest (λ t. In env x t.sem)
    in-rest (Some t) x h = h
    in-rest None x h = absurd (never-in x h)

    from-rest : (rest : Option Ty) (x : Shape) → IsSomeAnd rest (λ t. In env x t.sem) → In env x (other_type rest)
    from-rest (Some t) x h = h
    from-rest None x h = absurd h

    all-fit : All (FitsField env pair) members.fields.now → FitsBeside env members pair → MemberFits env members.fields.now members.rest.now (pair_of pair)
    all-fit each others key i x s = by (at-key members.fields.now members.rest.now key)
      where
        by : HasFieldAt members.fields.now members.rest.now key ⊎ IsBesideFields members.fields.now members.rest.now key → IsSomeAnd (key_type members.fields.now members.rest.now key) (λ t. In env x t.sem)
        by (inl (f, (n, lt, is), name, ty)) =
            let fits = subst (FitsField env pair) is (each n f lt) in
            let there : In env (Str f.name) pair.key.now = subst (λ (k : Text). In env (Str k) pair.key.now) (sym name) i.1 in
            subst (λ (o : Option Ty). IsSomeAnd o (λ t. In env x t.sem)) (sym ty) (fits there x s)
        by (inr (apart, is)) = subst (λ (o : Option Ty). IsSomeAnd o (λ t. In env x t.sem)) (sym is) (in-rest members.rest.now x (others (key, i, apart) x s))

    abbrev Unfit : Shape → Type 0
    Unfit x = IsUnfit env members.fields.now members.rest.now (pair_of pair) x

    abbrev Told : Answer → Type 0
    Told a = Answers env (FitsFields members.fields.now members.rest.now (pair_of pair)) a

    not-met : (x : Shape) → Unfit x → Told (No x)
    not-met x (key, i, (s, out)) = ((key, i, (s, out)), (λ fits. out (fits key i x s)))

    -- a field that doesn't fit, or another key
    field-unfit : AreDistinct members.fields.now → (x : Shape) → Any (IsUnfitField env pair x) members.fields.now → Told (No x)
    field-unfit distinct x (n, f, lt, is, (i, (s, out))) =
        let ty = own-type members.fields.now members.rest.now f distinct n lt is in
        not-met x (f.name, i, (s, (λ there. out (subst (λ (o : Option Ty). IsSomeAnd o (λ t. In env x t.sem)) ty there))))

    pub no-told : AreDistinct members.fields.now → (x : Shape) (a : Answer) → a ≡ No x → TellsNamed env members pair a → Told (No x)
    no-told distinct x a e h = field-unfit distinct x (subst (TellsNamed env members pair) e h)

    other-unfit : (x : Shape) → TellsBeside env members pair (No x) → Told (No x)
    other-unfit x ((key, i, apart), (s, out)) =
        let is = beside-type members.fields.now members.rest.now key apart in
        not-met x (key, i, (s, (λ there. out (from-rest members.rest.now x (subst (λ (o : Option Ty). IsSomeAnd o (λ t. In env x t.sem)) is there)))))

    others-told : All (FitsField env pair) members.fields.now → (a : Answer) → TellsBeside env members pair a → Told a
    others-told each Yes others = all-fit each others
    others-told each (No x) h = other-unfit x h

    pub others-answered : (b : Answer) → b ≡ Yes → TellsNamed env members pair b → {E : Type 0} (r : Result Answer E) → IfOk r (TellsBeside env members pair) → IfOk r Told
    others-answered b e each (Ok a) h = others-told (subst (TellsNamed env members pair) e each) a h
    others-answered b e each (Err x) h = tt

other-defined : (env : List AtomDef) (rest : Option Ty) → IfSome rest (λ t. IsDefined env t.sem) → IsDefined env (other_type rest)
other-defined env (Some t) h = h
other-defined env None h = tt

pub members-other : (env old : List AtomDef) → env ≡ old → (members : Members) → AreMembers old members → IsDefined env (other_type members.rest.now)
members-other env old same members h = subst (λ (e : List AtomDef). IsDefined e (other_type members.rest.now)) (sym same) (other-defined old members.rest.now h.2)

-- a field more that fits
pub fits-more : (env : List AtomDef) (pair : Pair) (fields : List FieldDef) (i : ℕ) (f : FieldDef) → i < length fields → f ≡ get_or fields i f → All (FitsField env pair) (take i fields)
    → (a : Answer) → a ≡ Yes → TellsField env pair f a → All (FitsField env pair) (take (i + 1) fields)
fits-more env pair fields i f lt is before a e h = All-more (FitsField env pair) fields i f lt before (subst (FitsField env pair) is (subst (TellsField env pair f) e h))

pub one-unfit : (env : List AtomDef) (pair : Pair) (fields : List FieldDef) (i : ℕ) (f : FieldDef) → i < length fields → f ≡ get_or fields i f → (x : Shape) (a : Answer) → a ≡ No x → TellsField env pair f a → Any (IsUnfitField env pair x) fields
one-unfit env pair fields i f lt is x a e h = (i, f, lt, sym is, subst (TellsField env pair f) e h)
