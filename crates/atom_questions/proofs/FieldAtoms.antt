-- Which shapes the atom of one key has.
use Rattle.std.proofs.Common.{◌≡◌, ◌<◌, ◌⊎◌, ◌↔◌, ◌++◌, ℕ, Bool, true, false, List, [], ◌∷◌, Some, IsSomeAnd, IsTrue, Result, Ok, Err, IfOk, if◌then◌else◌, inl, inr, sym, ap, subst, length, slice_get, arith}
use Rattle.std.proofs.lemmas.List.Elements.{All-cons, All-head, All-nil}
use Rattle.bal_base.specs.declared.shape.Shape.{Shape, Nil, Bool as BoolShape, Int, Str, List', Mapping', Error', Function, Future', Row_of-Fields-items-2 as Row_of-Field, end_of-Fields-items-2 as end_of-Field, more_of-Fields-items-2 as more_of-Field, items-the_row-Fields-items-2 as fields_in}
use Rattle.bal_base.specs.declared.text.Text.{Text}
use Rattle.operations.specs.Kinds.{HasMember}
use Rattle.type_model.specs.declared.answers.Answer.{Answer}
use Rattle.type_model.specs.declared.answers.Answer.TheVariants.{Yes, No}
use Rattle.type_model.specs.declared.atoms.AtomDef.{AtomDef}
use Rattle.type_model.specs.declared.atoms.AtomDef.TheVariants.{Mapping as MappingAtom}
use Rattle.type_model.specs.declared.atoms.FieldDef.{FieldDef}
use Rattle.type_model.specs.declared.basic.BasicSet.TheVariants.{Never}
use Rattle.type_model.specs.declared.basic.Choice.{Choice}
use Rattle.type_model.specs.declared.basic.SemType.{SemType, Atom, Not'}
use Rattle.type_model.specs.declared.basic.Ty.{Ty}
use Rattle.type_model.specs.Basic.{InBasic}
use Rattle.type_model.specs.Calls.{KeepsTypes}
use Rattle.type_model.specs.Defined.{ChoicesBelow, DefBelow, IsDefined, NamesBelow, TyBelow}
use Rattle.type_model.specs.Inclusion.{AnswersSub}
use Rattle.type_model.specs.Membership.{Fits, In, MembersIn}
use Rattle.type_model.specs.Places.{HasDistinctFields, HasKey, HasRequired, is_same_text}
use Rattle.type_model.proofs.Laws.{In-Atom}
use Rattle.code_needs.specs.Needs.{HasField}
use Rattle.code_verifier.specs.Asked.{Answers}
use Rattle.code_verifier.specs.KindSets.{IsAllBut}
use Rattle.atom_questions.specs.Added.{IsAny, IsFieldDef}
use Rattle.atom_questions.specs.inner.Fields.{IsOneField}
use Rattle.atom_questions.specs.inner.Stopping.{IsAnsweredIn}
use Rattle.atom_questions.proofs.Stops.{last-there}

-- ---- all shapes

never-in : (x : Shape) → InBasic x Never → ⊥
never-in Nil h = h
never-in x h = h

all-in : (env : List AtomDef) (x : Shape) (t : SemType) → IsAllBut Never t → In env x t
all-in env x (Not' _ t) e = λ i. never-in x (subst (λ u. In env x u) e i)
all-in env x t e = absurd e

all-below : (n : ℕ) (t : SemType) → IsAllBut Never t → NamesBelow n t
all-below n (Not' _ t) e = subst (NamesBelow n) (sym e) tt
all-below n t e = absurd e

any-below : (n : ℕ) (t : Ty) → IsAny t → TyBelow n t
any-below n t any = (
  all-below n t.sem any.0,
  subst (λ (cs : List Choice). ChoicesBelow n cs) (sym any.1) (All-nil (λ (c : Choice). c.atom < n)),
  subst (λ (cs : List Choice). ChoicesBelow n cs) (sym any.2) (All-nil (λ (c : Choice). c.atom < n)),
)

-- ---- mappings with the key

module _ (env : List AtomDef) (f : FieldDef) (rest : Ty) (of_any : IsAny f.ty) (rest_any : IsAny rest) where
  -- whichever key, its type has all shapes
  either-any : (x : Shape) (b : Bool) → IsSomeAnd (if b then Some f.ty else Some rest) (λ t. In env x t.sem)
  either-any x true = all-in env x f.ty.sem of_any.0
  either-any x false = all-in env x rest.sem rest_any.0

  members-in : {n : _} (row : Row_of-Field n) → MembersIn env row (f ∷ []) (Some rest)
  members-in end_of-Field = tt
  members-in (more_of-Field key x more) = (either-any x (is_same_text f.name key), members-in more)

  module _ (required : f.optional ≡ false) where
    need-key : (members : List (Text × Shape)) → HasRequired (f ∷ []) members → HasKey members f.name
    need-key members h = by (All-head (λ g. IsTrue g.optional ⊎ HasKey members g.name) f [] h)
      where
        by : IsTrue f.optional ⊎ HasKey members f.name → HasKey members f.name
        by (inl t) = absurd (let e : false ≡ true = subst (λ (b : Bool). IsTrue b) required t in let q : ⊥ = cc in q)
        by (inr k) = k

    field-fits : (x : Shape) → Fits env x (MappingAtom (f ∷ []) (Some rest)) ↔ HasMember f.name x
    field-fits (Mapping' mark _ fields) = (
      (λ h. need-key (fields_in _ fields) h.0),
      (λ k. (All-cons (λ g. IsTrue g.optional ⊎ HasKey (fields_in _ fields) g.name) f [] (inr k) (All-nil (λ g. IsTrue g.optional ⊎ HasKey (fields_in _ fields) g.name)), members-in fields)),
    )
    field-fits Nil = ((λ h. h), (λ h. h))
    field-fits (BoolShape b) = ((λ h. h), (λ h. h))
    field-fits (Int i) = ((λ h. h), (λ h. h))
    field-fits (Str t) = ((λ h. h), (λ h. h))
    field-fits (List' mark _ items) = ((λ h. h), (λ h. h))
    field-fits (Error' _ detail) = ((λ h. h), (λ h. h))
    field-fits (Function isolated graph) = ((λ h. h), (λ h. h))
    field-fits (Future' _ results) = ((λ h. h), (λ h. h))

module _ (name : Text) (def : AtomDef) (is : IsFieldDef name def) where
  field-shapes : (env : List AtomDef) (n : ℕ) → slice_get env n ≡ Some def → (x : Shape) → In env x (Atom n) ↔ HasMember name x
  field-shapes env n there x =
      let atom = In-Atom env x n def there in
      let fits : Fits env x def ↔ HasMember is.field.name x =
      subst (λ (d : AtomDef). Fits env x d ↔ HasMember is.field.name x) (sym is.is) (field-fits env is.field is.rest is.of_any is.rest_any is.required x) in (
        (λ i. subst (λ (t : Text). HasMember t x) is.named (fits.0 (atom.0 i))),
        (λ h. atom.1 (fits.1 (subst (λ (t : Text). HasMember t x) (sym is.named) h))),
      )

  pub field-below : (n : ℕ) → DefBelow n def
  field-below n =
      subst (DefBelow n) (sym is.is)
      (All-cons (λ f. TyBelow n f.ty) is.field [] (any-below n is.field.ty is.of_any) (All-nil (λ f. TyBelow n f.ty)), any-below n is.rest is.rest_any)

  pub field-distinct : HasDistinctFields def
  field-distinct = subst HasDistinctFields (sym is.is) (λ i j d lt le. absurd (omega (arith, lt, le)))

  -- what is answered of the atom is what is asked
  field-told : (env new : List AtomDef) → KeepsTypes env new → (m : SemType) → IsDefined env m → (n : ℕ) → slice_get new n ≡ Some def → (a : Answer) → AnswersSub new m (Atom n) a → Answers env (HasField m name) a
  field-told env new keeps m defined n there Yes h = λ x i. (field-shapes new n there x).0 (h x i.0 ((keeps.shapes m defined x).0 i.1))
  field-told env new keeps m defined n there (No x) h =
      let i : In env x m = (keeps.shapes m defined x).1 h.0.1 in
      let out : ¬ (HasMember name x) = λ k. h.1 ((field-shapes new n there x).1 k) in (
        ((h.0.0, i), out),
        (λ met. out (met x (h.0.0, i))),
      )

  pub field-answered : (env : List AtomDef) (m : SemType) → IsDefined env m → {E : Type 0} (r : Result Answer E) → IfOk r (IsAnsweredIn env def m) → IfOk r (Answers env (HasField m name))
  field-answered env m defined (Err e) h = tt
  field-answered env m defined (Ok a) h = field-told env (env ++ def ∷ []) h.0 m defined (length env) (last-there env def) a h.1

-- ---- as it is made

pub field-made : (name : Text) (rest ty : Ty) (fields : List FieldDef) → IsAny rest → IsAny ty → IsOneField name ty fields → IsFieldDef name (MappingAtom fields (Some rest))
field-made name rest ty fields rest_any ty_any (f, one, named, required, of) = record {
  field = f;
  rest = rest;
  is = ap (λ (fs : List FieldDef). MappingAtom fs (Some rest)) one;
  named = named;
  required = required;
  of_any = subst IsAny (sym of) ty_any;
  rest_any = rest_any;
}
