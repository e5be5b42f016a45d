-- From which type the choices of a stored member come.
use Rattle.std.proofs.Common.{◌≡◌, ◌≤◌, ◌++◌, ◌&&◌, ◌==◌, ◌∙◌, ℕ, Bool, true, false, List, [], ◌∷◌, All, Option, Some, None, Result, Ok, Err, IfOk, slice_get, if◌then◌else◌, length, map, inl, inr, refl, ap, arith, subst, sym}
use Rattle.std.specs.Bool.{Decides}
use Rattle.std.specs.Cmp.{booleans_Decides}
use Rattle.std.specs.Cmp.Lexicographic.{pointwise}
use Rattle.std.proofs.lemmas.Bool.{false≢true, eqb-true, eq-eqb}
use Rattle.std.proofs.lemmas.List.Elements.{All-cons, All-head, All-nil, All-tail}
use Rattle.std.proofs.lemmas.Slice.Eq.{slice_eq-Decides}
use Rattle.bal_base.specs.declared.stop.Memory.{Memory as NoMemory}
use Rattle.bal_base.specs.declared.text.Text.{Text}
use Rattle.descriptors.specs.Described.{plain}
use Rattle.type_model.specs.declared.answers.Keys.{Keys}
use Rattle.type_model.specs.declared.answers.Keys.TheVariants.{Index, AnyIndex, Field, AnyField, Results}
use Rattle.type_model.specs.declared.atoms.AtomDef.{AtomDef}
use Rattle.type_model.specs.declared.atoms.AtomDef.TheVariants.{List as ListAtom, Mapping as MappingAtom, Arrow, Error as ErrorAtom, Future as FutureAtom}
use Rattle.type_model.specs.declared.atoms.FieldDef.{FieldDef}
use Rattle.type_model.specs.declared.basic.Choice.{Choice}
use Rattle.type_model.specs.declared.basic.SemType.{SemType}
use Rattle.type_model.specs.declared.basic.Ty.{Ty}
use Rattle.type_model.specs.contracts.basic.ChoicePartialEq.TheImpl as same_choice
use Rattle.type_model.specs.Defined.{NamesBelow, TyBelow}
use Rattle.type_model.specs.Places.{is_same_text, key_type}
use Rattle.type_model.proofs.Same.{itself}
use Rattle.check_words.specs.Members.{AreChoicesOf, AreOfAtom, HasChoices, IsStored, all_named}
use Rattle.check_members.specs.Stored.{ChoicesFrom, IfBelow, IsShared, IsSource, IsSourceAt, IsSourceIn, named_field, named_item, only_choice}

-- ---- choices that are the same

both : {A B : Type 0} (a b : Bool) → Decides a A → Decides b B → Decides (a && b) (A × B)
both true b p q = (λ e. (p.0 refl, q.0 e), λ h. q.1 h.1)
both false b p q = (λ e. absurd (false≢true e), λ h. absurd (false≢true (p.1 h.0)))

pub choice-decides : (c d : Choice) → Decides (same_choice.ghosts.eq c d) (c ≡ d)
choice-decides c d =
    let parts : Decides (same_choice.ghosts.eq c d) ((c.atom ≡ d.atom) × (c.immutable ≡ d.immutable)) =
    both (c.atom == d.atom) _ (λ e. eqb-true c.atom d.atom e, λ e. eq-eqb c.atom d.atom e) (booleans_Decides c.immutable d.immutable) in
    (λ e. let h = parts.0 e in λ i. record { atom = h.0 i; immutable = h.1 i }, λ h. parts.1 (ap (λ (x : Choice). x.atom) h, ap (λ (x : Choice). x.immutable) h))

pub lists-decide : (xs ys vs ws : List Choice) (r : Bool) → xs ≡ vs → ys ≡ ws → r ≡ pointwise same_choice.ghosts.eq xs ys → Decides r (vs ≡ ws)
lists-decide xs ys vs ws r left right e =
    subst (λ zs. Decides r (vs ≡ zs)) right (subst (λ zs. Decides r (zs ≡ ys)) left (slice_eq-Decides choice-decides xs ys r e))

pub then-same : (b : Bool) (P Q : Type 0) → P → Decides b Q → Decides b (P × Q)
then-same b P Q p d = (λ e. (p, d.0 e), λ h. d.1 h.1)

pub else-same : (b : Bool) (P Q : Type 0) → b ≡ false → Decides b P → Decides b (P × Q)
else-same b P Q is d = (λ e. absurd (false≢true (sym is ∙ e)), λ h. d.1 h.0)

-- two choices are more than one
pub many-none : (xs ys : List Choice) → 2 ≤ length xs → only_choice (xs ++ ys) ≡ None
many-none [] ys h = absurd (omega (arith, h))
many-none (c ∷ []) ys h = absurd (omega (arith, h))
many-none (c ∷ d ∷ more) ys h = refl

-- ---- a field that is named

key-below : (n : ℕ) (fields : List FieldDef) (name : Text) → All (λ f. TyBelow n f.ty) fields → IfBelow n (key_type fields None name)
key-below n [] name h = tt
key-below n (f ∷ fields) name h = by (key-below n fields name (All-tail (λ f. TyBelow n f.ty) f fields h)) (is_same_text f.name name)
  where
    by : IfBelow n (key_type fields None name) → (b : Bool) → IfBelow n (if b then Some f.ty else key_type fields None name)
    by behind true = All-head (λ f. TyBelow n f.ty) f fields h
    by behind false = behind

pub named-below : (n : ℕ) (fields : List FieldDef) (keys : Keys) → All (λ f. TyBelow n f.ty) fields → IfBelow n (named_field fields keys)
named-below n fields (Index i) h = tt
named-below n fields AnyIndex h = tt
named-below n fields (Field name) h = key-below n fields name h
named-below n fields AnyField h = tt
named-below n fields Results h = tt

-- ---- those that all have

pub first-shared : (t : Ty) (ts : List Ty) → All (HasChoices t.lists t.maps) ts → IsShared (t ∷ ts) (Some t)
first-shared t ts same lists maps h = inl (same, h)

pub not-shared : (t : Ty) (ts : List Ty) → (¬ All (HasChoices t.lists t.maps) ts) → IsShared (t ∷ ts) None
not-shared t ts differ lists maps h = inr (differ, h.0, h.1)

-- the same of fields

mapped : (P : Ty → Type 0) (fs : List FieldDef) → All (λ g. P g.ty) fs → All P (map (λ g. g.ty) fs)
mapped P [] h = All-nil P
mapped P (f ∷ fs) h = All-cons P f.ty (map (λ g. g.ty) fs) (All-head (λ g. P g.ty) f fs h) (mapped P fs (All-tail (λ g. P g.ty) f fs h))

unmapped : (P : Ty → Type 0) (fs : List FieldDef) → All P (map (λ g. g.ty) fs) → All (λ g. P g.ty) fs
unmapped P [] h = All-nil (λ (g : FieldDef). P g.ty)
unmapped P (f ∷ fs) h = All-cons (λ g. P g.ty) f fs (All-head P f.ty (map (λ g. g.ty) fs) h) (unmapped P fs (All-tail P f.ty (map (λ g. g.ty) fs) h))

pub fields-shared : (fields : List FieldDef) (f : FieldDef) → slice_get fields 0 ≡ Some f → All (λ g. HasChoices f.ty.lists f.ty.maps g.ty) fields
    → IsShared (map (λ g. g.ty) fields) (Some f.ty)
fields-shared [] f e h = absurd (cc)
fields-shared (g ∷ fs) f e h = let same : g ≡ f = cc in
    subst (λ (x : FieldDef). IsShared (x.ty ∷ map (λ y. y.ty) fs) (Some f.ty)) (sym same)
    (first-shared f.ty (map (λ y. y.ty) fs) (mapped (HasChoices f.ty.lists f.ty.maps) fs (All-tail (λ y. HasChoices f.ty.lists f.ty.maps y.ty) g fs h)))

pub fields-differ : (fields : List FieldDef) (f : FieldDef) → slice_get fields 0 ≡ Some f → (¬ All (λ g. HasChoices f.ty.lists f.ty.maps g.ty) fields)
    → IsShared (map (λ g. g.ty) fields) None
fields-differ [] f e differ = absurd (cc)
fields-differ (g ∷ fs) f e differ = let same : g ≡ f = cc in
    subst (λ (x : FieldDef). IsShared (x.ty ∷ map (λ y. y.ty) fs) None) (sym same)
    (not-shared f.ty (map (λ y. y.ty) fs)
    (λ all. differ (subst (λ (x : FieldDef). All (λ y. HasChoices f.ty.lists f.ty.maps y.ty) (x ∷ fs)) (sym same)
    (All-cons (λ y. HasChoices f.ty.lists f.ty.maps y.ty) f fs (refl, refl) (unmapped (HasChoices f.ty.lists f.ty.maps) fs all)))))

pub no-fields : (fields : List FieldDef) → slice_get fields 0 ≡ None → IsShared (map (λ g. g.ty) fields) None
no-fields [] e = λ lists maps h. h
no-fields (g ∷ fs) e = absurd (cc)

pub first-below : (n : ℕ) (fields : List FieldDef) (f : FieldDef) → slice_get fields 0 ≡ Some f → All (λ g. TyBelow n g.ty) fields → TyBelow n f.ty
first-below n [] f e h = absurd (cc)
first-below n (g ∷ fs) f e h = let same : g ≡ f = cc in subst (λ (x : FieldDef). TyBelow n x.ty) same (All-head (λ x. TyBelow n x.ty) g fs h)

-- ---- those of the first that is there

pub from-named : (t : Ty) (rest : Option Ty) (types : List Ty) → IsSource (Some t) rest types (Some t)
from-named t rest types lists maps h = h

pub from-rest : (t : Ty) (types : List Ty) → IsSource None (Some t) types (Some t)
from-rest t types lists maps h = h

pub from-all : (types : List Ty) (source : Option Ty) → IsShared types source → IsSource None None types source
from-all types source h = h

-- ---- by the definition of an atom

list-source : (fixed : List Ty) (rest : Option Ty) (keys : Keys) (source : Option Ty) → IsSource (named_item fixed keys) rest fixed source → IsSourceAt (ListAtom fixed rest) keys source
list-source fixed rest (Index n) source h = h
list-source fixed rest AnyIndex source h = h
list-source fixed rest (Field name) source h = h
list-source fixed rest AnyField source h = h
list-source fixed rest Results source h = h

mapping-source : (fields : List FieldDef) (rest : Option Ty) (keys : Keys) (source : Option Ty) → IsSource (named_field fields keys) rest (all_named (MappingAtom fields rest)) source
    → IsSourceAt (MappingAtom fields rest) keys source
mapping-source fields rest (Index n) source h = h
mapping-source fields rest AnyIndex source h = h
mapping-source fields rest (Field name) source h = h
mapping-source fields rest AnyField source h = h
mapping-source fields rest Results source h = h

pub in-list : (fixed : List Ty) (rest : Option Ty) (keys : Keys) (named source : Option Ty) → named ≡ named_item fixed keys → IsSource named rest fixed source → IsSourceAt (ListAtom fixed rest) keys source
in-list fixed rest keys named source e h = list-source fixed rest keys source (subst (λ (o : Option Ty). IsSource o rest fixed source) e h)

pub in-mapping : (fields : List FieldDef) (rest : Option Ty) (keys : Keys) (named source : Option Ty) → named ≡ named_field fields keys → IsSource named rest (all_named (MappingAtom fields rest)) source
    → IsSourceAt (MappingAtom fields rest) keys source
in-mapping fields rest keys named source e h = mapping-source fields rest keys source (subst (λ (o : Option Ty). IsSource o rest (all_named (MappingAtom fields rest)) source) e h)

pub none-arrow : (args result : SemType) (isolated : Bool) (keys : Keys) → IsSourceAt (Arrow args result isolated) keys None
none-arrow args result isolated keys lists maps h = h

pub none-error : (detail : SemType) (keys : Keys) → IsSourceAt (ErrorAtom detail) keys None
none-error detail keys lists maps h = h

pub none-future : (result : SemType) (keys : Keys) → IsSourceAt (FutureAtom result) keys None
none-future result keys lists maps h = h

-- ---- by the number of an atom

module _ (defs : List AtomDef) (atom : ℕ) (keys : Keys) where
  pub atom-there : (def : AtomDef) (source : Option Ty) → slice_get defs atom ≡ Some def → IsSourceAt def keys source
      → (lists maps : List Choice) → ChoicesFrom source lists maps → AreOfAtom (slice_get defs atom) keys lists maps
  atom-there def source e h lists maps k = rw e (h lists maps k)

  pub atom-absent : slice_get defs atom ≡ None → (lists maps : List Choice) → ChoicesFrom None lists maps → AreOfAtom (slice_get defs atom) keys lists maps
  atom-absent e lists maps k = rw e k

-- ---- by the one choice of a type

module _ (defs : List AtomDef) (container : Ty) (keys : Keys) where
  chosen : (choices : List Choice) (c : Choice) (lists maps : List Choice) → only_choice choices ≡ Some c → AreOfAtom (slice_get defs c.atom) keys lists maps → AreChoicesOf defs choices keys lists maps
  chosen [] c lists maps e h = absurd (cc)
  chosen (d ∷ []) c lists maps e h = let same : d ≡ c = cc in subst (λ (k : Choice). AreOfAtom (slice_get defs k.atom) keys lists maps) (sym same) h
  chosen (d ∷ f ∷ more) c lists maps e h = absurd (cc)

  unchosen : (choices lists maps : List Choice) → only_choice choices ≡ None → ChoicesFrom None lists maps → AreChoicesOf defs choices keys lists maps
  unchosen [] lists maps e h = h
  unchosen (d ∷ []) lists maps e h = absurd (cc)
  unchosen (d ∷ f ∷ more) lists maps e h = h

  pub choice-there : (c : Choice) (source : Option Ty) → only_choice (container.lists ++ container.maps) ≡ Some c
      → ((lists maps : List Choice) → ChoicesFrom source lists maps → AreOfAtom (slice_get defs c.atom) keys lists maps) → IsSourceIn defs container keys source
  choice-there c source e h lists maps k = chosen (container.lists ++ container.maps) c lists maps e (h lists maps k)

  pub choice-absent : only_choice (container.lists ++ container.maps) ≡ None → IsSourceIn defs container keys None
  choice-absent e lists maps k = unchosen (container.lists ++ container.maps) lists maps e k

  -- ---- what is stored

  module _ (m : SemType) where
    with-source : (source t : Ty) → IsSourceIn defs container keys (Some source) → t ≡ record { sem = m; lists = source.lists; maps = source.maps } → IsStored container keys m defs t
    with-source source t h e = subst (IsStored container keys m defs) (sym e)
        (source.lists, source.maps, h source.lists source.maps (refl, refl), record { shapes = λ x v. itself; lists = refl; maps = refl })

    pub stored-with : (source : Ty) (r : Result Ty NoMemory) → IsSourceIn defs container keys (Some source)
        → IfOk r (λ t. t ≡ record { sem = m; lists = source.lists; maps = source.maps }) → IfOk r (IsStored container keys m defs)
    stored-with source (Ok t) h e = with-source source t h e
    stored-with source (Err stop) h e = tt

    pub stored-plain : (t : Ty) → IsSourceIn defs container keys None → t ≡ plain m → IsStored container keys m defs t
    stored-plain t h e = subst (IsStored container keys m defs) (sym e) ([], [], h [] [] (refl, refl), record { shapes = λ x v. itself; lists = refl; maps = refl })

pub stored-below : (n : ℕ) (m : SemType) (source : Ty) (r : Result Ty NoMemory) → NamesBelow n m → TyBelow n source
    → IfOk r (λ t. t ≡ record { sem = m; lists = source.lists; maps = source.maps }) → IfOk r (TyBelow n)
stored-below n m source (Ok t) h k e = subst (TyBelow n) (sym e) (h, k.1, k.2)
stored-below n m source (Err stop) h k e = tt

pub ruleset sources = (first-shared, not-shared, fields-shared, fields-differ, no-fields, first-below, from-named, from-rest, from-all, in-list, in-mapping, none-arrow, none-error, none-future, atom-there, atom-absent, choice-there, choice-absent)
