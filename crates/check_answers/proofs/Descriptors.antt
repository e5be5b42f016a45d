-- Descriptors: two runs of each go together, and so does what describes a type.
use Rattle.std.proofs.Common.{◌≡◌, ◌++◌, ℕ, Bool, true, false, List, [], ◌∷◌, All, Option, Some, None, Result, Ok, Err, length, refl, sym, subst, ap, ◌∙◌, arith}
use Rattle.std.specs.List.{AllZip, list_any}
use Rattle.std.proofs.lemmas.List.Elements.{All-head, All-tail}
use Rattle.bal_base.specs.declared.fault.FaultCode.{FaultCode}
use Rattle.bal_base.specs.declared.fault.FaultCode.TheVariants.{Duplicate}
use Rattle.bal_base.specs.declared.fault.Kept.TheVariants.{Nothing}
use Rattle.bal_base.specs.declared.place.Place.{Place}
use Rattle.bal_base.specs.declared.text.Text.{Text}
use Rattle.bal_tree.specs.declared.name.Word.{Word}
use Rattle.bal_tree.specs.declared.types.BuiltinType.{BuiltinType}
use Rattle.bal_tree.specs.declared.types.BuiltinType.TheVariants.{Int as IntWord, String as StringWord, Boolean as BooleanWord, Byte as ByteWord, Any as AnyWord, AnyData as AnyDataWord, Never as NeverWord, ReadOnly as ReadOnlyWord}
use Rattle.checks.specs.Checks.{Check, either, gives, refuses, ◌▷◌}
use Rattle.checks.specs.Questions.{IsFault}
use Rattle.descriptors.specs.declared.names.Names.{Names}
use Rattle.descriptors.specs.declared.names.Scope.{Scope}
use Rattle.descriptors.specs.Described.{AreCopies, IsAnyFunction, IsBuiltin, IsCopy, IsIntersection, IsOptional, IsRewritten, IsUnion, all_by, arrow_by, by_now, choice_of, choices_with, count_of, described, described_whole, field_of, fields_by, gives_named, if_by, list_by, list_of, mapping_by, mapping_of, names_of, new_atom, new_field, params_of, plain, plain_by, result_by, value_set, with_choices}
use Rattle.descriptors.specs.Descriptors.{Descriptor, builtin, value, named, optional, union, intersection, array, repeated, tuple, map_of, closed_record, open_record, any_error, error_with, any_function, function_from, future_of, Descriptors, no_more, then_more, FieldDescriptors, no_field, then_field, MaybeDescriptor, absent, present, is_readonly}
use Rattle.descriptors.specs.Naming.{type_named}
use Rattle.bal_tree.specs.declared.name.QualifiedName.{QualifiedName}
use Rattle.type_model.specs.declared.atoms.AtomDef.{AtomDef}
use Rattle.type_model.specs.declared.atoms.AtomDef.TheVariants.{List as ListAtom, Mapping as MappingAtom, Arrow, Error as ErrorAtom, Future as FutureAtom}
use Rattle.type_model.specs.declared.atoms.FieldDef.{FieldDef}
use Rattle.type_model.specs.declared.basic.BasicSet.{BasicSet}
use Rattle.type_model.specs.declared.basic.BasicSet.TheVariants.{ErrorAll, Nil as NilOnly}
use Rattle.type_model.specs.declared.basic.SemType.{Atom, Basic, SemType}
use Rattle.type_model.specs.declared.basic.Ty.{Ty}
use Rattle.type_model.specs.Places.{is_same_text}
use Rattle.type_model.proofs.Same.{both, either as either-same, itself}
use Rattle.check_words.specs.Sharing.{SameOption}
use Rattle.check_words.specs.Words.{Atoms}
use Rattle.check_answers.specs.TwinTypes.{TwinFields, TwinTypes}
use Rattle.check_answers.proofs.Lasting.{Fine, From, Go, Grows, Lasting, LastingDefs, SameAtom, go-atom, go-now, go-refused, go-some, go-then, grows-atom, grows-refuses, grows-some, grows-then, moved, moved-type}
use Rattle.check_answers.proofs.Meanings.{copies-twin, meanings-twin, same-twin}
use Rattle.check_answers.proofs.Zips.{option-map, zip-map, zip-one}

-- ---- single types, over any atoms

module _ (m n : Atoms) where
  abbrev T : Ty → Ty → Type 0
  T = TwinTypes m n

  basic-twin : (b : BasicSet) (s t : Ty) → s ≡ plain (Basic b) → t ≡ plain (Basic b) → T s t
  basic-twin b s t x y =
      subst (λ i. T i t) (sym x) (subst (T (plain (Basic b))) (sym y) (record { shapes = λ i v. itself; lists = refl; maps = refl }))

  builtin-twin : (b : BuiltinType) (s t : Ty) → IsBuiltin b m s → IsBuiltin b n t → T s t
  builtin-twin IntWord s t x y = basic-twin _ s t x y
  builtin-twin StringWord s t x y = basic-twin _ s t x y
  builtin-twin BooleanWord s t x y = same-twin m n _ s t x y
  builtin-twin ByteWord s t x y = basic-twin _ s t x y
  builtin-twin AnyWord s t x y = same-twin m n _ s t x y
  builtin-twin AnyDataWord s t x y = same-twin m n _ s t x y
  builtin-twin NeverWord s t x y = basic-twin _ s t x y
  builtin-twin ReadOnlyWord s t x y = basic-twin _ s t x y

  function-twin : (isolated : Bool) (s t : Ty) → IsAnyFunction isolated m s → IsAnyFunction isolated n t → T s t
  function-twin false s t x y = basic-twin _ s t x y
  function-twin true s t x y = same-twin m n _ s t x y

  optional-twin : (s t a b : Ty) → T s t → IsOptional s m a → IsOptional t n b → T a b
  optional-twin s t a b h x y = meanings-twin m n _ _ _ _ _ _ a b (λ i v. either-same (h.shapes i v) itself) h.lists h.maps x y

  union-twin : (s t r u a b : Ty) → T s t → T r u → IsUnion s r m a → IsUnion t u n b → T a b
  union-twin s t r u a b h k x y =
      meanings-twin m n _ _ _ _ _ _ a b (λ i v. either-same (h.shapes i v) (k.shapes i v))
      (ap (λ i. with_choices i u.lists) h.lists ∙ ap (with_choices s.lists) k.lists)
      (ap (λ i. with_choices i u.maps) h.maps ∙ ap (with_choices s.maps) k.maps) x y

  intersection-twin : (immutable : Bool) (s t r u a b : Ty) → T s t → T r u → IsIntersection immutable s r m a → IsIntersection immutable t u n b → T a b
  intersection-twin immutable s t r u a b h k x y =
      meanings-twin m n _ _ _ _ _ _ a b (λ i v. both (h.shapes i v) (k.shapes i v))
      (ap (choices_with immutable) h.lists) (ap (choices_with immutable) h.maps) x y

  rewritten-twin : (s t a b : Ty) → T s t → IsRewritten s m a → IsRewritten t n b → T a b
  rewritten-twin s t a b h x y = meanings-twin m n _ _ _ _ _ _ a b (λ i v. h.shapes i v) h.lists h.maps x y

-- ---- what lasts of more than one type

abbrev pub LastingTypes : Atoms → Atoms → List Ty → List Ty → Type 0
LastingTypes k l = AllZip (Lasting k l)

abbrev pub LastingIf : Atoms → Atoms → Option Ty → Option Ty → Type 0
LastingIf k l = SameOption (Lasting k l)

abbrev LastingField : Atoms → Atoms → FieldDef → FieldDef → Type 0
LastingField k l f g = (more others : Atoms) → TwinFields (k ++ more) (l ++ others) f g

abbrev LastingFields : Atoms → Atoms → List FieldDef → List FieldDef → Type 0
LastingFields k l = AllZip (LastingField k l)

abbrev LastingParams : Atoms → Atoms → List Ty × Option Ty → List Ty × Option Ty → Type 0
LastingParams k l p q = LastingTypes k l p.0 q.0 × LastingIf k l p.1 q.1

module _ (k l more others : Atoms) where
  types-now : (ts us : List Ty) → LastingTypes k l ts us → AllZip (TwinTypes (k ++ more) (l ++ others)) ts us
  types-now ts us h = zip-map (Lasting k l) (TwinTypes (k ++ more) (l ++ others)) (λ s t x. x more others) ts us h

  if-now : (o p : Option Ty) → LastingIf k l o p → SameOption (TwinTypes (k ++ more) (l ++ others)) o p
  if-now o p h = option-map (Lasting k l) (TwinTypes (k ++ more) (l ++ others)) (λ s t x. x more others) o p h

  fields-now : (fs gs : List FieldDef) → LastingFields k l fs gs → AllZip (TwinFields (k ++ more) (l ++ others)) fs gs
  fields-now fs gs h = zip-map (LastingField k l) (TwinFields (k ++ more) (l ++ others)) (λ s t x. x more others) fs gs h

names-same : (k l : Atoms) (fs gs : List FieldDef) → LastingFields k l fs gs → names_of gs ≡ names_of fs
names-same k l [] [] h = refl
names-same k l (f ∷ fs) (g ∷ gs) h = let one = h.0 [] [] in ap (λ n. n ∷ names_of gs) one.name ∙ ap (λ ns. f.name ∷ ns) (names-same k l fs gs h.1)
names-same k l [] (g ∷ gs) h = absurd h
names-same k l (f ∷ fs) [] h = absurd h

copies-last : (k l : Atoms) (s t : Ty) → Lasting k l s t → (bs cs : List Ty) → length bs ≡ length cs → All (IsCopy s) bs → All (IsCopy t) cs → LastingTypes k l bs cs
copies-last k l s t h [] [] e x y = tt
copies-last k l s t h (b ∷ bs) (c ∷ cs) e x y = (
  λ more others. copies-twin (k ++ more) (l ++ others) s t b c (h more others) (All-head (IsCopy s) b bs x) (All-head (IsCopy t) c cs y),
  copies-last k l s t h bs cs (omega (arith, e)) (All-tail (IsCopy s) b bs x) (All-tail (IsCopy t) c cs y),
)
copies-last k l s t h [] (c ∷ cs) e x y = absurd (omega (arith, e))
copies-last k l s t h (b ∷ bs) [] e x y = absurd (omega (arith, e))

module _ (names : Names) where
  module _ (k l k2 l2 : Atoms) (f : From names k l k2 l2) where
    types-move : (ts us : List Ty) → LastingTypes k l ts us → LastingTypes k2 l2 ts us
    types-move ts us h = zip-map (Lasting k l) (Lasting k2 l2) (λ s t x. moved-type names k l k2 l2 f s t x) ts us h

    if-move : (o p : Option Ty) → LastingIf k l o p → LastingIf k2 l2 o p
    if-move o p h = option-map (Lasting k l) (Lasting k2 l2) (λ s t x. moved-type names k l k2 l2 f s t x) o p h

    fields-move : (fs gs : List FieldDef) → LastingFields k l fs gs → LastingFields k2 l2 fs gs
    fields-move fs gs h = zip-map (LastingField k l) (LastingField k2 l2) (λ s t x. moved names (λ i j. TwinFields i j s t) k l k2 l2 f x) fs gs h

  -- ---- atoms

  grows-gives : {A : Type 0} (a : A) → Grows names (gives {S = Atoms} a)
  grows-gives a = grows-some names (λ s b. b ≡ a)

  grows-now : {A : Type 0} (P : Atoms → A → Type 0) → Grows names (by_now A P)
  grows-now P = grows-some names _

  grows-list : (fixed : List Ty) (rest : Option Ty) (at : Place) → Grows names (list_by new_atom fixed rest at)
  grows-list fixed rest at = grows-then names _ _ (grows-atom names (ListAtom fixed rest) at) (λ a. grows-gives (list_of a))

  grows-mapping : (fields : List FieldDef) (rest : Option Ty) (at : Place) → Grows names (mapping_by new_atom fields rest at)
  grows-mapping fields rest at = grows-then names _ _ (grows-atom names (MappingAtom fields rest) at) (λ a. grows-gives (mapping_of a))

  grows-plain : (def : AtomDef) (at : Place) → Grows names (plain_by new_atom def at)
  grows-plain def at = grows-then names _ _ (grows-atom names def at) (λ a. grows-gives (plain (Atom a)))

  grows-arrow : (isolated : Bool) (fixed : List Ty) (rest : Option Ty) (result : SemType) (at : Place) → Grows names (arrow_by new_atom isolated fixed rest result at)
  grows-arrow isolated fixed rest result at =
      grows-then names _ _ (grows-atom names (ListAtom fixed rest) at) (λ a. grows-plain (Arrow (Atom a) result isolated) at)

  grows-either : {A : Type 0} (b : Bool) (c d : Check Atoms A) → Grows names c → Grows names d → Grows names (either b c d)
  grows-either true c d f g = f
  grows-either false c d f g = g

  grows-field : (taken : List Text) (name : Word) (may_lack : Bool) (t : Ty) → Grows names (new_field taken name may_lack t)
  grows-field taken name may_lack t =
      grows-either (list_any (is_same_text name.name) taken) _ _ (grows-refuses names _) (grows-gives (field_of name may_lack t))

  grows-named : (r : Result Ty FaultCode) (at : Place) → Grows names (gives_named r at)
  grows-named (Ok t) at = grows-some names _
  grows-named (Err code) at = grows-refuses names _

  module _ (k l : Atoms) (fine : Fine names k l) where
    -- a type of an atom that has one number in both
    atom-lasting : (k2 l2 : Atoms) (make : ℕ → Ty) → ((a b : ℕ) (i j : Atoms) → b ≡ a → TwinTypes i j (plain (Atom a)) (plain (Atom b)) → TwinTypes i j (make a) (make b))
        → (a b : ℕ) → SameAtom names k2 l2 a b → (s t : Ty) → s ≡ make a → t ≡ make b → Lasting k2 l2 s t
    atom-lasting k2 l2 make f a b h s t x y more others =
        let one : TwinTypes (k2 ++ more) (l2 ++ others) (plain (Atom a)) (plain (Atom b)) = record { shapes = h.1 more others; lists = refl; maps = refl } in
        subst (λ i. TwinTypes (k2 ++ more) (l2 ++ others) i t) (sym x) (subst (TwinTypes (k2 ++ more) (l2 ++ others) (make a)) (sym y) (f a b _ _ h.0 one))

    made-list : (a b : ℕ) (i j : Atoms) → b ≡ a → TwinTypes i j (plain (Atom a)) (plain (Atom b)) → TwinTypes i j (list_of a) (list_of b)
    made-list a b i j e h = record { shapes = h.shapes; lists = ap (λ x. choice_of x ∷ []) e; maps = refl }

    made-mapping : (a b : ℕ) (i j : Atoms) → b ≡ a → TwinTypes i j (plain (Atom a)) (plain (Atom b)) → TwinTypes i j (mapping_of a) (mapping_of b)
    made-mapping a b i j e h = record { shapes = h.shapes; lists = refl; maps = ap (λ x. choice_of x ∷ []) e }

    made-plain : (a b : ℕ) (i j : Atoms) → b ≡ a → TwinTypes i j (plain (Atom a)) (plain (Atom b)) → TwinTypes i j (plain (Atom a)) (plain (Atom b))
    made-plain a b i j e h = h

    -- an atom more, and a type of it
    go-made : (make : ℕ → Ty) → ((a b : ℕ) (i j : Atoms) → b ≡ a → TwinTypes i j (plain (Atom a)) (plain (Atom b)) → TwinTypes i j (make a) (make b)) → (d e : AtomDef) (at : Place)
        → LastingDefs k l d e → Go names Lasting k l (new_atom d at ▷ λ a. gives (make a)) (new_atom e at ▷ λ b. gives (make b))
    go-made make f d e at h =
        go-then names (SameAtom names) Lasting k l _ _ _ _ (go-atom names k l fine d e at h) (λ a. grows-gives (make a)) (λ b. grows-gives (make b))
        (λ a b k1 l1 from same. go-some names Lasting k1 l1 from.fine _ _ (λ s t x y. atom-lasting k1 l1 make f a b same s t x y))

    go-list : (fs gs : List Ty) (r s : Option Ty) (at : Place) → LastingTypes k l fs gs → LastingIf k l r s → Go names Lasting k l (list_by new_atom fs r at) (list_by new_atom gs s at)
    go-list fs gs r s at x y = go-made list_of made-list (ListAtom fs r) (ListAtom gs s) at (λ more others. (types-now k l more others fs gs x, if-now k l more others r s y))

    go-mapping : (fs gs : List FieldDef) (r s : Option Ty) (at : Place) → LastingFields k l fs gs → LastingIf k l r s
        → Go names Lasting k l (mapping_by new_atom fs r at) (mapping_by new_atom gs s at)
    go-mapping fs gs r s at x y =
        go-made mapping_of made-mapping (MappingAtom fs r) (MappingAtom gs s) at (λ more others. (fields-now k l more others fs gs x, if-now k l more others r s y))

    go-error : (t u : Ty) (at : Place) → Lasting k l t u → Go names Lasting k l (plain_by new_atom (ErrorAtom t.sem) at) (plain_by new_atom (ErrorAtom u.sem) at)
    go-error t u at h = go-made (λ a. plain (Atom a)) made-plain (ErrorAtom t.sem) (ErrorAtom u.sem) at (λ more others. let x = h more others in x.shapes)

    go-future : (t u : Ty) (at : Place) → Lasting k l t u → Go names Lasting k l (plain_by new_atom (FutureAtom t.sem) at) (plain_by new_atom (FutureAtom u.sem) at)
    go-future t u at h = go-made (λ a. plain (Atom a)) made-plain (FutureAtom t.sem) (FutureAtom u.sem) at (λ more others. let x = h more others in x.shapes)

    go-named : (scope : Scope) (q : QualifiedName) (r : Result Ty FaultCode) (at : Place) → type_named names scope q ≡ r → Go names Lasting k l (gives_named r at) (gives_named r at)
    go-named scope q (Ok t) at is =
        go-some names Lasting k l fine _ _ (λ a b x y. λ more others. copies-twin (k ++ more) (l ++ others) t t a b (fine.named scope q t is more others) x y)
    go-named scope q (Err code) at is = go-refused names Lasting k l fine code (Some at)

    -- the name is taken
    abbrev refused : Word → Check Atoms FieldDef
    refused name = refuses (λ s f. IsFault Duplicate (Some name.at) Nothing f)

    go-field-by : (b c : Bool) (name : Word) (may_lack : Bool) (t u : Ty) → c ≡ b → Lasting k l t u
        → Go names LastingField k l (either b (refused name) (gives (field_of name may_lack t))) (either c (refused name) (gives (field_of name may_lack u)))
    go-field-by true true name may_lack t u e h = go-refused names LastingField k l fine Duplicate (Some name.at)
    go-field-by false false name may_lack t u e h =
        go-some names LastingField k l fine _ _
        (λ f g x y. λ more others. subst (λ i. TwinFields (k ++ more) (l ++ others) i g) (sym x)
        (subst (TwinFields (k ++ more) (l ++ others) (field_of name may_lack t)) (sym y) (record { name = refl; ty = h more others; optional = refl })))
    go-field-by true false name may_lack t u e h = absurd (cc)
    go-field-by false true name may_lack t u e h = absurd (cc)

    go-field : (taken others : List Text) (name : Word) (may_lack : Bool) (t u : Ty) → others ≡ taken → Lasting k l t u
        → Go names LastingField k l (new_field taken name may_lack t) (new_field others name may_lack u)
    go-field taken others name may_lack t u e h =
        go-field-by (list_any (is_same_text name.name) taken) (list_any (is_same_text name.name) others) name may_lack t u (ap (list_any (is_same_text name.name)) e) h

  go-arrow : (k l : Atoms) → Fine names k l → (isolated : Bool) (fs gs : List Ty) (r s : Option Ty) (t u : Ty) (at : Place) → LastingTypes k l fs gs → LastingIf k l r s → Lasting k l t u
      → Go names Lasting k l (arrow_by new_atom isolated fs r t.sem at) (arrow_by new_atom isolated gs s u.sem at)
  go-arrow k l fine isolated fs gs r s t u at x y h =
      go-then names (SameAtom names) Lasting k l _ _ _ _
      (go-atom names k l fine (ListAtom fs r) (ListAtom gs s) at (λ more others. (types-now k l more others fs gs x, if-now k l more others r s y)))
      (λ a. grows-plain (Arrow (Atom a) t.sem isolated) at) (λ b. grows-plain (Arrow (Atom b) u.sem isolated) at)
      (λ a b k1 l1 from same. go-made k1 l1 from.fine (λ i. plain (Atom i)) (made-plain k1 l1 from.fine) (Arrow (Atom a) t.sem isolated) (Arrow (Atom b) u.sem isolated) at
      (λ more others. (same.1 more others, (let z = moved-type names k l k1 l1 from t u h more others in z.shapes), refl)))

  -- ---- descriptors

  module _ (scope : Scope) where
    mutual
      grows-described : (d : Descriptor) → Grows names (described names scope d)
      grows-described (builtin b) = grows-now (IsBuiltin b)
      grows-described (value v) = grows-gives _
      grows-described (named name) = grows-named (type_named names scope name) name.at
      grows-described (optional of) = grows-then names _ _ (grows-described of) (λ t. grows-now (IsOptional t))
      grows-described (union left right) =
          grows-then names _ _ (grows-described left) (λ s. grows-then names _ _ (grows-described right) (λ t. grows-now (IsUnion s t)))
      grows-described (intersection left right) =
          grows-then names _ _ (grows-described left) (λ s. grows-then names _ _ (grows-described right) (λ t. grows-now (IsIntersection (is_readonly right) s t)))
      grows-described (array member at) = grows-then names _ _ (grows-described member) (λ t. grows-list [] (Some t) at)
      grows-described (repeated member n at) =
          grows-then names _ _ (grows-described member) (λ t. grows-then names _ _ (grows-now (AreCopies (count_of n) t)) (λ copies. grows-list copies None at))
      grows-described (tuple members rest at) = grows-then names _ _ (grows-all [] members) (λ fixed. grows-then names _ _ (grows-if rest) (λ r. grows-list fixed r at))
      grows-described (map_of member at) = grows-then names _ _ (grows-described member) (λ t. grows-mapping [] (Some t) at)
      grows-described (closed_record fields rest at) =
          grows-then names _ _ (grows-fields [] fields) (λ fs. grows-then names _ _ (grows-if rest) (λ r. grows-mapping fs r at))
      grows-described (open_record fields at) =
          grows-then names _ _ (grows-fields [] fields) (λ fs. grows-then names _ _ (grows-now (IsBuiltin AnyDataWord)) (λ r. grows-mapping fs (Some r) at))
      grows-described any_error = grows-gives _
      grows-described (error_with detail at) = grows-then names _ _ (grows-described detail) (λ t. grows-plain (ErrorAtom t.sem) at)
      grows-described (any_function isolated) = grows-now (IsAnyFunction isolated)
      grows-described (function_from isolated params rest result at) =
          grows-then names _ _ (grows-then names _ _ (grows-all [] params) (λ fixed. grows-then names _ _ (grows-if rest) (λ r. grows-gives (params_of fixed r))))
          (λ ps. grows-then names _ _ (grows-result result) (λ out. grows-arrow isolated ps.0 ps.1 out.sem at))
      grows-described (future_of result at) = grows-then names _ _ (grows-described result) (λ t. grows-plain (FutureAtom t.sem) at)

      grows-all : (done : List Ty) (ds : Descriptors) → Grows names (all_by new_atom by_now names scope done ds)
      grows-all done no_more = grows-gives done
      grows-all done (then_more d ds) = grows-then names _ _ (grows-described d) (λ t. grows-all (done ++ t ∷ []) ds)

      grows-fields : (done : List FieldDef) (fs : FieldDescriptors) → Grows names (fields_by new_atom by_now names scope done fs)
      grows-fields done no_field = grows-gives done
      grows-fields done (then_field name may_lack d fs) =
          grows-then names _ _ (grows-then names _ _ (grows-described d) (λ t. grows-field (names_of done) name may_lack t)) (λ f. grows-fields (done ++ f ∷ []) fs)

      grows-if : (o : MaybeDescriptor) → Grows names (if_by new_atom by_now names scope o)
      grows-if absent = grows-gives None
      grows-if (present d) = grows-then names _ _ (grows-described d) (λ t. grows-gives (Some t))

      grows-result : (o : MaybeDescriptor) → Grows names (result_by new_atom by_now names scope o)
      grows-result absent = grows-gives _
      grows-result (present d) = grows-described d

    mutual
      go-described : (d : Descriptor) (k l : Atoms) → Fine names k l → Go names Lasting k l (described names scope d) (described names scope d)
      go-described (builtin b) k l fine = go-now names Lasting k l fine (IsBuiltin b) (IsBuiltin b) (λ s t x y. λ more others. builtin-twin (k ++ more) (l ++ others) b s t (x more) (y others))
      go-described (value v) k l fine = go-some names Lasting k l fine _ _ (λ s t x y. λ more others. basic-twin (k ++ more) (l ++ others) (value_set v) s t x y)
      go-described (named name) k l fine = go-named k l fine scope name (type_named names scope name) name.at refl
      go-described (optional of) k l fine =
          go-then names Lasting Lasting k l _ _ _ _ (go-described of k l fine) (λ t. grows-now (IsOptional t)) (λ t. grows-now (IsOptional t))
          (λ s t k1 l1 from h. go-now names Lasting k1 l1 from.fine (IsOptional s) (IsOptional t) (λ a b x y. λ more others. optional-twin (k1 ++ more) (l1 ++ others) s t a b (h more others) (x more) (y others)))
      go-described (union left right) k l fine =
          go-then names Lasting Lasting k l _ _ _ _ (go-described left k l fine) (λ s. grows-then names _ _ (grows-described right) (λ t. grows-now (IsUnion s t)))
          (λ s. grows-then names _ _ (grows-described right) (λ t. grows-now (IsUnion s t)))
          (λ s t k1 l1 from h. go-then names Lasting Lasting k1 l1 _ _ _ _ (go-described right k1 l1 from.fine) (λ r. grows-now (IsUnion s r)) (λ u. grows-now (IsUnion t u))
          (λ r u k2 l2 from2 i. go-now names Lasting k2 l2 from2.fine (IsUnion s r) (IsUnion t u)
          (λ a b x y. λ more others. union-twin (k2 ++ more) (l2 ++ others) s t r u a b (moved-type names k1 l1 k2 l2 from2 s t h more others) (i more others) (x more) (y others))))
      go-described (intersection left right) k l fine =
          go-then names Lasting Lasting k l _ _ _ _ (go-described left k l fine) (λ s. grows-then names _ _ (grows-described right) (λ t. grows-now (IsIntersection (is_readonly right) s t)))
          (λ s. grows-then names _ _ (grows-described right) (λ t. grows-now (IsIntersection (is_readonly right) s t)))
          (λ s t k1 l1 from h. go-then names Lasting Lasting k1 l1 _ _ _ _ (go-described right k1 l1 from.fine) (λ r. grows-now (IsIntersection (is_readonly right) s r)) (λ u. grows-now (IsIntersection (is_readonly right) t u))
          (λ r u k2 l2 from2 i. go-now names Lasting k2 l2 from2.fine (IsIntersection (is_readonly right) s r) (IsIntersection (is_readonly right) t u)
          (λ a b x y. λ more others. intersection-twin (k2 ++ more) (l2 ++ others) (is_readonly right) s t r u a b (moved-type names k1 l1 k2 l2 from2 s t h more others) (i more others) (x more) (y others))))
      go-described (array member at) k l fine =
          go-then names Lasting Lasting k l _ _ _ _ (go-described member k l fine) (λ t. grows-list [] (Some t) at) (λ t. grows-list [] (Some t) at)
          (λ s t k1 l1 from h. go-list k1 l1 from.fine [] [] (Some s) (Some t) at tt h)
      go-described (repeated member n at) k l fine =
          go-then names Lasting Lasting k l _ _ _ _ (go-described member k l fine)
          (λ t. grows-then names _ _ (grows-now (AreCopies (count_of n) t)) (λ copies. grows-list copies None at))
          (λ t. grows-then names _ _ (grows-now (AreCopies (count_of n) t)) (λ copies. grows-list copies None at))
          (λ s t k1 l1 from h. go-then names LastingTypes Lasting k1 l1 _ _ _ _
          (go-now names LastingTypes k1 l1 from.fine (AreCopies (count_of n) s) (AreCopies (count_of n) t)
          (λ bs cs x y. let p = x [] in let q = y [] in copies-last k1 l1 s t h bs cs (p.0 ∙ sym q.0) p.1 q.1))
          (λ copies. grows-list copies None at) (λ copies. grows-list copies None at)
          (λ bs cs k2 l2 from2 i. go-list k2 l2 from2.fine bs cs None None at i tt))
      go-described (tuple members rest at) k l fine =
          go-then names LastingTypes Lasting k l _ _ _ _ (go-all [] [] members k l fine tt)
          (λ fixed. grows-then names _ _ (grows-if rest) (λ r. grows-list fixed r at)) (λ fixed. grows-then names _ _ (grows-if rest) (λ r. grows-list fixed r at))
          (λ fs gs k1 l1 from h. go-then names LastingIf Lasting k1 l1 _ _ _ _ (go-if rest k1 l1 from.fine) (λ r. grows-list fs r at) (λ r. grows-list gs r at)
          (λ r s k2 l2 from2 i. go-list k2 l2 from2.fine fs gs r s at (types-move k1 l1 k2 l2 from2 fs gs h) i))
      go-described (map_of member at) k l fine =
          go-then names Lasting Lasting k l _ _ _ _ (go-described member k l fine) (λ t. grows-mapping [] (Some t) at) (λ t. grows-mapping [] (Some t) at)
          (λ s t k1 l1 from h. go-mapping k1 l1 from.fine [] [] (Some s) (Some t) at tt h)
      go-described (closed_record fields rest at) k l fine =
          go-then names LastingFields Lasting k l _ _ _ _ (go-fields [] [] fields k l fine tt)
          (λ fs. grows-then names _ _ (grows-if rest) (λ r. grows-mapping fs r at)) (λ fs. grows-then names _ _ (grows-if rest) (λ r. grows-mapping fs r at))
          (λ fs gs k1 l1 from h. go-then names LastingIf Lasting k1 l1 _ _ _ _ (go-if rest k1 l1 from.fine) (λ r. grows-mapping fs r at) (λ r. grows-mapping gs r at)
          (λ r s k2 l2 from2 i. go-mapping k2 l2 from2.fine fs gs r s at (fields-move k1 l1 k2 l2 from2 fs gs h) i))
      go-described (open_record fields at) k l fine =
          go-then names LastingFields Lasting k l _ _ _ _ (go-fields [] [] fields k l fine tt)
          (λ fs. grows-then names _ _ (grows-now (IsBuiltin AnyDataWord)) (λ r. grows-mapping fs (Some r) at))
          (λ fs. grows-then names _ _ (grows-now (IsBuiltin AnyDataWord)) (λ r. grows-mapping fs (Some r) at))
          (λ fs gs k1 l1 from h. go-then names Lasting Lasting k1 l1 _ _ _ _
          (go-now names Lasting k1 l1 from.fine (IsBuiltin AnyDataWord) (IsBuiltin AnyDataWord) (λ s t x y. λ more others. builtin-twin (k1 ++ more) (l1 ++ others) AnyDataWord s t (x more) (y others)))
          (λ r. grows-mapping fs (Some r) at) (λ r. grows-mapping gs (Some r) at)
          (λ r s k2 l2 from2 i. go-mapping k2 l2 from2.fine fs gs (Some r) (Some s) at (fields-move k1 l1 k2 l2 from2 fs gs h) i))
      go-described any_error k l fine = go-some names Lasting k l fine _ _ (λ s t x y. λ more others. basic-twin (k ++ more) (l ++ others) ErrorAll s t x y)
      go-described (error_with detail at) k l fine =
          go-then names Lasting Lasting k l _ _ _ _ (go-described detail k l fine) (λ t. grows-plain (ErrorAtom t.sem) at) (λ t. grows-plain (ErrorAtom t.sem) at)
          (λ s t k1 l1 from h. go-error k1 l1 from.fine s t at h)
      go-described (any_function isolated) k l fine =
          go-now names Lasting k l fine (IsAnyFunction isolated) (IsAnyFunction isolated) (λ s t x y. λ more others. function-twin (k ++ more) (l ++ others) isolated s t (x more) (y others))
      go-described (function_from isolated params rest result at) k l fine =
          go-then names LastingParams Lasting k l _ _ _ _
          (go-then names LastingTypes LastingParams k l _ _ _ _ (go-all [] [] params k l fine tt)
          (λ fixed. grows-then names _ _ (grows-if rest) (λ r. grows-gives (params_of fixed r))) (λ fixed. grows-then names _ _ (grows-if rest) (λ r. grows-gives (params_of fixed r)))
          (λ fs gs k1 l1 from h. go-then names LastingIf LastingParams k1 l1 _ _ _ _ (go-if rest k1 l1 from.fine) (λ r. grows-gives (params_of fs r)) (λ r. grows-gives (params_of gs r))
          (λ r s k2 l2 from2 i. go-some names LastingParams k2 l2 from2.fine _ _
          (λ p q x y. subst (λ z. LastingParams k2 l2 z q) (sym x) (subst (LastingParams k2 l2 (params_of fs r)) (sym y) (types-move k1 l1 k2 l2 from2 fs gs h, i))))))
          (λ ps. grows-then names _ _ (grows-result result) (λ out. grows-arrow isolated ps.0 ps.1 out.sem at))
          (λ ps. grows-then names _ _ (grows-result result) (λ out. grows-arrow isolated ps.0 ps.1 out.sem at))
          (λ p q k1 l1 from h. go-then names Lasting Lasting k1 l1 _ _ _ _ (go-result result k1 l1 from.fine) (λ out. grows-arrow isolated p.0 p.1 out.sem at) (λ out. grows-arrow isolated q.0 q.1 out.sem at)
          (λ t u k2 l2 from2 i. go-arrow k2 l2 from2.fine isolated p.0 q.0 p.1 q.1 t u at (types-move k1 l1 k2 l2 from2 p.0 q.0 h.0) (if-move k1 l1 k2 l2 from2 p.1 q.1 h.1) i))
      go-described (future_of result at) k l fine =
          go-then names Lasting Lasting k l _ _ _ _ (go-described result k l fine) (λ t. grows-plain (FutureAtom t.sem) at) (λ t. grows-plain (FutureAtom t.sem) at)
          (λ s t k1 l1 from h. go-future k1 l1 from.fine s t at h)

      go-all : (done others : List Ty) (ds : Descriptors) (k l : Atoms) → Fine names k l → LastingTypes k l done others
          → Go names LastingTypes k l (all_by new_atom by_now names scope done ds) (all_by new_atom by_now names scope others ds)
      go-all done others no_more k l fine h =
          go-some names LastingTypes k l fine _ _ (λ ts us x y. subst (λ i. LastingTypes k l i us) (sym x) (subst (LastingTypes k l done) (sym y) h))
      go-all done others (then_more d ds) k l fine h =
          go-then names Lasting LastingTypes k l _ _ _ _ (go-described d k l fine) (λ t. grows-all (done ++ t ∷ []) ds) (λ t. grows-all (others ++ t ∷ []) ds)
          (λ t u k1 l1 from i. go-all (done ++ t ∷ []) (others ++ u ∷ []) ds k1 l1 from.fine
          (zip-one (Lasting k1 l1) done others t u (types-move k l k1 l1 from done others h) i))

      go-fields : (done others : List FieldDef) (fs : FieldDescriptors) (k l : Atoms) → Fine names k l → LastingFields k l done others
          → Go names LastingFields k l (fields_by new_atom by_now names scope done fs) (fields_by new_atom by_now names scope others fs)
      go-fields done others no_field k l fine h =
          go-some names LastingFields k l fine _ _ (λ ts us x y. subst (λ i. LastingFields k l i us) (sym x) (subst (LastingFields k l done) (sym y) h))
      go-fields done others (then_field name may_lack d fs) k l fine h =
          go-then names LastingField LastingFields k l _ _ _ _
          (go-then names Lasting LastingField k l _ _ _ _ (go-described d k l fine) (λ t. grows-field (names_of done) name may_lack t) (λ t. grows-field (names_of others) name may_lack t)
          (λ t u k1 l1 from i. go-field k1 l1 from.fine (names_of done) (names_of others) name may_lack t u (names-same k l done others h) i))
          (λ f. grows-fields (done ++ f ∷ []) fs) (λ f. grows-fields (others ++ f ∷ []) fs)
          (λ f g k1 l1 from i. go-fields (done ++ f ∷ []) (others ++ g ∷ []) fs k1 l1 from.fine
          (zip-one (LastingField k1 l1) done others f g (fields-move k l k1 l1 from done others h) i))

      go-if : (o : MaybeDescriptor) (k l : Atoms) → Fine names k l → Go names LastingIf k l (if_by new_atom by_now names scope o) (if_by new_atom by_now names scope o)
      go-if absent k l fine = go-some names LastingIf k l fine _ _ (λ s t x y. subst (λ i. LastingIf k l i t) (sym x) (subst (LastingIf k l None) (sym y) tt))
      go-if (present d) k l fine =
          go-then names Lasting LastingIf k l _ _ _ _ (go-described d k l fine) (λ t. grows-gives (Some t)) (λ t. grows-gives (Some t))
          (λ t u k1 l1 from i. go-some names LastingIf k1 l1 from.fine _ _ (λ r s x y. subst (λ z. LastingIf k1 l1 z s) (sym x) (subst (LastingIf k1 l1 (Some t)) (sym y) i)))

      go-result : (o : MaybeDescriptor) (k l : Atoms) → Fine names k l → Go names Lasting k l (result_by new_atom by_now names scope o) (result_by new_atom by_now names scope o)
      go-result absent k l fine = go-some names Lasting k l fine _ _ (λ s t x y. λ more others. basic-twin (k ++ more) (l ++ others) NilOnly s t x y)
      go-result (present d) k l fine = go-described d k l fine

    pub grows-whole : (d : Descriptor) → Grows names (described_whole names scope d)
    grows-whole d = grows-then names _ _ (grows-described d) (λ t. grows-now (IsRewritten t))

    -- a whole descriptor, written again
    pub go-whole : (d : Descriptor) (k l : Atoms) → Fine names k l → Go names Lasting k l (described_whole names scope d) (described_whole names scope d)
    go-whole d k l fine =
        go-then names Lasting Lasting k l _ _ _ _ (go-described d k l fine) (λ t. grows-now (IsRewritten t)) (λ t. grows-now (IsRewritten t))
        (λ s t k1 l1 from h. go-now names Lasting k1 l1 from.fine (IsRewritten s) (IsRewritten t)
        (λ a b x y. λ more others. rewritten-twin (k1 ++ more) (l1 ++ others) s t a b (h more others) (x more) (y others)))
