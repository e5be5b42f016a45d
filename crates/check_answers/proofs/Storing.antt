-- The types of members that are stored, in two runs.
use Rattle.std.proofs.Common.{◌≡◌, ◌++◌, List, [], ◌∷◌, All, Option, None, Some, map, option_to_list, inl, inr, sym, subst, ap, ◌∙◌}
use Rattle.std.specs.List.{AllZip}
use Rattle.std.proofs.lemmas.List.Elements.{All-cons, All-head, All-nil, All-tail}
use Rattle.checks.specs.Agreement.{AreTwins}
use Rattle.type_model.specs.declared.answers.Keys.{Keys}
use Rattle.type_model.specs.declared.answers.Keys.TheVariants.{AnyField, AnyIndex, Field, Index, Results}
use Rattle.type_model.specs.declared.atoms.AtomDef.{AtomDef}
use Rattle.type_model.specs.declared.atoms.AtomDef.TheVariants.{List as ListAtom, Mapping as MappingAtom, Arrow, Error as ErrorAtom, Future as FutureAtom}
use Rattle.type_model.specs.declared.atoms.FieldDef.{FieldDef}
use Rattle.type_model.specs.declared.basic.Choice.{Choice}
use Rattle.type_model.specs.declared.basic.SemType.{SemType}
use Rattle.type_model.specs.declared.basic.Ty.{Ty}
use Rattle.check_words.specs.Members.{AreChoicesOf, AreOfAtom, AreShared, AreStored, HasChoices, IsStored, all_named, named_member, other_members}
use Rattle.check_words.specs.Sharing.{SameOption}
use Rattle.check_words.specs.Words.{Atoms}
use Rattle.check_answers.specs.TwinTypes.{TwinAtoms, TwinDefs, TwinFields, TwinTypes}
use Rattle.check_answers.proofs.Meanings.{meanings-twin}
use Rattle.check_answers.proofs.Members.{key-twins}
use Rattle.check_answers.proofs.Zips.{zip-get}

module _ (m n : Atoms) where
  abbrev W : Ty → Ty → Type 0
  W = TwinTypes m n

  -- ---- the types that an atom names

  listed : (o p : Option Ty) → SameOption W o p → AllZip W (option_to_list o) (option_to_list p)
  listed None None h = tt
  listed (Some t) (Some u) h = (h, tt)
  listed None (Some u) h = absurd h
  listed (Some t) None h = absurd h

  named-twins : (d e : AtomDef) (keys : Keys) → TwinDefs m n d e → AllZip W (named_member d keys) (named_member e keys)
  named-twins (ListAtom fixed rest) (ListAtom gs s) (Index k) h = listed _ _ (zip-get W fixed gs k h.0)
  named-twins (ListAtom fixed rest) (ListAtom gs s) AnyIndex h = tt
  named-twins (ListAtom fixed rest) (ListAtom gs s) (Field name) h = tt
  named-twins (ListAtom fixed rest) (ListAtom gs s) AnyField h = tt
  named-twins (ListAtom fixed rest) (ListAtom gs s) Results h = tt
  named-twins (MappingAtom fields rest) (MappingAtom gs s) (Field name) h = listed _ _ (key-twins m n fields gs None None name h.0 tt)
  named-twins (MappingAtom fields rest) (MappingAtom gs s) (Index k) h = tt
  named-twins (MappingAtom fields rest) (MappingAtom gs s) AnyIndex h = tt
  named-twins (MappingAtom fields rest) (MappingAtom gs s) AnyField h = tt
  named-twins (MappingAtom fields rest) (MappingAtom gs s) Results h = tt
  named-twins (Arrow args result isolated) (Arrow gs s alone) keys h = tt
  named-twins (ErrorAtom detail) (ErrorAtom e) keys h = tt
  named-twins (FutureAtom result) (FutureAtom e) keys h = tt
  named-twins _ _ keys h = absurd h

  others-twins : (d e : AtomDef) → TwinDefs m n d e → AllZip W (other_members d) (other_members e)
  others-twins (ListAtom fixed rest) (ListAtom gs s) h = listed rest s h.1
  others-twins (MappingAtom fields rest) (MappingAtom gs s) h = listed rest s h.1
  others-twins (Arrow args result isolated) (Arrow gs s alone) h = tt
  others-twins (ErrorAtom detail) (ErrorAtom e) h = tt
  others-twins (FutureAtom result) (FutureAtom e) h = tt
  others-twins _ _ h = absurd h

  types-of : (fields gs : List FieldDef) → AllZip (TwinFields m n) fields gs → AllZip W (map (λ f. f.ty) fields) (map (λ f. f.ty) gs)
  types-of [] [] h = tt
  types-of (f ∷ fields) (g ∷ gs) h = (h.0.ty, types-of fields gs h.1)
  types-of [] (g ∷ gs) h = absurd h
  types-of (f ∷ fields) [] h = absurd h

  all-twins : (d e : AtomDef) → TwinDefs m n d e → AllZip W (all_named d) (all_named e)
  all-twins (ListAtom fixed rest) (ListAtom gs s) h = h.0
  all-twins (MappingAtom fields rest) (MappingAtom gs s) h = types-of fields gs h.0
  all-twins (Arrow args result isolated) (Arrow gs s alone) h = tt
  all-twins (ErrorAtom detail) (ErrorAtom e) h = tt
  all-twins (FutureAtom result) (FutureAtom e) h = tt
  all-twins _ _ h = absurd h

  -- ---- their choices

  abbrev SameChoices : List Choice → List Choice → List Choice → List Choice → Type 0
  SameChoices ls ms ks ns = (ks ≡ ls) × (ns ≡ ms)

  has-same : (t u : Ty) (ls ms ks ns : List Choice) → W t u → HasChoices ls ms t → HasChoices ks ns u → SameChoices ls ms ks ns
  has-same t u ls ms ks ns h x y = (sym y.0 ∙ h.lists ∙ x.0, sym y.1 ∙ h.maps ∙ x.1)

  none-same : (ls ms ks ns : List Choice) → (ls ≡ []) × (ms ≡ []) → (ks ≡ []) × (ns ≡ []) → SameChoices ls ms ks ns
  none-same ls ms ks ns x y = (y.0 ∙ sym x.0, y.1 ∙ sym x.1)

  one-has : (t u a b : Ty) → W t u → W a b → HasChoices t.lists t.maps a → HasChoices u.lists u.maps b
  one-has t u a b h k x = (k.lists ∙ x.0 ∙ sym h.lists, k.maps ∙ x.1 ∙ sym h.maps)

  one-had : (t u a b : Ty) → W t u → W a b → HasChoices u.lists u.maps b → HasChoices t.lists t.maps a
  one-had t u a b h k x = (sym k.lists ∙ x.0 ∙ h.lists, sym k.maps ∙ x.1 ∙ h.maps)

  all-have : (t u : Ty) (ts us : List Ty) → W t u → AllZip W ts us → All (HasChoices t.lists t.maps) ts → All (HasChoices u.lists u.maps) us
  all-have t u [] [] h k x = All-nil (HasChoices u.lists u.maps)
  all-have t u (a ∷ ts) (b ∷ us) h k x = All-cons (HasChoices u.lists u.maps) b us (one-has t u a b h k.0 (All-head (HasChoices t.lists t.maps) a ts x))
      (all-have t u ts us h k.1 (All-tail (HasChoices t.lists t.maps) a ts x))
  all-have t u [] (b ∷ us) h k x = absurd k
  all-have t u (a ∷ ts) [] h k x = absurd k

  all-had : (t u : Ty) (ts us : List Ty) → W t u → AllZip W ts us → All (HasChoices u.lists u.maps) us → All (HasChoices t.lists t.maps) ts
  all-had t u [] [] h k x = All-nil (HasChoices t.lists t.maps)
  all-had t u (a ∷ ts) (b ∷ us) h k x = All-cons (HasChoices t.lists t.maps) a ts (one-had t u a b h k.0 (All-head (HasChoices u.lists u.maps) b us x))
      (all-had t u ts us h k.1 (All-tail (HasChoices u.lists u.maps) b us x))
  all-had t u [] (b ∷ us) h k x = absurd k
  all-had t u (a ∷ ts) [] h k x = absurd k

  shared-same : (ts us : List Ty) (ls ms ks ns : List Choice) → AllZip W ts us → AreShared ts ls ms → AreShared us ks ns → SameChoices ls ms ks ns
  shared-same [] [] ls ms ks ns h x y = none-same ls ms ks ns x y
  shared-same (t ∷ ts) (u ∷ us) ls ms ks ns h (inl x) (inl y) = has-same t u ls ms ks ns h.0 x.1 y.1
  shared-same (t ∷ ts) (u ∷ us) ls ms ks ns h (inr x) (inr y) = none-same ls ms ks ns (x.1, x.2) (y.1, y.2)
  shared-same (t ∷ ts) (u ∷ us) ls ms ks ns h (inl x) (inr y) = absurd (y.0 (all-have t u ts us h.0 h.1 x.0))
  shared-same (t ∷ ts) (u ∷ us) ls ms ks ns h (inr x) (inl y) = absurd (x.0 (all-had t u ts us h.0 h.1 y.0))
  shared-same [] (u ∷ us) ls ms ks ns h x y = absurd h
  shared-same (t ∷ ts) [] ls ms ks ns h x y = absurd h

  stored-same : (ts us os ps all every : List Ty) (ls ms ks ns : List Choice) → AllZip W ts us → AllZip W os ps → AllZip W all every
      → AreStored ts os all ls ms → AreStored us ps every ks ns → SameChoices ls ms ks ns
  stored-same (t ∷ ts) (u ∷ us) os ps all every ls ms ks ns h i j x y = has-same t u ls ms ks ns h.0 x y
  stored-same [] [] (t ∷ os) (u ∷ ps) all every ls ms ks ns h i j x y = has-same t u ls ms ks ns i.0 x y
  stored-same [] [] [] [] all every ls ms ks ns h i j x y = shared-same all every ls ms ks ns j x y
  stored-same [] (u ∷ us) os ps all every ls ms ks ns h i j x y = absurd h
  stored-same (t ∷ ts) [] os ps all every ls ms ks ns h i j x y = absurd h
  stored-same [] [] [] (u ∷ ps) all every ls ms ks ns h i j x y = absurd i
  stored-same [] [] (t ∷ os) [] all every ls ms ks ns h i j x y = absurd i

  atom-same : (o p : Option AtomDef) (keys : Keys) (ls ms ks ns : List Choice) → SameOption (TwinDefs m n) o p → AreOfAtom o keys ls ms → AreOfAtom p keys ks ns
      → SameChoices ls ms ks ns
  atom-same None None keys ls ms ks ns h x y = none-same ls ms ks ns x y
  atom-same (Some d) (Some e) keys ls ms ks ns h x y =
      stored-same _ _ _ _ _ _ ls ms ks ns (named-twins d e keys h) (others-twins d e h) (all-twins d e h) x y
  atom-same None (Some e) keys ls ms ks ns h x y = absurd h
  atom-same (Some d) None keys ls ms ks ns h x y = absurd h

  choices-same : (cs : List Choice) (keys : Keys) (ls ms ks ns : List Choice) → TwinAtoms m n → AreChoicesOf m cs keys ls ms → AreChoicesOf n cs keys ks ns
      → SameChoices ls ms ks ns
  choices-same [] keys ls ms ks ns h x y = none-same ls ms ks ns x y
  choices-same (c ∷ []) keys ls ms ks ns h x y = atom-same _ _ keys ls ms ks ns (zip-get (TwinDefs m n) m n c.atom h) x y
  choices-same (c ∷ d ∷ cs) keys ls ms ks ns h x y = none-same ls ms ks ns x y

  pub stored-twin : (s t : Ty) (keys : Keys) (a b : SemType) (r u : Ty) → TwinAtoms m n → W s t → AreTwins m a n b → IsStored s keys a m r → IsStored t keys b n u → W r u
  stored-twin s t keys a b r u twins h k (ls, ms, p, x) (ks, ns, q, y) =
      let is : t.lists ++ t.maps ≡ s.lists ++ s.maps = ap (λ l. l ++ t.maps) h.lists ∙ ap (λ l. s.lists ++ l) h.maps in
      let same = choices-same (s.lists ++ s.maps) keys ls ms ks ns twins p (subst (λ cs. AreChoicesOf n cs keys ks ns) is q) in
      meanings-twin m n _ _ ls ms ks ns r u (λ x v. k x v) same.0 same.1 x y
