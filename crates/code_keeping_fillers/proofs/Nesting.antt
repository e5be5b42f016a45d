-- New structures that fill gaps: which stand in one another, and that all of them are made.
use Rattle.std.proofs.Common.{◌≡◌, ◌<◌, ◌+◌, ◌++◌, ◌∙◌, ℕ, zero, suc, List, [], ◌∷◌, Option, Some, None, inl, inr, flat_map, length, map, refl, sym, ap, subst}
use Rattle.std.proofs.lemmas.Grind.{flat_map-append}
use Rattle.std.proofs.lemmas.List.Elements.{All-append, All-head, All-nil}
use Rattle.std.specs.List.{AllZip}
use Rattle.std.specs.Prelude.{All, IsSomeAnd, IsTrue, option_to_list, slice_get, take, ⊤}
use Rattle.type_model.specs.declared.atoms.AtomDef.{AtomDef}
use Rattle.type_model.specs.declared.atoms.AtomDef.TheVariants.{List as ListAtom, Mapping as MappingAtom, Arrow, Error as ErrorAtom, Future as FutureAtom}
use Rattle.type_model.specs.declared.atoms.FieldDef.{FieldDef}
use Rattle.type_model.specs.declared.basic.Choice.{Choice}
use Rattle.type_model.specs.declared.basic.Ty.{Ty}
use Rattle.value_model.specs.declared.filler.Filler.{Filler}
use Rattle.value_model.specs.declared.filler.Filler.TheVariants.{Nothing, Nil as NilFiller, Bool as BoolFiller, Int as IntFiller, Str as StrFiller, List as NewList, Mapping as NewMapping}
use Rattle.value_model.specs.Exact.{AreFillers, FillsExactly, Fills, HasNoRequired, HasPlaces, IsFillerWithin, IsNewFiller, IsOfAtom}
use Rattle.op_model.specs.ProgramFacts.{KnowsFillers}
use Rattle.op_model.specs.Fillers.{inner_fillers, new_ones}
use Rattle.op_model.specs.Inherent.{IsOneChoice}
use Rattle.op_model.specs.Levels.{all_of, levels}
use Rattle.op_model.specs.Stores.{fixed_fillers, fixed_places}
use Rattle.stack_code.specs.declared.code.Code.{Code}
use Rattle.stack_code.specs.CodeMachine.{code_facts}
use Rattle.stack_code.specs.Tables.{HasFillers, HasTestedMembers, IsInherent}
use Rattle.stack_code.specs.Values.{code_types}
use Rattle.stack_code.specs.WellTyped.{WellTyped}
use Rattle.code_keeping.proofs.Changing.{within}
use Rattle.code_keeping.proofs.Growing.{all-from}
use Rattle.code_keeping.proofs.Lists.{all-at, of-some, some-there}
use Rattle.code_keeping.proofs.Serving.{all-to}
use Rattle.code_keeping_heap.proofs.Shaping.{zip-at}
use Rattle.code_keeping_fillers.proofs.Fillers.{HasOne, HasUnmarked, IsNew, clash, flat-all, front-all, mapped-all, mapped-at, new-all, node, of-contained, places-have, unmarked-list, unmarked-mapping, zip-first, zip-front}
use Rattle.code_keeping_fillers.proofs.Walks.{IsAmong, IsDeep, all-deep, no-return}

-- ---- one choice alone

choice-of-lists : (t : Ty) (a : ℕ) → (c : Choice) × (t.lists ≡ c ∷ []) × (c.atom ≡ a) → t.maps ≡ [] → IsOneChoice t a
choice-of-lists t a (c, own, is) none = (c, (λ i. own i ++ none i), is)

choice-of-maps : (t : Ty) (a : ℕ) → (c : Choice) × (t.maps ≡ c ∷ []) × (c.atom ≡ a) → t.lists ≡ [] → IsOneChoice t a
choice-of-maps t a (c, own, is) none = (c, (λ i. none i ++ own i), is)

same-choice : (cs : List Choice) (a b : ℕ) → (c : Choice) × (cs ≡ c ∷ []) × (c.atom ≡ a) → (c : Choice) × (cs ≡ c ∷ []) × (c.atom ≡ b) → b ≡ a
same-choice cs a b (c, own, is) (d, other, at) = let e : d ∷ [] ≡ c ∷ [] = sym other ∙ own in let q : d ≡ c = cc in sym at ∙ (ap (λ x. x.atom) q ∙ is)

no-choice : (cs : List Choice) (a : ℕ) → (c : Choice) × (cs ≡ c ∷ []) × (c.atom ≡ a) → cs ≡ [] → ⊥
no-choice cs a (c, own, is) none = let e : c ∷ [] ≡ [] = sym own ∙ none in (let q : ⊥ = cc in q)

module _ (fillers : ℕ → List Filler) (code : Code) (t : WellTyped code) (knows : KnowsFillers (code_facts fillers code) code.inherent) where
  -- the fillers of the fixed places of an atom of lists
  abbrev pub fixed : ℕ → List Filler
  fixed = fixed_fillers (code_types code) fillers

  abbrev fixed_in : ℕ → Option AtomDef → List Filler
  fixed_in a (Some d) = take (fixed_places d) (fillers a)
  fixed_in a None = []

  pub fixed-is : (a : ℕ) (d : AtomDef) → slice_get code.atoms a ≡ Some d → fixed a ≡ take (fixed_places d) (fillers a)
  fixed-is a d e = ap (fixed_in a) e

  -- what the tables know of an atom of lists
  pub places-fill : (a : ℕ) (fx : List Ty) (rest : Option Ty) → IsInherent code a → slice_get code.atoms a ≡ Some (ListAtom fx rest) → AllZip (Fills code.atoms) (fx ++ option_to_list rest) (fillers a)
  places-fill a fx rest known e = of-some (λ d. AreFillers code.atoms d (fillers a)) (slice_get code.atoms a) (ListAtom fx rest) e (of-contained (λ a. FillsExactly code.atoms a (fillers a)) code.inherent a known knows)

  abbrev pub NamesInherent : Ty → Type 0
  NamesInherent u = (b : ℕ) → IsOneChoice u b → IsInherent code b

  pub members-inherent : (a : ℕ) (fx : List Ty) (rest : Option Ty) → IsInherent code a → slice_get code.atoms a ≡ Some (ListAtom fx rest) → All NamesInherent (fx ++ option_to_list rest)
  members-inherent a fx rest known e =
      (of-some (λ d. HasFillers code d × HasTestedMembers code d) (slice_get code.atoms a) (ListAtom fx rest) e
      (of-contained (λ a. IsSomeAnd (slice_get code.atoms a) (λ d. HasFillers code d × HasTestedMembers code d)) code.inherent a known t.fields.inherent)).0 tt

  -- ---- what can be made, with so many levels of new structures

  abbrev pub IsSound : ℕ → Filler → Type 0
  IsSound n Nothing = ⊥
  IsSound n NilFiller = ⊤
  IsSound n (BoolFiller b) = ⊤
  IsSound n (IntFiller i) = ⊤
  IsSound n (StrFiller s) = ⊤
  IsSound zero (NewList a) = ⊥
  IsSound zero (NewMapping a) = ⊥
  IsSound (suc n) (NewList a) =
      IsInherent code a × HasUnmarked code.atoms a
      × ((fx : List Ty) × (rest : Option Ty) × (slice_get code.atoms a ≡ Some (ListAtom fx rest)) × AllZip (λ u g. Fills code.atoms u g × HasOne code.atoms u × IsSound n g) fx (fixed a))
  IsSound (suc n) (NewMapping a) =
      IsInherent code a × HasUnmarked code.atoms a × ((fields : List FieldDef) × (rest : Option Ty) × (slice_get code.atoms a ≡ Some (MappingAtom fields rest)) × All (λ f. IsTrue f.optional) fields)

  -- the definition of the atom of a new list and of a new mapping
  list-definition : (P : Ty → Type 0) (o : Option AtomDef) → IsSomeAnd o (HasPlaces code.atoms P) → (fx : List Ty) × (rest : Option Ty) × (o ≡ Some (ListAtom fx rest)) × All P fx
  list-definition P (Some (ListAtom fx rest)) h = (fx, rest, refl, h)
  list-definition P (Some (MappingAtom fields rest)) h = absurd h
  list-definition P (Some (Arrow args outcome alone)) h = absurd h
  list-definition P (Some (ErrorAtom detail)) h = absurd h
  list-definition P (Some (FutureAtom outcome)) h = absurd h
  list-definition P None h = absurd h

  mapping-definition : (o : Option AtomDef) → IsSomeAnd o (HasNoRequired code.atoms) → (fields : List FieldDef) × (rest : Option Ty) × (o ≡ Some (MappingAtom fields rest)) × All (λ f. IsTrue f.optional) fields
  mapping-definition (Some (MappingAtom fields rest)) h = (fields, rest, refl, h)
  mapping-definition (Some (ListAtom fx rest)) h = absurd h
  mapping-definition (Some (Arrow args outcome alone)) h = absurd h
  mapping-definition (Some (ErrorAtom detail)) h = absurd h
  mapping-definition (Some (FutureAtom outcome)) h = absurd h
  mapping-definition None h = absurd h

  abbrev IsListFiller : (Ty → Type 0) → Ty → ℕ → Type 0
  IsListFiller P u a = IsOfAtom code.atoms u u.lists u.maps a × IsSomeAnd (slice_get code.atoms a) (HasPlaces code.atoms P)

  abbrev IsMappingFiller : Ty → ℕ → Type 0
  IsMappingFiller u a = IsOfAtom code.atoms u u.maps u.lists a × IsSomeAnd (slice_get code.atoms a) (HasNoRequired code.atoms)

  abbrev Below : ℕ → Ty → Type 0
  Below n u = (g : Filler) × IsFillerWithin code.atoms n u g

  as-list : (k : ℕ) (u : Ty) (a : ℕ) → IsFillerWithin code.atoms k u (NewList a) → (n : ℕ) × IsListFiller (Below n) u a
  as-list zero u a h = absurd h
  as-list (suc n) u a (inl h) = absurd h
  as-list (suc n) u a (inr h) = (n, h)

  as-mapping : (k : ℕ) (u : Ty) (a : ℕ) → IsFillerWithin code.atoms k u (NewMapping a) → IsMappingFiller u a
  as-mapping zero u a h = absurd h
  as-mapping (suc n) u a (inl h) = absurd h
  as-mapping (suc n) u a (inr h) = h

  -- the type of a new structure has no simple filler
  not-simple : (u : Ty) (a : ℕ) (own other : List Choice) (g : Filler) (P : AtomDef → Type 0) → IsOfAtom code.atoms u own other a → IsSomeAnd (slice_get code.atoms a) P → IsFillerWithin code.atoms 0 u g → ⊥
  not-simple u a own other g P of defined simple =
      let (d, e, p) = some-there P (slice_get code.atoms a) defined in
      clash code.atoms u.sem g of.0.0 a d simple of.0.1 of.3 e

  module _ (n : ℕ) (more : (u : Ty) (g h : Filler) → NamesInherent u → HasOne code.atoms u → Fills code.atoms u g → IsFillerWithin code.atoms n u h → IsSound n g) where
    sound-list : (u : Ty) (a : ℕ) (P : Ty → Type 0) (h : Filler) → NamesInherent u → IsListFiller P u a → IsNewFiller code.atoms (Below n) u h → IsSound (suc n) (NewList a)
    sound-list u a P (NewList b) names (of, defined) (of-b, places) =
        let same : b ≡ a = same-choice u.lists a b of.1 of-b.1 in
        let (fx, rest, e, below) = list-definition (Below n) (slice_get code.atoms a) (subst (λ c. IsSomeAnd (slice_get code.atoms c) (HasPlaces code.atoms (Below n))) same places) in
        let known = names a (choice-of-lists u a of.1 of.2) in
        let (x, (valid, inside)) = of.0 in
        let here = (of.3 x valid).0 inside in
        let fill = zip-front (Fills code.atoms) fx (option_to_list rest) (fillers a) (places-fill a fx rest known e) in
        let inner = front-all NamesInherent fx (option_to_list rest) (members-inherent a fx rest known e) in (
          known,
          unmarked-list code.atoms x a fx rest valid e here,
          (
            fx,
            rest,
            e,
            subst (λ gs. AllZip (λ u g. Fills code.atoms u g × HasOne code.atoms u × IsSound n g) fx gs) (sym (fixed-is a (ListAtom fx rest) e))
                (zip-first (Fills code.atoms) (λ u g. Fills code.atoms u g × HasOne code.atoms u × IsSound n g) (λ v. Below n v × NamesInherent v × HasOne code.atoms v) (λ v g f q. (f, q.2, more v g q.0.0 q.1 q.2 f q.0.1)) fx (take (length fx) (fillers a)) fill
                (all-from (λ v. Below n v × NamesInherent v × HasOne code.atoms v) fx (λ i v ev. (all-at (Below n) fx i v below ev, all-at NamesInherent fx i v inner ev, places-have code.atoms x a fx rest valid e here i v ev)))),
          ),
        )
    sound-list u a P (NewMapping b) names (of, defined) (of-b, required) = absurd (no-choice u.maps b of-b.1 of.2)
    sound-list u a P Nothing names h other = absurd other
    sound-list u a P NilFiller names h other = absurd other
    sound-list u a P (BoolFiller b) names h other = absurd other
    sound-list u a P (IntFiller i) names h other = absurd other
    sound-list u a P (StrFiller s) names h other = absurd other

  sound-mapping : (n : ℕ) (u : Ty) (a : ℕ) → NamesInherent u → IsMappingFiller u a → IsSound (suc n) (NewMapping a)
  sound-mapping n u a names (of, defined) =
      let (fields, rest, e, optional) = mapping-definition (slice_get code.atoms a) defined in
      let (x, (valid, inside)) = of.0 in
      (names a (choice-of-maps u a of.1 of.2), unmarked-mapping code.atoms x a fields rest valid e ((of.3 x valid).0 inside), (fields, rest, e, optional))

  -- where a type has some filler with so many levels, the one that the tables know is sound with so many
  pub sound : (n : ℕ) (u : Ty) (g h : Filler) → NamesInherent u → HasOne code.atoms u → Fills code.atoms u g → IsFillerWithin code.atoms n u h → IsSound n g
  sound n u Nothing h names one fills w = absurd (fills h (n, w))
  sound n u NilFiller h names one fills w = tt
  sound n u (BoolFiller b) h names one fills w = tt
  sound n u (IntFiller i) h names one fills w = tt
  sound n u (StrFiller s) h names one fills w = tt
  sound zero u (NewList a) h names one (k, is) w = let (m, (of, defined)) = as-list k u a is in absurd (not-simple u a u.lists u.maps h (HasPlaces code.atoms (Below m)) of defined w)
  sound zero u (NewMapping a) h names one (k, is) w = let (of, defined) = as-mapping k u a is in absurd (not-simple u a u.maps u.lists h (HasNoRequired code.atoms) of defined w)
  sound (suc n) u (NewList a) h names one (k, is) (inl simple) = let (m, (of, defined)) = as-list k u a is in absurd (not-simple u a u.lists u.maps h (HasPlaces code.atoms (Below m)) of defined simple)
  sound (suc n) u (NewList a) h names one (k, is) (inr new) = let (m, filler) = as-list k u a is in sound-list n (sound n) u a (Below m) h names filler new
  sound (suc n) u (NewMapping a) h names one (k, is) w = sound-mapping n u a names (as-mapping k u a is)

  -- ---- which stand in one another

  abbrev inner : Filler → List Filler
  inner f = new_ones (inner_fillers fixed f)

  abbrev inner_nodes : ℕ → List ℕ
  inner_nodes a = map node (new_ones (fixed a))

  abbrev pub IsSoundNew : Filler → Type 0
  IsSoundNew f = IsNew f × ((n : ℕ) × IsSound n f)

  abbrev IsNode : ℕ → Type 0
  IsNode a = (f : Filler) × (node f ≡ a) × IsSoundNew f

  node-below : (n : ℕ) (f : Filler) → IsNew f → IsSound n f → node f < length code.atoms
  node-below (suc n) (NewList a) is (known, shape, (fx, rest, e, each)) = within code.atoms a (ListAtom fx rest) e
  node-below (suc n) (NewMapping a) is (known, shape, (fields, rest, e, optional)) = within code.atoms a (MappingAtom fields rest) e
  node-below zero (NewList a) is h = absurd h
  node-below zero (NewMapping a) is h = absurd h
  node-below n Nothing is h = absurd h
  node-below n NilFiller is h = absurd (let q : ⊥ = cc in q)
  node-below n (BoolFiller b) is h = absurd (let q : ⊥ = cc in q)
  node-below n (IntFiller i) is h = absurd (let q : ⊥ = cc in q)
  node-below n (StrFiller s) is h = absurd (let q : ⊥ = cc in q)

  -- what stands in what is sound is sound, with fewer levels
  inner-sound : (n : ℕ) (a : ℕ) → IsSound (suc n) (NewList a) → All (λ g. IsNew g × IsSound n g) (new_ones (fixed a))
  inner-sound n a (known, shape, (fx, rest, e, each)) =
      new-all (IsSound n) (fixed a)
      (all-from (IsSound n) (fixed a) (λ i g eg. let (u, eu, is) = zip-at (λ u g. Fills code.atoms u g × HasOne code.atoms u × IsSound n g) fx (fixed a) i g each eg in is.2))

  nothing-inside : (n a : ℕ) → IsSound n (NewMapping a) → fixed a ≡ []
  nothing-inside zero a h = absurd h
  nothing-inside (suc n) a (known, shape, (fields, rest, e, optional)) = fixed-is a (MappingAtom fields rest) e

  all-inner : (f : Filler) → IsSoundNew f → All IsSoundNew (inner f)
  all-inner (NewList a) (is, (suc n, h)) = all-to (λ g. IsNew g × IsSound n g) IsSoundNew (λ g k. (k.0, (n, k.1))) (new_ones (fixed a)) (inner-sound n a h)
  all-inner (NewList a) (is, (zero, h)) = absurd h
  all-inner (NewMapping a) h = All-nil IsSoundNew
  all-inner Nothing h = All-nil IsSoundNew
  all-inner NilFiller h = All-nil IsSoundNew
  all-inner (BoolFiller b) h = All-nil IsSoundNew
  all-inner (IntFiller i) h = All-nil IsSoundNew
  all-inner (StrFiller s) h = All-nil IsSoundNew

  -- the nodes inside, with fewer levels too
  nodes-inside : (P : ℕ → Type 0) (n : ℕ) (f : Filler) → IsNew f → IsSound (suc n) f → ((g : Filler) → IsNew g → IsSound n g → P (node g)) → All P (inner_nodes (node f))
  nodes-inside P n (NewList a) is h each =
      all-from P (inner_nodes a) (λ i m em. let (g, eg, same) = mapped-at node (new_ones (fixed a)) i m em in let k = all-at (λ g. IsNew g × IsSound n g) (new_ones (fixed a)) i g (inner-sound n a h) eg in subst P same (each g k.0 k.1))
  nodes-inside P n (NewMapping a) is h each = subst (λ gs. All P (map node (new_ones gs))) (sym (nothing-inside (suc n) a h)) (All-nil P)
  nodes-inside P n Nothing is h each = absurd h
  nodes-inside P n NilFiller is h each = absurd (let q : ⊥ = cc in q)
  nodes-inside P n (BoolFiller b) is h each = absurd (let q : ⊥ = cc in q)
  nodes-inside P n (IntFiller i) is h each = absurd (let q : ⊥ = cc in q)
  nodes-inside P n (StrFiller s) is h each = absurd (let q : ⊥ = cc in q)

  none-at-zero : (f : Filler) → IsNew f → IsSound 0 f → ⊥
  none-at-zero (NewList a) is h = h
  none-at-zero (NewMapping a) is h = h
  none-at-zero Nothing is h = h
  none-at-zero NilFiller is h = let q : ⊥ = cc in q
  none-at-zero (BoolFiller b) is h = let q : ⊥ = cc in q
  none-at-zero (IntFiller i) is h = let q : ⊥ = cc in q
  none-at-zero (StrFiller s) is h = let q : ⊥ = cc in q

  sound-deep : (n : ℕ) (f : Filler) → IsNew f → IsSound n f → IsDeep inner_nodes n (node f)
  sound-deep zero f is h = absurd (none-at-zero f is h)
  sound-deep (suc n) f is h = nodes-inside (IsDeep inner_nodes n) n f is h (λ g new k. sound-deep n g new k)

  node-inside : (a b : ℕ) → IsNode a → IsAmong (inner_nodes a) b → IsNode b
  node-inside a b (f, same, (is, (zero, h))) among = absurd (none-at-zero f is h)
  node-inside a b (f, same, (is, (suc n, h))) (i, e) =
      all-at IsNode (inner_nodes a) i b (subst (λ c. All IsNode (inner_nodes c)) same (nodes-inside IsNode n f is h (λ g new k. (g, refl, (new, (n, k)))))) e

  -- so there are at most as many levels as atoms
  pub few-levels : (f : Filler) → IsSoundNew f → IsDeep inner_nodes (length code.atoms) (node f)
  few-levels f h =
      all-deep inner_nodes (length code.atoms) (λ k a. IsNode a)
      (λ k a (f, same, (is, (n, h))). subst (λ c. c < length code.atoms) same (node-below n f is h))
      (λ k a b node among. node-inside a b node among)
      (λ k a j (f, same, (is, (n, h))) near lt leads. no-return inner_nodes n a j (subst (IsDeep inner_nodes n) same (sound-deep n f is h)) leads)
      (node f) (f, refl, h)

  -- ---- level by level

  abbrev made : List Filler → ℕ → List Filler
  made roots depth = levels all_of inner roots depth

  level-first : (roots : List Filler) (n : ℕ) → made roots (suc n) ≡ roots ++ made (flat_map inner roots) n
  level-first roots zero = refl
  level-first roots (suc n) = ap (λ l. roots ++ flat_map inner l) (level-first roots n) ∙ ap (λ l. roots ++ l) (flat_map-append inner roots (made (flat_map inner roots) n))

  deep-inner : (n : ℕ) (f : Filler) → IsDeep inner_nodes (suc n) (node f) → All (λ g. IsDeep inner_nodes n (node g)) (inner f)
  deep-inner n (NewList a) h = mapped-all (IsDeep inner_nodes n) node (new_ones (fixed a)) h
  deep-inner n (NewMapping a) h = All-nil _
  deep-inner n Nothing h = All-nil _
  deep-inner n NilFiller h = All-nil _
  deep-inner n (BoolFiller b) h = All-nil _
  deep-inner n (IntFiller i) h = All-nil _
  deep-inner n (StrFiller s) h = All-nil _

  settles : (n : ℕ) (roots : List Filler) → All (λ f. IsDeep inner_nodes n (node f)) roots → made roots (suc n) ≡ made roots n
  settles zero [] h = refl
  settles zero (f ∷ roots) h = absurd (All-head (λ f. IsDeep inner_nodes 0 (node f)) f roots h)
  settles (suc n) roots h =
      level-first roots (suc n)
      ∙ (ap (λ l. roots ++ l) (settles n (flat_map inner roots) (flat-all (λ f. IsDeep inner_nodes (suc n) (node f)) (λ f. IsDeep inner_nodes n (node f)) inner (deep-inner n) roots h))
      ∙ sym (level-first roots n))

  -- all that stands in what is made is made, behind the first ones
  pub all-made : (roots : List Filler) → All IsSoundNew roots → made roots (length code.atoms) ≡ roots ++ flat_map inner (made roots (length code.atoms))
  all-made roots h = sym (settles (length code.atoms) roots (all-to IsSoundNew (λ f. IsDeep inner_nodes (length code.atoms) (node f)) few-levels roots h))

  pub made-sound : (depth : ℕ) (roots : List Filler) → All IsSoundNew roots → All IsSoundNew (made roots depth)
  made-sound zero roots h = All-nil IsSoundNew
  made-sound (suc n) roots h = All-append IsSoundNew roots (flat_map inner (made roots n)) h (flat-all IsSoundNew IsSoundNew inner all-inner (made roots n) (made-sound n roots h))
