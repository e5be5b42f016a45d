-- Rows of candidates, place by place, and what their places name.
use Rattle.std.proofs.Common.{◌≡◌, ◌++◌, ◌<◌, ◌∙◌, ◌↔◌, ◌+◌, ◌≤◌, ℕ, zero, suc, All, Bool, true, List, [], ◌∷◌, Option, Some, None, IfSome, IsSomeAnd, ap, arith, get_or, length, refl, slice_get, sym, subst, take}
use Rattle.std.specs.Prelude.{Contains, option_to_list}
use Rattle.std.specs.List.{AllZip}
use Rattle.std.proofs.lemmas.List.{take_all}
use Rattle.std.proofs.lemmas.List.Elements.{All-append, All-cons}
use Rattle.std.proofs.lemmas.Slice.Zip.{AllZip-long, all_zipped_more}
use Rattle.std.proofs.lemmas.Option.{get_or_from_slice_get, slice_get-get_or, slice_get_within}
use Rattle.type_model.specs.declared.atoms.AtomDef.{AtomDef}
use Rattle.type_model.specs.declared.atoms.AtomDef.TheVariants.{List as ListAtom, Mapping as MappingAtom, Arrow, Error as ErrorAtom, Future as FutureAtom}
use Rattle.type_model.specs.declared.basic.Choice.{Choice}
use Rattle.type_model.specs.declared.basic.Ty.{Ty}
use Rattle.type_model.specs.Calls.{Asked}
use Rattle.type_model.specs.Defined.{ChoicesBelow, DefBelow, IsEnv, TyBelow}
use Rattle.type_model.proofs.SameTypes.{NamesBelow-same}
use Rattle.code_verifier.proofs.Zipping.{zip-more}
use Rattle.list_fillers.specs.declared.candidate.Candidate.{Candidate}
use Rattle.list_fillers.specs.Candidates.{AreCandidates, IsCandidate, KnowsCandidates}
use Rattle.filler_tables.specs.declared.places.Made.{Made}
use Rattle.filler_tables.specs.declared.places.Made.TheVariants.{List as MadeList, Mapping as MadeMapping, Otherwise}
use Rattle.filler_tables.specs.declared.places.Place.{Place}
use Rattle.filler_tables.specs.Asked.{AsksOfAtom, AsksPlace, AsksPlaces, IsPlaceOf, made_of, place_types}
use Rattle.filler_tables.specs.inner.Telling.{IsCandidateAt, MadeBelow, PlaceBelow}
use Rattle.filler_tables.proofs.OneChoice.{list-one, mapping-one}

-- ---- lists

first-of : {X : Type 0} (P : X → Type 0) (x : X) (xs : List X) → All P (x ∷ xs) → P x
first-of P x xs h = h 0 x (omega arith)

others-of : {X : Type 0} (P : X → Type 0) (x : X) (xs : List X) → All P (x ∷ xs) → All P xs
others-of P x xs h = λ k d lt. h (suc k) d (omega (arith, lt))

all-none : {X : Type 0} (P : X → Type 0) → All P []
all-none P = λ k d lt. absurd (omega (arith, lt))

all-one : {X : Type 0} (P : X → Type 0) (x : X) → P x → All P (x ∷ [])
all-one P x h = All-cons P x [] h (all-none P)

if-listed : {X : Type 0} (P : X → Type 0) (o : Option X) → IfSome o P → All P (option_to_list o)
if-listed P (Some x) h = all-one P x h
if-listed P None h = all-none P

to-some : {X : Type 0} (o : Option X) (x : X) (P : X → Type 0) → o ≡ Some x → P x → IsSomeAnd o P
to-some o x P e h = subst (λ z. IsSomeAnd z P) (sym e) h

pub with-some : {X Y : Type 0} (o : Option X) {P : X → Type 0} → IsSomeAnd o P → ((x : X) → o ≡ Some x → P x → Y) → Y
with-some (Some x) h k = k x refl h
with-some None h k = absurd h

pub some-on : {X : Type 0} (o : Option X) (P Q : X → Type 0) → ((x : X) → o ≡ Some x → P x → Q x) → IsSomeAnd o P → IsSomeAnd o Q
some-on (Some x) P Q on h = on x refl h
some-on None P Q on h = absurd h

pub told-at : {X : Type 0} (o : Option X) (x : X) (P : X → Type 0) (b : Bool) → o ≡ Some x → (b ≡ true) ↔ P x → (b ≡ true) ↔ IsSomeAnd o P
told-at o x P b e h = subst (λ z. (b ≡ true) ↔ IsSomeAnd z P) (sym e) h

-- the definition that is read at a number
pub at-index : (env defs known : List AtomDef) (a : ℕ) (d : AtomDef) → defs ≡ known → known ≡ env → a < length env → d ≡ get_or defs a d → slice_get env a ≡ Some d
at-index env defs known a d e f lt is =
    let here : get_or env a d ≡ d = sym (is ∙ ap (λ (ds : List AtomDef). get_or ds a d) (e ∙ f)) in
    slice_get-get_or env a d lt ∙ ap Some here

-- ---- places

made-below : (n : ℕ) (m : Made) (ls ms : List Choice) → m ≡ made_of ls ms → ChoicesBelow n ls → ChoicesBelow n ms → MadeBelow n m
made-below n (MadeList a) ls ms e below below' = in-list (list-one a ls ms e)
  where
    in-list : ((c : Choice) × (ls ≡ c ∷ []) × (c.atom ≡ a)) × (ms ≡ []) → a < n
    in-list ((c, is, at), none) = subst (λ (k : ℕ). k < n) at (first-of (λ (x : Choice). x.atom < n) c [] (subst (ChoicesBelow n) is below))
made-below n (MadeMapping a) ls ms e below below' = in-list (mapping-one a ls ms e)
  where
    in-list : ((c : Choice) × (ms ≡ c ∷ []) × (c.atom ≡ a)) × (ls ≡ []) → a < n
    in-list ((c, is, at), none) = subst (λ (k : ℕ). k < n) at (first-of (λ (x : Choice). x.atom < n) c [] (subst (ChoicesBelow n) is below'))
made-below n Otherwise ls ms e below below' = tt

place-below : (n : ℕ) (t : Ty) (p : Place) → IsPlaceOf t p → TyBelow n t → PlaceBelow n p
place-below n t p is below = (NamesBelow-same n t.sem p.sem is.0 below.0, made-below n p.made t.lists t.maps is.1 below.1 below.2)

places-below : (n : ℕ) (ts : List Ty) (ps : List Place) → AllZip IsPlaceOf ts ps → All (TyBelow n) ts → All (PlaceBelow n) ps
places-below n [] [] z all = all-none (PlaceBelow n)
places-below n [] (p ∷ ps) z all = absurd z
places-below n (t ∷ ts) [] z all = absurd z
places-below n (t ∷ ts) (p ∷ ps) z all = All-cons (PlaceBelow n) p ps (place-below n t p z.0 (first-of (TyBelow n) t ts all)) (places-below n ts ps z.1 (others-of (TyBelow n) t ts all))

types-below : (n : ℕ) (d : AtomDef) → DefBelow n d → All (TyBelow n) (place_types d)
types-below n (ListAtom fixed rest) below = All-append (TyBelow n) fixed (option_to_list rest) below.0 (if-listed (TyBelow n) rest below.1)
types-below n (MappingAtom fields rest) below = all-none (TyBelow n)
types-below n (Arrow args outcome alone) below = all-none (TyBelow n)
types-below n (ErrorAtom detail) below = all-none (TyBelow n)
types-below n (FutureAtom outcome) below = all-none (TyBelow n)

-- of an atom that is there
pub atom-places-below : (env : List AtomDef) → IsEnv env → (a : ℕ) (d : AtomDef) → slice_get env a ≡ Some d → (ps : List Place) → AllZip IsPlaceOf (place_types d) ps → All (PlaceBelow (length env)) ps
atom-places-below env is a d there ps z =
    let n = length env in
    let below : DefBelow n d = subst (DefBelow n) (get_or_from_slice_get env a d d there) (is.closed a d (slice_get_within env a d there)) in
    places-below n (place_types d) ps z (types-below n d below)

-- ---- candidates

module _ (env : List AtomDef) where
  through : (ts : List Ty) (ps : List Place) (cs : List Candidate) → AllZip IsPlaceOf ts ps → AllZip (IsCandidateAt env) ps cs → AllZip (IsCandidate env) ts cs
  through [] [] [] z w = tt
  through [] [] (c ∷ cs) z w = absurd w
  through [] (p ∷ ps) cs z w = absurd z
  through (t ∷ ts) [] cs z w = absurd z
  through (t ∷ ts) (p ∷ ps) [] z w = absurd w
  through (t ∷ ts) (p ∷ ps) (c ∷ cs) z w = (w.0 t z.0, through ts ps cs z.1 w.1)

  none-left : (ps : List Place) (cs : List Candidate) → AllZip IsPlaceOf [] ps → AllZip (IsCandidateAt env) ps cs → cs ≡ []
  none-left [] [] z w = refl
  none-left [] (c ∷ cs) z w = absurd w
  none-left (p ∷ ps) cs z w = absurd z

  pub are-candidates : (d : AtomDef) (ps : List Place) (cs : List Candidate) → AllZip IsPlaceOf (place_types d) ps → AllZip (IsCandidateAt env) ps cs → AreCandidates env d cs
  are-candidates (ListAtom fixed rest) ps cs z w = through (fixed ++ option_to_list rest) ps cs z w
  are-candidates (MappingAtom fields rest) ps cs z w = none-left ps cs z w
  are-candidates (Arrow args outcome alone) ps cs z w = none-left ps cs z w
  are-candidates (ErrorAtom detail) ps cs z w = none-left ps cs z w
  are-candidates (FutureAtom outcome) ps cs z w = none-left ps cs z w

  -- row by row
  pub known-rows : (ds : List AtomDef) (rows : List (List Candidate)) → AllZip (AreCandidates env) ds rows → (a : ℕ) (d : AtomDef) → slice_get ds a ≡ Some d → AreCandidates env d (get_or rows a [])
  known-rows [] rows z a d there = absurd (let bad : ⊥ = cc in bad)
  known-rows (x ∷ ds) [] z a d there = absurd z
  known-rows (x ∷ ds) (r ∷ rows) z zero d there = let e : x ≡ d = cc in subst (λ (y : AtomDef). AreCandidates env y r) e z.0
  known-rows (x ∷ ds) (r ∷ rows) z (suc a) d there = known-rows ds rows z.1 a d there

-- the type of which a place is
pub from-place : (ts : List Ty) (ps : List Place) (p : Place) → AllZip IsPlaceOf ts ps → Contains ps p → (t : Ty) × Contains ts t × IsPlaceOf t p
from-place [] [] p z (k, lt, e) = absurd (omega (arith, lt))
from-place [] (q ∷ ps) p z c = absurd z
from-place (t ∷ ts) [] p z c = absurd z
from-place (t ∷ ts) (q ∷ ps) p z (zero, lt, e) = (t, (0, omega arith, refl), subst (IsPlaceOf t) e z.0)
from-place (t ∷ ts) (q ∷ ps) p z (suc k, lt, e) = later (from-place ts ps p z.1 (k, omega (arith, lt), e))
  where
    later : (u : Ty) × Contains ts u × IsPlaceOf u p → (u : Ty) × Contains (t ∷ ts) u × IsPlaceOf u p
    later (u, (j, less, at), is) = (u, (suc j, omega (arith, less), at), is)

-- ---- row by row

module _ (env : List AtomDef) (a : ℕ) where
  pub row-told : (ps : List Place) → IsSomeAnd (slice_get env a) (λ d. AllZip IsPlaceOf (place_types d) ps) → (cs : List Candidate) → AllZip (IsCandidateAt env) ps cs → IsSomeAnd (slice_get env a) (λ d. AreCandidates env d cs)
  row-told ps of cs z = some-on (slice_get env a) (λ d. AllZip IsPlaceOf (place_types d) ps) (λ d. AreCandidates env d cs) (λ d e w. are-candidates env d ps cs w z) of

  pub row-asks : (ps : List Place) → IsSomeAnd (slice_get env a) (λ d. AllZip IsPlaceOf (place_types d) ps) → (asked : Asked) → AsksPlaces env ps asked → AsksOfAtom env a asked
  row-asks ps of asked (p, in-places, asks) =
      some-on (slice_get env a) (λ d. AllZip IsPlaceOf (place_types d) ps) (λ d. (t : Ty) × Contains (place_types d) t × ((p : Place) × IsPlaceOf t p × AsksPlace env p asked)) (λ d e w. by d (from-place (place_types d) ps p w in-places)) of
    where
      by : (d : AtomDef) → (t : Ty) × Contains (place_types d) t × IsPlaceOf t p → (t : Ty) × Contains (place_types d) t × ((p : Place) × IsPlaceOf t p × AsksPlace env p asked)
      by d (t, in-types, is) = (t, in-types, (p, is, asks))

  pub row-more : (rows zs : List (List Candidate)) (row : List Candidate) → a < length env → AllZip (AreCandidates env) (take a env) rows → IsSomeAnd (slice_get env a) (λ d. AreCandidates env d row) → zs ≡ rows ++ row ∷ []
      → AllZip (AreCandidates env) (take (a + 1) env) zs
  row-more rows zs row lt before here more = with-some (slice_get env a) here (λ d e is. zip-more (AreCandidates env) env rows zs a d row lt (sym (get_or_from_slice_get env a d d e)) before is more)

pub all-known : (env : List AtomDef) (n : ℕ) (rows : List (List Candidate)) → length env ≤ n → AllZip (AreCandidates env) (take n env) rows → KnowsCandidates env rows
all-known env n rows le z = known-rows env env rows (subst (λ (ds : List AtomDef). AllZip (AreCandidates env) ds rows) (take_all n env le) z)

pub as-many : (env : List AtomDef) (n : ℕ) (rows : List (List Candidate)) → length env ≤ n → AllZip (AreCandidates env) (take n env) rows → length rows ≡ length env
as-many env n rows le z = AllZip-long (AreCandidates env) (take n env) rows z ∙ ap length (take_all n env le)

pub rest-more : (rest : Option Ty) (t : Ty) (fixed : List Ty) (ps zs : List Place) (p : Place) → rest ≡ Some t → zs ≡ ps ++ p ∷ [] → IsPlaceOf t p → AllZip IsPlaceOf fixed ps → AllZip IsPlaceOf (fixed ++ option_to_list rest) zs
rest-more rest t fixed ps zs p is more of z =
    subst (λ (o : Option Ty). AllZip IsPlaceOf (fixed ++ option_to_list o) zs) (sym is) (subst (AllZip IsPlaceOf (fixed ++ t ∷ [])) (sym more) (all_zipped_more IsPlaceOf fixed ps t p z of))
