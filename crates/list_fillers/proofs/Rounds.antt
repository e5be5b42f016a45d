-- Marks stay sound from round to round, and are exact where they stay the same.
use Rattle.std.proofs.Common.{◌≡◌, ◌++◌, ◌+◌, ◌<◌, ◌≤◌, ◌∙◌, ℕ, zero, suc, Bool, true, false, List, [], ◌∷◌, Option, Some, None, length, map, take, refl, sym, subst, ap, arith, inl, inr}
use Rattle.std.specs.Prelude.{All, IsSomeAnd, get_or, if◌then◌else◌, option_to_list, slice_get}
use Rattle.std.specs.List.{AllZip}
use Rattle.std.proofs.lemmas.Bool.{false≢true}
use Rattle.type_model.specs.declared.atoms.AtomDef.{AtomDef}
use Rattle.type_model.specs.declared.atoms.AtomDef.TheVariants.{List as ListAtom, Mapping as MappingAtom, Arrow, Error as ErrorAtom, Future as FutureAtom}
use Rattle.type_model.specs.declared.basic.Choice.{Choice}
use Rattle.type_model.specs.declared.basic.Ty.{Ty}
use Rattle.value_model.specs.declared.filler.Filler.{Filler}
use Rattle.value_model.specs.declared.filler.Filler.TheVariants.{Nothing, Nil, Bool as Truth, Int, Str, List as NewList, Mapping as NewMapping}
use Rattle.value_model.specs.Exact.{AreFillers, Fills, FillsExactly, HasPlaces, IsFiller, IsFillerWithin, IsNewFiller, IsOfAtom}
use Rattle.list_fillers.specs.declared.candidate.Candidate.{Candidate}
use Rattle.list_fillers.specs.declared.candidate.Candidate.TheVariants.{OfList, Settled, Without}
use Rattle.list_fillers.specs.Candidates.{AreCandidates, IsCandidate, KnowsAllFillers, KnowsCandidates}
use Rattle.list_fillers.specs.Laws.{MarksStaySound, StillMarksAreExact}
use Rattle.list_fillers.specs.Marks.{AreSound, CanFill, IsRound, chosen, chosen_by, has_filler, is_marked}

-- ---- options and lists

with-some : {X Y : Type 0} (o : Option X) {P : X → Type 0} → IsSomeAnd o P → ((x : X) → o ≡ Some x → P x → Y) → Y
with-some (Some x) h k = k x refl h
with-some None h k = absurd h

to-some : {X : Type 0} (o : Option X) (x : X) (P : X → Type 0) → o ≡ Some x → P x → IsSomeAnd o P
to-some o x P e h = subst (λ z. IsSomeAnd z P) (sym e) h

all-more : {X : Type 0} (P Q : X → Type 0) → ((x : X) → P x → Q x) → (xs : List X) → All P xs → All Q xs
all-more P Q f xs h = λ k d lt. f (get_or xs k d) (h k d lt)

all-none : {X : Type 0} (P : X → Type 0) → All P []
all-none P = λ k d lt. absurd (omega (arith, lt))

all-and : {X : Type 0} (P : X → Type 0) (x : X) (xs : List X) → P x → All P xs → All P (x ∷ xs)
all-and P x xs h rest zero d lt = h
all-and P x xs h rest (suc k) d lt = rest k d (omega (arith, lt))

first-of : {X : Type 0} (P : X → Type 0) (x : X) (xs : List X) → All P (x ∷ xs) → P x
first-of P x xs h = h 0 x (omega arith)

others-of : {X : Type 0} (P : X → Type 0) (x : X) (xs : List X) → All P (x ∷ xs) → All P xs
others-of P x xs h = λ k d lt. h (suc k) d (omega (arith, lt))

-- ---- lists inside one another more often

module _ (atoms : List AtomDef) where
  abbrev FillsWithin : ℕ → Ty → Type 0
  FillsWithin n t = (g : Filler) × IsFillerWithin atoms n t g

  places-more : (P Q : Ty → Type 0) → ((u : Ty) → P u → Q u) → (d : AtomDef) → HasPlaces atoms P d → HasPlaces atoms Q d
  places-more P Q f (ListAtom fixed rest) h = all-more P Q f fixed h
  places-more P Q f (MappingAtom fields rest) h = h
  places-more P Q f (Arrow args outcome alone) h = h
  places-more P Q f (ErrorAtom detail) h = h
  places-more P Q f (FutureAtom outcome) h = h

  new-more : (P Q : Ty → Type 0) → ((u : Ty) → P u → Q u) → (t : Ty) (f : Filler) → IsNewFiller atoms P t f → IsNewFiller atoms Q t f
  new-more P Q g t Nothing h = h
  new-more P Q g t Nil h = h
  new-more P Q g t (Truth b) h = h
  new-more P Q g t (Int i) h = h
  new-more P Q g t (Str s) h = h
  new-more P Q g t (NewList a) (of, some) = (of, with-some (slice_get atoms a) some (λ d e h. to-some (slice_get atoms a) d (HasPlaces atoms Q) e (places-more P Q g d h)))
  new-more P Q g t (NewMapping a) h = h

  more : (n : ℕ) (t : Ty) (f : Filler) → IsFillerWithin atoms n t f → IsFillerWithin atoms (suc n) t f
  more zero t f h = inl h
  more (suc n) t f (inl h) = inl h
  more (suc n) t f (inr h) = inr (new-more (FillsWithin n) (FillsWithin (suc n)) (λ u k. (k.0, more n u k.0 k.1)) t f h)

  more-by : (k n : ℕ) (t : Ty) (f : Filler) → IsFillerWithin atoms n t f → IsFillerWithin atoms (k + n) t f
  more-by zero n t f h = let e : n ≡ zero + n = omega arith in subst (λ m. IsFillerWithin atoms m t f) e h
  more-by (suc k) n t f h = let e : suc (k + n) ≡ suc k + n = omega arith in subst (λ m. IsFillerWithin atoms m t f) e (more (k + n) t f (more-by k n t f h))

  abbrev FillsSome : Ty → Type 0
  FillsSome u = (n : ℕ) × FillsWithin n u

  -- one number for all
  common : (ts : List Ty) → All (λ u. (n : ℕ) × FillsWithin n u) ts → (n : ℕ) × All (FillsWithin n) ts
  common [] h = (0, all-none (FillsWithin 0))
  common (t ∷ ts) h = both (first-of FillsSome t ts h) (common ts (others-of FillsSome t ts h))
    where
      both : (n : ℕ) × FillsWithin n t → (m : ℕ) × All (FillsWithin m) ts → (k : ℕ) × All (FillsWithin k) (t ∷ ts)
      both (n, (g, w)) (m, all) =
          let e : m + n ≡ n + m = omega arith in
          (n + m, all-and (FillsWithin (n + m)) t ts (g, subst (λ k. IsFillerWithin atoms k t g) e (more-by m n t g w)) (all-more (FillsWithin m) (FillsWithin (n + m)) (λ u k. (k.0, more-by n m u k.0 k.1)) ts all))

  -- ---- what is marked can be filled

  module _ (rows : List (List Candidate)) (known : KnowsCandidates atoms rows) where
    module _ (marks : List Bool) (sound : AreSound atoms rows marks) where
      list-fills : (t : Ty) (a : ℕ) → IsOfAtom atoms t t.lists t.maps a → is_marked marks a ≡ true → IsFiller atoms t (NewList a)
      list-fills t a of m = let (n, places) = sound a m in (suc n, inr (of, places))

      candidate-fills : (t : Ty) (c : Candidate) → IsCandidate atoms t c → has_filler marks c ≡ true → (n : ℕ) × FillsWithin n t
      candidate-fills t (Settled f) (n, w) m = (n, (f, w))
      candidate-fills t (OfList a) (none, of) m = let (n, w) = list-fills t a of m in (n, (NewList a, w))
      candidate-fills t Without none m = absurd (false≢true m)

      abbrev Has : Candidate → Type 0
      Has c = has_filler marks c ≡ true

      fixed-fill : (fixed rest : List Ty) (cs : List Candidate) → AllZip (IsCandidate atoms) (fixed ++ rest) cs → All (λ c. has_filler marks c ≡ true) (take (length fixed) cs) → All (λ u. (n : ℕ) × FillsWithin n u) fixed
      fixed-fill [] rest cs zip all = all-none FillsSome
      fixed-fill (t ∷ fixed) rest [] zip all = absurd zip
      fixed-fill (t ∷ fixed) rest (c ∷ cs) (is, zip) all =
          all-and FillsSome t fixed (candidate-fills t c is (first-of Has c (take (length fixed) cs) all)) (fixed-fill fixed rest cs zip (others-of Has c (take (length fixed) cs) all))

      can-fill : (d : AtomDef) (cs : List Candidate) → AreCandidates atoms d cs → CanFill marks d cs → (n : ℕ) × HasPlaces atoms (FillsWithin n) d
      can-fill (ListAtom fixed rest) cs zip all = common fixed (fixed-fill fixed (option_to_list rest) cs zip all)
      can-fill (MappingAtom fields rest) cs zip all = absurd all
      can-fill (Arrow args outcome alone) cs zip all = absurd all
      can-fill (ErrorAtom detail) cs zip all = absurd all
      can-fill (FutureAtom outcome) cs zip all = absurd all

      sound-again : (new : List Bool) → IsRound atoms rows marks new → AreSound atoms rows new
      sound-again new round a m = by (slice_get atoms a) refl
        where
          by : (o : Option AtomDef) → slice_get atoms a ≡ o → (n : ℕ) × IsSomeAnd (slice_get atoms a) (HasPlaces atoms (FillsWithin n))
          by (Some d) e =
              let (n, places) = can-fill d (get_or rows a []) (known a d e) ((round.within a d e).0 m) in
              (n, to-some (slice_get atoms a) d (HasPlaces atoms (FillsWithin n)) e places)
          by None e = absurd (false≢true (sym (round.beyond a (past atoms a e)) ∙ m))
            where
              past : (ds : List AtomDef) (k : ℕ) → slice_get ds k ≡ None → length ds ≤ k
              past [] k none = omega arith
              past (x ∷ ds) zero none = absurd (let bad : ⊥ = cc in bad)
              past (x ∷ ds) (suc k) none = let le = past ds k none in omega (arith, le)

    -- ---- where a round changes nothing, what can be filled is marked

    module _ (marks : List Bool) (still : IsRound atoms rows marks marks) where
      one-choice : (cs : List Choice) (c x : Choice) (a b : ℕ) → cs ≡ c ∷ [] → c.atom ≡ a → cs ≡ x ∷ [] → x.atom ≡ b → b ≡ a
      one-choice cs c x a b e f g h =
          let same : c ≡ x = let both : c ∷ [] ≡ x ∷ [] = sym e ∙ g in cc in
          sym h ∙ ap (λ (z : Choice). z.atom) (sym same) ∙ f

      of-one : (t : Ty) (a b : ℕ) → IsOfAtom atoms t t.lists t.maps a → IsOfAtom atoms t t.lists t.maps b → b ≡ a
      of-one t a b (some, (c, e, f), none, same) (some', (x, g, h), none', same') = one-choice t.lists c x a b e f g h

      no-mapping : (t : Ty) (a b : ℕ) → IsOfAtom atoms t t.lists t.maps a → IsOfAtom atoms t t.maps t.lists b → ⊥
      no-mapping t a b (some, one, none, same) (some', (x, g, h), none', same') = by t.maps none g
        where
          by : (cs : List Choice) → cs ≡ [] → cs ≡ x ∷ [] → ⊥
          by cs e f = let both : [] ≡ x ∷ [] = sym e ∙ f in cc

      -- of a filler with lists inside one another so many times
      abbrev Tells : ℕ → Type 0
      Tells n = (t : Ty) (c : Candidate) (f : Filler) → IsCandidate atoms t c → IsFillerWithin atoms n t f → has_filler marks c ≡ true

      abbrev Told : Candidate → Type 0
      Told c = has_filler marks c ≡ true

      fixed-have : (n : ℕ) → Tells n → (fixed rest : List Ty) (cs : List Candidate) → AllZip (IsCandidate atoms) (fixed ++ rest) cs → All (FillsWithin n) fixed → All (λ c. has_filler marks c ≡ true) (take (length fixed) cs)
      fixed-have n has [] rest cs zip all = all-none Told
      fixed-have n has (t ∷ fixed) rest [] zip all = absurd zip
      fixed-have n has (t ∷ fixed) rest (c ∷ cs) (is, zip) all =
          let (g, w) = first-of (FillsWithin n) t fixed all in
          all-and Told c (take (length fixed) cs) (has t c g is w) (fixed-have n has fixed rest cs zip (others-of (FillsWithin n) t fixed all))

      fills-all : (n : ℕ) → Tells n → (d : AtomDef) (cs : List Candidate) → AreCandidates atoms d cs → HasPlaces atoms (FillsWithin n) d → CanFill marks d cs
      fills-all n has (ListAtom fixed rest) cs zip all = fixed-have n has fixed (option_to_list rest) cs zip all
      fills-all n has (MappingAtom fields rest) cs zip h = h
      fills-all n has (Arrow args outcome alone) cs zip h = h
      fills-all n has (ErrorAtom detail) cs zip h = h
      fills-all n has (FutureAtom outcome) cs zip h = h

      atom-has : (n : ℕ) → Tells n → (a : ℕ) → IsSomeAnd (slice_get atoms a) (HasPlaces atoms (FillsWithin n)) → is_marked marks a ≡ true
      atom-has n has a places = with-some (slice_get atoms a) places (λ d e h. (still.within a d e).1 (fills-all n has d (get_or rows a []) (known a d e) h))

      type-has : (n : ℕ) → Tells n
      type-has n t (Settled g) f is w = refl
      type-has n t Without f is w = absurd (is f (n, w))
      type-has zero t (OfList a) f (none, of) w = absurd (none f w)
      type-has (suc n) t (OfList a) f (none, of) (inl w) = absurd (none f w)
      type-has (suc n) t (OfList a) (NewList b) (none, of) (inr (other, places)) = subst (λ k. is_marked marks k ≡ true) (of-one t a b of other) (atom-has n (type-has n) b places)
      type-has (suc n) t (OfList a) (NewMapping b) (none, of) (inr (other, places)) = absurd (no-mapping t a b of other)
      type-has (suc n) t (OfList a) Nothing (none, of) (inr w) = absurd w
      type-has (suc n) t (OfList a) Nil (none, of) (inr w) = absurd w
      type-has (suc n) t (OfList a) (Truth b) (none, of) (inr w) = absurd w
      type-has (suc n) t (OfList a) (Int i) (none, of) (inr w) = absurd w
      type-has (suc n) t (OfList a) (Str s) (none, of) (inr w) = absurd w

      -- ---- the fillers that are chosen

      module _ (sound : AreSound atoms rows marks) where
        there-fills : (t : Ty) (f : Filler) → IsFiller atoms t f → Fills atoms t f
        there-fills t Nothing (zero, w) = absurd w
        there-fills t Nothing (suc n, inl w) = absurd w
        there-fills t Nothing (suc n, inr w) = absurd w
        there-fills t Nil h = h
        there-fills t (Truth b) h = h
        there-fills t (Int i) h = h
        there-fills t (Str s) h = h
        there-fills t (NewList a) h = h
        there-fills t (NewMapping a) h = h

        chosen-fills : (t : Ty) (c : Candidate) → IsCandidate atoms t c → Fills atoms t (chosen marks c)
        chosen-fills t (Settled f) is = there-fills t f is
        chosen-fills t Without none = none
        chosen-fills t (OfList a) (none, of) = by (is_marked marks a) refl
          where
            by : (b : Bool) → is_marked marks a ≡ b → Fills atoms t (if b then NewList a else Nothing)
            by true m = list-fills marks sound t a of m
            by false m = λ f h. false≢true (sym m ∙ type-has h.0 t (OfList a) f (none, of) h.1)

        all-fill : (ts : List Ty) (cs : List Candidate) → AllZip (IsCandidate atoms) ts cs → AllZip (Fills atoms) ts (map (chosen marks) cs)
        all-fill [] [] zip = tt
        all-fill [] (c ∷ cs) zip = absurd zip
        all-fill (t ∷ ts) [] zip = absurd zip
        all-fill (t ∷ ts) (c ∷ cs) (is, zip) = (chosen-fills t c is, all-fill ts cs zip)

        are-fillers : (d : AtomDef) (cs : List Candidate) → AreCandidates atoms d cs → AreFillers atoms d (map (chosen marks) cs)
        are-fillers (ListAtom fixed rest) cs zip = all-fill (fixed ++ option_to_list rest) cs zip
        are-fillers (MappingAtom fields rest) cs none = ap (map (chosen marks)) none
        are-fillers (Arrow args outcome alone) cs none = ap (map (chosen marks)) none
        are-fillers (ErrorAtom detail) cs none = ap (map (chosen marks)) none
        are-fillers (FutureAtom outcome) cs none = ap (map (chosen marks)) none

        exact : KnowsAllFillers atoms (chosen_by marks rows)
        exact a within = by (slice_get atoms a) refl
          where
            by : (o : Option AtomDef) → slice_get atoms a ≡ o → FillsExactly atoms a (chosen_by marks rows a)
            by (Some d) e = to-some (slice_get atoms a) d (λ d. AreFillers atoms d (chosen_by marks rows a)) e (are-fillers d (get_or rows a []) (known a d e))
            by None e = absurd (there atoms a within e)
              where
                there : (ds : List AtomDef) (k : ℕ) → k < length ds → slice_get ds k ≡ None → ⊥
                there [] k lt none = omega (arith, lt)
                there (x ∷ ds) zero lt none = cc
                there (x ∷ ds) (suc k) lt none = let less : k < length ds = omega (arith, lt) in there ds k less none

pub marks-stay-sound : MarksStaySound
marks-stay-sound atoms rows old new known sound round = sound-again atoms rows known old sound new round

pub still-marks-are-exact : StillMarksAreExact
still-marks-are-exact atoms rows marks known sound still = exact atoms rows known marks still sound
