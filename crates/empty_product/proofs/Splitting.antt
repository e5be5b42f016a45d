-- Atoms one by one: each is avoided by a further part, or stays.
use Rattle.std.proofs.Common.{◌≡◌, ◌⊎◌, ⊎_elim, inl, inr, ℕ, ◌+◌, ◌<◌, List, [], ◌∷◌, ◌++◌, length, map, take, get_or, All, Any, Contains, Option, Some, option_map, slice_get, refl, sym, subst, ap, ◌∙◌, arith, length-append}
use Rattle.std.proofs.lemmas.List.{take_more, get_or_append_left}
use Rattle.std.proofs.lemmas.List.Elements.{All-get_or, All-nil, All-push, All-weaker, Contains-append_left, Contains-push}
use Rattle.std.proofs.lemmas.Option.{get_or_from_slice_get, slice_get-get_or, slice_get-map, slice_get_within}
use Rattle.std.proofs.lemmas.List.Quantifiers.{Any-push}
use Rattle.bal_base.specs.declared.shape.Shape.{Shape}
use Rattle.type_model.specs.declared.atoms.AtomDef.{AtomDef}
use Rattle.type_diagrams.specs.declared.finding.Finding.{Finding}
use Rattle.type_diagrams.specs.declared.finding.Finding.TheVariants.{Part as FoundPart, Held as FoundHeld, Unknown as FoundUnknown}
use Rattle.type_diagrams.specs.Conditions.{Condition, AreOne, IsNothing, IsShapeOf, without}
use Rattle.type_diagrams.specs.Kept.{IsUnknown}
use Rattle.type_diagrams.specs.Tables.{Table, IsDiagram, condition}
use Rattle.type_diagrams.specs.Turns.{IsSound}
use Rattle.type_diagrams.specs.Whole.{Keeps}
use Rattle.type_diagrams.proofs.Meeting.{Meets-same, Meets-without}
use Rattle.type_diagrams.proofs.Tellings.{sound-keeps}
use Rattle.empty_product.specs.declared.further.RestDemand.{RestDemand}
use Rattle.empty_product.specs.Further.{RestAsking, AreSplit, IsAvoidedBy, MustStay, rest_asking_of, rest_askings_of}
use Rattle.empty_product.specs.Slots.{IsInHeld, TellsPart}
use Rattle.empty_product.proofs.GrownPlaces.{held-keeps}

pub Any-more : {X : Type 0} (P : X → Type 0) (xs : List X) (y : X) → Any P xs → Any P (xs ++ y ∷ [])
Any-more P xs y h = (h.0, h.1, omega (arith, h.2, length-append xs (y ∷ [])), get_or_append_left xs (y ∷ []) h.1 h.0 h.2 ∙ h.3, h.4)

pub Any-at : {X : Type 0} (P : X → Type 0) (xs : List X) (k : ℕ) (x : X) → slice_get xs k ≡ Some x → P x → Any P xs
Any-at P xs k x e h = (k, x, slice_get_within xs k x e, get_or_from_slice_get xs k x x e, h)

-- ---- the atoms so far

pub asking-there : (t : Table) (ds : List RestDemand) (i : ℕ) (d : RestDemand) → i < length ds → slice_get (rest_askings_of t ds) i ≡ Some (rest_asking_of t (get_or ds i d))
asking-there t ds i d lt = slice_get-map (rest_asking_of t) ds i ∙ (λ j. option_map (rest_asking_of t) (slice_get-get_or ds i d lt j))

pub one_more_asking : (t : Table) (ds : List RestDemand) (i : ℕ) (d : RestDemand) → i < length ds → rest_askings_of t (take (i + 1) ds) ≡ rest_askings_of t (take i ds) ++ rest_asking_of t (get_or ds i d) ∷ []
one_more_asking t ds i d lt = ap (map (rest_asking_of t)) (take_more ds i d lt) ∙ map-push (take i ds)
  where
    map-push : (xs : List RestDemand) → map (rest_asking_of t) (xs ++ get_or ds i d ∷ []) ≡ map (rest_asking_of t) xs ++ rest_asking_of t (get_or ds i d) ∷ []
    map-push [] = refl
    map-push (x ∷ xs) = ap (λ ys. rest_asking_of t x ∷ ys) (map-push xs)

-- the question for a further part that avoids what is asked
pub avoidance-AreOne : (old mid new : Table) (rest q n : ℕ) → Keeps old mid → IsDiagram old rest → IsDiagram old q → AreOne (condition new n) (without (condition mid rest) (condition mid q)) → AreOne (condition new n) (without (condition old rest) (condition old q))
avoidance-AreOne old mid new rest q n keeps is_rest is_q e =
    subst (λ c. AreOne (condition new n) (without c (condition old q))) (keeps.conditions rest is_rest)
    (subst (λ c. AreOne (condition new n) (without (condition mid rest) c)) (keeps.conditions q is_q) e)

module _ (env : List AtomDef) (t : Table) (kept : List (ℕ × Option Shape)) (rest : Condition) where
  pub no_atoms : AreSplit env t kept rest [] [] []
  no_atoms = record { inside = All-nil _; each = All-nil _; stay = All-nil _ }

  module _ (a : RestAsking) (n : ℕ) (is : AreOne (condition t n) (without rest a.part)) where
    pub found-IsAvoidedBy : (x : Shape) → IsShapeOf env (condition t n) x → IsAvoidedBy env t kept rest a x
    found-IsAvoidedBy x s =
        let m = (Meets-without env rest a.part x).0 ((Meets-same env (condition t n) (without rest a.part) x s.0 is).0 s.1) in
        record { inside = (s.0, m.0); avoids = m.1 }

    pub held-MustStay : ((x : Shape) → IsShapeOf env (condition t n) x → IsInHeld env t kept x) → MustStay env t kept rest a
    held-MustStay held x h =
        held x (h.inside.0, (Meets-same env (condition t n) (without rest a.part) x h.inside.0 is).1 ((Meets-without env rest a.part x).1 (h.inside.1, h.avoids)))

  module _ (askings : List RestAsking) (parts : List Shape) (staying : List ℕ) (a : RestAsking) (split : AreSplit env t kept rest askings parts staying) where
    abbrev IsDone : List Shape → List ℕ → RestAsking → Type 0
    IsDone parts staying a = Any (IsAvoidedBy env t kept rest a) parts ⊎ Contains staying a.atom

    abbrev Stays : List RestAsking → ℕ → Type 0
    Stays askings s = Any (λ b. (b.atom ≡ s) × MustStay env t kept rest b) askings

    stay-more : All (Stays (askings ++ a ∷ [])) staying
    stay-more = All-weaker (Stays askings) (Stays (askings ++ a ∷ [])) (λ s h. Any-more (λ b. (b.atom ≡ s) × MustStay env t kept rest b) askings a h) staying split.stay

    pub one_more_part : (x : Shape) → IsAvoidedBy env t kept rest a x → AreSplit env t kept rest (askings ++ a ∷ []) (parts ++ x ∷ []) staying
    one_more_part x by = record {
      inside = All-push (IsShapeOf env rest) parts x split.inside by.inside;
      each = All-push (IsDone (parts ++ x ∷ []) staying) askings a
          (All-weaker (IsDone parts staying) (IsDone (parts ++ x ∷ []) staying) (λ b h. ⊎_elim
          (λ (p : Any (IsAvoidedBy env t kept rest b) parts). inl (Any-more (IsAvoidedBy env t kept rest b) parts x p))
          (λ (s : Contains staying b.atom). inr s) h) askings split.each)
          (inl (Any-push (IsAvoidedBy env t kept rest a) parts x by));
      stay = stay-more;
    }

    pub one_more_staying : MustStay env t kept rest a → AreSplit env t kept rest (askings ++ a ∷ []) parts (staying ++ a.atom ∷ [])
    one_more_staying must = record {
      inside = split.inside;
      each = All-push (IsDone parts (staying ++ a.atom ∷ [])) askings a
          (All-weaker (IsDone parts staying) (IsDone parts (staying ++ a.atom ∷ [])) (λ b h. ⊎_elim
          (λ (p : Any (IsAvoidedBy env t kept rest b) parts). inl p)
          (λ (s : Contains staying b.atom). inr (Contains-append_left staying (a.atom ∷ []) b.atom s)) h) askings split.each)
          (inr (Contains-push staying a.atom));
      stay = All-push (Stays (askings ++ a ∷ [])) staying a.atom stay-more (Any-push (λ b. (b.atom ≡ a.atom) × MustStay env t kept rest b) askings a (refl, must));
    }

-- where the table of diagrams has grown
module _ (env : List AtomDef) (old new : Table) (kept : List (ℕ × Option Shape)) (rest : Condition) (keeps : Keeps old new) (sound : All (IsSound env old) kept) where
  by-keeps : (a : RestAsking) (x : Shape) → IsAvoidedBy env old kept rest a x → IsAvoidedBy env new kept rest a x
  by-keeps a x h = record { inside = h.inside; avoids = h.avoids }

  by-before : (a : RestAsking) (x : Shape) → IsAvoidedBy env new kept rest a x → IsAvoidedBy env old kept rest a x
  by-before a x h = record { inside = h.inside; avoids = h.avoids }

  Any-along : {X : Type 0} (P Q : X → Type 0) → ((x : X) → P x → Q x) → (xs : List X) → Any P xs → Any Q xs
  Any-along P Q f xs h = (h.0, h.1, h.2, h.3, f h.1 h.4)

  must-keeps : (a : RestAsking) → MustStay env old kept rest a → MustStay env new kept rest a
  must-keeps a must x h = held-keeps old new keeps env kept sound x (must x (by-before a x h))

  pub split-keeps : (askings : List RestAsking) (parts : List Shape) (staying : List ℕ) → AreSplit env old kept rest askings parts staying → AreSplit env new kept rest askings parts staying
  split-keeps askings parts staying split = record {
    inside = split.inside;
    each = All-weaker (λ a. Any (IsAvoidedBy env old kept rest a) parts ⊎ Contains staying a.atom) (λ a. Any (IsAvoidedBy env new kept rest a) parts ⊎ Contains staying a.atom)
        (λ a h. ⊎_elim
        (λ (p : Any (IsAvoidedBy env old kept rest a) parts). inl (Any-along (IsAvoidedBy env old kept rest a) (IsAvoidedBy env new kept rest a) (by-keeps a) parts p))
        (λ (s : Contains staying a.atom). inr s) h) askings split.each;
    stay = All-weaker (λ s. Any (λ a. (a.atom ≡ s) × MustStay env old kept rest a) askings) (λ s. Any (λ a. (a.atom ≡ s) × MustStay env new kept rest a) askings)
        (λ s h. Any-along (λ a. (a.atom ≡ s) × MustStay env old kept rest a) (λ a. (a.atom ≡ s) × MustStay env new kept rest a) (λ a p. (p.0, must-keeps a p.1)) askings h) staying split.stay;
  }

-- ---- one atom more, in a table of diagrams that grows

abbrev pub none : RestDemand
none = record { atom = 0; question = 0 }

module _ (env : List AtomDef) (old mid new : Table) (kept : List (ℕ × Option Shape)) (rest q : ℕ) (ds : List RestDemand) (i : ℕ) (within : i < length ds) (before : Keeps old mid) (after : Keeps mid new)
    (sound : All (IsSound env old) kept) (is_rest : IsDiagram old rest) (are : All (λ d. IsDiagram old d.question) ds)
    (asked : AreOne (condition new q) (without (condition mid rest) (condition mid (get_or ds i none).question))) (finding : Finding) (tells : TellsPart env new kept q finding) where
  abbrev the_rest : Condition
  the_rest = condition old rest

  abbrev asking : RestAsking
  asking = rest_asking_of old (get_or ds i none)

  step-AreOne : AreOne (condition new q) (without the_rest asking.part)
  step-AreOne = avoidance-AreOne old mid new rest (get_or ds i none).question q before is_rest (All-get_or (λ d. IsDiagram old d.question) ds i none within are) asked

  pub step-Unknown : finding ≡ FoundUnknown → IsDiagram new q
      → IsDiagram new q × IsUnknown kept q × (¬ IsNothing (condition new q)) × Any (λ a. AreOne (condition new q) (without the_rest a.part)) (rest_askings_of old ds)
  step-Unknown is diagram =
      let told = subst (TellsPart env new kept q) is tells in
      (diagram, told.0, told.1, Any-at (λ a. AreOne (condition new q) (without the_rest a.part)) (rest_askings_of old ds) i asking (asking-there old ds i none within) step-AreOne)

  module _ (parts : List Shape) (staying : List ℕ) (split : AreSplit env mid kept the_rest (rest_askings_of old (take i ds)) parts staying) where
    kept_split : AreSplit env new kept the_rest (rest_askings_of old (take i ds)) parts staying
    kept_split = split-keeps env mid new kept the_rest after (sound-keeps env old mid kept before sound) (rest_askings_of old (take i ds)) parts staying split

    pub step-Part : (x : Shape) → finding ≡ FoundPart x → AreSplit env new kept the_rest (rest_askings_of old (take (i + 1) ds)) (parts ++ x ∷ []) staying
    step-Part x is =
        subst (λ bs. AreSplit env new kept the_rest bs (parts ++ x ∷ []) staying) (sym (one_more_asking old ds i none within))
        (one_more_part env new kept the_rest (rest_askings_of old (take i ds)) parts staying asking kept_split x
        (found-IsAvoidedBy env new kept the_rest asking q step-AreOne x (subst (TellsPart env new kept q) is tells)))

    pub step-Held : finding ≡ FoundHeld → AreSplit env new kept the_rest (rest_askings_of old (take (i + 1) ds)) parts (staying ++ (get_or ds i none).atom ∷ [])
    step-Held is =
        subst (λ bs. AreSplit env new kept the_rest bs parts (staying ++ (get_or ds i none).atom ∷ [])) (sym (one_more_asking old ds i none within))
        (one_more_staying env new kept the_rest (rest_askings_of old (take i ds)) parts staying asking kept_split
        (held-MustStay env new kept the_rest asking q step-AreOne (subst (TellsPart env new kept q) is tells)))
