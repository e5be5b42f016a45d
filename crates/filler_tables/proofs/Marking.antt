-- Marks that are made one after another, and rounds up to where nothing changes.
use Rattle.std.proofs.Common.{◌≡◌, ◌⊎◌, ◌↔◌, ◌++◌, ◌+◌, ◌<◌, ◌≤◌, ◌≢◌, ◌∙◌, ℕ, zero, suc, Bool, true, false, cond, List, [], ◌∷◌, Option, Some, None, ap, arith, get_or, inl, inr, length, length-append, refl, slice_get, sym, subst, take}
use Rattle.std.specs.List.{count_by}
use Rattle.std.proofs.lemmas.Bool.{false≢true}
use Rattle.std.proofs.lemmas.List.{get_or_append_left, get_or_past}
use Rattle.std.proofs.lemmas.List.Sums.{count_by-le-length, sum_by-cons}
use Rattle.std.proofs.lemmas.Option.{slice_get_within}
use Rattle.std.proofs.Math.Seq.{get_or-append_seam}
use Rattle.type_model.specs.declared.atoms.AtomDef.{AtomDef}
use Rattle.type_model.specs.declared.atoms.AtomDef.TheVariants.{List as ListAtom, Mapping as MappingAtom, Arrow, Error as ErrorAtom, Future as FutureAtom}
use Rattle.list_fillers.specs.declared.candidate.Candidate.{Candidate}
use Rattle.list_fillers.specs.declared.candidate.Candidate.TheVariants.{OfList, Settled, Without}
use Rattle.list_fillers.specs.Candidates.{KnowsCandidates}
use Rattle.list_fillers.specs.Marks.{AreSound, CanFill, IsRound, has_filler, is_marked}
use Rattle.list_fillers.proofs.Rounds.{marks-stay-sound}

-- ---- one mark after another

module _ (defs : List AtomDef) (rows : List (List Candidate)) (old : List Bool) where
  -- those of the first i atoms
  pub record AreMarked (i : ℕ) (new : List Bool) : Type 0 where
    pub long : length new ≡ i
    pub each : (k : ℕ) (d : AtomDef) → k < i → slice_get defs k ≡ Some d → (is_marked new k ≡ true) ↔ CanFill old d (get_or rows k [])

  pub none-marked : AreMarked 0 []
  none-marked = record { long = refl; each = λ k d lt e. absurd (omega (arith, lt)) }

  split : (k i : ℕ) → k < i + 1 → (k < i) ⊎ (k ≡ i)
  split k zero lt = inr (omega (arith, lt))
  split zero (suc i) lt = inl (omega arith)
  split (suc k) (suc i) lt = later (split k i (omega (arith, lt)))
    where
      later : (k < i) ⊎ (k ≡ i) → (suc k < suc i) ⊎ (suc k ≡ suc i)
      later (inl less) = inl (omega (arith, less))
      later (inr e) = inr (ap suc e)

  pub marked-more : (i : ℕ) (new zs : List Bool) (b : Bool) (d : AtomDef) → AreMarked i new → slice_get defs i ≡ Some d → (b ≡ true) ↔ CanFill old d (get_or rows i []) → zs ≡ new ++ b ∷ [] → AreMarked (i + 1) zs
  marked-more i new zs b d before there here more = subst (AreMarked (i + 1)) (sym more) (record { long = long; each = each })
    where
      long : length (new ++ b ∷ []) ≡ i + 1
      long = omega (arith, length-append new (b ∷ []), before.long)

      last : is_marked (new ++ b ∷ []) i ≡ b
      last = subst (λ (j : ℕ). is_marked (new ++ b ∷ []) j ≡ b) before.long (get_or-append_seam new b [] false)

      each : (k : ℕ) (e : AtomDef) → k < i + 1 → slice_get defs k ≡ Some e → (is_marked (new ++ b ∷ []) k ≡ true) ↔ CanFill old e (get_or rows k [])
      each k e lt at = by (split k i lt)
        where
          by : (k < i) ⊎ (k ≡ i) → (is_marked (new ++ b ∷ []) k ≡ true) ↔ CanFill old e (get_or rows k [])
          by (inl less) =
              let within : k < length new = omega (arith, less, before.long) in
              subst (λ (m : Bool). (m ≡ true) ↔ CanFill old e (get_or rows k [])) (sym (get_or_append_left new (b ∷ []) false k within)) (before.each k e less at)
          by (inr same) =
              let here' : (is_marked (new ++ b ∷ []) i ≡ true) ↔ CanFill old d (get_or rows i []) = subst (λ (m : Bool). (m ≡ true) ↔ CanFill old d (get_or rows i [])) (sym last) here in
              let at' : slice_get defs i ≡ Some e = subst (λ (j : ℕ). slice_get defs j ≡ Some e) same at in
              let one : d ≡ e = cc in
              subst (λ (j : ℕ). (is_marked (new ++ b ∷ []) j ≡ true) ↔ CanFill old e (get_or rows j [])) (sym same)
              (subst (λ (x : AtomDef). (is_marked (new ++ b ∷ []) i ≡ true) ↔ CanFill old x (get_or rows i [])) one here')

  pub all-marked : (n : ℕ) (new : List Bool) → n ≡ length defs → AreMarked n new → IsRound defs rows old new
  all-marked n new e all = record {
    within = λ a d at. let lt = slice_get_within defs a d at in all.each a d (omega (arith, lt, e)) at;
    beyond = λ a le. get_or_past new a false (omega (arith, le, all.long, e));
  }

-- ---- how many marks there are

more-marks : (xs ys : List Bool) → length xs ≡ length ys → ((k : ℕ) → is_marked xs k ≡ true → is_marked ys k ≡ true) → (count_by (λ m. m) xs ≤ count_by (λ m. m) ys) × (count_by (λ m. m) xs ≡ count_by (λ m. m) ys → xs ≡ ys)
more-marks [] [] long below = (omega arith, λ e. refl)
more-marks [] (y ∷ ys) long below = absurd (omega (arith, long))
more-marks (x ∷ xs) [] long below = absurd (omega (arith, long))
more-marks (x ∷ xs) (y ∷ ys) long below = by x y (below 0) (sum_by-cons (λ m. cond m 1 0) x xs) (sum_by-cons (λ m. cond m 1 0) y ys) (more-marks xs ys (omega (arith, long)) (λ k h. below (suc k) h))
  where
    by : (a b : Bool) → (a ≡ true → b ≡ true) → count_by (λ m. m) (a ∷ xs) ≡ cond a 1 0 + count_by (λ m. m) xs → count_by (λ m. m) (b ∷ ys) ≡ cond b 1 0 + count_by (λ m. m) ys
        → (count_by (λ m. m) xs ≤ count_by (λ m. m) ys) × (count_by (λ m. m) xs ≡ count_by (λ m. m) ys → xs ≡ ys)
        → (count_by (λ m. m) (a ∷ xs) ≤ count_by (λ m. m) (b ∷ ys)) × (count_by (λ m. m) (a ∷ xs) ≡ count_by (λ m. m) (b ∷ ys) → a ∷ xs ≡ b ∷ ys)
    by true true h e f (le, same) = (omega (arith, e, f, le), λ g. ap (λ zs. true ∷ zs) (same (omega (arith, e, f, g))))
    by false false h e f (le, same) = (omega (arith, e, f, le), λ g. ap (λ zs. false ∷ zs) (same (omega (arith, e, f, g))))
    by false true h e f (le, same) = (omega (arith, e, f, le), λ g. absurd (omega (arith, e, f, g, le)))
    by true false h e f (le, same) = absurd (false≢true (h refl))

-- ---- from round to round

past : {X : Type 0} (xs : List X) (k : ℕ) → slice_get xs k ≡ None → length xs ≤ k
past [] k none = omega arith
past (x ∷ xs) zero none = absurd (let bad : ⊥ = cc in bad)
past (x ∷ xs) (suc k) none = let le = past xs k none in omega (arith, le)

module _ (defs : List AtomDef) (rows : List (List Candidate)) where
  has-more : (old new : List Bool) → ((k : ℕ) → is_marked old k ≡ true → is_marked new k ≡ true) → (c : Candidate) → has_filler old c ≡ true → has_filler new c ≡ true
  has-more old new below (Settled f) h = refl
  has-more old new below (OfList a) h = below a h
  has-more old new below Without h = h

  can-more : (old new : List Bool) → ((k : ℕ) → is_marked old k ≡ true → is_marked new k ≡ true) → (d : AtomDef) (cs : List Candidate) → CanFill old d cs → CanFill new d cs
  can-more old new below (ListAtom fixed rest) cs h = λ k x lt. has-more old new below (get_or (take (length fixed) cs) k x) (h k x lt)
  can-more old new below (MappingAtom fields rest) cs h = h
  can-more old new below (Arrow args outcome alone) cs h = h
  can-more old new below (ErrorAtom detail) cs h = h
  can-more old new below (FutureAtom outcome) cs h = h

  -- marks on the way: what is marked can be filled by them, and there is a mark for each atom
  pub record OnTheWay (marks : List Bool) : Type 0 where
    pub long : length marks ≡ length defs
    pub sound : AreSound defs rows marks
    pub kept : (a : ℕ) (d : AtomDef) → slice_get defs a ≡ Some d → is_marked marks a ≡ true → CanFill marks d (get_or rows a [])

  none-below : (new : List Bool) (k : ℕ) → is_marked [] k ≡ true → is_marked new k ≡ true
  none-below new k h = absurd (false≢true (sym (get_or_past [] k false (omega arith)) ∙ h))

  pub first-round : KnowsCandidates defs rows → (new : List Bool) → length new ≡ length defs → IsRound defs rows [] new → OnTheWay new
  first-round known new long round = record {
    long = long;
    sound = marks-stay-sound defs rows [] new known (λ a h. absurd (false≢true (sym (get_or_past [] a false (omega arith)) ∙ h))) round;
    kept = λ a d e h. can-more [] new (none-below new) d (get_or rows a []) ((round.within a d e).0 h);
  }

  module _ (known : KnowsCandidates defs rows) (old new : List Bool) (long : length new ≡ length defs) (way : OnTheWay old) (round : IsRound defs rows old new) where
    below : (k : ℕ) → is_marked old k ≡ true → is_marked new k ≡ true
    below k h = by (slice_get defs k) refl
      where
        by : (o : Option AtomDef) → slice_get defs k ≡ o → is_marked new k ≡ true
        by (Some d) e = (round.within k d e).1 (way.kept k d e h)
        by None e = let behind = past defs k e in absurd (false≢true (sym (get_or_past old k false (omega (arith, way.long, behind))) ∙ h))

    pub next-round : OnTheWay new
    next-round = record {
      long = long;
      sound = marks-stay-sound defs rows old new known way.sound round;
      kept = λ a d e h. can-more old new below d (get_or rows a []) ((round.within a d e).0 h);
    }

    pub grown : count_by (λ m. m) old ≤ count_by (λ m. m) new
    grown = (more-marks old new (way.long ∙ sym long) below).0

    pub still : count_by (λ m. m) new ≡ count_by (λ m. m) old → IsRound defs rows old old
    still e = let same : old ≡ new = (more-marks old new (way.long ∙ sym long) below).1 (sym e) in subst (IsRound defs rows old) (sym same) round

  pub at-most-all : (marks : List Bool) → OnTheWay marks → count_by (λ m. m) marks ≤ length defs
  at-most-all marks way = let le = count_by-le-length (λ m. m) marks in omega (arith, le, way.long)
