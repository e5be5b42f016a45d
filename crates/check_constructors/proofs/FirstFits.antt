-- The first choice that fits.
use Rattle.std.proofs.Common.{◌≡◌, ◌≤◌, ◌<◌, ◌↔◌, ◌+◌, ◌++◌, ◌∙◌, ℕ, zero, suc, Bool, true, false, IsTrue, List, [], ◌∷◌, All, Some, Ok, Err, get_or, length, slice_get, take, refl, sym, subst, ap, add-one}
use Rattle.std.proofs.lemmas.Bool.{false≢true}
use Rattle.std.proofs.lemmas.List.{take_all}
use Rattle.std.proofs.lemmas.Option.{slice_get-get_or}
use Rattle.std.proofs.lemmas.List.Elements.{All-push}
use Rattle.bal_base.specs.declared.fault.Fault.{Fault}
use Rattle.bal_base.specs.declared.place.Place.{Place}
use Rattle.bal_base.specs.declared.stop.Stop.{Stop}
use Rattle.bal_base.specs.declared.stop.Stop.TheVariants.{Memory, Fault as OwnFault}
use Rattle.checks.specs.Checks.{Comes}
use Rattle.type_model.specs.declared.basic.Choice.{Choice}
use Rattle.check_words.specs.Constructors.{IsFirst, first_fit}
use Rattle.check_words.specs.Words.{Atoms}
use Rattle.check_kinds.specs.Over.{ComesOver}
use Rattle.check_constructors.specs.Fitting.{IsNoChoice}

-- a list around the member at a place
record Around {A : Type 0} (xs : List A) (i : ℕ) (x : A) : Type 0 where
  before : List A
  behind : List A
  whole : xs ≡ before ++ x ∷ behind
  front : before ≡ take i xs

around : {A : Type 0} (xs : List A) (i : ℕ) (x : A) → slice_get xs i ≡ Some x → Around xs i x
around [] i x e = absurd (cc)
around (y ∷ ys) zero x e = record { before = []; behind = ys; whole = let same : y ≡ x = cc in ap (λ z. z ∷ ys) same; front = refl }
around (y ∷ ys) (suc i) x e = let r = around ys i x e in
    record { before = y ∷ r.before; behind = r.behind; whole = ap (λ zs. y ∷ zs) r.whole; front = ap (λ zs. y ∷ zs) r.front }

take-next : {A : Type 0} (xs : List A) (i : ℕ) (x : A) → slice_get xs i ≡ Some x → take (suc i) xs ≡ take i xs ++ x ∷ []
take-next [] i x e = absurd (cc)
take-next (y ∷ ys) zero x e = let same : y ≡ x = cc in ap (λ z. z ∷ []) same
take-next (y ∷ ys) (suc i) x e = ap (λ zs. y ∷ zs) (take-next ys i x e)

-- the choice at a place, as a loop over choices has it
abbrev pub no_choice : Choice
no_choice = record { atom = 0; immutable = false }

abbrev pub choice_at : List Choice → ℕ → Choice
choice_at choices i = get_or choices i no_choice

pub is-there : (choices : List Choice) (i : ℕ) → i < length choices → slice_get choices i ≡ Some (choice_at choices i)
is-there choices i lt = slice_get-get_or choices i no_choice lt

-- the first so many are all
pub none-left : (P : Choice → Type 0) (choices : List Choice) (i : ℕ) → length choices ≤ i → All (λ d. ¬ P d) (take i choices) → All (λ d. ¬ P d) choices
none-left P choices i le h = subst (All (λ d. ¬ P d)) (take_all i choices le) h

module _ (Fits : Atoms → Choice → Type 0) (choices : List Choice) (at : Place) (env : Atoms) where
  first-at : (i : ℕ) (c : Choice) → All (λ d. ¬ Fits env d) (take i choices) → slice_get choices i ≡ Some c → Fits env c → IsFirst (Fits env) choices c
  first-at i c none e fits = let r = around choices i c e in
      record { before = r.before; behind = r.behind; is = r.whole; none_before = subst (All (λ d. ¬ Fits env d)) (sym r.front) none; fits = fits }

  pub over-first : (i : ℕ) (c : Choice) → All (λ d. ¬ Fits env d) (take i choices) → slice_get choices i ≡ Some c → Fits env c → ComesOver (first_fit Fits choices at) env (Ok c) env
  unfolding ComesOver Comes first_fit
  over-first i c none e fits s same =
      (subst (λ (o : Atoms). IsFirst (Fits o) choices c) (sym same) (first-at i c none e fits), subst (λ (o : Atoms). record s { atoms = o } ≡ s) same refl)

  -- as the loop finds it, over the definitions as they are handed over
  pub found-first : (defs : Atoms) (i : ℕ) (c : Choice) (b : Bool) → defs ≡ env → (IsTrue b ↔ Fits defs c) → b ≡ true → All (λ d. ¬ Fits env d) (take i choices)
      → slice_get choices i ≡ Some c → ComesOver (first_fit Fits choices at) env (Ok c) env
  found-first defs i c b e same is none at_c = over-first i c none at_c (subst (λ (o : Atoms). Fits o c) e (same.0 is))

  pub one-less : (defs : Atoms) (i : ℕ) (c : Choice) (b : Bool) → defs ≡ env → (IsTrue b ↔ Fits defs c) → b ≡ false → All (λ d. ¬ Fits env d) (take i choices)
      → slice_get choices i ≡ Some c → All (λ d. ¬ Fits env d) (take (i + 1) choices)
  one-less defs i c b e same fails none at_c =
      let more : take (i + 1) choices ≡ take i choices ++ c ∷ [] = rw add-one (take-next choices i c at_c) in
      subst (All (λ d. ¬ Fits env d)) (sym more)
      (All-push (λ d. ¬ Fits env d) (take i choices) c none (λ f. false≢true (sym fails ∙ same.1 (subst (λ (o : Atoms). Fits o c) (sym e) f))))

  pub over-no-choice : (stop : Stop Fault) → All (λ d. ¬ Fits env d) choices → IsNoChoice at stop → ComesOver (first_fit Fits choices at) env (Err stop) env
  unfolding ComesOver Comes first_fit
  over-no-choice (OwnFault f) none h s same =
      (subst (λ (o : Atoms). All (λ d. ¬ Fits o d) choices) (sym same) none, h, subst (λ (o : Atoms). record s { atoms = o } ≡ s) same refl)
  over-no-choice Memory none h s same = tt
