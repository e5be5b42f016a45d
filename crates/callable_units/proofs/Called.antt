-- What the tables tell of units.
use Rattle.std.proofs.Common.{◌≡◌, ◌∙◌, ◌↔◌, ◌⊎◌, ◌≤◌, ◌<◌, ◌+◌, ◌++◌, ℕ, zero, suc, Bool, true, false, List, [], ◌∷◌, Option, Some, None, Result, Ok, Err, All, IfOk, IsSomeAnd, IsTrue, ap, arith, get_or, inl, inr, length, refl, slice_get, subst, sym}
use Rattle.std.proofs.lemmas.List.Elements.{All-contains}
use Rattle.std.proofs.lemmas.Option.{slice_get_within}
use Rattle.std.proofs.lemmas.Bool.{false≢true}
use Rattle.stack_code.specs.declared.code.Code.{Code}
use Rattle.stack_code.specs.declared.code.Unit.{Unit as CodeUnit}
use Rattle.stack_code.specs.Tables.{IsCallable, IsInherent}
use Rattle.callable_units.specs.Calling.{TellsCallable}
use Rattle.callable_units.specs.inner.Marks.{AreMarked, IsFree, IsOwnInherent}

-- a mark, and its number beyond the others
beyond : (marks : List Bool) (n : ℕ) → length marks ≤ n → get_or marks n false ≡ false
beyond [] n le = refl
beyond (m ∷ marks) zero le = absurd (omega (arith, le))
beyond (m ∷ marks) (suc n) le = beyond marks n (omega (arith, le))

less-or : (a b : ℕ) → (a < b) ⊎ (b ≤ a)
less-or a zero = inr (omega arith)
less-or zero (suc b) = inl (omega arith)
less-or (suc a) (suc b) = by (less-or a b)
  where
    by : (a < b) ⊎ (b ≤ a) → (suc a < suc b) ⊎ (suc b ≤ suc a)
    by (inl lt) = inl (omega (arith, lt))
    by (inr le) = inr (omega (arith, le))

-- of numbers that are all below the count
pub marked-all : (count : ℕ) (P : ℕ → Type 0) (marks : List Bool) → AreMarked count P marks → ((n : ℕ) → P n → n < count) → (n : ℕ) (r : Bool) → r ≡ get_or marks n false → IsTrue r ↔ P n
marked-all count P marks are few n r is = by (less-or n count)
  where
    by : (n < count) ⊎ (count ≤ n) → IsTrue r ↔ P n
    by (inl lt) = subst (λ (b : Bool). IsTrue b ↔ P n) (sym is) (are.1 n lt)
    by (inr le) =
        let no : r ≡ false = is ∙ beyond marks n (omega (arith, le, are.0)) in
        ((λ t. absurd (false≢true (sym no ∙ t))), (λ p. let lt : n < count = few n p in absurd (omega (arith, lt, le))))

pub few-inherent : (code : Code) → All (λ a. a < length code.atoms) code.inherent → (n : ℕ) → IsInherent code n → n < length code.atoms
few-inherent code all n h = All-contains (λ a. a < length code.atoms) code.inherent n all h

-- a mark that isn't there
pub is-not : (count : ℕ) (P : ℕ → Type 0) (marks : List Bool) (n : ℕ) (r : Bool) → AreMarked count P marks → n < count → r ≡ get_or marks n false → IsTrue r ↔ P n
is-not count P marks n r are lt is = subst (λ (b : Bool). IsTrue b ↔ P n) (sym is) (are.1 n lt)

-- the unit with the number
pub unit-so : (code : Code) (u : CodeUnit) (n : ℕ) (r : Bool) → slice_get code.units n ≡ Some u → IsTrue r ↔ (IsOwnInherent code u × IsFree code n) → IsTrue r ↔ IsCallable code n
unit-so code u n r there h = (
  (λ t. let q = h.0 t in (subst (λ (o : Option CodeUnit). IsSomeAnd o (IsOwnInherent code)) (sym there) q.0, q.1.0, q.1.1)),
  (λ q. h.1 (subst (λ (o : Option CodeUnit). IsSomeAnd o (IsOwnInherent code)) there q.0, (q.1, q.2))),
)

-- ---- rows

last-or : (a b : ℕ) → a < b + 1 → (a < b) ⊎ (a ≡ b)
last-or a b h = grind arith

module _ (P : ℕ → Type 0) where
  abbrev pub Rows : List Bool → ℕ → Type 0
  Rows rows k = (length rows ≡ k) × ((n : ℕ) → n < k → IsTrue (get_or rows n false) ↔ P n)

  get-front : (rows : List Bool) (r : Bool) (n : ℕ) → n < length rows → get_or (rows ++ r ∷ []) n false ≡ get_or rows n false
  get-front [] r n lt = absurd (omega (arith, lt))
  get-front (x ∷ rows) r zero lt = refl
  get-front (x ∷ rows) r (suc n) lt = get-front rows r n (omega (arith, lt))

  get-last : (rows : List Bool) (r : Bool) → get_or (rows ++ r ∷ []) (length rows) false ≡ r
  get-last [] r = refl
  get-last (x ∷ rows) r = get-last rows r

  long : (rows : List Bool) (r : Bool) → length (rows ++ r ∷ []) ≡ length rows + 1
  long [] r = refl
  long (x ∷ rows) r = let e : length (rows ++ r ∷ []) ≡ length rows + 1 = long rows r in omega (arith, e)

  pub rows-more : (rows new : List Bool) (k : ℕ) (r : Bool) → new ≡ rows ++ r ∷ [] → Rows rows k → IsTrue r ↔ P k → Rows new (k + 1)
  rows-more rows new k r is h here = subst (λ (l : List Bool). Rows l (k + 1)) (sym is) (let e = long rows r in omega (arith, e, h.0), (λ n lt. by n (last-or n k lt)))
    where
      by : (n : ℕ) → (n < k) ⊎ (n ≡ k) → IsTrue (get_or (rows ++ r ∷ []) n false) ↔ P n
      by n (inl less) = subst (λ (b : Bool). IsTrue b ↔ P n) (sym (get-front rows r n (omega (arith, less, h.0)))) (h.1 n less)
      by n (inr e) =
          let at : length rows ≡ n = omega (arith, e, h.0) in
          subst (λ (b : Bool). IsTrue b ↔ P n) (sym (ap (λ (m : ℕ). get_or (rows ++ r ∷ []) m false) (sym at) ∙ get-last rows r)) (subst (λ (m : ℕ). IsTrue r ↔ P m) (sym e) here)

-- nothing is said of a number beyond the units
pub rows-tell : (code : Code) (rows : List Bool) (k : ℕ) → k ≡ length code.units → Rows (IsCallable code) rows k → TellsCallable code rows
rows-tell code rows k all h n = by (less-or n k)
  where
    by : (n < k) ⊎ (k ≤ n) → IsTrue (get_or rows n false) ↔ IsCallable code n
    by (inl lt) = h.1 n lt
    by (inr le) =
        let no : get_or rows n false ≡ false = beyond rows n (omega (arith, le, h.0)) in
        ((λ t. absurd (false≢true (sym no ∙ t))), (λ c. absurd (out (slice_get code.units n) refl c.0)))
      where
        out : (o : Option CodeUnit) → slice_get code.units n ≡ o → IsSomeAnd o (IsOwnInherent code) → ⊥
        out (Some u) at own = let lt : n < length code.units = slice_get_within code.units n u at in omega (arith, lt, le, all)
        out None at own = own

pub get-there : (units : List CodeUnit) (n : ℕ) (u : CodeUnit) → n < length units → u ≡ get_or units n u → slice_get units n ≡ Some u
get-there units n u lt is = at units n u lt ∙ ap (λ (v : CodeUnit). Some v) (sym is)
  where
    at : (us : List CodeUnit) (k : ℕ) (d : CodeUnit) → k < length us → slice_get us k ≡ Some (get_or us k d)
    at [] k d less = absurd (omega (arith, less))
    at (v ∷ us) zero d less = refl
    at (v ∷ us) (suc k) d less = at us k d (omega (arith, less))

pub on-ok : {A E : Type 0} (P Q : A → Type 0) (r : Result A E) → IfOk r P → ((x : A) → P x → Q x) → IfOk r Q
on-ok P Q (Ok x) h f = f x h
on-ok P Q (Err e) h f = tt
