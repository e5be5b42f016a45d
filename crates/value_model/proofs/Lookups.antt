-- What stands in a table of tests at the place of an inherent atom.
use Rattle.std.proofs.Common.{◌≡◌, ◌<◌, ◌-◌, ◌++◌, ℕ, zero, suc, Bool, List, [], ◌∷◌, Option, Some, None, IsSomeAnd, length, slice_get, sym, subst, arith}
use Rattle.std.specs.Prelude.{min, option_to_list, slice_index_or, ⊤}
use Rattle.std.specs.List.{AllZip}
use Rattle.type_model.specs.declared.basic.Ty.{Ty}
use Rattle.type_model.specs.declared.atoms.AtomDef.{AtomDef}
use Rattle.type_model.specs.declared.atoms.AtomDef.TheVariants.{List as ListAtom, Mapping as MappingAtom, Arrow, Error as ErrorAtom, Future as FutureAtom}
use Rattle.type_model.specs.Places.{item_type}
use Rattle.value_model.specs.declared.filler.Filler.{Filler}
use Rattle.value_model.specs.Exact.{AnswersExactly, AreFillers, Fills, FillsExactly, IsExactAnswer}
use Rattle.value_model.specs.Table.{AllowsPlace, TestTable, IsExact, type_at}

zip_at : {A B : Type 0} (R : A → B → Type 0) (xs : List A) (ys : List B) (i : ℕ) (x : A) → AllZip R xs ys → slice_get xs i ≡ Some x → (i < length ys) × ((d : B) → R x (slice_index_or ys i d))
zip_at {A} {B} R [] ys i x z e = let P : Option A → Type 0 = λ o. IsSomeAnd o (λ _. ⊤) in absurd (subst P (sym e) tt)
zip_at {A} {B} R (a ∷ xs) [] i x z e = absurd z
zip_at {A} {B} R (a ∷ xs) (b ∷ ys) zero x z e = let P : Option A → Type 0 = λ o. IsSomeAnd o (λ v. R v b) in (omega arith, λ d. subst P e z.0)
zip_at {A} {B} R (a ∷ xs) (b ∷ ys) (suc i) x z e = let r = zip_at R xs ys i x z.1 e in let h : i < length ys = r.0 in (omega arith, r.1)

pub answers_at : (t : TestTable) (i a : ℕ) → IsExact t → slice_get t.inherent i ≡ Some a → (i < length t.answers) × ((d : List Bool) → AnswersExactly t.atoms t.tested a (slice_index_or t.answers i d))
answers_at t i a exact e = zip_at (AnswersExactly t.atoms t.tested) t.inherent t.answers i a exact.answers e

pub fillers_at : (t : TestTable) (i a : ℕ) → IsExact t → slice_get t.inherent i ≡ Some a → (i < length t.fillers) × ((d : List Filler) → FillsExactly t.atoms a (slice_index_or t.fillers i d))
fillers_at t i a exact e = zip_at (FillsExactly t.atoms) t.inherent t.fillers i a exact.fillers e

zip_within : {A B : Type 0} (R : A → B → Type 0) (xs : List A) (ys : List B) (i : ℕ) → AllZip R xs ys → i < length xs → (i < length ys) × ((d : B) → IsSomeAnd (slice_get xs i) (λ x. R x (slice_index_or ys i d)))
zip_within R [] ys i z h = absurd (omega arith)
zip_within R (a ∷ xs) [] i z h = absurd z
zip_within R (a ∷ xs) (b ∷ ys) zero z h = (omega arith, λ d. z.0)
zip_within R (a ∷ xs) (b ∷ ys) (suc i) z h =
    let k : i < length xs = omega arith in let r = zip_within R xs ys i z.1 k in let l : i < length ys = r.0 in (omega arith, r.1)

pub answer_at : (t : TestTable) (a j : ℕ) (answers : List Bool) → AnswersExactly t.atoms t.tested a answers → j < length t.tested → (j < length answers) × ((d : Bool) → IsSomeAnd (slice_get t.tested j) (λ u. IsExactAnswer t.atoms a u (slice_index_or answers j d)))
answer_at t a j answers exact h = zip_within (IsExactAnswer t.atoms a) t.tested answers j exact h

-- ---- the filler of a place

-- the last place serves all later ones
abbrev pub served : ℕ → ℕ → ℕ
served last k = min k last

place_fills : (P : Ty → Filler → Type 0) (fixed : List Ty) (rest : Option Ty) (fs : List Filler) (k : ℕ) → AllZip P (fixed ++ option_to_list rest) fs → IsSomeAnd (item_type fixed rest k) (λ t. ⊤) → (0 < length fs) × ((d : Filler) → IsSomeAnd (item_type fixed rest k) (λ t. P t (slice_index_or fs (served (length fs - 1) k) d)))
place_fills P [] None fs k z h = absurd h
place_fills P [] (Some r) [] k z h = absurd z
place_fills P [] (Some r) (f ∷ []) k z h =
    let e : served 0 k ≡ 0 = omega arith in
    (omega arith, λ d. let Q : ℕ → Type 0 = λ i. P r (slice_index_or (f ∷ []) i d) in subst Q (sym e) z.0)
place_fills P [] (Some r) (f ∷ g ∷ fs) k z h = absurd z.1
place_fills P (t ∷ ts) rest [] k z h = absurd z
place_fills P (t ∷ ts) rest (f ∷ fs) zero z h =
    let e : served (length (f ∷ fs) - 1) 0 ≡ 0 = omega arith in
    (omega arith, λ d. let Q : ℕ → Type 0 = λ i. P t (slice_index_or (f ∷ fs) i d) in subst Q (sym e) z.0)
place_fills P (t ∷ ts) rest (f ∷ fs) (suc k) z h =
    let r = place_fills P ts rest fs k z.1 h in
    let l : 0 < length fs = r.0 in
    let e : served (length (f ∷ fs) - 1) (suc k) ≡ suc (served (length fs - 1) k) = omega arith in
    (omega arith, λ d. let Q : ℕ → Type 0 = λ i. IsSomeAnd (item_type ts rest k) (λ u. P u (slice_index_or (f ∷ fs) i d)) in subst Q (sym e) (r.1 d))

def_fills : (atoms : List AtomDef) (d : AtomDef) (fs : List Filler) (k : ℕ) → AreFillers atoms d fs → AllowsPlace d k → (0 < length fs) × ((e : Filler) → IsSomeAnd (type_at d k) (λ t. Fills atoms t (slice_index_or fs (served (length fs - 1) k) e)))
def_fills atoms (ListAtom fixed rest) fs k z h = place_fills (Fills atoms) fixed rest fs k z h
def_fills atoms (MappingAtom fields rest) fs k z h = absurd h
def_fills atoms (Arrow args outcome alone) fs k z h = absurd h
def_fills atoms (ErrorAtom detail) fs k z h = absurd h
def_fills atoms (FutureAtom outcome) fs k z h = absurd h

option_fills : (atoms : List AtomDef) (o : Option AtomDef) (fs : List Filler) (k : ℕ) → IsSomeAnd o (λ d. AreFillers atoms d fs) → IsSomeAnd o (λ d. AllowsPlace d k) → (0 < length fs) × ((e : Filler) → IsSomeAnd o (λ d. IsSomeAnd (type_at d k) (λ t. Fills atoms t (slice_index_or fs (served (length fs - 1) k) e))))
option_fills atoms None fs k z h = absurd z
option_fills atoms (Some d) fs k z h = def_fills atoms d fs k z h

pub filler_fills : (t : TestTable) (a k : ℕ) (fs : List Filler) → FillsExactly t.atoms a fs → IsSomeAnd (slice_get t.atoms a) (λ d. AllowsPlace d k) → (0 < length fs) × ((e : Filler) → IsSomeAnd (slice_get t.atoms a) (λ d. IsSomeAnd (type_at d k) (λ u. Fills t.atoms u (slice_index_or fs (served (length fs - 1) k) e))))
filler_fills t a k fs z h = option_fills t.atoms (slice_get t.atoms a) fs k z h
