-- A variable by its name, and by its place among those that are seen.
use Rattle.std.proofs.Common.{◌≡◌, ℕ, suc, Bool, true, false, List, [], ◌∷◌, Option, Some, slice_get, if◌then◌else◌, refl, ap}
use Rattle.bal_base.specs.declared.text.Name.{Name}
use Rattle.flow_narrowing.specs.declared.flow.Variable.{Variable}
use Rattle.flow_narrowing.specs.Changes.{put, with_narrowed}
use Rattle.type_model.specs.Places.{is_same_text}
use Rattle.typed_tree.specs.SharedTypes.{Shared}
use Rattle.check_words.specs.State.{find_variable, narrowed_by_name}

-- the place of the first variable of this name, or behind all of them
abbrev pub index_of : List Variable → Name → ℕ
index_of [] name = 0
index_of (v ∷ vs) name = if is_same_text v.name name then 0 else suc (index_of vs name)

-- narrowed by its name, it is narrowed at its place
pub narrowed-at : (vs : List Variable) (name : Name) (t : Option Shared) → narrowed_by_name vs name t ≡ put vs (index_of vs name) t
narrowed-at [] name t = refl
narrowed-at (v ∷ vs) name t = by (narrowed-at vs name t) (is_same_text v.name name)
  where
    by : narrowed_by_name vs name t ≡ put vs (index_of vs name) t → (b : Bool)
        → (if b then with_narrowed v t ∷ vs else v ∷ narrowed_by_name vs name t) ≡ put (v ∷ vs) (if b then 0 else suc (index_of vs name)) t
    by behind true = refl
    by behind false = ap (λ us. v ∷ us) behind

-- found by its name, it is the one at its place
pub found-at : (vs : List Variable) (name : Name) → find_variable vs name ≡ slice_get vs (index_of vs name)
found-at [] name = refl
found-at (v ∷ vs) name = by (found-at vs name) (is_same_text v.name name)
  where
    by : find_variable vs name ≡ slice_get vs (index_of vs name) → (b : Bool)
        → (if b then Some v else find_variable vs name) ≡ slice_get (v ∷ vs) (if b then 0 else suc (index_of vs name))
    by behind true = refl
    by behind false = behind
