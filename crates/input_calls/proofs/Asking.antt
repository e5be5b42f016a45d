-- Whether a call is among those that are listed.
use Rattle.std.proofs.Common.{◌≡◌, ◌⊎◌, Bool, true, false, List, [], ◌∷◌, ◌++◌, refl, sym, ap, subst, arith, ◌∙◌, inl, inr, ⊎_elim}
use Rattle.std.specs.Prelude.{◌↔◌, ◌||◌, ◌<◌, ◌+◌, ℕ, IsTrue, Contains, length, slice_index_or}
use Rattle.std.proofs.lemmas.List.Elements.{Contains-append_left, Contains-append_right, Contains-append_cases}
use Rattle.operations.specs.declared.library.LibraryCall.{LibraryCall}
use Rattle.operations.specs.declared.library.LibraryCall.TheVariants as call
use Rattle.operations.specs.declared.library.LibraryCall.TheVariants.{Readln}
use Rattle.typed_tree.specs.Listed.{Listed, nothing, one, ◌&◌, members, run}
use Rattle.input_calls.specs.Calls.{asked, asks}
use Rattle.typed_tree.proofs.ExprLayers.{expr_layers}
use Rattle.typed_tree.proofs.StmtLayers.{stmt_layers}

pub ruleset asking = (expr_layers, stmt_layers)

-- ---- one call

only-one : (c d : LibraryCall) → Contains (c ∷ []) d → c ≡ d
only-one c d (k, fits, is) = subst (λ j. slice_index_or (c ∷ []) j d ≡ d) (first k fits) is
  where
    first : (j : ℕ) → j < 1 → j ≡ 0
    first j lt = omega (arith, lt)

has-one : (c : LibraryCall) → Contains (c ∷ []) c
has-one c = (0, omega arith, refl)

has-none : (d : LibraryCall) → Contains [] d → ⊥
has-none d (k, fits, is) = omega (arith, fits)

only-readln : (c : LibraryCall) → asks c ≡ true → c ≡ Readln
only-readln call.Println e = absurd (let bad : ⊥ = cc in bad)
only-readln call.Print e = absurd (let bad : ⊥ = cc in bad)
only-readln call.Readln e = refl
only-readln call.FromString e = absurd (let bad : ⊥ = cc in bad)
only-readln call.Abs e = absurd (let bad : ⊥ = cc in bad)
only-readln call.ToString e = absurd (let bad : ⊥ = cc in bad)
only-readln call.Clone e = absurd (let bad : ⊥ = cc in bad)
only-readln call.CloneReadOnly e = absurd (let bad : ⊥ = cc in bad)
only-readln call.StringLength e = absurd (let bad : ⊥ = cc in bad)
only-readln call.StartsWith e = absurd (let bad : ⊥ = cc in bad)
only-readln call.Trim e = absurd (let bad : ⊥ = cc in bad)
only-readln call.Substring e = absurd (let bad : ⊥ = cc in bad)
only-readln call.ToUpperAscii e = absurd (let bad : ⊥ = cc in bad)
only-readln call.ToLowerAscii e = absurd (let bad : ⊥ = cc in bad)
only-readln call.ToCodePointInts e = absurd (let bad : ⊥ = cc in bad)
only-readln call.ListLength e = absurd (let bad : ⊥ = cc in bad)
only-readln call.Push e = absurd (let bad : ⊥ = cc in bad)
only-readln call.Pop e = absurd (let bad : ⊥ = cc in bad)
only-readln call.RemoveItem e = absurd (let bad : ⊥ = cc in bad)
only-readln call.Slice e = absurd (let bad : ⊥ = cc in bad)
only-readln call.Reverse e = absurd (let bad : ⊥ = cc in bad)
only-readln call.MappingLength e = absurd (let bad : ⊥ = cc in bad)
only-readln call.Keys e = absurd (let bad : ⊥ = cc in bad)
only-readln call.HasKey e = absurd (let bad : ⊥ = cc in bad)
only-readln call.Get e = absurd (let bad : ⊥ = cc in bad)
only-readln call.RemoveKey e = absurd (let bad : ⊥ = cc in bad)
only-readln call.Message e = absurd (let bad : ⊥ = cc in bad)
only-readln call.Cause e = absurd (let bad : ⊥ = cc in bad)
only-readln call.Detail e = absurd (let bad : ⊥ = cc in bad)

asks-readln : (c : LibraryCall) → c ≡ Readln → asks c ≡ true
asks-readln c e = ap asks e

or-first : (a b : Bool) → a ≡ true → a || b ≡ true
or-first true b e = refl
or-first false b e = absurd (let bad : ⊥ = cc in bad)

or-second : (a b : Bool) → b ≡ true → a || b ≡ true
or-second true b e = refl
or-second false b e = e

or-either : (a b : Bool) → a || b ≡ true → (a ≡ true) ⊎ (b ≡ true)
or-either true b e = inl refl
or-either false b e = inr e

-- ---- what is listed

stays-found : (l : Listed LibraryCall) (b : Bool) → b ≡ true → run asked l b ≡ true
stays-found nothing b e = e
stays-found (one c) b e = or-first b (asks c) e
stays-found (p & q) b e = stays-found q (run asked p b) (stays-found p b e)

is-found : (l : Listed LibraryCall) (b : Bool) → Contains (members l) Readln → run asked l b ≡ true
is-found nothing b h = absurd (has-none Readln h)
is-found (one c) b h = or-second b (asks c) (asks-readln c (only-one c Readln h))
is-found (p & q) b h =
    ⊎_elim
    (λ first. stays-found q (run asked p b) (is-found p b first))
    (λ second. is-found q (run asked p b) second)
    (Contains-append_cases (members p) (members q) Readln h)

found-is : (l : Listed LibraryCall) (b : Bool) → run asked l b ≡ true → (b ≡ true) ⊎ Contains (members l) Readln
found-is nothing b e = inl e
found-is (one c) b e =
    ⊎_elim inl (λ here. inr (subst (λ d. Contains (c ∷ []) d) (only-readln c here) (has-one c))) (or-either b (asks c) e)
found-is (p & q) b e =
    ⊎_elim
    (λ before. ⊎_elim inl (λ first. inr (Contains-append_left (members p) (members q) Readln first)) (found-is p b before))
    (λ second. inr (Contains-append_right (members p) (members q) Readln second))
    (found-is q (run asked p b) e)

pub found-exactly : (l : Listed LibraryCall) (b : Bool) → b ≡ run asked l false → IsTrue b ↔ Contains (members l) Readln
found-exactly l b e =
    (λ yes. ⊎_elim (λ no. absurd (let bad : ⊥ = cc in bad)) (λ h. h) (found-is l false (sym e ∙ yes)), λ h. e ∙ is-found l false h)
