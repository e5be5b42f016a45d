-- Names that are known, each once.
use Rattle.std.proofs.Common.{◌≡◌, ◌||◌, ℕ, Bool, true, false, cond, List, [], ◌∷◌, ◌++◌, nat_cmp, refl, sym, ap, ◌∙◌}
use Rattle.std.specs.Cmp.Lexicographic.{nat_list_eq_equiv, slice_cmp}
use Rattle.std.specs.List.{list_any}
use Rattle.std.specs.Ordering.{is_eq}
use Rattle.std.specs.Str.{bytes_eq}
use Rattle.std.proofs.lemmas.List.Folds.{list_any-append}
use Rattle.std.proofs.lemmas.Map.Text.{is_eq-slice_cmp}

flips : (xs ys : List ℕ) → bytes_eq xs ys ≡ bytes_eq ys xs
flips xs ys = nat_list_eq_equiv.symm xs ys

put : (here a b c : Bool) → b ≡ (a || c) → cond here true b ≡ (a || (c || (here || false)))
put true true b c e = refl
put true false b true e = refl
put true false b false e = refl
put false true b c e = e
put false false b true e = e
put false false b false e = e

-- one more name
pub known-more : (folder q : List ℕ) (front : List (List ℕ)) (old new : Bool)
    → new ≡ cond (is_eq (slice_cmp nat_cmp folder q)) true old
    → old ≡ (bytes_eq q [] || list_any (bytes_eq q) front)
    → new ≡ (bytes_eq q [] || list_any (bytes_eq q) (front ++ folder ∷ []))
known-more folder q front old new is was =
    let test : is_eq (slice_cmp nat_cmp folder q) ≡ bytes_eq q folder = is_eq-slice_cmp folder q ∙ flips folder q in
    let here = is ∙ ap (λ b. cond b true old) test in
    here
    ∙ (put (bytes_eq q folder) (bytes_eq q []) old (list_any (bytes_eq q) front) was
    ∙ ap (λ b. bytes_eq q [] || b) (sym (list_any-append (bytes_eq q) front (folder ∷ []))))

-- the first one
pub known-first : (q : List ℕ) (old new : Bool) → new ≡ cond (is_eq (slice_cmp nat_cmp [] q)) true old → old ≡ false → new ≡ (bytes_eq q [] || false)
known-first q old new is none =
    let test : is_eq (slice_cmp nat_cmp [] q) ≡ bytes_eq q [] = is_eq-slice_cmp [] q ∙ flips [] q in
    is ∙ (ap (λ b. cond b true old) test ∙ last (bytes_eq q []) old none)
  where
    last : (a old : Bool) → old ≡ false → cond a true old ≡ (a || false)
    last true old e = refl
    last false old e = e

-- nothing is known
pub none-at : (keys : List (List ℕ)) → keys ≡ [] → (q : List ℕ) → list_any (λ k. is_eq (slice_cmp nat_cmp q k)) keys ≡ false
none-at keys e q = ap (list_any (λ k. is_eq (slice_cmp nat_cmp q k))) e
