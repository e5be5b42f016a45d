-- Prefixes that are known, each once.
use Rattle.std.proofs.Common.{◌≡◌, ◌||◌, ℕ, Bool, true, false, cond, List, [], ◌∷◌, ◌++◌, nat_cmp, refl, sym, ap, ◌∙◌}
use Rattle.std.specs.Cmp.Lexicographic.{nat_list_eq_equiv, slice_cmp}
use Rattle.std.specs.List.{list_any}
use Rattle.std.specs.Ordering.{is_eq}
use Rattle.std.specs.Str.{bytes_eq}
use Rattle.std.proofs.lemmas.List.Folds.{list_any-append}
use Rattle.std.proofs.lemmas.Map.Text.{is_eq-slice_cmp}

flips : (xs ys : List ℕ) → bytes_eq xs ys ≡ bytes_eq ys xs
flips xs ys = nat_list_eq_equiv.symm xs ys

put : (here b c : Bool) → b ≡ c → cond here true b ≡ (c || (here || false))
put true b true e = refl
put true b false e = refl
put false b true e = e
put false b false e = e

-- one more prefix
pub known-more : (prefix q : List ℕ) (front : List (List ℕ)) (old new : Bool) → new ≡ cond (is_eq (slice_cmp nat_cmp prefix q)) true old → old ≡ list_any (bytes_eq q) front
    → new ≡ list_any (bytes_eq q) (front ++ prefix ∷ [])
known-more prefix q front old new is was =
    let test : is_eq (slice_cmp nat_cmp prefix q) ≡ bytes_eq q prefix = is_eq-slice_cmp prefix q ∙ flips prefix q in
    is ∙ (ap (λ b. cond b true old) test ∙ (put (bytes_eq q prefix) old (list_any (bytes_eq q) front) was ∙ sym (list_any-append (bytes_eq q) front (prefix ∷ []))))

-- nothing is known
pub none-at : (keys : List (List ℕ)) → keys ≡ [] → (q : List ℕ) → list_any (λ k. is_eq (slice_cmp nat_cmp q k)) keys ≡ false
none-at keys e q = ap (list_any (λ k. is_eq (slice_cmp nat_cmp q k))) e
