-- The names of the modules, from what is known of them.
use Rattle.std.proofs.Common.{◌≡◌, ◌||◌, ◌⊎◌, inl, inr, ℕ, Bool, true, false, List, [], nat_cmp, refl, sym, ◌∙◌, subst}
use Rattle.std.specs.Prelude.{Contains, IfOk, Result, Ok, Err}
use Rattle.std.specs.Bool.{Decides}
use Rattle.std.specs.Cmp.Lexicographic.{slice_cmp}
use Rattle.std.specs.List.{list_any}
use Rattle.std.specs.List.Sorted.{IsStrictlySortedBy}
use Rattle.std.specs.Ordering.{is_eq}
use Rattle.std.specs.Set.{is_member}
use Rattle.std.specs.Str.{bytes_eq}
use Rattle.std.proofs.lemmas.Map.Made.{is_member-Decides}
use Rattle.std.proofs.lemmas.Map.Text.{is_eq-slice_cmp}
use Rattle.std.proofs.lemmas.Slice.Eq.{bytes_eq-Decides}
use Rattle.bal_base.specs.declared.stop.Memory.{Memory}
use Rattle.package_modules.specs.Modules.{AreModules}

-- the test of an order for a name
decides : (a b : List ℕ) → Decides (is_eq (slice_cmp nat_cmp a b)) (a ≡ b)
decides a b =
    let same = is_eq-slice_cmp a b in
    let bytes = bytes_eq-Decides a b in
    (λ h. bytes.0 (sym same ∙ h), λ e. same ∙ bytes.1 e)

-- a name is one of these where it is found among them
among : (names : List (List ℕ)) (q : List ℕ) → Decides (is_member (λ a b. is_eq (slice_cmp nat_cmp a b)) names q) (Contains names q)
among = is_member-Decides decides

member : (folders : List (List ℕ)) (q : List ℕ) → Decides (list_any (bytes_eq q) folders) (Contains folders q)
member = is_member-Decides bytes_eq-Decides

one-of : (a b : Bool) → (a || b) ≡ true → (a ≡ true) ⊎ (b ≡ true)
one-of true b h = inl refl
one-of false b h = inr h

front : (a b : Bool) → a ≡ true → (a || b) ≡ true
front true b h = refl
front false b h = let bad : ⊥ = cc in absurd bad

back : (a b : Bool) → b ≡ true → (a || b) ≡ true
back true b h = refl
back false b h = h

module _ (folders names : List (List ℕ)) (known : (q : List ℕ) → list_any (λ n. is_eq (slice_cmp nat_cmp q n)) names ≡ (bytes_eq q [] || list_any (bytes_eq q) folders)) where
  modules-are : IsStrictlySortedBy (slice_cmp nat_cmp) names → AreModules folders names
  modules-are rising =
      record {
        rising = rising;
        default = (among names []).0 (known [] ∙ front (bytes_eq [] []) (list_any (bytes_eq []) folders) ((bytes_eq-Decides [] []).1 refl));
        are = λ q h. elim (one-of (bytes_eq q []) (list_any (bytes_eq q) folders) (sym (known q) ∙ (among names q).1 h)) [
          | inl here ↦ inl ((bytes_eq-Decides q []).0 here)
          | inr there ↦ inr ((member folders q).0 there)
        ];
        all = λ q h. (among names q).0 (known q ∙ back (bytes_eq q []) (list_any (bytes_eq q) folders) ((member folders q).1 h));
      }

-- the answer with the names
pub modules-come : (all folders taken keys : List (List ℕ)) → folders ≡ all → taken ≡ folders
    → ((q : List ℕ) → list_any (λ n. is_eq (slice_cmp nat_cmp q n)) keys ≡ (bytes_eq q [] || list_any (bytes_eq q) taken))
    → {V : Type 0} (items : V → List (List ℕ)) (r : Result V Memory) → IfOk r (λ v. items v ≡ keys) → IfOk r (λ v. IsStrictlySortedBy (slice_cmp nat_cmp) (items v)) → IfOk r (λ v. AreModules all (items v))
modules-come all folders taken keys same view known items (Ok v) are rising =
    let e = view ∙ same in
    modules-are all (items v) (λ q. subst (λ ks. list_any (λ n. is_eq (slice_cmp nat_cmp q n)) ks ≡ (bytes_eq q [] || list_any (bytes_eq q) all)) (sym are) (subst (λ fs. list_any (λ n. is_eq (slice_cmp nat_cmp q n)) keys ≡ (bytes_eq q [] || list_any (bytes_eq q) fs)) e (known q))) rising
modules-come all folders taken keys same view known items (Err m) are rising = tt
