-- A table that keeps all that it knew and knows one more question has more entries.
use Rattle.std.proofs.Common.{◌≡◌, ◌≢◌, ⊎_elim, ℕ, ◌<◌, List, [], ◌∷◌, map, length, zero, suc, Option, All, AllPairs, Contains, sym, subst, ◌∙◌, arith}
use Rattle.std.proofs.Math.ListN.{length-map}
use Rattle.std.proofs.lemmas.Bool.Decides.{Decides-eqb}
use Rattle.std.proofs.lemmas.Cmp.{nat_eq_equiv}
use Rattle.std.proofs.lemmas.Map.Made.{IsDistinct-from_AllPairs, is_member-Decides, length-le_from_is_member}
use Rattle.std.proofs.lemmas.List.Elements.{All-contains, Contains-append_cases}
use Rattle.bal_base.specs.declared.shape.Shape.{Shape}
use Rattle.type_diagrams.specs.Kept.{IsUnknown}
use Rattle.subtype_decider.specs.Entries.{AreApart, Knows}
use Rattle.subtype_decider.proofs.Grown.{Entries}
use Rattle.subtype_decider.proofs.Members.{Any-Contains, Contains-map, map-Contains, AllPairs-map, AllPairs-join}

abbrev asked : Entries → List ℕ
asked kept = map (λ e. e.0) kept

module _ (old new : Entries) (q : ℕ) (apart : AreApart old) (kept : All (Contains new) old) (unknown : IsUnknown old q) (knows : Knows new q) where
  only_q : (x : ℕ) → Contains (q ∷ []) x → q ≡ x
  only_q x (zero, lt, is) = is
  only_q x (suc k, lt, is) = absurd (omega (arith, lt))

  distinct : AllPairs (λ a b. a ≢ b) (q ∷ asked old)
  distinct =
      AllPairs-join (λ (a b : ℕ). a ≢ b) (q ∷ []) (asked old) (λ i j d lt in_. absurd (omega (arith, lt, in_))) (AllPairs-map (λ e. e.0) (λ a b. a.0 ≢ b.0) (λ a b. a ≢ b) (λ x y r. r) old apart)
      (λ x y here there same.
      let e = map-Contains (λ e. e.0) old y there in
      All-contains (λ e. e.0 ≢ q) old e.0 unknown e.1 (e.2 ∙ sym same ∙ sym (only_q x here)))

  among : (k : ℕ) → Contains (q ∷ asked old) k → Contains (asked new) k
  among k c = ⊎_elim
      (λ (here : Contains (q ∷ []) k). let e = Any-Contains (λ e. e.0 ≡ q) new knows in subst (Contains (asked new)) (e.2 ∙ only_q k here) (Contains-map (λ e. e.0) new e.0 e.1))
      (λ (there : Contains (asked old) k). let e = map-Contains (λ e. e.0) old k there in subst (Contains (asked new)) e.2 (Contains-map (λ e. e.0) new e.0 (All-contains (Contains new) old e.0 kept e.1)))
      (Contains-append_cases (q ∷ []) (asked old) k c)

  pub more-known : length old < length new
  more-known =
      let le = length-le_from_is_member nat_eq_equiv (q ∷ asked old) (asked new) (IsDistinct-from_AllPairs Decides-eqb (q ∷ asked old) distinct)
      (λ k h. (is_member-Decides Decides-eqb (asked new) k).1 (among k ((is_member-Decides Decides-eqb (q ∷ asked old) k).0 h))) in
      omega (arith, le, length-map old (λ (e : ℕ × Option Shape). e.0), length-map new (λ (e : ℕ × Option Shape). e.0))
