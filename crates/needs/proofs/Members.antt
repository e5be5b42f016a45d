-- What a list of needs comes to, member by member.
use Rattle.std.proofs.Common.{◌≡◌, ◌↔◌, List, [], ◌∷◌, ◌++◌, ⊎_elim, ◌⊎◌, inl, inr, refl, sym, subst, ap, ◌∙◌, append_assoc}
use Rattle.bal_base.specs.declared.fault.Fault.{Fault}
use Rattle.checks.specs.Checks.{Check, Gives, Refuses, gives_some, ◌▷◌}
use Rattle.typed_tree.specs.Listed.{Listed, nothing, one, ◌&◌, members}
use Rattle.needs.specs.Needs.{all_met}
use Rattle.needs.specs.Laws.{AreMet, FirstRefuses}

same-head : {N : Type 0} (x y : N) (xs ys : List N) → x ∷ xs ≡ y ∷ ys → x ≡ y
same-head x y xs ys e = cc

same-tail : {N : Type 0} (x y : N) (xs ys : List N) → x ∷ xs ≡ y ∷ ys → xs ≡ ys
same-tail x y xs ys e = cc

module _ {S N : Type 0} (meets : N → Check S (Unit {0})) where
  -- ---- lists of needs put together

  met-append : (xs ys : List N) (old mid new : S) → AreMet meets xs old mid → AreMet meets ys mid new → AreMet meets (xs ++ ys) old new
  met-append [] ys old mid new e h = subst (λ s. AreMet meets ys s new) e h
  met-append (x ∷ xs) ys old mid new (at, first, rest) h = (at, first, met-append xs ys at mid new rest h)

  met-split : (xs ys : List N) (old new : S) → AreMet meets (xs ++ ys) old new → (mid : S) × AreMet meets xs old mid × AreMet meets ys mid new
  met-split [] ys old new h = (old, refl, h)
  met-split (x ∷ xs) ys old new (at, first, rest) = let more = met-split xs ys at new rest in (more.0, (at, first, more.1), more.2)

  refused-left : (xs ys : List N) (old : S) (f : Fault) (new : S) → FirstRefuses meets xs old f new → FirstRefuses meets (xs ++ ys) old f new
  refused-left xs ys old f new (before, need, behind, is, at) = (before, need, behind ++ ys, ap (λ l. l ++ ys) is ∙ append_assoc before (need ∷ behind) ys, at)

  refused-right : (xs ys : List N) (old mid : S) (f : Fault) (new : S) → AreMet meets xs old mid → FirstRefuses meets ys mid f new → FirstRefuses meets (xs ++ ys) old f new
  refused-right xs ys old mid f new h (before, need, behind, is, at) =
      (xs ++ before, need, behind, ap (λ l. xs ++ l) is ∙ sym (append_assoc xs before (need ∷ behind)), (at.0, met-append xs before old mid at.0 h at.1, at.2))

  -- where the first of two lists ends, and where the need is
  abbrev Where : List N → List N → S → Fault → S → Type 0
  Where xs ys old f new = FirstRefuses meets xs old f new ⊎ ((mid : S) × AreMet meets xs old mid × FirstRefuses meets ys mid f new)

  one-more : (x : N) (xs ys : List N) (old at : S) (f : Fault) (new : S) → meets x old (Gives tt) at → Where xs ys at f new → Where (x ∷ xs) ys old f new
  one-more x xs ys old at f new first (inl (before, need, behind, is, h)) = inl (x ∷ before, need, behind, ap (λ l. x ∷ l) is, (h.0, (at, first, h.1), h.2))
  one-more x xs ys old at f new first (inr (mid, h, refuses)) = inr (mid, (at, first, h), refuses)

  refused-split : (xs ys before : List N) (need : N) (behind : List N) (old mid : S) (f : Fault) (new : S) → xs ++ ys ≡ before ++ need ∷ behind
      → AreMet meets before old mid → meets need mid (Refuses f) new → Where xs ys old f new
  refused-split [] ys before need behind old mid f new is h refuses = inr (old, refl, (before, need, behind, is, (mid, h, refuses)))
  refused-split (x ∷ xs) ys [] need behind old mid f new is h refuses =
      inl ([], x, xs, refl, (mid, h, subst (λ n. meets n mid (Refuses f) new) (sym (same-head x need _ _ is)) refuses))
  refused-split (x ∷ xs) ys (b ∷ before) need behind old mid f new is (at, first, rest) refuses =
      one-more x xs ys old at f new (subst (λ n. meets n old (Gives tt) at) (sym (same-head x b _ _ is)) first)
      (refused-split xs ys before need behind at mid f new (same-tail x b _ _ is) rest refuses)

  -- ---- all needs of a listing

  pub met-all : (needs : Listed N) (old new : S) → all_met meets needs old (Gives tt) new ↔ AreMet meets (members needs) old new
  unfolding ◌▷◌ gives_some
  met-all nothing old new = (λ h. h.1, λ e. (refl, e))
  met-all (one need) old new = (λ h. (new, h, refl), λ h. subst (meets need old (Gives tt)) (sym h.2) h.1)
  met-all (p & q) old new = (
    λ h. met-append (members p) (members q) old h.1 new ((met-all p old h.1).0 h.2) ((met-all q h.1 new).0 h.3),
    λ h. let parts = met-split (members p) (members q) old new h in (tt, parts.0, (met-all p old parts.0).1 parts.1, (met-all q parts.0 new).1 parts.2),
  )

  none-refused : (need : N) (before behind : List N) → [] ≡ before ++ need ∷ behind → ⊥
  none-refused need [] behind is = cc
  none-refused need (b ∷ before) behind is = cc

  alone : (need : N) (old : S) (f : Fault) (new : S) → FirstRefuses meets (need ∷ []) old f new → meets need old (Refuses f) new
  alone need old f new ([], first, behind, is, (mid, h, refuses)) = subst (λ s. meets need s (Refuses f) new) h (subst (λ n. meets n mid (Refuses f) new) (sym (same-head need first _ _ is)) refuses)
  alone need old f new (b ∷ before, first, behind, is, at) = absurd (none-refused first before behind (same-tail need b _ _ is))

  pub refused-all : (needs : Listed N) (old : S) (f : Fault) (new : S) → all_met meets needs old (Refuses f) new ↔ FirstRefuses meets (members needs) old f new
  unfolding ◌▷◌ gives_some
  refused-all nothing old f new = (λ h. absurd h, λ h. absurd (none-refused h.1 h.0 h.2 h.3))
  refused-all (one need) old f new = (λ h. ([], need, [], refl, (old, refl, h)), λ h. alone need old f new h)
  refused-all (p & q) old f new = (
    ⊎_elim (λ h. refused-left (members p) (members q) old f new ((refused-all p old f new).0 h))
        (λ h. refused-right (members p) (members q) old h.1 f new ((met-all p old h.1).0 h.2) ((refused-all q h.1 f new).0 h.3)),
    λ h. ⊎_elim (λ left. inl ((refused-all p old f new).1 left))
        (λ right. inr (tt, right.0, (met-all p old right.0).1 right.1, (refused-all q right.0 f new).1 right.2))
        (refused-split (members p) (members q) h.0 h.1 h.2 old h.4.0 f new h.3 h.4.1 h.4.2),
  )
