-- What may fill gaps of lists is noted, over and over.
use Rattle.std.proofs.Common.{◌≡◌, ◌∙◌, ◌+◌, ◌<◌, ◌≤◌, ◌++◌, ◌⊎◌, ◌↔◌, ℕ, zero, suc, List, [], ◌∷◌, Option, Some, None, refl, sym, subst, ap, length, inl, inr, arith}
use Rattle.std.specs.Prelude.{◌≢◌, AllPairs, Contains, flat_map, option_to_list, slice_get}
use Rattle.std.proofs.lemmas.Option.{slice_get_within}
use Rattle.type_model.specs.declared.basic.Choice.{Choice}
use Rattle.type_model.specs.declared.basic.Ty.{Ty}
use Rattle.type_model.specs.declared.atoms.AtomDef.{AtomDef}
use Rattle.type_model.specs.declared.atoms.AtomDef.TheVariants.{List as ListAtom, Mapping as MappingAtom, Arrow, Error as ErrorAtom, Future as FutureAtom}
use Rattle.op_model.specs.Inherent.{IsInherent, IsOneChoice, MayFill, named, fills}
use Rattle.inherent_atoms.specs.declared.found.Found.{Found}
use Rattle.inherent_atoms.specs.Fillers.{choice_of, fillers_of, one_choice}
use Rattle.inherent_atoms.specs.Found.{AreMarked, Fills, Notes}
use Rattle.inherent_atoms.specs.Named.{all_noted}
use Rattle.inherent_atoms.proofs.Members.{Distinct, HasOne, distinct-pairs, get-has, has-back, has-contains, has-flat, has-front, has-get, has-member, has-parts, member-has, of-contains}
use Rattle.inherent_atoms.proofs.Noting.{decided, noted-distinct, noted-front, noted-gets, noted-has, noted-keeps, notes-nothing, notes-then}
use Rattle.inherent_atoms.proofs.Units.{inherent-map}

-- ---- one choice

choice-to : (ls ms : List Choice) (b : ℕ) → HasOne (one_choice ls ms) b → (c : Choice) × (ls ++ ms ≡ c ∷ []) × (c.atom ≡ b)
choice-to [] [] b h = absurd h
choice-to [] (c ∷ []) b (inl e) = (c, refl, e)
choice-to [] (c ∷ []) b (inr z) = absurd z
choice-to [] (c ∷ d ∷ more) b h = absurd h
choice-to (c ∷ []) [] b (inl e) = (c, refl, e)
choice-to (c ∷ []) [] b (inr z) = absurd z
choice-to (c ∷ []) (d ∷ more) b h = absurd h
choice-to (c ∷ d ∷ more) ms b h = absurd h

just-one : {c d : Choice} → c ∷ [] ≡ d ∷ [] → d.atom ≡ c.atom
just-one e = let s : Some _ ≡ Some _ = ap (λ l. slice_get l 0) e in ap (λ c. c.atom) (sym (same s))
  where
    same : {c d : Choice} → Some c ≡ Some d → c ≡ d
    same s = cc

two-not-one : (c d x : Choice) (more : List Choice) → ¬ (c ∷ d ∷ more ≡ x ∷ [])
two-not-one c d x more e = let s : Some d ≡ None = ap (λ l. slice_get l 1) e in let bad : ⊥ = cc in bad

choice-from : (ls ms : List Choice) (b : ℕ) (c : Choice) → ls ++ ms ≡ c ∷ [] → c.atom ≡ b → HasOne (one_choice ls ms) b
choice-from [] [] b c e is = absurd (let s : None ≡ Some c = ap (λ l. slice_get l 0) e in let bad : ⊥ = cc in bad)
choice-from [] (d ∷ []) b c e is = inl (sym (just-one e) ∙ is)
choice-from [] (d ∷ x ∷ more) b c e is = absurd (two-not-one d x c more e)
choice-from (d ∷ []) [] b c e is = inl (sym (just-one e) ∙ is)
choice-from (d ∷ []) (x ∷ more) b c e is = absurd (two-not-one d x c more e)
choice-from (d ∷ x ∷ more) ms b c e is = absurd (two-not-one d x c (more ++ ms) e)

-- ---- fillers

module _ (defs : List AtomDef) (a b : ℕ) where
  fills-list : (fixed : List Ty) (rest : Option Ty) → slice_get defs a ≡ Some (ListAtom fixed rest) → (ts : List Ty) → ((t : Ty) → HasOne ts t → HasOne (fixed ++ option_to_list rest) t) → HasOne (flat_map choice_of ts) b → MayFill defs a b
  fills-list fixed rest at ts inside h =
      let (t, m, one) = has-member (λ t. HasOne (choice_of t) b) ts ((has-flat (λ x. x ≡ b) choice_of ts).0 h) in
      (ListAtom fixed rest, t, at, tt, has-contains (fixed ++ option_to_list rest) t (inside t m), choice-to t.lists t.maps b one)

  pub may-fill : (o : Option AtomDef) → slice_get defs a ≡ o → HasOne (fillers_of o) b → MayFill defs a b
  may-fill (Some (ListAtom fixed rest)) at h =
      elim (has-parts (λ x. x ≡ b) (flat_map choice_of fixed) (flat_map choice_of (option_to_list rest)) h) [
        | inl y ↦ fills-list fixed rest at fixed (λ t m. has-front (λ x. x ≡ t) fixed (option_to_list rest) m) y
        | inr z ↦ fills-list fixed rest at (option_to_list rest) (λ t m. has-back (λ x. x ≡ t) fixed (option_to_list rest) m) z
      ]
  may-fill (Some (MappingAtom fields rest)) at h = absurd h
  may-fill (Some (Arrow args outcome alone)) at h = absurd h
  may-fill (Some (ErrorAtom detail)) at h = absurd h
  may-fill (Some (FutureAtom outcome)) at h = absurd h
  may-fill None at h = absurd h

  of-part : (ts : List Ty) (t : Ty) → HasOne ts t → IsOneChoice t b → HasOne (flat_map choice_of ts) b
  of-part ts t m (c, e, is) = (has-flat (λ x. x ≡ b) choice_of ts).1 (member-has (λ t. HasOne (choice_of t) b) ts t m (choice-from t.lists t.maps b c e is))

  pub fills-may : MayFill defs a b → HasOne (fillers_of (slice_get defs a)) b
  fills-may (ListAtom fixed rest, t, at, kind, m, one) =
      subst (λ o. HasOne (fillers_of o) b) (sym at)
      (elim (has-parts (λ x. x ≡ t) fixed (option_to_list rest) (of-contains (fixed ++ option_to_list rest) t m)) [
        | inl y ↦ has-front (λ x. x ≡ b) (flat_map choice_of fixed) (flat_map choice_of (option_to_list rest)) (of-part fixed t y one)
        | inr z ↦ has-back (λ x. x ≡ b) (flat_map choice_of fixed) (flat_map choice_of (option_to_list rest)) (of-part (option_to_list rest) t z one)
      ])
  fills-may (MappingAtom fields rest, t, at, kind, m, one) = absurd kind
  fills-may (Arrow args outcome alone, t, at, kind, m, one) = absurd kind
  fills-may (ErrorAtom detail, t, at, kind, m, one) = absurd kind
  fills-may (FutureAtom outcome, t, at, kind, m, one) = absurd kind

-- ---- the loop

-- before the atom that was found as the one with this number: what fills gaps of the earlier ones was noted
pub record Filling (defs : List AtomDef) (f g : Found) (i : ℕ) : Type 0 where
  pub more : List ℕ
  pub noted : Notes more f g
  pub closed : AreMarked f → (j a b : ℕ) → j < i → slice_get g.atoms.items j ≡ Some a → HasOne (fillers_of (slice_get defs a)) b → HasOne g.atoms.items b
  pub only : AreMarked f → (a : ℕ) → HasOne g.atoms.items a → IsInherent defs (Contains f.atoms.items) a

pub filling-begins : (defs : List AtomDef) (f : Found) → Filling defs f f 0
filling-begins defs f =
    record { more = []; noted = notes-nothing f; closed = λ m j a b lt at h. absurd (omega (arith, lt)); only = λ m a h. named a (has-contains f.atoms.items a h) }

get-there : (xs more : List ℕ) (j a : ℕ) → j < length xs → slice_get (xs ++ more) j ≡ Some a → slice_get xs j ≡ Some a
get-there [] more j a lt at = absurd (omega (arith, lt))
get-there (x ∷ xs) more zero a lt at = at
get-there (x ∷ xs) more (suc j) a lt at = get-there xs more j a (omega (arith, lt)) at

pub filling-next : (defs : List AtomDef) (f g h : Found) (i a : ℕ) → Filling defs f g i → slice_get g.atoms.items i ≡ Some a → Notes (fillers_of (slice_get defs a)) g h → Filling defs f h (i + 1)
filling-next defs f g h i a is at n =
    record {
      more = is.more ++ names;
      noted = notes-then is.noted n;
      closed = λ m j c b lt there fill. closed m j c b lt there fill;
      only = λ m c there. elim (noted-has names g.atoms.items c (subst (λ l. HasOne l c) (n.atoms (is.noted.marked m)) there)) [ inl y ↦ is.only m c y | inr z ↦ from m c z ];
    }
  where
    names : List ℕ
    names = fillers_of (slice_get defs a)

    inside : i < length g.atoms.items
    inside = slice_get_within g.atoms.items i a at

    from : AreMarked f → (c : ℕ) → HasOne names c → IsInherent defs (Contains f.atoms.items) c
    from m c z = fills a c (is.only m a (get-has (λ x. x ≡ a) g.atoms.items i a at refl)) (may-fill defs a c (slice_get defs a) refl z)

    earlier : AreMarked f → (j c : ℕ) → j < i + 1 → slice_get h.atoms.items j ≡ Some c → slice_get g.atoms.items j ≡ Some c
    earlier m j c lt there =
        let (more, e) = noted-front names g.atoms.items in
        get-there g.atoms.items more j c (omega (arith, lt, inside)) (ap (λ l. slice_get l j) (sym (n.atoms (is.noted.marked m) ∙ e)) ∙ there)

    same-one : (j c : ℕ) → j ≡ i → slice_get g.atoms.items j ≡ Some c → a ≡ c
    same-one j c e there = let s : Some a ≡ Some c = sym at ∙ ap (slice_get g.atoms.items) (sym e) ∙ there in cc

    which : (j : ℕ) → j < i + 1 → (j < i) ⊎ (j ≡ i)
    which j lt = elim (decided j i) [ inl e ↦ inr e | inr other ↦ inl (omega (arith, lt, other)) ]

    closed : AreMarked f → (j c b : ℕ) → j < i + 1 → slice_get h.atoms.items j ≡ Some c → HasOne (fillers_of (slice_get defs c)) b → HasOne h.atoms.items b
    closed m j c b lt there fill =
        subst (λ l. HasOne l b) (sym (n.atoms (is.noted.marked m)))
        (elim (which j lt) [
          | inl below ↦ noted-keeps names g.atoms.items b (is.closed m j c b below (earlier m j c lt there) fill)
          | inr here ↦ noted-gets names g.atoms.items b (subst (λ x. HasOne (fillers_of (slice_get defs x)) b) (sym (same-one j c here (earlier m j c lt there))) fill)
        ])

-- where all that were found have been looked at
pub filled : (defs : List AtomDef) (f g : Found) (i : ℕ) → Filling defs f g i → length g.atoms.items ≤ i → Fills defs f g
filled defs f g i is le =
    record {
      more = is.more;
      noted = is.noted;
      closed = λ m a b there fill. has-contains g.atoms.items b (closed m a b (of-contains g.atoms.items a there) fill);
      only = λ m a there. is.only m a (of-contains g.atoms.items a there);
    }
  where
    closed : AreMarked f → (a b : ℕ) → HasOne g.atoms.items a → MayFill defs a b → HasOne g.atoms.items b
    closed m a b there fill =
        let (j, x, at, e) = has-get (λ x. x ≡ a) g.atoms.items there in
        is.closed m j a b (omega (arith, slice_get_within g.atoms.items j x at, le)) (at ∙ ap Some e) (fills-may defs a b fill)

pub past-end : (xs : List ℕ) (i : ℕ) → slice_get xs i ≡ None → length xs ≤ i
past-end [] i e = omega arith
past-end (x ∷ xs) zero e = absurd (let bad : ⊥ = cc in bad)
past-end (x ∷ xs) (suc i) e = omega (arith, past-end xs i e)

-- ---- all of it

module _ (defs : List AtomDef) (names : List ℕ) (f g h : Found) (marked : AreMarked f) (none : f.atoms.items ≡ []) (n : Notes names f g) (is : Fills defs g h) where
  start : g.atoms.items ≡ all_noted names []
  start = n.atoms marked ∙ ap (all_noted names) none

  pub inherent-distinct : AllPairs ◌≢◌ h.atoms.items
  inherent-distinct =
      distinct-pairs h.atoms.items (subst Distinct (sym (is.noted.atoms (n.marked marked))) (noted-distinct is.more g.atoms.items (subst Distinct (sym start) (noted-distinct names [] tt))))

  start-has : (a : ℕ) → HasOne g.atoms.items a → HasOne names a
  start-has a y = elim (noted-has names [] a (subst (λ l. HasOne l a) start y)) [ inl z ↦ absurd z | inr z ↦ z ]

  to : (a : ℕ) → Contains h.atoms.items a → IsInherent defs (Contains names) a
  to a there =
      inherent-map defs (λ b y. has-contains names b (start-has b (of-contains g.atoms.items b y))) a (is.only (n.marked marked) a there)

  kept : (a : ℕ) → HasOne g.atoms.items a → Contains h.atoms.items a
  kept a y = has-contains h.atoms.items a (subst (λ l. HasOne l a) (sym (is.noted.atoms (n.marked marked))) (noted-keeps is.more g.atoms.items a y))

  from : (a : ℕ) → IsInherent defs (Contains names) a → Contains h.atoms.items a
  from a (named a' y) = kept a' (subst (λ l. HasOne l a') (sym start) (noted-gets names [] a' (of-contains names a' y)))
  from b (fills a b' i may) = is.closed (n.marked marked) a b' (from a i) may

  pub inherent-are : (a : ℕ) → Contains h.atoms.items a ↔ IsInherent defs (Contains names) a
  inherent-are a = (to a, from a)
