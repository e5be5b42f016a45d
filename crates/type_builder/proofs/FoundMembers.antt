-- Members that are found one after another.
use Rattle.std.proofs.Common.{◌≡◌, ◌↔◌, ◌⊎◌, ◌||◌, inl, inr, Bool, true, false, List, [], ◌∷◌, ◌++◌, Option, None, Some, refl, sym, ap, subst, ◌∙◌, cond, map, not, Result, Ok, Err, OnOk}
use Rattle.std.proofs.lemmas.List.{map-append}
use Rattle.std.specs.List.{list_any}
use Rattle.std.specs.Option.{is_some}
use Rattle.std.proofs.lemmas.Bool.{false≢true}
use Rattle.type_model.specs.declared.basic.SemType.{SemType, Basic, Atom}
use Rattle.type_builder.specs.Flat.{AddsMember, AddsMembers, AreKeysOf, Gathers, HasKey, IsAmong, IsSameMember, found_in, key_of, members_of}
use Rattle.type_builder.specs.declared.flat.Found.{Found}
use Rattle.type_builder.specs.declared.flat.MemberKey.{MemberKey}
use Rattle.type_builder.proofs.MemberKeys.{one-key, one-member, same-equal, same-itself, same_key}

pub adds-both : (old mid new xs ys : List SemType) → AddsMembers old xs mid → AddsMembers mid ys new → AddsMembers old (xs ++ ys) new
adds-both old mid new [] ys a b = subst (λ m. AddsMembers m ys new) a b
adds-both old mid new (x ∷ xs) ys (m, first, a) b = (m, first, adds-both m mid new xs ys a b)

among-push : (ms : List SemType) (m t : SemType) → IsAmong (ms ++ m ∷ []) t ↔ (IsAmong ms t ⊎ IsSameMember m t)
among-push [] m t = (to, from)
  where
    to : IsSameMember m t ⊎ ⊥ → ⊥ ⊎ IsSameMember m t
    to (inl e) = inr e
    to (inr e) = absurd e

    from : ⊥ ⊎ IsSameMember m t → IsSameMember m t ⊎ ⊥
    from (inl e) = absurd e
    from (inr e) = inl e
among-push (k ∷ ms) m t = let rest = among-push ms m t in (to rest.0, from rest.1)
  where
    to : (IsAmong (ms ++ m ∷ []) t → IsAmong ms t ⊎ IsSameMember m t) → IsSameMember k t ⊎ IsAmong (ms ++ m ∷ []) t → (IsSameMember k t ⊎ IsAmong ms t) ⊎ IsSameMember m t
    to f (inl e) = inl (inl e)
    to f (inr h) = by (f h)
      where
        by : IsAmong ms t ⊎ IsSameMember m t → (IsSameMember k t ⊎ IsAmong ms t) ⊎ IsSameMember m t
        by (inl a) = inl (inr a)
        by (inr b) = inr b

    from : (IsAmong ms t ⊎ IsSameMember m t → IsAmong (ms ++ m ∷ []) t) → (IsSameMember k t ⊎ IsAmong ms t) ⊎ IsSameMember m t → IsSameMember k t ⊎ IsAmong (ms ++ m ∷ []) t
    from f (inl (inl e)) = inl e
    from f (inl (inr a)) = inr (f (inl a))
    from f (inr b) = inr (f (inr b))

pub has-key : (k : MemberKey) (ks : List MemberKey) → list_any (same_key k) ks ≡ true → HasKey ks k
has-key k [] h = absurd (false≢true h)
has-key k (j ∷ ks) h = by (same_key k j) refl h (has-key k ks)
  where
    by : (b : Bool) → same_key k j ≡ b → (b || list_any (same_key k) ks) ≡ true → (list_any (same_key k) ks ≡ true → HasKey ks k) → (j ≡ k) ⊎ HasKey ks k
    by true e h f = inl (sym (same-equal k j e))
    by false e h f = inr (f h)

pub key-there : (k : MemberKey) (ks : List MemberKey) → HasKey ks k → list_any (same_key k) ks ≡ true
key-there k [] h = absurd h
key-there k (j ∷ ks) (inl e) = ap (λ b. b || list_any (same_key k) ks) (subst (λ x. same_key k x ≡ true) (sym e) (same-itself k))
key-there k (j ∷ ks) (inr h) = either-true (same_key k j) (list_any (same_key k) ks) (key-there k ks h)
  where
    either-true : (a b : Bool) → b ≡ true → (a || b) ≡ true
    either-true true b h = refl
    either-true false b h = h

key-push : (ks : List MemberKey) (j k : MemberKey) → HasKey (ks ++ j ∷ []) k → HasKey ks k ⊎ (j ≡ k)
key-push [] j k (inl e) = inr e
key-push [] j k (inr h) = absurd h
key-push (i ∷ ks) j k (inl e) = inl (inl e)
key-push (i ∷ ks) j k (inr h) = by (key-push ks j k h)
  where
    by : HasKey ks k ⊎ (j ≡ k) → HasKey (i ∷ ks) k ⊎ (j ≡ k)
    by (inl a) = inl (inr a)
    by (inr b) = inr b

key-stays : (ks : List MemberKey) (j k : MemberKey) → HasKey ks k ⊎ (j ≡ k) → HasKey (ks ++ j ∷ []) k
key-stays [] j k (inl h) = absurd h
key-stays [] j k (inr e) = inl e
key-stays (i ∷ ks) j k (inl (inl e)) = inl e
key-stays (i ∷ ks) j k (inl (inr h)) = inr (key-stays ks j k (inl h))
key-stays (i ∷ ks) j k (inr e) = inr (key-stays ks j k (inr e))

-- a member without a key is the same as none
no-key : (s t : SemType) → IsSameMember s t → key_of s ≡ None → ⊥
no-key (Basic b) (Basic c) e h = false≢true (sym (ap is_some h))
no-key (Atom b) (Atom c) e h = false≢true (sym (ap is_some h))
no-key _ _ e h = e

or_key : MemberKey → Option MemberKey → MemberKey
or_key k None = k
or_key k (Some x) = x

inside : (k j : MemberKey) → Some k ≡ Some j → k ≡ j
unfolding or_key
inside k j p = ap (or_key k) p

module _ (ms : List SemType) (ks : List MemberKey) (keys : AreKeysOf ms ks) (m : SemType) where
  -- one that is there already
  pub known-member : (k : MemberKey) → key_of m ≡ Some k → HasKey ks k → AddsMember ms m ms
  known-member k is h = inl ((keys m k is).0 h, refl)

  module _ (k : MemberKey) (is : key_of m ≡ Some k) where
    -- a new one
    pub new-member : (HasKey ks k → ⊥) → AddsMember ms m (ms ++ m ∷ [])
    new-member f = inr ((λ a. f ((keys m k is).1 a)), refl)

    pub keys-more : AreKeysOf (ms ++ m ∷ []) (ks ++ k ∷ [])
    keys-more t j of = ((λ h. (among-push ms m t).1 (to (key-push ks k j h))), (λ a. key-stays ks k j (from ((among-push ms m t).0 a))))
      where
        to : HasKey ks j ⊎ (k ≡ j) → IsAmong ms t ⊎ IsSameMember m t
        to (inl h) = inl ((keys t j of).0 h)
        to (inr e) = inr (one-member m t j (is ∙ ap Some e) of)

        from : IsAmong ms t ⊎ IsSameMember m t → HasKey ks j ⊎ (k ≡ j)
        from (inl a) = inl ((keys t j of).1 a)
        from (inr e) = inr (inside k j (sym is ∙ one-key m t e ∙ of))

  -- one that has no key is never the same as another one
  module _ (none : key_of m ≡ None) where
    never-among : (xs : List SemType) → IsAmong xs m → ⊥
    never-among [] h = h
    never-among (x ∷ xs) (inl e) = no-key x m e (one-key x m e ∙ none)
    never-among (x ∷ xs) (inr h) = never-among xs h

    pub other-member : AddsMember ms m (ms ++ m ∷ [])
    other-member = inr (never-among ms, refl)

    pub keys-stay : AreKeysOf (ms ++ m ∷ []) ks
    keys-stay t j of = ((λ h. (among-push ms m t).1 (inl ((keys t j of).0 h))), (λ a. by ((among-push ms m t).0 a)))
      where
        by : IsAmong ms t ⊎ IsSameMember m t → HasKey ks j
        by (inl a) = (keys t j of).1 a
        by (inr e) = absurd (no-key m t e none)

-- ---- steps

pub gathers-both : (xs ys : List SemType) (old mid new : Found) → Gathers xs old mid → Gathers ys mid new → Gathers (xs ++ ys) old new
gathers-both xs ys old mid new a b = record {
  keys = λ k. b.keys (a.keys k);
  adds = λ k. adds-both (found_in old) (found_in mid) (found_in new) xs ys (a.adds k) (b.adds (a.keys k));
}

-- one member, by what became of what was found
one-gathered : (m : SemType) (old new : Found) → (AreKeysOf (found_in old) old.keys.keys → AreKeysOf (found_in new) new.keys.keys × AddsMember (found_in old) m (found_in new)) → Gathers (m ∷ []) old new
one-gathered m old new f = record { keys = λ k. (f k).0; adds = λ k. (found_in new, (f k).1, refl) }

-- what is found behind a push of a reference to it
pub pushed : {A : Type 0} (now : A → SemType) (old new : List A) (r : A) → new ≡ old ++ r ∷ [] → map now new ≡ map now old ++ now r ∷ []
pushed now old new r e = ap (map now) e ∙ map-append now old (r ∷ [])

opposite : (a b : Bool) → a ≡ not b → a ≡ true → b ≡ false
opposite a true e h = absurd (false≢true (sym e ∙ h))
opposite a false e h = refl

opposite-too : (a b : Bool) → a ≡ not b → a ≡ false → b ≡ true
opposite-too a true e h = refl
opposite-too a false e h = absurd (false≢true (sym (sym e ∙ h)))

pub new-gathered : (m : SemType) (k : MemberKey) (old new : Found) (added : Bool) → key_of m ≡ Some k → added ≡ not (list_any (same_key k) old.keys.keys) → added ≡ true
    → new.keys.keys ≡ cond (list_any (same_key k) old.keys.keys) old.keys.keys (old.keys.keys ++ k ∷ []) → found_in new ≡ found_in old ++ m ∷ [] → Gathers (m ∷ []) old new
new-gathered m k old new added is tells so keys found =
    let none : list_any (same_key k) old.keys.keys ≡ false = opposite added (list_any (same_key k) old.keys.keys) tells so in
    let longer : new.keys.keys ≡ old.keys.keys ++ k ∷ [] = keys ∙ ap (λ b. cond b old.keys.keys (old.keys.keys ++ k ∷ [])) none in
    one-gathered m old new (λ known. (
      subst (λ ms. AreKeysOf ms new.keys.keys) (sym found) (subst (AreKeysOf (found_in old ++ m ∷ [])) (sym longer) (keys-more (found_in old) old.keys.keys known m k is)),
      subst (AddsMember (found_in old) m) (sym found) (new-member (found_in old) old.keys.keys known m k is (λ h. false≢true (sym none ∙ key-there k old.keys.keys h))),
    ))

pub known-gathered : (m : SemType) (k : MemberKey) (old new : Found) (added : Bool) → key_of m ≡ Some k → added ≡ not (list_any (same_key k) old.keys.keys) → added ≡ false
    → new.keys.keys ≡ cond (list_any (same_key k) old.keys.keys) old.keys.keys (old.keys.keys ++ k ∷ []) → found_in new ≡ found_in old → Gathers (m ∷ []) old new
known-gathered m k old new added is tells so keys found =
    let some : list_any (same_key k) old.keys.keys ≡ true = opposite-too added (list_any (same_key k) old.keys.keys) tells so in
    let stay : new.keys.keys ≡ old.keys.keys = keys ∙ ap (λ b. cond b old.keys.keys (old.keys.keys ++ k ∷ [])) some in
    one-gathered m old new (λ known. (
      subst (λ ms. AreKeysOf ms new.keys.keys) (sym found) (subst (AreKeysOf (found_in old)) (sym stay) known),
      subst (AddsMember (found_in old) m) (sym found) (known-member (found_in old) old.keys.keys known m k is (has-key k old.keys.keys some)),
    ))

pub other-gathered : (m : SemType) (old new : Found) → key_of m ≡ None → new.keys.keys ≡ old.keys.keys → found_in new ≡ found_in old ++ m ∷ [] → Gathers (m ∷ []) old new
other-gathered m old new none keys found = one-gathered m old new (λ known. (
  subst (λ ms. AreKeysOf ms new.keys.keys) (sym found) (subst (AreKeysOf (found_in old ++ m ∷ [])) (sym keys) (keys-stay (found_in old) old.keys.keys known m none)),
  subst (AddsMember (found_in old) m) (sym found) (other-member (found_in old) old.keys.keys known m none),
))

pub none-gathered : (old : Found) → Gathers [] old old
none-gathered old = record { keys = λ k. k; adds = λ k. refl }

-- those of a union, one side behind the other
pub gathers-parts : {E : Type 0} (q : Result (Unit {0}) E) (t l r : SemType) (old mid new : Found) → members_of t ≡ members_of l ++ members_of r → Gathers (members_of l) old mid
    → OnOk q (Gathers (members_of r) mid new) → OnOk q (Gathers (members_of t) old new)
gathers-parts (Ok u) t l r old mid new e a b = subst (λ ms. Gathers ms old new) (sym e) (gathers-both (members_of l) (members_of r) old mid new a b)
gathers-parts (Err x) t l r old mid new e a b = tt
