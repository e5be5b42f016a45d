-- The parts of a mapping in wanted atoms: what they meet, and where they avoid an atom.
use Rattle.std.proofs.Common.{◌≡◌, ◌↔◌, ◌⊎◌, ⊎_elim, inl, inr, ℕ, ◌<◌, ◌≤◌, List, [], ◌∷◌, map, length, All, Contains, Bool, true, false, IsTrue, Option, Some, None, refl, sym, ap, ◌∙◌}
use Rattle.std.specs.List.{Any, AllZip}
use Rattle.std.proofs.lemmas.Bool.{false≢true}
use Rattle.std.proofs.lemmas.List.Elements.{All-nil, All-cons, All-contains, All-contains_itself, All-map}
use Rattle.bal_base.specs.declared.text.Text.{Text}
use Rattle.bal_base.specs.declared.shape.Shape.{Shape}
use Rattle.bal_base.specs.Levels.{levels}
use Rattle.bal_base.specs.Valid.{IsFrozen, IsValid}
use Rattle.type_model.specs.declared.basic.SemType.{Atom}
use Rattle.type_model.specs.declared.atoms.FieldDef.{FieldDef}
use Rattle.type_model.specs.declared.atoms.AtomDef.{AtomDef}
use Rattle.type_model.specs.Membership.{In}
use Rattle.type_model.specs.Places.{HasKey}
use Rattle.type_diagrams.specs.declared.kind.Kind.TheVariants.{Mapping as Mappings}
use Rattle.type_diagrams.specs.Kinds.{IsOfKind, IsMarked, the_mark}
use Rattle.type_diagrams.specs.Conditions.{Condition, AreOne, IsShapeOf, Meets, asks, nothing}
use Rattle.type_diagrams.specs.Members.{IsMappingOutOfPlay, Requires, member_of}
use Rattle.type_diagrams.proofs.Asking.{Meets-decided}
use Rattle.type_diagrams.proofs.Elements.{All-where, not_all}
use Rattle.type_diagrams.proofs.Meeting.{Meets-asks, Meets-nothing, Meets-same}
use Rattle.type_diagrams.proofs.PathShapes.{IsAtomOf}
use Rattle.empty_product.specs.Keys.{Names}
use Rattle.empty_product.specs.KeyBases.{fields_of}
use Rattle.empty_product.specs.Mappings.{wanted_at, IsPlaceOf, IsAskingOf}
use Rattle.empty_product.specs.Products.{IsIn, Avoids}
use Rattle.empty_product.specs.Slots.{Place, MayHave, HasNone, MustHave, Asking, IsAt}
use Rattle.empty_product.proofs.AtomFields.{Requires-Names}
use Rattle.empty_product.proofs.MappingMembers.{members_in, members-known, AreMembers, FitsAtom, In-members, required-key, needed-Requires}
use Rattle.empty_product.proofs.MappingParts.{all_or_one, there_or_not, map-at, map-length, wanted-met}
use Rattle.empty_product.proofs.MemberLists.{Member, HasName, part_at, part_at-Some, part_at-None, part_at-member}
use Rattle.type_model.proofs.TextOrder.{Sorted, Sorted-rise}
use Rattle.empty_product.proofs.Zipped.{some_same, Contains-at, Any-is, Any-of, AllZip-at, AllZip-back, AllZip-length}

module _ (env : List AtomDef) (small : length env ≤ the_mark) (x : Shape) (kind : IsOfKind Mappings x) (valid : IsValid x) where
  known : AreMembers x
  known = members-known x kind valid

  pub sorted : Sorted (λ (m : Member). m.0) (members_in x)
  sorted = Sorted-rise (λ (m : Member). m.0) (members_in x) known.rise

  has_key : (key : Text) (y : Shape) → part_at (members_in x) key ≡ Some y → HasKey (members_in x) key
  has_key key y h = Any-of (HasName key) (members_in x) (key, y) (part_at-Some (members_in x) key y h) refl

  -- ---- a mapping outside an atom avoids it

  module _ (a : ℕ) (def : IsAtomOf env Mappings a) where
    in_atom : In env x (Atom a) ↔ FitsAtom env (members_in x) a
    in_atom = In-members env small x kind a def

    key_decided : (f : FieldDef) → (IsTrue f.optional ⊎ HasKey (members_in x) f.name) ⊎ (¬ (IsTrue f.optional ⊎ HasKey (members_in x) f.name))
    key_decided f = by f.optional refl (part_at (members_in x) f.name) refl
      where
        by : (b : Bool) → f.optional ≡ b → (o : Option Shape) → part_at (members_in x) f.name ≡ o → (IsTrue f.optional ⊎ HasKey (members_in x) f.name) ⊎ (¬ (IsTrue f.optional ⊎ HasKey (members_in x) f.name))
        by true e o h = inl (inl e)
        by false e (Some y) h = inl (inr (has_key f.name y h))
        by false e None h = inr (⊎_elim (λ (t : IsTrue f.optional). false≢true (sym e ∙ t)) (λ (k : HasKey (members_in x) f.name). part_at-None (members_in x) f.name h k))

    -- a member that isn't as the atom asks, or a key that it requires and that the mapping doesn't have
    pub record HasOther : Type 0 where
      pub key : Text
      pub part : Shape
      pub at : part_at (members_in x) key ≡ Some part
      pub other : ¬ Meets env (member_of env key a) part

    pub record LacksKey : Type 0 where
      pub key : Text
      pub at : part_at (members_in x) key ≡ None
      pub needs : Requires env key a

    pub outside : ¬ In env x (Atom a) → HasOther ⊎ LacksKey
    outside out = by (all_or_one Met (λ m. Meets-decided env (member_of env m.0 a) m.1) (members_in x))
      where
        Met : Member → Type 0
        Met m = Meets env (member_of env m.0 a) m.1

        free : (f : FieldDef) → ¬ (IsTrue f.optional ⊎ HasKey (members_in x) f.name) → (b : Bool) → f.optional ≡ b → f.optional ≡ false
        free f n true e = absurd (n (inl e))
        free f n false e = e

        lacks : (f : FieldDef) → ¬ (IsTrue f.optional ⊎ HasKey (members_in x) f.name) → (o : Option Shape) → part_at (members_in x) f.name ≡ o → part_at (members_in x) f.name ≡ None
        lacks f n (Some y) e = absurd (n (inr (has_key f.name y e)))
        lacks f n None e = e

        by : All Met (members_in x) ⊎ ((m : Member) × Contains (members_in x) m × (¬ Met m)) → HasOther ⊎ LacksKey
        by (inr (m, c, n)) = let at = Contains-at (members_in x) m c in inl (record { key = m.0; part = m.1; at = part_at-member (members_in x) sorted m.0 m.1 at.0 at.1; other = n })
        by (inl all) =
            let f = not_all (λ f. IsTrue f.optional ⊎ HasKey (members_in x) f.name) key_decided (fields_of env a) (λ required. out (in_atom.1 (record { required = required; each = all }))) in
            let at = Contains-at (fields_of env a) f.0 f.1 in
            inr (record { key = f.0.name; at = lacks f.0 f.2 (part_at (members_in x) f.0.name) refl; needs = needed-Requires env a f.0 at.0 at.1 (free f.0 f.2 f.0.optional refl) })

    -- at one of these keys, where all that the atom names are among them, or by a member at another key
    pub avoided : (keys : List Text) (row : List Asking) → AllZip (IsAskingOf env a) keys row → ((key : Text) → Names env a key → Contains keys key) → ¬ In env x (Atom a)
        → Avoids env row (map (part_at (members_in x)) keys) ⊎ ((o : HasOther) × (¬ Contains keys o.key))
    avoided keys row are named out = by (outside out)
      where
        lacking : LacksKey → Avoids env row (map (part_at (members_in x)) keys)
        lacking l =
            let at = Contains-at keys l.key (named l.key (Requires-Names env l.key a l.needs)) in
            let asking = AllZip-at (IsAskingOf env a) keys row are at.0 l.key at.1 in record {
              place = at.0;
              asking = asking.0;
              part = None;
              asks = asking.1;
              stands = map-at (part_at (members_in x)) keys at.0 l.key at.1 ∙ ap Some l.at;
              avoids = asking.2.required.1 l.needs;
            }

        other : (o : HasOther) → Contains keys o.key → Avoids env row (map (part_at (members_in x)) keys)
        other o c =
            let at = Contains-at keys o.key c in
            let asking = AllZip-at (IsAskingOf env a) keys row are at.0 o.key at.1 in
            let y_valid = All-contains (λ (m : Member). IsValid m.1) (members_in x) (o.key, o.part) known.valid (part_at-Some (members_in x) o.key o.part o.at) in record {
              place = at.0;
              asking = asking.0;
              part = Some o.part;
              asks = asking.1;
              stands = map-at (part_at (members_in x)) keys at.0 o.key at.1 ∙ ap Some o.at;
              avoids = λ m. o.other ((Meets-same env asking.0.part (member_of env o.key a) o.part y_valid asking.2.part).0 m);
            }

        by : HasOther ⊎ LacksKey → Avoids env row (map (part_at (members_in x)) keys) ⊎ ((o : HasOther) × (¬ Contains keys o.key))
        by (inr l) = inl (lacking l)
        by (inl o) = ⊎_elim (λ (c : Contains keys o.key). inl (other o c)) (λ (n : ¬ Contains keys o.key). inr (o, n)) (there_or_not keys o.key)

  -- ---- the parts of a mapping in all wanted atoms

  module _ (wanted : List ℕ) (marked : Bool) (defs : All (IsAtomOf env Mappings) wanted) (mark : IsTrue marked → IsMarked x) (ins : All (λ a. In env x (Atom a)) wanted) where
    fits : (a : ℕ) → Contains wanted a → FitsAtom env (members_in x) a
    fits a c = (in_atom a (All-contains (IsAtomOf env Mappings) wanted a defs c)).0 (All-contains (λ a. In env x (Atom a)) wanted a ins c)

    pub part-known : (key : Text) (y : Shape) → part_at (members_in x) key ≡ Some y → IsShapeOf env (wanted_at env wanted marked key) y × (levels y < levels x)
    part-known key y at =
        let c = part_at-Some (members_in x) key y at in
        let met = All-where (IsAtomOf env Mappings) (Contains wanted) (λ a. Meets env (member_of env key a) y)
        (λ a d in_wanted. All-contains (λ (m : Member). Meets env (member_of env m.0 a) m.1) (members_in x) (key, y) (fits a in_wanted).each c) wanted defs (All-contains_itself wanted) in (
          (
            All-contains (λ (m : Member). IsValid m.1) (members_in x) (key, y) known.valid c,
            (wanted-met env wanted marked key y).1 (met, λ t. All-contains (λ (m : Member). IsFrozen m.1) (members_in x) (key, y) (known.frozen (mark t)) c),
          ),
          All-contains (λ (m : Member). levels m.1 < levels x) (members_in x) (key, y) known.lower c,
        )

    shape_at : (key : Text) (c : Condition) → AreOne c (wanted_at env wanted marked key) → (y : Shape) → part_at (members_in x) key ≡ Some y → IsShapeOf env c y
    shape_at key c one y at =
        let s = (part-known key y at).0 in (s.0, (Meets-same env c (wanted_at env wanted marked key) y s.0 one).1 s.1)

    needed : (key : Text) → Any (Requires env key) wanted → part_at (members_in x) key ≡ None → ⊥
    needed key r at = let n = Any-is (Requires env key) wanted r in part_at-None (members_in x) key at (required-key env (members_in x) n.0 (fits n.0 n.1).required key n.2)

    pub at-place : (key : Text) (p : Place) (o : Option Shape) → part_at (members_in x) key ≡ o → IsPlaceOf env wanted marked key p → IsAt env p o
    at-place key (MayHave c) None at is = tt
    at-place key (MayHave c) (Some y) at is = shape_at key c is.0 y at
    at-place key HasNone o at is = absurd is
    at-place key (MustHave c) None at is = absurd (needed key is.1 at)
    at-place key (MustHave c) (Some y) at is = shape_at key c is.0 y at

    pub fills : (keys : List Text) (places : List Place) → AllZip (IsPlaceOf env wanted marked) keys places → IsIn env places (map (part_at (members_in x)) keys)
    fills keys places are = record {
      length = map-length (part_at (members_in x)) keys ∙ sym (AllZip-length (IsPlaceOf env wanted marked) keys places are);
      each = λ k p o is_place is_part.
          let key = AllZip-back (IsPlaceOf env wanted marked) keys places are k p is_place in
          at-place key.0 p o (some_same (sym (map-at (part_at (members_in x)) keys k key.0 key.1) ∙ is_part)) key.2;
    }

    -- no atom out of play has the mapping
    pub not-out : (a : ℕ) → IsAtomOf env Mappings a → IsMappingOutOfPlay env wanted a → ¬ In env x (Atom a)
    not-out a def (key, required, apart) in_a = by (part_at (members_in x) key) refl
      where
        all_in : All (λ b. In env x (Atom b)) (a ∷ wanted)
        all_in = All-cons (λ b. In env x (Atom b)) a wanted in_a ins

        all_defs : All (IsAtomOf env Mappings) (a ∷ wanted)
        all_defs = All-cons (IsAtomOf env Mappings) a wanted def defs

        fit : (b : ℕ) → Contains (a ∷ wanted) b → FitsAtom env (members_in x) b
        fit b c = (in_atom b (All-contains (IsAtomOf env Mappings) (a ∷ wanted) b all_defs c)).0 (All-contains (λ b. In env x (Atom b)) (a ∷ wanted) b all_in c)

        by : (o : Option Shape) → part_at (members_in x) key ≡ o → ⊥
        by None at =
            let n = Any-is (Requires env key) (a ∷ wanted) required in part_at-None (members_in x) key at (required-key env (members_in x) n.0 (fit n.0 n.1).required key n.2)
        by (Some y) at =
            let c = part_at-Some (members_in x) key y at in
            let y_valid = All-contains (λ (m : Member). IsValid m.1) (members_in x) (key, y) known.valid c in
            let met = All-where (IsAtomOf env Mappings) (Contains (a ∷ wanted)) (λ b. Meets env (member_of env key b) y)
            (λ b d in_all. All-contains (λ (m : Member). Meets env (member_of env m.0 b) m.1) (members_in x) (key, y) (fit b in_all).each c) (a ∷ wanted) all_defs (All-contains_itself (a ∷ wanted)) in
            let all = (Meets-asks env (map (member_of env key) (a ∷ wanted)) [] y).1 (All-map (λ c. Meets env c y) (member_of env key) (a ∷ wanted) met, All-nil _) in
            Meets-nothing env y ((Meets-same env (asks (map (member_of env key) (a ∷ wanted)) []) nothing y y_valid apart).0 all)
