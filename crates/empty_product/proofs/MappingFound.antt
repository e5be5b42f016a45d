-- A mapping that is put together of parts: it is valid, in the wanted atoms, and in no atom that a part avoids.
use Rattle.std.proofs.Common.{◌≡◌, ◌↔◌, ℕ, zero, suc, ◌<◌, ◌≤◌, List, [], ◌∷◌, ◌++◌, map, length, All, Contains, Bool, IsTrue, Option, Some, None, slice_get, refl, sym, ap, subst, ◌∙◌, arith}
use Rattle.std.specs.List.{Any, AllZip}
use Rattle.std.proofs.lemmas.List.Elements.{All-append, All-contains, All-weaker, All-contains_itself, Contains-append_left, Contains-append_right}
use Rattle.bal_base.specs.declared.text.Text.{Text}
use Rattle.bal_base.specs.declared.shape.Shape.{Shape, Mapping}
use Rattle.bal_base.specs.Valid.{IsFrozen, IsText, IsValid, KeysRise, AreTexts}
use Rattle.bal_base.proofs.Rows.{IsValid-Mapping}
use Rattle.type_model.specs.declared.basic.SemType.{Atom}
use Rattle.type_model.specs.declared.atoms.AtomDef.{AtomDef}
use Rattle.type_model.specs.Membership.{In}
use Rattle.type_model.specs.Places.{HasKey}
use Rattle.type_diagrams.specs.declared.kind.Kind.TheVariants.{Mapping as Mappings}
use Rattle.type_diagrams.specs.Kinds.{the_mark}
use Rattle.type_diagrams.specs.Conditions.{Condition, AreOne, IsShapeOf, Meets}
use Rattle.type_diagrams.specs.Members.{Requires, member_of}
use Rattle.type_diagrams.proofs.Elements.{All-where}
use Rattle.type_diagrams.proofs.Meeting.{Meets-same}
use Rattle.type_diagrams.proofs.PathShapes.{IsAtomOf}
use Rattle.empty_product.specs.Further.{RestAsking}
use Rattle.empty_product.specs.Keys.{Names, HasNamedKeys, IsBehind}
use Rattle.empty_product.specs.Mappings.{wanted_at, IsPlaceOf, IsAskingOf, IsMappingOf, members_at}
use Rattle.empty_product.specs.Products.{IsIn, Avoids}
use Rattle.empty_product.specs.Slots.{Place, MayHave, HasNone, MustHave, Asking, IsAt, AvoidsAt}
use Rattle.empty_product.proofs.AtomFields.{Requires-Names, member_of-unnamed}
use Rattle.empty_product.proofs.KeyInsert.{rise-keys}
use Rattle.empty_product.proofs.MappingMembers.{members_in-Mapping, FitsAtom, In-members, required-key, has-required}
use Rattle.empty_product.proofs.MappingParts.{map-at, at-map, wanted-met, wanted_at-unnamed, not-named, behind-not-there}
use Rattle.empty_product.proofs.MemberLists.{Member, HasName, members_at-is, members_at-has, members_at-all, members_at-sorted, members_at-none}
use Rattle.empty_product.proofs.SortedLists.{Sorted-append}
use Rattle.type_model.proofs.TextOrder.{Below, below-apart, KeysSorted, rise-Sorted}
use Rattle.empty_product.proofs.Zipped.{none_some, All-slice_get, All-from_slice_get, at-Contains, Contains-at, Any-is, Any-of, AllZip-at, AllZip-back, AllZip-length}

-- ---- lists put together

pub at-append : {X : Type 0} (xs ys : List X) (k : ℕ) (x : X) → slice_get xs k ≡ Some x → slice_get (xs ++ ys) k ≡ Some x
at-append [] ys k x is = absurd (none_some is)
at-append (z ∷ xs) ys zero x is = is
at-append (z ∷ xs) ys (suc k) x is = at-append xs ys k x is

pub at-there : {X : Type 0} (xs : List X) (k : ℕ) → k < length xs → (x : X) × (slice_get xs k ≡ Some x)
at-there [] k lt = absurd (omega (arith, lt))
at-there (x ∷ xs) zero lt = (x, refl)
at-there (x ∷ xs) (suc k) lt = at-there xs k (omega (arith, lt))

pub at-within : {X : Type 0} (xs : List X) (k : ℕ) (x : X) → slice_get xs k ≡ Some x → k < length xs
at-within [] k x is = absurd (none_some is)
at-within (y ∷ xs) zero x is = omega arith
at-within (y ∷ xs) (suc k) x is = omega (arith, at-within xs k x is)

members_at-append : (keys more : List Text) (parts further : List (Option Shape)) → length parts ≡ length keys → members_at (keys ++ more) (parts ++ further) ≡ members_at keys parts ++ members_at more further
members_at-append [] more [] further e = refl
members_at-append [] more (o ∷ parts) further e = absurd (omega (arith, e))
members_at-append (key ∷ keys) more [] further e = absurd (omega (arith, e))
members_at-append (key ∷ keys) more (None ∷ parts) further e = members_at-append keys more parts further (omega (arith, e))
members_at-append (key ∷ keys) more (Some x ∷ parts) further e = ap (λ ms. (key, x) ∷ ms) (members_at-append keys more parts further (omega (arith, e)))

module _ (env : List AtomDef) (small : length env ≤ the_mark) (wanted : List ℕ) (marked : Bool) (defs : All (IsAtomOf env Mappings) wanted) where
  module _ (unwanted : List ℕ) (keys : List Text) (named : HasNamedKeys env (wanted ++ unwanted) keys) (fresh : Text) (behind : IsBehind keys fresh) where
    module _ (rest : Condition) (rest_is : AreOne rest (wanted_at env wanted marked fresh)) (places : List Place) (are : AllZip (IsPlaceOf env wanted marked) keys places) (parts : List (Option Shape)) (in_places : IsIn env places parts) (further : List Shape) (inside : All (IsShapeOf env rest) further) (x : Shape) (is : IsMappingOf marked keys parts further x) where
      abbrev ms : List Member
      ms = members_at (keys ++ is.fresh) (parts ++ map Some further)

      sorted : KeysSorted (keys ++ is.fresh)
      sorted = rise-keys (keys ++ is.fresh) is.ordered.rise

      long : length parts ≡ length keys
      long = in_places.length ∙ AllZip-length (IsPlaceOf env wanted marked) keys places are

      both : ms ≡ members_at keys parts ++ members_at is.fresh (map Some further)
      both = members_at-append keys is.fresh parts (map Some further) long

      -- the keys behind are not named
      unnamed : (key : Text) → Contains is.fresh key → (a : ℕ) → Contains (wanted ++ unwanted) a → ¬ Names env a key
      unnamed key c = not-named env (wanted ++ unwanted) keys named key (λ there. below-apart key key (All-contains (λ y. Below key y) is.fresh key (All-contains (λ k. All (Below k) is.fresh) keys key (Sorted-append (λ k. k) keys is.fresh sorted).2 there) c) refl)

      fresh-unnamed : (a : ℕ) → Contains (wanted ++ unwanted) a → ¬ Names env a fresh
      fresh-unnamed = not-named env (wanted ++ unwanted) keys named fresh (behind-not-there keys fresh behind)

      shape_as : (c : Condition) (key : Text) (y : Shape) → AreOne c (wanted_at env wanted marked key) → IsShapeOf env c y → IsShapeOf env (wanted_at env wanted marked key) y
      shape_as c key y one h = (h.0, (Meets-same env c (wanted_at env wanted marked key) y h.0 one).0 h.1)

      placed : (key : Text) (p : Place) (y : Shape) → IsPlaceOf env wanted marked key p → IsAt env p (Some y) → IsShapeOf env (wanted_at env wanted marked key) y
      placed key (MayHave c) y i h = shape_as c key y i.0 h
      placed key HasNone y i h = absurd i
      placed key (MustHave c) y i h = shape_as c key y i.0 h

      named-good : All (λ m. IsShapeOf env (wanted_at env wanted marked m.0) m.1) (members_at keys parts)
      named-good = All-from_slice_get (λ m. IsShapeOf env (wanted_at env wanted marked m.0) m.1) (members_at keys parts) (λ j m at.
          let r = members_at-is keys parts j m at in
          let p = AllZip-at (IsPlaceOf env wanted marked) keys places are r.0 m.0 r.1 in
          placed m.0 p.0 m.1 p.2 (in_places.each r.0 p.0 (Some m.1) p.1 r.2))

      further-good : All (λ m. IsShapeOf env (wanted_at env wanted marked m.0) m.1) (members_at is.fresh (map Some further))
      further-good = All-from_slice_get (λ m. IsShapeOf env (wanted_at env wanted marked m.0) m.1) (members_at is.fresh (map Some further)) (λ j m at.
          let r = members_at-is is.fresh (map Some further) j m at in
          let f = at-map Some further r.0 (Some m.1) r.2 in
          let y : slice_get further r.0 ≡ Some m.1 = f.1 ∙ f.2 in
          let h = shape_as rest fresh m.1 rest_is (All-slice_get (IsShapeOf env rest) further r.0 m.1 inside y) in
          let c = at-Contains is.fresh r.0 m.0 r.1 in
          let same = wanted_at-unnamed env wanted marked fresh m.0 (All-weaker (Contains wanted) (λ a. (¬ Names env a fresh) × (¬ Names env a m.0)) (λ a w. (fresh-unnamed a (Contains-append_left wanted unwanted a w), unnamed m.0 c a (Contains-append_left wanted unwanted a w))) wanted (All-contains_itself wanted)) in
          subst (λ d. IsShapeOf env d m.1) same h)

      good : All (λ m. IsShapeOf env (wanted_at env wanted marked m.0) m.1) ms
      good = subst (All (λ m. IsShapeOf env (wanted_at env wanted marked m.0) m.1)) (sym both) (All-append (λ m. IsShapeOf env (wanted_at env wanted marked m.0) m.1) (members_at keys parts) (members_at is.fresh (map Some further)) named-good further-good)

      -- ---- it is valid

      pub mapping-valid : IsValid x
      mapping-valid =
          subst IsValid (sym is.shape) ((IsValid-Mapping marked is.fields).1 (subst (λ fs. AreTexts fs × KeysRise fs × (IsTrue marked → All (λ f. IsFrozen f.1) fs) × All (λ f. IsValid f.1) fs) (sym is.members) (
            members_at-all IsText (keys ++ is.fresh) (parts ++ map Some further) is.ordered.texts,
            rise-Sorted (λ (m : Member). m.0) ms (members_at-sorted (keys ++ is.fresh) (parts ++ map Some further) sorted),
            λ t. All-weaker (λ m. IsShapeOf env (wanted_at env wanted marked m.0) m.1) (λ m. IsFrozen m.1) (λ m h. ((wanted-met env wanted marked m.0 m.1).0 h.1).1 t) ms good,
            All-weaker (λ m. IsShapeOf env (wanted_at env wanted marked m.0) m.1) (λ m. IsValid m.1) (λ m h. h.0) ms good,
          )))

      -- ---- it is in the wanted atoms

      in_atom : (a : ℕ) → IsAtomOf env Mappings a → In env x (Atom a) ↔ FitsAtom env ms a
      in_atom a def =
          subst (λ y. In env y (Atom a) ↔ FitsAtom env ms a) (sym is.shape)
          (subst (λ fs. In env (Mapping marked is.fields) (Atom a) ↔ FitsAtom env fs a) (members_in-Mapping marked is.fields ∙ is.members) (In-members env small (Mapping marked is.fields) refl a def))

      -- a part at each key that a wanted atom requires
      filled : (key : Text) (p : Place) (o : Option Shape) → IsPlaceOf env wanted marked key p → Any (Requires env key) wanted → IsAt env p o → (y : Shape) × (o ≡ Some y)
      filled key (MayHave c) o i r h = absurd (i.1 r)
      filled key HasNone o i r h = absurd i
      filled key (MustHave c) None i r h = absurd h
      filled key (MustHave c) (Some y) i r h = (y, refl)

      has_member : (k : ℕ) (key : Text) (y : Shape) → slice_get keys k ≡ Some key → slice_get parts k ≡ Some (Some y) → Contains ms (key, y)
      has_member k key y p q = members_at-has (keys ++ is.fresh) (parts ++ map Some further) k key y (at-append keys is.fresh k key p) (at-append parts (map Some further) k (Some y) q)

      has_key : (key : Text) → Any (Requires env key) wanted → HasKey ms key
      has_key key r =
          let n = Any-is (Requires env key) wanted r in
          let c = named.all n.0 key (Contains-append_left wanted unwanted n.0 n.1) (Requires-Names env key n.0 n.2) in
          let at = Contains-at keys key c in
          let p = AllZip-at (IsPlaceOf env wanted marked) keys places are at.0 key at.1 in
          let o = at-there parts at.0 (omega (arith, at-within keys at.0 key at.1, long)) in
          let y = filled key p.0 o.0 p.2 r (in_places.each at.0 p.0 o.0 p.1 o.1) in
          Any-of (HasName key) ms (key, y.0) (has_member at.0 key y.0 at.1 (o.1 ∙ ap Some y.1)) refl

      pub in-wanted : All (λ a. In env x (Atom a)) wanted
      in-wanted = All-where (IsAtomOf env Mappings) (Contains wanted) (λ a. In env x (Atom a)) (λ a def c. (in_atom a def).1 (record {
        required = has-required env ms a (λ key r. has_key key (Any-of (Requires env key) wanted a c r));
        each = All-weaker (λ m. IsShapeOf env (wanted_at env wanted marked m.0) m.1) (λ m. Meets env (member_of env m.0 a) m.1) (λ m h. All-contains (λ b. Meets env (member_of env m.0 b) m.1) wanted a ((wanted-met env wanted marked m.0 m.1).0 h.1).0 c) ms good;
      })) wanted defs (All-contains_itself wanted)

      -- ---- it is in no atom that is avoided

      member_met : (a : ℕ) → FitsAtom env ms a → (key : Text) (y : Shape) → Contains ms (key, y) → Meets env (member_of env key a) y
      member_met a fit key y c = All-contains (λ m. Meets env (member_of env m.0 a) m.1) ms (key, y) fit.each c

      pub avoided-out : (a : ℕ) → IsAtomOf env Mappings a → (row : List Asking) → AllZip (IsAskingOf env a) keys row → Avoids env row parts → ¬ In env x (Atom a)
      avoided-out a def row rows av in_a = by av.part av.stands av.avoids
        where
          fit : FitsAtom env ms a
          fit = (in_atom a def).0 in_a

          by : (o : Option Shape) → slice_get parts av.place ≡ Some o → AvoidsAt env av.asking o → ⊥
          by None stands avoids =
              let key = AllZip-back (IsAskingOf env a) keys row rows av.place av.asking av.asks in
              members_at-none (keys ++ is.fresh) (parts ++ map Some further) sorted av.place key.0 (at-append keys is.fresh av.place key.0 key.1) (at-append parts (map Some further) av.place None stands)
              (required-key env ms a fit.required key.0 (key.2.required.0 avoids))
          by (Some y) stands avoids =
              let key = AllZip-back (IsAskingOf env a) keys row rows av.place av.asking av.asks in
              let c = has_member av.place key.0 y key.1 stands in
              let y_valid = (All-contains (λ m. IsShapeOf env (wanted_at env wanted marked m.0) m.1) ms (key.0, y) good c).0 in
              avoids ((Meets-same env av.asking.part (member_of env key.0 a) y y_valid key.2.part).1 (member_met a fit key.0 y c))

      pub further-out : (a : ℕ) → IsAtomOf env Mappings a → Contains unwanted a → (r : RestAsking) → AreOne r.part (member_of env fresh a) → Any (λ y. ¬ Meets env r.part y) further → ¬ In env x (Atom a)
      further-out a def among r one some in_a =
          let n = Any-is (λ y. ¬ Meets env r.part y) further some in
          let at = Contains-at further n.0 n.1 in
          let key = at-there is.fresh at.0 (omega (arith, at-within further at.0 n.0 at.1, is.long)) in
          let here = members_at-has is.fresh (map Some further) at.0 key.0 n.0 key.1 (map-at Some further at.0 n.0 at.1) in
          let c = subst (λ l. Contains l (key.0, n.0)) (sym both) (Contains-append_right (members_at keys parts) (members_at is.fresh (map Some further)) (key.0, n.0) here) in
          let y_valid = (All-contains (λ m. IsShapeOf env (wanted_at env wanted marked m.0) m.1) ms (key.0, n.0) good c).0 in
          let in_all = Contains-append_right wanted unwanted a among in
          let same = member_of-unnamed env a key.0 fresh (unnamed key.0 (at-Contains is.fresh at.0 key.0 key.1) a in_all) (fresh-unnamed a in_all) in
          let met = subst (λ d. Meets env d n.0) same (member_met a ((in_atom a def).0 in_a) key.0 n.0 c) in
          n.2 ((Meets-same env r.part (member_of env fresh a) n.0 y_valid one).1 met)
