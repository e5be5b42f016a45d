-- What stands at one key of mappings: a part at the target is a member of a mapping of the path, and each member
-- there is one, or the mapping has a lower part.
use Rattle.std.proofs.Common.{◌≡◌, ◌⊎◌, ⊎_elim, inl, inr, ℕ, ◌+◌, ◌<◌, ◌≤◌, ◌^◌, ◌==◌, List, [], ◌∷◌, ◌++◌, map, length, All, Contains, Bool, true, false, cond, Option, Some, None, Vec, Global, slice_get, refl, sym, ap, subst, ◌∙◌, arith}
use Rattle.std.specs.Prelude.{if◌then◌else◌}
use Rattle.std.specs.Cmp.Lexicographic.{bytes_decides}
use Rattle.std.specs.List.{AllZip, list_any}
use Rattle.std.proofs.lemmas.Bool.{false≢true}
use Rattle.std.proofs.lemmas.List.Elements.{All-contains, All-weaker, All-contains_itself, Contains-append_left, Contains-append_right}
use Rattle.bal_base.specs.declared.text.Text.{Text}
use Rattle.bal_base.specs.declared.shape.Shape.{Shape, Mapping}
use Rattle.bal_base.specs.declared.shape.Fields.{Fields}
use Rattle.bal_base.specs.Levels.{levels}
use Rattle.bal_base.specs.Valid.{IsValid}
use Rattle.bal_base.proofs.Vectors.{holding, length-small}
use Rattle.type_model.specs.declared.basic.SemType.{Atom}
use Rattle.type_model.specs.declared.atoms.AtomDef.{AtomDef}
use Rattle.type_model.specs.declared.answers.Keys.TheVariants.{Field}
use Rattle.type_model.specs.Membership.{In}
use Rattle.type_model.specs.Parts.{StandsIn}
use Rattle.type_model.specs.Places.{is_same_text}
use Rattle.type_diagrams.specs.declared.kind.Kind.TheVariants.{Mapping as Mappings}
use Rattle.type_diagrams.specs.declared.path.Path.{Path}
use Rattle.type_diagrams.specs.Kinds.{IsOfKind, the_mark}
use Rattle.type_diagrams.specs.Conditions.{Condition, AreOne, IsShapeOf, Meets}
use Rattle.type_diagrams.specs.Members.{IsMappingOutOfPlay, atoms_in, member_of}
use Rattle.type_diagrams.specs.Paths.{IsOnPath}
use Rattle.type_diagrams.specs.Tables.{Table, condition}
use Rattle.type_diagrams.specs.Turns.{HasLiteralsOf, HasLower, IsShapeOn}
use Rattle.type_diagrams.proofs.Meeting.{Meets-same}
use Rattle.type_diagrams.proofs.PathShapes.{IsAtomOf, has_mark, in_no_unwanted}
use Rattle.empty_product.specs.Further.{RestAsking, AreSplit}
use Rattle.empty_product.specs.Keys.{AreInOrder, HasNamedKeys, IsBehind, Names}
use Rattle.empty_product.specs.Mappings.{AreWays, IsAskingOf, IsMappingOf, IsPlaceOf, IsRestAskingOf, members_at, wanted_at}
use Rattle.empty_product.specs.MemberParts.{AreAlike, IsFree, IsRoom}
use Rattle.empty_product.specs.Play.{AreInPlay}
use Rattle.empty_product.specs.Products.{Avoids, HasHeldPart, IsIn}
use Rattle.empty_product.specs.Slots.{Asking, IsAt, Place, MayHave, HasNone, MustHave}
use Rattle.empty_product.specs.Standing.{Gathers, StandsInFilling}
use Rattle.empty_product.proofs.AtomFields.{Requires-Names}
use Rattle.empty_product.proofs.KeyInsert.{push-ordered}
use Rattle.empty_product.proofs.MappingFound.{at-append}
use Rattle.empty_product.proofs.MappingLower.{HasOther, LacksKey, at-place, outside}
use Rattle.empty_product.proofs.MappingMembers.{each-mapping, members_in, members_in-Mapping}
use Rattle.empty_product.proofs.MappingParts.{at-map, map-at, map-length, same_text, there_or_not, wanted_at-unnamed}
use Rattle.empty_product.proofs.MappingTurns.{all_rows, by_further, def_of, found-on_path, in_play, known_at, lower, mark, pos, staying-in_play, unnamed, wanted_in}
use Rattle.empty_product.proofs.MemberLists.{Member, members_at-has, part_at}
use Rattle.empty_product.proofs.Zipped.{some_same, none_some, Contains-at, at-Contains, AllZip-at, AllZip-back, AllZip-length}

-- ---- mappings of given members

members_at-length : (keys : List Text) (parts : List (Option Shape)) → length (members_at keys parts) ≤ length keys
members_at-length [] parts = omega arith
members_at-length (key ∷ keys) [] = omega arith
members_at-length (key ∷ keys) (None ∷ parts) = omega (arith, members_at-length keys parts)
members_at-length (key ∷ keys) (Some x ∷ parts) = omega (arith, members_at-length keys parts)

-- there is one with these parts and these further ones, where there is room for them
pub mapping-there : (mark : Bool) (keys : List Text) (parts : List (Option Shape)) (further : List Shape) (all : Vec Text Global) → IsRoom keys (length further) all.items → (x : Shape) × IsMappingOf mark keys parts further x
mapping-there mark keys parts further all room = (
  Mapping mark fields,
  record { fields = fields; fresh = room.fresh; shape = refl; ordered = subst AreInOrder room.all_are room.ordered; long = room.long; members = refl },
)
  where
    ms : List Member
    ms = members_at (keys ++ room.fresh) (parts ++ map Some further)

    small : length ms < 2 ^ 63
    small =
        let fewer = members_at-length (keys ++ room.fresh) (parts ++ map Some further) in
        let same = ap length room.all_are in
        let limit = length-small all in
        omega (arith, fewer, same, limit)

    fields : Fields
    fields = record { items = holding all ms small }

-- keys with none behind them, and with one more
pub no-room : (keys all : List Text) → all ≡ keys → AreInOrder keys → IsRoom keys 0 all
no-room keys all same ordered = record { fresh = []; long = refl; all_are = same ∙ append-none keys; ordered = subst AreInOrder (sym same) ordered }
  where
    append-none : (xs : List Text) → xs ≡ xs ++ []
    append-none [] = refl
    append-none (x ∷ xs) = ap (λ ys. x ∷ ys) (append-none xs)

pub more-room : (keys all new : List Text) (count : ℕ) (key : Text) → IsRoom keys count all → IsBehind all key → new ≡ all ++ key ∷ [] → IsRoom keys (count + 1) new
more-room keys all new count key room behind pushed = record {
  fresh = room.fresh ++ key ∷ [];
  long = length-push room.fresh ∙ ap (λ n. n + 1) room.long;
  all_are = pushed ∙ ap (λ ks. ks ++ key ∷ []) room.all_are ∙ behind-append keys room.fresh;
  ordered = subst AreInOrder (sym pushed) (push-ordered all key room.ordered behind);
}
  where
    length-push : (xs : List Text) → length (xs ++ key ∷ []) ≡ length xs + 1
    length-push [] = refl
    length-push (x ∷ xs) = let e = length-push xs in omega arith

    behind-append : (xs ys : List Text) → (xs ++ ys) ++ key ∷ [] ≡ xs ++ (ys ++ key ∷ [])
    behind-append [] ys = refl
    behind-append (x ∷ xs) ys = ap (λ zs. x ∷ zs) (behind-append xs ys)

-- what stands at a key is a member
pub stands-member : (x : Shape) → IsOfKind Mappings x → (key : Text) (y : Shape) → StandsIn (Field key) x y → Contains (members_in x) (key, y)
stands-member x kind key y = each-mapping (λ z. StandsIn (Field key) z y → Contains (members_in z) (key, y)) (λ mark s row h. h) x kind

pub member-stands : (x : Shape) → IsOfKind Mappings x → (key : Text) (y : Shape) → Contains (members_in x) (key, y) → StandsIn (Field key) x y
member-stands x kind key y = each-mapping (λ z. Contains (members_in z) (key, y) → StandsIn (Field key) z y) (λ mark s row h. h) x kind

-- ---- the parts with another one at a key

abbrev with_at : (Text → Option Shape) → Text → Shape → Text → Option Shape
with_at g f y key = if is_same_text key f then Some y else g key

with_at-same : (g : Text → Option Shape) (f : Text) (y : Shape) (key : Text) → key ≡ f → with_at g f y key ≡ Some y
with_at-same g f y key same = by (is_same_text key f) refl
  where
    by : (b : Bool) → is_same_text key f ≡ b → cond b (Some y) (g key) ≡ Some y
    by true e = refl
    by false e = absurd (false≢true (sym e ∙ (bytes_decides key f).1 same))

with_at-other : (g : Text → Option Shape) (f : Text) (y : Shape) (key : Text) → (key ≡ f → ⊥) → with_at g f y key ≡ g key
with_at-other g f y key ne = by (is_same_text key f) refl
  where
    by : (b : Bool) → is_same_text key f ≡ b → cond b (Some y) (g key) ≡ g key
    by true e = absurd (ne ((bytes_decides key f).0 e))
    by false e = refl

module _ (env : List AtomDef) (small : length env ≤ the_mark) (table : Table) (kept : List (ℕ × Option Shape)) (p : Path) (literals : HasLiteralsOf env Mappings p) (playing : List ℕ) (play : AreInPlay (IsMappingOutOfPlay env (atoms_in p.pos)) (atoms_in p.neg) playing)
    (fresh : Text) (rest : Condition) (rest_is : AreOne rest (wanted_at env (atoms_in p.pos) (has_mark p) fresh)) (askings : List RestAsking) (askings_are : AllZip (IsRestAskingOf env fresh) playing askings)
    (further : List Shape) (staying : List ℕ) (split : AreSplit env table kept rest askings further staying)
    (keys : List Text) (places : List Place) (rows : List (List Asking)) (ways : AreWays env (atoms_in p.pos) (has_mark p) keys staying places rows) (named : HasNamedKeys env (atoms_in p.pos ++ playing) keys) (behind : IsBehind keys fresh)
    (target : ℕ) (f : Text) (is_target : slice_get keys target ≡ Some f) where
  abbrev atoms : List ℕ
  atoms = atoms_in p.pos ++ playing

  -- ---- a part at the target is a member of a mapping of the path

  module _ (all : Vec Text Global) (room : IsRoom keys (length further) all.items) (one_way : ¬ ((has_mark p ≡ true) × (list_any (λ l. l == the_mark) p.neg ≡ true))) where
    pub among-stands : (y : Shape) (parts : List (Option Shape)) → StandsInFilling env places rows target parts y → (x : Shape) × IsShapeOn env Mappings p x × StandsIn (Field f) x y
    among-stands y parts s =
        let made = mapping-there (has_mark p) keys parts further all room in
        let x = made.0 in
        let is = made.1 in
        let on = found-on_path env small table kept p literals playing play fresh rest rest_is askings askings_are further staying split keys places rows ways named behind x parts s.fills s.avoiding is one_way in
        let there = members_at-has (keys ++ is.fresh) (parts ++ map Some further) target f y (at-append keys is.fresh target f is_target) (at-append parts (map Some further) target (Some y) s.stands) in
        let inside = subst (λ ms. Contains ms (f, y)) (sym (ap members_in is.shape ∙ members_in-Mapping (has_mark p) is.fields ∙ is.members)) there in
        (x, on, member-stands x on.1.kind f y inside)

  -- ---- a member there, or at a key that is as the target's, is such a part

  module _ (x : Shape) (valid : IsValid x) (on : IsOnPath env Mappings p x) (k : Text) (alike : AreAlike env atoms k f) (y : Shape) (at_k : part_at (members_in x) k ≡ Some y) where
    abbrev look : Text → Option Shape
    look = with_at (part_at (members_in x)) f y

    abbrev Lower : Type 0
    Lower = HasLower env table kept x

    abbrev further_lower : (s : ℕ) (def : IsAtomOf env Mappings s) → Contains staying s → (o : HasOther env small x on.kind valid s def) → IsFree env atoms o.key → Lower
    further_lower = by_further env small table kept p literals playing play fresh rest rest_is askings askings_are further staying split keys places rows ways named behind x valid on

    known : (key : Text) (z : Shape) → part_at (members_in x) key ≡ Some z → IsShapeOf env (wanted_at env (atoms_in p.pos) (has_mark p) key) z × (levels z < levels x)
    known = known_at env small table kept p literals playing play fresh rest rest_is askings askings_are further staying split keys places rows ways named behind x valid on

    same_wanted : wanted_at env (atoms_in p.pos) (has_mark p) k ≡ wanted_at env (atoms_in p.pos) (has_mark p) f
    same_wanted = ⊎_elim
        (λ (e : k ≡ f). ap (wanted_at env (atoms_in p.pos) (has_mark p)) e)
        (λ (free : IsFree env atoms k × IsFree env atoms f). wanted_at-unnamed env (atoms_in p.pos) (has_mark p) k f (All-weaker (Contains (atoms_in p.pos)) (λ a. (¬ Names env a k) × (¬ Names env a f))
        (λ a w. let c = Contains-append_left (atoms_in p.pos) playing a w in (free.0 a c, free.1 a c)) (atoms_in p.pos) (All-contains_itself (atoms_in p.pos))))
        alike

    -- ---- each part may stand at its place

    some-at : (key : Text) (q : Place) → IsPlaceOf env (atoms_in p.pos) (has_mark p) key q → IsShapeOf env (wanted_at env (atoms_in p.pos) (has_mark p) key) y → IsAt env q (Some y)
    some-at key (MayHave c) i h = (h.0, (Meets-same env c (wanted_at env (atoms_in p.pos) (has_mark p) key) y h.0 i.0).1 h.1)
    some-at key HasNone i h = absurd i
    some-at key (MustHave c) i h = (h.0, (Meets-same env c (wanted_at env (atoms_in p.pos) (has_mark p) key) y h.0 i.0).1 h.1)

    look-at : (key : Text) (q : Place) → IsPlaceOf env (atoms_in p.pos) (has_mark p) key q → IsAt env q (look key)
    look-at key q i = ⊎_elim
        (λ (e : key ≡ f). subst (IsAt env q) (sym (with_at-same (part_at (members_in x)) f y key e))
        (some-at key q i (subst (λ d. IsShapeOf env d y) (same_wanted ∙ sym (ap (wanted_at env (atoms_in p.pos) (has_mark p)) e)) (known k y at_k).0)))
        (λ (ne : key ≡ f → ⊥). subst (IsAt env q) (sym (with_at-other (part_at (members_in x)) f y key ne))
        (at-place env small x on.kind valid (atoms_in p.pos) (has_mark p)
        (pos env small table kept p literals playing play)
        (mark env small table kept p literals playing play fresh rest rest_is askings askings_are further staying split keys places rows ways named behind x valid on)
        (wanted_in env small table kept p literals playing play fresh rest rest_is askings askings_are further staying split keys places rows ways named behind x valid on)
        key q (part_at (members_in x) key) refl i))
        (same_text key f)

    look-IsIn : IsIn env places (map look keys)
    look-IsIn = record {
      length = map-length look keys ∙ sym (AllZip-length (IsPlaceOf env (atoms_in p.pos) (has_mark p)) keys places ways.places_are);
      each = λ i q o is_place is_part.
          let key = AllZip-back (IsPlaceOf env (atoms_in p.pos) (has_mark p)) keys places ways.places_are i q is_place in
          subst (IsAt env q) (some_same (sym (map-at look keys i key.0 key.1) ∙ is_part)) (look-at key.0 q key.2);
    }

    -- ---- each staying atom is avoided by them, or by a further member

    module _ (s : ℕ) (c : Contains staying s) (row : List Asking) (are : AllZip (IsAskingOf env s) keys row) where
      among : Contains playing s
      among = staying-in_play env small table kept p literals playing play fresh rest rest_is askings askings_are further staying split s c

      in_atoms : Contains atoms s
      in_atoms = Contains-append_right (atoms_in p.pos) playing s among

      unwanted : Contains (atoms_in p.neg) s
      unwanted = (in_play env small table kept p literals playing play s among).0

      def : IsAtomOf env Mappings s
      def = def_of env small table kept p literals playing play s unwanted

      lacking : LacksKey env small x on.kind valid s def → Avoids env row (map look keys)
      lacking l =
          let names = Requires-Names env l.key s l.needs in
          let at = Contains-at keys l.key (named.all s l.key in_atoms names) in
          let asking = AllZip-at (IsAskingOf env s) keys row are at.0 l.key at.1 in record {
            place = at.0;
            asking = asking.0;
            part = None;
            asks = asking.1;
            stands = map-at look keys at.0 l.key at.1 ∙ ap Some (with_at-other (part_at (members_in x)) f y l.key (elsewhere names) ∙ l.at);
            avoids = asking.2.required.1 l.needs;
          }
        where
          elsewhere : Names env s l.key → l.key ≡ f → ⊥
          elsewhere names e = ⊎_elim
              (λ (same : k ≡ f). none_some (sym l.at ∙ ap (part_at (members_in x)) (e ∙ sym same) ∙ at_k))
              (λ (free : IsFree env atoms k × IsFree env atoms f). free.1 s in_atoms (subst (Names env s) e names))
              alike

      seen : (o : HasOther env small x on.kind valid s def) → Contains keys o.key → look o.key ≡ Some o.part → Avoids env row (map look keys)
      seen o there is =
          let at = Contains-at keys o.key there in
          let asking = AllZip-at (IsAskingOf env s) keys row are at.0 o.key at.1 in record {
            place = at.0;
            asking = asking.0;
            part = Some o.part;
            asks = asking.1;
            stands = map-at look keys at.0 o.key at.1 ∙ ap Some is;
            avoids = λ m. o.other ((Meets-same env asking.0.part (member_of env o.key s) o.part (known o.key o.part o.at).0.0 asking.2.part).0 m);
          }

      other : (o : HasOther env small x on.kind valid s def) → Avoids env row (map look keys) ⊎ Lower
      other o = ⊎_elim
          (λ (there : Contains keys o.key). ⊎_elim
          (λ (e : o.key ≡ f). ⊎_elim
          (λ (same : k ≡ f).
          let one = some_same (sym at_k ∙ ap (part_at (members_in x)) (same ∙ sym e) ∙ o.at) in
          inl (seen o there (with_at-same (part_at (members_in x)) f y o.key e ∙ ap Some one)))
          (λ (free : IsFree env atoms k × IsFree env atoms f). inr (further_lower s def c o (subst (IsFree env atoms) (sym e) free.1)))
          alike)
          (λ (ne : o.key ≡ f → ⊥). inl (seen o there (with_at-other (part_at (members_in x)) f y o.key ne ∙ o.at)))
          (same_text o.key f))
          (λ (out : ¬ Contains keys o.key). inr (further_lower s def c o (λ a d. unnamed env small table kept p literals playing play fresh rest rest_is askings askings_are further staying split keys places rows ways named behind x valid on a d o.key out)))
          (there_or_not keys o.key)

      avoided-row : Avoids env row (map look keys) ⊎ Lower
      avoided-row =
          let out = All-contains (λ b. ¬ In env x (Atom b)) (atoms_in p.neg) s (in_no_unwanted env Mappings p x on) unwanted in
          ⊎_elim (λ (o : HasOther env small x on.kind valid s def). other o) (λ (l : LacksKey env small x on.kind valid s def). inl (lacking l)) (outside env small x on.kind valid s def out)

    -- ---- so the question has the member

    pub member-found : (found : Condition) (q : ℕ) → Gathers env table (StandsInFilling env places rows target) (HasHeldPart env table kept) found q → IsShapeOf env (condition table q) y ⊎ Lower
    member-found found q gathers = ⊎_elim
        (λ (avoided : All (λ row. Avoids env row (map look keys)) rows). ⊎_elim
        (λ (m : Meets env (condition table q) y). inl ((known k y at_k).0.0, m))
        (λ (h : HasHeldPart env table kept (map look keys)). inr (held h))
        (gathers.to (map look keys) y (record { fills = look-IsIn; avoiding = avoided; stands = map-at look keys target f is_target ∙ ap Some (with_at-same (part_at (members_in x)) f y f refl) })))
        (λ (l : Lower). inr l)
        (all_rows (λ a row. AllZip (IsAskingOf env a) keys row) (λ row. Avoids env row (map look keys)) Lower staying rows ways.askings_are (λ i s row at are. avoided-row s (at-Contains staying i s at) row are))
      where
        held : HasHeldPart env table kept (map look keys) → Lower
        held h =
            let key = at-map look keys h.place (Some h.part) h.stands in
            let below : levels h.part < levels x = ⊎_elim
            (λ (e : key.0 ≡ f). let one = some_same (sym (with_at-same (part_at (members_in x)) f y key.0 e) ∙ key.2) in subst (λ z. levels z < levels x) one (known k y at_k).1)
            (λ (ne : key.0 ≡ f → ⊥). (known key.0 h.part (sym (with_at-other (part_at (members_in x)) f y key.0 ne) ∙ key.2)).1)
            (same_text key.0 f) in
            lower env small table kept p literals playing play fresh rest rest_is askings askings_are further staying split keys places rows ways named behind x valid on h.part h.held below
