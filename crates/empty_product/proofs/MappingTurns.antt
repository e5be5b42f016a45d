-- What is told of mappings by their keys is said of the path.
use Rattle.std.proofs.Common.{◌≡◌, ◌↔◌, ◌⊎◌, ⊎_elim, inl, inr, ℕ, zero, suc, ◌<◌, ◌≤◌, ◌&&◌, ◌==◌, not, List, [], ◌∷◌, ◌++◌, map, length, All, Contains, Bool, true, false, IsTrue, Option, Some, slice_get, refl, sym, ap, subst, ◌∙◌}
use Rattle.std.specs.List.{Any, AllZip, list_all, list_any}
use Rattle.std.proofs.lemmas.List.Elements.{All-nil, All-cons, All-head, All-tail, All-contains, All-weaker, All-contains_itself, Contains-append_left, Contains-append_right}
use Rattle.bal_base.specs.declared.text.Text.{Text}
use Rattle.bal_base.specs.declared.shape.Shape.{Shape}
use Rattle.bal_base.specs.Levels.{levels}
use Rattle.bal_base.specs.Valid.{IsValid}
use Rattle.type_model.specs.declared.basic.SemType.{Atom}
use Rattle.type_model.specs.declared.atoms.AtomDef.{AtomDef}
use Rattle.type_model.specs.Membership.{In}
use Rattle.type_diagrams.specs.declared.kind.Kind.TheVariants.{Mapping as Mappings}
use Rattle.type_diagrams.specs.declared.path.Path.{Path}
use Rattle.type_diagrams.specs.declared.turn.Turn.{Turn}
use Rattle.type_diagrams.specs.declared.turn.Turn.TheVariants.{Shape as Found, Empty, Ask}
use Rattle.type_diagrams.specs.Kinds.{IsOfKind, IsMarked, the_mark}
use Rattle.type_diagrams.specs.Conditions.{Condition, AreOne, IsNothing, IsShapeOf, Meets, asks, nothing, without}
use Rattle.type_diagrams.specs.Members.{IsMappingOutOfPlay, atoms_in, member_of}
use Rattle.type_diagrams.specs.Paths.{IsOnPath}
use Rattle.type_diagrams.specs.Questions.{IsMemberQuestion, wanted_parts}
use Rattle.type_diagrams.specs.Tables.{Table, condition}
use Rattle.type_diagrams.specs.Turns.{HasLiteralsOf, HasLower, IsShapeOn, Turns}
use Rattle.type_diagrams.proofs.Asking.{asks_begun, asks_one_less}
use Rattle.type_diagrams.proofs.Elements.{All-where}
use Rattle.type_diagrams.proofs.Meeting.{Meets-same}
use Rattle.type_diagrams.proofs.PathShapes.{IsAtomOf, atoms-are, has_mark, in_wanted, in_no_unwanted, is_marked}
use Rattle.type_diagrams.proofs.Shapes.{one-further}
use Rattle.empty_product.specs.declared.avoid.Filling.TheVariants.{Empty as NoFilling}
use Rattle.empty_product.specs.Further.{RestAsking, AreSplit, IsAvoidedBy, MustStay}
use Rattle.empty_product.specs.Keys.{Names, HasNamedKeys, IsBehind}
use Rattle.empty_product.specs.MemberParts.{IsFree}
use Rattle.empty_product.specs.Mappings.{AsksFurther, AreWays, IsMappingOf, IsAskingOf, IsPlaceOf, IsRestAskingOf, IsSettled, TellsMappings, wanted_at}
use Rattle.empty_product.specs.Play.{AreInPlay}
use Rattle.empty_product.specs.Products.{AsksPart, Avoids, IsIn, TellsFilling}
use Rattle.empty_product.specs.Slots.{Place, MayHave, HasNone, MustHave, Asking, IsInHeld, condition_at}
use Rattle.empty_product.proofs.MappingFound.{avoided-out, further-out, in-wanted, mapping-valid}
use Rattle.empty_product.proofs.MappingLower.{HasOther, avoided, fills, not-out, part-known}
use Rattle.empty_product.proofs.MappingMembers.{members_in}
use Rattle.empty_product.proofs.MappingParts.{at-map, map-at, behind-not-there, not-named, wanted_at-unnamed}
use Rattle.empty_product.proofs.AtomFields.{member_of-unnamed}
use Rattle.empty_product.proofs.MarkedPaths.{marked-on_path}
use Rattle.empty_product.proofs.MemberLists.{part_at}
use Rattle.empty_product.proofs.Zipped.{some_same, none_some, All-slice_get, All-from_slice_get, Any-is, Any-weaker, Contains-at, at-Contains, AllZip-at, AllZip-back}

-- ---- questions

-- a question without conditions that count as one
along-all : (p : Condition → Bool) (ds es : List Condition) → AllZip (λ d e. p d ≡ p e) ds es → list_all (λ c. not (p c)) ds ≡ list_all (λ c. not (p c)) es
along-all p [] [] h = refl
along-all p [] (e ∷ es) h = absurd h
along-all p (d ∷ ds) [] h = absurd h
along-all p (d ∷ ds) (e ∷ es) h = λ i. not (h.0 i) && along-all p ds es h.1 i

zip-map : {X Y : Type 0} (R S : X → Y → Type 0) → ((x : X) (y : Y) → R x y → S x y) → (xs : List X) (ys : List Y) → AllZip R xs ys → AllZip S xs ys
zip-map R S f [] [] h = tt
zip-map R S f [] (y ∷ ys) h = absurd h
zip-map R S f (x ∷ xs) [] h = absurd h
zip-map R S f (x ∷ xs) (y ∷ ys) h = (f x y h.0, zip-map R S f xs ys h.1)

asks_unwanted-along : (cs ds es : List Condition) → AllZip AreOne ds es → AreOne (asks cs ds) (asks cs es)
asks_unwanted-along cs ds es h = record {
  simple = λ x s v. ap (λ b. list_all (λ c. c.simple x) cs && b) (along-all (λ c. c.simple x) ds es (zip-map AreOne (λ d e. d.simple x ≡ e.simple x) (λ d e o. o.simple x s v) ds es h));
  by_kind = λ k v. ap (λ b. list_all (λ c. c.by_kind k v) cs && b) (along-all (λ c. c.by_kind k v) ds es (zip-map AreOne (λ d e. d.by_kind k v ≡ e.by_kind k v) (λ d e o. o.by_kind k v) ds es h));
}

fails-at : {X : Type 0} (t : X → Bool) (xs : List X) (k : ℕ) (x : X) → slice_get xs k ≡ Some x → t x ≡ false → list_all t xs ≡ false
fails-at t [] k x is f = absurd (none_some is)
fails-at t (y ∷ ys) zero x is f = ap (λ b. b && list_all t ys) (ap t (some_same is) ∙ f)
fails-at t (y ∷ ys) (suc k) x is f = by (t y) (fails-at t ys k x is f)
  where
    by : (b : Bool) {c : Bool} → c ≡ false → (b && c) ≡ false
    by true e = e
    by false e = refl

clash : (p : Condition → Bool) (cs ds : List Condition) (c d : Condition) (i j : ℕ) → slice_get cs i ≡ Some c → slice_get ds j ≡ Some d → p d ≡ p c → (list_all p cs && list_all (λ e. not (p e)) ds) ≡ false
clash p cs ds c d i j at_c at_d same = by (p c) refl
  where
    nothing-more : (b : Bool) {e : Bool} → e ≡ false → (b && e) ≡ false
    nothing-more true h = h
    nothing-more false h = refl

    by : (b : Bool) → p c ≡ b → (list_all p cs && list_all (λ e. not (p e)) ds) ≡ false
    by true e = nothing-more (list_all p cs) (fails-at (λ e. not (p e)) ds j d at_d (ap not (same ∙ e)))
    by false e = ap (λ b. b && list_all (λ e. not (p e)) ds) (fails-at p cs i c at_c e)

-- nothing that is unwanted counts as something wanted, where the question has shapes
apart-of : (f : ℕ → Condition) (cs : List Condition) (avoided : List ℕ) (d : Condition) → AreOne d (asks cs (map f avoided)) → ¬ IsNothing d → All (λ a. ¬ Any (AreOne (f a)) cs) avoided
apart-of f cs avoided d one some = All-from_slice_get (λ a. ¬ Any (AreOne (f a)) cs) avoided (λ j a at h. some (is-nothing j a at h))
  where
    is-nothing : (j : ℕ) (a : ℕ) → slice_get avoided j ≡ Some a → Any (AreOne (f a)) cs → IsNothing d
    is-nothing j a at h =
        let n = Any-is (AreOne (f a)) cs h in
        let c = Contains-at cs n.0 n.1 in
        one-further d (asks cs (map f avoided)) nothing one (record {
          simple = λ x s v. clash (λ e. e.simple x) cs (map f avoided) n.0 (f a) c.0 j c.1 (map-at f avoided j a at) (n.2.simple x s v);
          by_kind = λ k v. clash (λ e. e.by_kind k v) cs (map f avoided) n.0 (f a) c.0 j c.1 (map-at f avoided j a at) (n.2.by_kind k v);
        })

-- the atoms that ask for these conditions
atoms_for : (f : ℕ → Condition) (P : ℕ → Type 0) (left : List Condition) → All (λ c. (s : ℕ) × P s × AreOne c (f s)) left → (avoided : List ℕ) × All P avoided × AllZip AreOne left (map f avoided)
atoms_for f P [] h = ([], All-nil P, tt)
atoms_for f P (c ∷ left) h =
    let first = All-head (λ c. (s : ℕ) × P s × AreOne c (f s)) c left h in
    let rest = atoms_for f P left (All-tail (λ c. (s : ℕ) × P s × AreOne c (f s)) c left h) in
    (first.0 ∷ rest.0, All-cons P first.0 rest.0 first.1 rest.1, (first.2, rest.2))

-- all of some rows, or something else
pub all_rows : {X Y : Type 0} (R : X → Y → Type 0) (P : Y → Type 0) (H : Type 0) (xs : List X) (ys : List Y) → AllZip R xs ys → ((k : ℕ) (x : X) (y : Y) → slice_get xs k ≡ Some x → R x y → P y ⊎ H) → All P ys ⊎ H
all_rows R P H [] [] z f = inl (All-nil P)
all_rows R P H [] (y ∷ ys) z f = absurd z
all_rows R P H (x ∷ xs) [] z f = absurd z
all_rows R P H (x ∷ xs) (y ∷ ys) z f = by (f 0 x y refl z.0) (all_rows R P H xs ys z.1 (λ k x y is r. f (suc k) x y is r))
  where
    by : P y ⊎ H → All P ys ⊎ H → All P (y ∷ ys) ⊎ H
    by (inr h) rest = inr h
    by (inl p) (inl all) = inl (All-cons P y ys p all)
    by (inl p) (inr h) = inr h

module _ (env : List AtomDef) (small : length env ≤ the_mark) (table : Table) (kept : List (ℕ × Option Shape)) (p : Path) (literals : HasLiteralsOf env Mappings p) (playing : List ℕ) (play : AreInPlay (IsMappingOutOfPlay env (atoms_in p.pos)) (atoms_in p.neg) playing) where
  pub pos : All (IsAtomOf env Mappings) (atoms_in p.pos)
  pos = atoms-are env Mappings p.pos literals.holding

  pub neg : All (IsAtomOf env Mappings) (atoms_in p.neg)
  neg = atoms-are env Mappings p.neg literals.failing

  pub def_of : (a : ℕ) → Contains (atoms_in p.neg) a → IsAtomOf env Mappings a
  def_of a c = All-contains (IsAtomOf env Mappings) (atoms_in p.neg) a neg c

  -- an atom in play is one of the unwanted ones
  pub in_play : (a : ℕ) → Contains playing a → Contains (atoms_in p.neg) a × (¬ IsMappingOutOfPlay env (atoms_in p.pos) a)
  in_play a c = All-contains (λ b. Contains (atoms_in p.neg) b × (¬ IsMappingOutOfPlay env (atoms_in p.pos) b)) playing a play.among c

  -- ---- a question about a part

  part-asked : (key : Text) (avoided : List ℕ) (d : Condition) → All (Contains playing) avoided → ¬ IsNothing d → AreOne d (asks (wanted_parts (member_of env key) p) (map (member_of env key) avoided)) → IsMemberQuestion env Mappings p d
  part-asked key avoided d among some one = (
    key,
    record {
      avoided = avoided;
      unwanted = All-weaker (Contains playing) (λ a. Contains (atoms_in p.neg) a × (¬ IsMappingOutOfPlay env (atoms_in p.pos) a)) in_play avoided among;
      apart = apart-of (member_of env key) (wanted_parts (member_of env key) p) avoided d one some;
      question = one;
    },
  )

  module _ (fresh : Text) (rest : Condition) (rest_is : AreOne rest (wanted_at env (atoms_in p.pos) (has_mark p) fresh)) (askings : List RestAsking) (askings_are : AllZip (IsRestAskingOf env fresh) playing askings) where
    pub further-asked : (d : Condition) → ¬ IsNothing d → Any (λ r. AreOne d (without rest r.part)) askings → IsMemberQuestion env Mappings p d
    further-asked d some h =
        let n = Any-is (λ r. AreOne d (without rest r.part)) askings h in
        let at = Contains-at askings n.0 n.1 in
        let a = AllZip-back (IsRestAskingOf env fresh) playing askings askings_are at.0 n.0 at.1 in
        let cs = wanted_parts (member_of env fresh) p in
        part-asked fresh (a.0 ∷ []) d (All-cons (Contains playing) a.0 [] (at-Contains playing at.0 a.0 a.1) (All-nil _)) some
        (one-further d (asks cs (n.0.part ∷ [])) (asks cs (member_of env fresh a.0 ∷ []))
        (one-further d (without rest n.0.part) (asks cs (n.0.part ∷ [])) n.2 (asks_one_less rest cs [] n.0.part rest_is))
        (asks_unwanted-along cs (n.0.part ∷ []) (member_of env fresh a.0 ∷ []) (a.2.part, tt)))

    -- an atom that stays is in play, and further members that avoid it are in questions that are held to be empty
    module _ (further : List Shape) (staying : List ℕ) (split : AreSplit env table kept rest askings further staying) where
      record Stays (s : ℕ) : Type 0 where
        asking : RestAsking
        atom : ℕ
        same : atom ≡ s
        among : Contains playing atom
        part : AreOne asking.part (member_of env fresh atom)
        must : MustStay env table kept rest asking

      stays : (s : ℕ) → Contains staying s → Stays s
      stays s c =
          let h = All-contains (λ s. Any (λ r. (r.atom ≡ s) × MustStay env table kept rest r) askings) staying s split.stay c in
          let n = Any-is (λ r. (r.atom ≡ s) × MustStay env table kept rest r) askings h in
          let at = Contains-at askings n.0 n.1 in
          let a = AllZip-back (IsRestAskingOf env fresh) playing askings askings_are at.0 n.0 at.1 in
          record { asking = n.0; atom = a.0; same = sym a.2.atom ∙ n.2.0; among = at-Contains playing at.0 a.0 a.1; part = a.2.part; must = n.2.1 }

      pub staying-in_play : (s : ℕ) → Contains staying s → Contains playing s
      staying-in_play s c = let h = stays s c in subst (Contains playing) h.same h.among

      module _ (keys : List Text) (places : List Place) (rows : List (List Asking)) (ways : AreWays env (atoms_in p.pos) (has_mark p) keys staying places rows) where
        base_of : (key : Text) (at : Place) (base : Condition) → IsPlaceOf env (atoms_in p.pos) (has_mark p) key at → condition_at at ≡ Some base → AreOne base (wanted_at env (atoms_in p.pos) (has_mark p) key)
        base_of key (MayHave c) base i e = subst (λ b. AreOne b (wanted_at env (atoms_in p.pos) (has_mark p) key)) (some_same e) i.0
        base_of key HasNone base i e = absurd i
        base_of key (MustHave c) base i e = subst (λ b. AreOne b (wanted_at env (atoms_in p.pos) (has_mark p) key)) (some_same e) i.0

        pub named-asked : (d : Condition) → ¬ IsNothing d → AsksPart places rows d → IsMemberQuestion env Mappings p d
        named-asked d some ask =
            let key = AllZip-back (IsPlaceOf env (atoms_in p.pos) (has_mark p)) keys places ways.places_are ask.place ask.at ask.is_at in
            let cs = wanted_parts (member_of env key.0) p in
            let found = All-weaker (λ c. Any (λ row. (a : Asking) × (slice_get row ask.place ≡ Some a) × (c ≡ a.part)) rows) (λ c. (s : ℕ) × Contains playing s × AreOne c (member_of env key.0 s)) (λ c h. atom_of key.0 key.1 c h) ask.left ask.among in
            let some_atoms = atoms_for (member_of env key.0) (Contains playing) ask.left found in
            part-asked key.0 some_atoms.0 d some_atoms.1 some
            (one-further d (asks (ask.base ∷ []) ask.left) (asks cs (map (member_of env key.0) some_atoms.0)) ask.asked
            (one-further (asks (ask.base ∷ []) ask.left) (asks cs ask.left) (asks cs (map (member_of env key.0) some_atoms.0))
            (asks_begun ask.base cs ask.left (base_of key.0 ask.at ask.base key.2 ask.has))
            (asks_unwanted-along cs ask.left (map (member_of env key.0) some_atoms.0) some_atoms.2)))
          where
            atom_of : (key : Text) → slice_get keys ask.place ≡ Some key → (c : Condition) → Any (λ row. (a : Asking) × (slice_get row ask.place ≡ Some a) × (c ≡ a.part)) rows → (s : ℕ) × Contains playing s × AreOne c (member_of env key s)
            atom_of key at_key c h =
                let n = Any-is (λ row. (a : Asking) × (slice_get row ask.place ≡ Some a) × (c ≡ a.part)) rows h in
                let at = Contains-at rows n.0 n.1 in
                let s = AllZip-back (λ a row. AllZip (IsAskingOf env a) keys row) staying rows ways.askings_are at.0 n.0 at.1 in
                let asking = AllZip-at (IsAskingOf env s.0) keys n.0 s.2 ask.place key at_key in
                let same : asking.0 ≡ n.2.0 = some_same (sym asking.1 ∙ n.2.1) in
                (s.0, staying-in_play s.0 (at-Contains staying at.0 s.0 s.1), subst (λ d. AreOne d (member_of env key s.0)) (sym (n.2.2 ∙ ap (λ (a : Asking). a.part) (sym same))) asking.2.part)

        -- ---- each mapping of the path has a lower part

        module _ (named : HasNamedKeys env (atoms_in p.pos ++ playing) keys) (behind : IsBehind keys fresh) (x : Shape) (valid : IsValid x) (on : IsOnPath env Mappings p x) where
          pub wanted_in : All (λ a. In env x (Atom a)) (atoms_in p.pos)
          wanted_in = in_wanted env Mappings p x on

          pub mark : IsTrue (has_mark p) → IsMarked x
          mark t = is_marked env Mappings p x on t

          pub known_at : (key : Text) (y : Shape) → part_at (members_in x) key ≡ Some y → IsShapeOf env (wanted_at env (atoms_in p.pos) (has_mark p) key) y × (levels y < levels x)
          known_at = part-known env small x on.kind valid (atoms_in p.pos) (has_mark p) pos mark wanted_in

          pub lower : (y : Shape) → IsInHeld env table kept y → levels y < levels x → HasLower env table kept x
          lower y held lt = record { question = held.question; held = held.held; part = y; inside = held.inside; lower = lt }

          pub unnamed : (a : ℕ) → Contains (atoms_in p.pos ++ playing) a → (key : Text) → ¬ Contains keys key → ¬ Names env a key
          unnamed a c key out = not-named env (atoms_in p.pos ++ playing) keys named key out a c

          -- a member at a key that no atom names, by which a staying atom is avoided
          pub by_further : (s : ℕ) (def : IsAtomOf env Mappings s) → Contains staying s → (o : HasOther env small x on.kind valid s def) → IsFree env (atoms_in p.pos ++ playing) o.key → HasLower env table kept x
          by_further s def c o free =
              let st = stays s c in
              let k = known_at o.key o.part o.at in
              let no_fresh = behind-not-there keys fresh behind in
              let among = Contains-append_right (atoms_in p.pos) playing s (staying-in_play s c) in
              let wanted_same = wanted_at-unnamed env (atoms_in p.pos) (has_mark p) o.key fresh (All-weaker (Contains (atoms_in p.pos)) (λ a. (¬ Names env a o.key) × (¬ Names env a fresh))
              (λ a w. let in_all = Contains-append_left (atoms_in p.pos) playing a w in (free a in_all, unnamed a in_all fresh no_fresh)) (atoms_in p.pos) (All-contains_itself (atoms_in p.pos))) in
              let member_same = member_of-unnamed env s o.key fresh (free s among) (unnamed s among fresh no_fresh) in
              let inside = subst (λ d. IsShapeOf env d o.part) wanted_same k.0 in
              let rest_shape : IsShapeOf env rest o.part = (inside.0, (Meets-same env rest (wanted_at env (atoms_in p.pos) (has_mark p) fresh) o.part inside.0 rest_is).1 inside.1) in
              let part_is = subst (λ a. AreOne st.asking.part (member_of env fresh a)) st.same st.part in
              let avoids = λ (m : Meets env st.asking.part o.part). o.other (subst (λ d. Meets env d o.part) (sym member_same) ((Meets-same env st.asking.part (member_of env fresh s) o.part inside.0 part_is).0 m)) in
              lower o.part (st.must o.part (record { inside = rest_shape; avoids = avoids })) k.1

          row_avoided : (k : ℕ) (s : ℕ) (row : List Asking) → slice_get staying k ≡ Some s → AllZip (IsAskingOf env s) keys row → Avoids env row (map (part_at (members_in x)) keys) ⊎ HasLower env table kept x
          row_avoided k s row at are =
              let c = at-Contains staying k s at in
              let among = staying-in_play s c in
              let unwanted = (in_play s among).0 in
              let out = All-contains (λ b. ¬ In env x (Atom b)) (atoms_in p.neg) s (in_no_unwanted env Mappings p x on) unwanted in
              ⊎_elim (λ (h : Avoids env row (map (part_at (members_in x)) keys)). inl h)
              (λ (o : (o : HasOther env small x on.kind valid s (def_of s unwanted)) × (¬ Contains keys o.key)). inr (by_further s (def_of s unwanted) c o.0 (λ a d. unnamed a d o.0.key o.1)))
              (avoided env small x on.kind valid s (def_of s unwanted) keys row are (λ key n. named.all s key (Contains-append_right (atoms_in p.pos) playing s among) n) out)

          has-lower : TellsFilling env table kept places rows NoFilling → HasLower env table kept x
          has-lower none =
              ⊎_elim
              (λ (all : All (λ row. Avoids env row (map (part_at (members_in x)) keys)) rows).
              let held = none (map (part_at (members_in x)) keys) (fills env small x on.kind valid (atoms_in p.pos) (has_mark p) pos mark wanted_in keys places ways.places_are) all in
              let key = at-map (part_at (members_in x)) keys held.place (Some held.part) held.stands in
              lower held.part held.held (known_at key.0 held.part key.2).1)
              (λ (h : HasLower env table kept x). h)
              (all_rows (λ a row. AllZip (IsAskingOf env a) keys row) (λ row. Avoids env row (map (part_at (members_in x)) keys)) (HasLower env table kept x) staying rows ways.askings_are row_avoided)

        -- ---- the mapping that is found is on the path

        module _ (named : HasNamedKeys env (atoms_in p.pos ++ playing) keys) (behind : IsBehind keys fresh) (x : Shape) (parts : List (Option Shape)) (in_places : IsIn env places parts) (avoid : All (λ row. Avoids env row parts) rows) (is : IsMappingOf (has_mark p) keys parts further x) where
          ins : All (λ a. In env x (Atom a)) (atoms_in p.pos)
          ins = in-wanted env small (atoms_in p.pos) (has_mark p) pos playing keys named fresh behind rest rest_is places ways.places_are parts in_places further split.inside x is

          its_kind : IsOfKind Mappings x
          its_kind = subst (IsOfKind Mappings) (sym is.shape) refl

          its_mark : IsMarked x ↔ IsTrue (has_mark p)
          its_mark = subst (λ y. IsMarked y ↔ IsTrue (has_mark p)) (sym is.shape) (λ h. h, λ h. h)

          valid_found : IsValid x
          valid_found = mapping-valid env small (atoms_in p.pos) (has_mark p) pos playing keys named fresh behind rest rest_is places ways.places_are parts in_places further split.inside x is

          playing-out : (a : ℕ) → IsAtomOf env Mappings a → Contains playing a → ¬ In env x (Atom a)
          playing-out a def c = by (All-slice_get (λ r. Any (IsAvoidedBy env table kept rest r) further ⊎ Contains staying r.atom) askings at.0 r.0 split.each r.1)
            where
              at : (k : ℕ) × (slice_get playing k ≡ Some a)
              at = Contains-at playing a c

              r : (r : RestAsking) × (slice_get askings at.0 ≡ Some r) × IsRestAskingOf env fresh a r
              r = AllZip-at (IsRestAskingOf env fresh) playing askings askings_are at.0 a at.1

              by : Any (IsAvoidedBy env table kept rest r.0) further ⊎ Contains staying r.0.atom → ¬ In env x (Atom a)
              by (inl some) =
                  further-out env small (atoms_in p.pos) (has_mark p) pos playing keys named fresh behind rest rest_is places ways.places_are parts in_places further split.inside x is a def c r.0 r.2.part
                  (Any-weaker (IsAvoidedBy env table kept rest r.0) (λ y. ¬ Meets env r.0.part y) (λ y h. h.avoids) further some)
              by (inr stay) =
                  let s = Contains-at staying a (subst (Contains staying) r.2.atom stay) in
                  let row = AllZip-at (λ a row. AllZip (IsAskingOf env a) keys row) staying rows ways.askings_are s.0 a s.1 in
                  avoided-out env small (atoms_in p.pos) (has_mark p) pos playing keys named fresh behind rest rest_is places ways.places_are parts in_places further split.inside x is a def row.0 row.2
                  (All-slice_get (λ row. Avoids env row parts) rows s.0 row.0 avoid row.1)

          outs : All (λ a. ¬ In env x (Atom a)) (atoms_in p.neg)
          outs = All-where (IsAtomOf env Mappings) (λ a. IsMappingOutOfPlay env (atoms_in p.pos) a ⊎ Contains playing a) (λ a. ¬ In env x (Atom a))
              (λ a def h. ⊎_elim
              (λ (out : IsMappingOutOfPlay env (atoms_in p.pos) a). not-out env small x its_kind valid_found (atoms_in p.pos) (has_mark p) pos its_mark.1 ins a def out)
              (λ (c : Contains playing a). playing-out a def c) h) (atoms_in p.neg) neg play.others

          pub found-on_path : ¬ ((has_mark p ≡ true) × (list_any (λ l. l == the_mark) p.neg ≡ true)) → IsShapeOn env Mappings p x
          found-on_path one_way = (valid_found, marked-on_path env Mappings p x its_kind its_mark.1 (λ n m. one_way (its_mark.0 m, n)) ins outs)

  -- ---- the whole

  module _ (one_way : ¬ ((has_mark p ≡ true) × (list_any (λ l. l == the_mark) p.neg ≡ true))) where
    further-Turns : (turn : Turn) (told : TellsMappings env (atoms_in p.pos) (has_mark p) table kept playing turn) → AsksFurther env (atoms_in p.pos) (has_mark p) table kept told.rest told.askings turn → Turns env table kept Mappings p turn
    further-Turns (Found x) told h = absurd h
    further-Turns Empty told h = absurd h
    further-Turns (Ask q) told h = (h.1, h.0, further-asked told.fresh told.rest told.rest_is told.askings told.askings_are (condition table q) h.2 h.3)

    settled-Turns : (turn : Turn) (told : TellsMappings env (atoms_in p.pos) (has_mark p) table kept playing turn) → IsSettled env (atoms_in p.pos) (has_mark p) table kept told.keys told.rest told.askings turn → Turns env table kept Mappings p turn
    settled-Turns (Found x) told h =
        let f = h.filled in
        found-on_path told.fresh told.rest told.rest_is told.askings told.askings_are h.further h.staying h.split told.keys f.places f.askings f.ways told.named told.behind x f.tells.0 f.tells.1 f.tells.2 f.tells.3 one_way
    settled-Turns Empty told h = λ x on.
        let f = h.filled in
        has-lower told.fresh told.rest told.rest_is told.askings told.askings_are h.further h.staying h.split told.keys f.places f.askings f.ways told.named told.behind x on.0 on.1 f.tells
    settled-Turns (Ask q) told h =
        let f = h.filled in
        (f.tells.1, f.tells.0, named-asked told.fresh told.rest told.rest_is told.askings told.askings_are h.further h.staying h.split told.keys f.places f.askings f.ways (condition table q) f.tells.2 f.tells.3)

    pub mappings-Turns : (turn : Turn) → TellsMappings env (atoms_in p.pos) (has_mark p) table kept playing turn → Turns env table kept Mappings p turn
    mappings-Turns turn told =
        ⊎_elim
        (λ (h : AsksFurther env (atoms_in p.pos) (has_mark p) table kept told.rest told.askings turn). further-Turns turn told h)
        (λ (h : IsSettled env (atoms_in p.pos) (has_mark p) table kept told.keys told.rest told.askings turn). settled-Turns turn told h)
        told.told
