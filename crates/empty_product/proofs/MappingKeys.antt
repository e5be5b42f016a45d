-- What stands at the keys of a path's mappings, key by key.
use Rattle.std.proofs.Common.{◌≡◌, ⊎_elim, inl, inr, ℕ, ◌≤◌, ◌==◌, List, [], ◌∷◌, ◌++◌, map, length, All, Contains, Bool, true, Option, Some, None, refl, sym, ap, subst, ◌∙◌, arith}
use Rattle.std.specs.List.{Any, list_any}
use Rattle.std.proofs.lemmas.List.Elements.{Contains-append_left, Contains-push, Contains-push_cases}
use Rattle.bal_base.specs.declared.text.Text.{Text}
use Rattle.bal_base.specs.declared.shape.Shape.{Shape, Mapping'}
use Rattle.type_model.specs.declared.atoms.AtomDef.{AtomDef}
use Rattle.type_model.specs.declared.answers.Keys.TheVariants.{Field, AnyField}
use Rattle.type_model.specs.Parts.{StandsIn}
use Rattle.type_diagrams.specs.declared.kind.Kind.TheVariants.{Mapping as Mappings}
use Rattle.type_diagrams.specs.declared.path.Path.{Path}
use Rattle.type_diagrams.specs.declared.projection.Projection.{Projection}
use Rattle.type_diagrams.specs.declared.projection.Projection.TheVariants.{Parts, Ask}
use Rattle.type_diagrams.specs.declared.turn.Turn.TheVariants.{Ask as AskTurn}
use Rattle.type_diagrams.specs.Kinds.{IsOfKind, the_mark}
use Rattle.type_diagrams.specs.Conditions.{IsShapeOf, LooksAtKinds, Meets, nothing}
use Rattle.type_diagrams.specs.Members.{IsMappingOutOfPlay, atoms_in}
use Rattle.type_diagrams.specs.Projections.{AreParts, Projects}
use Rattle.type_diagrams.specs.Tables.{Table, condition}
use Rattle.type_diagrams.specs.Turns.{HasLiteralsOf, HasLower, IsSound, Turns}
use Rattle.type_diagrams.specs.Whole.{Gives, Keeps}
use Rattle.type_diagrams.proofs.Meeting.{Meets-nothing, Meets-same}
use Rattle.type_diagrams.proofs.PathShapes.{has_mark}
use Rattle.type_diagrams.proofs.Reaching.{nothing-Looks, one-Looks}
use Rattle.type_diagrams.proofs.Tellings.{lower-keeps}
use Rattle.empty_product.specs.MemberParts.{AreAskedKeys, AreMembers, AsksFurther, IsPlaced, StandsLike, TellsMembers, TellsParts}
use Rattle.empty_product.specs.Parts.{field_keys}
use Rattle.empty_product.specs.Play.{AreInPlay}
use Rattle.empty_product.specs.Standing.{StandsInFilling}
use Rattle.empty_product.proofs.MappingLower.{sorted}
use Rattle.empty_product.proofs.MappingMembers.{each-mapping, members_in}
use Rattle.empty_product.proofs.MappingParts.{at-map, behind-not-there, map-at, not-named, there_or_not}
use Rattle.empty_product.proofs.MappingTargets.{among-stands, member-found, stands-member}
use Rattle.empty_product.proofs.MappingTurns.{further-asked, named-asked}
use Rattle.empty_product.proofs.MemberLists.{Member, part_at-member}
use Rattle.empty_product.proofs.Zipped.{Any-is, Any-none, Any-of, Contains-at, at-Contains}

-- what stands at a key stands at one of all
any-of : (x : Shape) → IsOfKind Mappings x → (key : Text) (y : Shape) → StandsIn (Field key) x y → StandsIn AnyField x y
any-of x kind key y = each-mapping (λ z. StandsIn (Field key) z y → StandsIn AnyField z y) of_mapping x kind
  where
    of_mapping : (mark : Bool) (s : _) (row : _) → StandsIn (Field key) (Mapping' mark s row) y → StandsIn AnyField (Mapping' mark s row) y
    of_mapping mark s row h =
        let ms = members_in (Mapping' mark s row) in
        let at = Contains-at ms (key, y) h in
        at-Contains (map (λ (m : Member). m.1) ms) at.0 y (map-at (λ (m : Member). m.1) ms at.0 (key, y) at.1)

-- and what stands at one of all stands at a key
of-any : (x : Shape) → IsOfKind Mappings x → (y : Shape) → StandsIn AnyField x y → (key : Text) × StandsIn (Field key) x y
of-any x kind y = each-mapping (λ z. StandsIn AnyField z y → (key : Text) × StandsIn (Field key) z y) of_mapping x kind
  where
    of_mapping : (mark : Bool) (s : _) (row : _) → StandsIn AnyField (Mapping' mark s row) y → (key : Text) × StandsIn (Field key) (Mapping' mark s row) y
    of_mapping mark s row h =
        let ms = members_in (Mapping' mark s row) in
        let at = Contains-at (map (λ (m : Member). m.1) ms) y h in
        let n = at-map (λ (m : Member). m.1) ms at.0 y at.1 in
        (n.0.0, at-Contains ms at.0 (n.0.0, y) (n.1 ∙ ap (λ z. Some (n.0.0, z)) n.2))

-- ---- no key

module _ (env : List AtomDef) (table : Table) (kept : List (ℕ × Option Shape)) (p : Path) (playing : List ℕ) where
  pub no-AreMembers : (q : ℕ) → Gives table nothing q → AreMembers env table kept p playing [] q
  no-AreMembers q gives = record {
    diagram = gives.diagram;
    looks = one-Looks env nothing (condition table q) gives.condition (nothing-Looks env);
    from = λ y is. absurd (Meets-nothing env y ((Meets-same env (condition table q) nothing y is.0 gives.condition).0 is.1));
    to = λ x y on h. absurd (Any-none (λ key. StandsLike env (atoms_in p.pos ++ playing) key x y) h);
  }

-- ---- one more key

module _ (env : List AtomDef) (small : length env ≤ the_mark) (old new : Table) (kept : List (ℕ × Option Shape)) (keeps : Keeps old new) (sound : All (IsSound env old) kept) (p : Path) (literals : HasLiteralsOf env Mappings p) (playing : List ℕ)
    (play : AreInPlay (IsMappingOutOfPlay env (atoms_in p.pos)) (atoms_in p.neg) playing) (one_way : ¬ ((has_mark p ≡ true) × (list_any (λ l. l == the_mark) p.neg ≡ true))) (keys : List Text) (key : Text) (found : ℕ) where
  abbrev atoms : List ℕ
  atoms = atoms_in p.pos ++ playing

  abbrev More : List Text
  More = keys ++ key ∷ []

  pub more-AreMembers : (q : ℕ) → AreMembers env old kept p playing keys found → LooksAtKinds env (condition new q) → TellsMembers env (atoms_in p.pos) (has_mark p) new kept playing key (condition old found) (Parts q) → AreMembers env new kept p playing More q
  more-AreMembers q before looks told = ⊎_elim (λ (h : ⊥). absurd h) placed told.told
    where
      placed : IsPlaced env (atoms_in p.pos) (has_mark p) new kept told.keys told.target told.rest told.askings (condition old found) (Parts q) → AreMembers env new kept p playing More q
      placed h =
          let f = h.placed in record {
            diagram = f.tells.diagram;
            looks = looks;
            from = λ y is. ⊎_elim
                (λ (m : Meets env (condition old found) y).
                let b = before.from y (is.0, m) in
                let n = Any-is (λ l. StandsIn (Field l) b.0 y) keys b.2 in
                (b.0, b.1, Any-of (λ l. StandsIn (Field l) b.0 y) More n.0 (Contains-append_left keys (key ∷ []) n.0 n.1) n.2))
                (λ (s : (parts : List (Option Shape)) × StandsInFilling env f.places f.askings told.target parts y).
                let b = among-stands env small new kept p literals playing play told.fresh told.rest told.rest_is told.askings told.askings_are h.further h.staying h.split told.keys f.places f.askings f.ways told.named told.behind told.target key told.is_target h.all h.room one_way y s.0 s.1 in
                (b.0, b.1, Any-of (λ l. StandsIn (Field l) b.0 y) More key (Contains-push keys key) b.2))
                (f.tells.from y is);
            to = λ x y on like.
                let n = Any-is (λ l. StandsLike env atoms l x y) More like in
                ⊎_elim
                (λ (c : Contains keys n.0). ⊎_elim
                (λ (is : IsShapeOf env (condition old found) y). inl (is.0, f.tells.found_too y is))
                (λ (l : HasLower env old kept x). inr (lower-keeps env old new kept x keeps sound l))
                (before.to x y on (Any-of (λ l. StandsLike env atoms l x y) keys n.0 c n.2)))
                (λ (e : key ≡ n.0).
                let s = subst (λ l. StandsLike env atoms l x y) (sym e) n.2 in
                let at = Contains-at (members_in x) (s.at, y) (stands-member x on.1.kind s.at y s.stands) in
                member-found env small new kept p literals playing play told.fresh told.rest told.rest_is told.askings told.askings_are h.further h.staying h.split told.keys f.places f.askings f.ways told.named told.behind told.target key told.is_target x on.0 on.1 s.at s.alike y
                (part_at-member (members_in x) (sorted env small x on.1.kind on.0) s.at y at.0 at.1) (condition old found) q f.tells)
                (Contains-push_cases keys key n.0 n.1);
          }

  -- a question is one about a member
  pub asked-Turns : (q : ℕ) → TellsMembers env (atoms_in p.pos) (has_mark p) new kept playing key (condition old found) (Ask q) → Turns env new kept Mappings p (AskTurn q)
  asked-Turns q told = ⊎_elim
      (λ (h : AsksFurther env (atoms_in p.pos) (has_mark p) new kept told.rest told.askings (Ask q)). (h.1, h.0, further-asked env small new kept p literals playing play told.fresh told.rest told.rest_is told.askings told.askings_are (condition new q) h.2 h.3))
      (λ (h : IsPlaced env (atoms_in p.pos) (has_mark p) new kept told.keys told.target told.rest told.askings (condition old found) (Ask q)).
      let f = h.placed in
      (f.tells.1, f.tells.0, named-asked env small new kept p literals playing play told.fresh told.rest told.rest_is told.askings told.askings_are h.further h.staying h.split told.keys f.places f.askings f.ways (condition new q) f.tells.2 f.tells.3))
      told.told

-- ---- all keys that are asked

module _ (env : List AtomDef) (table : Table) (kept : List (ℕ × Option Shape)) (p : Path) (playing : List ℕ) (keys : List Text) (q : ℕ) (are : AreMembers env table kept p playing keys q) where
  abbrev all_atoms : List ℕ
  all_atoms = atoms_in p.pos ++ playing

  at-one : (x y : Shape) (key : Text) → Contains keys key → StandsLike env all_atoms key x y → Any (λ l. StandsLike env all_atoms l x y) keys
  at-one x y key c s = Any-of (λ l. StandsLike env all_atoms l x y) keys key c s

  pub asked-AreParts : (name : Option Text) → AreAskedKeys env all_atoms name keys → AreParts env table kept Mappings p (field_keys name) q
  asked-AreParts (Some name) one = record {
    diagram = are.diagram;
    looks = are.looks;
    from = λ y is.
        let f = are.from y is in
        let n = Any-is (λ l. StandsIn (Field l) f.0 y) keys f.2 in
        let same = only n.0 (subst (λ ls. Contains ls n.0) one n.1) in
        (f.0, f.1, subst (λ l. StandsIn (Field l) f.0 y) same n.2);
    to = λ x y on stands. are.to x y on (at-one x y name (subst (λ ls. Contains ls name) (sym one) (0, omega arith, refl)) (record { at = name; alike = inl refl; stands = stands }));
  }
    where
      only : (l : Text) → Contains (name ∷ []) l → l ≡ name
      only l c = ⊎_elim (λ (n : Contains [] l). absurd (omega (arith, n.1))) (λ (e : name ≡ l). sym e) (Contains-push_cases [] name l c)
  asked-AreParts None h = record {
    diagram = are.diagram;
    looks = are.looks;
    from = λ y is.
        let f = are.from y is in
        let n = Any-is (λ l. StandsIn (Field l) f.0 y) keys f.2 in
        (f.0, f.1, any-of f.0 f.1.1.kind n.0 y n.2);
    to = λ x y on stands.
        let k = of-any x on.1.kind y stands in
        are.to x y on (⊎_elim
        (λ (c : Contains named k.0). at-one x y k.0 (subst (λ ls. Contains ls k.0) (sym keys_are) (Contains-append_left named (fresh ∷ []) k.0 c)) (record { at = k.0; alike = inl refl; stands = k.1 }))
        (λ (out : ¬ Contains named k.0). at-one x y fresh (subst (λ ls. Contains ls fresh) (sym keys_are) (Contains-push named fresh))
        (record { at = k.0; alike = inr (not-named env all_atoms named h.1 k.0 out, not-named env all_atoms named h.1 fresh (behind-not-there named fresh h.2.1)); stands = k.1 }))
        (there_or_not named k.0));
  }
    where
      named : List Text
      named = h.0

      fresh : Text
      fresh = h.2.0

      keys_are : keys ≡ named ++ fresh ∷ []
      keys_are = h.2.2

-- what is told of the keys that are asked is said of the path
pub parts-Project : (env : List AtomDef) (table : Table) (kept : List (ℕ × Option Shape)) (p : Path) (playing : List ℕ) (keys : List Text) (name : Option Text) → AreAskedKeys env (atoms_in p.pos ++ playing) name keys → (pr : Projection) → TellsParts env table kept p playing keys pr → Projects env table kept Mappings p (field_keys name) pr
parts-Project env table kept p playing keys name asked (Parts q) h = asked-AreParts env table kept p playing keys q h name asked
parts-Project env table kept p playing keys name asked (Ask q) h = h
