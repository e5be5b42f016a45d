-- What is told of lists is said of the path.
use Rattle.std.proofs.Common.{get_or, ◌≡◌, ◌↔◌, ⊎_elim, inl, inr, ℕ, zero, suc, ◌<◌, ◌≤◌, ◌==◌, ◌&&◌, not, List, [], ◌∷◌, ◌++◌, map, length, Bool, true, false, if◌then◌else◌, All, Contains, Option, Some, None, IsSome, IsSomeAnd, slice_get, refl, sym, ap, subst, ◌∙◌, arith}
use Rattle.std.specs.Bool.{⊤}
use Rattle.std.specs.List.{list_all, list_any}
use Rattle.std.proofs.lemmas.Bool.{false≢true}
use Rattle.std.proofs.lemmas.List.Elements.{All-nil, All-cons, All-head, All-append, All-map, All-contains, All-weaker, Contains-get_or}
use Rattle.std.proofs.lemmas.Option.{slice_get-get_or}
use Rattle.bal_base.specs.declared.shape.Shape.{Shape, List as AList}
use Rattle.bal_base.specs.declared.shape.Shapes.{Shapes}
use Rattle.bal_base.specs.Levels.{levels}
use Rattle.bal_base.specs.Shapes.{shapes_list}
use Rattle.bal_base.specs.Valid.{IsFrozen, IsValid}
use Rattle.bal_base.proofs.Rows.{IsValid-List}
use Rattle.type_model.specs.declared.basic.SemType.{Atom}
use Rattle.type_model.specs.declared.basic.Ty.{Ty}
use Rattle.type_model.specs.declared.atoms.AtomDef.{AtomDef}
use Rattle.type_model.specs.Membership.{In}
use Rattle.type_diagrams.specs.declared.kind.Kind.TheVariants.{List as Lists}
use Rattle.type_diagrams.specs.declared.path.Path.{Path}
use Rattle.type_diagrams.specs.declared.turn.Turn.{Turn}
use Rattle.type_diagrams.specs.declared.turn.Turn.TheVariants.{Shape as Found, Empty as NoShape, Ask as AskTable}
use Rattle.type_diagrams.specs.Atoms.{parts_of, list_parts}
use Rattle.type_diagrams.specs.Kinds.{the_mark}
use Rattle.type_diagrams.specs.Conditions.{Condition, AreOne, IsNothing, Meets, asks, frozen, nothing}
use Rattle.type_diagrams.specs.Members.{AllowsLength, IsListOutOfPlay, atoms_in, item_of}
use Rattle.type_diagrams.specs.Paths.{IsOnPath}
use Rattle.type_diagrams.specs.Questions.{IsMemberQuestion, wanted_parts}
use Rattle.type_diagrams.specs.Tables.{Table, condition}
use Rattle.type_diagrams.specs.Turns.{IsShapeOn, Turns}
use Rattle.type_diagrams.proofs.Asking.{asks_begun, one_itself}
use Rattle.type_diagrams.proofs.Elements.{All-parts, All-unmap, All-where}
use Rattle.type_diagrams.proofs.Meeting.{Meets-asks, Meets-frozen, Meets-nothing, Meets-same}
use Rattle.type_diagrams.proofs.PathShapes.{IsAtomOf, has_mark, in_wanted, in_no_unwanted, is_marked}
use Rattle.type_diagrams.proofs.Shapes.{one-further}
use Rattle.empty_product.specs.declared.avoid.Filling.{Filling}
use Rattle.empty_product.specs.declared.avoid.Filling.TheVariants.{Parts, Empty, Ask}
use Rattle.empty_product.specs.Lists.{AreWithout, IsInAtom, IsFilled, IsItemQuestion, IsListTurn, TellsLists, item_asked}
use Rattle.empty_product.specs.Play.{AreInPlay}
use Rattle.empty_product.proofs.ItemPlaces.{Contains-at, at-Contains, at_place, none_some, some_same}
use Rattle.empty_product.proofs.MarkedPaths.{marked-on_path}
use Rattle.empty_product.proofs.RowItems.{In-IsInAtom, items_in, items_in-List, lower_items, valid_items}

-- ---- a question that wants and doesn't want the same

module _ (f : Condition → Bool) where
  all_at : (cs : List Condition) (k : ℕ) (c : Condition) → slice_get cs k ≡ Some c → list_all f cs ≡ true → f c ≡ true
  all_at [] k c is h = absurd (none_some c is)
  all_at (d ∷ cs) zero c is h = by (f d) (list_all f cs) refl h
    where
      by : (a b : Bool) → f d ≡ a → (a && b) ≡ true → f c ≡ true
      by true b e g = sym (ap f (some_same d c is)) ∙ e
      by false b e g = absurd (false≢true g)
  all_at (d ∷ cs) (suc k) c is h = all_at cs k c is (by (f d) (list_all f cs) h)
    where
      by : (a b : Bool) → (a && b) ≡ true → b ≡ true
      by true b g = g
      by false b g = absurd (false≢true g)

both_ways : (f g : Condition → Bool) (cs ds : List Condition) (c d : Condition) → Contains cs c → Contains ds d → (f c ≡ true → g d ≡ true → ⊥) → (list_all f cs && list_all g ds) ≡ false
both_ways f g cs ds c d in_cs in_ds apart = by (list_all f cs) (list_all g ds) refl refl
  where
    by : (a b : Bool) → list_all f cs ≡ a → list_all g ds ≡ b → (a && b) ≡ false
    by true true p q =
        let k = Contains-at cs c in_cs in
        let l = Contains-at ds d in_ds in
        absurd (apart (all_at f cs k.0 c k.1 p) (all_at g ds l.0 d l.1 q))
    by true false p q = refl
    by false b p q = refl

wants_both : (cs ds : List Condition) (c d : Condition) → Contains cs c → Contains ds d → AreOne d c → IsNothing (asks cs ds)
wants_both cs ds c d in_cs in_ds same = record {
  simple = λ x s v. both_ways (λ e. e.simple x) (λ e. not (e.simple x)) cs ds c d in_cs in_ds (λ p q. no (c.simple x) (d.simple x) (same.simple x s v) p q);
  by_kind = λ k v. both_ways (λ e. e.by_kind k v) (λ e. not (e.by_kind k v)) cs ds c d in_cs in_ds (λ p q. no (c.by_kind k v) (d.by_kind k v) (same.by_kind k v) p q);
}
  where
    no : (a b : Bool) → b ≡ a → a ≡ true → not b ≡ true → ⊥
    no a true e p q = false≢true q
    no a false e p q = false≢true (e ∙ p)

contains-map : {X Y : Type 0} (f : X → Y) (xs : List X) (x : X) → Contains xs x → Contains (map f xs) (f x)
contains-map f xs x c = let k = Contains-at xs x c in at-Contains (map f xs) k.0 (f x) (at xs k.0 k.1)
  where
    at : (ys : List _) (i : ℕ) → slice_get ys i ≡ Some x → slice_get (map f ys) i ≡ Some (f x)
    at [] i h = absurd (none_some x h)
    at (y ∷ ys) zero h = ap Some (ap f (some_same y x h))
    at (y ∷ ys) (suc i) h = at ys i h

module _ (env : List AtomDef) (small : length env ≤ the_mark) (p : Path) (pos : All (IsAtomOf env Lists) (atoms_in p.pos)) (neg : All (IsAtomOf env Lists) (atoms_in p.neg))
    (playing : List ℕ) (are : AreInPlay (IsListOutOfPlay env (atoms_in p.pos)) (atoms_in p.neg) playing) where
  abbrev wanted : List ℕ
  wanted = atoms_in p.pos

  abbrev base : ℕ → Condition
  base = item_asked env wanted (has_mark p)

  frozen_asked : (y : Shape) (b : Bool) → (b ≡ true → IsFrozen y) ↔ All (λ c. Meets env c y) (if b then frozen ∷ [] else [])
  frozen_asked y true = (
    λ h. All-cons (λ c. Meets env c y) frozen [] ((Meets-frozen env y).1 (h refl)) (All-nil (λ c. Meets env c y)),
    λ h e. (Meets-frozen env y).0 (All-head (λ c. Meets env c y) frozen [] h),
  )
  frozen_asked y false = (λ h. All-nil (λ c. Meets env c y), λ h e. absurd (false≢true e))

  -- what meets what is asked at a place
  asked_there : (place : ℕ) (y : Shape) → Meets env (base place) y ↔ (All (λ a. Meets env (item_of env place a) y) wanted × (has_mark p ≡ true → IsFrozen y))
  asked_there place y =
      let Is : Condition → Type 0 = λ c. Meets env c y in
      let more : List Condition = if has_mark p then frozen ∷ [] else [] in
      let met = Meets-asks env (map (item_of env place) wanted ++ more) [] y in (
        λ m. let parts = All-parts Is (map (item_of env place) wanted) more (met.0 m).0 in
            (All-unmap Is (item_of env place) wanted parts.0, (frozen_asked y (has_mark p)).1 parts.1),
        λ h. met.1 (All-append Is (map (item_of env place) wanted) more (All-map Is (item_of env place) wanted h.0) ((frozen_asked y (has_mark p)).0 h.1), All-nil (λ c. ¬ Is c)),
      )

  -- the items of a list of the path
  pub path-AreWithout : (x : Shape) → IsValid x → IsOnPath env Lists p x → AreWithout env base wanted playing (items_in x)
  path-AreWithout x valid on =
      let parts = valid_items x on.kind valid in
      let ins = All-where (IsAtomOf env Lists) (λ a. In env x (Atom a)) (λ a. IsInAtom env a (items_in x)) (λ a d i. (In-IsInAtom env small x on.kind a d).0 i) wanted pos (in_wanted env Lists p x on) in
      let outs = in_no_unwanted env Lists p x on in record {
        allowed = All-weaker (λ a. IsInAtom env a (items_in x)) (λ a. AllowsLength env (length (items_in x)) a) (λ a i. i.allowed) wanted ins;
        inside = λ place y is.
            let c = at-Contains (items_in x) place y is in (
              All-contains IsValid (items_in x) y parts.0 c,
              (asked_there place y).1 (
                All-weaker (λ a. IsInAtom env a (items_in x)) (λ a. Meets env (item_of env place a) y) (λ a i. i.each place y is) wanted ins,
                λ some. All-contains IsFrozen (items_in x) y (parts.1 (is_marked env Lists p x on some)) c,
              ),
            );
        outside = All-weaker (λ a. Contains (atoms_in p.neg) a × ¬ IsListOutOfPlay env wanted a) (λ a. ¬ IsInAtom env a (items_in x))
            (λ a h i. All-contains (λ b. ¬ In env x (Atom b)) (atoms_in p.neg) a outs h.0 ((In-IsInAtom env small x on.kind a (All-contains (IsAtomOf env Lists) (atoms_in p.neg) a neg h.0)).1 i)) playing are.among;
      }

  -- an atom out of play has no such list
  longer_than : (n place : ℕ) (o : Option (List Ty × Option Ty)) → IsSomeAnd o (λ d. place < length d.0) → IsSomeAnd o (λ d. (length d.0 ≤ n) × (length d.0 < n → IsSome d.1)) → place < n
  longer_than n place None f h = absurd h
  longer_than n place (Some d) f h = omega (arith, f, h.0)

  out_of_play : (items : List Shape) → AreWithout env base wanted playing items → (a : ℕ) → IsListOutOfPlay env wanted a → ¬ IsInAtom env a items
  out_of_play items without a (inl none) i = none (length items) (All-cons (AllowsLength env (length items)) a wanted i.allowed without.allowed)
  out_of_play items without a (inr h) i =
      let place = h.0 in
      let fixes = h.1 in
      let allowed = All-contains (AllowsLength env (length items)) wanted fixes.1 without.allowed (fixes.0, fixes.2, fixes.3) in
      let y = at_place items place (longer_than (length items) place (parts_of list_parts env fixes.1) fixes.4 allowed) in
      let inside = without.inside place y.0 y.1 in
      let all = All-cons (λ b. Meets env (item_of env place b) y.0) a wanted (i.each place y.0 y.1) ((asked_there place y.0).0 inside.1).0 in
      let Is : Condition → Type 0 = λ c. Meets env c y.0 in
      let met = (Meets-asks env (map (item_of env place) (a ∷ wanted)) [] y.0).1 (All-map Is (item_of env place) (a ∷ wanted) all, All-nil (λ c. ¬ Is c)) in
      Meets-nothing env y.0 ((Meets-same env (asks (map (item_of env place) (a ∷ wanted)) []) nothing y.0 inside.0 h.2).0 met)

  -- the list with such items is on the path
  pub without-IsShapeOn : (items : Shapes) → (has_mark p ≡ true → list_any (λ l. l == the_mark) p.neg ≡ true → ⊥) → AreWithout env base wanted playing (shapes_list items) → IsShapeOn env Lists p (AList (has_mark p) items)
  without-IsShapeOn items not_both without =
      let x = AList (has_mark p) items in
      let here = items_in-List (has_mark p) items in
      let mine = subst (AreWithout env base wanted playing) (sym here) without in
      let Both : Shape → Type 0 = λ y. IsValid y × (has_mark p ≡ true → IsFrozen y) in
      let each : All Both (shapes_list items) = λ k d lt.
      let is = slice_get-get_or (shapes_list items) k d lt in
      let y = without.inside k _ is in (y.0, ((asked_there k _).0 y.1).1) in (
        (IsValid-List (has_mark p) items).1 (λ m. All-weaker Both IsFrozen (λ y h. h.1 m) (shapes_list items) each, All-weaker Both IsValid (λ y h. h.0) (shapes_list items) each),
        marked-on_path env Lists p x refl (λ m. m) (λ fails m. not_both m fails)
            (λ k d lt. let a = get_or wanted k d in
            (In-IsInAtom env small x refl a (pos k d lt)).1 (record { allowed = mine.allowed k d lt; each = λ place y is. ((asked_there place y).0 (mine.inside place y is).1).0 k d lt }))
            (λ k d lt i. let a = get_or (atoms_in p.neg) k d in
            let inside = (In-IsInAtom env small x refl a (neg k d lt)).0 i in
            ⊎_elim
            (λ (out : IsListOutOfPlay env wanted a). out_of_play (items_in x) mine a out inside)
            (λ (plays : Contains playing a). All-contains (λ b. ¬ IsInAtom env b (items_in x)) playing a mine.outside plays inside)
            (are.others k d lt)),
      )

  map_some : (xs ys : List Shape) → map Some xs ≡ map Some ys → xs ≡ ys
  map_some [] [] e = refl
  map_some [] (y ∷ ys) e = absurd (none e)
    where
      none : [] ≡ Some y ∷ map Some ys → ⊥
      none e = cc
  map_some (x ∷ xs) [] e = absurd (none e)
    where
      none : Some x ∷ map Some xs ≡ [] → ⊥
      none e = cc
  map_some (x ∷ xs) (y ∷ ys) e = λ i. some_same x y (heads e) i ∷ map_some xs ys (tails e) i
    where
      heads : {A : Type 0} {a b : A} {xs zs : List A} → a ∷ xs ≡ b ∷ zs → a ≡ b
      heads e = cc

      tails : {A : Type 0} {a b : A} {xs zs : List A} → a ∷ xs ≡ b ∷ zs → xs ≡ zs
      tails e = cc

  module _ (table : Table) (kept : List (ℕ × Option Shape)) where
    -- a question about an item is one of the path
    pub item-IsMemberQuestion : (q : ℕ) → IsItemQuestion env base table kept playing q → IsMemberQuestion env Lists p (condition table q)
    item-IsMemberQuestion q is =
        let ask = is.asks_item in
        let cs = wanted_parts (item_of env ask.place) p in
        let ds = map (item_of env ask.place) ask.avoided in
        let question = one-further (condition table q) (asks (base ask.place ∷ []) ds) (asks cs ds) ask.asked (asks_begun (base ask.place) cs ds (one_itself (base ask.place))) in (
          ask.place,
          record {
            avoided = ask.avoided;
            unwanted = λ k d lt. All-contains (λ a. Contains (atoms_in p.neg) a × ¬ IsListOutOfPlay env wanted a) playing _ are.among (ask.among k d lt);
            apart = λ k d lt same.
                let a = get_or ask.avoided k d in
                let none = wants_both cs ds same.1 (item_of env ask.place a) (same.0, same.2, same.3) (contains-map (item_of env ask.place) ask.avoided a (Contains-get_or ask.avoided k d lt)) same.4 in
                is.some (one-further (condition table q) (asks cs ds) nothing question none);
            question = question;
          },
        )

    pub lists-Turns : (has_mark p ≡ true → list_any (λ l. l == the_mark) p.neg ≡ true → ⊥) → (filling : Filling) (turn : Turn) → TellsLists env base table kept wanted playing (λ n. ⊤) filling → IsListTurn (has_mark p) filling turn → Turns env table kept Lists p turn
    lists-Turns not_both (Parts parts) (Found x) h t =
        let same = map_some h.0 (shapes_list t.0) (sym h.1 ∙ t.2) in
        subst (IsShapeOn env Lists p) (sym t.1) (without-IsShapeOn t.0 not_both (subst (AreWithout env base wanted playing) same h.2))
    lists-Turns not_both (Parts parts) NoShape h t = absurd t
    lists-Turns not_both (Parts parts) (AskTable q) h t = absurd t
    lists-Turns not_both Empty (Found x) h t = absurd t
    lists-Turns not_both Empty NoShape h t = λ x on.
        let has = h (items_in x) tt (path-AreWithout x on.0 on.1) in record {
          question = has.held.question;
          held = has.held.held;
          part = has.item;
          inside = has.held.inside;
          lower = All-contains (λ y. levels y < levels x) (items_in x) has.item (lower_items x on.1.kind) has.among;
        }
    lists-Turns not_both Empty (AskTable q) h t = absurd t
    lists-Turns not_both (Ask q) (Found x) h t = absurd t
    lists-Turns not_both (Ask q) NoShape h t = absurd t
    lists-Turns not_both (Ask q) (AskTable r) h t =
        subst (λ s. Turns env table kept Lists p (AskTable s)) t (h.unknown, h.diagram, item-IsMemberQuestion q h)

-- each place of what is told has a part
pub lists-IsFilled : (env : List AtomDef) (asked : ℕ → Condition) (table : Table) (kept : List (ℕ × Option Shape)) (ws us : List ℕ) (IsLength : ℕ → Type 0) (filling : Filling) → TellsLists env asked table kept ws us IsLength filling → IsFilled filling
lists-IsFilled env asked table kept ws us IsLength (Parts parts) h = (h.0, h.1)
lists-IsFilled env asked table kept ws us IsLength Empty h = tt
lists-IsFilled env asked table kept ws us IsLength (Ask q) h = tt
