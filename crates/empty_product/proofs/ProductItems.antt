-- What is told of products is told of the items of lists.
use Rattle.std.proofs.Common.{◌≡◌, ◌↔◌, ℕ, suc, ◌&&◌, not, List, [], ◌∷◌, map, length, get_or, Bool, true, All, Contains, Option, Some, None, IsSome, slice_get, refl, sym, ap, subst, ◌∙◌, arith}
use Rattle.std.specs.List.{list_all}
use Rattle.std.proofs.lemmas.Bool.{false≢true}
use Rattle.std.proofs.lemmas.List.Elements.{All-nil, All-cons, All-head, All-tail, All-contains}
use Rattle.std.proofs.lemmas.Option.{slice_get_within, slice_get-get_or}
use Rattle.bal_base.specs.declared.shape.Shape.{Shape}
use Rattle.bal_base.specs.Valid.{IsValid}
use Rattle.type_model.specs.declared.atoms.AtomDef.{AtomDef}
use Rattle.type_diagrams.specs.declared.kind.Kind.{Kind}
use Rattle.type_diagrams.specs.Kinds.{IsSimple}
use Rattle.type_diagrams.specs.Conditions.{Condition, AreOne, IsShapeOf, Meets, asks}
use Rattle.type_diagrams.specs.Members.{item_of}
use Rattle.type_diagrams.specs.Tables.{Table, condition}
use Rattle.type_diagrams.proofs.Asking.{asks_along}
use Rattle.type_diagrams.proofs.Meeting.{Meets-same}
use Rattle.type_diagrams.proofs.Shapes.{one-further}
use Rattle.empty_product.specs.declared.avoid.Filling.{Filling}
use Rattle.empty_product.specs.declared.avoid.Filling.TheVariants.{Parts, Empty, Ask}
use Rattle.empty_product.specs.declared.slots.Slot.TheVariants.{Present}
use Rattle.empty_product.specs.declared.slots.Unwanted.{Unwanted}
use Rattle.empty_product.specs.Lists.{AreAsked, AreDemandsOf, AvoidAll, AvoidsItem, HasHeldItem, IsDemandOf, TellsItems}
use Rattle.empty_product.specs.Products.{AsksPart, Avoids, HasHeldPart, IsIn, TellsFilling, all_askings, askings_of, places_of}
use Rattle.empty_product.specs.Slots.{AvoidsAt, IsAt, MustHave, Place, asking_of, condition_at, place_of}
use Rattle.empty_product.proofs.ItemPlaces.{Contains-at, at-Contains, at-map, at_mapped, at_place, some_same}

-- ---- lists with a part at each place

pub length-mapped : {X Y : Type 0} (f : X → Y) (xs : List X) → length (map f xs) ≡ length xs
length-mapped f [] = refl
length-mapped f (x ∷ xs) = ap suc (length-mapped f xs)

all_some : {X : Type 0} (parts : List (Option X)) → ((k : ℕ) (o : Option X) → slice_get parts k ≡ Some o → IsSome o) → (items : List X) × (parts ≡ map Some items)
all_some [] h = ([], refl)
all_some (None ∷ parts) h = absurd (false≢true (h 0 None refl))
all_some (Some x ∷ parts) h = let more = all_some parts (λ k o is. h (suc k) o is) in (x ∷ more.0, ap (λ os. Some x ∷ os) more.1)

-- ---- the same left out, as other conditions that count as one

pub record AreLeft (cs ds : List Condition) : Type 0 where
  pub simple : (x : Shape) → IsSimple x → IsValid x → list_all (λ c. not (c.simple x)) cs ≡ list_all (λ c. not (c.simple x)) ds
  pub by_kind : (k : Kind) (v : ℕ → Bool) → list_all (λ c. not (c.by_kind k v)) cs ≡ list_all (λ c. not (c.by_kind k v)) ds

pub left-none : AreLeft [] []
left-none = record { simple = λ x s v. refl; by_kind = λ k v. refl }

pub left-more : (c d : Condition) (cs ds : List Condition) → AreOne c d → AreLeft cs ds → AreLeft (c ∷ cs) (d ∷ ds)
left-more c d cs ds e r = record {
  simple = λ x s v. λ i. not (e.simple x s v i) && r.simple x s v i;
  by_kind = λ k v. λ i. not (e.by_kind k v i) && r.by_kind k v i;
}

pub asks-left : (b : Condition) (cs ds : List Condition) → AreLeft cs ds → AreOne (asks (b ∷ []) cs) (asks (b ∷ []) ds)
asks-left b cs ds r = record {
  simple = λ x s v. ap (λ y. (b.simple x && true) && y) (r.simple x s v);
  by_kind = λ k v. ap (λ y. (b.by_kind k v && true) && y) (r.by_kind k v);
}

-- the atoms whose conditions are left out
chosen : (atoms : List ℕ) (f : ℕ → Condition) (left : List Condition) → All (λ c. (a : ℕ) × Contains atoms a × AreOne c (f a)) left → (avoided : List ℕ) × All (Contains atoms) avoided × AreLeft left (map f avoided)
chosen atoms f [] h = ([], All-nil (Contains atoms), left-none)
chosen atoms f (c ∷ left) h =
    let first = All-head (λ c. (a : ℕ) × Contains atoms a × AreOne c (f a)) c left h in
    let more = chosen atoms f left (All-tail (λ c. (a : ℕ) × Contains atoms a × AreOne c (f a)) c left h) in
    (first.0 ∷ more.0, All-cons (Contains atoms) first.0 more.0 first.1 more.1, left-more c (f first.0) left (map f more.0) first.2 more.2)

module _ (env : List AtomDef) (base : ℕ → Condition) (t new : Table) (kept : List (ℕ × Option Shape)) (bases : List ℕ) (is_asked : AreAsked t base bases) (atoms : List ℕ) (us : List Unwanted) (demands : AreDemandsOf env t (length bases) atoms us) where
  abbrev places : List Place
  places = places_of t (map Present bases)

  places_long : length places ≡ length bases
  places_long = length-mapped (place_of t) (map Present bases) ∙ length-mapped Present bases

  -- at each place a part is asked for
  there : (k : ℕ) (p : Place) → slice_get places k ≡ Some p → (q : ℕ) × (slice_get bases k ≡ Some q) × (MustHave (condition t q) ≡ p)
  there k p is =
      let slot = at_mapped (place_of t) (map Present bases) k p is in
      let q = at_mapped Present bases k slot.0 slot.1 in
      (q.0, q.1, ap (place_of t) q.2 ∙ slot.2)

  at_there : (k q : ℕ) → slice_get bases k ≡ Some q → slice_get places k ≡ Some (MustHave (condition t q))
  at_there k q is = at-map (place_of t) (map Present bases) k (Present q) (at-map Present bases k q is)

  must_some : (c : Condition) (o : Option Shape) → IsAt env (MustHave c) o → IsSome o
  must_some c None h = absurd h
  must_some c (Some x) h = refl

  -- parts at these places are items
  parts-items : (parts : List (Option Shape)) → IsIn env places parts → (items : List Shape) × (parts ≡ map Some items)
  parts-items parts is = all_some parts (λ k o stands.
      let within = slice_get_within parts k o stands in
      let q = at_place bases k (omega (arith, within, is.length, places_long)) in
      must_some (condition t q.0) o (is.each k (MustHave (condition t q.0)) o (at_there k q.0 q.1) stands))

  item-asked : (k q : ℕ) (x : Shape) → slice_get bases k ≡ Some q → IsShapeOf env (condition t q) x ↔ IsShapeOf env (base k) x
  item-asked k q x is =
      let one = (is_asked k q is).condition in
      (λ h. (h.0, (Meets-same env (condition t q) (base k) x h.0 one).0 h.1), λ h. (h.0, (Meets-same env (condition t q) (base k) x h.0 one).1 h.1))

  AvoidsItem-from : (items : List Shape) → IsIn env places (map Some items) → (a : ℕ) (u : Unwanted) → IsDemandOf env t (length bases) a u.demands.items → Avoids env (askings_of t u) (map Some items) → AvoidsItem env a items
  AvoidsItem-from items is a u of av =
      let d = at_mapped (asking_of t) u.demands.items av.place av.asking av.asks in
      let x = at_mapped Some items av.place av.part av.stands in
      let given = of.each av.place d.0 d.1 in
      let within = slice_get_within items av.place x.0 x.1 in
      let q = at_place bases av.place (omega (arith, within, is.length, places_long, length-mapped Some items)) in
      let valid = is.each av.place (MustHave (condition t q.0)) (Some x.0) (at_there av.place q.0 q.1) (at-map Some items av.place x.0 x.1) in
      let outside : ¬ Meets env (condition t d.0.question) x.0 = subst (λ w. AvoidsAt env w (Some x.0)) (sym d.2) (subst (AvoidsAt env av.asking) (sym x.2) av.avoids) in record {
        place = av.place;
        item = x.0;
        stands = x.1;
        avoids = λ m. outside ((Meets-same env (condition t d.0.question) (item_of env av.place a) x.0 valid.0 given.0.condition).1 m);
      }

  Avoids-from : (items : List Shape) → AvoidAll env base (λ n. n ≡ length bases) atoms items → (a : ℕ) (u : Unwanted) → IsDemandOf env t (length bases) a u.demands.items → AvoidsItem env a items → Avoids env (askings_of t u) (map Some items)
  Avoids-from items all a u of av =
      let within = slice_get_within items av.place av.item av.stands in
      let d = at_place u.demands.items av.place (omega (arith, within, all.count, of.count)) in
      let given = of.each av.place d.0 d.1 in
      let inside = all.inside av.place av.item av.stands in record {
        place = av.place;
        asking = asking_of t d.0;
        part = Some av.item;
        asks = at-map (asking_of t) u.demands.items av.place d.0 d.1;
        stands = at-map Some items av.place av.item av.stands;
        avoids = λ m. av.avoids ((Meets-same env (condition t d.0.question) (item_of env av.place a) av.item inside.0 given.0.condition).0 m);
      }

  pub items-IsIn : (items : List Shape) → AvoidAll env base (λ n. n ≡ length bases) atoms items → IsIn env places (map Some items)
  items-IsIn items all = record {
    length = length-mapped Some items ∙ all.count ∙ sym places_long;
    each = λ k p o at stands.
        let q = there k p at in
        let x = at_mapped Some items k o stands in
        subst (λ r. IsAt env r o) q.2 (subst (IsAt env (MustHave (condition t q.0))) x.2 ((item-asked k q.0 x.0 q.1).1 (all.inside k x.0 x.1)));
  }

  pub held-item : (items : List Shape) → HasHeldPart env new kept (map Some items) → HasHeldItem env new kept items
  held-item items has =
      let x = at_mapped Some items has.place (Some has.part) has.stands in record {
        item = has.part;
        among = subst (Contains items) (some_same x.0 has.part x.2) (at-Contains items has.place x.0 x.1);
        held = has.held;
      }

  mapped-Contains : (u : Unwanted) → Contains us u → Contains (all_askings t us) (askings_of t u)
  mapped-Contains u c = let k = Contains-at us u c in at-Contains (all_askings t us) k.0 (askings_of t u) (at-map (askings_of t) us k.0 u k.1)

  -- parts by which each atom is avoided are items
  pub parts-AvoidAll : (parts : List (Option Shape)) → IsIn env places parts → All (λ a. Avoids env a parts) (all_askings t us) → (items : List Shape) × (parts ≡ map Some items) × AvoidAll env base (λ n. n ≡ length bases) atoms items
  parts-AvoidAll parts fills avoiding =
      let found = parts-items parts fills in
      let is = subst (IsIn env places) found.1 fills in
      let avoids = subst (λ ps. All (λ a. Avoids env a ps) (all_askings t us)) found.1 avoiding in (
        found.0,
        found.1,
        record {
          count = sym (length-mapped Some found.0) ∙ is.length ∙ places_long;
          inside = λ k x stands.
              let within = slice_get_within found.0 k x stands in
              let q = at_place bases k (omega (arith, within, is.length, places_long, length-mapped Some found.0)) in
              (item-asked k q.0 x q.1).0 (is.each k (MustHave (condition t q.0)) (Some x) (at_there k q.0 q.1) (at-map Some found.0 k x stands));
          avoiding = λ k d lt.
              let u = demands.all k d lt in
              AvoidsItem-from found.0 is (get_or atoms k d) u.0 u.2 (All-contains (λ a. Avoids env a (map Some found.0)) (all_askings t us) (askings_of t u.0) avoids (mapped-Contains u.0 u.1));
        },
      )

  -- and such items are parts by which each is
  pub AvoidAll-Avoids : (items : List Shape) → AvoidAll env base (λ n. n ≡ length bases) atoms items → All (λ a. Avoids env a (map Some items)) (all_askings t us)
  AvoidAll-Avoids items all k d lt =
      let u = at_mapped (askings_of t) us k (get_or (all_askings t us) k d) (slice_get-get_or (all_askings t us) k d lt) in
      let a = All-contains (λ w. (a : ℕ) × Contains atoms a × IsDemandOf env t (length bases) a w.demands.items) us u.0 demands.only (at-Contains us k u.0 u.1) in
      subst (λ w. Avoids env w (map Some items)) u.2 (Avoids-from items all a.0 u.0 a.2 (All-contains (λ b. AvoidsItem env b items) atoms a.0 all.avoiding a.1))

  pub filling-TellsItems : (filling : Filling) → TellsFilling env new kept places (all_askings t us) filling → TellsItems env base new kept (λ n. n ≡ length bases) atoms filling
  filling-TellsItems (Parts parts) h = parts-AvoidAll parts.items h.0 h.1
  filling-TellsItems Empty h = λ items all. held-item items (h (map Some items) (items-IsIn items all) (AvoidAll-Avoids items all))
  filling-TellsItems (Ask q) h =
      let part = h.3 in
      let place = part.place in
      let b = there place part.at part.is_at in
      let is_base : part.base ≡ condition t b.0 = some_same part.base (condition t b.0) (sym part.has ∙ ap condition_at (sym b.2)) in
      let avoided = chosen atoms (item_of env place) part.left (each part) in
      let left = one-further (condition new q) (asks (part.base ∷ []) part.left) (asks (part.base ∷ []) (map (item_of env place) avoided.0)) part.asked (asks-left part.base part.left (map (item_of env place) avoided.0) avoided.2) in
      let same = subst (λ c. AreOne c (base place)) (sym is_base) (is_asked place b.0 b.1).condition in record {
        diagram = h.0;
        unknown = h.1;
        some = h.2;
        asks_item = record {
          place = place;
          avoided = avoided.0;
          among = avoided.1;
          asked = one-further (condition new q) (asks (part.base ∷ []) (map (item_of env place) avoided.0)) (asks (base place ∷ []) (map (item_of env place) avoided.0)) left (asks_along part.base (base place) (map (item_of env place) avoided.0) same);
        };
      }
    where
      each : (part : AsksPart places (all_askings t us) (condition new q)) → All (λ c. (a : ℕ) × Contains atoms a × AreOne c (item_of env part.place a)) part.left
      each part k e lt =
          let c = get_or part.left k e in
          let f = part.among k e lt in
          let j = Contains-at (all_askings t us) f.1 (f.0, f.2, f.3) in
          let u = at_mapped (askings_of t) us j.0 f.1 j.1 in
          let a = All-contains (λ w. (a : ℕ) × Contains atoms a × IsDemandOf env t (length bases) a w.demands.items) us u.0 demands.only (at-Contains us j.0 u.0 u.1) in
          let asking = f.4.0 in
          let d = at_mapped (asking_of t) u.0.demands.items part.place asking (subst (λ w. slice_get w part.place ≡ Some asking) (sym u.2) f.4.1) in
          let given = a.2.each part.place d.0 d.1 in
          let same : condition t d.0.question ≡ c = ap (λ w. w.part) d.2 ∙ sym f.4.2 in
          (a.0, a.1, subst (λ x. AreOne x (item_of env part.place a.0)) same given.0.condition)
