-- Lists that are longer than each fixed prefix: items before it, one of the rest, and further ones.
use Rattle.std.proofs.Common.{◌≡◌, ◌↔◌, ◌⊎◌, ⊎_elim, inl, inr, ℕ, ◌+◌, ◌<◌, ◌≤◌, List, [], ◌∷◌, ◌++◌, map, take, length, get_or, Bool, if◌then◌else◌, All, Any, Contains, Option, Some, None, IsSome, IsSomeAnd, slice_get, refl, sym, ap, subst, ◌∙◌, arith}
use Rattle.std.specs.Bool.{⊤}
use Rattle.std.proofs.lemmas.List.{length-append, length-take}
use Rattle.std.proofs.lemmas.List.Elements.{All-nil, All-cons, All-head, All-tail, All-contains, All-weaker, Contains-get_or, Contains-append_right}
use Rattle.std.proofs.lemmas.Option.{slice_get_past}
use Rattle.bal_base.specs.declared.shape.Shape.{Shape}
use Rattle.type_model.specs.declared.basic.Ty.{Ty}
use Rattle.type_model.specs.declared.atoms.AtomDef.{AtomDef}
use Rattle.type_model.specs.Places.{or_rest}
use Rattle.type_diagrams.specs.Atoms.{parts_of, list_parts}
use Rattle.type_diagrams.specs.Conditions.{Condition, AreOne, IsNothing, IsShapeOf, Meets, asks, frozen, without}
use Rattle.type_diagrams.specs.Kept.{IsUnknown}
use Rattle.type_diagrams.specs.Members.{AllowsLength, Fixes, asked, item_of, type_asked}
use Rattle.type_diagrams.specs.Tables.{Table, IsDiagram, condition}
use Rattle.type_diagrams.specs.Turns.{IsSound}
use Rattle.type_diagrams.specs.Whole.{Keeps, Gives}
use Rattle.type_diagrams.proofs.Asking.{asks_itself, asks_one_less}
use Rattle.type_diagrams.proofs.Elements.{All-where, map-where}
use Rattle.type_diagrams.proofs.Keeping.{keeps-further}
use Rattle.type_diagrams.proofs.Meeting.{Meets-same}
use Rattle.type_diagrams.proofs.Shapes.{one-further}
use Rattle.empty_product.specs.declared.avoid.Filling.{Filling}
use Rattle.empty_product.specs.declared.avoid.Filling.TheVariants.{Parts, Empty, Ask}
use Rattle.empty_product.specs.declared.further.RestDemand.{RestDemand}
use Rattle.empty_product.specs.Further.{AreSplit, IsAvoidedBy, MustStay, RestAsking, rest_asking_of, rest_askings_of}
use Rattle.empty_product.specs.Lists.{AvoidAll, AvoidsItem, FixesBefore, HasHeldItem, IsFilledWith, IsItemQuestion, IsSameFrom, TellsItems, TellsLists, item_asked}
use Rattle.empty_product.proofs.AtomLists.{Any-contains, order}
use Rattle.empty_product.proofs.ItemLists.{IsInHeld-keeps, HasHeldItem-keeps}
use Rattle.empty_product.proofs.ItemPlaces.{Contains-at, Contains-behind, at-Contains, at-map, at_append, at_append_left, at_mapped, at_take, at_taken}
use Rattle.empty_product.proofs.ProductItems.{asks-left, left-more, left-none}

-- ---- behind all places that atoms fix

fixed_within : (n k : ℕ) → ((place : ℕ) → place < k → place < n) → k ≤ n
fixed_within n k before = by (order n k)
  where
    by : (n < k) ⊎ (k ≤ n) → k ≤ n
    by (inl lt) = let no = before n lt in absurd (omega (arith, no))
    by (inr le) = le

module _ (env : List AtomDef) (n : ℕ) where
  item-behind : (o : Option (List Ty × Option Ty)) → ((place : ℕ) → IsSomeAnd o (λ d. place < length d.0) → place < n) → (place : ℕ) → n ≤ place
      → asked (λ d. type_asked env (or_rest (slice_get d.0 place) d.1)) o ≡ asked (λ d. type_asked env (or_rest (slice_get d.0 n) d.1)) o
  item-behind None before place le = refl
  item-behind (Some d) before place le =
      let short = fixed_within n (length d.0) before in
      ap (λ t. type_asked env (or_rest t d.1)) (slice_get_past d.0 place (omega (arith, short, le)) ∙ sym (slice_get_past d.0 n short))

  pub item_of-behind : (a : ℕ) → FixesBefore env n a → (place : ℕ) → n ≤ place → item_of env place a ≡ item_of env n a
  item_of-behind a before place le = item-behind (parts_of list_parts env a) before place le

  pub item_asked-behind : (wanted : List ℕ) (marked : Bool) → All (FixesBefore env n) wanted → IsSameFrom n (item_asked env wanted marked)
  item_asked-behind wanted marked before place le =
      ap (λ cs. asks (cs ++ (if marked then frozen ∷ [] else [])) []) (map-where (FixesBefore env n) (item_of env place) (item_of env n) (λ a b. item_of-behind a b place le) wanted before)

  -- longer lists than each fixed prefix: an atom has those of one length where it has those of any other
  longer : (o : Option (List Ty × Option Ty)) → ((place : ℕ) → IsSomeAnd o (λ d. place < length d.0) → place < n) → (k m : ℕ) → n < k → n < m
      → IsSomeAnd o (λ d. (length d.0 ≤ k) × (length d.0 < k → IsSome d.1)) → IsSomeAnd o (λ d. (length d.0 ≤ m) × (length d.0 < m → IsSome d.1))
  longer None before k m lk lm h = h
  longer (Some d) before k m lk lm h =
      let short = fixed_within n (length d.0) before in
      (omega (arith, short, lm), λ lt. h.1 (omega (arith, short, lk)))

  pub AllowsLength-longer : (a k m : ℕ) → FixesBefore env n a → n < k → n < m → AllowsLength env k a → AllowsLength env m a
  AllowsLength-longer a k m before lk lm h = longer (parts_of list_parts env a) before k m lk lm h

-- one or the other for each
either_all : {X : Type 0} (A : Type 0) (P : X → Type 0) (xs : List X) → All (λ x. A ⊎ P x) xs → A ⊎ All P xs
either_all A P [] h = inr (All-nil P)
either_all A P (x ∷ xs) h = ⊎_elim
    (λ (a : A). inl a)
    (λ (p : P x). ⊎_elim (λ (a : A). inl a) (λ (ps : All P xs). inr (All-cons P x xs p ps)) (either_all A P xs (All-tail (λ y. A ⊎ P y) x xs h)))
    (All-head (λ y. A ⊎ P y) x xs h)

module _ (env : List AtomDef) (base : ℕ → Condition) (n : ℕ) (same : IsSameFrom n base) (kept : List (ℕ × Option Shape)) (t0 t1 t2 t3 : Table) (rest : ℕ) (rest_given : Gives t0 (base n) rest)
    (first_keeps : Keeps t0 t1) (next_keeps : Keeps t1 t2) (last_keeps : Keeps t2 t3)
    (atoms : List ℕ) (before : All (FixesBefore env n) atoms) (ds : List RestDemand) (named : map (λ d. d.atom) ds ≡ atoms) (given : All (λ d. Gives t1 (item_of env n d.atom) d.question) ds) where
  abbrev askings : List RestAsking
  askings = rest_askings_of t1 ds

  rest_is : condition t1 rest ≡ condition t0 rest
  rest_is = first_keeps.conditions rest rest_given.diagram

  demand_at : (k : ℕ) (a : RestAsking) → slice_get askings k ≡ Some a → (d : RestDemand) × Contains ds d × (rest_asking_of t1 d ≡ a)
  demand_at k a is = let d = at_mapped (rest_asking_of t1) ds k a is in (d.0, at-Contains ds k d.0 d.1, d.2)

  atom_among : (d : RestDemand) → Contains ds d → Contains atoms d.atom
  atom_among d c = let k = Contains-at ds d c in subst (λ xs. Contains xs d.atom) named (at-Contains (map (λ e. e.atom) ds) k.0 d.atom (at-map (λ e. e.atom) ds k.0 d k.1))

  -- an asking is of an atom, which asks the same at each further place
  asking_is : (k : ℕ) (a : RestAsking) → slice_get askings k ≡ Some a → Contains atoms a.atom × AreOne a.part (item_of env n a.atom)
  asking_is k a is =
      let d = demand_at k a is in
      subst (λ b. Contains atoms b.atom × AreOne b.part (item_of env n b.atom)) d.2 (atom_among d.0 d.1, (All-contains (λ e. Gives t1 (item_of env n e.atom) e.question) ds d.0 given d.1).condition)

  meets_there : (k : ℕ) (a : RestAsking) → slice_get askings k ≡ Some a → (place : ℕ) → n ≤ place → (x : Shape) → IsShapeOf env (base n) x → Meets env (item_of env place a.atom) x ↔ Meets env a.part x
  meets_there k a is place le x valid =
      let of = asking_is k a is in
      let is_same = item_of-behind env n a.atom (All-contains (FixesBefore env n) atoms a.atom before of.0) place le in
      let one = Meets-same env a.part (item_of env n a.atom) x valid.0 of.1 in
      (λ m. one.1 (subst (λ c. Meets env c x) is_same m), λ m. subst (λ c. Meets env c x) (sym is_same) (one.0 m))

  in_rest : (x : Shape) → IsShapeOf env (condition t0 rest) x ↔ IsShapeOf env (base n) x
  in_rest x = (
    λ h. (h.0, (Meets-same env (condition t0 rest) (base n) x h.0 rest_given.condition).0 h.1),
    λ h. (h.0, (Meets-same env (condition t0 rest) (base n) x h.0 rest_given.condition).1 h.1),
  )

  in_rest_later : (x : Shape) → IsShapeOf env (condition t1 rest) x ↔ IsShapeOf env (base n) x
  in_rest_later x = subst (λ c. IsShapeOf env c x ↔ IsShapeOf env (base n) x) (sym rest_is) (in_rest x)

  module _ (parts : List Shape) (staying : List ℕ) (split : AreSplit env t2 kept (condition t1 rest) askings parts staying) where
    stays : (s : ℕ) → Contains staying s → Any (λ a. (a.atom ≡ s) × MustStay env t2 kept (condition t1 rest) a) askings
    stays s c = All-contains (λ r. Any (λ a. (a.atom ≡ r) × MustStay env t2 kept (condition t1 rest) a) askings) staying s split.stay c

    pub staying-among : All (Contains atoms) staying
    staying-among k d lt =
        let s = get_or staying k d in
        let f = split.stay k d lt in
        let at = Contains-at askings f.1 (f.0, f.2, f.3) in
        subst (Contains atoms) f.4.0 (asking_is at.0 f.1 at.1).0

    -- the items before, one of the rest, and the further ones
    pub longer-AvoidAll : (m : ℕ) → m ≡ n → (first : Shape) → IsShapeOf env (condition t0 rest) first → (items : List Shape) → AvoidAll env base (λ k. k ≡ m) staying items → AvoidAll env base (λ k. n + 1 ≤ k) atoms (items ++ first ∷ parts)
    longer-AvoidAll m e first is items all =
        let count : length items ≡ n = all.count ∙ e in
        let behind_in : All (IsShapeOf env (base n)) (first ∷ parts) = All-cons (IsShapeOf env (base n)) first parts ((in_rest first).0 is) (All-weaker (IsShapeOf env (condition t1 rest)) (IsShapeOf env (base n)) (λ x h. (in_rest_later x).0 h) parts split.inside) in record {
          count = let long = length-append items (first ∷ parts) in omega (arith, long, count);
          inside = λ place x at. ⊎_elim
              (λ (h : slice_get items place ≡ Some x). all.inside place x h)
              (λ (h : (length items ≤ place) × Contains (first ∷ parts) x). let le = h.0 in subst (λ c. IsShapeOf env c x) (sym (same place (omega (arith, le, count)))) (All-contains (IsShapeOf env (base n)) (first ∷ parts) x behind_in h.1))
              (at_append items (first ∷ parts) place x at);
          avoiding = λ k d lt.
              let atom = get_or atoms k d in
              by atom count (Contains-at atoms atom (Contains-get_or atoms k d lt));
        }
      where
        avoided : (atom : ℕ) → length items ≡ n → (j : ℕ) (a : RestAsking) → slice_get askings j ≡ Some a → a.atom ≡ atom → (Any (IsAvoidedBy env t2 kept (condition t1 rest) a) parts ⊎ Contains staying a.atom) → AvoidsItem env atom (items ++ first ∷ parts)
        avoided atom count j a at is_atom (inl some) =
            let x = some.1 in
            let found = Contains-behind items (first ∷ parts) x (Contains-append_right (first ∷ []) parts x (some.0, some.2, some.3)) in
            let le = found.1 in
            subst (λ b. AvoidsItem env b (items ++ first ∷ parts)) is_atom (record {
              place = found.0;
              item = x;
              stands = found.2;
              avoids = λ met. some.4.avoids ((meets_there j a at found.0 (omega (arith, le, count)) x ((in_rest_later x).0 some.4.inside)).0 met);
            })
        avoided atom count j a at is_atom (inr stay) =
            let av = All-contains (λ b. AvoidsItem env b items) staying a.atom all.avoiding stay in
            subst (λ b. AvoidsItem env b (items ++ first ∷ parts)) is_atom (record {
              place = av.place;
              item = av.item;
              stands = at_append_left items (first ∷ parts) av.place av.item av.stands;
              avoids = av.avoids;
            })

        by : (atom : ℕ) → length items ≡ n → (j : ℕ) × (slice_get atoms j ≡ Some atom) → AvoidsItem env atom (items ++ first ∷ parts)
        by atom count at =
            let d = at_mapped (λ e. e.atom) ds at.0 atom (subst (λ xs. slice_get xs at.0 ≡ Some atom) (sym named) at.1) in
            let asking = at-map (rest_asking_of t1) ds at.0 d.0 d.1 in
            avoided atom count at.0 (rest_asking_of t1 d.0) asking d.2 (All-contains (λ a. Any (IsAvoidedBy env t2 kept (condition t1 rest) a) parts ⊎ Contains staying a.atom) askings (rest_asking_of t1 d.0) split.each (at-Contains askings at.0 (rest_asking_of t1 d.0) asking))

    -- The first items of a longer list are such items, or one of it is held.
    pub longer-taken : (m : ℕ) → m ≡ n → All (IsSound env t0) kept → (items : List Shape) → AvoidAll env base (λ k. n + 1 ≤ k) atoms items → HasHeldItem env t3 kept items ⊎ AvoidAll env base (λ k. k ≡ m) staying (take m items)
    longer-taken m e sound items all = ⊎_elim
        (λ (h : HasHeldItem env t3 kept items). inl h)
        (λ (avoiding : All (λ s. AvoidsItem env s (take m items)) staying). let long = all.count in let taken = length-take m items in inr (record {
          count = omega (arith, long, e, taken);
          inside = λ place x is. all.inside place x (at_take items m place x is).0;
          avoiding = avoiding;
        }))
        (either_all (HasHeldItem env t3 kept items) (λ s. AvoidsItem env s (take m items)) staying each)
      where
        second : Keeps t0 t2
        second = keeps-further t0 t1 t2 first_keeps next_keeps

        third : Keeps t0 t3
        third = keeps-further t0 t2 t3 second last_keeps

        by : (s : ℕ) (av : AvoidsItem env s items) → Any (λ a. (a.atom ≡ s) × MustStay env t2 kept (condition t1 rest) a) askings → (av.place < m) ⊎ (m ≤ av.place) → HasHeldItem env t3 kept items ⊎ AvoidsItem env s (take m items)
        by s av stay (inl lt) = inr (record { place = av.place; item = av.item; stands = at_taken items m av.place av.item lt av.stands; avoids = av.avoids })
        by s av stay (inr le) =
            let at = Contains-at askings stay.1 (stay.0, stay.2, stay.3) in
            let behind : n ≤ av.place = omega (arith, le, e) in
            let inside = subst (λ c. IsShapeOf env c av.item) (same av.place behind) (all.inside av.place av.item av.stands) in
            let outside : ¬ Meets env (item_of env av.place stay.1.atom) av.item = subst (λ b. ¬ Meets env (item_of env av.place b) av.item) (sym stay.4.0) av.avoids in
            let held = stay.4.1 av.item (record { inside = (in_rest_later av.item).1 inside; avoids = λ met. outside ((meets_there at.0 stay.1 at.1 av.place behind av.item inside).1 met) }) in
            inl (record { item = av.item; among = at-Contains items av.place av.item av.stands; held = IsInHeld-keeps env t0 t2 t3 kept sound second third av.item held })

        each : All (λ s. HasHeldItem env t3 kept items ⊎ AvoidsItem env s (take m items)) staying
        each k d lt =
            let s = get_or staying k d in
            let av = All-contains (λ a. AvoidsItem env a items) atoms s all.avoiding (staying-among k d lt) in
            by s av (split.stay k d lt) (order av.place m)

    -- what is held among the first items is so among all
    pub taken-HasHeldItem : (m : ℕ) (items : List Shape) → HasHeldItem env t3 kept (take m items) → HasHeldItem env t3 kept items
    taken-HasHeldItem m items held =
        let at = Contains-at (take m items) held.item held.among in
        record { item = held.item; among = at-Contains items at.0 held.item (at_take items m at.0 held.item at.1).0; held = held.held }

    -- where there are no such items before, there are no longer lists either
    pub longer-none : (m : ℕ) → m ≡ n → All (IsSound env t0) kept → ((items : List Shape) → AvoidAll env base (λ k. k ≡ m) staying items → HasHeldItem env t3 kept items) → (items : List Shape) → AvoidAll env base (λ k. n + 1 ≤ k) atoms items → HasHeldItem env t3 kept items
    longer-none m e sound none items all = ⊎_elim
        (λ (h : HasHeldItem env t3 kept items). h)
        (λ (taken : AvoidAll env base (λ k. k ≡ m) staying (take m items)). taken-HasHeldItem m items (none (take m items) taken))
        (longer-taken m e sound items all)

  -- the question for a further item
  pub further-IsItemQuestion : (q : ℕ) → IsDiagram t2 q → IsUnknown kept q → ¬ IsNothing (condition t2 q) → Any (λ a. AreOne (condition t2 q) (without (condition t1 rest) a.part)) askings → IsItemQuestion env base t2 kept atoms q
  further-IsItemQuestion q diagram unknown some found =
      let a = found.1 in
      let at = Contains-at askings a (found.0, found.2, found.3) in
      let of = asking_is at.0 a at.1 in
      let rest_one : AreOne (condition t1 rest) (asks (base n ∷ []) []) = subst (λ c. AreOne c (asks (base n ∷ []) [])) (sym rest_is) (one-further (condition t0 rest) (base n) (asks (base n ∷ []) []) rest_given.condition (asks_itself (base n))) in
      let less = one-further (condition t2 q) (without (condition t1 rest) a.part) (asks (base n ∷ []) (a.part ∷ [])) found.4 (asks_one_less (condition t1 rest) (base n ∷ []) [] a.part rest_one) in record {
        diagram = diagram;
        unknown = unknown;
        some = some;
        asks_item = record {
          place = n;
          avoided = a.atom ∷ [];
          among = All-cons (Contains atoms) a.atom [] of.0 (All-nil (Contains atoms));
          asked = one-further (condition t2 q) (asks (base n ∷ []) (a.part ∷ [])) (asks (base n ∷ []) (item_of env n a.atom ∷ [])) less (asks-left (base n) (a.part ∷ []) (item_of env n a.atom ∷ []) (left-more a.part (item_of env n a.atom) [] [] of.1 left-none));
        };
      }

-- all places that atoms fix are before the longest fixed prefix
pub before-longest : (env : List AtomDef) (atoms : List ℕ) (longest n : ℕ) → ((place : ℕ) → (place < longest) ↔ Any (Fixes env place) atoms) → longest ≤ n → All (FixesBefore env n) atoms
before-longest env atoms longest n is le = λ k d lt place f.
    let short = (is place).1 (Any-contains (Fixes env place) atoms (get_or atoms k d) (Contains-get_or atoms k d lt) f) in
    omega (arith, short, le)

-- ---- lists of any length

pub all-longer : (env : List AtomDef) (n k m : ℕ) (atoms : List ℕ) → All (FixesBefore env n) atoms → n < k → n < m → All (AllowsLength env k) atoms → All (AllowsLength env m) atoms
all-longer env n k m atoms before lk lm h = All-where (FixesBefore env n) (AllowsLength env k) (AllowsLength env m) (λ a b c. AllowsLength-longer env n a k m b lk lm c) atoms before h

module _ (env : List AtomDef) (base : ℕ → Condition) (old mid new : Table) (kept : List (ℕ × Option Shape)) (sound : All (IsSound env old) kept) (first : Keeps old mid) (last : Keeps old new) (wanted unwanted : List ℕ) (m : ℕ) where
  -- shorter lists, of which there are none, and longer ones
  pub both-TellsLists : TellsLists env base mid kept wanted unwanted (λ n. n < m) Empty → (filling : Filling) → TellsLists env base new kept wanted unwanted (λ n. m ≤ n) filling → TellsLists env base new kept wanted unwanted (λ n. ⊤) filling
  both-TellsLists short (Parts parts) h = h
  both-TellsLists short Empty h = λ items long without. ⊎_elim
      (λ (lt : length items < m). HasHeldItem-keeps env old mid new kept sound first last items (short items lt without))
      (λ (le : m ≤ length items). h items le without)
      (order (length items) m)
  both-TellsLists short (Ask q) h = h

  -- one length more
  pub next-TellsLists : TellsLists env base mid kept wanted unwanted (λ n. n < m) Empty → TellsLists env base new kept wanted unwanted (λ n. n ≡ m) Empty → TellsLists env base new kept wanted unwanted (λ n. n < m + 1) Empty
  next-TellsLists short here = λ items long without. ⊎_elim
      (λ (lt : length items < m). HasHeldItem-keeps env old mid new kept sound first last items (short items lt without))
      (λ (le : m ≤ length items). let same : length items ≡ m = omega (arith, le, long) in here items same without)
      (order (length items) m)

-- ---- what is told, in other words

pub AvoidAll-length : (env : List AtomDef) (base : ℕ → Condition) (P Q : ℕ → Type 0) → ((k : ℕ) → P k → Q k) → (atoms : List ℕ) (items : List Shape) → AvoidAll env base P atoms items → AvoidAll env base Q atoms items
AvoidAll-length env base P Q f atoms items all = record { count = f (length items) all.count; inside = all.inside; avoiding = all.avoiding }

map-joined : (xs ys : List Shape) → map Some xs ++ map Some ys ≡ map Some (xs ++ ys)
map-joined [] ys = refl
map-joined (x ∷ xs) ys = ap (λ zs. Some x ∷ zs) (map-joined xs ys)

pub filled-TellsItems : (env : List AtomDef) (base : ℕ → Condition) (table : Table) (kept : List (ℕ × Option Shape)) (IsLength : ℕ → Type 0) (atoms : List ℕ) (parts : List (Option Shape)) (items more : List Shape) → parts ≡ map Some items → AvoidAll env base IsLength atoms (items ++ more)
    → (filling : Filling) → IsFilledWith (parts ++ map Some more) filling → TellsItems env base table kept IsLength atoms filling
filled-TellsItems env base table kept IsLength atoms parts items more is all (Parts found) h = (items ++ more, h ∙ ap (λ os. os ++ map Some more) is ∙ map-joined items more, all)
filled-TellsItems env base table kept IsLength atoms parts items more is all Empty h = absurd h
filled-TellsItems env base table kept IsLength atoms parts items more is all (Ask q) h = absurd h
