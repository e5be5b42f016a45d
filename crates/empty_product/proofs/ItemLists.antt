-- Lists in wanted atoms and outside others, by their items.
use Rattle.std.proofs.Common.{◌≡◌, ◌⊎◌, ⊎_elim, inl, inr, ℕ, zero, suc, ◌<◌, List, [], ◌∷◌, length, get_or, All, Contains, Option, Some, None, slice_get, refl, sym, subst, ◌∙◌}
use Rattle.std.proofs.lemmas.List.Elements.{All-nil, All-contains, All-weaker, Contains-get_or}
use Rattle.bal_base.specs.declared.shape.Shape.{Shape}
use Rattle.type_model.specs.declared.atoms.AtomDef.{AtomDef}
use Rattle.type_diagrams.specs.Conditions.{Condition, IsNothing, IsShapeOf, Meets, asks, nothing}
use Rattle.type_diagrams.specs.Kept.{IsHeldEmpty, IsUnknown}
use Rattle.type_diagrams.specs.Members.{AllowsLength, item_of}
use Rattle.type_diagrams.specs.Tables.{Table, condition}
use Rattle.type_diagrams.specs.Turns.{IsSound}
use Rattle.type_diagrams.specs.Whole.{Keeps}
use Rattle.type_diagrams.proofs.Asking.{Meets-decided, asks_itself}
use Rattle.type_diagrams.proofs.Meeting.{Meets-nothing, Meets-same}
use Rattle.type_diagrams.proofs.Shapes.{one-further}
use Rattle.empty_product.specs.declared.avoid.Filling.{Filling}
use Rattle.empty_product.specs.declared.avoid.Filling.TheVariants.{Parts, Empty, Ask}
use Rattle.empty_product.specs.Lists.{AreAsked, AreThose, AreWithout, AvoidAll, AvoidsItem, HasHeldItem, IsInAtom, IsItemQuestion, TellsItems, TellsLists}
use Rattle.empty_product.specs.Slots.{IsInHeld}
use Rattle.type_diagrams.specs.declared.projection.Projection.{Projection}
use Rattle.type_diagrams.specs.declared.projection.Projection.TheVariants.{Parts as Found, Ask as AskItem}
use Rattle.empty_product.specs.Items.{StandsInItems, StandsInList, TellsItemsAt, TellsListsAt}
use Rattle.empty_product.proofs.Gathering.{along-Gathers}
use Rattle.empty_product.proofs.ItemPlaces.{at-Contains, at_place, none_some, some_same}

-- ---- what is held, in tables that grow

module _ (env : List AtomDef) (old mid new : Table) (kept : List (ℕ × Option Shape)) (sound : All (IsSound env old) kept) (first : Keeps old mid) (last : Keeps old new) where
  pub IsInHeld-keeps : (x : Shape) → IsInHeld env mid kept x → IsInHeld env new kept x
  IsInHeld-keeps x h =
      let there = All-contains (IsSound env old) kept (h.question, None) sound h.held in record {
        question = h.question;
        held = h.held;
        inside = subst (λ c. IsShapeOf env c x) (first.conditions h.question there ∙ sym (last.conditions h.question there)) h.inside;
      }

  pub HasHeldItem-keeps : (items : List Shape) → HasHeldItem env mid kept items → HasHeldItem env new kept items
  HasHeldItem-keeps items h = record { item = h.item; among = h.among; held = IsInHeld-keeps h.item h.held }

-- ---- items that avoid what is asked of them

module _ (env : List AtomDef) where
  avoids_some : (items : List Shape) (f : ℕ → Condition) → ¬ ((k : ℕ) (x : Shape) → slice_get items k ≡ Some x → Meets env (f k) x) → (k : ℕ) × (x : Shape) × (slice_get items k ≡ Some x) × (¬ Meets env (f k) x)
  avoids_some [] f fails = absurd (fails (λ k x is. absurd (none_some x is)))
  avoids_some (y ∷ ys) f fails = ⊎_elim
      (λ (m : Meets env (f 0) y). let more = avoids_some ys (λ k. f (suc k)) (λ h. fails (all m h)) in (suc more.0, more.1, more.2, more.3))
      (λ (n : ¬ Meets env (f 0) y). (0, y, refl, n))
      (Meets-decided env (f 0) y)
    where
      all : Meets env (f 0) y → ((k : ℕ) (x : Shape) → slice_get ys k ≡ Some x → Meets env (f (suc k)) x) → (k : ℕ) (x : Shape) → slice_get (y ∷ ys) k ≡ Some x → Meets env (f k) x
      all m h zero x is = subst (Meets env (f 0)) (some_same y x is) m
      all m h (suc k) x is = h k x is

  pub AvoidsItem-outside : (a : ℕ) (items : List Shape) → AllowsLength env (length items) a → ¬ IsInAtom env a items → AvoidsItem env a items
  AvoidsItem-outside a items allowed fails =
      let found = avoids_some items (λ k. item_of env k a) (λ h. fails (record { allowed = allowed; each = h })) in
      record { place = found.0; item = found.1; stands = found.2; avoids = found.3 }

  pub AvoidsItem-not_in : (a : ℕ) (items : List Shape) → AvoidsItem env a items → ¬ IsInAtom env a items
  AvoidsItem-not_in a items av i = av.avoids (i.each av.place av.item av.stands)

module _ (env : List AtomDef) (base : ℕ → Condition) (table : Table) (kept : List (ℕ × Option Shape)) where
  pub IsItemQuestion-more : (xs ys : List ℕ) → All (Contains ys) xs → (q : ℕ) → IsItemQuestion env base table kept xs q → IsItemQuestion env base table kept ys q
  IsItemQuestion-more xs ys among q h = record {
    diagram = h.diagram;
    unknown = h.unknown;
    some = h.some;
    asks_item = record {
      place = h.asks_item.place;
      avoided = h.asks_item.avoided;
      among = All-weaker (Contains xs) (Contains ys) (λ a c. All-contains (Contains ys) xs a among c) h.asks_item.avoided h.asks_item.among;
      asked = h.asks_item.asked;
    };
  }

  -- the question for what is asked at a place
  pub base-IsItemQuestion : (atoms bases : List ℕ) → AreAsked table base bases → (k q : ℕ) → slice_get bases k ≡ Some q → IsUnknown kept q → ¬ IsNothing (condition table q) → IsItemQuestion env base table kept atoms q
  base-IsItemQuestion atoms bases asked k q is unknown some =
      let gives = asked k q is in record {
        diagram = gives.diagram;
        unknown = unknown;
        some = some;
        asks_item = record {
          place = k;
          avoided = [];
          among = All-nil (Contains atoms);
          asked = one-further (condition table q) (base k) (asks (base k ∷ []) []) gives.condition (asks_itself (base k));
        };
      }

  -- lists of some lengths, where the atoms that have such lists are avoided by items
  module _ (wanted unwanted atoms : List ℕ) (m : ℕ) (IsLength : ℕ → Type 0) (allowed : (n : ℕ) → IsLength n → All (AllowsLength env n) wanted) (those : AreThose (AllowsLength env m) unwanted atoms)
      (to : (n a : ℕ) → IsLength n → Contains unwanted a → AllowsLength env n a → AllowsLength env m a) (from : (n a : ℕ) → IsLength n → Contains unwanted a → AllowsLength env m a → AllowsLength env n a) where
    pub AvoidAll-AreWithout : (items : List Shape) → AvoidAll env base IsLength atoms items → AreWithout env base wanted unwanted items
    AvoidAll-AreWithout items all = record {
      allowed = allowed (length items) all.count;
      inside = all.inside;
      outside = λ k d lt i.
          let a = get_or unwanted k d in
          let plays = those.others k d lt (to (length items) a all.count (Contains-get_or unwanted k d lt) i.allowed) in
          AvoidsItem-not_in env a items (All-contains (λ b. AvoidsItem env b items) atoms a all.avoiding plays) i;
    }

    pub AreWithout-AvoidAll : (items : List Shape) → IsLength (length items) → AreWithout env base wanted unwanted items → AvoidAll env base IsLength atoms items
    AreWithout-AvoidAll items long without = record {
      count = long;
      inside = without.inside;
      avoiding = λ k d lt.
          let a = get_or atoms k d in
          let among = those.among k d lt in
          AvoidsItem-outside env a items (from (length items) a long among.0 among.1) (All-contains (λ b. ¬ IsInAtom env b items) unwanted a without.outside among.0);
    }

    pub items-TellsLists : (filling : Filling) → TellsItems env base table kept IsLength atoms filling → TellsLists env base table kept wanted unwanted IsLength filling
    items-TellsLists (Parts parts) h = (h.0, h.1, AvoidAll-AreWithout h.0 h.2)
    items-TellsLists Empty h = λ items long without. h items (AreWithout-AvoidAll items long without)
    items-TellsLists (Ask q) h = IsItemQuestion-more atoms unwanted (All-weaker (λ a. Contains unwanted a × AllowsLength env m a) (Contains unwanted) (λ a c. c.0) atoms those.among) q h

    -- what stands at a place of them
    pub items-TellsListsAt : (place : ℕ) (found : Condition) (p : Projection) → TellsItemsAt env base table kept IsLength atoms place found p → TellsListsAt env base table kept wanted unwanted IsLength place found p
    items-TellsListsAt place found (Found q) h =
        along-Gathers env table (StandsInItems env base IsLength atoms place) (HasHeldItem env table kept) found q (StandsInList env base wanted unwanted IsLength place) (HasHeldItem env table kept)
        (λ items y s. (items, record { count = s.all.count; list = AvoidAll-AreWithout items s.all; stands = s.stands }))
        (λ items y s. inl (items, record { all = AreWithout-AvoidAll items s.count s.list; stands = s.stands }, λ held. held))
        h
    items-TellsListsAt place found (AskItem q) h = IsItemQuestion-more atoms unwanted (All-weaker (λ a. Contains unwanted a × AllowsLength env m a) (Contains unwanted) (λ a c. c.0) atoms those.among) q h

-- ---- what is known of what is asked at a place

module _ (env : List AtomDef) (base : ℕ → Condition) (table : Table) (kept : List (ℕ × Option Shape)) where
  pub void-IsInHeld : (q : ℕ) → (IsHeldEmpty kept q ⊎ IsNothing (condition table q)) → (x : Shape) → IsShapeOf env (condition table q) x → IsInHeld env table kept x
  void-IsInHeld q (inl held) x is = record { question = q; held = held; inside = is }
  void-IsInHeld q (inr none) x is = absurd (Meets-nothing env x ((Meets-same env (condition table q) nothing x is.0 none).0 is.1))

  -- lists with an item at a place where each shape is held
  pub base-HasHeldItem : (bases : List ℕ) → AreAsked table base bases → (k q : ℕ) → slice_get bases k ≡ Some q → ((x : Shape) → IsShapeOf env (condition table q) x → IsInHeld env table kept x)
      → (items : List Shape) → k < length items → ((place : ℕ) (x : Shape) → slice_get items place ≡ Some x → IsShapeOf env (base place) x) → HasHeldItem env table kept items
  base-HasHeldItem bases asked k q is held items lt inside =
      let x = at_place items k lt in
      let met = inside k x.0 x.1 in
      record {
        item = x.0;
        among = at-Contains items k x.0 x.1;
        held = held x.0 (met.0, (Meets-same env (condition table q) (base k) x.0 met.0 (asked k q is).condition).1 met.1);
      }
