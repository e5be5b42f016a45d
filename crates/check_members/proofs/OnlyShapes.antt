-- The one shape of a type, if it has just one.
use Rattle.std.proofs.Common.{◌≡◌, ◌≢◌, ◌∙◌, ℤ, ℕ, List, Bool, true, false, Option, Some, None, Ok, Err, inl, inr, refl, sym, subst, ap, pos, negsuc}
use Rattle.bal_base.specs.declared.fault.Fault.{Fault}
use Rattle.bal_base.specs.declared.place.Place.{Place}
use Rattle.bal_base.specs.declared.shape.Shape.{Shape, Nil, Bool as BoolShape, Int, Str, List', Mapping', Error', Function, Future'}
use Rattle.bal_base.specs.declared.stop.Stop.{Stop}
use Rattle.bal_base.specs.declared.stop.Stop.TheVariants.{Memory, Fault as OwnFault}
use Rattle.bal_base.specs.declared.text.Text.{Text}
use Rattle.bal_base.specs.Stops.{IfFault}
use Rattle.checks.specs.Checks.{Comes}
use Rattle.checks.specs.Questions.{IsLimitAt, is_below}
use Rattle.operations.specs.declared.operation.Constant.{Constant}
use Rattle.operations.specs.declared.operation.Constant.TheVariants as constant
use Rattle.operations.specs.Rows.{shape_of}
use Rattle.type_model.specs.declared.answers.Keys.{Keys}
use Rattle.type_model.specs.declared.answers.TypeLimit.{TypeLimit}
use Rattle.type_model.specs.declared.atoms.AtomDef.{AtomDef}
use Rattle.type_model.specs.declared.basic.SemType.{SemType, Basic}
use Rattle.type_model.specs.Calls.{Alone, Asked}
use Rattle.type_model.specs.Inclusion.{FindsShape, IsShapeOf, Sub}
use Rattle.type_model.specs.Membership.{In}
use Rattle.check_words.specs.declared.access.Access.{Access}
use Rattle.check_words.specs.declared.access.Access.TheVariants.{Char, Item, Key}
use Rattle.check_words.specs.Members.{IsOnly, IsSingleSet, NamesFields, NamesItems, NamesMembers, names_members}
use Rattle.check_kinds.specs.Sets.{constant_set}
use Rattle.check_kinds.proofs.Shapes.{single-set}
use Rattle.check_members.specs.Only.{HasNoOnly, IsCandidate, IsIntOrText, IsSettled, candidate_of, fields_at, if_so, items_at, members_at, only_shape}

module _ (env : List AtomDef) (t : SemType) where
  -- the only shape is each shape
  only-is : (x y : Shape) → IsOnly env t y → IsShapeOf env t x → x ≡ y
  only-is x y o h = (o.1 x h.0).0 h.1

  only-shape : (x : Shape) → IsOnly env t x → IsShapeOf env t x
  only-shape x o = (o.0, (o.1 x o.0).1 refl)

  -- ---- what was found

  other-found : (x : Shape) → ((i : ℤ) → x ≢ Int i) → ((s : Text) → x ≢ Str s) → IsShapeOf env t x → HasNoOnly env t
  other-found x no_int no_text h = record { int = λ i o. no_int i (only-is x (Int i) o h); text = λ s o. no_text s (only-is x (Str s) o h) }

  shape-found : (x : Shape) → IsShapeOf env t x → IsCandidate env t (candidate_of (Some x))
  shape-found (Int i) h = (tt, h)
  shape-found (Str s) h = (tt, h)
  shape-found Nil h = other-found Nil (λ i e. absurd (cc)) (λ s e. absurd (cc)) h
  shape-found (BoolShape b) h = other-found (BoolShape b) (λ i e. absurd (cc)) (λ s e. absurd (cc)) h
  shape-found (List' m w xs) h = other-found (List' m w xs) (λ i e. absurd (cc)) (λ s e. absurd (cc)) h
  shape-found (Mapping' m w xs) h = other-found (Mapping' m w xs) (λ i e. absurd (cc)) (λ s e. absurd (cc)) h
  shape-found (Error' w d) h = other-found (Error' w d) (λ i e. absurd (cc)) (λ s e. absurd (cc)) h
  shape-found (Function i g) h = other-found (Function i g) (λ i e. absurd (cc)) (λ s e. absurd (cc)) h
  shape-found (Future' w xs) h = other-found (Future' w xs) (λ i e. absurd (cc)) (λ s e. absurd (cc)) h

  pub found : (o : Option Shape) → FindsShape env t o → IsCandidate env t (candidate_of o)
  found None h = record { int = λ i o. h (Int i) o.0 (only-shape (Int i) o).1; text = λ s o. h (Str s) o.0 (only-shape (Str s) o).1 }
  found (Some x) h = shape-found x h

  -- ---- what was settled

  module _ (c : Constant) (h : IsShapeOf env t (shape_of c)) where
    so : Sub env t (Basic (constant_set c)) → IsOnly env t (shape_of c)
    so sub = (h.0, λ y v. (λ i. (single-set c y).0 (sub y v i), λ e. subst (λ (z : Shape). In env z t) (sym e) h.1))

    one-only : (x y : Shape) → IsShapeOf env t x → (¬ In env x (Basic (constant_set c))) → IsOnly env t y → ⊥
    one-only x y hx out o = out ((single-set c x).1 (only-is x y o hx ∙ sym (only-is (shape_of c) y o h)))

    not-so : (x : Shape) → IsShapeOf env t x → (¬ In env x (Basic (constant_set c))) → HasNoOnly env t
    not-so x hx out = record { int = λ i o. one-only x (Int i) hx out o; text = λ s o. one-only x (Str s) hx out o }

module _ (passes : List AtomDef → Asked → TypeLimit → Type 0) (t : SemType) (at : Place) (old new : List AtomDef) where
  -- ---- the answers of questions

  settled-by : (c : Constant) (b : Bool) → IsIntOrText c → IsShapeOf old t (shape_of c) → Comes (is_below passes t (Basic (constant_set c)) (Some at)) old (Ok b) new
      → Comes (only_shape passes t at) old (Ok (if_so b c)) new
  unfolding Comes is_below only_shape
  settled-by c true is h k = ((is, so old t c h k.0), k.1)
  settled-by c false is h k = (not-so old t c h k.0.0 k.0.1 k.0.2, k.1)

  pub asked-so : (c : Constant) (b : Bool) (o : Option Constant) (one : SemType) → o ≡ if_so b c → one ≡ Basic (constant_set c) → IsCandidate old t (Some c)
      → Comes (is_below passes t one (Some at)) old (Ok b) new → Comes (only_shape passes t at) old (Ok o) new
  asked-so c b o one e f h k =
      subst (λ (p : Option Constant). Comes (only_shape passes t at) old (Ok p) new) (sym e)
      (settled-by c b h.0 h.1 (subst (λ (u : SemType). Comes (is_below passes t u (Some at)) old (Ok b) new) f k))

  single : (c : Constant) (one : SemType) → one ≡ Basic (constant_set c) → IsIntOrText c → IsSingleSet passes one
  single (constant.Int i) one e h = inl (i, e)
  single (constant.Str s) one e h = inr (s, e)
  single constant.Nil one e h = absurd h
  single (constant.Bool b) one e h = absurd h

  pub asked-stops : (c : Constant) (one : SemType) (stop : Stop Fault) → one ≡ Basic (constant_set c) → IsCandidate old t (Some c)
      → Comes (is_below passes t one (Some at)) old (Err stop) new → Comes (only_shape passes t at) old (Err stop) new
  unfolding Comes is_below only_shape
  asked-stops c one (OwnFault f) e h k = (inr (one, single c one e h.0, k.0), k.1)
  asked-stops c one Memory e h k = tt

  pub none-only : new ≡ old → IsCandidate old t None → Comes (only_shape passes t at) old (Ok None) new
  unfolding Comes only_shape
  none-only e h = (h, e)

  pub search-stops : (stop : Stop TypeLimit) (r : Stop Fault) → new ≡ old → IsLimitAt (Some at) stop r → IfFault {T = Option Shape} (Err stop) (passes old (Alone t))
      → Comes (only_shape passes t at) old (Err r) new
  unfolding Comes only_shape
  search-stops (OwnFault limit) (OwnFault f) e h p = (inl (limit, p, h), e)
  search-stops (OwnFault limit) Memory e h p = tt
  search-stops Memory r e h p = subst (λ (s : Stop Fault). Comes (only_shape passes t at) old (Err s) new) (sym h) tt

  -- ---- which members are named

  only-two : (x y : Shape) → x ≢ y → IsOnly old t x → IsOnly old t y → ⊥
  only-two x y ne o p = ne (only-is old t x y p (only-shape old t x o))

  items-named : (c : Option Constant) → IsSettled old t c → NamesItems old t (items_at c)
  items-named None h = inr (λ n o. h.int (pos n) o, refl)
  items-named (Some constant.Nil) h = absurd h.0
  items-named (Some (constant.Bool b)) h = absurd h.0
  items-named (Some (constant.Int (pos n))) h = inl (n, h.1, refl)
  items-named (Some (constant.Int (negsuc n))) h = inr (λ m o. only-two (Int (negsuc n)) (Int (pos m)) (λ e. absurd (cc)) h.1 o, refl)
  items-named (Some (constant.Str s)) h = inr (λ m o. only-two (Str s) (Int (pos m)) (λ e. absurd (cc)) h.1 o, refl)

  fields-named : (c : Option Constant) → IsSettled old t c → NamesFields old t (fields_at c)
  fields-named None h = inr (λ s o. h.text s o, refl)
  fields-named (Some constant.Nil) h = absurd h.0
  fields-named (Some (constant.Bool b)) h = absurd h.0
  fields-named (Some (constant.Int i)) h = inr (λ s o. only-two (Int i) (Str s) (λ e. absurd (cc)) h.1 o, refl)
  fields-named (Some (constant.Str s)) h = inl (s, h.1, refl)

  named : (a : Access) (c : Option Constant) → IsSettled old t c → NamesMembers a old t (members_at a c)
  named Char c h = items-named c h
  named Item c h = items-named c h
  named Key c h = fields-named c h

  pub named-so : (a : Access) (c : Option Constant) (keys : Keys) → keys ≡ members_at a c → Comes (only_shape passes t at) old (Ok c) new
      → Comes (names_members passes a t at) old (Ok keys) new
  unfolding Comes only_shape names_members
  named-so a c keys e h = (subst (NamesMembers a old t) (sym e) (named a c h.0), h.1)

  pub named-stops : (a : Access) (stop : Stop Fault) → Comes (only_shape passes t at) old (Err stop) new → Comes (names_members passes a t at) old (Err stop) new
  unfolding Comes only_shape names_members
  named-stops a (OwnFault f) h = h
  named-stops a Memory h = tt

-- ---- from 0 on

pub item-from-0 : (i : ℤ) (n : ℕ) → i ≡ pos n → items_at (Some (constant.Int i)) ≡ items_at (Some (constant.Int (pos n)))
item-from-0 i n e = ap (λ (j : ℤ). items_at (Some (constant.Int j))) e
