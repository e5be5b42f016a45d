-- What stands behind the words of statements, as what becomes of the state.
use Rattle.std.proofs.Common.{List, None, Some, [], ap, append_assoc, length, map, refl, slice_get, subst, sym, ℕ, ◌++◌, ◌∙◌, ◌∷◌, ◌≡◌, Option}
use Rattle.std.proofs.lemmas.List.{length-map}
use Rattle.std.specs.List.{AllZip}
use Rattle.check_words.specs.Members.{takes_access}
use Rattle.check_words.specs.Sharing.{SameShared, SameUnit}
use Rattle.check_words.specs.State.{AreLast, BlockAtWork, ChoiceAtWork, IsLast, State, UnitAtWork, all_but, replaced}
use Rattle.check_words.specs.Statements.{adds_stmt, closes_block, takes_part, takes_want}
use Rattle.check_words.specs.Words.{takes, wants, by_handles, changes_flow, closes_choice, flow_now, new_slot, sets_flow, sets_unit, wants_no_more, Atoms, wants_some}
use Rattle.check_words.specs.declared.access.Access.{Access}
use Rattle.checks.specs.Checks.{Gives, gives_some, ◌▷◌}
use Rattle.flow_narrowing.specs.declared.flow.Flow.{Flow}
use Rattle.needs.specs.Needs.{does}
use Rattle.operations.specs.Rows.{Surroundings}
use Rattle.type_model.specs.declared.basic.Ty.{Ty}
use Rattle.typed_needs.proofs.Items.{map-more, same-some, want-put}
use Rattle.typed_needs.proofs.Placed.{get-behind, last-same, all-but-last}
use Rattle.typed_needs.specs.Placing.{IsPlaced}
use Rattle.typed_stmts.specs.Adding.{AddsStmt}
use Rattle.typed_tree.specs.SharedTypes.{Shared, sem_of}
use Rattle.typed_tree.specs.declared.expr.TypedExpr.{TypedExpr}
use Rattle.typed_tree.specs.declared.stmt.TypedStmt.{TypedStmt}

-- ---- lists

pub same-sems : (us vs : List Shared) → AllZip SameShared us vs → map sem_of vs ≡ map sem_of us
same-sems [] [] h = refl
same-sems (u ∷ us) (v ∷ vs) h = ap (λ t. t ∷ map sem_of vs) (ap (λ (t : Ty). t.sem) h.0) ∙ ap (λ ts. sem_of u ∷ ts) (same-sems us vs h.1)
same-sems [] (v ∷ vs) h = absurd h
same-sems (u ∷ us) [] h = absurd h

pub last-replaced : {A : Type 0} (xs : List A) (x : A) → IsLast (replaced xs x) x
last-replaced xs x = record { kept = all_but 1 xs; is = refl }

-- ---- parts and wants

pub parts-taken : (count : ℕ) (parts : List TypedExpr) (old new : State) → takes count old (Gives parts) new
    → AreLast old.found count parts × (new ≡ record old { found = all_but count old.found; ways = None })
unfolding ◌▷◌ gives_some does
parts-taken count parts old new (ps, a, (last, e1), (u, b, e2, (is, e3))) = (
  subst (λ xs. AreLast old.found count xs) (sym is) last,
  e3 ∙ e2 ∙ ap (λ (s : State). record s { found = all_but count s.found; ways = None }) e1,
)

pub part-taken : (e : TypedExpr) (old new : State) → takes_part old (Gives e) new
    → IsLast old.found e × (new ≡ record old { found = all_but 1 old.found; ways = None })
unfolding ◌▷◌ gives_some
part-taken e old new (f, a, (last, e1), (ps, b, taken, (is, e2))) =
    let (lasts, e3) = parts-taken 1 ps a b taken in (
      subst (λ x. IsLast old.found x) (sym is) last,
      e2 ∙ e3 ∙ ap (λ (s : State). record s { found = all_but 1 s.found; ways = None }) e1,
    )

pub wants-dropped : (count : ℕ) (u : Unit {0}) (old new : State) → wants_no_more count old (Gives u) new → new ≡ record old { wants = all_but count old.wants }
unfolding does
wants-dropped count u old new e = e

pub want-taken : (t : Shared) (old new : State) → takes_want old (Gives t) new
    → IsLast old.wants (Some t) × (new ≡ record old { wants = all_but 1 old.wants })
unfolding ◌▷◌ gives_some
want-taken t old new (f, a, (last, e1), (u, b, dropped, (is, e2))) = (
  subst (λ (x : Shared). IsLast old.wants (Some x)) (sym is) last,
  e2 ∙ wants-dropped 1 u a b dropped ∙ ap (λ (s : State). record s { wants = all_but 1 s.wants }) e1,
)

pub want-put-some : (t : Shared) (u : Unit {0}) (old new : State) → wants (Some t) old (Gives u) new
    → (w : Shared) × (new ≡ record old { wants = old.wants ++ Some w ∷ [] }) × (w.value ≡ t.value)
want-put-some t u old new met =
    let (x, same, e) = want-put (Some t) u old new met in
    let (w, is, value) = same-some (Some t) x t same refl in
    (w, e ∙ ap (λ (y : Option Shared). record old { wants = old.wants ++ y ∷ [] }) is, value)

-- a type of which this holds is wanted
pub want-some-put : (P : Atoms → Ty → Type 0) (u : Unit {0}) (old new : State) → wants_some P old (Gives u) new
    → (w : Shared) × (new ≡ record old { wants = old.wants ++ Some w ∷ [] }) × P old.atoms w.value
unfolding ◌▷◌ gives_some
want-some-put P u old new (t, a, (holds, e1), put) =
    let (w, e2, value) = want-put-some t u a new put in
    (w, e2 ∙ ap (λ (s : State). record s { wants = s.wants ++ Some w ∷ [] }) e1, subst (λ (y : Ty). P old.atoms y) (sym value) holds)

-- ---- what members are taken of

pub access-taken : (a : Access) (old new : State) → takes_access old (Gives a) new → IsLast old.accesses a × (new ≡ record old { accesses = all_but 1 old.accesses })
unfolding ◌▷◌ gives_some does
access-taken a old new (b, s, (last, e1), (u, t, e2, (is, e3))) =
    (subst (λ (x : Access). IsLast old.accesses x) (sym is) last, e3 ∙ e2 ∙ ap (λ (x : State). record x { accesses = all_but 1 x.accesses }) e1)

-- ---- the unit at hand

pub record UnitSet (old new : State) (next : UnitAtWork → UnitAtWork) (change : State → List UnitAtWork → State) : Type 0 where
  pub was : UnitAtWork
  pub now : UnitAtWork
  pub before : IsLast old.units was
  pub same : SameUnit (next was) now
  pub all : new ≡ change old (replaced old.units now)

abbrev pub with_units : State → List UnitAtWork → State
with_units s us = record s { units = us }

abbrev pub with_flows : State → List UnitAtWork → State
with_flows s us = record s { units = us; ways = None }

unit-put : (w : UnitAtWork) (u : Unit {0}) (old new : State) → sets_unit w old (Gives u) new → (v : UnitAtWork) × SameUnit w v × (new ≡ record old { units = replaced old.units v })
unfolding ◌▷◌ by_handles does
unit-put w u old new (v, a, (same, e1), e2) = (v, same, e2 ∙ ap (λ (s : State). record s { units = replaced s.units v }) e1)

pub flow-set : (f : Flow) (u : Unit {0}) (old new : State) → sets_flow f old (Gives u) new → UnitSet old new (λ w. record w { flow = f }) with_flows
unfolding ◌▷◌ gives_some does
flow-set f u old new (x, b, (w, a, (last, e1), set), e2) =
    let (v, same, e3) = unit-put (record w { flow = f }) x a b set in
    record {
      was = w;
      now = v;
      before = last;
      same = same;
      all = e2 ∙ ap (λ (s : State). record s { ways = None }) (e3 ∙ ap (λ (s : State). record s { units = replaced s.units v }) e1);
    }

pub flow-seen : (f : Flow) (old new : State) → flow_now old (Gives f) new → (w : UnitAtWork) × IsLast old.units w × (f ≡ w.flow) × (new ≡ old)
unfolding ◌▷◌ gives_some
flow-seen f old new (w, a, (last, e1), (is, e2)) = (w, last, is, e2 ∙ e1)

pub flow-changed : (change : Flow → Flow) (u : Unit {0}) (old new : State) → changes_flow change old (Gives u) new
    → UnitSet old new (λ w. record w { flow = change w.flow }) with_flows
unfolding ◌▷◌
flow-changed change u old new (f, a, seen, set) =
    let (w, last, is, e) = flow-seen f old a seen in
    let s = flow-set (change f) u old new (subst (λ (x : State). sets_flow (change f) x (Gives u) new) e set) in
    let one : s.was ≡ w = last-same old.units s.was w s.before last in
    record {
      was = s.was;
      now = s.now;
      before = s.before;
      same = subst (λ (g : Flow). SameUnit (record s.was { flow = change g }) s.now) (is ∙ ap (λ (x : UnitAtWork). x.flow) (sym one)) s.same;
      all = s.all;
    }

pub slot-put : (t : Shared) (own : ℕ) (old new : State) → new_slot t old (Gives own) new
    → (s : UnitSet old new (λ w. record w { slots = w.slots ++ t ∷ [] }) with_units) × (own ≡ length s.was.slots)
unfolding ◌▷◌ gives_some
slot-put t own old new (w, a, (last, e1), (u, b, set, (is, e2))) =
    let (v, same, e3) = unit-put _ u a b set in (
      record { was = w; now = v; before = last; same = same; all = e2 ∙ e3 ∙ ap (λ (s : State). record s { units = replaced s.units v }) e1 },
      is,
    )

-- ---- blocks and choices

pub record StmtPut (P : TypedStmt → Type 0) (old new : State) : Type 0 where
  pub block : BlockAtWork
  pub stmt : TypedStmt
  pub at_hand : IsLast old.blocks block
  pub holds : P stmt
  pub all : new ≡ record old { blocks = replaced old.blocks (record block { stmts = block.stmts ++ stmt ∷ [] }) }

pub stmt-put : (P : TypedStmt → Type 0) (u : Unit {0}) (old new : State) → adds_stmt P old (Gives u) new → StmtPut P old new
unfolding ◌▷◌ gives_some does
stmt-put P u old new (b, a, (last, e1), (stmt, c, (holds, e2), e3)) =
    record {
      block = b;
      stmt = stmt;
      at_hand = last;
      holds = holds;
      all = e3 ∙ ap (λ (s : State). record s { blocks = replaced s.blocks (record b { stmts = b.stmts ++ stmt ∷ [] }) }) (e2 ∙ e1);
    }

pub block-closed : (b : BlockAtWork) (old new : State) → closes_block old (Gives b) new → IsLast old.blocks b × (new ≡ record old { blocks = all_but 1 old.blocks })
unfolding ◌▷◌ gives_some does
block-closed b old new (x, a, (last, e1), (u, c, e2, (is, e3))) = (
  subst (λ y. IsLast old.blocks y) (sym is) last,
  e3 ∙ e2 ∙ ap (λ (s : State). record s { blocks = all_but 1 s.blocks }) e1,
)

pub choice-closed : (c : ChoiceAtWork) (old new : State) → closes_choice old (Gives c) new → IsLast old.choices c × (new ≡ record old { choices = all_but 1 old.choices })
unfolding ◌▷◌ gives_some does
choice-closed c old new (x, a, (last, e1), (u, b, e2, (is, e3))) = (
  subst (λ y. IsLast old.choices y) (sym is) last,
  e3 ∙ e2 ∙ ap (λ (s : State). record s { choices = all_but 1 s.choices }) e1,
)

-- ---- a statement more

-- from a state with the same blocks
pub put-from : (P : TypedStmt → Type 0) (old mid new : State) → mid.blocks ≡ old.blocks → StmtPut P mid new → AddsStmt P [] old new
put-from P old mid new same put =
    let at : IsLast old.blocks put.block = subst (λ bs. IsLast bs put.block) same put.at_hand in
    record {
      around = at.kept;
      block = put.block;
      stmt = put.stmt;
      was = at.is;
      now = ap (λ (s : State). s.blocks) put.all
          ∙ ap (λ bs. all_but 1 bs ++ record put.block { stmts = put.block.stmts ++ put.stmt ∷ [] } ∷ []) (same ∙ at.is)
          ∙ ap (λ bs. bs ++ record put.block { stmts = put.block.stmts ++ put.stmt ∷ [] } ∷ []) (all-but-last at.kept put.block);
      holds = put.holds;
    }

-- behind a block that is gone
pub put-behind : (P : TypedStmt → Type 0) (waiting : List BlockAtWork) (b : BlockAtWork) (old mid new : State) → IsLast old.blocks b → mid.blocks ≡ all_but 1 old.blocks
    → AddsStmt P waiting mid new → AddsStmt P (waiting ++ b ∷ []) old new
put-behind P waiting b old mid new last gone put =
    let kept : last.kept ≡ mid.blocks = sym (gone ∙ ap (all_but 1) last.is ∙ all-but-last last.kept b) in
    record {
      around = put.around;
      block = put.block;
      stmt = put.stmt;
      was = last.is ∙ ap (λ bs. bs ++ b ∷ []) (kept ∙ put.was) ∙ append_assoc put.around (put.block ∷ waiting) (b ∷ []);
      now = put.now;
      holds = put.holds;
    }

pub put-weaker : (P Q : TypedStmt → Type 0) (waiting : List BlockAtWork) (old new : State) → ((s : TypedStmt) → P s → Q s) → AddsStmt P waiting old new → AddsStmt Q waiting old new
put-weaker P Q waiting old new f put =
    record { around = put.around; block = put.block; stmt = put.stmt; was = put.was; now = put.now; holds = f put.stmt put.holds }

-- and what comes before does
pub put-before : (P : TypedStmt → Type 0) (waiting : List BlockAtWork) (old mid new : State) → mid.blocks ≡ old.blocks → AddsStmt P waiting mid new → AddsStmt P waiting old new
put-before P waiting old mid new same put =
    record { around = put.around; block = put.block; stmt = put.stmt; was = sym same ∙ put.was; now = put.now; holds = put.holds }

-- the blocks that are gone were the last ones
pub waiting-last : (P : TypedStmt → Type 0) (waiting : List BlockAtWork) (count : ℕ) (old new : State) → length waiting ≡ count → AddsStmt P waiting old new → AreLast old.blocks count waiting
waiting-last P waiting count old new many put =
    record { kept = put.around ++ put.block ∷ []; is = put.was ∙ sym (append_assoc put.around (put.block ∷ []) waiting); many = many }

-- what follows leaves the blocks
pub put-then : (P : TypedStmt → Type 0) (waiting : List BlockAtWork) (old mid new : State) → AddsStmt P waiting old mid → new.blocks ≡ mid.blocks → AddsStmt P waiting old new
put-then P waiting old mid new put same =
    record { around = put.around; block = put.block; stmt = put.stmt; was = put.was; now = same ∙ put.now; holds = put.holds }

-- ---- the place

module _ (place : Surroundings) where
  pub placed-beside : (old new : State) → new.units ≡ old.units → IsPlaced place new → IsPlaced place old
  placed-beside old new same placed =
      record { unit = placed.unit; at_hand = subst (λ us. IsLast us placed.unit) same placed.at_hand; later = placed.later; slots = placed.slots; result = placed.result }

  -- the unit that was set is at hand
  hand-set : (us : List UnitAtWork) (v : UnitAtWork) (new : State) → new.units ≡ replaced us v → (placed : IsPlaced place new) → placed.unit ≡ v
  hand-set us v new same placed =
      last-same new.units placed.unit v placed.at_hand (subst (λ xs. IsLast xs v) (sym same) (last-replaced us v))

  pub placed-flow : (f : UnitAtWork → Flow) (change : State → List UnitAtWork → State) (old new : State) → (s : UnitSet old new (λ w. record w { flow = f w }) change)
      → new.units ≡ replaced old.units s.now → IsPlaced place new → IsPlaced place old
  placed-flow f change old new s same placed =
      let one = hand-set old.units s.now new same placed in
      record {
        unit = s.was;
        at_hand = s.before;
        later = placed.later;
        slots = placed.slots ∙ ap (λ (u : UnitAtWork). map sem_of u.slots ++ placed.later) one ∙ ap (λ ts. ts ++ placed.later) (same-sems s.was.slots s.now.slots s.same.slots);
        result = placed.result ∙ ap (λ (u : UnitAtWork). sem_of u.result) one ∙ ap (λ (t : Ty). t.sem) s.same.result;
      }

  -- a slot more: the place has it, and all before it
  pub placed-more : (t : Shared) (own : ℕ) (old new : State) → (s : UnitSet old new (λ w. record w { slots = w.slots ++ t ∷ [] }) with_units) → own ≡ length s.was.slots
      → IsPlaced place new → IsPlaced place old × (slice_get place.slots own ≡ Some (sem_of t))
  placed-more t own old new s is placed =
      let one = hand-set old.units s.now new (ap (λ (x : State). x.units) s.all) placed in
      let slots : place.slots ≡ map sem_of s.was.slots ++ sem_of t ∷ placed.later =
      placed.slots ∙ ap (λ (u : UnitAtWork). map sem_of u.slots ++ placed.later) one
      ∙ ap (λ ts. ts ++ placed.later) (same-sems (s.was.slots ++ t ∷ []) s.now.slots s.same.slots ∙ map-more sem_of s.was.slots t)
      ∙ append_assoc (map sem_of s.was.slots) (sem_of t ∷ []) placed.later in (
        record {
          unit = s.was;
          at_hand = s.before;
          later = sem_of t ∷ placed.later;
          slots = slots;
          result = placed.result ∙ ap (λ (u : UnitAtWork). sem_of u.result) one ∙ ap (λ (t : Ty). t.sem) s.same.result;
        },
        subst (λ n. slice_get place.slots n ≡ Some (sem_of t)) (length-map s.was.slots sem_of ∙ sym is)
            (subst (λ xs. slice_get xs (length (map sem_of s.was.slots)) ≡ Some (sem_of t)) (sym slots) (get-behind (map sem_of s.was.slots) (sem_of t) placed.later)),
      )
