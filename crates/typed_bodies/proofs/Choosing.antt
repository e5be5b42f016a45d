-- Ways that statements enter, leave and go on from: what stays, and that variables that are seen there stay in slots of their declared types.
use Rattle.std.proofs.Common.{Bool, List, [], ap, length, not, refl, subst, sym, ◌++◌, ◌∙◌, ◌∷◌, ◌≡◌}
use Rattle.bal_base.specs.declared.place.Place.{Place}
use Rattle.calm_needs.proofs.Calming.{on-beside, on-on}
use Rattle.calm_needs.proofs.Ways.{choice-by-handles, choice-opened, flow-known, joined-stored, ways-seen}
use Rattle.calm_needs.proofs.Flows.{join-of, of-handles}
use Rattle.calm_needs.specs.Calm.{ChoiceIsStored, HandSees, IsFlowOf, IsStoredAt}
use Rattle.check_words.specs.Branches.{behind, makes_if, makes_while, opens_loop}
use Rattle.check_words.specs.State.{BlockAtWork, ChoiceAtWork, IsLast, State, all_but}
use Rattle.check_words.specs.Statements.{adds_stmt, begins_block, closes_block, takes_part}
use Rattle.check_words.specs.StmtViews.{IsIf, IsWhile}
use Rattle.check_words.specs.Values.{splits, switches, way_of}
use Rattle.check_words.specs.Words.{Step}
use Rattle.checks.specs.Checks.{Gives, gives_some, ◌▷◌}
use Rattle.flow_narrowing.specs.declared.flow.Flow.{Flow}
use Rattle.flow_narrowing.specs.declared.flow.Variable.{Variable}
use Rattle.needs.specs.Needs.{does}
use Rattle.operations.specs.Rows.{Surroundings}
use Rattle.typed_bodies.proofs.Aside.{Stays, flow-stays, set-sees}
use Rattle.typed_bodies.proofs.Onward.{IsMoved, Moved, Onward, moved-adds, moved-closes-block, moved-closes-choice, moved-flow-now, moved-some, moved-sets-flow, moved-takes-part, moved-then, onward-adds, onward-closes-block, onward-takes-part, onward-then}
use Rattle.typed_needs.proofs.Placed.{last-same}
use Rattle.typed_needs.specs.Between.{FlowIsStored}
use Rattle.typed_needs.specs.Placing.{AreStored}
use Rattle.typed_stmts.proofs.Keeping.{set-stored}
use Rattle.typed_stmts.proofs.Words.{choice-closed, flow-seen, flow-set}

-- ---- choices that are opened and changed

-- a choice more; `kept`: what stood before it
pub record Opened (kept : List ChoiceAtWork) (old new : State) : Type 0 where
  pub moved : IsMoved old new
  pub found : new.found ≡ old.found
  pub blocks : new.blocks ≡ old.blocks
  pub matches : new.matches ≡ old.matches
  pub choice : ChoiceAtWork
  pub choices : new.choices ≡ kept ++ choice ∷ []

-- behind a change of what is open the flow at hand is set
opened-by : (kept : List ChoiceAtWork) (d : ChoiceAtWork) (f : Flow) (old mid new : State) → mid ≡ record old { choices = kept ++ d ∷ [] } → Stays mid new → Opened kept old new
opened-by kept d f old mid new is stays =
    record {
      moved = record {
        on = on-on old mid new (on-beside old mid (ap (λ (s : State). s.atoms) is) (ap (λ (s : State). s.units) is)) stays.on;
        site = stays.site ∙ ap (λ (s : State). s.site) is;
      };
      found = stays.found ∙ ap (λ (s : State). s.found) is;
      blocks = stays.blocks ∙ ap (λ (s : State). s.blocks) is;
      matches = stays.matches ∙ ap (λ (s : State). s.matches) is;
      choice = d;
      choices = stays.choices ∙ ap (λ (s : State). s.choices) is;
    }

pub split-opened : (way : Bool) (old new : State) → splits way old (Gives tt) new → Opened old.choices old new
unfolding ◌▷◌
split-opened way old new (f, a, x1, (w, b, x2, (u, c, x3, x4))) =
    let (unit, hand, is, e1) = flow-seen f old a x1 in
    let e2 : b ≡ a = ways-seen w a b x2 in
    let (d, same, e3) = choice-opened (record { before = f; other = way_of (not way) w; first = f }) u b c x3 in
    opened-by old.choices d (way_of way w) old c new (e3 ∙ ap (λ (s : State). record s { choices = s.choices ++ d ∷ [] }) (e2 ∙ e1))
    (flow-stays (λ v. way_of way w) c new (flow-set (way_of way w) tt c new x4))

pub switch-opened : (old new : State) → switches old (Gives tt) new → Opened (all_but 1 old.choices) old new
unfolding ◌▷◌
switch-opened old new (f, a, x1, (d, b, x2, (u, m, x3, x4))) =
    let (unit, hand, is, e1) = flow-seen f old a x1 in
    let (last, e2) = choice-closed d a b x2 in
    let (e, same, e3) = choice-opened (record d { first = f }) u b m x3 in
    opened-by (all_but 1 old.choices) e d.other old m new
    (e3 ∙ ap (λ (s : State). record s { choices = s.choices ++ e ∷ [] }) (e2 ∙ ap (λ (s : State). record s { choices = all_but 1 s.choices }) e1))
    (flow-stays (λ v. d.other) m new (flow-set d.other tt m new x4))

-- a loop remembers the flow at its head
pub record LoopOpens (old new : State) : Type 0 where
  pub choice : ChoiceAtWork
  pub all : new ≡ record old { choices = old.choices ++ choice ∷ [] }
  pub stored : (place : Surroundings) → AreStored place old → ChoiceIsStored place choice
  pub before : (vs : List Variable) → HandSees vs old → IsFlowOf vs choice.before

pub loop-opens : (old new : State) → opens_loop old (Gives tt) new → LoopOpens old new
unfolding ◌▷◌
loop-opens old new (f, a, x1, x2) =
    let (unit, hand, is, e1) = flow-seen f old a x1 in
    let (d, same, e2) = choice-opened (record { before = f; other = f; first = f }) tt a new x2 in
    record {
      choice = d;
      all = e2 ∙ ap (λ (s : State). record s { choices = s.choices ++ d ∷ [] }) e1;
      stored = λ place h.
          let known = (flow-known place f old a x1 h).0 in
          choice-by-handles place (record { before = f; other = f; first = f }) d same (record { before = known; other = known; first = known });
      before = λ vs h. of-handles vs f d.before same.before (subst (λ (g : Flow). IsFlowOf vs g) (sym is) (h unit hand));
    }

-- ---- blocks that begin

pub record Begun (old new : State) : Type 0 where
  pub block : BlockAtWork
  pub empty : block.stmts ≡ []
  pub all : new ≡ record old { blocks = old.blocks ++ block ∷ [] }

pub block-begun : (old new : State) → begins_block old (Gives tt) new → Begun old new
unfolding ◌▷◌ does
block-begun old new (f, a, seen, e) =
    let (w, last, is, same) = flow-seen f old a seen in
    let b : BlockAtWork = record { stmts = []; scope = length f.variables } in
    record { block = b; empty = refl; all = e ∙ ap (λ (s : State). record s { blocks = s.blocks ++ b ∷ [] }) same }

-- ---- what is made of blocks

abbrev if_end : Place → Step
if_end at = closes_block ▷ λ second. closes_block ▷ λ first. takes_part ▷ λ condition. adds_stmt (IsIf condition first.stmts second.stmts at)

if-end : (at : Place) → Onward (if_end at)
if-end at = onward-then _ _ onward-closes-block (λ second. onward-then _ _ onward-closes-block (λ first. onward-then _ _ onward-takes-part (λ e. onward-adds _)))

abbrev while_end : Place → Step
while_end at = closes_block ▷ λ body. takes_part ▷ λ condition. adds_stmt (IsWhile condition body.stmts at)

while-end : (at : Place) → Onward (while_end at)
while-end at = onward-then _ _ onward-closes-block (λ body. onward-then _ _ onward-takes-part (λ e. onward-adds _))

pub moved-makes-if : (at : Place) → Moved (makes_if at)
moved-makes-if at =
    moved-then _ _ moved-flow-now (λ f. moved-then _ _ moved-closes-choice (λ c. moved-then _ _ (moved-some _) (λ g. moved-then _ _ (moved-sets-flow g) (λ u.
    moved-then _ _ moved-closes-block (λ second. moved-then _ _ moved-closes-block (λ first. moved-then _ _ moved-takes-part (λ e. moved-adds _)))))))

pub moved-makes-while : (leaves : Bool) (at : Place) → Moved (makes_while leaves at)
moved-makes-while leaves at =
    moved-then _ _ moved-closes-choice (λ c. moved-then _ _ (moved-sets-flow _) (λ u. moved-then _ _ moved-closes-block (λ body. moved-then _ _ moved-takes-part (λ e. moved-adds _))))

module _ (place : Surroundings) where
  pub if-stored : (at : Place) (old new : State) (c : ChoiceAtWork) → makes_if at old (Gives tt) new → IsStoredAt place old → IsLast old.choices c → ChoiceIsStored place c
      → IsStoredAt place new
  unfolding ◌▷◌ gives_some
  if-stored at old new c (f, s1, seen, (d, s2, closed, (g, s3, (join, e3), (u, s4, flowed, rest)))) h last known =
      let (flow, e1) = flow-known place f old s1 seen h.stored in
      let (l, e2) = choice-closed d s1 s2 closed in
      let one : d ≡ c = last-same old.choices d c (subst (λ (s : State). IsLast s.choices d) e1 l) last in
      let first : FlowIsStored place d.first = subst (λ (x : ChoiceAtWork). FlowIsStored place x.first) (sym one) known.first in
      let at-4 = set-stored place g u s3 s4 flowed (joined-stored place s2.atoms d.first f g join first) in
      (if-end at s4 new tt rest).stored place at-4

  pub while-stored : (leaves : Bool) (at : Place) (old new : State) (c : ChoiceAtWork) → makes_while leaves at old (Gives tt) new → IsLast old.choices c → ChoiceIsStored place c
      → IsStoredAt place new
  unfolding ◌▷◌
  while-stored leaves at old new c (d, s2, closed, (u, s4, flowed, rest)) last known =
      let (l, e2) = choice-closed d old s2 closed in
      let one : d ≡ c = last-same old.choices d c l last in
      let before : FlowIsStored place d.before = subst (λ (x : ChoiceAtWork). FlowIsStored place x.before) (sym one) known.before in
      let at-4 = set-stored place (behind leaves d.before) u s2 s4 flowed before in
      (while-end at s4 new tt rest).stored place at-4

-- the same variables are seen behind both ways, and behind a loop
pub if-sees : (vs : List Variable) (at : Place) (old new : State) (c : ChoiceAtWork) → makes_if at old (Gives tt) new → IsLast old.choices c → IsFlowOf vs c.first → HandSees vs new
unfolding ◌▷◌ gives_some
if-sees vs at old new c (f, s1, seen, (d, s2, closed, (g, s3, (join, e3), (u, s4, flowed, rest)))) last first =
    let (unit, hand, is, e1) = flow-seen f old s1 seen in
    let (l, e2) = choice-closed d s1 s2 closed in
    let one : d ≡ c = last-same old.choices d c (subst (λ (s : State). IsLast s.choices d) e1 l) last in
    let here : IsFlowOf vs d.first = subst (λ (x : ChoiceAtWork). IsFlowOf vs x.first) (sym one) first in
    (if-end at s4 new tt rest).sees vs (set-sees vs g s3 s4 (flow-set g u s3 s4 flowed) (join-of vs s2.atoms d.first f g join here))

pub while-sees : (vs : List Variable) (leaves : Bool) (at : Place) (old new : State) (c : ChoiceAtWork) → makes_while leaves at old (Gives tt) new → IsLast old.choices c
    → IsFlowOf vs c.before → HandSees vs new
unfolding ◌▷◌
while-sees vs leaves at old new c (d, s2, closed, (u, s4, flowed, rest)) last before =
    let (l, e2) = choice-closed d old s2 closed in
    let one : d ≡ c = last-same old.choices d c l last in
    let here : IsFlowOf vs (behind leaves d.before) = subst (λ (x : ChoiceAtWork). IsFlowOf vs x.before) (sym one) before in
    (while-end at s4 new tt rest).sees vs (set-sees vs (behind leaves d.before) s2 s4 (flow-set (behind leaves d.before) u s2 s4 flowed) here)
