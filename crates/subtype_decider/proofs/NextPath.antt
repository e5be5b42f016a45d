-- What is said of the next path of a question, and so of the question.
use Rattle.std.proofs.Common.{◌≡◌, ℕ, ◌<◌, List, Option, Result, Ok, Err, IfOk, Any, get_or, length, refl, sym, subst}
use Rattle.std.proofs.lemmas.List.Elements.{All-contains}
use Rattle.bal_base.specs.declared.shape.Shape.{Shape}
use Rattle.bal_base.specs.declared.stop.Stop.{Stop}
use Rattle.bal_base.specs.declared.stop.Stop.TheVariants.{Memory, Fault}
use Rattle.bal_base.specs.Stops.{IfFault}
use Rattle.type_model.specs.declared.atoms.AtomDef.{AtomDef}
use Rattle.type_model.specs.declared.answers.TypeLimit.{TypeLimit}
use Rattle.type_model.specs.declared.answers.TypeLimit.TheVariants.{Arrows}
use Rattle.type_diagrams.specs.declared.turn.Turn.{Turn}
use Rattle.type_diagrams.specs.declared.turn.Turn.TheVariants.{Shape as Found, Empty, Ask}
use Rattle.type_diagrams.specs.Tables.{Table as Diagrams, condition}
use Rattle.type_diagrams.specs.Paths.{IsOnPath, paths_of}
use Rattle.type_diagrams.specs.Turns.{HasLiteralsOf, IsReady, Turns}
use Rattle.type_diagrams.specs.Questions.{IsPathOf}
use Rattle.type_diagrams.proofs.PathLiterals.{HasPaths-HasLiteralsOf}
use Rattle.subtype_decider.specs.declared.way.Way.{Way}
use Rattle.subtype_decider.specs.declared.held.Held.{Held}
use Rattle.subtype_decider.specs.Leads.{WantsTooMany}
use Rattle.subtype_decider.specs.Working.{CanJudge, HasTooMany, IsJudged, NextSays}
use Rattle.subtype_decider.proofs.Grown.{IsHeld-next}

module _ (env : List AtomDef) (diagrams : Diagrams) (kept : List (ℕ × Option Shape)) (h : Held) (w : Way)
    (can : CanJudge env diagrams kept h) (some : h.next < length h.ways.items) (at : w ≡ get_or h.ways.items h.next w) where
  way-IsPathOf : IsPathOf (condition diagrams h.question) w.kind w.path
  way-IsPathOf = subst (λ (v : Way). IsPathOf (condition diagrams h.question) v.kind v.path) (sym at) (can.held.ways.each h.next w some)

  pub way-IsReady : IsReady env diagrams kept w.kind w.path
  way-IsReady =
      let p = way-IsPathOf in
      let all = HasPaths-HasLiteralsOf env (condition diagrams h.question) w.kind (paths_of p.0) can.looks (p.0, p.1, refl) in
      record { literals = All-contains (HasLiteralsOf env w.kind) (paths_of p.0) w.path all p.2; defined = can.defined; sound = can.sound }

  turn-NextSays : (t : Turn) → Turns env diagrams kept w.kind w.path t → NextSays env diagrams kept h t
  turn-NextSays Empty s = IsHeld-next env diagrams kept h w can.held some (subst (IsJudged env diagrams kept) at s)
  turn-NextSays (Found x) s =
      let P : Way → Type 0 = λ v. (v.kind ≡ w.kind) × IsOnPath env w.kind v.path x in
      let any : Any P h.ways.items = (h.next, w, some, sym at, (refl, s.1)) in
      (s.0, (can.held.ways.all env w.kind x s.1.kind).1 any)
  turn-NextSays (Ask question) s = (s.0, s.1, (w.kind, w.path, way-IsPathOf, s.2))

  pub result-NextSays : {E : Type 0} (r : Result Turn E) → IfOk r (Turns env diagrams kept w.kind w.path) → IfOk r (NextSays env diagrams kept h)
  result-NextSays (Ok t) s = turn-NextSays t s
  result-NextSays (Err e) s = s

  pub result-HasTooMany : {T : Type 0} (r : Result T (Stop TypeLimit)) → IfFault r (λ limit. (limit ≡ Arrows) × WantsTooMany w.kind w.path) → IfFault r (HasTooMany (condition diagrams h.question))
  result-HasTooMany (Ok t) s = s
  result-HasTooMany (Err Memory) s = s
  result-HasTooMany (Err (Fault limit)) s = (s.0, w.kind, w.path, way-IsPathOf, s.1)
