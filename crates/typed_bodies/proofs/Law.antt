-- The lines of statements.
use Rattle.std.proofs.Common.{List}
use Rattle.std.specs.List.{list_any}
use Rattle.bal_tree.specs.declared.action.Rhs.{Rhs}
use Rattle.calm_needs.specs.Calm.{AllNeedsAreCalm}
use Rattle.check_words.specs.State.{State}
use Rattle.descriptors.specs.declared.names.Names.{Names}
use Rattle.expr_needs.specs.ExprTable.{read_expr}
use Rattle.operations.specs.Kinds.{IsBoolean}
use Rattle.operations.specs.Rows.{Surroundings}
use Rattle.stmt_needs.specs.StmtTable.{StmtReading, is_among, is_any, leaves, otherwise_needs}
use Rattle.tree_promises.specs.Laws.{MadeLoopsAreTyped, MadeStatementsAreTyped}
use Rattle.type_model.specs.Calls.{Asked}
use Rattle.type_model.specs.Inclusion.{HasExactly}
use Rattle.type_model.specs.declared.answers.TypeLimit.{TypeLimit}
use Rattle.type_model.specs.declared.atoms.AtomDef.{AtomDef}
use Rattle.type_model.specs.declared.basic.SemType.{SemType}
use Rattle.typed_bodies.proofs.Acting.{can-act}
use Rattle.typed_bodies.proofs.Blocks.{block, blocked, no-block, one-block}
use Rattle.typed_bodies.proofs.Branches.{branched, repeated}
use Rattle.typed_bodies.proofs.Declaring.{declaration}
use Rattle.typed_bodies.proofs.MemberUpdates.{element-updated, field-updated}
use Rattle.typed_bodies.proofs.Clauses.{clause}
use Rattle.typed_bodies.proofs.Foreach.{counted, walked}
use Rattle.typed_bodies.proofs.MatchLine.{matched}
use Rattle.typed_bodies.proofs.Members.{stored}
use Rattle.typed_bodies.proofs.Names.{assigned, updated}
use Rattle.typed_bodies.proofs.Plain.{broken, continued, evaluated, ignored, nil-returned, panicked, returned}
use Rattle.typed_bodies.proofs.Targets.{elements, fields}
use Rattle.typed_bodies.specs.Claims.{CanAct, StaysIn}
use Rattle.typed_stmts.specs.Assigned.{TakeValues}
use Rattle.typed_tree.specs.Listed.{members}
use Rattle.typed_bodies.specs.Lines.{AllLinesAreTyped, BlockLines, LoopLines, MatchLines, NameLines, PlainLines, UpdateLines}

module _ (made : MadeStatementsAreTyped) (loops : MadeLoopsAreTyped) (passes : List AtomDef → Asked → TypeLimit → Type 0) (calm : AllNeedsAreCalm passes) (names : Names) (env : List AtomDef)
    (place : Surroundings) (actions : List Rhs) where
  abbrev Can : State → Type 0
  Can = CanAct env place actions

  can : (s t : State) → StaysIn s t → Can s → Can t
  can = can-act env place actions

  plain-lines : PlainLines passes names env place Can
  plain-lines =
      record {
        ignored = ignored made passes names env place Can can;
        evaluated = evaluated made passes names env place Can can;
        panicked = panicked made passes names env place Can can;
        returned = returned made passes names env place Can can;
        nil_returned = nil-returned made passes names env place Can can;
        broken = broken made passes names env place Can can;
        continued = continued made passes names env place Can can;
        declared = declaration made passes names env place Can can;
        item_stored = λ a i r there at ka ki kr. stored made passes names env place Can can _ there at r (elements passes names env place Can can a i ka ki) kr;
        field_stored = λ a r field there at ka kr. stored made passes names env place Can can _ there at r (fields passes names env place Can can a field ka) kr;
      }

  block-lines : BlockLines passes names env place Can
  block-lines =
      record {
        block = block made passes names env place Can can;
        blocked = blocked made passes names env place Can can;
        branched = λ c first second at kc ka kb. branched made passes names (calm names) env place Can can c first.needs (otherwise_needs second) at kc ka kb;
        no_else = no-block made passes names env place Can can;
        else_if = one-block made passes names env place Can can;
        repeated = λ c body at kc kb. repeated made passes names (calm names) env place Can can (members body.assigned) (leaves c.literal body.breaks) c body.needs at kc kb;
      }

  update-lines : (truth : SemType) → HasExactly env truth IsBoolean → UpdateLines passes names env place Can
  update-lines truth booleans =
      record {
        items = λ a i r assign there at ka ki kr. element-updated made passes names env place Can can truth booleans loops _ there at r assign (elements passes names env place Can can a i ka ki) kr;
        fields = λ a r field assign there at ka kr. field-updated made passes names env place Can can truth booleans loops a field there at r assign ka kr;
      }

  loop-lines : (truth : SemType) → HasExactly env truth IsBoolean → LoopLines passes names env place Can
  loop-lines truth booleans =
      record {
        walked = λ t name from body at kf kb. walked made loops passes names env place Can can truth booleans t name from (members body.assigned)
            (is_among name.name (members body.assigned)) body.needs at kf kb;
        counted = λ t name from range body at kf kt kb. counted made loops passes names env place Can can truth booleans t name from (read_expr range.end.value) range.op
            (members body.assigned) (is_among name.name (members body.assigned)) body.needs at kf kt kb;
      }

  match-lines : (truth : SemType) → HasExactly env truth IsBoolean → MatchLines passes names env place Can
  match-lines truth booleans =
      record {
        clause = λ ps body at kb. clause made passes names env place Can can ps (list_any is_any ps) body.needs at kb;
        matched = λ e clauses at ke known. matched made passes names env place Can can truth booleans e clauses (list_any (λ (c : StmtReading). c.takes_all) clauses) at ke known;
      }

  name-lines : TakeValues env names place → NameLines passes names env place Can
  name-lines takes =
      record { assigned = assigned made passes names env place Can can takes; updated = updated made passes names env place Can can takes }

pub all-lines-are-typed : MadeStatementsAreTyped → MadeLoopsAreTyped → (passes : List AtomDef → Asked → TypeLimit → Type 0) → AllNeedsAreCalm passes → AllLinesAreTyped passes
all-lines-are-typed made loops passes calm names env place actions =
    record {
      plain = plain-lines made loops passes calm names env place actions;
      blocks = block-lines made loops passes calm names env place actions;
      names_assigned = name-lines made loops passes calm names env place actions;
      matches = match-lines made loops passes calm names env place actions;
      loops = loop-lines made loops passes calm names env place actions;
      updates = update-lines made loops passes calm names env place actions;
    }
