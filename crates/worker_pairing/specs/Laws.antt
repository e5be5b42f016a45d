-- The laws of pairs and plans.
use Rattle.std.specs.Prelude.{◌≡◌, List, Contains, false}
use Rattle.bal_base.specs.declared.place.Place.{Place}
use Rattle.type_model.specs.declared.answers.TypeLimit.{TypeLimit}
use Rattle.type_model.specs.declared.atoms.AtomDef.{AtomDef}
use Rattle.type_model.specs.Calls.{Asked}
use Rattle.typed_tree.specs.declared.event.Plan.{Plan}
use Rattle.checks.specs.Checks.{Gives}
use Rattle.worker_pairing.specs.Events.{ArePaired, IsNumbering}
use Rattle.worker_pairing.specs.Faults.{crew_of, has_no_peer, is_unpaired, plans, rank_in}
use Rattle.worker_pairing.specs.Marks.{Members, Numbered, in_text}

-- each event has its peer, and none is left over
pub record AllPaired (ms : Members) : Type 0 where
  pub peers : (e : Numbered) → Contains (in_text ms) e → has_no_peer ms e ≡ false
  pub paired : (e : Numbered) → Contains (in_text ms) e → is_unpaired ms e ≡ false

-- then each message that is sent is received
abbrev pub PairsUp : Type 0
PairsUp = (ms : Members) → AllPaired ms → ArePaired (crew_of ms)

-- where there is a plan messages pair up, and its ranks are a numbering
abbrev pub PlansPairUp : (List AtomDef → Asked → TypeLimit → Type 0) → Type 0
PlansPairUp passes =
    (at : Place) (ms : Members) (old new : List AtomDef) (p : Plan) → plans passes at ms old (Gives p) new →
    ArePaired (crew_of ms) × IsNumbering (crew_of ms) (rank_in ms p.ranks)
