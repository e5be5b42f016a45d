-- A search as a run over what is marked in a tree.
use Rattle.std.specs.Prelude.{◌≡◌, ◌==◌, ◌+◌, ◌-◌, ◌&&◌, ℕ, Bool, List, [], ◌∷◌, Option, Some, None, if◌then◌else◌, min, option_map}
use Rattle.typed_tree.specs.Listed.{Listed, run}
use Rattle.worker_pairing.specs.Marks.{Mark, Says, Early, Returns}
use Rattle.event_search.specs.declared.search.Search.{Search}
use Rattle.event_search.specs.declared.search.Which.{Which}
use Rattle.event_search.specs.Search.{Occurrence, is_in, most, occurrence_held}

-- how many of the first kind of events are still to be passed, how many of the second were, and what was found
pub record Sought : Type 0 where
  pub counted : Which
  pub tallied : Which
  pub left : ℕ
  pub tally : ℕ
  pub found : Option Occurrence

abbrev pub sought : Search → Sought
sought s = record { counted = s.counted; tallied = s.tallied; left = s.left; tally = s.tally; found = option_map occurrence_held s.found }

abbrev pub one_if : Bool → ℕ
one_if b = if b then 1 else 0

abbrev pub start : Which → Which → ℕ → ℕ → Sought
start counted tallied left tally = record { counted = counted; tallied = tallied; left = left; tally = tally; found = None }

abbrev pub find : Occurrence → Sought → Sought
find e s = record { counted = s.counted; tallied = s.tallied; left = s.left; tally = s.tally; found = Some e }

abbrev pub pass : Occurrence → Sought → Sought
pass e s =
    record {
      counted = s.counted;
      tallied = s.tallied;
      left = s.left - one_if (is_in s.counted e.kind);
      tally = min (s.tally + one_if (is_in s.tallied e.kind)) most;
      found = None;
    }

-- one event more, where this was found
abbrev pub note_behind : Option Occurrence → Occurrence → Sought → Sought
note_behind (Some x) e s = s
note_behind None e s = if is_in s.counted e.kind && (s.left == 0) then find e s else pass e s

abbrev pub note : Occurrence → Sought → Sought
note e s = note_behind s.found e s

-- events one behind another
abbrev pub notes : List Occurrence → Sought → Sought
notes [] s = s
notes (e ∷ es) s = notes es (note e s)

-- one mark more, in the initial part or behind it
abbrev pub hear : Bool → Mark → Sought → Sought
hear first (Says kind at inner type) s = note (record { kind = kind; at = at; initial = first }) s
hear first Early s = s
hear first (Returns type at) s = s

-- the search went over these marks
unfoldable pub Goes : Bool → Listed Mark → Search → Search → Type 0
Goes first l old new = sought new ≡ run (hear first) l (sought old)
