-- What is heard of a worker, as a run over what is marked in its tree.
use Rattle.std.specs.Prelude.{◌≡◌, ◌&&◌, ◌||◌, ℕ, Bool, true, false, List, [], ◌∷◌, map}
use Rattle.bal_base.specs.declared.place.Place.{Place}
use Rattle.typed_tree.specs.declared.event.EventKind.TheVariants.{End}
use Rattle.typed_tree.specs.Listed.{Listed, run}
use Rattle.typed_tree.specs.SharedTypes.{Shared, sem_of}
use Rattle.worker_pairing.specs.Events.{is_message}
use Rattle.worker_pairing.specs.Marks.{Mark, Says, Early, Returns, SoFar, nil_type, with_mark}
use Rattle.worker_members.specs.declared.hearing.Heard.{Heard}
use Rattle.worker_members.specs.declared.hearing.Spot.{Spot}
use Rattle.worker_members.specs.declared.held.HeldMember.{HeldMember}
use Rattle.worker_members.specs.Held.{member_held, returning_held, saying_held}

abbrev pub so_far : Heard → SoFar
so_far h = record { sayings = map saying_held h.sayings.items; returns = map returning_held h.returns.items; early = h.early }

-- a mark of a part that stands there
abbrev pub placed : Spot → Mark → Mark
placed spot (Says kind at inner type) = Says kind at (spot.aside || ((spot.trapped && is_message kind) || inner)) type
placed spot Early = Early
placed spot (Returns type at) = Returns type at

abbrev pub hear : Spot → Mark → SoFar → SoFar
hear spot mark r = with_mark spot.initial (placed spot mark) r

abbrev pub set_aside : Spot → Spot
set_aside spot = record { initial = spot.initial; aside = true; trapped = spot.trapped }

abbrev pub under_trap : Spot → Spot
under_trap spot = record { initial = spot.initial; aside = spot.aside; trapped = true }

-- Where there was memory for all, so much more was heard.
unfoldable pub Grows : Spot → Listed Mark → Heard → Heard → Type 0
Grows spot l old new = new.full ≡ false → (old.full ≡ false) × (so_far new ≡ run (hear spot) l (so_far old))

abbrev pub is_none : List ℕ → Bool
is_none [] = true
is_none (n ∷ ns) = false

-- the worker of which this was heard, with its end, where there was memory for all
abbrev pub with_end : Place → SoFar → SoFar
with_end end r = with_mark false (Says End end false nil_type) r

pub record Ended (heard : Heard) (gives : Shared) (end : Place) (m : HeldMember) : Type 0 where
  pub room : heard.full ≡ false
  pub sayings : (member_held m).sayings ≡ (with_end end (so_far heard)).sayings
  pub returns : (member_held m).returns ≡ (with_end end (so_far heard)).returns
  pub result : (member_held m).result ≡ sem_of gives
