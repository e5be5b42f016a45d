-- The events that pairing sees in a tree, and those that are made on the way through it.
use Rattle.std.specs.Prelude.{◌≡◌, ◌++◌, ◌&&◌, Bool, true, false, List, [], ◌∷◌, not, is_some}
use Rattle.typed_tree.specs.declared.event.EventKind.{EventKind}
use Rattle.typed_tree.specs.declared.event.EventKind.TheVariants.{Send, Post, Done, Receive, Flush, Wait, End}
use Rattle.typed_tree.specs.Listed.{Listed, nothing, one, ◌&◌}
use Rattle.worker_pairing.specs.Events.{is_message}
use Rattle.worker_pairing.specs.Marks.{Mark, Says, Early, Returns}
use Rattle.worker_waits.specs.Left.{Shown, Step, Makes}

-- ---- of what is marked

abbrev pub step_in : Mark → List Step
step_in (Says kind at inner type) = Makes kind ∷ []
step_in Early = []
step_in (Returns type at) = []

abbrev pub steps_in : Listed Mark → List Step
steps_in nothing = []
steps_in (one m) = step_in m
steps_in (p & q) = steps_in p ++ steps_in q

-- a test of each event
abbrev pub mark_passes : (EventKind → Bool → Bool) → Mark → Bool
mark_passes is (Says kind at inner type) = is kind inner
mark_passes is Early = true
mark_passes is (Returns type at) = true

abbrev pub marks_pass : (EventKind → Bool → Bool) → Listed Mark → Bool
marks_pass is nothing = true
marks_pass is (one m) = mark_passes is m
marks_pass is (p & q) = marks_pass is p && marks_pass is q

-- it names a worker, if any is to be named
abbrev pub names_one : EventKind → Bool
names_one (Send peer) = is_some peer
names_one (Post peer) = is_some peer
names_one (Done peer) = is_some peer
names_one (Receive peer) = is_some peer
names_one (Flush peer) = is_some peer
names_one (Wait ns) = true
names_one End = true

-- all events name a worker, and none stands in a part that may be left out or done again
abbrev pub all_good : Listed Mark → Bool
all_good = marks_pass (λ kind inner. not inner && names_one kind)

abbrev pub none_said : Listed Mark → Bool
none_said = marks_pass (λ kind inner. false)

abbrev pub no_messages : Listed Mark → Bool
no_messages = marks_pass (λ kind inner. not (is_message kind))

-- ---- what is marked in a part and what the way through it shows

pub record AreShown (ms : Listed Mark) (s : Shown) : Type 0 where
  -- where all events are good the way through makes just these, in this order, and nothing is wrong
  pub made : all_good ms ≡ true → (s.wrong ≡ 0) × ((k : List Step) → s.own k ≡ steps_in ms ++ k)
  pub silent : none_said ms ≡ true → (s.size ≡ 0) × (s.wrong ≡ 0)
  pub calm : no_messages ms ≡ true → s.messages ≡ 0
