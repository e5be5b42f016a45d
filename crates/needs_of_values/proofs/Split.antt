-- Where a condition is split: what is kept and what is entered is what the condition says.
use Rattle.std.proofs.Common.{◌≡◌, Bool, true, false, not, sym, subst}
use Rattle.flow_narrowing.specs.declared.flow.Flow.{Flow}
use Rattle.check_words.specs.Sharing.{SameChoice, SameFlow, SameWays}
use Rattle.check_words.specs.State.{ChoiceAtWork, Ways}
use Rattle.check_words.specs.Values.{way_of}
use Rattle.check_words.proofs.Same.{same-flow}
use Rattle.check_words.proofs.Handles.{flow-through}

-- the way of the same ways
same-way : (way : Bool) (w x : Ways) → SameWays w x → SameFlow (way_of way w) (way_of way x)
same-way true w x s = s.yes
same-way false w x s = s.no

pub entered-same : (way : Bool) (w x : Ways) (f g : Flow) → SameWays w x → f ≡ way_of way x → SameFlow f g → SameFlow (way_of way w) g
entered-same way w x f g same is copy = flow-through (way_of way w) f g (subst (SameFlow (way_of way w)) (sym is) (same-way way w x same)) copy

pub split-same : (way : Bool) (w x : Ways) (f before other first : Flow) → SameWays w x → other ≡ way_of (not way) x → before ≡ f → SameFlow before first
    → SameChoice (record { before = f; other = way_of (not way) w; first = f }) (record { before = before; other = other; first = first })
split-same way w x f before other first same is kept copy =
    record {
      before = subst (SameFlow f) (sym kept) (same-flow f);
      other = subst (SameFlow (way_of (not way) w)) (sym is) (same-way (not way) w x same);
      first = subst (λ k. SameFlow k first) kept copy;
    }

pub switch-same : (c : ChoiceAtWork) (f first : Flow) → first ≡ f → SameChoice (record c { first = f }) (record c { first = first })
switch-same c f first is = record { before = same-flow c.before; other = same-flow c.other; first = subst (SameFlow f) (sym is) (same-flow f) }
