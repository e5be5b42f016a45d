use Rattle.std.proofs.Common.{◌≡◌, ◌++◌, [], ◌∷◌, subst, sym}
use Rattle.needs_of_members.proofs.updates.boxed_last.Goals as goal

pub returns : goal.returns
returns c = subst (λ part. c.args.found.now.items ≡ c.last_taken.new.items.items ++ part ∷ []) (sym c.in_ok-new.ensures.ok) c.in_ok-part.ensures
