use Rattle.std.proofs.Common.{◌≡◌, Some, option_map, sym, ap, subst}
use Rattle.std.specs.Str.{chars}
use Rattle.toml.specs.View.{view}
use Rattle.manifests.specs.Manifests.{name_of}
use Rattle.manifests.proofs.reading.name.Goals as goal

pub returns-in_ok-new-in-None : goal.returns-in_ok-new-in-None
unfolding chars
returns-in_ok-new-in-None c =
    subst (λ o. Some c.in_ok-new-in-None.field-0 ≡ name_of (option_map (λ v. view v.now) o)) (sym c.in-None.is) (ap Some c.in_ok-new-in-None.ensures)
