use Rattle.place_checks.proofs.Asking.{found-all}
use Rattle.place_checks.proofs.needs.found_at.Goals as goal

pub returns : goal.returns
returns c =
    found-all _ c.nothing_found-found.result c.place_needs.new.found c.nothing_found-found.ensures.questions c.nothing_found-found.ensures.refused c.place_needs.ensures c.in-false.is
