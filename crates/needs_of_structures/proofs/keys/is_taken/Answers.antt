use Rattle.std.proofs.Common.{◌∙◌, ap, map, sym}
use Rattle.std.specs.List.{list_any}
use Rattle.check_words.specs.Constructors.{is_key}
use Rattle.check_work.specs.Views.{constructor_of}
use Rattle.check_work.proofs.Noting.{mapped-last}
use Rattle.needs_of_structures.proofs.keys.is_taken.Goals as goal

pub returns-in-Some : goal.returns-in-Some
returns-in-Some c =
    let last = c.in-Some.ensures in
    (constructor_of c.in-Some.c.now, record { kept = map constructor_of last.kept; is = mapped-last constructor_of c.args.constructors.now last.kept c.in-Some.c.now last.is }, ap (list_any (is_key c.args.key.now)) (sym c.as_slice.ensures.value) ∙ sym c.has_key.ensures)
