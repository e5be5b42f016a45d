use Rattle.std.proofs.Common.{Some, option_map, subst, sym}
use Rattle.plain_run.specs.Entries.{IsGrown, IsNoted}
use Rattle.plain_run.proofs.Indexed.{grown-noted}
use Rattle.plain_run.proofs.entries.with_key.Goals as goal

pub returns-in_ok-note-in-Some : goal.returns-in_ok-note-in-Some
returns-in_ok-note-in-Some c =
    let noted = subst (λ places. IsNoted places c.args.key.now c.args.at c.note.new.places) c.deref_mut.ensures.value c.in_ok-note-in-Some.ensures in
    subst (λ index. IsGrown (option_map (λ b. b.value) index) c.args.key.now c.args.at (Some c.note.new.places)) (sym c.in-Some.is)
    (grown-noted c.in-Some.places.value c.note.new.places c.args.key.now c.args.at noted)
