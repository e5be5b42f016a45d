use Rattle.std.proofs.Common.{◌≡◌, ◌∙◌, Some, ap, get_or, rules, sym}
use Rattle.plain_run.proofs.KeyPlaces.{entry-no-position, entry-position}
use Rattle.plain_run.proofs.entries.Entries.get.Goals as goal

pub returns-in-Some : goal.returns-in-Some
returns-in-Some c =
    let e = c.index.result.now in
    let is : e ≡ get_or c.args.self.now c.in-Some.i e = search rules in
    ap (λ x. Some x.1) is ∙ sym (entry-position c.args.key.now c.args.self.now c.in-Some.i e (sym c.in-Some.ensures.place))

pub returns-in-None : goal.returns-in-None
returns-in-None c = sym (entry-no-position c.args.key.now c.args.self.now (sym c.in-None.ensures.place))
