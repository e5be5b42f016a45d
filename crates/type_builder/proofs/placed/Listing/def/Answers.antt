use Rattle.std.proofs.Common.{◌≡◌, ◌+◌, length, refl, ap, rules}
use Rattle.std.proofs.lemmas.Result.{on_ok_weaker}
use Rattle.name_resolution.specs.Definitions.{placed}
use Rattle.type_builder.specs.declared.placed.Site.{Site}
use Rattle.type_builder.proofs.Listed.{lists-one}
use Rattle.type_builder.proofs.placed.Listing.def.Goals as goal

pub returns : goal.returns
returns c =
    let site : Site = record { «module» = c.args.«module»; file = c.args.file; first = c.args.self.now.first + c.len.result; def = c.args.def } in
    let at = placed c.args.«module» c.args.file c.args.def.now in
    let counted : c.len.result ≡ length c.args.self.now.places.items = search rules in
    on_ok_weaker c.def_places.result
    (λ places. lists-one at c.args.self.now _ site refl c.in_ok-push.ensures.items (ap (λ n. (at, c.args.self.now.first + n)) counted) places) c.def_places.ensures
