use Rattle.std.proofs.Common.{Some, sym, subst, ◌∙◌, ap}
use Rattle.type_diagrams.specs.Sets.{set_of, has_text}
use Rattle.type_diagrams.specs.Found.{FindsText}
use Rattle.type_diagrams.proofs.SimpleFound.{head-FindsText}
use Rattle.type_diagrams.proofs.simple.SimpleSet.text.Goals as goal

pub returns-in-Some : goal.returns-in-Some
returns-in-Some c =
    let s = set_of c.args.self.now in
    let found = head-FindsText s c.requires c.deref-2.result.now c.if-self.false (sym c.deref-2.ensures.value) in
    subst (FindsText (has_text s)) (sym c.in-Some.ensures.value ∙ ap Some (sym c.share.ensures)) found
