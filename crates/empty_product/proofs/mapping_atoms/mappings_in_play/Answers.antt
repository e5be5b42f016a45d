use Rattle.std.proofs.Common.{◌+◌, [], take, sym, subst, arith}
use Rattle.type_diagrams.specs.Members.{IsMappingOutOfPlay}
use Rattle.type_diagrams.proofs.AskedDiagrams.{then_all}
use Rattle.empty_product.specs.KeyBases.{AreBases}
use Rattle.empty_product.specs.Play.{AreInPlay}
use Rattle.empty_product.proofs.MappingQuestions.{AreBases-keeps, none-playing, one-by-one}
use Rattle.empty_product.proofs.mapping_atoms.mappings_in_play.Goals as goal

pub loop-atom-init : goal.loop-atom-init
loop-atom-init c = (
  c.key_bases.ensures.extends,
  subst (AreInPlay (IsMappingOutOfPlay c.args.env.now c.args.wanted.now) []) (sym c.new-playing.ensures.items) (none-playing (IsMappingOutOfPlay c.args.env.now c.args.wanted.now)),
  subst (AreBases c.args.env.now c.key_bases.new.dia c.args.wanted.now) (sym c.as_slice-bases.ensures.value) c.in_ok-found.ensures.bases,
)

pub returns-in_err-out-clause-extends : goal.returns-in_err-out-clause-extends
returns-in_err-out-clause-extends c = then_all _ _ _ _ c.loop-atom.invariant.0 c.is_out_of_play.ensures.extends

pub returns-in_err-add_unless-clause-extends : goal.returns-in_err-add_unless-clause-extends
returns-in_err-add_unless-clause-extends c = then_all _ _ _ _ c.loop-atom.invariant.0 c.is_out_of_play.ensures.extends

pub loop-atom-preserved : goal.loop-atom-preserved
loop-atom-preserved c =
    let env = c.args.env.now in
    let wanted = c.args.wanted.now in
    let IsOut = IsMappingOutOfPlay env wanted in (
      then_all _ _ _ _ c.loop-atom.invariant.0 c.is_out_of_play.ensures.extends,
      subst (AreInPlay IsOut (take (c.loop-atom.atom-index + 1) c.args.unwanted.now)) (sym c.in_ok-add_unless.ensures)
          (one-by-one IsOut c.args.unwanted.now c.loop-atom.atom-index (omega arith) c.loop-atom.playing.items c.loop-atom.invariant.1 c.in_ok-out.out c.in_ok-out.ensures.out),
      AreBases-keeps env c.loop-atom.dia c.is_out_of_play.new.dia wanted c.as_slice-bases.result.now c.is_out_of_play.ensures.extends.keeps c.loop-atom.invariant.2,
    )
