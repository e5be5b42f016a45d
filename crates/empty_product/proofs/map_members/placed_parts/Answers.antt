use Rattle.std.proofs.Common.{◌<◌, sym, subst}
use Rattle.type_diagrams.specs.Conditions.{LooksAtKinds}
use Rattle.type_diagrams.specs.Tables.{condition}
use Rattle.type_diagrams.proofs.AskedDiagrams.{then_all, then_on}
use Rattle.type_diagrams.proofs.Shapes.{IfOk-map}
use Rattle.type_diagrams.proofs.Tellings.{sound-keeps}
use Rattle.empty_product.specs.Products.{all_askings, places_of}
use Rattle.empty_product.specs.Standing.{TellsStanding}
use Rattle.empty_product.proofs.MappingBodies.{avoid-slots, avoid-unwanted}
use Rattle.empty_product.proofs.MappingPlaced.{are-Looking, slots_long, standing-TellsPlaced}
use Rattle.empty_product.proofs.map_members.placed_parts.Goals as goal

pub returns-in_err-asked-clause-extends : goal.returns-in_err-asked-clause-extends
returns-in_err-asked-clause-extends g c = then_all _ _ _ _ c.slots.ensures.extends c.all_demands.ensures.extends

pub parts_at-requires-clause-slots : goal.parts_at-requires-clause-slots
parts_at-requires-clause-slots g c =
    avoid-slots c.args.context.now.env.now c.args.literals.now.wanted.now c.args.literals.now.marked c.args.keys.now c.args.literals.now.unwanted.now c.slots.new.dia c.all_demands.new.dia c.all_demands.ensures.extends.keeps c.in_ok-places.places.items c.in_ok-asked.asked.items c.in_ok-places.ensures.slots c.in_ok-asked.ensures.demands

pub parts_at-requires-clause-unwanted : goal.parts_at-requires-clause-unwanted
parts_at-requires-clause-unwanted g c =
    avoid-unwanted c.args.context.now.env.now c.args.literals.now.wanted.now c.args.literals.now.marked c.args.keys.now c.args.literals.now.unwanted.now c.slots.new.dia c.all_demands.new.dia c.all_demands.ensures.extends.keeps c.in_ok-places.places.items c.in_ok-asked.asked.items c.in_ok-places.ensures.slots c.in_ok-asked.ensures.demands

pub parts_at-requires-clause-target : goal.parts_at-requires-clause-target
parts_at-requires-clause-target g c =
    let same = slots_long c.args.context.now.env.now c.args.literals.now.wanted.now c.args.literals.now.marked c.args.keys.now c.args.literals.now.unwanted.now c.slots.new.dia c.all_demands.new.dia c.all_demands.ensures.extends.keeps c.in_ok-places.places.items c.in_ok-asked.asked.items c.in_ok-places.ensures.slots c.in_ok-asked.ensures.demands in
    subst (λ n. c.args.target < n) (sym same) c.requires.target

pub returns-clause-extends : goal.returns-clause-extends
returns-clause-extends g c = then_on _ _ _ _ (then_all _ _ _ _ c.slots.ensures.extends c.all_demands.ensures.extends) c.parts_at.ensures.extends

pub returns-clause-looks : goal.returns-clause-looks
returns-clause-looks g c =
    let env = c.args.context.now.env.now in
    let mid = c.all_demands.new.dia in
    let keeps = (then_all _ _ _ _ c.slots.ensures.extends c.all_demands.ensures.extends).keeps in
    let looking = are-Looking env c.args.literals.now.wanted.now c.args.literals.now.marked c.args.keys.now c.args.literals.now.unwanted.now c.slots.new.dia mid c.all_demands.ensures.extends.keeps c.in_ok-places.places.items c.in_ok-asked.asked.items c.in_ok-places.ensures.slots c.in_ok-asked.ensures.demands in
    IfOk-map _ _ (λ p h looks. h env looking (subst (LooksAtKinds env) (sym (keeps.conditions c.args.found c.requires.found)) looks)) c.parts_at.result c.parts_at.ensures.looks

pub returns-clause-tells : goal.returns-clause-tells
returns-clause-tells g c =
    let env = c.args.context.now.env.now in
    let kept = g.M.Member.kept c.args.context.now.m.now in
    let mid = c.all_demands.new.dia in
    let new = c.parts_at.new.dia in
    let keeps = (then_all _ _ _ _ c.slots.ensures.extends c.all_demands.ensures.extends).keeps in
    let ss = c.in_ok-places.places.items in
    let us = c.in_ok-asked.asked.items in
    let sound = sound-keeps env c.args.dia.now mid kept keeps c.requires.sound in
    IfOk-map _ _ (λ p h. standing-TellsPlaced env c.args.literals.now.wanted.now c.args.literals.now.marked c.args.keys.now c.args.literals.now.unwanted.now c.slots.new.dia mid c.all_demands.ensures.extends.keeps ss us c.in_ok-places.ensures.slots c.in_ok-asked.ensures.demands new kept c.args.target (condition c.args.dia.now c.args.found) p
    (subst (λ d. TellsStanding env new kept (places_of mid ss) (all_askings mid us) c.args.target d p) (keeps.conditions c.args.found c.requires.found) (h env sound))) c.parts_at.result c.parts_at.ensures.tells
