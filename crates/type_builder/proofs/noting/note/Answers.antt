use Rattle.std.proofs.Common.{refl, ap, cond, length, slice_get, Bool, Option, Some, ◌≡◌, ◌∙◌}
use Rattle.std.proofs.lemmas.Option.{slice_get_read}
use Rattle.descriptors.specs.declared.names.ModuleNames.{ModuleNames}
use Rattle.descriptors.specs.declared.names.Entry.{Entry}
use Rattle.descriptors.specs.declared.names.Meaning.{Meaning}
use Rattle.std.specs.HashMap.{get_by}
use Rattle.type_model.specs.Places.{is_same_text}
use Rattle.type_builder.specs.Listing.{placed_of}
use Rattle.type_builder.proofs.Noted.{one-written}
use Rattle.type_builder.proofs.noting.note.Goals as goal

abbrev written : Meaning → Bool → Option Entry → Bool → Option Entry
written m here before public = cond here (Some (record { public = public; meaning = m })) before

pub returns : goal.returns
returns c =
    let old = c.args.names.now in
    let k = c.args.site.now.«module» in
    let there : slice_get old.modules.items k ≡ Some c.index_mut.result.now = slice_get_read old.modules.items (length old.modules.items) k c.index_mut.result.now refl c.requires c.index_mut.ensures.value in
    let now : ModuleNames = record { entries = c.insert.new.self; files = c.index_mut.result.now.files } in
    one-written (placed_of c.args.site.now) c.args.meaning old _ k c.index_mut.result.now now c.share.result refl refl there c.requires refl refl (c.share.ensures ∙ c.name.ensures)
    (λ name. c.in_ok-insert.ensures.updates.0 name ∙ ap (written c.args.meaning (is_same_text c.share.result name) (get_by (is_same_text name) c.index_mut.result.now.entries)) c.is_public.ensures)
