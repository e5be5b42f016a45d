use Rattle.type_builder.proofs.main_in_place.asked.Given as goal

abbrev pub ghost-asked_with : goal.ghost-asked_with
ghost-asked_with g a = g.whole
