use Rattle.type_builder.proofs.main_in_place.asked_with.Given as goal

abbrev pub ghost-question : goal.ghost-question
ghost-question g a = g.whole
