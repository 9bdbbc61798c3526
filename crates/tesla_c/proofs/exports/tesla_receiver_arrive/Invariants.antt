use Rattle.tesla_c.proofs.exports.tesla_receiver_arrive.Given as goal

abbrev pub ghosts-arrive : goal.ghosts-arrive
ghosts-arrive a = record { name = a.blank.name; parts = a.blank.parts }
